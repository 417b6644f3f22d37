use Rattle.std.proofs.Common.{arith, rules}
use Rattle.listing.proofs.Times.{time_is}
use Rattle.listing.proofs.part.TimeOfDayDisplay.fmt.Goals as goal

pub returns-clause-writes : goal.returns-clause-writes
returns-clause-writes g c = rw (← (time_is c.args.self.now.millis (omega arith))) (search rules)
