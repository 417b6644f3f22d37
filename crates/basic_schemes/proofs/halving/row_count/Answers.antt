use Rattle.std.proofs.Common.{arith}
use Rattle.basic_schemes.specs.HalvingLayout.{rows_few}
use Rattle.basic_schemes.proofs.halving.row_count.Goals as goal

pub returns-clause-few : goal.returns-clause-few
returns-clause-few c = let few = rows_few c.args.events.count (omega arith) (omega arith) in omega arith
