use Rattle.std.proofs.Common.{rules}
use Rattle.known_cases.proofs.Cases.{known_cases_hold}
use Rattle.known_cases.proofs.worked_example.Goals as goal

pub returns : goal.returns
returns c = record { cells = search rules; cases = known_cases_hold }
