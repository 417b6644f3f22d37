use Rattle.session.proofs.Once.{refuses}
use Rattle.session.proofs.Decided.{told}
use Rattle.session.proofs.file.opening.open.Goals as goal

pub returns-clause-refused : goal.returns-clause-refused
returns-clause-refused c = refuses _ c.checked.result c.checked.ensures.first

pub returns-clause-numbered : goal.returns-clause-numbered
returns-clause-numbered c = told _ c.checked.result c.checked.ensures.first
