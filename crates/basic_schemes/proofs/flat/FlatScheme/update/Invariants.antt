use Rattle.basic_schemes.proofs.FlatUpdates.{Renewing}
use Rattle.basic_schemes.proofs.flat.FlatScheme.update.Given as goal

-- the rows below `gap` are in step with the new item
abbrev pub invariant-loop-gap : goal.invariant-loop-gap
invariant-loop-gap g l = Renewing g.T.Semigroup.op l.events.count l.p l.gap l.initial.table l.table
