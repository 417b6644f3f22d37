use Rattle.basic_schemes.proofs.HalvingUpdates.{Renewing}
use Rattle.basic_schemes.proofs.halving.HalvingScheme.update.Given as goal

-- the rows below h are in step with the new item
abbrev pub invariant-loop-h : goal.invariant-loop-h
invariant-loop-h g l = Renewing g.T.Semigroup.op l.events.count l.p l.h l.initial.table l.table
