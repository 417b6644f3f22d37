use Rattle.basic_schemes.proofs.HalvingFills.{Rows}
use Rattle.basic_schemes.proofs.halving.HalvingScheme.fill.Given as goal

-- the rows below h are computed
abbrev pub invariant-loop-h : goal.invariant-loop-h
invariant-loop-h g l = Rows g.T.Semigroup.op l.events.count l.h l.initial.table l.table
