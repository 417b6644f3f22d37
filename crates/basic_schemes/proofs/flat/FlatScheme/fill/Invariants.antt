use Rattle.basic_schemes.proofs.FlatFills.{Rows}
use Rattle.basic_schemes.proofs.flat.FlatScheme.fill.Given as goal

-- the rows below `gap` are computed
abbrev pub invariant-loop-gap : goal.invariant-loop-gap
invariant-loop-gap g l = Rows g.T.Semigroup.op l.events.count l.gap l.initial.table l.table
