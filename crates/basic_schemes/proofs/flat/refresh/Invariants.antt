use Rattle.std.proofs.Common.{◌≡◌, ◌≤◌}
use Rattle.basic_schemes.specs.FlatRows.{Redone}
use Rattle.basic_schemes.proofs.flat.refresh.Given as goal

-- the cells up to the next first event are computed
abbrev pub invariant-loop-first : goal.invariant-loop-first
invariant-loop-first g l = record {
  after : l.fn.firsts.start ≤ l.first-iterator.start;
  before : l.first-iterator.start ≤ l.first-iterator.end;
  ends : l.first-iterator.end ≡ l.fn.firsts.end;
  redone : Redone g.T.Semigroup.op l.events.count l.gap l.fn.firsts.start l.first-iterator.start l.initial.table l.table;
}
