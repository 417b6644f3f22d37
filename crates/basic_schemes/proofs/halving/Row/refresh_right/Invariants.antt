use Rattle.std.proofs.Common.{◌≡◌, ◌≤◌}
use Rattle.basic_schemes.specs.HalvingRows.{Right, Redone, PriorHolds}
use Rattle.basic_schemes.proofs.halving.Row.refresh_right.Given as goal

-- the cells before the next event are computed
abbrev pub invariant-loop-p : goal.invariant-loop-p
invariant-loop-p g l = let op = g.T.Semigroup.op in let n = l.self.events.count in let h = l.self.halves.e in record {
  after : l.fn.range.start ≤ l.p-iterator.start;
  before : l.p-iterator.start ≤ l.p-iterator.end;
  ends : l.p-iterator.end ≡ l.fn.range.end;
  redone : Redone op Right n h l.fn.range.start l.p-iterator.start (PriorHolds op n h l.fn.range.start l.initial.table) l.initial.table l.table;
}
