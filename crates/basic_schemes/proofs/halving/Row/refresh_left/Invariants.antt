use Rattle.std.proofs.Common.{◌≡◌, ◌≤◌}
use Rattle.basic_schemes.specs.HalvingRows.{Left, Redone, NextHolds}
use Rattle.basic_schemes.proofs.halving.Row.refresh_left.Given as goal

-- the cells after the next event are computed
abbrev pub invariant-loop-p : goal.invariant-loop-p
invariant-loop-p g l = let op = g.T.Semigroup.op in let n = l.self.events.count in let h = l.self.halves.e in record {
  starts : l.p-iterator.iter.start ≡ l.fn.range.start;
  after : l.p-iterator.iter.start ≤ l.p-iterator.iter.end;
  before : l.p-iterator.iter.end ≤ l.fn.range.end;
  redone : Redone op Left n h l.p-iterator.iter.end l.fn.range.end (NextHolds op n h l.fn.range.end l.initial.table) l.initial.table l.table;
}
