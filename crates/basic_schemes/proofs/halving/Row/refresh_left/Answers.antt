use Rattle.std.proofs.Common.{◌≡◌, arith}
use Rattle.basic_schemes.specs.HalvingRows.{Left, NextHolds}
use Rattle.basic_schemes.proofs.HalvingCells.{left_step, redone_skip, grown_down}
use Rattle.basic_schemes.proofs.halving.Row.refresh_left.Goals as goal

pub loop-p-preserved-then-is_left : goal.loop-p-preserved-then-is_left
loop-p-preserved-then-is_left g c =
    let p = c.in-Some.p in
    let step = c.in-Some.ensures.steps in
    let last : c.next.new.self.iter.end ≡ p = omega arith in
    record {
      starts = omega arith;
      after = omega arith;
      before = omega arith;
      redone = rw (last, c.cell_of.ensures) (left_step g.T.Semigroup.op c.args.self.events.count c.args.self.halves.e c.args.table.now c.loop-p.table c.loop-p.p-iterator.iter.end c.args.range.end c.requires.row.past
          p c.left_cell-made.result (omega arith) (omega arith) (omega arith) (omega arith) (c.is_left.ensures.left c.if-is_left.true) c.left_cell-made.ensures c.loop-p.invariant.redone);
    }

pub loop-p-preserved : goal.loop-p-preserved
loop-p-preserved g c =
    let n = c.args.self.events.count in
    let h = c.args.self.halves.e in
    let p = c.in-Some.p in
    let end = c.args.range.end in
    let next = c.loop-p.p-iterator.iter.end in
    let right = c.is_left.ensures.right c.if-is_left.false in
    let step = c.in-Some.ensures.steps in
    let last : c.next.new.self.iter.end ≡ p = omega arith in
    record {
      starts = omega arith;
      after = omega arith;
      before = omega arith;
      redone = rw last (redone_skip g.T.Semigroup.op Left n h (NextHolds g.T.Semigroup.op n h end c.args.table.now) c.args.table.now c.loop-p.table next end p p end
          (grown_down next end p (omega arith) (omega arith)) (λ l. omega arith) c.loop-p.invariant.redone);
    }

pub returns : goal.returns
returns g c =
    let left = c.in-None.ensures.steps in
    let e : c.loop-p.p-iterator.iter.end ≡ c.args.range.start = omega arith in
    rw e at c.loop-p.invariant.redone
