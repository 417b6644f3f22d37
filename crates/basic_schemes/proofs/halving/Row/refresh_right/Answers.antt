use Rattle.std.proofs.Common.{◌≡◌, ◌+◌, arith}
use Rattle.basic_schemes.specs.HalvingRows.{Right, Redone, PriorHolds}
use Rattle.basic_schemes.proofs.HalvingCells.{right_step, redone_skip, grown_up}
use Rattle.basic_schemes.proofs.halving.Row.refresh_right.Goals as goal

pub loop-p-preserved-then-not-is_left : goal.loop-p-preserved-then-not-is_left
loop-p-preserved-then-not-is_left g c =
    let op = g.T.Semigroup.op in
    let n = c.args.self.events.count in
    let h = c.args.self.halves.e in
    let p = c.in-Some.p in
    let t = c.args.table.now in
    let start = c.args.range.start in
    let step = c.in-Some.ensures.steps in
    let next : c.next.new.self.start ≡ p + 1 = omega arith in
    let done : Redone op Right n h start p (PriorHolds op n h start t) t c.loop-p.table = rw step.1.1 c.loop-p.invariant.redone in
    record {
      after = omega arith;
      before = omega arith;
      ends = omega arith;
      redone = rw (next, c.cell_of.ensures) (right_step op n h t c.loop-p.table start p c.requires.row.past
          c.right_cell-made.result (omega arith) (omega arith) (omega arith) (c.is_left.ensures.right c.if-not-is_left.true) c.right_cell-made.ensures done);
    }

pub loop-p-preserved : goal.loop-p-preserved
loop-p-preserved g c =
    let op = g.T.Semigroup.op in
    let n = c.args.self.events.count in
    let h = c.args.self.halves.e in
    let p = c.in-Some.p in
    let t = c.args.table.now in
    let start = c.args.range.start in
    let step = c.in-Some.ensures.steps in
    let next : c.next.new.self.start ≡ p + 1 = omega arith in
    let left = c.is_left.ensures.left c.if-not-is_left.false in
    let done : Redone op Right n h start p (PriorHolds op n h start t) t c.loop-p.table = rw step.1.1 c.loop-p.invariant.redone in
    record {
      after = omega arith;
      before = omega arith;
      ends = omega arith;
      redone = rw next (redone_skip op Right n h (PriorHolds op n h start t) t c.loop-p.table start p _ _ _ (grown_up start p (omega arith)) (λ r. omega arith) done);
    }

pub returns : goal.returns
returns g c =
    let left = c.in-None.ensures.steps in
    let e : c.loop-p.p-iterator.start ≡ c.args.range.end = omega arith in
    rw e at c.loop-p.invariant.redone
