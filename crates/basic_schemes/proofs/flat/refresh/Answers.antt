use Rattle.std.proofs.Common.{◌≡◌, ◌+◌, refl, arith}
use Rattle.std.proofs.lemmas.Option.{slice_get_read}
use Rattle.basic_schemes.specs.FlatRows.{Redone}
use Rattle.basic_schemes.specs.FlatLayout.{cells_enough}
use Rattle.basic_schemes.proofs.FlatFills.{redone_more}
use Rattle.basic_schemes.proofs.flat.refresh.Goals as goal

pub loop-first-preserved : goal.loop-first-preserved
loop-first-preserved g c =
    let op = g.T.Semigroup.op in
    let t = c.loop-first.table in
    let n = c.args.events.count in
    let first = c.in-Some.first in
    let gap = c.args.gap in
    let room = cells_enough n in
    let step = c.in-Some.ensures.steps in
    let next : c.next.new.self.start ≡ first + 1 = omega arith in
    let before : Redone op n gap c.args.firsts.start first c.args.table.now t = rw step.1.1 c.loop-first.invariant.redone in
    let shorter = c.cell_of.ensures.place in
    let place = c.cell_of-in-loop-first.ensures.place in
    let was = slice_get_read t _ c.cell_of.result _ refl (omega arith) c.index-table-cell_of.is in
    record {
      after = omega arith;
      before = omega arith;
      ends = omega arith;
      redone = rw next (redone_more op n g.met.T.Semigroup.associative gap c.args.firsts.start first _ c.args.table.now t c.index-table-last.result c.index-table-cell_of.result _
          (omega arith) (omega arith) (omega arith) (omega arith)
          (rw shorter at was)
          (slice_get_read t _ (first + gap) _ refl (omega arith) c.index-table-last.is) before place c.combine-made.ensures.combined);
    }

pub returns : goal.returns
returns g c =
    let left = c.in-None.ensures.steps in
    let e : c.loop-first.first-iterator.start ≡ c.args.firsts.end = omega arith in
    record { redone = rw e at c.loop-first.invariant.redone }
