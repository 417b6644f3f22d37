use Rattle.std.proofs.Common.{length, sym, refl, arith}
use Rattle.std.proofs.lemmas.Option.{slice_get_read}
use Rattle.std.proofs.lemmas.Bool.{eqb-true, eqb-false}
use Rattle.basic_schemes.specs.HalvingLayout.{cells_enough}
use Rattle.basic_schemes.proofs.HalvingQueries.{room_one, room_two, drawn_item, drawn_ends}
use Rattle.basic_schemes.proofs.halving.HalvingScheme.query.Goals as goal

pub returns-then-eq : goal.returns-then-eq
returns-then-eq g c =
    let run = c.args.run in
    let t = c.args.table.now in
    let trace = c.args.trace.now in
    let n = run.events.count in
    let same = eqb-true _ _ (sym c.if-eq.ensures) in
    let one = room_one n run.first.0 run.last.0 (length trace) same c.requires.trace in
    record {
      drawn = drawn_item g.T.Semigroup.op n run.first.0 run.last.0 t trace _ c.index-table-run.result
          (omega arith) same one (slice_get_read t _ _ _ refl (omega (arith, cells_enough n)) c.index-table-run.is) (omega arith);
    }

pub returns : goal.returns
returns g c =
    let run = c.args.run in
    let t = c.args.table.now in
    let trace = c.args.trace.now in
    let n = run.events.count in
    let apart = eqb-false _ _ (sym c.if-eq.ensures) in
    let two = room_two n run.first.0 run.last.0 (length trace) apart c.requires.trace in
    record {
      drawn = simp c.combine-value.ensures.combined (drawn_ends g.T.Semigroup.op n run.first.0 run.last.0 t trace _ _ c.index-table-first.result c.index-table-second.result
          apart two (slice_get_read t _ _ _ refl (omega arith) c.index-table-first.is) (slice_get_read t _ _ _ refl (omega arith) c.index-table-second.is) c.end_pieces.ensures.left c.end_pieces.ensures.right);
    }
