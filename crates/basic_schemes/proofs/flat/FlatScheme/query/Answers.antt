use Rattle.std.proofs.Common.{refl, arith}
use Rattle.std.proofs.lemmas.Option.{slice_get_read}
use Rattle.basic_schemes.proofs.FlatQueries.{flat_drawn}
use Rattle.basic_schemes.proofs.flat.FlatScheme.query.Goals as goal

pub returns : goal.returns
returns g c =
    let t = c.args.table.now in
    record {
      drawn = flat_drawn g.T.Semigroup.op c.args.run.events.count c.args.run.first.0 c.args.run.last.0 _ _ t c.args.trace.now c.index-table-cell.result
          (omega arith) (omega arith) (omega arith) (slice_get_read t _ _ _ refl (omega arith) c.index-table-cell.is) c.cell_of-cell.ensures.place refl;
    }
