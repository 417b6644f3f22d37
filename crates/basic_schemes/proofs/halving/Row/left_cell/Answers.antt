use Rattle.std.proofs.Common.{refl, arith}
use Rattle.std.proofs.lemmas.Option.{slice_get_read}
use Rattle.basic_schemes.proofs.HalvingCells.{left_one, left_more}
use Rattle.basic_schemes.proofs.halving.Row.left_cell.Goals as goal

pub returns-then-next-end : goal.returns-then-next-end
returns-then-next-end g c next =
    let t = c.args.table.now in
    left_one g.T.Semigroup.op c.args.self.events.count c.args.self.halves.e t c.args.p _ (omega arith) c.requires.event.1 (omega arith)
    (slice_get_read t _ c.args.p _ refl (omega arith) c.index-table-p.is)

pub returns : goal.returns
returns g c next =
    let t = c.args.table.now in
    simp c.combine.ensures.combined
    (left_more g.T.Semigroup.op c.args.self.events.count c.args.self.halves.e t g.met.T.Semigroup.associative c.args.p c.cell_of.result _ _ (omega arith) c.requires.event.1 (λ e. omega arith)
    (slice_get_read t _ c.args.p _ refl (omega arith) c.index-table-p.is) (omega arith) (slice_get_read t _ c.cell_of.result _ refl (omega arith) c.index-table-cell_of.is) next)
