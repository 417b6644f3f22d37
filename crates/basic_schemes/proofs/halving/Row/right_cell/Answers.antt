use Rattle.std.proofs.Common.{refl, arith}
use Rattle.std.proofs.lemmas.Option.{slice_get_read}
use Rattle.basic_schemes.proofs.HalvingCells.{right_one, right_more}
use Rattle.basic_schemes.proofs.halving.Row.right_cell.Goals as goal

pub returns-then-p-start : goal.returns-then-p-start
returns-then-p-start g c prior =
    let t = c.args.table.now in
    right_one g.T.Semigroup.op c.args.self.events.count c.args.self.halves.e t c.args.p _ (omega arith) c.requires.event.1 (omega arith)
    (slice_get_read t _ c.args.p _ refl (omega arith) c.index-table-p.is)

pub returns : goal.returns
returns g c prior =
    let t = c.args.table.now in
    simp c.combine.ensures.combined
    (right_more g.T.Semigroup.op c.args.self.events.count c.args.self.halves.e t g.met.T.Semigroup.associative c.args.p c.cell_of.result _ _ (omega arith) c.requires.event.1 (λ e. omega arith)
    (slice_get_read t _ c.args.p _ refl (omega arith) c.index-table-p.is) (omega arith) (slice_get_read t _ c.cell_of.result _ refl (omega arith) c.index-table-cell_of.is) prior)
