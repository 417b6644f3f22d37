use Rattle.std.proofs.Common.{sym, refl, ◌∙◌, arith}
use Rattle.std.proofs.lemmas.Nat.{pow_pos}
use Rattle.std.proofs.lemmas.Option.{slice_get_read}
use Rattle.layer_parts.proofs.Rows.{suffix_last, suffix_next}
use Rattle.block_layer.proofs.rows.Row.suffix_cell.Goals as goal

pub returns-then-end-p : goal.returns-then-end-p
returns-then-end-p g c ready =
    suffix_last g.T.Semigroup.op g.met.T.Semigroup.associative c.args.self.events.count _ c.args.self.at (pow_pos c.args.self.block.e) c.args.table.now c.args.p _ (omega arith)
    (slice_get_read c.args.table.now _ _ _ refl (omega arith) c.index-table-p.is) (sym c.end.ensures.value ∙ c.if-end-p.true)

pub returns : goal.returns
returns g c ready = simp c.combine.ensures.combined
    (suffix_next g.T.Semigroup.op g.met.T.Semigroup.associative c.args.self.events.count _ c.args.self.at (pow_pos c.args.self.block.e) c.args.table.now c.args.p _ _ (omega arith)
    (slice_get_read c.args.table.now _ _ _ refl (omega arith) c.index-table-p.is) (slice_get_read c.args.table.now _ _ _ refl (omega arith) c.index-table-self.is)
    (λ last. c.if-end-p.false (c.end.ensures.value ∙ last)) ready)
