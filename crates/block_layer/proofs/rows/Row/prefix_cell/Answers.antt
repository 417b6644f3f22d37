use Rattle.std.proofs.Common.{sym, refl, ◌∙◌, arith}
use Rattle.std.proofs.lemmas.Nat.{pow_pos}
use Rattle.std.proofs.lemmas.Option.{slice_get_read}
use Rattle.layer_parts.proofs.Rows.{prefix_first, prefix_next}
use Rattle.block_layer.proofs.rows.Row.prefix_cell.Goals as goal

pub returns-then-start-p : goal.returns-then-start-p
returns-then-start-p g c ready =
    prefix_first g.T.Semigroup.op g.met.T.Semigroup.associative c.args.self.events.count _ c.args.self.at (pow_pos c.args.self.block.e) c.args.table.now c.args.p _ (omega arith)
    (slice_get_read c.args.table.now _ _ _ refl (omega arith) c.index-table-p.is) (sym c.start.ensures.value ∙ c.if-start-p.true)

pub returns : goal.returns
returns g c ready = simp c.combine.ensures.combined
    (prefix_next g.T.Semigroup.op g.met.T.Semigroup.associative c.args.self.events.count _ c.args.self.at (pow_pos c.args.self.block.e) c.args.table.now c.args.p _ _ (omega arith)
    (slice_get_read c.args.table.now _ _ _ refl (omega arith) c.index-table-p.is) (slice_get_read c.args.table.now _ _ _ refl (omega arith) c.index-table-self.is)
    (λ first. c.if-start-p.false (c.start.ensures.value ∙ first)) ready)
