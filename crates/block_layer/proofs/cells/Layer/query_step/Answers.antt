use Rattle.std.proofs.Common.{◌+◌, ◌^◌, length, sym, refl, ap, ◌∙◌, arith, rules}
use Rattle.std.proofs.lemmas.Option.{slice_get_read}
use Rattle.layer_parts.specs.Layout.{layer_part}
use Rattle.layer_parts.proofs.Drawing.{length_moved}
use Rattle.block_layer.proofs.Betweens.{between_none, between_is, pieces_few}
use Rattle.block_layer.proofs.Answering.{inner_lifted, two_drawn, three_drawn}
use Rattle.block_layer.proofs.cells.Layer.query_step.Goals as goal

pub returns-in_default : goal.returns-in_default
returns-in_default g c =
    let plan = g.S.Scheme.plan c.args.self.now.inner.now in
    let n = c.args.self.now.events.count in
    let wide = 2 ^ c.args.placed.step.parents.e in
    let w = 2 ^ c.args.placed.step.children.e in
    let i = c.args.i.0 in
    let j = c.args.j.0 in
    let t = c.args.table.now in
    let left = ap (λ p. p.cell.0) c.end_pieces.ensures.left in
    let right = ap (λ p. p.cell.0) c.end_pieces.ensures.right in
    simp c.combine.ensures.combined
    (two_drawn plan n wide w c.args.placed.at i j (layer_part plan n) c.requires.placed c.requires.apart g.T.Semigroup.op g.met.T.Semigroup.associative t c.args.trace.now _ _ _ _
    c.index-table-first_piece.result c.index-table-last_piece.result c.requires.trace c.end_pieces.ensures.left c.end_pieces.ensures.right left right
    (slice_get_read t (length t) _ _ refl (omega arith) c.index-table-first_piece.is) (slice_get_read t (length t) _ _ refl (omega arith) c.index-table-last_piece.is) _
    (between_none plan n wide w i j c.in_default.ensures.run) refl)

pub query-middle-requires-clause-place : goal.query-middle-requires-clause-place
query-middle-requires-clause-place g c =
    let plan = g.S.Scheme.plan c.args.self.now.inner.now in
    let n = c.args.self.now.events.count in
    let parent = c.parent_of-parent.ensures.parent in
    let of = c.parent_of-parent.ensures.children in
    (omega arith, (omega arith, rw (of.0, of.1) (inner_lifted plan n (2 ^ c.args.placed.step.parents.e) (2 ^ c.args.placed.step.children.e) c.args.placed.at c.args.i.0 c.args.j.0 (layer_part plan n) c.requires.placed c.requires.apart _ _ _ parent.placed parent.begins parent.counted)))

pub overflow_add-combinations : goal.overflow_add-combinations
overflow_add-combinations g c =
    let plan = g.S.Scheme.plan c.args.self.now.inner.now in
    let run = c.in-Some.run' in
    let few = pieces_few plan (g.met.S.Scheme.sound c.args.self.now.inner.now) run in
    let same = ap (λ m. length (plan.pieces m run.first.0 (run.last.0 + 1))) (c.parent_of-parent.ensures.parent.counted ∙ sym c.in-Some.ensures.run.children) in
    let l = length_moved c.parent_of-parent.result.at (plan.pieces c.parent_of-parent.result.children.count run.first.0 (run.last.0 + 1)) in
    search rules

pub returns : goal.returns
returns g c =
    let plan = g.S.Scheme.plan c.args.self.now.inner.now in
    let n = c.args.self.now.events.count in
    let e = c.args.placed.step.parents.e in
    let f = c.args.placed.step.children.e in
    let i = c.args.i.0 in
    let j = c.args.j.0 in
    let t = c.args.table.now in
    let run = c.in-Some.run' in
    let b = c.in-Some.ensures.run in
    let left = ap (λ p. p.cell.0) c.end_pieces.ensures.left in
    let right = ap (λ p. p.cell.0) c.end_pieces.ensures.right in
    let parent = c.parent_of-parent.ensures.parent in
    let of = c.parent_of-parent.ensures.children in
    let is = between_is plan n e f i j run b ∙ ap (λ m. plan.pieces m run.first.0 (run.last.0 + 1)) (b.children ∙ sym parent.counted) in
    simp (c.combine-value.ensures.combined, c.combine-2.ensures.combined)
    (three_drawn plan n (2 ^ e) (2 ^ f) c.args.placed.at i j (layer_part plan n) c.requires.placed c.requires.apart g.T.Semigroup.op g.met.T.Semigroup.associative t c.args.trace.now _ _ _ _
    c.index-table-first_piece.result c.index-table-last_piece.result c.requires.trace c.end_pieces.ensures.left c.end_pieces.ensures.right left right
    (slice_get_read t (length t) _ _ refl (omega arith) c.index-table-first_piece.is) (slice_get_read t (length t) _ _ refl (omega arith) c.index-table-last_piece.is)
    _ c.parent_of-parent.result.at _ _ _ c.query-middle.new.trace c.query-middle.result is parent.placed refl (rw of.0 at c.query-middle.ensures) c.query-middle.auto.trace refl refl)
