use Rattle.std.proofs.Common.{◌+◌, ◌^◌, take, sym, ap, ◌∙◌, arith}
use Rattle.semigroup.proofs.Places.{take_same}
use Rattle.scheme.proofs.Writes.{holds_kept}
use Rattle.layer_parts.specs.Parts.{suffixes}
use Rattle.layer_parts.proofs.Filling.{inner_turn}
use Rattle.block_layer.proofs.Sizes.{exponents, whole_parent}
use Rattle.block_layer.proofs.cells.Layer.fill_whole_inners.Goals as goal

pub invariant_of-parent : goal.invariant_of-parent
invariant_of-parent g c =
    let whole = whole_parent (g.S.Scheme.plan c.args.self.now.inner.now) c.args.self.now.events.count _ _ c.loop-k.k _ (exponents c.args.self.now.events c.args.placed.step) (omega arith) (omega arith) c.whole_cells-cells.ensures.value in
    record { kids = simp (c.events_of.ensures, c.whole_count.ensures) whole.kids }

pub fill-requires-clause-cells : goal.fill-requires-clause-cells
fill-requires-clause-cells g c =
    let plan = g.S.Scheme.plan c.args.self.now.inner.now in
    let whole = whole_parent plan c.args.self.now.events.count _ _ c.loop-k.k _ (exponents c.args.self.now.events c.args.placed.step) (omega arith) (omega arith) c.whole_cells-cells.ensures.value in
    (whole.size ∙ ap (λ m. (plan.part m).size) (sym c.whole_count.ensures), omega arith)

pub fill-requires-clause-place : goal.fill-requires-clause-place
fill-requires-clause-place g c =
    let whole = whole_parent (g.S.Scheme.plan c.args.self.now.inner.now) c.args.self.now.events.count _ _ c.loop-k.k _ (exponents c.args.self.now.events c.args.placed.step) (omega arith) (omega arith) c.whole_cells-cells.ensures.value in
    (omega arith, (omega arith, omega arith))

pub fill-requires-clause-suffixes : goal.fill-requires-clause-suffixes
fill-requires-clause-suffixes g c =
    let n = c.args.self.now.events.count in
    holds_kept _ n (suffixes n (2 ^ c.args.placed.step.children.e)) (c.args.placed.at + n) (c.args.placed.at + n + n) c.args.table.now c.loop-k.table c.requires.suffixes c.loop-k.invariant.below (omega arith) (omega arith)

pub loop-k-preserved : goal.loop-k-preserved
loop-k-preserved g c =
    let plan = g.S.Scheme.plan c.args.self.now.inner.now in
    let n = c.args.self.now.events.count in
    let e = c.args.placed.step.parents.e in
    let f = c.args.placed.step.children.e in
    let whole = whole_parent plan n e f c.loop-k.k _ (exponents c.args.self.now.events c.args.placed.step) (omega arith) (omega arith) c.whole_cells-cells.ensures.value in
    inner_turn g.T.Semigroup.op plan.part n (2 ^ e) (2 ^ f) c.loop-k.k _ (c.args.placed.at + n + n) _ _ (take n c.args.table.now) (take n c.loop-k.table) c.args.table.now c.loop-k.table _
    (c.whole_count.ensures ∙ sym whole.counted) (omega arith) c.events_of.ensures
    (take_same n c.loop-k.table c.args.table.now (λ i l. c.loop-k.invariant.below i (omega arith))) c.loop-k.invariant c.fill.ensures
