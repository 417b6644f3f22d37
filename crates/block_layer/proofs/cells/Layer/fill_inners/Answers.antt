use Rattle.std.proofs.Common.{◌≡◌, ◌+◌, ◌*◌, ◌/◌, ◌^◌, take, sym, ◌∙◌, arith}
use Rattle.semigroup.proofs.Places.{take_same}
use Rattle.scheme.proofs.Writes.{holds_kept}
use Rattle.layer_parts.specs.Parts.{suffixes}
use Rattle.layer_parts.proofs.Counting.{parents_even, parents_cut, last_parent}
use Rattle.layer_parts.proofs.Filling.{inner_turn}
use Rattle.block_layer.proofs.Sizes.{widths, exponents}
use Rattle.block_layer.proofs.cells.Layer.fill_inners.Goals as goal

pub returns-then-start-n : goal.returns-then-start-n
returns-then-start-n g c =
    let n = c.args.self.now.events.count in
    let step = c.args.placed.step in
    let all = parents_even (g.S.Scheme.plan c.args.self.now.inner.now).part n (2 ^ step.parents.e) (2 ^ step.children.e) (widths _ _ _ (exponents c.args.self.now.events step)) (sym c.start.ensures.value ∙ c.if-start-n.true) in
    rw all c.fill_whole_inners.ensures

pub fill-requires-clause-suffixes : goal.fill-requires-clause-suffixes
fill-requires-clause-suffixes g c =
    let n = c.args.self.now.events.count in
    simp (c.parent_of-parent.ensures.children.0, c.parent_of-parent.ensures.children.1)
    (holds_kept _ n (suffixes n (2 ^ c.args.placed.step.children.e)) (c.args.placed.at + n) (c.args.placed.at + n + n) c.args.table.now c.fill_whole_inners.new.table c.requires.suffixes c.fill_whole_inners.ensures.below (omega arith) (omega arith))

-- the last parent is cut: it is that of the last event
pub returns : goal.returns
returns g c =
    let plan = g.S.Scheme.plan c.args.self.now.inner.now in
    let n = c.args.self.now.events.count in
    let at = c.args.placed.at in
    let wide = 2 ^ c.args.placed.step.parents.e in
    let w = 2 ^ c.args.placed.step.children.e in
    let t = c.fill_whole_inners.new.table in
    let ws = widths _ _ _ (exponents c.args.self.now.events c.args.placed.step) in
    let cut : n / wide * wide ≡ n → ⊥ = λ even. c.if-start-n.false (c.start.ensures.value ∙ even) in
    let last = last_parent plan.part n wide w ws cut in
    let parent = c.parent_of-parent.ensures.parent in
    rw (parents_cut plan.part n wide w ws cut)
    (inner_turn g.T.Semigroup.op plan.part n wide w (n / wide) _ (at + n + n) _ _ (take n c.args.table.now) (take n t) c.args.table.now t _
    (rw last at parent.counted) (rw last at parent.placed) (rw last at parent.begins) (take_same n t c.args.table.now (λ i l. c.fill_whole_inners.ensures.below i (omega arith))) c.fill_whole_inners.ensures (rw (c.parent_of-parent.ensures.children.0, c.parent_of-parent.ensures.children.1) at c.fill.ensures))
