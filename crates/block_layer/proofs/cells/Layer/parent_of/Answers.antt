use Rattle.std.proofs.Common.{◌≡◌, ◌*◌, ◌/◌, ◌^◌, ap, ◌∙◌, arith}
use lib.Pow.{shr_mono}
use Rattle.std.proofs.lemmas.Nat.{pow_pos}
use Rattle.layer_parts.specs.Parts.{count_of_children, inner_table, parent_count}
use Rattle.layer_parts.proofs.Blocks.{parent_counted}
use Rattle.layer_parts.proofs.Laying.{laid_room}
use Rattle.block_layer.proofs.Sizes.{exponents, whole_exact, kids_of}
use Rattle.block_layer.proofs.cells.Layer.parent_of.Goals as goal

pub invariant_of-result : goal.invariant_of-result
invariant_of-result g c = record {
  kids = kids_of _ _ _ _ _ _ (exponents c.args.self.now.events c.args.placed.step) c.requires.event c.start.ensures.value c.child_count.ensures;
}

pub returns-clause-parent : goal.returns-clause-parent
returns-clause-parent g c =
    let plan = g.S.Scheme.plan c.args.self.now.inner.now in
    let n = c.args.self.now.events.count in
    let e = c.args.placed.step.parents.e in
    let f = c.args.placed.step.children.e in
    let k = c.args.p.0 / 2 ^ e in
    let exact = whole_exact plan n e f (exponents c.args.self.now.events c.args.placed.step) k k c.whole_cells.result (omega arith) (shr_mono e (omega arith)) (omega arith) c.whole_cells.ensures.value in
    let room = laid_room (inner_table plan.part n (2 ^ e) (2 ^ f)) k (parent_count n (2 ^ e)) (parent_counted n (2 ^ e) c.args.p.0 (pow_pos e) c.requires.event) in
    let counted : c.child_count.result.count ≡ count_of_children n (k * 2 ^ e) (2 ^ e) (2 ^ f) = c.child_count.ensures ∙ ap (λ s. count_of_children n s (2 ^ e) (2 ^ f)) c.start.ensures.value in
    let size = ap (λ m. (plan.part m).size) counted in
    record {
      begins = c.start.ensures.value;
      counted = counted;
      placed = simp c.from.ensures (omega arith);
      past = simp c.from.ensures (omega arith);
      within = simp c.from.ensures (omega arith);
    }
