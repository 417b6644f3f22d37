use Rattle.std.proofs.Common.{◌≡◌, ◌*◌, ◌/◌, ◌^◌, sym, ap, ◌∙◌}
use Rattle.scheme.specs.Calls.{capped}
use Rattle.layer_parts.specs.Parts.{count_of_children}
use Rattle.block_layer.proofs.Sizes.{exponents, even_counted, cut_counted}
use Rattle.block_layer.proofs.cells.Layer.step_cells.Goals as goal

pub returns-then-start-n-clause-counted : goal.returns-then-start-n-clause-counted
returns-then-start-n-clause-counted g c = simp (c.from.ensures, c.from-2.ensures)
    (even_counted (g.S.Scheme.plan c.args.self.now.inner.now) c.args.self.now.events.count _ _ (exponents c.args.self.now.events c.args.step) _ (sym c.start-start.ensures.value ∙ c.if-start-n.true) c.whole_cells.ensures.value)

pub returns-clause-counted : goal.returns-clause-counted
returns-clause-counted g c =
    let plan = g.S.Scheme.plan c.args.self.now.inner.now in
    let n = c.args.self.now.events.count in
    let e = c.args.step.parents.e in
    let f = c.args.step.children.e in
    let kids : c.child_count.result.count ≡ count_of_children n (n / 2 ^ e * 2 ^ e) (2 ^ e) (2 ^ f) =
    c.child_count.ensures ∙ ap (λ s. count_of_children n s (2 ^ e) (2 ^ f)) c.start-start.ensures.value in
    simp (c.from.ensures, c.from-2.ensures)
    (cut_counted plan n e f (exponents c.args.self.now.events c.args.step) _ _ (λ even. c.if-start-n.false (c.start-start.ensures.value ∙ even)) c.whole_cells.ensures.value
    (c.cells.ensures.told ∙ ap (λ m. capped (plan.part m).size) kids))
