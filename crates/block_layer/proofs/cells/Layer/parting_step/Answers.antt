use Rattle.std.proofs.Common.{◌≡◌, ◌+◌, sym, ap, ◌∙◌, arith, rules}
use borrow.Author.Tests.{tests}
use Rattle.scheme.specs.Exponent.{exponent}
use Rattle.layer_parts.specs.Layout.{layout_steps}
use Rattle.block_layer.specs.Walk.{next_place}
use Rattle.block_layer.proofs.Walks.{Walk, walk_first, placed_next, placed_at, gives_placed}
use Rattle.block_layer.proofs.Seeking.{Found, seek_first, found}
use Rattle.block_layer.proofs.cells.Layer.parting_step.Goals as goal
use Rattle.block_layer.proofs.cells.Layer.parting_step.Goals.{After-find}

step_found : (g : _) → (c : After-find g) → Found (g.S.Scheme.plan c.args.self.now.inner.now) c.args.self.now.events.count c.args.i.0 c.args.j.0 (gives_placed g.S.Scheme.plan)
    (λ s k. (s.steps.inner ≡ c.args.self.now.inner) × ((s.events ≡ c.args.self.now.events) × Walk (g.S.Scheme.plan c.args.self.now.inner.now) c.args.self.now.events.count k s.steps.block.e (next_place (g.S.Scheme.plan c.args.self.now.inner.now) c.args.self.now.events.count s.at s.last))) (λ x. x.step) c.find.new.self c.find.result
step_found g c =
    let plan = g.S.Scheme.plan c.args.self.now.inner.now in
    let sound = g.met.S.Scheme.sound c.args.self.now.inner.now in
    let n = c.args.self.now.events.count in
    let ran = c.find.ensures.ran in
    let made = c.placed_steps.ensures in
    found plan sound n c.args.i.0 c.args.j.0 (omega arith) (omega arith) (omega arith) (gives_placed g.S.Scheme.plan)
    (λ s k. (s.steps.inner ≡ c.args.self.now.inner) × ((s.events ≡ c.args.self.now.events) × Walk plan n k s.steps.block.e (next_place plan n s.at s.last))) (λ s. s.steps.block.e) (λ x. x.step)
    (λ s t k x right at given.
    let from = rw (right.0, right.1.0) at given.1.1 in
    ((given.0 ∙ right.0, (given.1.0 ∙ right.1.0, placed_next plan sound n k _ _ _ _ x right.1.1 from)), from.step))
    (λ s t given. given.1.1.0) _ _ _ _ (λ x q k. search (rules, tests)) (λ x same k. search (rules, tests))
    ran.0 c.placed_steps.result ran.2.0 c.find.new.self c.find.result 0 (made.steps.0, (made.place.0, walk_first plan n _ _ (omega arith) made.steps.1 made.place.1))
    (seek_first plan n c.args.i.0 c.args.j.0 (omega arith) (omega arith) (omega arith) _ made.steps.1) ran.2.1 ran.2.2 ran.3 ran.4

pub unwrap-requires : goal.unwrap-requires
unwrap-requires g c = rw (step_found g c).is (search rules)

pub returns : goal.returns
returns g c =
    let plan = g.S.Scheme.plan c.args.self.now.inner.now in
    let n = c.args.self.now.events.count in
    let it = step_found g (goal.at.returns g c).After-find in
    let same : it.item ≡ c.unwrap.result = cc in
    let from = rw (it.right.0, it.right.1.0) at it.given.1.1 in
    let at = placed_at plan (g.met.S.Scheme.sound c.args.self.now.inner.now) n it.place _ _ _ _ it.item it.right.1.1 from c.requires.small in
    record {
      parting = rw same at it.parting;
      placed = rw same at (at ∙ ap (λ k. n + (layout_steps plan n (exponent n) k).size) (sym it.here));
    }
