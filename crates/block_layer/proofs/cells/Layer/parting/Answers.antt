use Rattle.std.proofs.Common.{◌≡◌, ◌∙◌, arith, rules}
use borrow.Author.Tests.{tests}
use Rattle.block_layer.proofs.Walks.{gives}
use Rattle.block_layer.proofs.Seeking.{Found, seek_first, found}
use Rattle.block_layer.proofs.cells.Layer.parting.Goals as goal
use Rattle.block_layer.proofs.cells.Layer.parting.Goals.{After-find}

step_found : (g : _) → (c : After-find g) → Found (g.S.Scheme.plan c.args.self.now.inner.now) c.args.self.now.events.count c.args.i.0 c.args.j.0 (gives g.S.Scheme.plan) (λ s k. s.inner ≡ c.args.self.now.inner) (λ x. x) c.find.new.self c.find.result
step_found g c =
    let plan = g.S.Scheme.plan c.args.self.now.inner.now in
    let n = c.args.self.now.events.count in
    let ran = c.find.ensures.ran in
    found plan (g.met.S.Scheme.sound c.args.self.now.inner.now) n c.args.i.0 c.args.j.0 (omega arith) (omega arith) (omega arith) (gives g.S.Scheme.plan) (λ s k. s.inner ≡ c.args.self.now.inner) (λ s. s.block.e) (λ x. x)
    (λ s t k x right at given. (given.0 ∙ right, rw right at given.1)) (λ s t given. given.1.0) _ _ _ _ (λ x q k. search (rules, tests)) (λ x same k. search (rules, tests))
    ran.0 c.steps.result ran.2.0 c.find.new.self c.find.result 0 c.steps.ensures.0 (seek_first plan n c.args.i.0 c.args.j.0 (omega arith) (omega arith) (omega arith) _ c.steps.ensures.1) ran.2.1 ran.2.2 ran.3 ran.4

pub unwrap-requires : goal.unwrap-requires
unwrap-requires g c = rw (step_found g c).is (search rules)

pub returns : goal.returns
returns g c =
    let it = step_found g (goal.at.returns g c).After-find in
    let same : it.item ≡ c.unwrap.result = cc in
    rw same at it.parting
