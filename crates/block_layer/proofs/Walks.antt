-- A walk down the steps of a layout, with the place where the cells of each step begin.
use Rattle.std.proofs.Common.{◌≡◌, ℕ, ◌+◌, ◌^◌, ◌<◌, ◌≤◌, List, [], ◌∷◌, length, Option, None, refl, ap, ◌∙◌, arith}
use Rattle.std.specs.Iterator.{Yields}
use Rattle.scheme.specs.Plan.{Part, Plan, Sound}
use Rattle.scheme.specs.Calls.{capped}
use Rattle.scheme.specs.Exponent.{exponent}
use Rattle.scheme.proofs.Exponents.{exponent_few}
use Rattle.layer_parts.specs.Parts.{step_part}
use Rattle.layer_parts.specs.Layout.{count_of_steps, layout_step, layout_steps, layer_part}
use Rattle.layer_parts.proofs.Laying.{laid_room, laid_more}
use Rattle.layer_parts.proofs.Layouts.{AtStep, at_first, at_end, at_live, at_next}
use Rattle.layer_parts.proofs.Filling.{step_is}
use Rattle.block_layer.specs.Steps.{StepFits}
use Rattle.block_layer.specs.Walk.{StepFrom, GivesStep, PlacedFrom, GivesPlaced, next_place}
use Rattle.block_layer.specs.declared.walk.Steps.{Steps}
use Rattle.block_layer.specs.declared.walk.PlacedSteps.{PlacedSteps}
use Rattle.block_layer.specs.declared.steps.Step.{Step}
use Rattle.block_layer.specs.declared.steps.PlacedStep.{PlacedStep}

-- a walk is at blocks of 2^e events and at step s, whose cells begin at `at`
pub record Walk (plan : Plan) (n s e at : ℕ) : Type 0 where
  pub step : AtStep plan.child (exponent n) s e
  pub place : at ≡ capped (n + (layout_steps plan n (exponent n) s).size)

pub walk_first : (plan : Plan) (n e at : ℕ) → n ≤ 65536 → e ≡ exponent n → at ≡ n → Walk plan n 0 e at
walk_first plan n e at few is place = rw (is, place) (record { step = at_first plan.child (exponent n) (exponent_few n few); place = omega arith })

module _ (plan : Plan) (sound : Sound plan) (n s e f : ℕ) (step : Step) (a : AtStep plan.child (exponent n) s e) (given : StepFrom plan e f step) where
  live : 0 < e
  live = omega (arith, given.parents, step.falls)

  -- the step that it gives is the layout's
  pub walk_step : step_part plan.part n (2 ^ step.parents.e) (2 ^ step.children.e) ≡ layout_step plan n (exponent n) s
  walk_step = rw (given.parents, given.children) (step_is plan n (exponent n) s e f a.exponent_is given.told)

  pub walk_on : (at r next : ℕ) → Walk plan n s e at → next ≡ capped (at + r) → capped r ≡ capped (step_part plan.part n (2 ^ step.parents.e) (2 ^ step.children.e)).size → Walk plan n (s + 1) f next
  walk_on at r next w is counted =
      let more = ap (λ (p : Part). p.size) (laid_more (layout_step plan n (exponent n)) s) in
      let size = ap (λ (p : Part). p.size) walk_step in
      record { step = at_next plan.child sound.falls (exponent n) s e a live f given.told; place = omega (arith, w.place) }

-- ---- with the place of each step

module _ (plan : Plan) (sound : Sound plan) (n s e at f end : ℕ) (placed : PlacedStep) (w : Walk plan n s e at) (given : PlacedFrom plan n e at f end placed) where
  pub placed_is : step_part plan.part n (2 ^ placed.step.parents.e) (2 ^ placed.step.children.e) ≡ layout_step plan n (exponent n) s
  placed_is = walk_step plan sound n s e f placed.step w.step given.step

  pub placed_next : Walk plan n (s + 1) f end
  placed_next = walk_on plan sound n s e f placed.step w.step given.step at _ end w given.next refl

  module _ (small : (layer_part plan n).size < 2 ^ 40) where
    room : n + (layout_steps plan n (exponent n) s).size + (layout_step plan n (exponent n) s).size ≤ (layer_part plan n).size
    room =
        let live : 0 < e = omega (arith, given.step.parents, placed.step.falls) in
        omega (arith, laid_room (layout_step plan n (exponent n)) s (count_of_steps plan.child (exponent n)) (at_live plan.child sound.falls (exponent n) s e w.step live))

    -- where it begins, and that the table has room for it
    pub placed_at : placed.at ≡ n + (layout_steps plan n (exponent n) s).size
    placed_at = omega (arith, room, w.place, given.place)

    pub placed_fits : (cells : ℕ) → (layer_part plan n).size ≤ cells → StepFits plan n placed.step.parents.e placed.step.children.e placed.at cells
    placed_fits cells fits =
        let size = ap (λ (p : Part). p.size) placed_is in
        record { past = omega (arith, placed_at); small = omega (arith, room, placed_at); fits = omega (arith, room, placed_at) }

-- ---- all steps

-- what a call of `next` on a walk gives
module _ {A : Type 0} (plan_of : A → Plan) where
  abbrev pub gives : Steps A → Option Step → Steps A → Type 0
  gives s r t = (t.inner ≡ s.inner) × GivesStep (plan_of s.inner.now) s.block.e r t.block.e

  abbrev pub gives_placed : PlacedSteps A → Option PlacedStep → PlacedSteps A → Type 0
  gives_placed s r t = (t.steps.inner ≡ s.steps.inner) × ((t.events ≡ s.events) × GivesPlaced (plan_of s.steps.inner.now) s.events.count s.steps.block.e (next_place (plan_of s.steps.inner.now) s.events.count s.at s.last) r t.steps.block.e (next_place (plan_of s.steps.inner.now) s.events.count t.at t.last))

-- a walk gives as many steps as the layout has left
module _ {A : Type 0} (plan_of : A → Plan) (sound_of : (a : A) → Sound (plan_of a)) where
  pub counted : (top : ℕ) (xs : List Step) (s t u : Steps A) (k : ℕ) → AtStep (plan_of s.inner.now).child top k s.block.e → Yields (gives plan_of) s xs t → gives plan_of t None u → k + length xs ≡ count_of_steps (plan_of s.inner.now).child top
  counted top [] s t u k a y z =
      let same : s ≡ t = y in
      let none : s.block.e ≡ 0 = ap (λ (w : Steps A). w.block.e) same ∙ z.1.0 in
      omega (arith, at_end (plan_of s.inner.now).child top k s.block.e a none)
  counted top (x ∷ xs) s t u k a y z =
      let given = y.1.1 in
      let live : 0 < s.block.e = omega (arith, given.parents, x.falls) in
      let next = at_next (plan_of s.inner.now).child (sound_of s.inner.now).falls top k s.block.e a live y.0.block.e given.told in
      omega (arith, rw y.1.0 at (counted top xs y.0 t u (k + 1) (rw y.1.0 next) y.2 z))
