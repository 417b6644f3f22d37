-- The walk down the steps of a layout.
use Rattle.std.specs.Prelude.{◌≡◌, ℕ, ◌+◌, ◌^◌, Option, Some, None, MatchOption}
use Rattle.scheme.specs.Plan.{Plan}
use Rattle.scheme.specs.Calls.{capped}
use Rattle.layer_parts.specs.Parts.{step_part}
use Rattle.block_layer.specs.declared.steps.Step.{Step}
use Rattle.block_layer.specs.declared.steps.PlacedStep.{PlacedStep}

-- the step from blocks of 2^e events to their children, which are blocks of 2^f
pub record StepFrom (plan : Plan) (e f : ℕ) (step : Step) : Type 0 where
  pub parents : step.parents.e ≡ e
  pub children : step.children.e ≡ f
  pub told : f ≡ plan.child e

-- a walk that is at blocks of 2^e events gives the step from them to their children, and is then at those; at single events
-- it ends
abbrev pub GivesStep : (plan : Plan) (e : ℕ) (given : Option Step) (next : ℕ) → Type 0
GivesStep plan e given next = MatchOption given ((e ≡ 0) × (next ≡ e)) (StepFrom plan e next)

-- where the cells of the next step begin: after those of the step that was given last, which begin at `at`, or at `at` itself before
-- the first
abbrev pub next_place : (plan : Plan) (n at : ℕ) (last : Option Step) → ℕ
next_place plan n at None = at
next_place plan n at (Some step) = capped (at + (step_part plan.part n (2 ^ step.parents.e) (2 ^ step.children.e)).size)

-- that step over n events, its cells from `at` on, and those of the next step from `end` on
pub record PlacedFrom (plan : Plan) (n e at f end : ℕ) (placed : PlacedStep) : Type 0 where
  pub step : StepFrom plan e f placed.step
  pub place : placed.at ≡ at
  pub next : end ≡ next_place plan n at (Some placed.step)

abbrev pub GivesPlaced : (plan : Plan) (n e at : ℕ) (given : Option PlacedStep) (next end : ℕ) → Type 0
GivesPlaced plan n e at given next end = MatchOption given ((e ≡ 0) × ((next ≡ e) × (end ≡ at))) (PlacedFrom plan n e at next end)
