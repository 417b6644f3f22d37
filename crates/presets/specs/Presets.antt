-- The six presets: the scheme of each budget from 1 to 6, and how many cells it takes at most.
use Rattle.std.specs.Prelude.{◌≡◌, ℕ, ◌+◌, ◌*◌, ◌/◌, ◌≤◌, max, List, ◌++◌, codes, decimal}
use Rattle.scheme.specs.Plan.{Plan}
use Rattle.scheme.specs.Calls.{Events}
use Rattle.scheme.specs.Exponent.{exponent}
use Rattle.basic_schemes.specs.FlatPlan.{flat_plan}
use Rattle.basic_schemes.specs.HalvingPlan.{halving_plan}
use Rattle.layer_parts.specs.Layout.{layer_plan, count_of_steps}
use Rattle.presets.specs.declared.Preset.{Preset}
use Rattle.presets.specs.declared.UnknownBudget.{UnknownBudget}
use Rattle.presets.specs.declared.Preset.TheVariants.{One, Two, Three, Four, Five, Six}

-- every run, or halved blocks, and up to two layers of blocks over one of them
abbrev pub preset_plan : Preset → Plan
preset_plan One = flat_plan
preset_plan Two = halving_plan
preset_plan Three = layer_plan flat_plan
preset_plan Four = layer_plan halving_plan
preset_plan Five = layer_plan (layer_plan flat_plan)
preset_plan Six = layer_plan (layer_plan halving_plan)

-- the exponent of the children of blocks of 2^e events, in a preset
abbrev pub child_rule : Preset → ℕ → ℕ
child_rule preset e = (preset_plan preset).child e

-- the number of steps of a layer of blocks over n events, by its inner scheme
abbrev pub layer_steps : Plan → ℕ → ℕ
layer_steps inner n = count_of_steps inner.child (exponent n)

-- the most cells over n events: one for each run, one for each event in each row, or for each event its item and a few in each step
abbrev pub cell_bound : Preset → ℕ → ℕ
cell_bound One n = n * (n + 1) / 2
cell_bound Two n = n * max 1 (exponent n)
cell_bound Three n = n * (1 + 5 * layer_steps flat_plan n)
cell_bound Four n = n * (1 + 4 * layer_steps halving_plan n)
cell_bound Five n = n * (1 + 13 * layer_steps (layer_plan flat_plan) n)
cell_bound Six n = n * (1 + 11 * layer_steps (layer_plan halving_plan) n)

-- over n events, a number that an index can have, the preset has k cells: no more than its bound, and as many where its
-- budget is 1 or 2
pub record CellCount (preset : Preset) (n k : ℕ) : Type 0 where
  pub events : Events n
  pub exact : k ≡ ((preset_plan preset).part n).size
  pub bounded : k ≤ cell_bound preset n
  pub reached : (preset_plan preset).budget ≤ 2 → k ≡ cell_bound preset n

-- a budget that no preset has, in words
abbrev pub unknown_budget_text : UnknownBudget → List ℕ
unknown_budget_text e = codes "no preset has a budget of " ++ decimal e.budget
