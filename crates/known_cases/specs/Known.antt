-- Worked examples: numbers that can be found by hand, as one statement about the definitions that the contracts use.
use Rattle.std.specs.Prelude.{◌≡◌, ℕ, ◌+◌, ◌≤◌, List, [], ◌∷◌, map, Some, slice_set}
use Rattle.std.specs.List.{range_with_len}
use Rattle.semigroup.specs.Product.{over}
use Rattle.kinds.specs.Chain.{chained}
use Rattle.kinds.specs.Halts.{summed_up}
use Rattle.kinds.specs.declared.chain_map.ChainMap.{ChainMap}
use Rattle.kinds.specs.declared.halt_summary.HaltSummary.{HaltSummary}
use Rattle.basic_schemes.specs.FlatPlan.{flat_plan}
use Rattle.basic_schemes.specs.HalvingPlan.{halving_plan}
use Rattle.layer_parts.specs.Layout.{exponent_at, count_of_steps, layer_plan}
use Rattle.presets.specs.Presets.{preset_plan}
use Rattle.presets.specs.declared.Preset.{Preset}
use Rattle.presets.specs.declared.Preset.TheVariants.{One, Two, Three, Four, Five, Six}

-- ---- cells

-- the number of a preset's cells over 1, 2 and 5 events
abbrev pub cells_of : Preset → List ℕ
cells_of p = ((preset_plan p).part 1).size ∷ ((preset_plan p).part 2).size ∷ ((preset_plan p).part 5).size ∷ []

-- the numbers, found by hand
abbrev pub known_cells : Preset → List ℕ
known_cells One = 1 ∷ 3 ∷ 15 ∷ []
known_cells Two = 1 ∷ 2 ∷ 15 ∷ []
known_cells Three = 1 ∷ 9 ∷ 38 ∷ []
known_cells Four = 1 ∷ 8 ∷ 45 ∷ []
known_cells Five = 1 ∷ 15 ∷ 66 ∷ []
known_cells Six = 1 ∷ 14 ∷ 69 ∷ []

-- ---- layouts

-- the layout from e: the exponents at its places, from e down to 0
abbrev pub layout_of : (ℕ → ℕ) → ℕ → List ℕ
layout_of child e = map (exponent_at child e) (range_with_len 0 (count_of_steps child e + 1))

-- ---- elements

-- the summary of a run of so many events, c resumptions that met no halt and o halts still open
abbrev pub summary_with : ℕ → ℕ → ℕ → HaltSummary
summary_with events c o = record { stored = Some (record { events = events; unmatched = c; pending = o }) }

-- the map that sends v to a * v + b
abbrev pub chain : ℕ → ℕ → ChainMap
chain a b = record { factor = a; offset = b }

-- the chain maps of the example day's five events
abbrev pub example_day : List ChainMap
example_day = chain 1 10 ∷ chain 2 0 ∷ chain 3 0 ∷ chain 1 4 ∷ chain 1 9 ∷ []

-- ---- all of them

pub record KnownCases : Type 0 where
  -- each preset has the known number of cells over 1, 2 and 5 events
  pub cells : (p : Preset) → cells_of p ≡ known_cells p
  -- the layouts, from exponent 16, of the outer layers of the presets that have one; a layer follows the child exponents of
  -- its inner scheme
  pub layout_of_three : layout_of flat_plan.child 16 ≡ 16 ∷ 8 ∷ 4 ∷ 2 ∷ 1 ∷ 0 ∷ []
  pub layout_of_four : layout_of halving_plan.child 16 ≡ 16 ∷ 4 ∷ 2 ∷ 1 ∷ 0 ∷ []
  pub layout_of_five : layout_of (layer_plan flat_plan).child 16 ≡ 16 ∷ 3 ∷ 1 ∷ 0 ∷ []
  pub layout_of_six : layout_of (layer_plan halving_plan).child 16 ≡ 16 ∷ 2 ∷ 1 ∷ 0 ∷ []
  -- over 5 events, the cells that answer the run of them all, events 0 to 4
  pub pieces_of_one : (preset_plan One).pieces 5 0 5 ≡ 14 ∷ []
  pub pieces_of_two : (preset_plan Two).pieces 5 0 5 ≡ 10 ∷ 14 ∷ []
  pub pieces_of_three : (preset_plan Three).pieces 5 0 5 ≡ 10 ∷ 16 ∷ 9 ∷ []
  pub pieces_of_four : (preset_plan Four).pieces 5 0 5 ≡ 10 ∷ 9 ∷ []
  -- two open halts, and after them three resumptions and a halt: one resumption met no halt, and one halt is open; the runs
  -- are of any length that has room for these
  pub halts : (v w : ℕ) → 2 ≤ v → 4 ≤ w → v + w ≤ 65536 → summed_up (summary_with v 0 2) (summary_with w 3 1) ≡ summary_with (v + w) 1 1
  -- once event 1 of the example day is corrected to the map that changes nothing, events 0 to 2 send v to 3 * v + 30
  pub correction : over chained (slice_set example_day 1 (chain 1 0)) 0 3 ≡ Some (chain 3 30)
