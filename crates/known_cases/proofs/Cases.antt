-- The worked examples, computed.
use Rattle.std.proofs.Common.{◌≡◌, ℕ, ◌+◌, ◌≤◌, refl, arith}
use lib.Count.{count_leading_zeros}
use Rattle.std.proofs.lemmas.Bool.{le-leb}
use Rattle.semigroup.specs.Product.{over}
use Rattle.kinds.specs.Halts.{summed_up}
use Rattle.basic_schemes.specs.FlatPlan.{row_start}
use Rattle.presets.specs.declared.Preset.{Preset}
use Rattle.presets.specs.declared.Preset.TheVariants.{One, Two, Three, Four, Five, Six}
use Rattle.known_cases.specs.Known.{cells_of, known_cells, summary_with, KnownCases}

cells : (p : Preset) → cells_of p ≡ known_cells p
unfolding count_leading_zeros
cells One = refl
cells Two = refl
cells Three = refl
cells Four = refl
cells Five = refl
cells Six = refl

halts : (v w : ℕ) → 2 ≤ v → 4 ≤ w → v + w ≤ 65536 → summed_up (summary_with v 0 2) (summary_with w 3 1) ≡ summary_with (v + w) 1 1
halts v w left right both =
    simp (le-leb 2 v left, le-leb v 65536 (omega arith), le-leb 4 w right, le-leb w 65536 (omega arith), le-leb (v + w) 65536 both)

pub known_cases_hold : KnownCases
unfolding count_leading_zeros row_start over
known_cases_hold = record {
  cells = cells;
  layout_of_three = refl;
  layout_of_four = refl;
  layout_of_five = refl;
  layout_of_six = refl;
  pieces_of_one = refl;
  pieces_of_two = refl;
  pieces_of_three = refl;
  pieces_of_four = refl;
  halts = halts;
  correction = refl;
}
