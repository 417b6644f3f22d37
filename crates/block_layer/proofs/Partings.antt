-- The step in which the ends of a run part.
use Rattle.std.proofs.Common.{◌≡◌, ℕ, ◌+◌, ◌-◌, ◌^◌, ◌<◌, ◌≤◌, List, sym, ap, ◌∙◌, arith}
use Rattle.std.proofs.lemmas.Bool.{ne_eqb}
use Rattle.scheme.specs.Plan.{Part, Plan, Sound}
use Rattle.scheme.specs.Exponent.{exponent}
use Rattle.layer_parts.specs.Parts.{step_part, HasAt}
use Rattle.layer_parts.specs.Layout.{exponent_at, count_of_steps, step_of_parting, moved, step_pieces, layout_step, layer_part, layer_pieces, Apart}
use Rattle.layer_parts.proofs.Laying.{laid_room}
use Rattle.layer_parts.proofs.Soundness.{apart_in_step, step_placed}
use Rattle.block_layer.specs.Steps.{StepFits, Parting, parting_start}

module _ (plan : Plan) (n i j : ℕ) where
  back : j + 1 - 1 ≡ j
  back = omega arith

  -- two events and all between
  two_pieces : (i ≡ j → ⊥) → layer_pieces plan n i j ≡ moved (parting_start plan n i j)
      (step_pieces plan n (2 ^ exponent_at plan.child (exponent n) (step_of_parting plan.child (exponent n) i j)) (2 ^ exponent_at plan.child (exponent n) (step_of_parting plan.child (exponent n) i j + 1)) i j)
  two_pieces ne = rw (ne_eqb i j ne)

module _ (plan : Plan) (sound : Sound plan) (n i j e f : ℕ) (few : n ≤ 65536) (rise : i < j) (low : j < n) (p : Parting plan n i j e f) where
  pub parted_apart : Apart n (2 ^ e) (2 ^ f) i j
  parted_apart = rw (p.upper, p.lower) (apart_in_step plan sound n i j few rise low).1

  step_same : step_part plan.part n (2 ^ e) (2 ^ f) ≡ layout_step plan n (exponent n) (step_of_parting plan.child (exponent n) i j)
  step_same = rw (p.upper, p.lower)

  pub parted_placed : (at : ℕ) → at ≡ parting_start plan n i j → HasAt at (step_part plan.part n (2 ^ e) (2 ^ f)) (layer_part plan n)
  parted_placed at placed = rw (placed, p.upper, p.lower) (step_placed plan sound n (step_of_parting plan.child (exponent n) i j) (apart_in_step plan sound n i j few rise low).0)

  pub parted_fits : (at room : ℕ) → at ≡ parting_start plan n i j → (layer_part plan n).size < 2 ^ 40 → (layer_part plan n).size ≤ room → StepFits plan n e f at room
  parted_fits at room placed small fits =
      let inside = laid_room (layout_step plan n (exponent n)) (step_of_parting plan.child (exponent n) i j) (count_of_steps plan.child (exponent n)) (apart_in_step plan sound n i j few rise low).0 in
      let size = ap (λ (q : Part). q.size) step_same in
      record { past = omega arith; small = omega arith; fits = omega arith }

  pub parted_pieces : (at : ℕ) → at ≡ parting_start plan n i j → layer_pieces plan n i (j + 1 - 1) ≡ moved at (step_pieces plan n (2 ^ e) (2 ^ f) i j)
  parted_pieces at placed =
      let cells : ℕ → ℕ → ℕ → List ℕ = λ a x y. moved a (step_pieces plan n (2 ^ x) (2 ^ y) i j) in
      let lower = exponent_at plan.child (exponent n) (step_of_parting plan.child (exponent n) i j + 1) in
      let upper = exponent_at plan.child (exponent n) (step_of_parting plan.child (exponent n) i j) in
      ap (layer_pieces plan n i) (back plan n i j) ∙ two_pieces plan n i j (λ same. omega arith)
      ∙ ap (λ a. cells a upper lower) (sym placed) ∙ ap (λ x. cells at x lower) (sym p.upper) ∙ ap (λ y. cells at e y) (sym p.lower)
