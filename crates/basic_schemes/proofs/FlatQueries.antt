-- A query's answer and its trace.
use Rattle.std.proofs.Common.{◌≡◌, ℕ, ◌+◌, ◌-◌, ◌<◌, ◌≤◌, List, length, set, Some, sym, refl, ap, ◌∙◌, arith}
use Rattle.std.specs.List.{slice_get}
use Rattle.scheme.specs.Calls.{Drawn}
use Rattle.scheme.specs.declared.Piece.{Piece}
use Rattle.scheme.proofs.Drawing.{piece_is, drawn_one}
use Rattle.basic_schemes.specs.FlatPlan.{row_start, flat_plan}
use Rattle.basic_schemes.specs.FlatLayout.{run_at}

-- the run from i to j is read from its cell, at k, and traced as that
pub flat_drawn : {A : Type 0} (op : A → A → A) (n i j k : ℕ) (piece : Piece) (table : List A) (trace : List Piece) (x : A) → i ≤ j → j < n → 1 ≤ length trace → slice_get table k ≡ Some x
    → k ≡ row_start n (j - i) + i → piece ≡ record { cell = record { 0 = k }; first = record { 0 = i }; last = record { 0 = j } }
    → Drawn op (flat_plan.part n) (flat_plan.pieces n i (j + 1)) table trace (set trace 0 piece) (record { value = x; combinations = 0 })
flat_drawn op n i j k piece table trace x l m room h e shown =
    let back : j + 1 - 1 - i ≡ j - i = omega arith in
    let part = flat_plan.part n in
    let here : k ≡ row_start n (j + 1 - 1 - i) + i = e ∙ ap (λ g. row_start n g + i) (sym back) in
    drawn_one op part _ table trace piece x room (ap (slice_get table) (sym here) ∙ h)
    (shown ∙ piece_is part _ i (j + 1) k i j (run_at n i (j + 1) (omega arith) (omega arith)) here refl (omega arith))
