-- A query's answer and its trace.
use Rattle.std.proofs.Common.{◌≡◌, ℕ, ◌+◌, ◌-◌, ◌*◌, ◌<◌, ◌≤◌, List, length, set, Some, sym, refl, ap, ◌∙◌, arith}
use Rattle.std.specs.List.{slice_get}
use Rattle.scheme.specs.Calls.{Drawn, piece_of}
use Rattle.scheme.specs.declared.Piece.{Piece}
use Rattle.scheme.proofs.Drawing.{piece_is, drawn_one, drawn_two}
use Rattle.basic_schemes.specs.HalvingPlan.{rows, row_of_parting, end_cells, halving_plan}
use Rattle.basic_schemes.specs.HalvingLayout.{one_cell, two_cells, item_span, cell_below, parting_row_below}

-- ---- the pieces

-- the table has the cell for any event p of the row in which i and j part
pub end_below : (n i j p : ℕ) → n ≤ 65536 → i < j → j < n → p < n → row_of_parting i j * n + p < n * rows n
end_below n i j p b l m k = cell_below n (row_of_parting i j) p (parting_row_below n i j b l m) k

-- ---- the answer

module _ {A : Type 0} (op : A → A → A) (n i j : ℕ) (table : List A) (trace : List Piece) where
  last_in : j + 1 - 1 ≡ j
  last_in = omega arith

  -- an event alone is read from its item
  pub drawn_item : (c : ℕ) (x : A) → i < n → i ≡ j → 1 ≤ length trace → slice_get table i ≡ Some x → c ≡ i
      → Drawn op (halving_plan.part n) (halving_plan.pieces n i (j + 1)) table trace
      (set trace 0 (record { cell = record { 0 = c }; first = record { 0 = i }; last = record { 0 = j } })) (record { value = x; combinations = 0 })
  drawn_item c x l e room h cell =
      rw (last_in, one_cell n i j e) (drawn_one op (halving_plan.part n) i table trace _ x room h (piece_is (halving_plan.part n) i i (i + 1) c i j (item_span n i l) cell refl (omega arith)))

  -- two events and all between are read from the two cells that meet
  pub drawn_ends : (left right : Piece) (x y : A) → (i ≡ j → ⊥) → 2 ≤ length trace → slice_get table left.cell.0 ≡ Some x → slice_get table right.cell.0 ≡ Some y
      → left ≡ piece_of (halving_plan.part n) (row_of_parting i j * n + i) → right ≡ piece_of (halving_plan.part n) (row_of_parting i j * n + j)
      → Drawn op (halving_plan.part n) (halving_plan.pieces n i (j + 1)) table trace (set (set trace 0 left) 1 right) (record { value = op x y; combinations = 1 })
  drawn_ends left right x y ne room u v e f =
      let at : (p q : Piece) → p ≡ q → slice_get table q.cell.0 ≡ slice_get table p.cell.0 = λ p q same. ap (λ (r : Piece). slice_get table r.cell.0) (sym same) in
      rw (last_in, two_cells n i j ne) (drawn_two op (halving_plan.part n) _ _ table trace left right x y room (at left _ e ∙ u) (at right _ f ∙ v) e f)

-- the trace has a place for each piece
pub room_one : (n i j room : ℕ) → i ≡ j → length (end_cells n i (j + 1 - 1)) ≤ room → 1 ≤ room
room_one n i j room e l = let back : j + 1 - 1 ≡ j = omega arith in omega (arith, ap (λ k. length (end_cells n i k)) back ∙ ap length (one_cell n i j e))

pub room_two : (n i j room : ℕ) → (i ≡ j → ⊥) → length (end_cells n i (j + 1 - 1)) ≤ room → 2 ≤ room
room_two n i j room ne l = let back : j + 1 - 1 ≡ j = omega arith in omega (arith, ap (λ k. length (end_cells n i k)) back ∙ ap length (two_cells n i j ne))
