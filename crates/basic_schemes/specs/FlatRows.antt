-- What it is to compute cells of one row anew.
use Rattle.std.specs.Prelude.{◌≡◌, ℕ, ◌+◌, ◌-◌, ◌<◌, ◌≤◌, List, take}
use Rattle.std.specs.List.{slice_get}
use Rattle.semigroup.specs.Product.{over}
use Rattle.basic_schemes.specs.FlatPlan.{row_start}

-- row g's cell for i holds the product of the run from i to i + g
abbrev pub RowHolds : {A : Type 0} (op : A → A → A) (n : ℕ) (items t : List A) (g i : ℕ) → Type 0
RowHolds op n items t g i = slice_get t (row_start n g + i) ≡ over op items i (i + g + 1)

-- row g's cells from a up to b hold their products, if those of the row before do; all other cells are as they were
pub record Redone {A : Type 0} (op : A → A → A) (n g a b : ℕ) (before after : List A) : Type 0 where
  pub holds : ((i : ℕ) → a ≤ i → i < b → RowHolds op n (take n before) before (g - 1) i) → (i : ℕ) → a ≤ i → i < b → RowHolds op n (take n before) after g i
  pub kept : (c : ℕ) → ((i : ℕ) → c ≡ row_start n g + i → a ≤ i → i < b → ⊥) → slice_get after c ≡ slice_get before c
