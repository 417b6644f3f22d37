-- What it is to compute cells of one row anew.
use Rattle.std.specs.Prelude.{◌≡◌, ℕ, ◌+◌, ◌-◌, ◌*◌, ◌/◌, ◌%◌, ◌^◌, ◌<◌, ◌≤◌, List, take, Option}
use Rattle.std.specs.List.{slice_get}
use Rattle.semigroup.specs.Product.{over}
use Rattle.scheme.specs.Plan.{Contains}
use Rattle.basic_schemes.specs.HalvingPlan.{reach}

-- row h of a table of n events is past the items, and the table has room for it
pub record RowFits (n h room : ℕ) : Type 0 where
  pub past : 0 < h
  pub fits : h * n + n ≤ room

-- q is in a left half of row h
abbrev pub Left : ℕ → ℕ → Type 0
Left h q = q / 2 ^ h % 2 ≡ 0

-- q is in a right half of row h
abbrev pub Right : ℕ → ℕ → Type 0
Right h q = q / 2 ^ h % 2 ≡ 1

-- the product of the events that row h's cell for q reaches over
abbrev pub reached : {A : Type 0} → (A → A → A) → ℕ → List A → ℕ → ℕ → Option A
reached op n items h q = over op items (reach n h q).from (reach n h q).to

-- row h's cell for q holds that product
abbrev pub RowHolds : {A : Type 0} → (A → A → A) → ℕ → List A → List A → ℕ → ℕ → Type 0
RowHolds op n items t h q = slice_get t (h * n + q) ≡ reached op n items h q

-- if b is an event of a left half, its cell in row h holds its product
abbrev pub NextHolds : {A : Type 0} → (A → A → A) → ℕ → ℕ → ℕ → List A → Type 0
NextHolds op n h b t = b < n → Left h b → RowHolds op n (take n t) t h b

-- if the event before a is of a right half, its cell in row h holds its product
abbrev pub PriorHolds : {A : Type 0} → (A → A → A) → ℕ → ℕ → ℕ → List A → Type 0
PriorHolds op n h a t = 0 < a → Right h (a - 1) → RowHolds op n (take n t) t h (a - 1)

-- row h's cells on one side, of the events from a up to b, hold their products if `Start`; all other cells are as they were
pub record Redone {A : Type 0} (op : A → A → A) (Side : ℕ → ℕ → Type 0) (n h a b : ℕ) (Start : Type 0) (before after : List A) : Type 0 where
  pub holds : Start → (q : ℕ) → a ≤ q → q < b → Side h q → RowHolds op n (take n before) after h q
  pub kept : (c : ℕ) → ((q : ℕ) → c ≡ h * n + q → a ≤ q → q < b → Side h q → ⊥) → slice_get after c ≡ slice_get before c

-- all of row h's cells hold their products; all other cells are as they were
pub record RowFilled {A : Type 0} (op : A → A → A) (n h : ℕ) (before after : List A) : Type 0 where
  pub holds : (q : ℕ) → q < n → RowHolds op n (take n before) after h q
  pub kept : (c : ℕ) → ((q : ℕ) → c ≡ h * n + q → q < n → ⊥) → slice_get after c ≡ slice_get before c

-- once item p has changed: if row h's cells without p hold their products, so do all of its cells; the cells without p are as they were
pub record RowRenewed {A : Type 0} (op : A → A → A) (n p h : ℕ) (before after : List A) : Type 0 where
  pub holds : ((q : ℕ) → q < n → (Contains (reach n h q) p → ⊥) → RowHolds op n (take n before) before h q) → (q : ℕ) → q < n → RowHolds op n (take n before) after h q
  pub kept : (c : ℕ) → ((q : ℕ) → c ≡ h * n + q → q < n → Contains (reach n h q) p → ⊥) → slice_get after c ≡ slice_get before c
