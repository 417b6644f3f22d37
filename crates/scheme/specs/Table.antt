-- What a table holds, and what a write to it leaves.
use Rattle.std.specs.Prelude.{◌≡◌, ℕ, ◌+◌, ◌<◌, ◌≤◌, List, [], ◌∷◌, length, take, Some, None, Option}
use Rattle.std.specs.List.{slice_get}
use Rattle.semigroup.specs.Product.{over}
use Rattle.scheme.specs.Plan.{Interval, Part, Plan}

-- `after` is `before`, but that its places at..at+size hold the values
pub record Written {A : Type 0} (value : ℕ → Option A) (size at : ℕ) (before after : List A) : Type 0 where
  pub holds : (c : ℕ) → c < size → slice_get after (at + c) ≡ value c
  pub below : (c : ℕ) → c < at → slice_get after c ≡ slice_get before c
  pub above : (c : ℕ) → at + size ≤ c → slice_get after c ≡ slice_get before c

-- the product of the events of a cell's interval
abbrev pub due : {A : Type 0} (op : A → A → A) (items : List A) (span : ℕ → Interval) (c : ℕ) → Option A
due op items span c = over op items (span c).from (span c).to

-- `after` is `before`, but that the part that begins at `at` holds its intervals' products
abbrev pub Filled : {A : Type 0} (op : A → A → A) (items : List A) (p : Part) (at : ℕ) (before after : List A) → Type 0
Filled op items p at before after = Written (due op items p.span) p.size at before after

-- the part that begins at `at` holds its intervals' products
abbrev pub Holds : {A : Type 0} (op : A → A → A) (items : List A) (p : Part) (at : ℕ) (table : List A) → Type 0
Holds op items p at table = (c : ℕ) → c < p.size → slice_get table (at + c) ≡ due op items p.span c

-- the table stands for a list of n items: every cell of the plan holds its interval's product
pub record Stands {A : Type 0} (op : A → A → A) (plan : Plan) (n : ℕ) (items table : List A) : Type 0 where
  pub whole : length items ≡ n
  pub holds : Holds op items (plan.part n) 0 table

-- the table is as a build leaves it: it stands for what its first n cells hold
abbrev pub AsBuilt : {A : Type 0} (op : A → A → A) (plan : Plan) (n : ℕ) (table : List A) → Type 0
AsBuilt op plan n table = Stands op plan n (take n table) table

-- an element that is there, before others
abbrev pub pick : {A : Type 0} → Option A → List A → List A
pick None rest = rest
pick (Some x) rest = x ∷ rest

-- what the cells hold, in their order
abbrev pub picked : {A : Type 0} (table : List A) (cells : List ℕ) → List A
picked table [] = []
picked table (c ∷ cs) = pick (slice_get table c) (picked table cs)
