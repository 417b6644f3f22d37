-- What a scheme means: which cells a table has, which run of events each cell stands for, which cells answer a query.
use Rattle.std.specs.Prelude.{◌≡◌, ℕ, ◌+◌, ◌<◌, ◌≤◌, ◌⊎◌, List, [], ◌∷◌, length}

-- the events from..to, `to` not among them
pub record Interval : Type 0 where
  pub from : ℕ
  pub to : ℕ

-- the event p alone
abbrev pub single : ℕ → Interval
single p = record { from = p; to = p + 1 }

-- p is one of the events
abbrev pub Contains : Interval → ℕ → Type 0
Contains s p = (s.from ≤ p) × (p < s.to)

-- p is none of the events
abbrev pub Misses : Interval → ℕ → Type 0
Misses s p = (p < s.from) ⊎ (s.to ≤ p)

-- a number of cells, and the interval of each
pub record Part : Type 0 where
  pub size : ℕ
  pub span : ℕ → Interval

-- for n events, `part n` is the cells of a table and `pieces n i j` the cells that answer the run i..j, `j` not in it;
-- `budget` is the most pieces of any run, and `child e` the exponent of the children of blocks of 2^e events
pub record Plan : Type 0 where
  pub part : ℕ → Part
  pub pieces : ℕ → ℕ → ℕ → List ℕ
  pub budget : ℕ
  pub child : ℕ → ℕ

-- the cells are of the part, and their intervals follow one another without a gap from i to j, `j` not in the last
pub data Covers (p : Part) : ℕ → ℕ → List ℕ → Type 0 where
  done : {i : ℕ} → Covers p i i []
  goes : {i j c : ℕ} {cs : List ℕ} → c < p.size → (p.span c).from ≡ i → Covers p (p.span c).to j cs → Covers p i j (c ∷ cs)

-- every interval has an event, and all its events are below n
abbrev pub Within : ℕ → Part → Type 0
Within n p = (c : ℕ) → c < p.size → ((p.span c).from < (p.span c).to) × ((p.span c).to ≤ n)

-- what must hold of a plan, for 1 to 65,536 events: there is a cell for each event, and the first n cells are the events alone;
-- the intervals lie within the events; the pieces of a run cover it and are no more than the budget; exponents fall
pub record Sound (p : Plan) : Type 0 where
  pub enough : (n : ℕ) → 0 < n → n ≤ 65536 → n ≤ (p.part n).size
  pub items_first : (n c : ℕ) → n ≤ 65536 → c < n → (p.part n).span c ≡ single c
  pub within : (n : ℕ) → 0 < n → n ≤ 65536 → Within n (p.part n)
  pub covered : (n i j : ℕ) → n ≤ 65536 → i < j → j ≤ n → Covers (p.part n) i j (p.pieces n i j)
  pub few : (n i j : ℕ) → n ≤ 65536 → i < j → j ≤ n → length (p.pieces n i j) ≤ p.budget
  pub falls : (e : ℕ) → 0 < e → e ≤ 16 → p.child e < e
