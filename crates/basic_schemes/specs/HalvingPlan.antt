-- The plan of a table of halved blocks. Row h, from 0, cuts the events into blocks of 2^(h+1), and each block into a left and a
-- right half of 2^h. The row has a cell for each event: in a left half it reaches from the event to the half's end, in a right
-- half from the half's start to the event. So where two events are in the two halves of one block, their cells meet.
use Rattle.std.specs.Prelude.{◌≡◌, ℕ, ◌+◌, ◌-◌, ◌*◌, ◌/◌, ◌%◌, ◌^◌, max, Bool, cond, List, [], ◌∷◌, ◌==◌, bit_xor}
use Rattle.scheme.specs.Plan.{Plan, Interval}
use Rattle.scheme.specs.Blocks.{start_of_block, end_of_block}
use Rattle.scheme.specs.Exponent.{digits, exponent}

-- how many rows a table of n events has
abbrev pub rows : ℕ → ℕ
rows n = max 1 (exponent n)

-- is p in a left half of row h?
abbrev pub on_left : ℕ → ℕ → Bool
on_left h p = p / 2 ^ h % 2 == 0

-- the interval of row h's cell for p, over n events
unfoldable pub reach : ℕ → ℕ → ℕ → Interval
reach n h p = cond (on_left h p)
    (record { from = p; to = end_of_block n (2 ^ h) p })
    (record { from = start_of_block (2 ^ h) p; to = p + 1 })

-- the row in which i and j are in the two halves of one block: the place, from 0, of the highest binary digit in which they differ
abbrev pub row_of_parting : ℕ → ℕ → ℕ
row_of_parting i j = digits (bit_xor i j) - 1

-- i is in the left half, and j in the right half, of one block of row h
pub record Parted (i j h : ℕ) : Type 0 where
  pub left : i / 2 ^ h % 2 ≡ 0
  pub next : j / 2 ^ h ≡ i / 2 ^ h + 1

-- the cells that answer the run from i to j, both in it: the item, or the cells for i and for j that meet
abbrev pub end_cells : ℕ → ℕ → ℕ → List ℕ
end_cells n i j = cond (i == j) (i ∷ []) ((row_of_parting i j * n + i) ∷ (row_of_parting i j * n + j) ∷ [])

-- the rows stand one after another, each with n cells; a run is answered from two cells at most; children of blocks of 2^e events have 2^⌈log₂ e⌉
abbrev pub halving_plan : Plan
halving_plan = record {
  part = λ n. record { size = n * rows n; span = λ c. reach n (c / n) (c % n) };
  pieces = λ n i j. end_cells n i (j - 1);
  budget = 2;
  child = exponent;
}
