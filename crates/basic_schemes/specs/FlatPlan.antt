-- The plan of a table of every run. Row g, from 0, has the runs of g + 1 events, one for each first event.
use Rattle.std.specs.Prelude.{ℕ, zero, suc, ◌+◌, ◌-◌, ◌*◌, ◌/◌, cond, [], ◌∷◌, nat_lt}
use Rattle.scheme.specs.Plan.{Plan, Interval}

-- where row g begins, over n events
unfoldable pub row_start : (n g : ℕ) → ℕ
row_start n g = g * n - g * (g - 1) / 2

-- the run from i to i + g
abbrev pub run_from : (i g : ℕ) → Interval
run_from i g = record { from = i; to = i + g + 1 }

-- the interval of the c-th cell from row g on, where row g has w cells and at most k rows follow it
unfoldable pub locate : (k g w c : ℕ) → Interval
locate zero g w c = run_from c g
locate (suc k) g w c = cond (nat_lt c w) (run_from c g) (locate k (g + 1) (w - 1) (c - w))

-- n(n+1)/2 cells; the run i..j, `j` not in it, is in one cell; children of blocks of 2^e events have 2^⌊e/2⌋
abbrev pub flat_plan : Plan
flat_plan = record {
  part = λ n. record { size = n * (n + 1) / 2; span = locate n 0 n };
  pieces = λ n i j. (row_start n (j - 1 - i) + i) ∷ [];
  budget = 1;
  child = λ e. e / 2;
}
