-- Blocks of w events, one after the other from event 0 on, the last one cut at the end of the events.
use Rattle.std.specs.Prelude.{ℕ, ◌+◌, ◌*◌, ◌/◌, min}

-- where the block of w events begins that p is in
abbrev pub start_of_block : (w p : ℕ) → ℕ
start_of_block w p = p / w * w

-- where it ends, of n events
abbrev pub end_of_block : (n w p : ℕ) → ℕ
end_of_block n w p = min n (start_of_block w p + w)
