-- A text put into bytes, if it fits.
use Rattle.std.specs.Prelude.{ℕ, ◌+◌, cond, List, ◌++◌, length, take, drop, Some, None, Option, nat_le}

-- the place after a text from `at` on in so many bytes, if it fits
unfoldable pub end_in : ℕ → ℕ → List ℕ → Option ℕ
end_in room at text = cond (nat_le (at + length text) room) (Some (at + length text)) None

-- the bytes with a text written over them from `at` on
abbrev pub put : List ℕ → ℕ → List ℕ → List ℕ
put bytes at text = take at bytes ++ (text ++ drop (at + length text) bytes)

-- the same if the text fits there, else the bytes as they are
unfoldable pub placed : List ℕ → ℕ → List ℕ → List ℕ
placed bytes at text = cond (nat_le (at + length text) (length bytes)) (put bytes at text) bytes

-- the place after the text, if it fits
unfoldable pub placed_end : List ℕ → ℕ → List ℕ → Option ℕ
placed_end bytes at text = cond (nat_le (at + length text) (length bytes)) (Some (at + length text)) None
