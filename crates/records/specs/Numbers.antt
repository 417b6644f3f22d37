-- Numbers in bytes, the lowest byte first.
use Rattle.std.specs.Prelude.{ℕ, ◌+◌, ◌-◌, ◌*◌, cond, List, ℤ, pos, negsuc, nat_lt, slice_index}

-- the numbers that 2, 3 and 4 bytes write from i on
abbrev pub le2 : List ℕ → ℕ → ℕ
le2 s i = slice_index s i + 256 * slice_index s (i + 1)

abbrev pub le3 : List ℕ → ℕ → ℕ
le3 s i = slice_index s i + 256 * slice_index s (i + 1) + 65536 * slice_index s (i + 2)

abbrev pub le4 : List ℕ → ℕ → ℕ
le4 s i = slice_index s i + 256 * slice_index s (i + 1) + 65536 * slice_index s (i + 2) + 16777216 * slice_index s (i + 3)

-- what 32 bits mean in two's complement: from 2^31 on, the number less 2^32
abbrev pub signed : ℕ → ℤ
signed n = cond (nat_lt n 2147483648) (pos n) (negsuc (4294967295 - n))

-- the signed number that 4 bytes write from i on
abbrev pub signed4 : List ℕ → ℕ → ℤ
signed4 s i = signed (le4 s i)
