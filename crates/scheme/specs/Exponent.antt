-- The exponent of a number of events: how often they must be halved until one is left.
use Rattle.std.specs.Prelude.{ℕ, ◌-◌, ◌^◌, ◌≤◌}
use Rattle.std.specs.Int.Count.{count_leading_zeros}

-- how many binary digits a number below 2^32 has; 0 has none
abbrev pub digits : ℕ → ℕ
digits a = 32 - count_leading_zeros 32 a

-- the least exponent whose power of two is n or more
abbrev pub exponent : ℕ → ℕ
exponent n = digits (n - 1)

-- 2^e is n or more, and no lower power of two is
pub record LeastExponent (n e : ℕ) : Type 0 where
  pub enough : n ≤ 2 ^ e
  pub least : (m : ℕ) → n ≤ 2 ^ m → e ≤ m
