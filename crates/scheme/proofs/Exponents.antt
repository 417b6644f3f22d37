-- Binary digits, and the exponents of numbers of events.
use Rattle.std.proofs.Common.{◌≡◌, ℕ, zero, suc, ◌-◌, ◌^◌, ◌<◌, ◌≤◌, ⊎_elim, pow-suc, arith, pow_mono}
use lib.Count.{leading_length}
use Rattle.std.proofs.lemmas.Bool.{cases_lt}
use Rattle.scheme.specs.Exponent.{digits, exponent, LeastExponent}

pub digits_hold : (a : ℕ) → a < 2 ^ 32 → a < 2 ^ digits a
digits_hold a h = let t = leading_length 32 a h in let e : digits a ≡ t.0 = omega (arith, t.1) in rw e t.2

pub digits_least : (a m : ℕ) → a < 2 ^ 32 → a < 2 ^ m → digits a ≤ m
digits_least a m h l =
    let t = leading_length 32 a h in
    let e : digits a ≡ t.0 = omega (arith, t.1) in
    ⊎_elim
    (λ (g : m < digits a).
    let more : suc m ≤ t.0 = omega arith in
    absurd (omega (arith, t.3, pow_mono more, pow-suc 2 m)))
    (λ (g : digits a ≤ m). g)
    (cases_lt m (digits a))

pub exponent_least : (n : ℕ) → n ≤ 2 ^ 32 → LeastExponent n (exponent n)
exponent_least n b = record {
  enough = omega (arith, digits_hold (n - 1) (omega arith));
  least = λ m l. digits_least (n - 1) m (omega arith) (omega (arith, pow_some m));
}
  where
    pow_some : (m : ℕ) → 0 < 2 ^ m
    pow_some zero = omega arith
    pow_some (suc m) = omega (arith, pow_some m, pow-suc 2 m)

below_power : (k : ℕ) → k < 2 ^ k
below_power zero = omega arith
below_power (suc k) = omega (arith, below_power k, pow-suc 2 k)

-- exponents fall
pub exponent_falls : (e : ℕ) → 0 < e → e ≤ 2 ^ 32 → exponent e < e
exponent_falls e z b = omega (arith, digits_least (e - 1) (e - 1) (omega arith) (below_power (e - 1)))

-- the exponent of a number of events
pub exponent_few : (n : ℕ) → n ≤ 65536 → exponent n ≤ 16
exponent_few n b = (exponent_least n (omega arith)).least 16 (omega arith)
