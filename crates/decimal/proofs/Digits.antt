-- The digits of a number.
use Rattle.std.proofs.Common.{◌≡◌, ℕ, suc, zero, ◌+◌, ◌-◌, ◌*◌, ◌/◌, ◌%◌, ◌^◌, ◌<◌, ◌≤◌, List, [], ◌∷◌, ◌++◌, length, drop, set, decimal, refl, sym, ap, ◌∙◌, arith, pow-suc}
use Rattle.std.proofs.Math.ListN.{drop_of_length-le}
use Rattle.std.proofs.lemmas.List.{drop-set, length_push}
use Rattle.std.proofs.lemmas.Fmt.{decimal_digit, decimal_step}

-- one digit more than its tenth
pub length_step : (n : ℕ) → 10 ≤ n → n < 2 ^ 64 → length (decimal n) ≡ length (decimal (n / 10)) + 1
length_step n low high = ap length (decimal_step n low high) ∙ length_push (decimal (n / 10)) (48 + n % 10)

-- one digit more than the powers of ten that it reaches
pub length_power : (k n : ℕ) → 10 ^ k ≤ n → n < 10 * 10 ^ k → n < 2 ^ 64 → length (decimal n) ≡ k + 1
length_power zero n low high small = ap length (decimal_digit n (omega arith))
length_power (suc k) n low high small =
    let p = pow-suc 10 k in
    let more = length_power k (n / 10) (omega arith) (omega arith) (omega arith) in
    omega (arith, length_step n (omega arith) small)

-- 0 has one
pub length_zero : (n : ℕ) → n ≡ 0 → length (decimal n) ≡ 1
length_zero n e = ap length (decimal_digit n (omega arith))

one_set : (xs : List ℕ) (d : ℕ) → length xs ≡ 1 → set xs (length xs - 1) d ≡ d ∷ []
one_set [] d h = absurd (omega arith)
one_set (x ∷ []) d h = refl
one_set (x ∷ y ∷ xs) d h = absurd (omega arith)

-- the last byte of so many as there are digits
module _ (xs : List ℕ) (n d : ℕ) (long : length xs ≡ length (decimal n)) (digit : d ≡ 48 + n % 10) where
  -- of one digit it is the only one
  pub only_digit : n < 10 → set xs (length xs - 1) d ≡ decimal n
  only_digit low =
      let one = decimal_digit n low in
      let size = ap length one in
      let same : d ≡ 48 + n = omega arith in
      one_set xs d (omega arith) ∙ ap (λ b. b ∷ []) same ∙ sym one

  -- else it stands after the digits of a tenth of the number
  pub last_digit : (ws : List ℕ) → 10 ≤ n → n < 2 ^ 64 → ws ≡ decimal (n / 10) → ws ++ drop (length xs - 1) (set xs (length xs - 1) d) ≡ decimal n
  last_digit ws low high e =
      let step = length_step n low high in
      let inside : length xs - 1 < length xs = omega arith in
      let nothing = drop_of_length-le xs (let l : length xs ≤ length xs - 1 + 1 = omega arith in l) in
      let end = drop-set xs (length xs - 1) d inside in
      cc (decimal_step n low high)
