-- Numbers with leading zeros, digit by digit.
use Rattle.std.proofs.Common.{◌≡◌, ℕ, ◌+◌, ◌-◌, ◌/◌, ◌%◌, ◌^◌, ◌<◌, ◌≤◌, false, List, [], ◌∷◌, ◌++◌, length, replicate, codes, ap, ◌∙◌, ⊎_elim, arith, append-nil, length-append, append_assoc, decimal}
use Rattle.std.proofs.lemmas.Bool.{cases_lt}
use Rattle.std.specs.Fmt.{format_spec, padded_integral, char_count}
use Rattle.std.proofs.lemmas.Fmt.{decimal_digit, decimal_step, decimal_nonempty}
use Rattle.listing.specs.Parts.{time_text}

-- a numeral, with zeros before it up to a width
abbrev wide : ℕ → List ℕ → List ℕ
wide width numeral = padded_integral (format_spec 32 0 4 width (2 ^ 64 - 1)) false [] numeral

padded_zeros : (width : ℕ) (numeral : List ℕ) → wide width numeral ≡ replicate (width - length numeral) 48 ++ numeral
unfolding padded_integral char_count
padded_zeros width numeral =
    let left : width - length numeral - 0 - 0 ≡ width - length numeral = omega arith in
    rw (append-nil, left)

of_length : (width left : ℕ) (numeral : List ℕ) → width - length numeral ≡ left → wide width numeral ≡ replicate left 48 ++ numeral
of_length width left numeral e = padded_zeros width numeral ∙ ap (λ k. replicate k 48 ++ numeral) e

two_digits : (n : ℕ) → n < 2 ^ 64 → wide 2 (decimal n) ≡ decimal (n / 10) ++ decimal (n % 10)
two_digits n small = ⊎_elim (few n) (many n small) (cases_lt n 10)
  where
    few : (n : ℕ) → n < 10 → wide 2 (decimal n) ≡ decimal (n / 10) ++ decimal (n % 10)
    few n one =
        let high : n / 10 ≡ 0 = omega arith in
        let low : n % 10 ≡ n = omega arith in
        rw (high, low, decimal_digit 0 (omega arith), decimal_digit n one) (padded_zeros 2 ((48 + n) ∷ []))

    many : (n : ℕ) → n < 2 ^ 64 → 10 ≤ n → wide 2 (decimal n) ≡ decimal (n / 10) ++ decimal (n % 10)
    many n small more =
        let some : 0 < length (decimal (n / 10)) = decimal_nonempty (n / 10) (omega arith) in
        let digit : n % 10 < 10 = omega arith in
        let long : length (decimal n) ≡ length (decimal (n / 10)) + 1 = rw (decimal_step n more small) (length-append (decimal (n / 10)) ((48 + n % 10) ∷ [])) in
        rw (decimal_digit (n % 10) digit, ← decimal_step n more small) (of_length 2 0 (decimal n) (omega arith))

three_digits : (n : ℕ) → n < 1000 → wide 3 (decimal n) ≡ decimal (n / 100) ++ (decimal (n / 10 % 10) ++ decimal (n % 10))
three_digits n small = ⊎_elim (one n) (λ m. ⊎_elim (two n m) (three n small) (cases_lt n 100)) (cases_lt n 10)
  where
    one : (n : ℕ) → n < 10 → wide 3 (decimal n) ≡ decimal (n / 100) ++ (decimal (n / 10 % 10) ++ decimal (n % 10))
    one n few =
        let high : n / 100 ≡ 0 = omega arith in
        let middle : n / 10 % 10 ≡ 0 = omega arith in
        let low : n % 10 ≡ n = omega arith in
        rw (high, middle, low, decimal_digit 0 (omega arith), decimal_digit n few) (padded_zeros 3 ((48 + n) ∷ []))

    two : (n : ℕ) → 10 ≤ n → n < 100 → wide 3 (decimal n) ≡ decimal (n / 100) ++ (decimal (n / 10 % 10) ++ decimal (n % 10))
    two n more few =
        let high : n / 100 ≡ 0 = omega arith in
        let middle : n / 10 % 10 ≡ n / 10 = omega arith in
        let left : n / 10 < 10 = omega arith in
        let right : n % 10 < 10 = omega arith in
        rw (high, middle, decimal_digit 0 (omega arith), decimal_step n more (omega arith), decimal_digit (n / 10) left, decimal_digit (n % 10) right) (padded_zeros 3 ((48 + n / 10) ∷ ((48 + n % 10) ∷ [])))

    three : (n : ℕ) → n < 1000 → 100 ≤ n → wide 3 (decimal n) ≡ decimal (n / 100) ++ (decimal (n / 10 % 10) ++ decimal (n % 10))
    three n small more =
        let high : n / 10 / 10 ≡ n / 100 = omega arith in
        let left : n / 100 < 10 = omega arith in
        let middle : n / 10 % 10 < 10 = omega arith in
        let right : n % 10 < 10 = omega arith in
        rw (decimal_step n (omega arith) (omega arith), decimal_step (n / 10) (omega arith) (omega arith), high, decimal_digit (n / 100) left, decimal_digit (n / 10 % 10) middle, decimal_digit (n % 10) right)
        (padded_zeros 3 ((48 + n / 100) ∷ ((48 + n / 10 % 10) ∷ ((48 + n % 10) ∷ []))))

-- the time of day as its parts are written, with 2, 2, 2 and 3 digits
pub time_is : (t : ℕ) → t < 2 ^ 32
    → wide 2 (decimal (t / 3600000)) ++ (codes ":" ++ (wide 2 (decimal (t / 60000 % 60)) ++ (codes ":" ++ (wide 2 (decimal (t / 1000 % 60)) ++ (codes "." ++ wide 3 (decimal (t % 1000))))))) ≡ time_text t
time_is t small =
    let h1 : t / 3600000 / 10 ≡ t / 36000000 = omega arith in
    let m1 : t / 60000 % 60 / 10 ≡ t / 600000 % 6 = omega arith in
    let m0 : t / 60000 % 60 % 10 ≡ t / 60000 % 10 = omega arith in
    let s1 : t / 1000 % 60 / 10 ≡ t / 10000 % 6 = omega arith in
    let s0 : t / 1000 % 60 % 10 ≡ t / 1000 % 10 = omega arith in
    let d2 : t % 1000 / 100 ≡ t / 100 % 10 = omega arith in
    let d1 : t % 1000 / 10 % 10 ≡ t / 10 % 10 = omega arith in
    let d0 : t % 1000 % 10 ≡ t % 10 = omega arith in
    let hours : t / 3600000 < 2 ^ 64 = omega arith in
    let minutes : t / 60000 % 60 < 2 ^ 64 = omega arith in
    let seconds : t / 1000 % 60 < 2 ^ 64 = omega arith in
    let millis : t % 1000 < 1000 = omega arith in
    rw (two_digits (t / 3600000) hours, two_digits (t / 60000 % 60) minutes, two_digits (t / 1000 % 60) seconds, three_digits (t % 1000) millis, h1, m1, m0, s1, s0, d2, d1, d0) (simp append_assoc)
