-- Eight phases packed by a fold, from the highest down.
use Rattle.std.proofs.Common.{◌≡◌, ℕ, zero, suc, ◌+◌, ◌-◌, ◌*◌, ◌%◌, ◌^◌, ◌<◌, ◌≤◌, List, [], ◌∷◌, Some, None, Option, map, length, bit_or, refl, sym, ap, subst, ◌∙◌, arith}
use Rattle.std.proofs.Math.Nat.{pow-le-pow_right}
use Rattle.std.proofs.lemmas.Nat.{shl_whole, or_shifted}
use Rattle.std.proofs.lemmas.Iterator.{YieldsList}
use Rattle.std.proofs.lemmas.Iterator.Consumers.{YieldsList-from_shown}
use Rattle.std.specs.List.{fold}
use Rattle.std.specs.Range.{range_steps_back}
use Rattle.std.specs.declared.iter.Rev.{Rev}
use Rattle.std.specs.declared.ops.Range.{Range}
use Rattle.kinds.specs.declared.phase_map.PhaseMap.{PhaseMap}
use Rattle.kinds.specs.Phases.{sends, packed}
use Rattle.kinds.specs.Phased.{packed_below, packed_same, sends_small}

-- the numbers below n, the highest first
abbrev pub down : ℕ → List ℕ
down zero = []
down (suc n) = n ∷ down n

-- ---- a range read from its end

abbrev pub Back : Rev (Range ℕ) → Option ℕ → Rev (Range ℕ) → Type 0
Back s r t = range_steps_back (λ a b. b - a) (λ a b. b ≡ a + 1) s.iter r t.iter

abbrev to_come : Rev (Range ℕ) → List ℕ
to_come s = map (λ k. s.iter.start + k) (down (s.iter.end - s.iter.start))

none_to_come : (s t : Rev (Range ℕ)) → Back s None t → length (to_come s) ≡ 0
none_to_come s t b = rw b.1.0

one_to_come : (s : Rev (Range ℕ)) (x : ℕ) (t : Rev (Range ℕ)) → Back s (Some x) t → to_come s ≡ x ∷ to_come t
one_to_come s x t b =
    let m : ℕ = t.iter.end - t.iter.start in
    let left : s.iter.end - s.iter.start ≡ suc m = omega arith in
    let here : s.iter.start + m ≡ x = omega arith in
    ap (λ n. map (λ k. s.iter.start + k) (down n)) left ∙ ap (λ y. y ∷ map (λ k. s.iter.start + k) (down m)) here ∙ ap (λ i. x ∷ map (λ k. i + k) (down m)) (sym b.0)

-- the numbers from 7 down
pub yields_down : (s : Rev (Range ℕ)) → s.iter ≡ record { start = 0; end = 8 } → YieldsList Back (λ x. x) s (down 8)
yields_down s e =
    let all : to_come s ≡ down 8 = rw e refl in
    subst (YieldsList Back (λ x. x) s) all (YieldsList-from_shown Back (λ x. x) to_come none_to_come one_to_come s)

-- ---- what the fold makes of them

module _ (h : ℕ → ℕ) (small : (q : ℕ) → h q < 8) where
  -- one phase below those so far
  shifted : (k : ℕ) → k < 8 → (p : ℕ) → p < 8 → bit_or (packed h k * 2 ^ 3 % 2 ^ 32) p ≡ p + 8 * packed h k
  shifted k l p s =
      let some : 0 < 8 = omega arith in
      let fits : k ≤ 7 = omega arith in
      let most : 8 ^ k ≤ 8 ^ 7 = pow-le-pow_right some fits in
      let room : packed h k < 2 ^ 21 = omega (arith, most, packed_below h small k) in
      rw (shl_whole (packed h k) 21 3 32 room (omega arith)) (or_shifted (packed h k) 3 p s ∙ omega arith)

  folded : (n k : ℕ) → k + n ≡ 8 → fold (λ b q. bit_or (b * 2 ^ 3 % 2 ^ 32) (h q)) (packed h k) (down n) ≡ packed h 8
  folded zero k e = let all : k ≡ 8 = omega arith in ap (packed h) all
  folded (suc n) k e =
      let place : n ≡ 7 - k = omega arith in
      let one : bit_or (packed h k * 2 ^ 3 % 2 ^ 32) (h n) ≡ packed h (suc k) = shifted k (omega arith) (h n) (small n) ∙ ap (λ q. h q + 8 * packed h k) place in
      ap (λ b. fold (λ b q. bit_or (b * 2 ^ 3 % 2 ^ 32) (h q)) b (down n)) one ∙ folded n (suc k) (omega arith)

-- one call of the closure, which reads each phase modulo 8
abbrev pub turn : PhaseMap → PhaseMap → ℕ → ℕ → ℕ
turn f g b q = bit_or (b * 2 ^ 3 % 2 ^ 32) (sends g (sends f (q % 8) % 8))

pub packed_fold : (f g : PhaseMap) → fold (turn f g) 0 (down 8) ≡ packed (λ q. sends g (sends f q)) 8
packed_fold f g =
    let read : ℕ → ℕ = λ q. sends g (sends f (q % 8) % 8) in
    let plain : ℕ → ℕ = λ q. sends g (sends f q) in
    let same : (q : ℕ) → q < 8 → read q ≡ plain q = λ q l.
    let a : q % 8 ≡ q = omega arith in
    let b : sends f q % 8 ≡ sends f q = omega (arith, sends_small f q) in
    rw a (ap (sends g) b)
    in
    folded read (λ q. sends_small g (sends f (q % 8) % 8)) 8 0 refl ∙ packed_same read plain same 8
