-- Eight phases packed into bits, and read again.
use Rattle.std.specs.Prelude.{◌≡◌, ℕ, zero, suc, ◌+◌, ◌-◌, ◌*◌, ◌/◌, ◌%◌, ◌^◌, ◌<◌, ◌≤◌, List, [], ◌∷◌, ◌++◌, refl}
use Rattle.std.proofs.Common.{sym, ap, ◌∙◌, arith, pow-suc}
use Rattle.std.proofs.Math.Nat.{pow-le-pow_right}
use Rattle.std.proofs.lemmas.Nat.{shr-shr, mod_below}
use Rattle.kinds.specs.declared.phase_map.PhaseMap.{PhaseMap}
use Rattle.kinds.specs.declared.kind.Entry.{Entry}
use Rattle.kinds.specs.Phases.{phase_at, sends, packed, composed, phases_of, passed, Passes}

-- ---- the lowest phase, and those above it

lowest : (a b : ℕ) → a < 8 → phase_at (a + 8 * b) 0 ≡ a
lowest a b h = omega arith

above : (a b q : ℕ) → a < 8 → phase_at (a + 8 * b) (suc q) ≡ phase_at b q
above a b q h =
    let third : (a + 8 * b) / 2 ^ 3 ≡ b = omega arith in
    let place : 3 * suc q ≡ 3 + 3 * q = omega arith in
    let shifted = shr-shr (a + 8 * b) 3 (3 * q) in
    rw place (ap (λ x. x % 8) (sym shifted ∙ ap (λ x. x / 2 ^ (3 * q)) third))

-- ---- all eight

module _ (h : ℕ → ℕ) (small : (q : ℕ) → h q < 8) where
  read_packed : (k q : ℕ) → k ≤ 8 → q < k → phase_at (packed h k) q ≡ h (8 - k + q)
  read_packed zero q l m = absurd (omega arith)
  read_packed (suc k) zero l m = lowest (h (7 - k)) (packed h k) (small (7 - k)) ∙ ap h (omega arith)
  read_packed (suc k) (suc q) l m = above (h (7 - k)) (packed h k) q (small (7 - k)) ∙ read_packed k q (omega arith) (omega arith) ∙ ap h (omega arith)

  pub packed_below : (k : ℕ) → packed h k < 8 ^ k
  packed_below zero = omega arith
  packed_below (suc k) = omega (arith, pow-suc 8 k, packed_below k, small (7 - k))

pub packed_same : (h g : ℕ → ℕ) → ((q : ℕ) → q < 8 → h q ≡ g q) → (k : ℕ) → packed h k ≡ packed g k
packed_same h g same zero = refl
packed_same h g same (suc k) = let a = same (7 - k) (omega arith) in let b = packed_same h g same k in cc

pub sends_small : (f : PhaseMap) (q : ℕ) → sends f q < 8
sends_small f q = mod_below (f.bits / 2 ^ (3 * q)) 8 (omega arith)

-- first f, then g
pub sends_composed : (f g : PhaseMap) (q : ℕ) → q < 8 → sends (composed f g) q ≡ sends g (sends f q)
unfolding composed
sends_composed f g q l = read_packed (λ p. sends g (sends f p)) (λ p. sends_small g (sends f p)) 8 q (omega arith) l ∙ ap (λ p. sends g (sends f p)) (omega arith)

-- a composed map, as its bits are packed
pub composed_is : (f g : PhaseMap) → composed f g ≡ record { bits = packed (λ q. sends g (sends f q)) 8 }
unfolding composed
composed_is f g = refl

pub composed_assoc : (a b c : PhaseMap) → composed (composed a b) c ≡ composed a (composed b c)
composed_assoc a b c =
    let left : ℕ → ℕ = λ q. sends c (sends (composed a b) q) in
    let right : ℕ → ℕ = λ q. sends (composed b c) (sends a q) in
    let same = packed_same left right (λ q l. ap (sends c) (sends_composed a b q l) ∙ sym (sends_composed b c (sends a q) (sends_small a q))) 8 in
    let made : ℕ → PhaseMap = λ n. record { bits = n } in
    composed_is (composed a b) c ∙ ap made same ∙ sym (composed_is a (composed b c))

-- ---- composing from the highest phase down

module _ (f g : PhaseMap) (n bits : ℕ) (low : 0 < n) (high : n ≤ 8) (done : bits ≡ packed (λ q. sends g (sends f q)) (8 - n)) where
  -- the bits leave room for one phase more
  pub packed_room : bits < 2 ^ 21
  packed_room =
      let some : 0 < 8 = omega arith in
      let fits : 8 - n ≤ 7 = omega arith in
      let most : 8 ^ (8 - n) ≤ 8 ^ 7 = pow-le-pow_right some fits in
      omega (arith, done, packed_below (λ q. sends g (sends f q)) (λ q. sends_small g (sends f q)) (8 - n))

  -- one phase more, by way of the phase x that f reaches
  pub packed_more : (x y : ℕ) → x ≡ sends f ((n - 1) % 8) → x < 8 → y ≡ sends g (x % 8) → 8 * bits + y ≡ packed (λ q. sends g (sends f q)) (8 - (n - 1))
  packed_more x y first small second =
      let from : (n - 1) % 8 ≡ n - 1 = omega arith in
      let between : x % 8 ≡ x = omega arith in
      let reached : y ≡ sends g (sends f (n - 1)) = second ∙ ap (sends g) (between ∙ first ∙ ap (sends f) from) in
      let next : 8 - (n - 1) ≡ suc (8 - n) = omega arith in
      let place : 7 - (8 - n) ≡ n - 1 = omega arith in
      rw (next, place) (omega (arith, reached, ap (λ b. 8 * b) done))

-- ---- one event more

passed_push : (es : List Entry) (e : Entry) (q : ℕ) → passed (es ++ (e ∷ [])) q ≡ phase_at e.code.phase_map (passed es q)
passed_push [] e q = refl
passed_push (d ∷ es) e q = passed_push es e (phase_at d.code.phase_map q)

pub passes_one : (e : Entry) → Passes (e ∷ []) (phases_of e)
passes_one e q l = refl

pub passes_more : (es : List Entry) (m : PhaseMap) (e : Entry) → Passes es m → Passes (es ++ (e ∷ [])) (composed m (phases_of e))
passes_more es m e h q l = sends_composed m (phases_of e) q l ∙ ap (phase_at e.code.phase_map) (h q l) ∙ sym (passed_push es e q)
