-- Layouts: their steps, and the step in which two events part.
use Rattle.std.proofs.Common.{◌≡◌, ℕ, zero, suc, ◌+◌, ◌/◌, ◌^◌, ◌<◌, ◌≤◌, true, false, cond, eqb, sym, refl, ap, ◌∙◌, ⊎_elim, div-one, add-one, one-add, arith}
use Rattle.std.proofs.lemmas.Bool.{eq-eqb, ne_eqb, cases_eq, eqb-true, eqb-false, cases_Bool}
use Rattle.layer_parts.specs.Layout.{exponent_at, steps_within, count_of_steps, parting_within, step_of_parting}

alone : (e i j : ℕ) → e ≡ 0 → (i ≡ j → ⊥) → i / 2 ^ e ≡ j / 2 ^ e → ⊥
alone e i j none ne same = ne (sym (div-one i) ∙ (rw none at same) ∙ div-one j)

two_more : (s : ℕ) → 1 + s + 1 ≡ suc (suc s)
two_more s = omega arith

steps_most : (child : ℕ → ℕ) (most e : ℕ) → steps_within child most e ≤ most
steps_most child zero e = omega arith
steps_most child (suc most) e = ⊎_elim
    (λ (t : eqb e 0 ≡ true). rw t (omega arith))
    (λ (f : eqb e 0 ≡ false). rw f (omega (arith, steps_most child most (child e))))
    (cases_Bool (eqb e 0))

-- there are no more steps than the exponent
pub steps_few : (child : ℕ → ℕ) (e : ℕ) → count_of_steps child e ≤ e
steps_few child e = steps_most child e e

-- the next exponent
pub exponent_next : (child : ℕ → ℕ) (e s : ℕ) → exponent_at child e (s + 1) ≡ child (exponent_at child e s)
exponent_next child e s = rw add-one

module _ (child : ℕ → ℕ) (falls : (e : ℕ) → 0 < e → e ≤ 16 → child e < e) where
  same_steps : (f g e : ℕ) → e ≤ f → e ≤ g → e ≤ 16 → steps_within child f e ≡ steps_within child g e
  same_steps zero zero e h k l = refl
  same_steps zero (suc g) e h k l = rw (eq-eqb e 0 (omega arith))
  same_steps (suc f) zero e h k l = rw (eq-eqb e 0 (omega arith))
  same_steps (suc f) (suc g) e h k l = ⊎_elim
      (λ (none : e ≡ 0). rw (eq-eqb e 0 none))
      (λ (some : e ≡ 0 → ⊥).
      let d = falls e (omega (arith, some)) l in
      ap (λ v. cond (eqb e 0) 0 (1 + v)) (same_steps f g (child e) (omega arith) (omega arith) (omega arith)))
      (cases_eq e 0)

  -- the first step, and then those of the layout from the child exponent
  pub steps_next : (e : ℕ) → 0 < e → e ≤ 16 → count_of_steps child e ≡ 1 + count_of_steps child (child e)
  steps_next zero h k = absurd (omega arith)
  steps_next (suc e) h k =
      let d = falls (suc e) h k in
      rw (ne_eqb (suc e) 0 (omega arith)) (ap (λ v. 1 + v) (same_steps e (child (suc e)) (child (suc e)) (omega arith) (omega arith) (omega arith)))

  shifted : (e s : ℕ) → exponent_at child e (suc s) ≡ exponent_at child (child e) s
  shifted e zero = refl
  shifted e (suc s) = ap child (shifted e s)

  -- the exponents of the steps are positive, and no higher than the first
  pub live : (s e : ℕ) → e ≤ 16 → s < count_of_steps child e → (0 < exponent_at child e s) × (exponent_at child e s ≤ e)
  live zero e h l = (omega (arith, steps_few child e), omega arith)
  live (suc s) e h l =
      let some : 0 < e = omega (arith, steps_few child e) in
      let d = falls e some h in
      let r = live s (child e) (omega arith) (omega (arith, steps_next e some h)) in
      rw (shifted e s) (r.0, omega (arith, r.1))

  -- in the step of two different events of one block of 2^e they are in one parent and in two children
  found : (most e i j : ℕ) → e ≤ most → e ≤ 16 → (i ≡ j → ⊥) → i / 2 ^ e ≡ j / 2 ^ e
      → (parting_within child most e i j < count_of_steps child e)
      × (i / 2 ^ exponent_at child e (parting_within child most e i j) ≡ j / 2 ^ exponent_at child e (parting_within child most e i j))
      × (i / 2 ^ exponent_at child e (parting_within child most e i j + 1) ≡ j / 2 ^ exponent_at child e (parting_within child most e i j + 1) → ⊥)
  found zero e i j h k ne same = absurd (alone e i j (omega arith) ne same)
  found (suc most) e i j h k ne same = ⊎_elim
      (λ (none : e ≡ 0). absurd (alone e i j none ne same))
      (λ (some : e ≡ 0 → ⊥).
      let d = falls e (omega (arith, some)) k in
      let deep = steps_next e (omega (arith, some)) k in
      ⊎_elim
      (λ (test : eqb (i / 2 ^ child e) (j / 2 ^ child e) ≡ true).
      let r = found most (child e) i j (omega arith) (omega arith) ne (eqb-true _ _ test) in
      let s = parting_within child most (child e) i j in
      let x : exponent_at child e (1 + s) ≡ exponent_at child (child e) s = ap (exponent_at child e) (one-add s) ∙ shifted e s in
      let y : exponent_at child e (1 + s + 1) ≡ exponent_at child (child e) (s + 1) =
      ap (exponent_at child e) (two_more s) ∙ shifted e (suc s) ∙ ap (exponent_at child (child e)) (sym (add-one s)) in
      rw (test, x, y) (omega (arith, r.0), r.1, r.2))
      (λ (test : eqb (i / 2 ^ child e) (j / 2 ^ child e) ≡ false).
      rw test (omega arith, same, eqb-false _ _ test))
      (cases_Bool (eqb (i / 2 ^ child e) (j / 2 ^ child e))))
      (cases_eq e 0)

  pub parting_found : (e i j : ℕ) → e ≤ 16 → (i ≡ j → ⊥) → i / 2 ^ e ≡ j / 2 ^ e
      → (step_of_parting child e i j < count_of_steps child e)
      × (i / 2 ^ exponent_at child e (step_of_parting child e i j) ≡ j / 2 ^ exponent_at child e (step_of_parting child e i j))
      × (i / 2 ^ exponent_at child e (step_of_parting child e i j + 1) ≡ j / 2 ^ exponent_at child e (step_of_parting child e i j + 1) → ⊥)
  parting_found e i j k ne same = found e e i j (omega arith) k ne same

  same_parting : (f g e i j : ℕ) → e ≤ f → e ≤ g → e ≤ 16 → (i ≡ j → ⊥) → i / 2 ^ e ≡ j / 2 ^ e → parting_within child f e i j ≡ parting_within child g e i j
  same_parting zero g e i j h k l ne same = absurd (alone e i j (omega arith) ne same)
  same_parting (suc f) zero e i j h k l ne same = absurd (alone e i j (omega arith) ne same)
  same_parting (suc f) (suc g) e i j h k l ne same = ⊎_elim
      (λ (none : e ≡ 0). absurd (alone e i j none ne same))
      (λ (some : e ≡ 0 → ⊥).
      let d = falls e (omega (arith, some)) l in
      ⊎_elim
      (λ (test : eqb (i / 2 ^ child e) (j / 2 ^ child e) ≡ true).
      rw test (ap (λ v. 1 + v) (same_parting f g (child e) i j (omega arith) (omega arith) (omega arith) ne (eqb-true _ _ test))))
      (λ (test : eqb (i / 2 ^ child e) (j / 2 ^ child e) ≡ false). rw test)
      (cases_Bool (eqb (i / 2 ^ child e) (j / 2 ^ child e))))
      (cases_eq e 0)

  -- where the children of a step do not part two events, a later step does
  pub parting_later : (e i j : ℕ) → 0 < e → e ≤ 16 → (i ≡ j → ⊥) → i / 2 ^ child e ≡ j / 2 ^ child e → step_of_parting child e i j ≡ 1 + step_of_parting child (child e) i j
  parting_later zero i j some few ne same = absurd (omega arith)
  parting_later (suc e) i j some few ne same =
      let d = falls (suc e) some few in
      rw (eq-eqb (i / 2 ^ child (suc e)) (j / 2 ^ child (suc e)) same)
      (ap (λ v. 1 + v) (same_parting e (child (suc e)) (child (suc e)) i j (omega arith) (omega arith) (omega arith) ne same))

  -- where they do, it is this step
  pub parting_here : (e i j : ℕ) → 0 < e → (i / 2 ^ child e ≡ j / 2 ^ child e → ⊥) → step_of_parting child e i j ≡ 0
  parting_here zero i j some apart = absurd (omega arith)
  parting_here (suc e) i j some apart = rw (ne_eqb (i / 2 ^ child (suc e)) (j / 2 ^ child (suc e)) apart)

-- ---- a walk down a layout

-- e is the exponent at place s of the layout from `top`
pub record AtStep (child : ℕ → ℕ) (top s e : ℕ) : Type 0 where
  pub exponent_is : e ≡ exponent_at child top s
  pub left : s + count_of_steps child e ≡ count_of_steps child top
  pub low : e ≤ 16

pub at_first : (child : ℕ → ℕ) (top : ℕ) → top ≤ 16 → AtStep child top 0 top
at_first child top low = record { exponent_is = refl; left = omega arith; low = low }

-- no step is left
pub at_end : (child : ℕ → ℕ) (top s e : ℕ) → AtStep child top s e → e ≡ 0 → s ≡ count_of_steps child top
at_end child top s e a none = omega (arith, a.left, steps_few child e)

module _ (child : ℕ → ℕ) (falls : (e : ℕ) → 0 < e → e ≤ 16 → child e < e) (top s e : ℕ) (a : AtStep child top s e) (some : 0 < e) where
  -- a step is left
  pub at_live : s < count_of_steps child top
  at_live = omega (arith, a.left, steps_next child falls e some a.low)

  -- the next step
  pub at_next : (f : ℕ) → f ≡ child e → AtStep child top (s + 1) f
  at_next f is = record {
    exponent_is = is ∙ ap child a.exponent_is ∙ sym (exponent_next child top s);
    left = omega (arith, a.left, steps_next child falls e some a.low, ap (count_of_steps child) is);
    low = omega (arith, a.low, falls e some a.low);
  }
