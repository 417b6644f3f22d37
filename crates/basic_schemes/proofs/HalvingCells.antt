-- A cell from its neighbour in the half, and one cell more in a row.
use Rattle.std.proofs.Common.{◌≡◌, ℕ, ◌+◌, ◌-◌, ◌*◌, ◌/◌, ◌^◌, ◌<◌, ◌≤◌, min, ◌⊎◌, List, length, take, set, Some, sym, refl, ap, ◌∙◌, subst, inl, inr, ⊎_elim, add-mul, arith}
use Rattle.std.specs.List.{slice_get}
use Rattle.std.proofs.lemmas.Nat.{pow_pos, shr_split, mod_below, shr_le}
use Rattle.std.proofs.Math.Nat.{div-eq_of_lt-le}
use Rattle.std.proofs.lemmas.Bool.{cases_eq}
use Rattle.semigroup.proofs.Places.{nth_set_same, nth_set_other, nth_take, take_same}
use Rattle.semigroup.proofs.Products.{over_one, over_more, over_less}
use Rattle.scheme.specs.Blocks.{start_of_block, end_of_block}
use Rattle.basic_schemes.specs.HalvingPlan.{reach}
use Rattle.basic_schemes.specs.HalvingRows.{Left, Right, reached, Redone, NextHolds, PriorHolds}
use Rattle.basic_schemes.specs.HalvingLayout.{reach_left, reach_right, reach_within, items_before}

-- ---- intervals of neighbours

-- the half of p has no other events than those between its start and its end
pub same_half : (h p q : ℕ) → start_of_block (2 ^ h) p ≤ q → q < start_of_block (2 ^ h) p + 2 ^ h → q / 2 ^ h ≡ p / 2 ^ h
same_half h p q l m = div-eq_of_lt-le (2 ^ h) l (omega (arith, add-mul (p / 2 ^ h) 1 (2 ^ h)))

pub left_from : (n h p : ℕ) → Left h p → (reach n h p).from ≡ p
left_from n h p e = ap (λ s. s.from) (reach_left n h p e)

pub right_to : (n h p : ℕ) → Right h p → (reach n h p).to ≡ p + 1
right_to n h p e = ap (λ s. s.to) (reach_right n h p (λ z. omega arith))

-- the cells of a left half have one end
pub left_to_same : (n h p q : ℕ) → Left h p → p / 2 ^ h ≡ q / 2 ^ h → (reach n h p).to ≡ (reach n h q).to
left_to_same n h p q e s =
    let f : Left h q = rw s at e in
    ap (λ s. s.to) (reach_left n h p e) ∙ ap (λ x. min n (x * 2 ^ h + 2 ^ h)) s ∙ sym (ap (λ s. s.to) (reach_left n h q f))

-- the cells of a right half have one start
pub right_from_same : (n h p q : ℕ) → Right h p → p / 2 ^ h ≡ q / 2 ^ h → (reach n h p).from ≡ (reach n h q).from
right_from_same n h p q e s =
    let f : Right h q = rw s at e in
    ap (λ s. s.from) (reach_right n h p (λ z. omega arith)) ∙ ap (λ x. x * 2 ^ h) s ∙ sym (ap (λ s. s.from) (reach_right n h q (λ z. omega arith)))

-- the first event is in a left half
pub right_past : (h p : ℕ) → Right h p → 0 < p
right_past h p e = ⊎_elim (λ (z : p ≡ 0). let d : p / 2 ^ h ≤ p = shr_le p h in omega arith) (λ k. omega arith) (cases_eq p 0)

-- ---- the product of a cell from its neighbour's

module _ {A : Type 0} (op : A → A → A) (n h : ℕ) (t : List A) where
  -- the last cell of a left half is its item
  pub left_one : (p : ℕ) (x : A) → p < n → Left h p → p + 1 ≡ end_of_block n (2 ^ h) p → slice_get t p ≡ Some x → reached op n (take n t) h p ≡ Some x
  left_one p x l e last f = rw (reach_left n h p e, ← last) (over_one op (take n t) p ∙ nth_take n t p l ∙ f)

  -- the first cell of a right half is its item
  pub right_one : (p : ℕ) (x : A) → p < n → Right h p → p ≡ start_of_block (2 ^ h) p → slice_get t p ≡ Some x → reached op n (take n t) h p ≡ Some x
  right_one p x l e first f = rw (reach_right n h p (λ z. omega arith), ← first) (over_one op (take n t) p ∙ nth_take n t p l ∙ f)

  module _ (assoc : (a b c : A) → op (op a b) c ≡ op a (op b c)) where
    -- any other is its item and the next cell, at c
    pub left_more : (p c : ℕ) (x y : A) → p < n → Left h p → (p + 1 ≡ end_of_block n (2 ^ h) p → ⊥) → slice_get t p ≡ Some x
        → c ≡ h * n + (p + 1) → slice_get t c ≡ Some y → NextHolds op n h (p + 1) t → reached op n (take n t) h p ≡ Some (op x y)
    left_more p c x y l e inner f at beside next =
        let m = reach_within n h p l in
        let end = ap (λ s. s.to) (reach_left n h p e) in
        let start = shr_split p h in
        let s : (p + 1) / 2 ^ h ≡ p / 2 ^ h = same_half h p (p + 1) (omega arith) (omega arith) in
        let g : Left h (p + 1) = rw s e in
        let d : reached op n (take n t) h (p + 1) ≡ Some y = sym (next (omega arith) g) ∙ ap (slice_get t) (sym at) ∙ beside in
        let w = reach_within n h (p + 1) (omega arith) in
        rw (left_from n h p e, left_to_same n h p (p + 1) e (sym s))
        (over_less op assoc (take n t) p (reach n h (p + 1)).to x y (omega arith) (nth_take n t p (omega arith) ∙ f) (rw (left_from n h (p + 1) g) at d))

    -- any other is the cell before, at c, and its item
    pub right_more : (p c : ℕ) (x y : A) → p < n → Right h p → (p ≡ start_of_block (2 ^ h) p → ⊥) → slice_get t p ≡ Some x
        → c ≡ h * n + (p - 1) → slice_get t c ≡ Some y → PriorHolds op n h p t → reached op n (take n t) h p ≡ Some (op y x)
    right_more p c x y l e inner f at beside prior =
        let start = shr_split p h in
        let m = mod_below p (2 ^ h) (pow_pos h) in
        let s : (p - 1) / 2 ^ h ≡ p / 2 ^ h = same_half h p (p - 1) (omega arith) (omega arith) in
        let g : Right h (p - 1) = rw s e in
        let past = right_past h p e in
        let d : reached op n (take n t) h (p - 1) ≡ Some y = sym (prior past g) ∙ ap (slice_get t) (sym at) ∙ beside in
        let w = reach_within n h (p - 1) (omega arith) in
        let back : p - 1 + 1 ≡ p = omega arith in
        rw (right_to n h p e, ← right_from_same n h (p - 1) p g s)
        (over_more op assoc (take n t) (reach n h (p - 1)).from p y x (omega arith) (rw (right_to n h (p - 1) g, back) at d) (nth_take n t p l ∙ f))

-- ---- one cell more

-- the events from a' up to b' are those from a up to b, and p at either end
pub record Grown (a b p a' b' : ℕ) : Type 0 where
  pub new : (a' ≤ p) × (p < b')
  pub out : (p < a) ⊎ (b ≤ p)
  pub more : (q : ℕ) → a ≤ q → q < b → (a' ≤ q) × (q < b')
  pub each : (q : ℕ) → a' ≤ q → q < b' → (q ≡ p) ⊎ ((a ≤ q) × (q < b))

pub grown_down : (a b p : ℕ) → a ≡ p + 1 → a ≤ b → Grown a b p p b
grown_down a b p e l = record { new = (omega arith, omega arith); out = inl (omega arith); more = λ q x y. (omega arith, y); each = λ q x y. grind arith }

pub grown_up : (a b : ℕ) → a ≤ b → Grown a b b a (b + 1)
grown_up a b l = record { new = (l, omega arith); out = inr (omega arith); more = λ q x y. (x, omega arith); each = λ q x y. grind arith }

module _ {A : Type 0} (op : A → A → A) (Side : ℕ → ℕ → Type 0) (n h : ℕ) (S : Type 0) (t t' : List A) where
  -- the items are as they were
  pub redone_items : {a b : ℕ} → 0 < h → Redone op Side n h a b S t t' → take n t' ≡ take n t
  redone_items up r =
      let past = items_before n h up in
      take_same n t' t (λ i l. r.kept i (λ q e x y s. omega arith))

  pub redone_none : (a : ℕ) → Redone op Side n h a a S t t
  redone_none a = record { holds = λ s q x y z. absurd (omega arith); kept = λ c no. refl }

  -- an event on the other side
  pub redone_skip : (a b p a' b' : ℕ) → Grown a b p a' b' → (Side h p → ⊥) → Redone op Side n h a b S t t' → Redone op Side n h a' b' S t t'
  redone_skip a b p a' b' g other r = record {
    holds = λ s q x y z. ⊎_elim (λ (e : q ≡ p). absurd (other (subst (Side h) e z))) (λ w. r.holds s q w.0 w.1 z) (g.each q x y);
    kept = λ c out. r.kept c (λ q e x y z. let m = g.more q x y in out q e m.0 m.1 z);
  }

  redone_more : (a b p a' b' : ℕ) (x : A) → Grown a b p a' b' → Side h p → h * n + p < length t' → (S → reached op n (take n t) h p ≡ Some x) → Redone op Side n h a b S t t' → Redone op Side n h a' b' S t (set t' (h * n + p) x)
  redone_more a b p a' b' x g side l made r = record {
    holds = λ s q u v z. ⊎_elim
        (λ (e : q ≡ p). rw e (nth_set_same t' (h * n + p) x l ∙ sym (made s)))
        (λ w. nth_set_other t' (h * n + p) (h * n + q) x (λ e. ⊎_elim (λ o. omega arith) (λ o. omega arith) g.out) ∙ r.holds s q w.0 w.1 z)
        (g.each q u v);
    kept = λ c out. nth_set_other t' (h * n + p) c x (λ e. out p e g.new.0 g.new.1 side)
        ∙ r.kept c (λ q e u v z. let m = g.more q u v in out q e m.0 m.1 z);
  }

-- ---- the two directions

module _ {A : Type 0} (op : A → A → A) (n h : ℕ) (t t' : List A) (a b : ℕ) (up : 0 < h) where
  next_holds : Redone op Left n h a b (NextHolds op n h b t) t t' → a ≤ b → NextHolds op n h b t → NextHolds op n h a t'
  next_holds r l s w side =
      let same = redone_items op Left n h (NextHolds op n h b t) t t' {a = a} {b = b} up r in
      rw same (⊎_elim
      (λ (e : a ≡ b). rw e (r.kept (h * n + b) (λ q x y z f. omega arith) ∙ s (omega arith) (rw e at side)))
      (λ (e : a ≡ b → ⊥). r.holds s a (omega arith) (omega arith) side)
      (cases_eq a b))

  -- a left half is computed downwards
  pub left_step : (p : ℕ) (x : A) → a ≡ p + 1 → a ≤ b → b ≤ n → h * n + n ≤ length t' → Left h p → (NextHolds op n h (p + 1) t' → reached op n (take n t') h p ≡ Some x)
      → Redone op Left n h a b (NextHolds op n h b t) t t' → Redone op Left n h p b (NextHolds op n h b t) t (set t' (h * n + p) x)
  left_step p x e l m room side made r =
      let same = redone_items op Left n h (NextHolds op n h b t) t t' {a = a} {b = b} up r in
      redone_more op Left n h (NextHolds op n h b t) t t' a b p p b x (grown_down a b p e l) side (omega arith)
      (λ s. rw same at (made (rw e at (next_holds r l s)))) r

  prior_holds : Redone op Right n h a b (PriorHolds op n h a t) t t' → a ≤ b → PriorHolds op n h a t → PriorHolds op n h b t'
  prior_holds r l s w side =
      let same = redone_items op Right n h (PriorHolds op n h a t) t t' {a = a} {b = b} up r in
      rw same (⊎_elim
      (λ (e : a ≡ b). rw (← e) (r.kept (h * n + (a - 1)) (λ q x y z f. omega arith) ∙ s (omega arith) (rw (← e) at side)))
      (λ (e : a ≡ b → ⊥). r.holds s (b - 1) (omega arith) (omega arith) side)
      (cases_eq a b))

  -- a right half is computed upwards
  pub right_step : (x : A) → a ≤ b → b < n → h * n + n ≤ length t' → Right h b → (PriorHolds op n h b t' → reached op n (take n t') h b ≡ Some x)
      → Redone op Right n h a b (PriorHolds op n h a t) t t' → Redone op Right n h a (b + 1) (PriorHolds op n h a t) t (set t' (h * n + b) x)
  right_step x l m room side made r =
      let same = redone_items op Right n h (PriorHolds op n h a t) t t' {a = a} {b = b} up r in
      redone_more op Right n h (PriorHolds op n h a t) t t' a b b a (b + 1) x (grown_up a b l) side (omega arith)
      (λ s. rw same at (made (prior_holds r l s))) r
