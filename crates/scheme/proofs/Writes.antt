-- Writes that follow one another, writes to a part of a table, and parts that stay as they are.
use Rattle.std.proofs.Common.{◌≡◌, ℕ, ◌+◌, ◌-◌, ◌<◌, ◌≤◌, List, ◌++◌, length, take, drop, set, Some, Option, sym, refl, ◌∙◌, ⊎_elim, add-zero, zero-add, arith, length-append, length-drop, length-take}
use borrow.Rule.Slice.PartMut.{put_mid}
use Rattle.std.specs.List.{slice_get}
use Rattle.std.proofs.lemmas.List.{length-take-le}
use Rattle.std.proofs.lemmas.Bool.{cases_lt, cases_eq}
use Rattle.semigroup.proofs.Places.{nth_set_same, nth_set_other, nth_take, nth_drop, nth_left, nth_right, take_same}
use Rattle.semigroup.proofs.Products.{over_one}
use Rattle.scheme.specs.Plan.{Part, single}
use Rattle.scheme.specs.Table.{Written, Filled, Holds}

-- ---- one place after another

module _ {A : Type 0} (value : ℕ → Option A) (at : ℕ) (before : List A) where
  pub written_none : Written value 0 at before before
  written_none = record { holds = λ c h. absurd (omega arith); below = λ c h. refl; above = λ c h. refl }

  -- one place more
  pub written_more : (k : ℕ) (t : List A) (v : A) → Written value k at before t → at + k < length t → value k ≡ Some v → Written value (k + 1) at before (set t (at + k) v)
  written_more k t v f room e = record {
    holds = λ c h. ⊎_elim
        (λ (same : c ≡ k). rw same (nth_set_same t (at + k) v room ∙ sym e))
        (λ (other : c ≡ k → ⊥). nth_set_other t (at + k) (at + c) v (omega (arith, other)) ∙ f.holds c (omega (arith, other)))
        (cases_eq c k);
    below = λ c h. nth_set_other t (at + k) c v (omega arith) ∙ f.below c h;
    above = λ c h. nth_set_other t (at + k) c v (omega arith) ∙ f.above c (omega arith);
  }

  -- one place more, at the front: of n places those from m on are written
  pub written_less : (n m k : ℕ) → m ≡ k + 1 → (t : List A) (v : A) → Written (λ c. value (m + c)) (n - m) (at + m) before t → at + k < length t → k < n
      → value k ≡ Some v → Written (λ c. value (k + c)) (n - k) (at + k) before (set t (at + k) v)
  written_less n m k em t v f room low e = record {
    holds = λ c h. ⊎_elim
        (λ (same : c ≡ 0). rw (same, add-zero (at + k), add-zero k) (nth_set_same t (at + k) v room ∙ sym e))
        (λ (other : c ≡ 0 → ⊥).
        let place : at + k + c ≡ at + m + (c - 1) = omega (arith, other) in
        let next : k + c ≡ m + (c - 1) = omega (arith, other) in
        nth_set_other t (at + k) (at + k + c) v (omega (arith, other)) ∙ rw (place, next) (f.holds (c - 1) (omega (arith, other))))
        (cases_eq c 0);
    below = λ c h. nth_set_other t (at + k) c v (omega arith) ∙ f.below c (omega arith);
    above = λ c h. nth_set_other t (at + k) c v (omega arith) ∙ f.above c (omega arith);
  }

  -- all places, once none is left in front
  pub written_whole : (n k : ℕ) (t : List A) → k ≡ 0 → Written (λ c. value (k + c)) (n - k) (at + k) before t → Written value n at before t
  written_whole n k t e f = record {
    holds = λ c h. rw (e, add-zero, zero-add) at (f.holds c (omega arith));
    below = λ c h. f.below c (omega arith);
    above = λ c h. f.above c (omega arith);
  }

-- the same values by another name
pub written_as : {A : Type 0} (v value : ℕ → Option A) (size at : ℕ) (before after : List A) → ((c : ℕ) → c < size → v c ≡ value c) → Written v size at before after → Written value size at before after
written_as v value size at before after e f = record { holds = λ c h. f.holds c h ∙ e c h; below = f.below; above = f.above }

-- a write over one that lies within it
pub written_over : {A : Type 0} (v value : ℕ → Option A) (m size at : ℕ) (before t after : List A) → m ≤ size
    → Written v m at before t → Written value size at t after → Written value size at before after
written_over v value m size at before t after h f g = record {
  holds = g.holds;
  below = λ c k. g.below c k ∙ f.below c k;
  above = λ c k. g.above c k ∙ f.above c (omega arith);
}

-- ---- a part of a slice

-- after a write to the places a..a+k
module _ {A : Type 0} (a k : ℕ) (xs ys : List A) (inside : a ≤ length xs) where
  pub nth_part_below : (c : ℕ) → c < a → slice_get (put_mid a k xs ys) c ≡ slice_get xs c
  nth_part_below c h =
      let l = length-take-le a xs inside in
      nth_left (take a xs) _ c (omega arith) ∙ nth_take a xs c h

  past_front : (zs : List A) (c : ℕ) → slice_get (take a xs ++ zs) (a + c) ≡ slice_get zs c
  past_front zs c = rw (length-take-le a xs inside) at (nth_right (take a xs) zs c)

  pub nth_part : (c : ℕ) → c < length ys → slice_get (put_mid a k xs ys) (a + c) ≡ slice_get ys c
  nth_part c h = past_front _ c ∙ nth_left ys _ c h

  pub nth_part_above : (c : ℕ) → length ys ≡ k → a + k ≤ c → slice_get (put_mid a k xs ys) c ≡ slice_get xs c
  nth_part_above c e h =
      let r : c ≡ a + (k + (c - a - k)) = omega arith in
      let z : slice_get (ys ++ drop k (drop a xs)) (k + (c - a - k)) ≡ slice_get (drop k (drop a xs)) (c - a - k) = rw e at (nth_right ys (drop k (drop a xs)) (c - a - k)) in
      let s : slice_get (put_mid a k xs ys) (a + (k + (c - a - k))) ≡ slice_get xs (a + (k + (c - a - k))) =
      past_front _ (k + (c - a - k)) ∙ z ∙ nth_drop k (drop a xs) (c - a - k) ∙ nth_drop a xs (k + (c - a - k)) in
      rw r s

-- a write to a part keeps the length
pub length_part : {A : Type 0} (a k : ℕ) (xs ys : List A) → a + k ≤ length xs → length ys ≡ length (take k (drop a xs)) → length (put_mid a k xs ys) ≡ length xs
length_part a k xs ys room kept =
    let same : length ys ≡ k = kept ∙ simp (length-take, length-drop) (omega arith) in
    simp (length-append, length-take, length-drop) (omega arith)

-- what a call wrote into `&mut t[a..a+k]`, as a write into t
pub written_part : {A : Type 0} (value : ℕ → Option A) (size a k : ℕ) (t ys : List A) → Written value size 0 (take k (drop a t)) ys
    → size ≤ k → a + k ≤ length t → length ys ≡ length (take k (drop a t)) → Written value size a t (put_mid a k t ys)
written_part value size a k t ys f fits room kept =
    let inside : a ≤ length t = omega arith in
    let same : length ys ≡ k = kept ∙ simp (length-take, length-drop) (omega arith) in
    record {
      holds = λ c h. nth_part a k t ys inside c (omega arith) ∙ (rw zero-add at (f.holds c h));
      below = λ c h. nth_part_below a k t ys inside c h;
      above = λ c h. ⊎_elim
          (λ (among : c < a + k).
          let e : c ≡ a + (c - a) = omega arith in
          let q : slice_get (put_mid a k t ys) (a + (c - a)) ≡ slice_get t (a + (c - a)) =
          nth_part a k t ys inside (c - a) (omega arith) ∙ f.above (c - a) (omega arith) ∙ nth_take k (drop a t) (c - a) (omega arith) ∙ nth_drop a t (c - a) in
          rw e q)
          (λ (past : a + k ≤ c). nth_part_above a k t ys inside c same past)
          (cases_lt c (a + k));
    }

-- ---- parts of a table

-- what was filled from the items of a table is so from those of another that has the same
pub filled_items : {A : Type 0} (op : A → A → A) (n : ℕ) (p : Part) (at from : ℕ) (before t after : List A) → ((c : ℕ) → c < from → slice_get t c ≡ slice_get before c) → n ≤ from
    → Filled op (take n t) p at t after → Filled op (take n before) p at t after
filled_items op n p at from before t after kept le f = rw (take_same n t before (λ c h. kept c (omega arith))) at f

-- a part past the items, once filled, holds the products of the table's own items
pub filled_holds : {A : Type 0} (op : A → A → A) (n : ℕ) (p : Part) (at : ℕ) (before after : List A) → n ≤ at
    → Filled op (take n before) p at before after → Holds op (take n after) p at after
filled_holds op n p at before after le f = λ c h. rw (take_same n after before (λ i l. f.below i (omega arith))) (f.holds c h)

-- a part below a write, over items below it, holds what it held
pub holds_kept : {A : Type 0} (op : A → A → A) (n : ℕ) (p : Part) (from at : ℕ) (before t : List A) → Holds op (take n before) p from before
    → ((c : ℕ) → c < at → slice_get t c ≡ slice_get before c) → n ≤ at → from + p.size ≤ at → Holds op (take n t) p from t
holds_kept op n p from at before t f kept items room = λ c h.
    rw (take_same n t before (λ i l. kept i (omega arith))) (kept (from + c) (omega arith) ∙ f c h)

-- items stand for themselves
pub items_filled : {A : Type 0} (op : A → A → A) (n : ℕ) (t : List A) → Filled op (take n t) (record { size = n; span = single }) 0 t t
items_filled op n t = record {
  holds = λ c h. rw zero-add (sym (over_one op (take n t) c ∙ nth_take n t c h));
  below = λ c h. refl;
  above = λ c h. refl;
}
