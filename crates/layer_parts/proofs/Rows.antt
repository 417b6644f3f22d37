-- Prefix and suffix cells, computed one from the other.
use Rattle.std.proofs.Common.{◌≡◌, ℕ, zero, suc, ◌+◌, ◌-◌, ◌*◌, ◌<◌, ◌≤◌, List, length, take, set, Some, sym, refl, ap, ◌∙◌, inl, inr, ⊎_elim, zero-mul, arith}
use native.Mathlib.Nat.{zero-div}
use Rattle.std.specs.List.{slice_get}
use Rattle.std.proofs.lemmas.Bool.{cases_eq, cases_lt}
use Rattle.semigroup.specs.Product.{over}
use Rattle.semigroup.proofs.Places.{nth_set_same, nth_set_other, nth_take, take_same}
use Rattle.semigroup.proofs.Products.{over_one, over_more, over_less, over_set_out}
use Rattle.scheme.specs.Plan.{Part}
use Rattle.scheme.specs.Table.{Filled, due}
use Rattle.scheme.specs.Blocks.{start_of_block, end_of_block}
use Rattle.layer_parts.specs.Parts.{prefixes, suffixes}
use Rattle.layer_parts.specs.Writes.{PriorHolds, NextHolds, Redone, PartRenewed}
use Rattle.layer_parts.proofs.Blocks.{block_low, block_high, block_same, block_after}

-- ---- one cell more

module _ {A : Type 0} (op : A → A → A) (items : List A) (part : Part) (at : ℕ) (Start : Type 0) (before : List A) where
  pub redone_none : (k : ℕ) → Redone op items part at k k Start before before
  redone_none k = record { holds = λ s c l h. absurd (omega arith); below = λ c h. refl; above = λ c h. refl }

  -- one cell more at the end
  pub redone_up : (first k : ℕ) (t : List A) (v : A) → first ≤ k → at + k < length t → Redone op items part at first k Start before t
      → (Start → due op items part.span k ≡ Some v) → Redone op items part at first (k + 1) Start before (set t (at + k) v)
  redone_up first k t v low room f e = record {
    holds = λ s c l h. ⊎_elim
        (λ (same : c ≡ k). rw same (nth_set_same t (at + k) v room ∙ sym (e s)))
        (λ (other : c ≡ k → ⊥). nth_set_other t (at + k) (at + c) v (omega (arith, other)) ∙ f.holds s c l (omega (arith, other)))
        (cases_eq c k);
    below = λ c h. nth_set_other t (at + k) c v (omega arith) ∙ f.below c h;
    above = λ c h. nth_set_other t (at + k) c v (omega arith) ∙ f.above c (omega arith);
  }

  -- one cell more at the front
  pub redone_down : (m k last : ℕ) (t : List A) (v : A) → m ≡ k + 1 → m ≤ last → at + k < length t → Redone op items part at m last Start before t
      → (Start → due op items part.span k ≡ Some v) → Redone op items part at k last Start before (set t (at + k) v)
  redone_down m k last t v next low room f e = record {
    holds = λ s c l h. ⊎_elim
        (λ (same : c ≡ k). rw same (nth_set_same t (at + k) v room ∙ sym (e s)))
        (λ (other : c ≡ k → ⊥). nth_set_other t (at + k) (at + c) v (omega (arith, other)) ∙ f.holds s c (omega (arith, other)) h)
        (cases_eq c k);
    below = λ c h. nth_set_other t (at + k) c v (omega arith) ∙ f.below c (omega arith);
    above = λ c h. nth_set_other t (at + k) c v (omega arith) ∙ f.above c (omega arith);
  }

  -- cells past the items leave the items
  pub redone_items : (n first last : ℕ) (t : List A) → n ≤ at → Redone op items part at first last Start before t → take n t ≡ take n before
  redone_items n first last t past f = take_same n t before (λ i h. f.below i (omega arith))

  -- all cells
  pub redone_filled : (last : ℕ) (t : List A) → last ≡ part.size → Start → Redone op items part at 0 last Start before t → Filled op items part at before t
  redone_filled last t all s f = record {
    holds = λ c h. f.holds s c (omega arith) (omega arith);
    below = λ c h. f.below c (omega arith);
    above = λ c h. f.above c (omega arith);
  }

-- ---- prefix cells

pub block_some : (w p : ℕ) → (start_of_block w p ≡ p → ⊥) → 0 < p
block_some w zero h = absurd (h (ap (λ k. k * w) (zero-div w) ∙ zero-mul w))
block_some w (suc p) h = omega arith

-- the event before one that begins no block is in the same block
block_prior : (w p : ℕ) → 0 < w → (start_of_block w p ≡ p → ⊥) → start_of_block w (p - 1) ≡ start_of_block w p
block_prior w p pos h =
    let low = block_low w p in
    let high = block_high w p pos in
    block_same w p (p - 1) (omega (arith, h)) (omega arith)

-- the event after one that ends no block is in the same block
block_next : (n w p : ℕ) → 0 < w → p < n → (end_of_block n w p ≡ p + 1 → ⊥) → (p + 1 < n) × (start_of_block w (p + 1) ≡ start_of_block w p)
block_next n w p pos h inside =
    let low = block_low w p in
    let high = block_high w p pos in
    (omega (arith, inside), block_same w p (p + 1) (omega arith) (omega (arith, inside)))

module _ {A : Type 0} (op : A → A → A) (assoc : (a b c : A) → op (op a b) c ≡ op a (op b c)) (n w at : ℕ) (pos : 0 < w) (t : List A) where
  -- the first of a block is its item
  pub prefix_first : (p : ℕ) (x : A) → p < n → slice_get t p ≡ Some x → start_of_block w p ≡ p → due op (take n t) (prefixes n w).span p ≡ Some x
  prefix_first p x h item first = rw first (over_one op (take n t) p ∙ nth_take n t p h ∙ item)

  -- any other is the cell before it combined with the item
  pub prefix_next : (p : ℕ) (x y : A) → p < n → slice_get t p ≡ Some x → slice_get t (at + (p - 1)) ≡ Some y → (start_of_block w p ≡ p → ⊥)
      → PriorHolds op (take n t) n w at p t → due op (take n t) (prefixes n w).span p ≡ Some (op y x)
  prefix_next p x y h item cell inside ready =
      let some = block_some w p inside in
      let one : p - 1 + 1 ≡ p = omega arith in
      let left : over op (take n t) (start_of_block w p) p ≡ Some y = sym (rw (block_prior w p pos inside, one) at (ready inside)) ∙ cell in
      over_more op assoc (take n t) (start_of_block w p) p y x (block_low w p) left (nth_take n t p h ∙ item)

  -- the last of a block is its item
  pub suffix_last : (p : ℕ) (x : A) → p < n → slice_get t p ≡ Some x → end_of_block n w p ≡ p + 1 → due op (take n t) (suffixes n w).span p ≡ Some x
  suffix_last p x h item last = rw last (over_one op (take n t) p ∙ nth_take n t p h ∙ item)

  -- any other is the item combined with the cell after it
  pub suffix_next : (p : ℕ) (x y : A) → p < n → slice_get t p ≡ Some x → slice_get t (at + (p + 1)) ≡ Some y → (end_of_block n w p ≡ p + 1 → ⊥)
      → NextHolds op (take n t) n w at p t → due op (take n t) (suffixes n w).span p ≡ Some (op x y)
  suffix_next p x y h item cell inside ready =
      let next = block_next n w p pos h inside in
      let right : over op (take n t) (p + 1) (end_of_block n w p) ≡ Some y = sym (rw next.1 at (ready inside)) ∙ cell in
      over_less op assoc (take n t) p (end_of_block n w p) x y (omega (arith, block_high w p pos, inside)) (nth_take n t p h ∙ item) right

-- ---- turns of the loops

module _ {A : Type 0} (op : A → A → A) (n w at : ℕ) (pos : 0 < w) (past : n ≤ at) (before t : List A) where
  -- the cell before p's is ready: it was computed, or was ready at the start
  pub prior_ready : (first p : ℕ) → first ≤ p
      → Redone op (take n before) (prefixes n w) at first p (PriorHolds op (take n before) n w at first before) before t
      → PriorHolds op (take n before) n w at first before → PriorHolds op (take n t) n w at p t
  prior_ready first p low f s inside =
      let some = block_some w p inside in
      rw (redone_items op (take n before) (prefixes n w) at _ before n first p t past f) (⊎_elim
      (λ (same : p ≡ first). f.below (at + (p - 1)) (omega arith) ∙ (rw (sym same) at s) inside)
      (λ (later : p ≡ first → ⊥). f.holds s (p - 1) (omega (arith, later)) (omega arith))
      (cases_eq p first))

  -- the cell after p's is ready: it was computed, or was ready at the start
  pub next_ready : (p last : ℕ) → p < last
      → Redone op (take n before) (suffixes n w) at (p + 1) last (NextHolds op (take n before) n w at (last - 1) before) before t
      → NextHolds op (take n before) n w at (last - 1) before → NextHolds op (take n t) n w at p t
  next_ready p last low f s inside =
      rw (redone_items op (take n before) (suffixes n w) at _ before n (p + 1) last t past f) (⊎_elim
      (λ (same : p + 1 ≡ last).
      let e : last - 1 ≡ p = omega arith in
      f.above (at + (p + 1)) (omega arith) ∙ (rw e at s) inside)
      (λ (later : p + 1 ≡ last → ⊥). f.holds s (p + 1) (omega arith) (omega (arith, later)))
      (cases_eq (p + 1) last))

  -- at the first event and at the last, nothing need be ready
  pub prior_start : PriorHolds op (take n before) n w at 0 before
  prior_start inside = absurd (omega (arith, block_some w 0 inside))

  pub next_end : 0 < n → NextHolds op (take n before) n w at (n - 1) before
  next_end some inside = absurd (inside (omega (arith, block_high w (n - 1) pos)))

-- ---- after an update of event p

module _ {A : Type 0} (op : A → A → A) (n w at p : ℕ) (pos : 0 < w) (low : p < n) (t t' : List A) where
  -- the prefix cells from p up to its block's end are those with p in them
  pub prefixes_renewed : Redone op (take n t) (prefixes n w) at p (end_of_block n w p) (PriorHolds op (take n t) n w at p t) t t'
      → PartRenewed op n p (prefixes n w) at (Unit {0}) t t'
  prefixes_renewed f = record {
    holds = λ _ items x len same held c h. ⊎_elim
        (λ (r : c < p). f.below (at + c) (omega arith) ∙ held c h ∙ sym (over_set_out op items p x (start_of_block w c) (c + 1) (inr (omega arith))))
        (λ (r : p ≤ c). ⊎_elim
        (λ (q : c < end_of_block n w p). rw same at (f.holds (λ inside. rw same (held (p - 1) (omega arith)
        ∙ sym (over_set_out op items p x (start_of_block w (p - 1)) (p - 1 + 1) (inr (omega (arith, block_some w p inside)))))) c r q))
        (λ (q : end_of_block n w p ≤ c). f.above (at + c) (omega arith) ∙ held c h
        ∙ sym (over_set_out op items p x (start_of_block w c) (c + 1) (inl (omega (arith, block_after w p c pos (omega arith), block_high w p pos)))))
        (cases_lt c (end_of_block n w p)))
        (cases_lt c p);
    missing = λ c h out. ⊎_elim
        (λ (r : c < p). f.below (at + c) (omega arith))
        (λ (r : p ≤ c). ⊎_elim
        (λ (q : c < end_of_block n w p). let same = block_same w p c (omega (arith, block_low w p)) (omega arith) in
        absurd (⊎_elim (λ (a : p < start_of_block w c). omega (arith, block_low w p)) (λ (a : c + 1 ≤ p). omega arith) out))
        (λ (q : end_of_block n w p ≤ c). f.above (at + c) (omega arith))
        (cases_lt c (end_of_block n w p)))
        (cases_lt c p);
    below = λ c h. f.below c (omega arith);
    above = λ c h. f.above c (omega arith);
  }

  -- the suffix cells from its block's start up to p are those with p in them
  pub suffixes_renewed : Redone op (take n t) (suffixes n w) at (start_of_block w p) (p + 1) (NextHolds op (take n t) n w at p t) t t'
      → PartRenewed op n p (suffixes n w) at (Unit {0}) t t'
  suffixes_renewed f =
      let start = block_low w p in
      let end = block_high w p pos in
      record {
        holds = λ _ items x len same held c h. ⊎_elim
            (λ (r : c < start_of_block w p). f.below (at + c) (omega arith) ∙ held c h ∙ sym (over_set_out op items p x c (end_of_block n w c) (inr (before c r))))
            (λ (r : start_of_block w p ≤ c). ⊎_elim
            (λ (q : c < p + 1). rw same at (f.holds (λ inside. rw same (held (p + 1) (block_next n w p pos low inside).0
            ∙ sym (over_set_out op items p x (p + 1) (end_of_block n w (p + 1)) (inl (omega arith))))) c r q))
            (λ (q : p + 1 ≤ c). f.above (at + c) (omega arith) ∙ held c h ∙ sym (over_set_out op items p x c (end_of_block n w c) (inl (omega arith))))
            (cases_lt c (p + 1)))
            (cases_lt c (start_of_block w p));
        missing = λ c h out. ⊎_elim
            (λ (r : c < start_of_block w p). f.below (at + c) (omega arith))
            (λ (r : start_of_block w p ≤ c). ⊎_elim
            (λ (q : c < p + 1). let same = block_same w p c r (omega arith) in
            absurd (⊎_elim (λ (a : p < c). omega arith) (λ (a : end_of_block n w c ≤ p). omega arith) out))
            (λ (q : p + 1 ≤ c). f.above (at + c) (omega arith))
            (cases_lt c (p + 1)))
            (cases_lt c (start_of_block w p));
        below = λ c h. f.below c (omega arith);
        above = λ c h. f.above c (omega arith);
      }
    where
      before : (c : ℕ) → c < start_of_block w p → end_of_block n w c ≤ p
      before c r = ⊎_elim
          (λ (l : p < start_of_block w c + w). let same = block_same w c p (omega (arith, block_low w c, block_low w p)) l in absurd (omega (arith, block_low w c)))
          (λ (l : start_of_block w c + w ≤ p). omega arith)
          (cases_lt p (start_of_block w c + w))
