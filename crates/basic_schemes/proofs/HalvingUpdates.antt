-- Which cells an update computes anew, and that it is enough.
use Rattle.std.proofs.Common.{◌≡◌, ℕ, ◌+◌, ◌-◌, ◌*◌, ◌/◌, ◌%◌, ◌^◌, ◌<◌, ◌≤◌, List, length, take, set, sym, refl, ap, ◌∙◌, inl, inr, ⊎_elim, mul_comm, zero-add, arith}
use Rattle.std.specs.List.{slice_get}
use Rattle.std.proofs.lemmas.Nat.{pow_pos, shr_split, div_below, mod_below, div-add-mod'}
use Rattle.std.proofs.lemmas.Bool.{cases_eq}
use Rattle.semigroup.specs.Product.{over}
use Rattle.semigroup.proofs.Places.{nth_set_same, nth_set_other, take_same}
use Rattle.semigroup.proofs.Products.{over_set_out}
use Rattle.scheme.specs.Plan.{Interval, Contains, Misses}
use Rattle.scheme.specs.Table.{AsBuilt}
use Rattle.scheme.specs.Calls.{Renewed}
use Rattle.scheme.proofs.Standing.{in_or_out}
use Rattle.scheme.specs.Blocks.{start_of_block, end_of_block}
use Rattle.basic_schemes.specs.HalvingPlan.{reach, rows, halving_plan}
use Rattle.basic_schemes.specs.HalvingRows.{Left, Right, RowHolds, Redone, NextHolds, PriorHolds, RowRenewed}
use Rattle.std.proofs.Math.Seq.{take-set-lt}
use Rattle.basic_schemes.specs.HalvingLayout.{reach_left, reach_right, reach_within, row_past, items_before, cells_enough, cell_below, cell_span, item_span}
use Rattle.basic_schemes.proofs.HalvingCells.{same_half, left_from, right_to, left_to_same, right_from_same}
use Rattle.basic_schemes.proofs.HalvingFills.{item_holds}

-- ---- halves

half_bounds : (h p q : ℕ) → q / 2 ^ h ≡ p / 2 ^ h → (start_of_block (2 ^ h) p ≤ q) × (q < start_of_block (2 ^ h) p + 2 ^ h)
half_bounds h p q e =
    let s = shr_split q h in
    let m = mod_below q (2 ^ h) (pow_pos h) in
    let f = ap (λ x. x * 2 ^ h) e in
    (omega arith, omega arith)

-- a cell reaches over events of its own half alone
reach_half : (n h p q : ℕ) → q < n → Contains (reach n h q) p → q / 2 ^ h ≡ p / 2 ^ h
reach_half n h p q l w =
    let s = shr_split q h in
    let m = mod_below q (2 ^ h) (pow_pos h) in
    ⊎_elim
    (λ e. let w' = rw (reach_left n h q e) at w in sym (same_half h q p (omega arith) (omega arith)))
    (λ e. let w' = rw (reach_right n h q e) at w in sym (same_half h q p (omega arith) (omega arith)))
    (cases_eq (q / 2 ^ h % 2) 0)

-- in a left half the cells up to p reach over p
left_contains : (n h p q : ℕ) → p < n → Left h p → q / 2 ^ h ≡ p / 2 ^ h → q ≤ p → Contains (reach n h q) p
left_contains n h p q l s e m =
    let s' : Left h q = rw e s in
    let w = reach_within n h p l in
    (rw (left_from n h q s') m, rw (left_to_same n h q p s' e) w.1)

-- in a right half the cells from p on reach over p
right_contains : (n h p q : ℕ) → p < n → Right h p → q / 2 ^ h ≡ p / 2 ^ h → p ≤ q → Contains (reach n h q) p
right_contains n h p q l s e m =
    let s' : Right h q = rw e s in
    let w = reach_within n h p l in
    (rw (right_from_same n h q p s' e) w.0, rw (right_to n h q s') (omega arith))

-- ---- one row

module _ {A : Type 0} (op : A → A → A) (n p h : ℕ) (t t' : List A) (l : p < n) where
  -- in a left half, the cells from its start up to p
  pub renewed_left : (start : ℕ) → start ≡ start_of_block (2 ^ h) p → Left h p → Redone op Left n h start (p + 1) (NextHolds op n h (p + 1) t) t t' → RowRenewed op n p h t t'
  renewed_left start is side r =
      let in-half : (q : ℕ) → start ≤ q → q < p + 1 → q / 2 ^ h ≡ p / 2 ^ h = λ q a b. same_half h p q (omega arith) (let d = half_bounds h p p refl in omega arith) in
      record {
        holds = λ others q m. ⊎_elim
            (λ (w : Contains (record { from = start; to = p + 1 }) q). r.holds (λ x s. others (p + 1) x (λ has. let f = left_from n h (p + 1) s in omega arith)) q w.0 w.1 (rw (in-half q w.0 w.1) side))
            (λ (w : Misses (record { from = start; to = p + 1 }) q).
            r.kept (h * n + q) (λ z e a b s. omega arith)
            ∙ others q m (λ has.
            let e = reach_half n h p q m has in
            let s' : Left h q = rw e side in
            let f = left_from n h q s' in
            let d = half_bounds h p q e in
            omega arith))
            (in_or_out (record { from = start; to = p + 1 }) q);
        kept = λ c out. r.kept c (λ q e a b s. out q e (omega arith) (left_contains n h p q l side (in-half q a b) (omega arith)));
      }

  -- in a right half, the cells from p up to its end
  pub renewed_right : (end : ℕ) → end ≡ end_of_block n (2 ^ h) p → Right h p → Redone op Right n h p end (PriorHolds op n h p t) t t' → RowRenewed op n p h t t'
  renewed_right end is side r =
      let in-half : (q : ℕ) → p ≤ q → q < end → q / 2 ^ h ≡ p / 2 ^ h = λ q a b. same_half h p q (let d = half_bounds h p p refl in omega arith) (omega arith) in
      record {
        holds = λ others q m. ⊎_elim
            (λ (w : Contains (record { from = p; to = end }) q). r.holds (λ x s. others (p - 1) (omega arith) (λ has. let f = right_to n h (p - 1) s in omega arith)) q w.0 w.1 (rw (in-half q w.0 w.1) side))
            (λ (w : Misses (record { from = p; to = end }) q).
            r.kept (h * n + q) (λ z e a b s. omega arith)
            ∙ others q m (λ has.
            let e = reach_half n h p q m has in
            let s' : Right h q = rw e side in
            let f = right_to n h q s' in
            let d = half_bounds h p q e in
            omega arith))
            (in_or_out (record { from = p; to = end }) q);
        kept = λ c out. r.kept c (λ q e a b s. out q e (omega arith) (right_contains n h p q l side (in-half q a b) a));
      }

-- ---- all rows

-- once item p has changed: if the cells without p of a row below h hold their products, so do all of its cells; the cells without p are as they were
pub record Renewing {A : Type 0} (op : A → A → A) (n p h : ℕ) (before after : List A) : Type 0 where
  pub holds : (k : ℕ) → 0 < k → k < h → ((q : ℕ) → q < n → (Contains (reach n k q) p → ⊥) → RowHolds op n (take n before) before k q) → (q : ℕ) → q < n → RowHolds op n (take n before) after k q
  pub kept : (c : ℕ) → ((k q : ℕ) → 0 < k → k < h → q < n → c ≡ k * n + q → Contains (reach n k q) p → ⊥) → slice_get after c ≡ slice_get before c

misses_not : (s : Interval) (p : ℕ) → Misses s p → Contains s p → ⊥
misses_not s p (inl a) w = omega arith
misses_not s p (inr a) w = omega arith

not_contains : (s : Interval) (p : ℕ) → (Contains s p → ⊥) → Misses s p
not_contains s p out = ⊎_elim (λ (w : Contains s p). absurd (out w)) (λ m. m) (in_or_out s p)

module _ {A : Type 0} (op : A → A → A) (n p : ℕ) (l : p < n) where
  pub renewing_none : (u : List A) → Renewing op n p 1 u u
  renewing_none u = record { holds = λ k a b. absurd (omega arith); kept = λ c out. refl }

  -- one row more
  pub renewing_more : (h : ℕ) (u t t' : List A) → 0 < h → Renewing op n p h u t → RowRenewed op n p h t t' → Renewing op n p (h + 1) u t'
  renewing_more h u t t' up r w =
      let past = items_before n h up in
      let items : take n t ≡ take n u = take_same n t u (λ i m. r.kept i (λ k q a b c e has. omega (arith, items_before n k a))) in
      let fresh : (q : ℕ) → q < n → slice_get t (h * n + q) ≡ slice_get u (h * n + q) = λ q m. r.kept (h * n + q) (λ k z a b c e has. let y = row_past n k h z b c in omega arith) in
      record {
        holds = λ k a b others q m. ⊎_elim
            (λ (e : k ≡ h).
            let still : (z : ℕ) → z < n → (Contains (reach n h z) p → ⊥) → RowHolds op n (take n t) t h z = λ z x out. rw items (fresh z x ∙ (rw e at others) z x out) in
            rw (e, ← items) (w.holds still q m))
            (λ (ne : k ≡ h → ⊥). w.kept (k * n + q) (λ z e x has. let y = row_past n k h q (omega arith) m in omega arith) ∙ r.holds k a (omega arith) others q m)
            (cases_eq k h);
        kept = λ c out. w.kept c (λ q e m has. out h q up (omega arith) m e has) ∙ r.kept c (λ k q a b m e has. out k q a (omega arith) m e has);
      }

  -- on a table as built, the cells without p hold their products once item p has changed
  others_hold : (x : A) (t : List A) → AsBuilt op halving_plan n t → (k q : ℕ) → 0 < k → k < rows n → q < n → (Contains (reach n k q) p → ⊥) → RowHolds op n (take n (set t p x)) (set t p x) k q
  others_hold x t s k q up low m out =
      let past = items_before n k up in
      let was : slice_get t (k * n + q) ≡ over op (take n t) (reach n k q).from (reach n k q).to = rw (zero-add, cell_span n k q m) at (s.holds (k * n + q) (cell_below n k q low m)) in
      rw (take-set-lt n t p x l) (nth_set_other t p (k * n + q) x (λ e. omega arith) ∙ was
      ∙ sym (over_set_out op (take n t) p x (reach n k q).from (reach n k q).to (not_contains (reach n k q) p out)))

  module _ (x : A) (t t' : List A) (room : n ≤ length t) (r : Renewing op n p (rows n) (set t p x) t') where
    item_kept : (i : ℕ) → i < n → slice_get t' i ≡ slice_get (set t p x) i
    item_kept i m = r.kept i (λ k q a y z e has. omega (arith, items_before n k a))

    -- every cell holds its product
    all_hold : AsBuilt op halving_plan n t → (k q : ℕ) → k < rows n → q < n → RowHolds op n (take n (set t p x)) t' k q
    all_hold s k q low m = ⊎_elim
        (λ (e : k ≡ 0). rw e (item_kept (0 * n + q) (omega arith) ∙ item_holds op n (set t p x) q m))
        (λ (e : k ≡ 0 → ⊥). r.holds k (omega arith) low (λ z y out. others_hold x t s k z (omega arith) low y out) q m)
        (cases_eq k 0)

    kept_apart : (c : ℕ) → ((k q : ℕ) → 0 < k → k < rows n → q < n → c ≡ k * n + q → Contains (reach n k q) p → ⊥) → (c ≡ p → ⊥) → slice_get t' c ≡ slice_get t c
    kept_apart c out away = r.kept c out ∙ nth_set_other t p c x away

    pub halving_renewed : Renewed op halving_plan n p x t t'
    halving_renewed = record {
      item = item_kept p l ∙ nth_set_same t p x (omega arith);
      containing = λ c m inside s.
          let at = div-add-mod' c n in
          let low = div_below c n (rows n) (omega arith) (rw mul_comm m) in
          rw (← take-set-lt n t p x l) (ap (slice_get t') (sym at) ∙ all_hold s (c / n) (c % n) low (mod_below c n (omega arith)));
      missing = λ c m outside. kept_apart c
          (λ k q a y z e has. misses_not _ p outside (rw (e, cell_span n k q z) has))
          (λ e. misses_not _ p outside (rw (e, item_span n p l) (omega arith, omega arith)));
      past = λ c m. kept_apart c
          (λ k q a y z e has. omega (arith, cell_below n k q y z))
          (λ e. omega (arith, cells_enough n));
    }
