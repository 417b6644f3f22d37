-- Which cells an update computes anew, and that it is enough.
use Rattle.std.proofs.Common.{◌≡◌, ℕ, ◌+◌, ◌-◌, ◌<◌, ◌≤◌, min, ◌⊎◌, List, length, take, set, sym, refl, ap, ◌∙◌, inl, inr, ⊎_elim, zero-add, arith}
use Rattle.std.specs.List.{slice_get}
use Rattle.std.proofs.lemmas.Bool.{cases_eq, cases_lt}
use Rattle.semigroup.specs.Product.{over}
use Rattle.semigroup.proofs.Places.{nth_set_same, nth_set_other, take_same}
use Rattle.semigroup.proofs.Products.{over_set_out}
use Rattle.scheme.specs.Table.{AsBuilt}
use Rattle.scheme.specs.Calls.{Renewed}
use Rattle.basic_schemes.specs.FlatPlan.{row_start, locate, flat_plan}
use Rattle.basic_schemes.specs.FlatRows.{RowHolds, Redone}
use Rattle.std.proofs.Math.Seq.{take-set-lt}
use Rattle.scheme.specs.Plan.{Contains, Misses}
use Rattle.scheme.proofs.Standing.{in_or_out}
use Rattle.basic_schemes.specs.FlatLayout.{row_none, row_past, items_before, interval_at, place, place_span, cell_below}
use Rattle.basic_schemes.proofs.FlatFills.{item_holds}

-- once item p has changed: if the cells without p hold their products, so do all cells of the rows below g; the cells without p are as they were
pub record Renewing {A : Type 0} (op : A → A → A) (n p g : ℕ) (before after : List A) : Type 0 where
  pub holds : ((k i : ℕ) → k + i < n → (i ≤ p → p ≤ i + k → ⊥) → RowHolds op n (take n before) before k i)
      → (k i : ℕ) → k < g → k + i < n → RowHolds op n (take n before) after k i
  pub kept : (c : ℕ) → ((k i : ℕ) → 0 < k → k < g → k + i < n → c ≡ row_start n k + i → i ≤ p → p ≤ i + k → ⊥) → slice_get after c ≡ slice_get before c

module _ {A : Type 0} (op : A → A → A) (n p : ℕ) (pn : p < n) where
  pub renewing_none : (u : List A) → Renewing op n p 1 u u
  renewing_none u = record { holds = λ held k i l m. let e : k ≡ 0 = omega arith in rw e (item_holds op n u i (omega arith)); kept = λ c out. refl }

  -- one row more
  pub renewing_more : (g a b : ℕ) (u t t' : List A) → 0 < g → g < n → Renewing op n p g u t → Redone op n g a b t t' → a ≡ p - g → b ≡ min (p + 1) (n - g) → Renewing op n p (g + 1) u t'
  renewing_more g a b u t t' up l r f a-is b-is =
      let past = items_before n g up (omega arith) in
      let same : take n t ≡ take n u = take_same n t u (λ c m. r.kept c (λ k i x y z e v w. omega (arith, items_before n k x (omega arith)))) in
      let fresh : (i : ℕ) → g + i < n → slice_get t (row_start n g + i) ≡ slice_get u (row_start n g + i) = λ i m. r.kept (row_start n g + i) (λ k z x y w e v s. let q = row_past n k g z y (omega arith) w in omega arith) in
      record {
        holds = λ held k i u-k v. ⊎_elim
            (λ (e : k ≡ g). rw e (⊎_elim
            (λ (w : Contains (record { from = a; to = b }) i). rw (← same) (f.holds (λ z x y. rw same (r.holds held (g - 1) z (omega arith) (omega arith))) i w.0 w.1))
            (λ (w : Misses (record { from = a; to = b }) i). f.kept (row_start n g + i) (λ z s x y. omega arith)
            ∙ fresh i (omega arith) ∙ held g i (omega arith) (λ x y. omega arith))
            (in_or_out (record { from = a; to = b }) i)))
            (λ (e : k ≡ g → ⊥). f.kept (row_start n k + i) (λ z s x y. let q = row_past n k g i (omega arith) (omega arith) v in omega arith) ∙ r.holds held k i (omega arith) v)
            (cases_eq k g);
        kept = λ c out. f.kept c (λ i e x y. out g i up (omega arith) (omega arith) e (omega arith) (omega arith)) ∙ r.kept c (λ k i x y z e v w. out k i x (omega arith) z e v w);
      }

  -- the cells without p, on a table as built, hold their products once item p has changed
  others_hold : (x : A) (t : List A) → AsBuilt op flat_plan n t → (k i : ℕ) → k + i < n → (i ≤ p → p ≤ i + k → ⊥) → RowHolds op n (take n (set t p x)) (set t p x) k i
  others_hold x t s k i f out =
      let was : slice_get t (row_start n k + i) ≡ over op (take n t) i (i + k + 1) = rw (zero-add, interval_at n k i f) at (s.holds (row_start n k + i) (cell_below n k i f)) in
      let away : row_start n k + i ≡ p → ⊥ = λ e. ⊎_elim
      (λ (z : k ≡ 0). let z' = ap (row_start n) z ∙ row_none n in out (omega arith) (omega arith))
      (λ (z : k ≡ 0 → ⊥). omega (arith, items_before n k (omega arith) (omega arith)))
      (cases_eq k 0) in
      let side : (p < i) ⊎ (i + k + 1 ≤ p) = ⊎_elim (λ (l : p < i). inl l) (λ (l : i ≤ p). ⊎_elim (λ (m : p < i + k + 1). absurd (out l (omega arith))) (λ (m : i + k + 1 ≤ p). inr m) (cases_lt p (i + k + 1))) (cases_lt p i) in
      rw (take-set-lt n t p x pn) (nth_set_other t p (row_start n k + i) x away ∙ was ∙ sym (over_set_out op (take n t) p x i (i + k + 1) side))

  -- all rows
  pub flat_renewed : (x : A) (t t' : List A) → n ≤ length t → Renewing op n p n (set t p x) t' → Renewed op flat_plan n p x t t'
  flat_renewed x t t' room r = record {
    item = r.kept p (λ k i a b c e y z. omega (arith, items_before n k a (omega arith))) ∙ nth_set_same t p x (omega arith);
    containing = λ c m inside s.
        let q = place n c m in
        let fits = q.fits in
        rw (place_span n c q, ← take-set-lt n t p x pn) (ap (slice_get t') q.is ∙ r.holds (others_hold x t s) q.row q.first (omega arith) fits);
    missing = λ c m outside. kept_apart c (λ k i f e y z. ⊎_elim (λ (l : p < (locate n 0 n c).from). let s = ap (locate n 0 n) e ∙ interval_at n k i f in omega (arith, rw s at l)) (λ (l : (locate n 0 n c).to ≤ p). let s = ap (locate n 0 n) e ∙ interval_at n k i f in omega (arith, rw s at l)) outside);
    past = λ c m. kept_apart c (λ k i f e y z. omega (arith, cell_below n k i f));
  }
    where
      kept_apart : (c : ℕ) → ((k i : ℕ) → k + i < n → c ≡ row_start n k + i → i ≤ p → p ≤ i + k → ⊥) → slice_get t' c ≡ slice_get t c
      kept_apart c out =
          r.kept c (λ k i a b f e y z. out k i f e y z)
          ∙ nth_set_other t p c x (λ e. out 0 p (omega arith) (omega (arith, row_none n)) (omega arith) (omega arith))
