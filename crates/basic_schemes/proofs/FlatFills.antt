-- One cell more, one row more, and a whole table.
use Rattle.std.proofs.Common.{◌≡◌, ℕ, ◌+◌, ◌-◌, ◌<◌, ◌≤◌, ◌⊎◌, List, length, take, set, Some, sym, refl, ap, ◌∙◌, inl, inr, ⊎_elim, zero-add, arith}
use Rattle.std.specs.List.{slice_get}
use Rattle.std.proofs.lemmas.Bool.{cases_eq}
use Rattle.semigroup.specs.Product.{over}
use Rattle.semigroup.proofs.Places.{nth_set_same, nth_set_other, nth_take, take_same}
use Rattle.semigroup.proofs.Products.{over_one, over_more}
use Rattle.scheme.specs.Table.{Filled}
use Rattle.basic_schemes.specs.FlatPlan.{row_start, flat_plan}
use Rattle.basic_schemes.specs.FlatRows.{RowHolds, Redone}
use Rattle.basic_schemes.specs.FlatLayout.{row_none, row_more, row_past, items_before, rows_end, place, place_span}

-- the rows below g hold their products; the items and the cells from row g on are as they were
pub record Rows {A : Type 0} (op : A → A → A) (n g : ℕ) (before after : List A) : Type 0 where
  pub holds : (k i : ℕ) → k < g → k + i < n → RowHolds op n (take n before) after k i
  pub kept : (c : ℕ) → (c < n) ⊎ (row_start n g ≤ c) → slice_get after c ≡ slice_get before c

module _ {A : Type 0} (op : A → A → A) (n : ℕ) where
  pub redone_none : (g a : ℕ) (t : List A) → Redone op n g a a t t
  redone_none g a t = record { holds = λ before i x y. absurd (omega arith); kept = λ c out. refl }

  -- one cell more: the run without its last event, and that event
  pub redone_more : (assoc : (a b c : A) → op (op a b) c ≡ op a (op b c)) (g a b k : ℕ) (t t' : List A) (x y z : A) → 0 < g → a ≤ b → b + g < n → row_start n g + b < length t'
      → slice_get t' (row_start n (g - 1) + b) ≡ Some y → slice_get t' (b + g) ≡ Some x
      → Redone op n g a b t t' → k ≡ row_start n g + b → z ≡ op y x → Redone op n g a (b + 1) t (set t' k z)
  redone_more assoc g a b k t t' x y z up l m room shorter last r place value =
      let past = items_before n g up (omega arith) in
      let lower = row_past n (g - 1) g b (omega arith) (omega arith) (omega arith) in
      let was : slice_get t (row_start n (g - 1) + b) ≡ Some y = sym (r.kept _ (λ i e u v. omega arith)) ∙ shorter in
      let item : slice_get (take n t) (b + g) ≡ Some x = nth_take n t (b + g) m ∙ sym (r.kept _ (λ i e u v. omega arith)) ∙ last in
      let at : b + (g - 1) + 1 ≡ b + g = omega arith in
      rw (place, value) (record {
        holds = λ held i u v. ⊎_elim
            (λ (e : i ≡ b).
            let less : over op (take n t) b (b + g) ≡ Some y = rw at at (sym (held b l (omega arith)) ∙ was) in
            rw e (nth_set_same t' (row_start n g + b) (op y x) room ∙ sym (over_more op assoc (take n t) b (b + g) y x (omega arith) less item)))
            (λ (e : i ≡ b → ⊥). nth_set_other t' (row_start n g + b) (row_start n g + i) (op y x) (λ s. omega arith) ∙ r.holds (λ k z w. held k z (omega arith)) i u (omega arith))
            (cases_eq i b);
        kept = λ c out. nth_set_other t' (row_start n g + b) c (op y x) (λ s. out b s l (omega arith)) ∙ r.kept c (λ i e u v. out i e u (omega arith));
      })

  -- row 0 is the items
  pub item_holds : (t : List A) (i : ℕ) → i < n → RowHolds op n (take n t) t 0 i
  item_holds t i l =
      let at : row_start n 0 + i ≡ i = omega (arith, row_none n) in
      let end : i + 0 + 1 ≡ i + 1 = omega arith in
      rw (at, end) (sym (over_one op (take n t) i ∙ nth_take n t i l))

  pub rows_items : (t : List A) → Rows op n 1 t t
  rows_items t = record { holds = λ k i l m. let e : k ≡ 0 = omega arith in rw e (item_holds t i (omega arith)); kept = λ c w. refl }

  -- one row more
  pub rows_more : (g : ℕ) (t t' t'' : List A) → 0 < g → g < n → Rows op n g t t' → Redone op n g 0 (n - g) t' t'' → Rows op n (g + 1) t t''
  rows_more g t t' t'' up l r f =
      let same : take n t' ≡ take n t = take_same n t' t (λ c m. r.kept c (inl m)) in
      let past = items_before n g up (omega arith) in
      let e = row_more n g (omega arith) in
      record {
        holds = λ k i u v. ⊎_elim
            (λ (e : k ≡ g). rw (e, ← same) (f.holds (λ z x y. rw same (r.holds (g - 1) z (omega arith) (omega arith))) i (omega arith) (omega arith)))
            (λ (e : k ≡ g → ⊥). f.kept (row_start n k + i) (λ z s x y. let p = row_past n k g i (omega arith) (omega arith) v in omega arith) ∙ r.holds k i (omega arith) v)
            (cases_eq k g);
        kept = λ c w. ⊎_elim
            (λ m. f.kept c (λ z s x y. omega arith) ∙ r.kept c (inl m))
            (λ m. f.kept c (λ z s x y. omega arith) ∙ r.kept c (inr (omega arith)))
            w;
      }

  -- all rows
  pub rows_filled : (t t' : List A) → 0 < n → Rows op n n t t' → Filled op (take n t) (flat_plan.part n) 0 t t'
  rows_filled t t' some r = record {
    holds = λ c l.
        let p = place n c l in
        let f = p.fits in
        rw (zero-add, place_span n c p) (ap (slice_get t') p.is ∙ r.holds p.row p.first (omega arith) f);
    below = λ c l. absurd (omega arith);
    above = λ c l. r.kept c (inr (omega (arith, rows_end n some)));
  }
