-- One row more, and a whole table.
use Rattle.std.proofs.Common.{◌≡◌, ℕ, ◌+◌, ◌*◌, ◌/◌, ◌%◌, ◌<◌, ◌≤◌, ◌⊎◌, List, take, sym, refl, ap, ◌∙◌, inl, inr, ⊎_elim, mul_comm, add-mul, one-mul, zero-add, arith}
use Rattle.std.specs.List.{slice_get}
use Rattle.std.proofs.lemmas.Nat.{mul-le, div-add-mod', div_below, mod_below}
use Rattle.std.proofs.lemmas.Bool.{cases_eq}
use Rattle.semigroup.proofs.Places.{nth_take, take_same}
use Rattle.semigroup.proofs.Products.{over_one}
use Rattle.scheme.specs.Table.{Filled}
use Rattle.basic_schemes.specs.HalvingPlan.{rows, halving_plan}
use Rattle.basic_schemes.specs.HalvingRows.{RowFits, Left, Right, RowHolds, Redone, NextHolds, PriorHolds, RowFilled}
use Rattle.basic_schemes.specs.HalvingLayout.{reach_item, row_past, items_before}
use Rattle.basic_schemes.proofs.HalvingCells.{redone_items}

-- the rows below h hold their products; the items and the cells from row h on are as they were
pub record Rows {A : Type 0} (op : A → A → A) (n h : ℕ) (before after : List A) : Type 0 where
  pub holds : (k q : ℕ) → k < h → q < n → RowHolds op n (take n before) after k q
  pub kept : (c : ℕ) → (c < n) ⊎ (h * n ≤ c) → slice_get after c ≡ slice_get before c

row_end : (n h : ℕ) → (h + 1) * n ≡ h * n + n
row_end n h = add-mul h 1 n ∙ ap (λ x. h * n + x) (one-mul n)

-- a table with all cells has room for each row
pub row_fits : (n h room : ℕ) → 0 < h → h < rows n → n * rows n ≤ room → RowFits n h room
row_fits n h room up l r =
    let f : (h + 1) * n ≤ rows n * n = mul-le (h + 1) n (rows n) n (omega arith) (omega arith) in
    record { past = up; fits = omega (arith, row_end n h, mul_comm n (rows n)) }

module _ {A : Type 0} (op : A → A → A) (n : ℕ) where
  sides : (h q : ℕ) → Left h q ⊎ Right h q
  sides h q = grind arith

  -- both sides of a row
  pub row_filled : (h : ℕ) (t u v : List A) → 0 < h → Redone op Left n h 0 n (NextHolds op n h n t) t u → Redone op Right n h 0 n (PriorHolds op n h 0 u) u v → RowFilled op n h t v
  row_filled h t u v up l r =
      let same = redone_items op Left n h (NextHolds op n h n t) t u {a = 0} {b = n} up l in
      record {
        holds = λ q m. ⊎_elim
            (λ (s : Left h q). r.kept (h * n + q) (λ z e x y side. let e' : q ≡ z = omega arith in let s' = rw e' at s in omega arith) ∙ l.holds (λ x. absurd (omega arith)) q (omega arith) (omega arith) s)
            (λ (s : Right h q). rw same at (r.holds (λ x. absurd (omega arith)) q (omega arith) (omega arith) s))
            (sides h q);
        kept = λ c out. r.kept c (λ q e x y s. out q e (omega arith)) ∙ l.kept c (λ q e x y s. out q e (omega arith));
      }

  -- row 0 is the items
  pub item_holds : (t : List A) (q : ℕ) → q < n → RowHolds op n (take n t) t 0 q
  item_holds t q l =
      let at : 0 * n + q ≡ q = omega arith in
      rw (at, reach_item n q l) (sym (over_one op (take n t) q ∙ nth_take n t q l))

  pub rows_items : (t : List A) → Rows op n 1 t t
  rows_items t = record { holds = λ k q l m. let e : k ≡ 0 = omega arith in rw e (item_holds t q m); kept = λ c w. refl }

  -- one row more
  pub rows_more : (h : ℕ) (t t' t'' : List A) → 0 < h → Rows op n h t t' → RowFilled op n h t' t'' → Rows op n (h + 1) t t''
  rows_more h t t' t'' up r f =
      let same : take n t' ≡ take n t = take_same n t' t (λ i l. r.kept i (inl l)) in
      let past = items_before n h up in
      let end = row_end n h in
      record {
        holds = λ k q l m. ⊎_elim
            (λ (e : k ≡ h). rw (e, ← same) (f.holds q m))
            (λ (ne : k ≡ h → ⊥). f.kept (k * n + q) (λ z e y. let p = row_past n k h q (omega arith) m in omega arith) ∙ r.holds k q (omega arith) m)
            (cases_eq k h);
        kept = λ c w. ⊎_elim
            (λ l. f.kept c (λ z e y. omega arith) ∙ r.kept c (inl l))
            (λ l. f.kept c (λ z e y. omega arith) ∙ r.kept c (inr (omega arith)))
            w;
      }

  -- all rows
  pub rows_filled : (t t' : List A) → 0 < n → Rows op n (rows n) t t' → Filled op (take n t) (halving_plan.part n) 0 t t'
  rows_filled t t' some r = record {
    holds = λ c l.
        let at = div-add-mod' c n in
        let k = div_below c n (rows n) some (rw mul_comm l) in
        rw zero-add (ap (slice_get t') (sym at) ∙ r.holds (c / n) (c % n) k (mod_below c n some));
    below = λ c l. absurd (omega arith);
    above = λ c l. r.kept c (inr (omega (arith, mul_comm n (rows n))));
  }
