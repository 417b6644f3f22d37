-- Cells whose intervals follow one another: their number, and what they hold together.
use Rattle.std.proofs.Common.{◌≡◌, ℕ, zero, suc, ◌+◌, ◌<◌, ◌≤◌, List, [], ◌∷◌, length, Some, None, Option, sym, ap, ◌∙◌, zero-add, arith}
use Rattle.std.specs.List.{slice_get}
use Rattle.semigroup.specs.Product.{product, joined, over}
use Rattle.semigroup.proofs.Products.{product_append, over_join, over_none}
use Rattle.scheme.specs.Plan.{Part, Covers, done, goes, Within}
use Rattle.scheme.specs.Table.{Holds, pick, picked}

-- every cell of a cover is a cell of the part
pub covers_below : (p : Part) (i j : ℕ) (cs : List ℕ) → Covers p i j cs → (k c : ℕ) → slice_get cs k ≡ Some c → c < p.size
covers_below p i j [] done k c e = let z : ◌≡◌ {A = ℕ} 0 1 = cc in absurd (omega arith)
covers_below p i j (b ∷ cs) (goes h f rest) zero c e = let z : b ≡ c = cc in omega arith
covers_below p i j (b ∷ cs) (goes h f rest) (suc k) c e = covers_below p (p.span b).to j cs rest k c e

-- a cover has no more cells than events
pub covers_length : (n : ℕ) (p : Part) → Within n p → (i j : ℕ) (cs : List ℕ) → Covers p i j cs → length cs + i ≤ j
covers_length n p w i j [] done = omega arith
covers_length n p w i j (c ∷ cs) (goes h e rest) = omega (arith, covers_length n p w (p.span c).to j cs rest, (w c h).0)

-- a cover of a run that is not empty has a cell
pub covers_some : (p : Part) (i j : ℕ) (cs : List ℕ) → Covers p i j cs → i < j → 0 < length cs
covers_some p i j [] done h = absurd (omega arith)
covers_some p i j (c ∷ cs) cover h = omega arith

-- what a first cell and others hold
pub picked_first : {A : Type 0} (op : A → A → A) → ((a b c : A) → op (op a b) c ≡ op a (op b c)) → (table : List A) (o : Option A) (c : ℕ) (cs : List ℕ) → slice_get table c ≡ o
    → product op (picked table (c ∷ cs)) ≡ joined op o (product op (picked table cs))
picked_first op assoc table None c cs e = ap (λ o. product op (pick o (picked table cs))) e
picked_first op assoc table (Some x) c cs e = ap (λ o. product op (pick o (picked table cs))) e ∙ product_append op assoc (x ∷ []) (picked table cs)

-- where each cell of a part holds its interval's product, the cells of a cover combine to the product of the run
module _ {A : Type 0} (op : A → A → A) (assoc : (a b c : A) → op (op a b) c ≡ op a (op b c)) (p : Part) (items table : List A) (n : ℕ) (within : Within n p) (holds : Holds op items p 0 table) where
  covers_rise : (i j : ℕ) (cs : List ℕ) → Covers p i j cs → i ≤ j
  covers_rise i j cs cover = omega (arith, covers_length n p within i j cs cover)

  pub covers_product : (i j : ℕ) (cs : List ℕ) → Covers p i j cs → product op (picked table cs) ≡ over op items i j
  covers_product i j [] done = sym (over_none op items i)
  covers_product i j (c ∷ cs) (goes h e rest) =
      let o : slice_get table c ≡ over op items (p.span c).from (p.span c).to = rw zero-add at (holds c h) in
      let w = within c h in
      picked_first op assoc table _ c cs o ∙ ap (joined op (over op items (p.span c).from (p.span c).to)) (covers_product (p.span c).to j cs rest)
      ∙ sym (over_join op assoc items (p.span c).from (p.span c).to j (omega arith) (covers_rise (p.span c).to j cs rest)) ∙ ap (λ a. over op items a j) e
