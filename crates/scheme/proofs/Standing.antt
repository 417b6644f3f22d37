-- Tables that stand for a list, under any sound plan.
use Rattle.std.proofs.Common.{◌≡◌, ℕ, zero, suc, ◌-◌, ◌<◌, ◌≤◌, ◌⊎◌, List, [], ◌∷◌, length, take, drop, set, Some, sym, ◌∙◌, inl, inr, ⊎_elim, zero-add, arith}
use Rattle.std.specs.List.{slice_get}
use Rattle.std.proofs.lemmas.List.{length-set, length-take-le, length-drop, take_all}
use Rattle.std.proofs.lemmas.Bool.{cases_lt}
use Rattle.semigroup.specs.Product.{run, over}
use Rattle.semigroup.proofs.Places.{take_same}
use Rattle.semigroup.proofs.Products.{product_some, over_one, over_set_out}
use Rattle.scheme.specs.Plan.{Interval, Plan, Sound, Contains, Misses}
use Rattle.scheme.specs.Table.{Filled, Stands}
use Rattle.scheme.specs.Calls.{Renewed}

-- a run that is not empty has a product
pub over_some : {A : Type 0} (op : A → A → A) (xs : List A) (a b : ℕ) → a < b → b ≤ length xs → (x : A) × (over op xs a b ≡ Some x)
unfolding over
over_some op xs a b l m =
    let d = length-drop a xs in
    product_some op (run xs a b) (omega (arith, length-take-le (b - a) (drop a xs) (omega arith)))

-- a place that holds something is one of the list's
pub nth_below : {A : Type 0} (xs : List A) (i : ℕ) (x : A) → slice_get xs i ≡ Some x → i < length xs
nth_below [] i x e = absurd (let z : ◌≡◌ {A = ℕ} 0 1 = cc in omega arith)
nth_below (y ∷ xs) zero x e = omega arith
nth_below (y ∷ xs) (suc i) x e = omega (arith, nth_below xs i x e)

-- an event is in an interval or not
pub in_or_out : (s : Interval) (p : ℕ) → Contains s p ⊎ Misses s p
in_or_out s p = ⊎_elim
    (λ (l : p < s.from). inr (inl l))
    (λ (l : s.from ≤ p). ⊎_elim (λ (m : p < s.to). inl (l, m)) (λ (m : s.to ≤ p). inr (inr m)) (cases_lt p s.to))
    (cases_lt p s.from)

module _ {A : Type 0} (op : A → A → A) (plan : Plan) (sound : Sound plan) (n : ℕ) (some : 0 < n) (few : n ≤ 65536) where
  -- a fill leaves a table that stands for its items
  pub filled_stands : (before after : List A) → n ≤ length before → Filled op (take n before) (plan.part n) 0 before after → Stands op plan n (take n before) after
  filled_stands before after room f = record { whole = length-take-le n before room; holds = f.holds }

  -- a table has room for all cells that it stands with
  pub stands_room : (items table : List A) → Stands op plan n items table → (plan.part n).size ≤ length table
  stands_room items table s =
      let m = (plan.part n).size in
      let enough = sound.enough n some few in
      let w = sound.within n some few (m - 1) (omega arith) in
      let len = s.whole in
      let x = over_some op items ((plan.part n).span (m - 1)).from ((plan.part n).span (m - 1)).to w.0 (omega (arith, w.1)) in
      omega (arith, nth_below table (m - 1) x.0 ((rw zero-add at (s.holds (m - 1) (omega arith))) ∙ x.1))

  -- the first n cells of a table that stands for a list are the list
  pub stands_items : (items table : List A) → Stands op plan n items table → take n table ≡ items
  stands_items items table s =
      let len = s.whole in
      let enough = sound.enough n some few in
      take_same n table items
      (λ i h. (rw (zero-add, sound.items_first n i few h) at (s.holds i (omega arith))) ∙ over_one op items i)
      ∙ take_all n items (omega arith)

  -- an update keeps a table in step with its list
  pub renewed_stands : (items before after : List A) (p : ℕ) (x : A) → Stands op plan n items before → Renewed op plan n p x before after → Stands op plan n (set items p x) after
  renewed_stands items before after p x s r =
      let same = stands_items items before s in
      let span = (plan.part n).span in
      record {
        whole = length-set items p x ∙ s.whole;
        holds = λ c h. rw zero-add (⊎_elim
            (λ (inside : Contains (span c) p). rw same at (r.containing c h inside (rw same s)))
            (λ (outside : Misses (span c) p). r.missing c h outside ∙ (rw zero-add at (s.holds c h)) ∙ sym (over_set_out op items p x (span c).from (span c).to outside))
            (in_or_out (span c) p));
      }
