-- Inner tables and steps, filled.
use Rattle.std.proofs.Common.{◌≡◌, ℕ, ◌+◌, ◌-◌, ◌*◌, ◌^◌, ◌<◌, ◌≤◌, List, length, take, drop, sym, ap, ◌∙◌, add_assoc, add-mul, one-mul, arith}
use borrow.Rule.Slice.PartMut.{put_mid}
use Rattle.std.specs.List.{slice_get}
use Rattle.semigroup.specs.Product.{over}
use Rattle.semigroup.proofs.Places.{nth_take, nth_drop}
use Rattle.semigroup.proofs.Products.{over_blocks}
use Rattle.scheme.specs.Plan.{Part, Plan, Within}
use Rattle.scheme.specs.Table.{Written, Filled, Holds, due}
use Rattle.scheme.specs.Blocks.{end_of_block}
use Rattle.scheme.proofs.Writes.{written_part, written_over, written_as, filled_items, items_filled}
use Rattle.layer_parts.specs.Parts.{beside, items, prefixes, suffixes, child_start, lifted, inner_table, inner_tables, step_part, count_of_children, parent_count, Children}
use Rattle.layer_parts.specs.Layout.{exponent_at, layout_step, layout_steps}
use Rattle.layer_parts.proofs.Blocks.{row_before, child_aligned}
use Rattle.layer_parts.proofs.Laying.{filled_beside, filled_more}
use Rattle.layer_parts.proofs.Layouts.{exponent_next}

-- ---- the products of children

-- ys holds the products of the m children of the parent that begins at `start`
abbrev pub ChildrenHeld : {A : Type 0} (op : A → A → A) (n start w m : ℕ) (xs ys : List A) → Type 0
ChildrenHeld op n start w m xs ys = (q : ℕ) → q < m → slice_get ys q ≡ over op xs (child_start n start w q) (child_start n start w (q + 1))

module _ {A : Type 0} (op : A → A → A) (n start w m : ℕ) (kids : Children n start w m) where
  next : (q : ℕ) → (q + 1) * w ≡ q * w + w
  next q = omega (arith, add-mul q 1 w, one-mul w)

  -- the suffix cell of a child's first event has the child's interval
  pub child_suffix : (q : ℕ) → q < m → (xs : List A) → due op xs (suffixes n w).span (start + q * w) ≡ over op xs (child_start n start w q) (child_start n start w (q + 1))
  child_suffix q h xs =
      let r = row_before q m w h in
      let l = kids.last in
      let b : child_start n start w q ≡ start + q * w = omega arith in
      let e : child_start n start w (q + 1) ≡ end_of_block n w (start + q * w) = omega (arith, next q, child_aligned w start q kids.wide kids.aligned) in
      sym (ap (λ a. over op xs a (child_start n start w (q + 1))) b ∙ ap (over op xs (start + q * w)) e)

  -- the product of a run of children is that of their events
  pub lifts : ((a b c : A) → op (op a b) c ≡ op a (op b c)) → (xs ys : List A) → ChildrenHeld op n start w m xs ys
      → (p : Part) (c : ℕ) → (p.span c).from < (p.span c).to → (p.span c).to ≤ m → due op ys p.span c ≡ due op xs (lifted p n start w).span c
  lifts assoc xs ys held p c h l =
      let e : (p.span c).from + ((p.span c).to - (p.span c).from) ≡ (p.span c).to = omega arith in
      rw e at (over_blocks op assoc xs ys (child_start n start w) m (λ q g. omega (arith, next q)) held (p.span c).from ((p.span c).to - (p.span c).from) (omega arith))

-- ---- one inner table

-- the children's products copied from the suffix cells, and an inner fill over them
pub inner_filled : {A : Type 0} (op : A → A → A) (assoc : (a b c : A) → op (op a b) c ≡ op a (op b c)) (n start w m : ℕ) (kids : Children n start w m)
    (p : Part) (suf at len : ℕ) (before t ys : List A)
    → Holds op (take n before) (suffixes n w) suf before
    → Written (λ q. slice_get before (suf + start + q * w)) m at before t
    → Filled op (take m (take len (drop at t))) p 0 (take len (drop at t)) ys
    → Within m p → m ≤ p.size → len ≡ p.size → at + len ≤ length t → length ys ≡ length (take len (drop at t))
    → Filled op (take n before) (lifted p n start w) at before (put_mid at len t ys)
inner_filled op assoc n start w m kids p suf at len before t ys suffix copied filled within enough e room same =
    let xs = take n before in
    let ys' = take m (take len (drop at t)) in
    let held : ChildrenHeld op n start w m xs ys' = λ q h.
    let r = row_before q m w h in
    nth_take m (take len (drop at t)) q h ∙ nth_take len (drop at t) q (omega arith) ∙ nth_drop at t q ∙ copied.holds q h
    ∙ ap (slice_get before) (add_assoc suf start (q * w)) ∙ suffix (start + q * w) (omega (arith, kids.last)) ∙ child_suffix op n start w m kids q h xs in
    written_over _ _ m p.size at before t _ enough copied
    (written_as _ _ p.size at t _ (λ c h. lifts op n start w m kids assoc xs ys' held p c (within c h).0 (within c h).1)
    (written_part _ p.size at len t ys filled (omega arith) room same))

-- a turn of the loop over parents
pub inner_turn : {A : Type 0} (op : A → A → A) (part : ℕ → Part) (n wide w k m at next start : ℕ) (xs xs' before t after : List A)
    → m ≡ count_of_children n (k * wide) wide w → next ≡ at + (inner_tables part n wide w k).size → start ≡ k * wide → xs' ≡ xs
    → Filled op xs (inner_tables part n wide w k) at before t → Filled op xs' (lifted (part m) n start w) next t after
    → Filled op xs (inner_tables part n wide w (k + 1)) at before after
inner_turn op part n wide w k m at next start xs xs' before t after em en es ex f g =
    filled_more op xs (inner_table part n wide w) k at before t after f (rw (em, en, es, ex) at g)

-- ---- steps

-- prefix cells, suffix cells and inner tables, one after the other
pub step_filled : {A : Type 0} (op : A → A → A) (part : ℕ → Part) (n wide w at : ℕ) (before t u after : List A) → n ≤ at
    → Filled op (take n before) (prefixes n w) at before t → Filled op (take n t) (suffixes n w) (at + n) t u → Filled op (take n u) (inner_tables part n wide w (parent_count n wide)) (at + n + n) u after
    → Filled op (take n before) (step_part part n wide w) at before after
step_filled op part n wide w at before t u after le f g h =
    let xs = take n before in
    let g' = filled_items op n (suffixes n w) (at + n) at before t u f.below le g in
    let both = filled_beside op xs (prefixes n w) (suffixes n w) at before t u f g' in
    let h' = filled_items op n (inner_tables part n wide w (parent_count n wide)) (at + n + n) at before u after both.below le h in
    filled_beside op xs (beside (prefixes n w) (suffixes n w)) (inner_tables part n wide w (parent_count n wide)) at before u after both (rw (add_assoc at n n) at h')

-- the step that a loop is at is the layout's
pub step_is : (plan : Plan) (n top s e f : ℕ) → e ≡ exponent_at plan.child top s → f ≡ plan.child e → step_part plan.part n (2 ^ e) (2 ^ f) ≡ layout_step plan n top s
step_is plan n top s e f ee ef =
    let up = exponent_next plan.child top s in
    let a : f ≡ exponent_at plan.child top (s + 1) = cc in
    rw (ee, a)

-- a turn of the loop over steps
pub step_turn : {A : Type 0} (op : A → A → A) (plan : Plan) (n top s at next : ℕ) (p : Part) (before t after : List A) → n ≤ at
    → p ≡ layout_step plan n top s → next ≡ at + (layout_steps plan n top s).size
    → Filled op (take n before) (layout_steps plan n top s) at before t → Filled op (take n t) p next t after
    → Filled op (take n before) (layout_steps plan n top (s + 1)) at before after
step_turn op plan n top s at next p before t after le ep en done g =
    let g' = filled_items op n p next at before t after done.below le g in
    filled_more op (take n before) (layout_step plan n top) s at before t after done (rw (ep, en) at g')

-- the items, and then all steps
pub layer_filled : {A : Type 0} (op : A → A → A) (n : ℕ) (steps : Part) (t after : List A) → Filled op (take n t) steps n t after → Filled op (take n t) (beside (items n) steps) 0 t after
layer_filled op n steps t after f = filled_beside op (take n t) (items n) steps 0 t t after (items_filled op n t) (rw (zero_plus n) f)
  where
    zero_plus : (k : ℕ) → 0 + k ≡ k
    zero_plus k = omega arith
