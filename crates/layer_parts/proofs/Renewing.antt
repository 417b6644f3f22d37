-- Parts after an update of one item.
use Rattle.std.proofs.Common.{◌≡◌, ℕ, ◌+◌, ◌-◌, ◌*◌, ◌/◌, ◌<◌, ◌≤◌, List, length, take, drop, set, Some, sym, refl, ◌∙◌, inl, inr, ⊎_elim, add_assoc, add-mul, one-mul, zero-add, arith}
use borrow.Rule.Slice.PartMut.{put_mid}
use Rattle.std.specs.List.{slice_get}
use Rattle.std.proofs.lemmas.List.{length-take-le, length-drop}
use Rattle.std.proofs.lemmas.Bool.{lt-ltb, le-ltb, cases_lt, cases_eq}
use Rattle.std.proofs.lemmas.Nat.{div-add-mod', mod_below, mul-le}
use Rattle.semigroup.specs.Product.{over}
use Rattle.semigroup.proofs.Places.{nth_set_same, nth_set_other, nth_take, nth_drop, take_same}
use Rattle.semigroup.proofs.Products.{over_one, over_set_out}
use Rattle.scheme.specs.Plan.{Interval, Part, Plan, Sound, Misses, single}
use Rattle.scheme.specs.Table.{Holds, Stands, due}
use Rattle.scheme.specs.Calls.{Renewed}
use Rattle.scheme.specs.Blocks.{start_of_block}
use Rattle.scheme.proofs.Writes.{nth_part_below, nth_part, nth_part_above}
use Rattle.scheme.proofs.Standing.{renewed_stands}
use Rattle.scheme.proofs.Changes.{take_changed}
use Rattle.layer_parts.specs.Parts.{nothing, beside, laid, items, prefixes, suffixes, child_start, lifted, inner_table, inner_tables, step_part, count_of_children, parent_count, Widths}
use Rattle.layer_parts.specs.Layout.{child_holding}
use Rattle.layer_parts.specs.Writes.{PartRenewed}
use Rattle.layer_parts.proofs.Blocks.{row_before, children_of, children_few, children_inside, parent_below, parent_counted, child_starts, child_counted}
use Rattle.layer_parts.proofs.Laying.{span_left, span_right, span_laid, laid_more, laid_room, locate, holds_left, holds_right, holds_both}
use Rattle.layer_parts.proofs.Filling.{ChildrenHeld, child_suffix, lifts}

-- ---- parts laid end to end

module _ {A : Type 0} (op : A → A → A) (n p : ℕ) where
  pub renewed_none : (at : ℕ) (t : List A) → PartRenewed op n p nothing at (Unit {0}) t t
  renewed_none at t = record { holds = λ _ items x len same held c h. absurd (omega arith); missing = λ c h out. refl; below = λ c h. refl; above = λ c h. refl }

  -- a part and then the one beside it, which may be sure that the first holds
  pub renewed_beside : (P Q : Part) (at : ℕ) (Start : Type 0) (t u v : List A) → n ≤ at → PartRenewed op n p P at (Unit {0}) t u → PartRenewed op n p Q (at + P.size) Start u v
      → (Holds op (take n u) P at u → Start) → PartRenewed op n p (beside P Q) at (Unit {0}) t v
  renewed_beside P Q at Start t u v past f g start =
      let same : take n u ≡ take n t = take_same n u t (λ i h. f.below i (omega arith)) in
      record {
        holds = λ _ items x len eq held.
            let eq' : take n u ≡ set items p x = same ∙ eq in
            let first = f.holds tt items x len eq (holds_left op items P Q at t held) in
            let kept : Holds op items Q (at + P.size) u = λ c h. f.above (at + P.size + c) (omega arith) ∙ holds_right op items P Q at t held c h in
            let second = g.holds (start (rw eq' first)) items x len eq' kept in
            holds_both op (set items p x) P Q at v (λ c h. g.below (at + c) (omega arith) ∙ first c h) second;
        missing = λ c h out. ⊎_elim
            (λ (l : c < P.size). g.below (at + c) (omega arith) ∙ f.missing c l (rw (lt-ltb c P.size l) at out))
            (λ (l : P.size ≤ c).
            let e : at + c ≡ at + P.size + (c - P.size) = omega arith in
            rw e (g.missing (c - P.size) (omega arith) (rw (le-ltb c P.size l) at out) ∙ f.above (at + P.size + (c - P.size)) (omega arith)))
            (cases_lt c P.size);
        below = λ c h. g.below c (omega arith) ∙ f.below c h;
        above = λ c h. g.above c (omega arith) ∙ f.above c (omega arith);
      }

  -- one part more
  pub renewed_more : (parts : ℕ → Part) (k at : ℕ) (t u v : List A) → n ≤ at → PartRenewed op n p (laid parts k) at (Unit {0}) t u
      → PartRenewed op n p (parts k) (at + (laid parts k).size) (Unit {0}) u v → PartRenewed op n p (laid parts (k + 1)) at (Unit {0}) t v
  renewed_more parts k at t u v past f g = rw (laid_more parts k) (renewed_beside (laid parts k) (parts k) at (Unit {0}) t u v past f g (λ _. tt))

  -- of many parts, only one has p in its intervals, and it was renewed
  pub renewed_one : (parts : ℕ → Part) (count k at : ℕ) (Start : Type 0) (t v : List A) → k < count
      → ((i : ℕ) → i < count → (i ≡ k → ⊥) → (c : ℕ) → c < (parts i).size → Misses ((parts i).span c) p)
      → PartRenewed op n p (parts k) (at + (laid parts k).size) Start t v → PartRenewed op n p (laid parts count) at Start t v
  renewed_one parts count k at Start t v kc out f =
      let room = laid_room parts k count kc in
      let apart : (i c : ℕ) → i < count → (i ≡ k → ⊥) → c < (parts i).size → slice_get v (at + ((laid parts i).size + c)) ≡ slice_get t (at + ((laid parts i).size + c)) = λ i c ic ne h.
      ⊎_elim
      (λ (l : i < k). f.below (at + ((laid parts i).size + c)) (omega (arith, laid_room parts i k l)))
      (λ (l : k ≤ i). f.above (at + ((laid parts i).size + c)) (omega (arith, laid_room parts k i (omega (arith, ne)))))
      (cases_lt i k) in
      record {
        holds = λ s items x len eq held c h.
            let z = locate parts count c h in
            let sp = span_laid parts z.part count z.cell z.counted z.inside in
            let here : slice_get t (at + ((laid parts z.part).size + z.cell)) ≡ due op items (parts z.part).span z.cell =
            rw sp at (held ((laid parts z.part).size + z.cell) (omega (arith, laid_room parts z.part count z.counted))) in
            rw (z.at, sp) (⊎_elim
            (λ (same : z.part ≡ k).
            let inside : z.cell < (parts k).size = rw same at z.inside in
            let all : Holds op items (parts k) (at + (laid parts k).size) t = λ d l.
            let e : at + (laid parts k).size + d ≡ at + ((laid parts k).size + d) = omega arith in
            rw e (rw (span_laid parts k count d kc l) at (held ((laid parts k).size + d) (omega arith))) in
            let e : at + ((laid parts k).size + z.cell) ≡ at + (laid parts k).size + z.cell = omega arith in
            rw (same, e) (f.holds s items x len eq all z.cell inside))
            (λ (other : z.part ≡ k → ⊥). apart z.part z.cell z.counted other z.inside ∙ here
            ∙ sym (over_set_out op items p x _ _ (out z.part z.counted other z.cell z.inside)))
            (cases_eq z.part k));
        missing = λ c h miss.
            let z = locate parts count c h in
            let sp = span_laid parts z.part count z.cell z.counted z.inside in
            rw z.at (⊎_elim
            (λ (same : z.part ≡ k).
            let inside : z.cell < (parts k).size = rw same at z.inside in
            let e : at + ((laid parts k).size + z.cell) ≡ at + (laid parts k).size + z.cell = omega arith in
            let m : Misses ((parts k).span z.cell) p = rw same at (rw sp at (rw z.at at miss)) in
            rw (same, e) (f.missing z.cell inside m))
            (λ (other : z.part ≡ k → ⊥). apart z.part z.cell z.counted other z.inside)
            (cases_eq z.part k));
        below = λ c h. f.below c (omega arith);
        above = λ c h. f.above c (omega arith);
      }

-- ---- one inner table

-- the events of p's child
child_bounds : (n wide w p : ℕ) → Widths n wide w → (p / wide * wide + child_holding wide w p * w ≤ p) × (p < p / wide * wide + child_holding wide w p * w + w)
child_bounds n wide w p ws =
    let s = child_starts n wide w p ws in
    let d = div-add-mod' p w in
    let m = mod_below p w ws.positive in
    (omega arith, omega arith)

-- a run of children without p's child is a run of events without p
pub misses_child : (n wide w p : ℕ) (s : Interval) → Widths n wide w → p < n
    → Misses (record { from = child_start n (p / wide * wide) w s.from; to = child_start n (p / wide * wide) w s.to }) p → Misses s (child_holding wide w p)
misses_child n wide w p s ws low out =
    let q = child_holding wide w p in
    let b = child_bounds n wide w p ws in
    ⊎_elim
    (λ (a : q < s.from). inl a)
    (λ (a : s.from ≤ q). ⊎_elim
    (λ (z : q < s.to).
    let up : s.from * w ≤ q * w = mul_up s.from q a in
    let r = row_before q s.to w z in
    absurd (⊎_elim (λ (c : p < child_start n (p / wide * wide) w s.from). omega arith) (λ (c : child_start n (p / wide * wide) w s.to ≤ p). omega arith) out))
    (λ (z : s.to ≤ q). inr z)
    (cases_lt q s.to))
    (cases_lt q s.from)
  where
    mul_up : (a b : ℕ) → a ≤ b → a * w ≤ b * w
    mul_up a b h = mul-le a w b w h (omega arith)

module _ {A : Type 0} (op : A → A → A) (assoc : (a b c : A) → op (op a b) c ≡ op a (op b c)) (plan : Plan) (sound : Sound plan) (n wide w p : ℕ) (ws : Widths n wide w) (low : p < n) where
  -- the inner table of p's parent, after an inner update of p's child
  pub inner_renewed : (suf at len : ℕ) (y : A) (t ys : List A) → len ≡ (plan.part (count_of_children n (p / wide * wide) wide w)).size → at + len ≤ length t → length ys ≡ length (take len (drop at t))
      → slice_get t (suf + start_of_block w p) ≡ Some y
      → Renewed op plan (count_of_children n (p / wide * wide) wide w) (child_holding wide w p) y (take len (drop at t)) ys
      → PartRenewed op n p (lifted (plan.part (count_of_children n (p / wide * wide) wide w)) n (p / wide * wide) w) at (Holds op (take n t) (suffixes n w) suf t) t (put_mid at len t ys)
  inner_renewed suf at len y t ys len_is room kept cell r =
      let k = p / wide in
      let start = k * wide in
      let m = count_of_children n start wide w in
      let q = child_holding wide w p in
      let part = plan.part m in
      let inner0 = take len (drop at t) in
      let ys0 = take m inner0 in
      let kids = children_of n wide w k ws (omega (arith, div-add-mod' p wide)) in
      let m-few : m ≤ 65536 = omega (arith, children_few n start w m kids, ws.few) in
      let enough = sound.enough m kids.some m-few in
      let within = sound.within m kids.some m-few in
      let b = child_bounds n wide w p ws in
      let qm = child_counted n wide w p ws low in
      let inner-len : length inner0 ≡ len = length-take-le len (drop at t) (omega (arith, length-drop at t)) in
      let ys-len : length ys ≡ len = kept ∙ inner-len in
      let ys0-len : length ys0 ≡ m = length-take-le m inner0 (omega arith) in
      let read : (c : ℕ) → c < len → slice_get inner0 c ≡ slice_get t (at + c) = λ c h. nth_take len (drop at t) c h ∙ nth_drop at t c in
      record {
        holds = λ fresh items x items-len eq held c h.
            let held0 : ChildrenHeld op n start w m items ys0 = λ d l.
            nth_take m inner0 d l ∙ read d (omega arith) ∙ (rw (sound.items_first m d m-few l) at (held d (omega arith))) in
            let stands : Stands op plan m ys0 inner0 = record {
              whole = ys0-len;
              holds = λ d l. rw zero-add (read d (omega arith) ∙ held d l ∙ sym (lifts op n start w m kids assoc items ys0 held0 part d (within d l).0 (within d l).1));
            } in
            let stands' = renewed_stands op plan sound m kids.some m-few ys0 inner0 ys q y stands r in
            let new : over op (set items p x) (child_start n start w q) (child_start n start w (q + 1)) ≡ Some y =
            sym (child_suffix op n start w m kids q qm (set items p x))
            ∙ (rw (eq, ← child_starts n wide w p ws) at (sym (fresh (start_of_block w p) (omega (arith, child_starts n wide w p ws))) ∙ cell)) in
            let held' : ChildrenHeld op n start w m (set items p x) (set ys0 q y) = λ d l. ⊎_elim
            (λ (same : d ≡ q). rw same (nth_set_same ys0 q y (omega arith) ∙ sym new))
            (λ (other : d ≡ q → ⊥). nth_set_other ys0 q d y other ∙ held0 d l ∙ sym (over_set_out op items p x (child_start n start w d) (child_start n start w (d + 1)) (⊎_elim
            (λ (less : d < q). inr (omega (arith, row_before d q w less, add-mul d 1 w, one-mul w)))
            (λ (more : q ≤ d). inl (omega (arith, row_before q d w (omega (arith, other)), row_before d m w l, kids.last)))
            (cases_lt d q))))
            (cases_eq d q) in
            nth_part at len t ys (omega arith) c (omega arith) ∙ (rw zero-add at (stands'.holds c h)) ∙ lifts op n start w m kids assoc (set items p x) (set ys0 q y) held' part c (within c h).0 (within c h).1;
        missing = λ c h out. nth_part at len t ys (omega arith) c (omega arith) ∙ r.missing c h (misses_child n wide w p (part.span c) ws low out) ∙ read c (omega arith);
        below = λ c h. nth_part_below at len t ys (omega arith) c h;
        above = λ c h. nth_part_above at len t ys (omega arith) c ys-len (omega arith);
      }

  -- the tables of the other parents have no p
  pub others_miss : (i : ℕ) → i < parent_count n wide → (i ≡ p / wide → ⊥) → (c : ℕ) → c < (inner_table plan.part n wide w i).size → Misses ((inner_table plan.part n wide w i).span c) p
  others_miss i h other c l =
      let start = i * wide in
      let m = count_of_children n start wide w in
      let below = parent_below n wide i ws.more h in
      let kids = children_of n wide w i ws below in
      let s = sound.within m kids.some (omega (arith, children_few n start w m kids, ws.few)) c l in
      let k = p / wide in
      let d = div-add-mod' p wide in
      let r = mod_below p wide ws.more in
      ⊎_elim
      (λ (less : i < k). inr (omega (arith, row_before i k wide less, mul-le ((plan.part m).span c).to w m w s.1 (omega arith), children_inside n wide w i ws)))
      (λ (more : k ≤ i). inl (omega (arith, row_before k i wide (omega (arith, other)))))
      (cases_lt i k)

  -- all inner tables, once that of p's parent was renewed
  pub inners_renewed : (at : ℕ) (Start : Type 0) (t v : List A)
      → PartRenewed op n p (inner_table plan.part n wide w (p / wide)) (at + (inner_tables plan.part n wide w (p / wide)).size) Start t v
      → PartRenewed op n p (inner_tables plan.part n wide w (parent_count n wide)) at Start t v
  inners_renewed at Start t v f =
      renewed_one op n p (inner_table plan.part n wide w) (parent_count n wide) (p / wide) at Start t v (parent_counted n wide p ws.more low) others_miss f

  -- ---- steps

  -- prefix cells, suffix cells and inner tables, one after the other
  pub step_renewed : (at : ℕ) (t u v z : List A) → n ≤ at → PartRenewed op n p (prefixes n w) at (Unit {0}) t u → PartRenewed op n p (suffixes n w) (at + n) (Unit {0}) u v
      → PartRenewed op n p (inner_tables plan.part n wide w (parent_count n wide)) (at + n + n) (Holds op (take n v) (suffixes n w) (at + n) v) v z
      → PartRenewed op n p (step_part plan.part n wide w) at (Unit {0}) t z
  step_renewed at t u v z past f g h =
      let both = renewed_beside op n p (prefixes n w) (suffixes n w) at (Unit {0}) t u v past f g (λ _. tt) in
      renewed_beside op n p (beside (prefixes n w) (suffixes n w)) (inner_tables plan.part n wide w (parent_count n wide)) at _ t v z past both (rw (add_assoc at n n) at h)
      (λ held. holds_right op (take n v) (prefixes n w) (suffixes n w) at v held)

-- ---- the layer

module _ {A : Type 0} (op : A → A → A) (n p : ℕ) (x : A) (low : p < n) (steps : Part) (t t' : List A) (room : n ≤ length t) where
  -- item p, and then all steps
  pub layer_renewed : (plan : Plan) → plan.part n ≡ beside (items n) steps → PartRenewed op n p steps n (Unit {0}) (set t p x) t' → Renewed op plan n p x t t'
  layer_renewed plan is r =
      let item : (c : ℕ) → c < n → slice_get t' c ≡ slice_get (set t p x) c = λ c h. r.below c h in
      let rest : (c : ℕ) → n ≤ c → slice_get (set t p x) c ≡ slice_get t c = λ c h. nth_set_other t p c x (omega arith) in
      record {
        item = item p low ∙ nth_set_same t p x (omega arith);
        containing = λ c h inside built. ⊎_elim
            (λ (l : c < n).
            let sp : (plan.part n).span c ≡ single c = rw is (span_left (items n) steps c l) in
            let same : c ≡ p = (let i = rw sp at inside in omega arith) in
            rw (sp, same) (item p low ∙ nth_set_same t p x (omega arith) ∙ sym (over_one op (set (take n t) p x) p ∙ nth_set_same (take n t) p x (omega (arith, length-take-le n t room)))))
            (λ (l : n ≤ c).
            let back : c ≡ n + (c - n) = omega arith in
            let size : (plan.part n).size ≡ n + steps.size = rw is in
            let spanned : (d : ℕ) → (plan.part n).span (n + d) ≡ steps.span d = λ d. rw is (span_right (items n) steps d) in
            let held : Holds op (take n t) steps n (set t p x) = λ d k. rest (n + d) (omega arith) ∙ (rw (spanned d, zero-add) at (built.holds (n + d) (omega arith))) in
            let done = r.holds tt (take n t) x (length-take-le n t room) (take_changed n t p x) held (c - n) (omega arith) in
            rw (back, spanned (c - n)) done)
            (cases_lt c n);
        missing = λ c h outside. ⊎_elim
            (λ (l : c < n).
            let sp : (plan.part n).span c ≡ single c = rw is (span_left (items n) steps c l) in
            let other : c ≡ p → ⊥ = λ e. (let o = rw sp at outside in ⊎_elim (λ (a : p < c). omega arith) (λ (a : c + 1 ≤ p). omega arith) o) in
            item c l ∙ nth_set_other t p c x other)
            (λ (l : n ≤ c).
            let back : c ≡ n + (c - n) = omega arith in
            let size : (plan.part n).size ≡ n + steps.size = rw is in
            let spanned : (plan.part n).span (n + (c - n)) ≡ steps.span (c - n) = rw is (span_right (items n) steps (c - n)) in
            rw back (r.missing (c - n) (omega arith) (rw spanned at (rw back at outside)) ∙ rest (n + (c - n)) (omega arith)))
            (cases_lt c n);
        past = λ c h.
            let size : (plan.part n).size ≡ n + steps.size = rw is in
            r.above c (omega arith) ∙ rest c (omega arith);
      }
