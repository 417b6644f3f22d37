-- A layer over a sound scheme is sound.
use Rattle.std.proofs.Common.{◌≡◌, ℕ, ◌+◌, ◌-◌, ◌*◌, ◌/◌, ◌^◌, ◌<◌, ◌≤◌, true, false, eqb, [], ◌∷◌, length, sym, ap, ◌∙◌, ⊎_elim, add-mul, one-mul, arith, length-append}
use native.Mathlib.Nat.{div-eq_of_lt}
use Rattle.std.proofs.lemmas.List.{length-map}
use Rattle.std.proofs.lemmas.Bool.{lt-ltb, le-ltb, cases_lt, cases_eq, eqb-true, eqb-false, cases_Bool}
use Rattle.std.proofs.lemmas.Nat.{div-add-mod', le-div}
use Rattle.scheme.specs.Plan.{Interval, Part, Plan, Sound, Covers, goes, Within}
use Rattle.scheme.specs.Exponent.{exponent}
use Rattle.scheme.specs.Blocks.{start_of_block, end_of_block}
use Rattle.scheme.proofs.Exponents.{exponent_least, exponent_few, exponent_falls}
use Rattle.layer_parts.specs.Parts.{beside, items, prefixes, suffixes, lifted, child_start, inner_table, inner_tables, step_part, count_of_children, parent_count, Widths, Children, HasAt}
use Rattle.layer_parts.specs.Layout.{Apart, exponent_at, count_of_steps, step_of_parting, layout_step, layout_steps, layer_part, child_holding, between, inner_start, moved, step_pieces, layer_pieces, layer_plan}
use Rattle.layer_parts.proofs.Blocks.{widths_of, row_before, block_low, block_high, children_few, children_of, parent_below, parent_counted, child_starts, child_counted}
use Rattle.layer_parts.proofs.Laying.{span_left, span_right, span_laid, laid_room, within_beside, within_laid, covers_moved, covers_append, covers_lifted, covers_none, covers_from, covers_to}
use Rattle.layer_parts.proofs.Layouts.{steps_few, exponent_next, live, parting_found}

-- ---- the cells of a step

module _ (part : ℕ → Part) (n wide w : ℕ) where
  -- the inner table of parent k, among the cells of a step
  pub inner_placed : (k : ℕ) → k < parent_count n wide → HasAt (n + n + (inner_tables part n wide w k).size) (inner_table part n wide w k) (step_part part n wide w)
  inner_placed k h c l =
      let e : n + n + (inner_tables part n wide w k).size + c ≡ n + n + ((inner_tables part n wide w k).size + c) = omega arith in (
        omega (arith, laid_room (inner_table part n wide w) k (parent_count n wide) h),
        rw e (span_right (beside (prefixes n w) (suffixes n w)) (inner_tables part n wide w (parent_count n wide)) ((inner_tables part n wide w k).size + c)
            ∙ span_laid (inner_table part n wide w) k (parent_count n wide) c h l),
      )

  pub prefix_placed : (p : ℕ) → p < n → (p < (step_part part n wide w).size) × ((step_part part n wide w).span p ≡ (prefixes n w).span p)
  prefix_placed p h = (omega arith, span_left (beside (prefixes n w) (suffixes n w)) (inner_tables part n wide w (parent_count n wide)) p (omega arith) ∙ span_left (prefixes n w) (suffixes n w) p h)

  pub suffix_placed : (p : ℕ) → p < n → (n + p < (step_part part n wide w).size) × ((step_part part n wide w).span (n + p) ≡ (suffixes n w).span p)
  suffix_placed p h = (omega arith, span_left (beside (prefixes n w) (suffixes n w)) (inner_tables part n wide w (parent_count n wide)) (n + p) (omega arith) ∙ span_right (prefixes n w) (suffixes n w) p)

within_prefixes : (n w : ℕ) → Within n (prefixes n w)
within_prefixes n w c h = (omega (arith, block_low w c), omega arith)

within_suffixes : (n w : ℕ) → 0 < w → Within n (suffixes n w)
within_suffixes n w pos c h = (omega (arith, block_high w c pos), omega arith)

pub within_lifted : (p : Part) (n start w m : ℕ) → Children n start w m → Within m p → Within n (lifted p n start w)
within_lifted p n start w m k f c h =
    let r = f c h in
    (omega (arith, r.0, row_before (p.span c).from (p.span c).to w r.0, row_before (p.span c).from m w (omega (arith, r.0, r.1)), k.last, k.wide), omega arith)

within_step : (part : ℕ → Part) (n wide w : ℕ) → Widths n wide w → ((m : ℕ) → 0 < m → m ≤ 65536 → Within m (part m)) → Within n (step_part part n wide w)
within_step part n wide w ws f =
    within_beside n (beside (prefixes n w) (suffixes n w)) (inner_tables part n wide w (parent_count n wide))
    (within_beside n (prefixes n w) (suffixes n w) (within_prefixes n w) (within_suffixes n w ws.positive))
    (within_laid n (inner_table part n wide w) (parent_count n wide) (λ k h.
    let kids = children_of n wide w k ws (parent_below n wide k ws.more h) in
    let m = count_of_children n (k * wide) wide w in
    within_lifted (part m) n (k * wide) w m kids (f m kids.some (omega (arith, children_few n (k * wide) w m kids, ws.few)))))

-- ---- the pieces of a step

module _ (n wide w i j : ℕ) (apart : Apart n wide w i j) where
  -- i comes before j
  pub apart_rise : i < j
  apart_rise = omega (arith, block_high w i apart.widths.positive, row_before (i / w) (j / w) w apart.two_children, block_low w j)

  -- the child after i's begins where i's suffix ends
  pub after_left : end_of_block n w i ≡ child_start n (i / wide * wide) w (child_holding wide w i + 1)
  after_left = omega (arith, child_starts n wide w i apart.widths, add-mul (child_holding wide w i) 1 w, one-mul w)

  -- j's child, counted in i's parent
  start_right : i / wide * wide + child_holding wide w j * w ≡ start_of_block w j
  start_right = ap (λ k. k * wide + child_holding wide w j * w) apart.one_parent ∙ child_starts n wide w j apart.widths

  pub before_right : start_of_block w j ≡ child_start n (i / wide * wide) w (child_holding wide w j)
  before_right = omega (arith, start_right, block_low w j, apart.below)

  -- i's child comes before j's
  pub children_rise : child_holding wide w i < child_holding wide w j
  children_rise = ⊎_elim (λ (l : child_holding wide w i < child_holding wide w j). l)
      (λ (l : child_holding wide w j ≤ child_holding wide w i).
      let s = child_starts n wide w i apart.widths in
      let t = start_right in
      let r = row_before (i / w) (j / w) w apart.two_children in
      let e : start_of_block w i < start_of_block w j = omega (arith, apart.widths.positive) in
      absurd (⊎_elim
      (λ (same : child_holding wide w j ≡ child_holding wide w i). let z = ap (λ q. q * w) same in omega arith)
      (λ (other : child_holding wide w j ≡ child_holding wide w i → ⊥). omega (arith, row_before (child_holding wide w j) (child_holding wide w i) w (omega (arith, other))))
      (cases_eq (child_holding wide w j) (child_holding wide w i))))
      (cases_lt (child_holding wide w i) (child_holding wide w j))

  -- j's child is one of i's parent's
  pub right_counted : child_holding wide w j < count_of_children n (i / wide * wide) wide w
  right_counted = rw apart.one_parent (child_counted n wide w j apart.widths apart.below)

  pub parent_kids : Children n (i / wide * wide) w (count_of_children n (i / wide * wide) wide w)
  parent_kids = children_of n wide w (i / wide) apart.widths (omega (arith, div-add-mod' i wide, apart_rise, apart.below))

  pub kids_few : count_of_children n (i / wide * wide) wide w ≤ 65536
  kids_few = omega (arith, children_few n (i / wide * wide) w (count_of_children n (i / wide * wide) wide w) parent_kids, apart.widths.few)

-- a step covers each run that lies in one parent and begins and ends in two children
step_covers : (plan : Plan) (n wide w i j : ℕ) → Apart n wide w i j → ((m a b : ℕ) → m ≤ 65536 → a < b → b ≤ m → Covers (plan.part m) a b (plan.pieces m a b))
    → Covers (step_part plan.part n wide w) i (j + 1) (step_pieces plan n wide w i j)
step_covers plan n wide w i j apart covered =
    let part = plan.part in
    let p = step_part part n wide w in
    let k = i / wide in
    let m = count_of_children n (k * wide) wide w in
    let a = child_holding wide w i + 1 in
    let b = child_holding wide w j in
    let begins : ℕ → ℕ = child_start n (k * wide) w in
    let rise = apart_rise n wide w i j apart in
    let low = apart.below in
    let kids = children_rise n wide w i j apart in
    let inner : Covers p (begins a) (begins b) (moved (inner_start plan n wide w i) (between plan n wide w i j)) = ⊎_elim
    (λ (less : a < b). rw (lt-ltb a b less) (covers_moved (inner_table part n wide w k) p (inner_start plan n wide w i) (begins a) (begins b) (plan.pieces m a b)
    (inner_placed part n wide w k (parent_counted n wide i apart.widths.more (omega arith)))
    (covers_lifted (part m) n (k * wide) w a b (plan.pieces m a b) (covered m a b (kids_few n wide w i j apart) less (omega (arith, right_counted n wide w i j apart))))))
    (λ (none : b ≤ a). rw (le-ltb a b none) (covers_none p (begins a) (begins b) (ap begins (omega arith))))
    (cases_lt a b) in
    let sp = suffix_placed part n wide w i (omega arith) in
    let pp = prefix_placed part n wide w j low in
    goes sp.0 (ap (λ (s : Interval). s.from) sp.1)
    (covers_from p (p.span (n + i)).to (begins a) (j + 1) _ (ap (λ (s : Interval). s.to) sp.1 ∙ after_left n wide w i j apart)
    (covers_append p (begins a) (begins b) (j + 1) _ (j ∷ []) inner
    (goes pp.0 (ap (λ (s : Interval). s.from) pp.1 ∙ before_right n wide w i j apart) (covers_none p (p.span j).to (j + 1) (ap (λ (s : Interval). s.to) pp.1)))))

-- a step's pieces are two more than the inner scheme's between them
pub step_count : (plan : Plan) (n wide w i j : ℕ) → length (step_pieces plan n wide w i j) ≡ length (between plan n wide w i j) + 2
step_count plan n wide w i j =
    omega (arith, length-append (moved (inner_start plan n wide w i) (between plan n wide w i j)) (j ∷ []), length-map (between plan n wide w i j) (λ c. inner_start plan n wide w i + c))

below_two : (i j w : ℕ) → 0 < w → i ≤ j → (i / w ≡ j / w → ⊥) → i / w < j / w
below_two i j w pos le ne = omega (arith, ne, le-div (i / w) j w pos (omega (arith, div-add-mod' i w)))

-- ---- the layer

module _ (p : Plan) (sound : Sound p) where
  -- the widths of step s of the layout from e
  pub step_widths : (n e s : ℕ) → 0 < n → n ≤ 65536 → e ≤ 16 → s < count_of_steps p.child e → Widths n (2 ^ exponent_at p.child e s) (2 ^ exponent_at p.child e (s + 1))
  step_widths n e s some few le h =
      let l = live p.child sound.falls s e le h in
      let d = sound.falls (exponent_at p.child e s) l.0 (omega (arith, l.1)) in
      let up = exponent_next p.child e s in
      widths_of n (exponent_at p.child e s) (exponent_at p.child e (s + 1)) some few (omega (arith, l.1)) (omega arith)

  -- the cells of step s, among the layer's
  pub step_placed : (n s : ℕ) → s < count_of_steps p.child (exponent n) → HasAt (n + (layout_steps p n (exponent n) s).size) (layout_step p n (exponent n) s) (layer_part p n)
  step_placed n s h c l =
      let e : n + (layout_steps p n (exponent n) s).size + c ≡ n + ((layout_steps p n (exponent n) s).size + c) = omega arith in (
        omega (arith, laid_room (layout_step p n (exponent n)) s (count_of_steps p.child (exponent n)) h),
        rw e (span_right (items n) (layout_steps p n (exponent n) (count_of_steps p.child (exponent n))) ((layout_steps p n (exponent n) s).size + c)
            ∙ span_laid (layout_step p n (exponent n)) s (count_of_steps p.child (exponent n)) c h l),
      )

  layer_within : (n : ℕ) → 0 < n → n ≤ 65536 → Within n (layer_part p n)
  layer_within n some few =
      within_beside n (items n) (layout_steps p n (exponent n) (count_of_steps p.child (exponent n))) (λ c h. (omega arith, omega arith))
      (within_laid n (layout_step p n (exponent n)) (count_of_steps p.child (exponent n)) (λ s h.
      within_step p.part n (2 ^ exponent_at p.child (exponent n) s) (2 ^ exponent_at p.child (exponent n) (s + 1)) (step_widths n (exponent n) s some few (exponent_few n few) h) sound.within))

  -- i < j are in one parent and in two children of the step in which they part
  pub apart_in_step : (n i j : ℕ) → n ≤ 65536 → i < j → j < n
      → (step_of_parting p.child (exponent n) i j < count_of_steps p.child (exponent n))
      × Apart n (2 ^ exponent_at p.child (exponent n) (step_of_parting p.child (exponent n) i j)) (2 ^ exponent_at p.child (exponent n) (step_of_parting p.child (exponent n) i j + 1)) i j
  apart_in_step n i j few rise low =
      let e = exponent n in
      let big = (exponent_least n (omega arith)).enough in
      let f = parting_found p.child sound.falls e i j (exponent_few n few) (λ same. omega arith) (div-eq_of_lt (omega arith) ∙ sym (div-eq_of_lt (omega arith))) in
      let s = step_of_parting p.child e i j in
      let ws = step_widths n e s (omega arith) few (exponent_few n few) f.0 in
      (f.0, record { widths = ws; below = low; one_parent = f.1; two_children = below_two i j (2 ^ exponent_at p.child e (s + 1)) ws.positive (omega arith) f.2 })

  layer_covered : (n i j : ℕ) → n ≤ 65536 → i < j → j ≤ n → Covers (layer_part p n) i j (layer_pieces p n i (j - 1))
  layer_covered n i j few ij jn =
      let e = exponent n in
      let l = j - 1 in
      ⊎_elim
      (λ (one : eqb i l ≡ true).
      let same = eqb-true i l one in
      let sp = span_left (items n) (layout_steps p n e (count_of_steps p.child e)) i (omega arith) in
      let room : i < (layer_part p n).size = omega arith in
      rw one (goes room (ap (λ (s : Interval). s.from) sp) (covers_none (layer_part p n) ((layer_part p n).span i).to j (ap (λ (s : Interval). s.to) sp ∙ omega arith))))
      (λ (two : eqb i l ≡ false).
      let ne = eqb-false i l two in
      let a = apart_in_step n i l few (omega (arith, ne)) (omega arith) in
      let s = step_of_parting p.child e i l in
      let up : l + 1 ≡ j = omega arith in
      let c = step_covers p n (2 ^ exponent_at p.child e s) (2 ^ exponent_at p.child e (s + 1)) i l a.1 sound.covered in
      rw two (covers_to (layer_part p n) i (l + 1) j _ up (covers_moved (layout_step p n e s) (layer_part p n) (n + (layout_steps p n e s).size) i (l + 1) _ (step_placed n s a.0) c)))
      (cases_Bool (eqb i l))

  -- the pieces between i's child and j's are no more than the inner budget
  between_few : (n wide w i j : ℕ) → Apart n wide w i j → length (between p n wide w i j) ≤ p.budget
  between_few n wide w i j apart = ⊎_elim
      (λ (less : child_holding wide w i + 1 < child_holding wide w j).
      rw (lt-ltb (child_holding wide w i + 1) (child_holding wide w j) less) (sound.few (count_of_children n (i / wide * wide) wide w) (child_holding wide w i + 1) (child_holding wide w j) (kids_few n wide w i j apart) less (omega (arith, right_counted n wide w i j apart))))
      (λ (none : child_holding wide w j ≤ child_holding wide w i + 1). rw (le-ltb (child_holding wide w i + 1) (child_holding wide w j) none) (omega arith))
      (cases_lt (child_holding wide w i + 1) (child_holding wide w j))

  layer_few : (n i j : ℕ) → n ≤ 65536 → i < j → j ≤ n → length (layer_pieces p n i (j - 1)) ≤ p.budget + 2
  layer_few n i j few ij jn =
      let e = exponent n in
      let l = j - 1 in
      ⊎_elim
      (λ (one : eqb i l ≡ true). rw one (omega arith))
      (λ (two : eqb i l ≡ false).
      let ne = eqb-false i l two in
      let a = apart_in_step n i l few (omega (arith, ne)) (omega arith) in
      let s = step_of_parting p.child e i l in
      let wide = 2 ^ exponent_at p.child e s in
      let w = 2 ^ exponent_at p.child e (s + 1) in
      rw two (omega (arith, length-map (step_pieces p n wide w i l) (λ c. n + (layout_steps p n e s).size + c), step_count p n wide w i l, between_few n wide w i l a.1)))
      (cases_Bool (eqb i l))

  layer_falls : (e : ℕ) → 0 < e → e ≤ 16 → exponent (count_of_steps p.child e) < e
  layer_falls e some few = ⊎_elim
      (λ (none : count_of_steps p.child e ≡ 0). omega (arith, (exponent_least (count_of_steps p.child e) (omega arith)).least 0 (omega arith)))
      (λ (more : count_of_steps p.child e ≡ 0 → ⊥).
      let l = steps_few p.child e in
      omega (arith, exponent_falls (count_of_steps p.child e) (omega (arith, more)) (omega arith)))
      (cases_eq (count_of_steps p.child e) 0)

  pub layer_sound : Sound (layer_plan p)
  layer_sound = record {
    enough = λ n some few. omega arith;
    items_first = λ n c few h. span_left (items n) (layout_steps p n (exponent n) (count_of_steps p.child (exponent n))) c h;
    within = layer_within;
    covered = layer_covered;
    few = layer_few;
    falls = layer_falls;
  }
