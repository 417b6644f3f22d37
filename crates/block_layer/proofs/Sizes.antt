-- The cells of a step, as they are counted.
use Rattle.std.proofs.Common.{◌≡◌, ℕ, ◌+◌, ◌-◌, ◌*◌, ◌/◌, ◌^◌, ◌<◌, ◌≤◌, sym, ap, ◌∙◌, ⊎_elim, zero-mul, arith}
use Rattle.std.proofs.lemmas.Nat.{div-add-mod'}
use Rattle.std.proofs.lemmas.Bool.{cases_eq, ne_eqb}
use Rattle.scheme.specs.Plan.{Plan}
use Rattle.scheme.specs.Calls.{capped}
use Rattle.scheme.specs.declared.events.EventCount.{EventCount}
use Rattle.layer_parts.specs.Parts.{inner_table, inner_tables, step_part, count_of_children, parent_count, Widths, Children}
use Rattle.layer_parts.proofs.Blocks.{widths_of, row_before, children_of, children_whole, parent_counted}
use Rattle.layer_parts.proofs.Laying.{laid_room}
use Rattle.layer_parts.proofs.Counting.{capped_product, capped_sum, pow_div, whole_inners, parents_even, parents_cut, even_inners, cut_inners}
use Rattle.block_layer.specs.Steps.{cells_of_whole}
use Rattle.block_layer.specs.declared.steps.Step.{Step}

-- parents of 2^e of n events, and children of 2^f
pub record Exponents (n e f : ℕ) : Type 0 where
  pub some : 0 < n
  pub few : n ≤ 65536
  pub low : e ≤ 16
  pub falls : f < e

pub widths : (n e f : ℕ) → Exponents n e f → Widths n (2 ^ e) (2 ^ f)
widths n e f x = widths_of n e f x.some x.few x.low (omega (arith, x.falls))

-- what the types of a number of events and of a step keep
pub exponents : (events : EventCount) (step : Step) → Exponents events.count step.parents.e step.children.e
exponents events step = record { some = events.counted.some; few = events.counted.few; low = step.parents.few; falls = step.falls }

-- counting whole tables with the cap
whole_counted : (plan : Plan) (e f a k : ℕ) → capped (a + k * cells_of_whole plan e f k) ≡ capped (a + k * (plan.part (2 ^ (e - f))).size)
whole_counted plan e f a k = ⊎_elim
    (λ (none : k ≡ 0). rw none (rw (zero-mul (plan.part (2 ^ (e - f))).size))
    )
    (λ (some : k ≡ 0 → ⊥). rw (ne_eqb k 0 some) (capped_product a k (plan.part (2 ^ (e - f))).size))
    (cases_eq k 0)

module _ (plan : Plan) (n e f : ℕ) (x : Exponents n e f) where
  ratio : (plan.part (2 ^ e / 2 ^ f)).size ≡ (plan.part (2 ^ (e - f))).size
  ratio = ap (λ m. (plan.part m).size) (pow_div e f (omega (arith, x.falls)))

  -- no parent is cut
  pub even_counted : (r : ℕ) → n / 2 ^ e * 2 ^ e ≡ n → r ≡ cells_of_whole plan e f (n / 2 ^ e) → capped (2 * n + n / 2 ^ e * r) ≡ capped (step_part plan.part n (2 ^ e) (2 ^ f)).size
  even_counted r even is =
      let inners = even_inners plan.part n (2 ^ e) (2 ^ f) (widths n e f x) even in
      let all : (step_part plan.part n (2 ^ e) (2 ^ f)).size ≡ 2 * n + n / 2 ^ e * (plan.part (2 ^ (e - f))).size = omega (arith, ap (λ s. n / 2 ^ e * s) ratio) in
      rw (is, all) (whole_counted plan e f (2 * n) (n / 2 ^ e))

  -- the last parent is cut
  pub cut_counted : (r last : ℕ) → (n / 2 ^ e * 2 ^ e ≡ n → ⊥) → r ≡ cells_of_whole plan e f (n / 2 ^ e) → last ≡ capped (plan.part (count_of_children n (n / 2 ^ e * 2 ^ e) (2 ^ e) (2 ^ f))).size
      → capped (2 * n + n / 2 ^ e * r + last) ≡ capped (step_part plan.part n (2 ^ e) (2 ^ f)).size
  cut_counted r last cut is last-is =
      let inners = cut_inners plan.part n (2 ^ e) (2 ^ f) (widths n e f x) cut in
      let s = (plan.part (count_of_children n (n / 2 ^ e * 2 ^ e) (2 ^ e) (2 ^ f))).size in
      let all : (step_part plan.part n (2 ^ e) (2 ^ f)).size ≡ 2 * n + n / 2 ^ e * (plan.part (2 ^ (e - f))).size + s = omega (arith, ap (λ s. n / 2 ^ e * s) ratio) in
      let z : capped (capped s) ≡ capped s = omega arith in
      rw (is, last-is, all) (capped_sum _ (capped s) _ s (whole_counted plan e f (2 * n) (n / 2 ^ e)) z)

  -- where a step has fewer than 2^40 cells, one inner table is counted exactly
  pub whole_size : (full r : ℕ) → 0 < full → full ≤ n / 2 ^ e → (step_part plan.part n (2 ^ e) (2 ^ f)).size < 2 ^ 40 → r ≡ cells_of_whole plan e f full
      → r ≡ (plan.part (2 ^ (e - f))).size
  whole_size full r some counted small is =
      let ws = widths n e f x in
      let first = laid_room (inner_table plan.part n (2 ^ e) (2 ^ f)) 0 (parent_count n (2 ^ e)) (omega (arith, parent_counted n (2 ^ e) 0 ws.more ws.some)) in
      let one = whole_inners plan.part n (2 ^ e) (2 ^ f) ws 1 (omega arith) in
      is ∙ (rw (ne_eqb full 0 (λ none. omega arith)) (omega (arith, ratio)))

  -- and the inner tables before parent k take k times its cells
  pub whole_exact : (k full r : ℕ) → k ≤ full → full ≤ n / 2 ^ e → (step_part plan.part n (2 ^ e) (2 ^ f)).size < 2 ^ 40 → r ≡ cells_of_whole plan e f full
      → k * r ≡ (inner_tables plan.part n (2 ^ e) (2 ^ f) k).size
  whole_exact k full r below counted small is = ⊎_elim
      (λ (none : full ≡ 0). let z : k ≡ 0 = omega arith in rw z (zero-mul r))
      (λ (some : full ≡ 0 → ⊥).
      ap (λ v. k * v) (whole_size full r (omega (arith, some)) counted small is ∙ sym ratio) ∙ sym (whole_inners plan.part n (2 ^ e) (2 ^ f) (widths n e f x) k (omega arith)))
      (cases_eq full 0)

  -- a parent that is not cut has 2^(e-f) children
  pub whole_kids : (k : ℕ) → k < n / 2 ^ e → count_of_children n (k * 2 ^ e) (2 ^ e) (2 ^ f) ≡ 2 ^ (e - f)
  whole_kids k h =
      children_whole n (2 ^ e) (2 ^ f) k (widths n e f x) (omega (arith, row_before k (n / 2 ^ e) (2 ^ e) h, div-add-mod' n (2 ^ e))) ∙ pow_div e f (omega (arith, x.falls))

  -- the parents that are not cut are parents
  pub whole_counts : (k : ℕ) → k < n / 2 ^ e → k < parent_count n (2 ^ e)
  whole_counts k h =
      let ws = widths n e f x in
      ⊎_elim
      (λ (even : n / 2 ^ e * 2 ^ e ≡ n). omega (arith, parents_even plan.part n (2 ^ e) (2 ^ f) ws even))
      (λ (cut : n / 2 ^ e * 2 ^ e ≡ n → ⊥). omega (arith, parents_cut plan.part n (2 ^ e) (2 ^ f) ws cut))
      (cases_eq (n / 2 ^ e * 2 ^ e) n)

  pub below_whole : (k : ℕ) → k < n / 2 ^ e → k * 2 ^ e < n
  below_whole k h = omega (arith, row_before k (n / 2 ^ e) (2 ^ e) h, div-add-mod' n (2 ^ e), (widths n e f x).more)

-- the children of p's parent are blocks of events
pub kids_of : (n e f p start children : ℕ) → Exponents n e f → p < n → start ≡ p / 2 ^ e * 2 ^ e → children ≡ count_of_children n start (2 ^ e) (2 ^ f) → Children n start (2 ^ f) children
kids_of n e f p start children x low begins counted =
    let below : p / 2 ^ e * 2 ^ e < n = omega (arith, div-add-mod' p (2 ^ e)) in
    rw (counted, begins) (children_of n (2 ^ e) (2 ^ f) (p / 2 ^ e) (widths n e f x) below)

-- parent k, which is not cut, where one inner table takes r cells
pub record WholeParent (plan : Plan) (n e f k r : ℕ) : Type 0 where
  pub size : r ≡ (plan.part (2 ^ (e - f))).size
  pub before : k * r ≡ (inner_tables plan.part n (2 ^ e) (2 ^ f) k).size
  pub room : (inner_tables plan.part n (2 ^ e) (2 ^ f) k).size + r ≤ (inner_tables plan.part n (2 ^ e) (2 ^ f) (parent_count n (2 ^ e))).size
  pub counted : count_of_children n (k * 2 ^ e) (2 ^ e) (2 ^ f) ≡ 2 ^ (e - f)
  pub kids : Children n (k * 2 ^ e) (2 ^ f) (2 ^ (e - f))

pub whole_parent : (plan : Plan) (n e f k r : ℕ) → Exponents n e f → k < n / 2 ^ e → (step_part plan.part n (2 ^ e) (2 ^ f)).size < 2 ^ 40 → r ≡ cells_of_whole plan e f (n / 2 ^ e) → WholeParent plan n e f k r
whole_parent plan n e f k r x low small told =
    let size = whole_size plan n e f x (n / 2 ^ e) r (omega arith) (omega arith) small told in
    let counted = whole_kids plan n e f x k low in
    let room = laid_room (inner_table plan.part n (2 ^ e) (2 ^ f)) k (parent_count n (2 ^ e)) (whole_counts plan n e f x k low) in
    record {
      size = size;
      before = whole_exact plan n e f x k (n / 2 ^ e) r (omega arith) (omega arith) small told;
      room = omega (arith, ap (λ m. (plan.part m).size) counted);
      counted = counted;
      kids = rw counted at (children_of n (2 ^ e) (2 ^ f) k (widths n e f x) (below_whole plan n e f x k low));
    }
