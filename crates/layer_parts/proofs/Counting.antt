-- The number of cells, with 2^40 for that or more.
use Rattle.std.proofs.Common.{◌≡◌, ℕ, zero, suc, ◌+◌, ◌-◌, ◌*◌, ◌/◌, ◌%◌, ◌^◌, ◌<◌, ◌≤◌, ap, ◌∙◌, ⊎_elim, add-mul, one-mul, zero-mul, arith}
use Rattle.std.proofs.lemmas.Nat.{div-add-mod', mod_below, mul-le, pow-add, shl-shr, div-mul-add}
use Rattle.std.proofs.lemmas.Bool.{cases_lt}
use Rattle.scheme.specs.Plan.{Part}
use Rattle.scheme.specs.Calls.{capped}
use Rattle.layer_parts.specs.Parts.{inner_table, inner_tables, count_of_children, parent_count, Widths}
use Rattle.layer_parts.proofs.Blocks.{row_before, children_whole}
use Rattle.layer_parts.proofs.Laying.{laid_same, laid_more}

-- ---- the cap

-- a number that is capped before it is multiplied and added to others
pub capped_product : (a k s : ℕ) → capped (a + k * capped s) ≡ capped (a + k * s)
capped_product a zero s = rw (zero-mul (capped s), zero-mul s)
capped_product a (suc k) s = ⊎_elim
    (λ (l : s < 2 ^ 40). let e : capped s ≡ s = omega arith in rw e)
    (λ (l : 2 ^ 40 ≤ s).
    let e : capped s ≡ 2 ^ 40 = omega arith in
    let x = mul-le 1 (capped s) (suc k) (capped s) (omega arith) (omega arith) in
    let y = mul-le 1 s (suc k) s (omega arith) (omega arith) in
    omega (arith, one-mul (capped s), one-mul s))
    (cases_lt s (2 ^ 40))

pub capped_sum : (a b x y : ℕ) → capped a ≡ capped x → capped b ≡ capped y → capped (a + b) ≡ capped (x + y)
capped_sum a b x y p q = omega arith

-- ---- the inner tables of a step

pub pow_div : (e f : ℕ) → f ≤ e → 2 ^ e / 2 ^ f ≡ 2 ^ (e - f)
pow_div e f h =
    let split : e ≡ (e - f) + f = omega arith in
    ap (λ v. 2 ^ v / 2 ^ f) split ∙ ap (λ v. v / 2 ^ f) (pow-add 2 (e - f) f) ∙ shl-shr (2 ^ (e - f)) f

module _ (part : ℕ → Part) (n wide w : ℕ) (ws : Widths n wide w) where
  -- as long as no parent is cut, the inner tables have one size
  pub whole_inners : (k : ℕ) → k ≤ n / wide → (inner_tables part n wide w k).size ≡ k * (part (wide / w)).size
  whole_inners k h = laid_same (inner_table part n wide w) (part (wide / w)).size k
      (λ i l. ap (λ m. (part m).size) (children_whole n wide w i ws (omega (arith, row_before i (n / wide) wide (omega arith), div-add-mod' n wide))))

  -- no parent is cut
  pub parents_even : n / wide * wide ≡ n → parent_count n wide ≡ n / wide
  parents_even even =
      let pos = ws.more in
      let x : n + wide - 1 ≡ n / wide * wide + (wide - 1) = omega arith in
      ap (λ v. v / wide) x ∙ div-mul-add (n / wide) wide (wide - 1) (omega arith)

  pub even_inners : n / wide * wide ≡ n → (inner_tables part n wide w (parent_count n wide)).size ≡ n / wide * (part (wide / w)).size
  even_inners even = ap (λ k. (inner_tables part n wide w k).size) (parents_even even) ∙ whole_inners (n / wide) (omega arith)

  -- the last parent is cut
  pub parents_cut : (n / wide * wide ≡ n → ⊥) → parent_count n wide ≡ n / wide + 1
  parents_cut cut =
      let pos = ws.more in
      let d = div-add-mod' n wide in
      let m = mod_below n wide pos in
      let x : n + wide - 1 ≡ (n / wide + 1) * wide + (n % wide - 1) = omega (arith, cut, add-mul (n / wide) 1 wide, one-mul wide) in
      ap (λ v. v / wide) x ∙ div-mul-add (n / wide + 1) wide (n % wide - 1) (omega arith)

  pub cut_inners : (n / wide * wide ≡ n → ⊥) → (inner_tables part n wide w (parent_count n wide)).size ≡ n / wide * (part (wide / w)).size + (part (count_of_children n (n / wide * wide) wide w)).size
  cut_inners cut =
      let more = ap (λ (p : Part). p.size) (laid_more (inner_table part n wide w) (n / wide)) in
      ap (λ k. (inner_tables part n wide w k).size) (parents_cut cut) ∙ omega (arith, whole_inners (n / wide) (omega arith))

  -- the last event is in the parent that is cut
  pub last_parent : (n / wide * wide ≡ n → ⊥) → (n - 1) / wide ≡ n / wide
  last_parent cut =
      let pos = ws.more in
      let d = div-add-mod' n wide in
      let m = mod_below n wide pos in
      let x : n - 1 ≡ n / wide * wide + (n % wide - 1) = omega (arith, cut) in
      ap (λ v. v / wide) x ∙ div-mul-add (n / wide) wide (n % wide - 1) (omega arith)
