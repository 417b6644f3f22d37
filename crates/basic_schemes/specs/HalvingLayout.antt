-- Rows, halves and intervals of a table of halved blocks, and that its plan is sound.
use Rattle.std.specs.Prelude.{◌≡◌, ℕ, suc, ◌+◌, ◌-◌, ◌*◌, ◌/◌, ◌%◌, ◌^◌, ◌<◌, ◌≤◌, [], ◌∷◌, ◌≢◌, bit_xor}
use Rattle.std.proofs.Common.{sym, ap, ◌∙◌, ⊎_elim, arith, mod-eq_of_lt, le_of_lt, add-mul, one-mul, add-one}
use Rattle.std.proofs.Math.Nat.{div-eq_of_lt}
use Rattle.std.specs.Int.Bits.{xor_self, xor_assoc, xor_zero_r, xor_zero_l}
use Rattle.std.specs.Int.Count.{count_leading_zeros}
use Rattle.std.proofs.Math.Pow.{shr_mono}
use Rattle.std.proofs.lemmas.Nat.{pow_pos, shr-shr, shr_split, div-mul-add, mod-mul-add, le-div, mul-add-lt, mod_below, mul-le, xor_shr, xor_lt, leading_top}
use Rattle.std.proofs.lemmas.Bool.{eq-eqb, ne_eqb, cases_eq, cond-true, cond-false}
use Rattle.scheme.specs.Plan.{Covers, done, goes, Sound, single}
use Rattle.scheme.specs.Blocks.{start_of_block, end_of_block}
use Rattle.scheme.specs.Exponent.{exponent}
use Rattle.scheme.proofs.Exponents.{digits_hold, digits_least, exponent_few, exponent_falls}
use Rattle.basic_schemes.specs.HalvingPlan.{rows, Parted, reach, row_of_parting, end_cells, halving_plan}

pub rows_few : (n : ℕ) → 0 < n → n ≤ 65536 → rows n ≤ 16
rows_few n z b = omega (arith, exponent_few n b)

-- ---- where two events part

xor_none : (a b : ℕ) → bit_xor a b ≡ 0 → a ≡ b
xor_none a b e =
    let s : bit_xor (bit_xor a a) b ≡ b = ap (λ x. bit_xor x b) (xor_self a) ∙ xor_zero_l b in
    sym (xor_zero_r a) ∙ ap (bit_xor a) (sym e) ∙ sym (xor_assoc a a b) ∙ s

xor_some : (i j : ℕ) → i < j → 0 < bit_xor i j
xor_some i j l = ⊎_elim (λ (e : bit_xor i j ≡ 0). let same = xor_none i j e in absurd (omega arith)) (λ (e : bit_xor i j ≡ 0 → ⊥). omega arith) (cases_eq (bit_xor i j) 0)

pub parted : (i j : ℕ) → i < j → j < 2 ^ 32 → Parted i j (row_of_parting i j)
parted i j l b =
    let x = bit_xor i j in
    let t = leading_top 32 x (xor_some i j l) (xor_lt 32 i j (omega arith) b) in
    let is : row_of_parting i j ≡ t.0 = omega (arith, t.1) in
    let h = t.0 in
    let above : i / 2 ^ suc h ≡ j / 2 ^ suc h = xor_none _ _ (sym (xor_shr i j (suc h)) ∙ div-eq_of_lt t.3) in
    let i-half : i / 2 ^ h / 2 ≡ i / 2 ^ suc h = shr-shr i h 1 ∙ ap (λ k. i / 2 ^ k) (add-one h) in
    let j-half : j / 2 ^ h / 2 ≡ j / 2 ^ suc h = shr-shr j h 1 ∙ ap (λ k. j / 2 ^ k) (add-one h) in
    let up : i / 2 ^ h ≤ j / 2 ^ h = shr_mono h (le_of_lt l) in
    let apart : i / 2 ^ h ≡ j / 2 ^ h → ⊥ = λ e.
    let none : x / 2 ^ h ≡ 0 = xor_shr i j h ∙ ap (λ y. bit_xor y (j / 2 ^ h)) e ∙ xor_self (j / 2 ^ h) in
    let some : 1 ≤ x / 2 ^ h = le-div 1 x (2 ^ h) (pow_pos h) (omega (arith, t.2)) in
    omega arith in
    rw is (record { left = omega arith; next = omega arith })

-- two numbers that differ have a highest digit in which they do
pub leading_few : (i j : ℕ) → i < j → j < 2 ^ 32 → count_leading_zeros 32 (bit_xor i j) ≤ 31
leading_few i j l b = let t = leading_top 32 (bit_xor i j) (xor_some i j l) (xor_lt 32 i j (omega arith) b) in omega (arith, t.1)

-- the table has the row in which two events part
pub parting_row_below : (n i j : ℕ) → n ≤ 65536 → i < j → j < n → row_of_parting i j < rows n
parting_row_below n i j b l m =
    let big : n - 1 < 2 ^ exponent n = digits_hold (n - 1) (omega arith) in
    let x : bit_xor i j < 2 ^ exponent n = xor_lt (exponent n) i j (omega arith) (omega arith) in
    let y : bit_xor i j < 2 ^ 32 = xor_lt 32 i j (omega arith) (omega arith) in
    omega (arith, digits_least (bit_xor i j) (exponent n) y x)

-- ---- intervals

pub reach_left : (n h p : ℕ) → p / 2 ^ h % 2 ≡ 0 → reach n h p ≡ record { from = p; to = end_of_block n (2 ^ h) p }
unfolding reach
reach_left n h p e = cond-true _ _ _ (eq-eqb _ _ e)

pub reach_right : (n h p : ℕ) → (p / 2 ^ h % 2 ≢ 0) → reach n h p ≡ record { from = start_of_block (2 ^ h) p; to = p + 1 }
unfolding reach
reach_right n h p e = cond-false _ _ _ (ne_eqb _ _ e)

-- a cell reaches its own event, and no further than the events
pub reach_within : (n h p : ℕ) → p < n → ((reach n h p).from ≤ p) × (p < (reach n h p).to) × ((reach n h p).to ≤ n)
reach_within n h p l =
    let s = shr_split p h in
    let m = mod_below p (2 ^ h) (pow_pos h) in
    ⊎_elim
    (λ e. rw (reach_left n h p e) (omega arith, omega arith, omega arith))
    (λ e. rw (reach_right n h p e) (omega arith, omega arith, omega arith))
    (cases_eq (p / 2 ^ h % 2) 0)

-- row 0 has the events alone
pub reach_item : (n p : ℕ) → p < n → reach n 0 p ≡ single p
reach_item n p l = ⊎_elim
    (λ e. reach_left n 0 p e ∙ ap (λ x. record { from = p; to = x }) (omega (arith, shr_split p 0)))
    (λ e. reach_right n 0 p e ∙ ap (λ x. record { from = x; to = p + 1 }) (omega (arith, shr_split p 0)))
    (cases_eq (p / 2 ^ 0 % 2) 0)

-- ---- cells

-- a later row begins past each cell of an earlier one
pub row_past : (n k h q : ℕ) → k < h → q < n → k * n + q < h * n
row_past n k h q l m =
    let e : (k + 1) * n ≡ k * n + n = add-mul k 1 n ∙ ap (λ x. k * n + x) (one-mul n) in
    let f : (k + 1) * n ≤ h * n = mul-le (k + 1) n h n (omega arith) (omega arith) in
    omega arith

-- the rows past the items begin past them
pub items_before : (n h : ℕ) → 0 < h → n ≤ h * n
items_before n h up = omega (arith, mul-le 1 n h n up (omega arith))

pub cells_enough : (n : ℕ) → n ≤ n * rows n
cells_enough n = omega (arith, mul-le n 1 n (rows n) (omega arith) (omega arith))

pub cells_few : (n : ℕ) → 0 < n → n ≤ 65536 → n * rows n ≤ 1048576
cells_few n z b = mul-le n (rows n) 65536 16 b (rows_few n z b)

pub cell_below : (n h p : ℕ) → h < rows n → p < n → h * n + p < n * rows n
cell_below n h p a b = mul-add-lt h n p (rows n) a b

-- the interval of row h's cell for p
pub cell_span : (n h p : ℕ) → p < n → (halving_plan.part n).span (h * n + p) ≡ reach n h p
cell_span n h p l = rw (div-mul-add h n p l, mod-mul-add h n p l)

pub item_span : (n q : ℕ) → q < n → (halving_plan.part n).span q ≡ single q
item_span n q l = rw (div-eq_of_lt l, mod-eq_of_lt l) (reach_item n q l)

-- ---- the cells of two events that part

-- the half of j begins where that of i ends
half_next : (i j h : ℕ) → Parted i j h → start_of_block (2 ^ h) j ≡ start_of_block (2 ^ h) i + 2 ^ h
half_next i j h p = ap (λ x. x * 2 ^ h) p.next ∙ add-mul (i / 2 ^ h) 1 (2 ^ h) ∙ ap (λ x. start_of_block (2 ^ h) i + x) (one-mul (2 ^ h))

pub left_span : (n i j : ℕ) → n ≤ 65536 → i < j → j < n → (halving_plan.part n).span (row_of_parting i j * n + i) ≡ record { from = i; to = start_of_block (2 ^ (row_of_parting i j)) j }
left_span n i j b l m =
    let h = row_of_parting i j in
    let p = parted i j l (omega arith) in
    cell_span n h i (omega arith) ∙ reach_left n h i p.left ∙ ap (λ x. record { from = i; to = x }) (omega (arith, half_next i j h p, shr_split j h))

pub right_span : (n i j : ℕ) → n ≤ 65536 → i < j → j < n → (halving_plan.part n).span (row_of_parting i j * n + j) ≡ record { from = start_of_block (2 ^ (row_of_parting i j)) j; to = j + 1 }
right_span n i j b l m =
    let h = row_of_parting i j in
    let p = parted i j l (omega arith) in
    let right : j / 2 ^ h % 2 ≡ 0 → ⊥ = λ e. omega (arith, p.left, p.next) in
    cell_span n h j m ∙ reach_right n h j right

-- some event stands before the half of j
pub half_past : (i j : ℕ) → i < j → j < 2 ^ 32 → 0 < start_of_block (2 ^ row_of_parting i j) j
half_past i j l b =
    let h = row_of_parting i j in
    let p = parted i j l b in
    omega (arith, half_next i j h p, pow_pos h)

-- ---- the cells that answer a run

pub one_cell : (n i j : ℕ) → i ≡ j → end_cells n i j ≡ i ∷ []
one_cell n i j e = cond-true _ _ _ (eq-eqb i j e)

pub two_cells : (n i j : ℕ) → (i ≢ j) → end_cells n i j ≡ (row_of_parting i j * n + i) ∷ (row_of_parting i j * n + j) ∷ []
two_cells n i j ne = cond-false _ _ _ (ne_eqb i j ne)

one_covers : (n i : ℕ) → i < n → Covers (halving_plan.part n) i (i + 1) (i ∷ [])
one_covers n i l =
    let s = item_span n i l in
    goes (omega (arith, cells_enough n)) (ap (λ s. s.from) s) (rw (ap (λ s. s.to) s) done)

two_cover : (n i j : ℕ) → n ≤ 65536 → i < j → j < n → Covers (halving_plan.part n) i (j + 1) ((row_of_parting i j * n + i) ∷ (row_of_parting i j * n + j) ∷ [])
two_cover n i j b l m =
    let h = row_of_parting i j in
    let row = parting_row_below n i j b l m in
    let a = left_span n i j b l m in
    let z = right_span n i j b l m in
    goes (cell_below n h i row (omega arith)) (ap (λ s. s.from) a)
    (goes (cell_below n h j row m) (ap (λ s. s.from) z ∙ sym (ap (λ s. s.to) a)) (rw (ap (λ s. s.to) z) done))

run_covered : (n i j : ℕ) → n ≤ 65536 → i < j → j ≤ n → Covers (halving_plan.part n) i j (halving_plan.pieces n i j)
run_covered n i j b l m =
    let last : j - 1 + 1 ≡ j = omega arith in
    ⊎_elim
    (λ (e : i ≡ j - 1). let end : i + 1 ≡ j = omega arith in rw (one_cell n i (j - 1) e) (rw end at (one_covers n i (omega arith))))
    (λ (e : i ≡ j - 1 → ⊥). rw (two_cells n i (j - 1) e) (rw last at (two_cover n i (j - 1) b (omega arith) (omega arith))))
    (cases_eq i (j - 1))

-- ---- the plan is sound

pub halving_sound : Sound halving_plan
halving_sound = record {
  enough = λ n z b. cells_enough n;
  items_first = λ n q b l. item_span n q l;
  within = λ n z b c l. let w = reach_within n (c / n) (c % n) (mod_below c n z) in (omega arith, w.2);
  covered = run_covered;
  few = λ n i j b l m. ⊎_elim
      (λ (e : i ≡ j - 1). rw (one_cell n i (j - 1) e) (omega arith))
      (λ (e : i ≡ j - 1 → ⊥). rw (two_cells n i (j - 1) e) (omega arith))
      (cases_eq i (j - 1));
  falls = λ e z b. exponent_falls e z (omega arith);
}
