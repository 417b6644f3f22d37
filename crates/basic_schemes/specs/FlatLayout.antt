-- Rows, cells and intervals of a table of every run, and that its plan is sound.
use Rattle.std.specs.Prelude.{◌≡◌, ℕ, zero, suc, ◌+◌, ◌-◌, ◌*◌, ◌/◌, ◌<◌, ◌≤◌}
use Rattle.std.proofs.Common.{sym, ap, ◌∙◌, ⊎_elim, arith, mul_comm, add-mul, mul-add, one-mul, mul-one, zero-mul, add-one}
use Rattle.std.proofs.lemmas.Nat.{mul-le}
use Rattle.std.proofs.lemmas.Bool.{lt-ltb, le-ltb, cond-true, cond-false, cases_lt, cases_eq}
use Rattle.scheme.specs.Plan.{Covers, done, goes, Sound, single}
use Rattle.basic_schemes.specs.FlatPlan.{row_start, run_from, locate, flat_plan}

-- ---- triangular numbers

abbrev pub tri : ℕ → ℕ
tri g = g * (g - 1) / 2

tri_more : (g : ℕ) → tri (g + 1) ≡ tri g + g
tri_more g =
    let back : g + 1 - 1 ≡ g = omega arith in
    let a : (g + 1) * (g + 1 - 1) ≡ g * g + g = ap (λ x. (g + 1) * x) back ∙ add-mul g 1 g ∙ ap (λ x. g * g + x) (one-mul g) in
    ⊎_elim
    (λ (z : g ≡ 0). rw z)
    (λ (z : g ≡ 0 → ⊥).
    let up : g - 1 + 1 ≡ g = omega arith in
    let b : g * (g - 1) + g ≡ g * g = ap (λ x. g * (g - 1) + x) (sym (mul-one g)) ∙ sym (mul-add g (g - 1) 1) ∙ ap (λ x. g * x) up in
    omega arith)
    (cases_eq g 0)

pub tri_le : (g n : ℕ) → g ≤ n + 1 → tri g ≤ g * n
tri_le g n l = omega (arith, mul-le g (g - 1) g n (omega arith) (omega arith))

-- ---- where a row begins

pub row_none : (n : ℕ) → row_start n 0 ≡ 0
unfolding row_start
row_none n = omega (arith, zero-mul n)

pub row_more : (n g : ℕ) → g ≤ n → row_start n (g + 1) ≡ row_start n g + (n - g)
unfolding row_start
row_more n g l =
    let a : (g + 1) * n ≡ g * n + n = add-mul g 1 n ∙ ap (λ x. g * n + x) (one-mul n) in
    omega (arith, tri_more g, tri_le g n (omega arith))

-- without its first row, a table is that of one event fewer
row_front : (n g : ℕ) → g < n → row_start n (g + 1) ≡ n + row_start (n - 1) g
unfolding row_start
row_front n g l =
    let a : (g + 1) * n ≡ g * n + n = add-mul g 1 n ∙ ap (λ x. g * n + x) (one-mul n) in
    let up : n - 1 + 1 ≡ n = omega arith in
    let b : g * n ≡ g * (n - 1) + g = ap (λ x. g * x) (sym up) ∙ mul-add g (n - 1) 1 ∙ ap (λ x. g * (n - 1) + x) (mul-one g) in
    omega (arith, tri_more g, tri_le g (n - 1) (omega arith))

-- a row begins past each cell of an earlier one
pub row_past : (n k g i : ℕ) → k < g → g ≤ n → k + i < n → row_start n k + i < row_start n g
row_past n k zero i l m f = absurd (omega arith)
row_past n k (suc g) i l m f =
    let e : row_start n (suc g) ≡ row_start n g + (n - g) = ap (row_start n) (omega arith) ∙ row_more n g (omega arith) in
    ⊎_elim
    (λ (s : k ≡ g). omega (arith, ap (row_start n) s))
    (λ (s : k ≡ g → ⊥). omega (arith, row_past n k g i (omega arith) (omega arith) f))
    (cases_eq k g)

-- the rows past the items begin past them
pub items_before : (n g : ℕ) → 0 < g → g ≤ n → n ≤ row_start n g
items_before n g up l = ⊎_elim (λ (z : n ≡ 0). omega arith) (λ (z : n ≡ 0 → ⊥). omega (arith, row_past n 0 g (n - 1) up l (omega arith), row_none n)) (cases_eq n 0)

-- ---- the number of cells

cells_more : (n : ℕ) → (n + 1) * (n + 1 + 1) / 2 ≡ n * (n + 1) / 2 + (n + 1)
cells_more n =
    let s : (m : ℕ) → m * (m + 1) / 2 ≡ tri (m + 1) = λ m. ap (λ x. x / 2) (mul_comm m (m + 1) ∙ ap (λ x. (m + 1) * x) (omega arith)) in
    omega (arith, s n, s (n + 1), tri_more (n + 1))

pub cells_enough : (n : ℕ) → n ≤ n * (n + 1) / 2
cells_enough n = ⊎_elim (λ (z : n ≡ 0). omega arith) (λ (z : n ≡ 0 → ⊥). omega (arith, mul-le n 2 n (n + 1) (omega arith) (omega arith))) (cases_eq n 0)

pub cells_few : (n : ℕ) → n ≤ 65536 → n * (n + 1) ≤ 4295032832
cells_few n l = omega (arith, mul-le n (n + 1) 65536 65537 (omega arith) (omega arith))

pub cell_below : (n g i : ℕ) → g + i < n → row_start n g + i < n * (n + 1) / 2
cell_below n zero i l = omega (arith, row_none n, cells_enough n)
cell_below zero (suc g) i l = absurd (omega arith)
cell_below (suc n) (suc g) i l =
    let m : suc n * (suc n + 1) / 2 ≡ n * (n + 1) / 2 + (n + 1) = ap (λ x. x * (x + 1) / 2) (sym (add-one n)) ∙ cells_more n in
    let f : row_start (suc n) (suc g) ≡ suc n + row_start n g = ap (row_start (suc n)) (sym (add-one g)) ∙ row_front (suc n) g (omega arith) ∙ ap (λ x. suc n + row_start x g) (omega arith) in
    omega (arith, cell_below n g i (omega arith))

-- the rows end where the table does
pub rows_end : (n : ℕ) → 0 < n → row_start n n ≤ n * (n + 1) / 2
rows_end n z =
    let e : row_start n n ≡ row_start n (n - 1) + (n - (n - 1)) = ap (row_start n) (omega arith) ∙ row_more n (n - 1) (omega arith) in
    omega (arith, cell_below n (n - 1) 0 (omega arith))

-- ---- the interval of the i-th cell of a row

located : (k m g w i : ℕ) → m ≤ k → m + i < w → locate k g w (row_start w m + i) ≡ run_from i (g + m)
unfolding locate
located zero m g w i l h =
    let z : m ≡ 0 = omega arith in
    let e : row_start w m + i ≡ i = omega (arith, ap (row_start w) z, row_none w) in
    rw (e, z) (ap (run_from i) (omega arith))
located (suc k) zero g w i l h =
    let e : row_start w 0 + i ≡ i = omega (arith, row_none w) in
    rw e (cond-true _ _ _ (lt-ltb i w (omega arith)) ∙ ap (run_from i) (omega arith))
located (suc k) (suc m) g w i l h =
    let f : row_start w (suc m) ≡ w + row_start (w - 1) m = ap (row_start w) (sym (add-one m)) ∙ row_front w m (omega arith) in
    let past : row_start w (suc m) + i - w ≡ row_start (w - 1) m + i = omega arith in
    cond-false _ _ _ (le-ltb (row_start w (suc m) + i) w (omega arith))
    ∙ ap (locate k (g + 1) (w - 1)) past
    ∙ located k m (g + 1) (w - 1) i (omega arith) (omega arith)
    ∙ ap (run_from i) (omega arith)

pub interval_at : (n g i : ℕ) → g + i < n → locate n 0 n (row_start n g + i) ≡ run_from i g
interval_at n g i l = located n g 0 n i (omega arith) l ∙ ap (run_from i) (omega arith)

-- every cell is one of a row
pub record Place (n c : ℕ) : Type 0 where
  pub row : ℕ
  pub first : ℕ
  pub fits : row + first < n
  pub is : c ≡ row_start n row + first

pub place : (n c : ℕ) → c < n * (n + 1) / 2 → Place n c
place zero c l = absurd (omega (arith, zero-mul 1))
place (suc n) c l = ⊎_elim
    (λ (s : c < suc n). record { row = 0; first = c; fits = omega arith; is = omega (arith, row_none (suc n)) })
    (λ (s : suc n ≤ c).
    let m : suc n * (suc n + 1) / 2 ≡ n * (n + 1) / 2 + (n + 1) = ap (λ x. x * (x + 1) / 2) (sym (add-one n)) ∙ cells_more n in
    let p = place n (c - suc n) (omega arith) in
    let f : row_start (suc n) (p.row + 1) ≡ suc n + row_start n p.row = row_front (suc n) p.row (omega arith) ∙ ap (λ x. suc n + row_start x p.row) (omega arith) in
    record { row = p.row + 1; first = p.first; fits = omega arith; is = omega arith })
    (cases_lt c (suc n))

-- the interval of a cell by its row
pub place_span : (n c : ℕ) (p : Place n c) → locate n 0 n c ≡ run_from p.first p.row
place_span n c p = ap (locate n 0 n) p.is ∙ interval_at n p.row p.first p.fits

-- ---- the plan is sound

pub item_at : (n q : ℕ) → q < n → locate n 0 n q ≡ single q
item_at n q l =
    let e : row_start n 0 + q ≡ q = omega (arith, row_none n) in
    ap (locate n 0 n) (sym e) ∙ interval_at n 0 q (omega arith) ∙ ap (λ x. record { from = q; to = x + 1 }) (omega arith)

-- the cell of the run i..j, `j` not in it
pub run_at : (n i j : ℕ) → i < j → j ≤ n → locate n 0 n (row_start n (j - 1 - i) + i) ≡ record { from = i; to = j }
run_at n i j l m = interval_at n (j - 1 - i) i (omega arith) ∙ ap (λ x. record { from = i; to = x }) (omega arith)

run_covered : (n i j : ℕ) → i < j → j ≤ n → Covers (flat_plan.part n) i j (flat_plan.pieces n i j)
run_covered n i j l m =
    let s = run_at n i j l m in
    goes (cell_below n (j - 1 - i) i (omega arith)) (ap (λ s. s.from) s) (rw (ap (λ s. s.to) s) done)

pub flat_sound : Sound flat_plan
flat_sound = record {
  enough = λ n z b. cells_enough n;
  items_first = λ n q b l. item_at n q l;
  within = λ n z b c l.
      let p = place n c l in
      let f = p.fits in
      rw (place_span n c p) (omega arith, omega arith);
  covered = λ n i j b l m. run_covered n i j l m;
  few = λ n i j b l m. omega arith;
  falls = λ e z b. omega arith;
}
