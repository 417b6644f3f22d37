-- How many cells a layer of blocks takes at most, given what a table over the children of one parent takes.
use Rattle.std.specs.Prelude.{◌≡◌, ℕ, zero, suc, ◌+◌, ◌-◌, ◌*◌, ◌/◌, ◌^◌, ◌<◌, ◌≤◌, min}
use Rattle.std.proofs.Common.{sym, ap, ◌∙◌, ⊎_elim, arith, add-mul, mul-add, one-mul, zero-mul, suc-mul, mul_assoc, mul_left_comm}
use Rattle.std.proofs.Math.Nat.{mul-add-div_right}
use Rattle.std.proofs.lemmas.Nat.{pow_pos, pow-add, div-add-mod', mod_below, div_below, le-div, mul-le}
use Rattle.std.proofs.lemmas.Bool.{cases_lt}
use Rattle.scheme.specs.Plan.{Part, Plan, Sound}
use Rattle.scheme.specs.Exponent.{exponent}
use Rattle.scheme.proofs.Exponents.{exponent_least, exponent_few}
use Rattle.layer_parts.specs.Parts.{laid, count_of_children, parent_count, inner_tables, step_part}
use Rattle.layer_parts.specs.Layout.{exponent_at, count_of_steps, layout_step, layer_part}
use Rattle.layer_parts.proofs.Blocks.{parent_below}
use Rattle.layer_parts.proofs.Layouts.{exponent_next, live}

-- parts laid end to end, each of at most s cells
laid_most : (parts : ℕ → Part) (s k : ℕ) → ((i : ℕ) → i < k → (parts i).size ≤ s) → (laid parts k).size ≤ k * s
laid_most parts s zero f = omega (arith, zero-mul s)
laid_most parts s (suc k) f = omega (arith, laid_most parts s k (λ i h. f i (omega arith)), f k (omega arith), suc-mul k s)

-- ---- blocks

-- how many blocks of w events x events take, the last one cut at x
abbrev blocks : ℕ → ℕ → ℕ
blocks w x = (x + w - 1) / w

module _ (w : ℕ) (wide : 0 < w) where
  -- whole blocks stand before the others
  blocks_more : (q x : ℕ) → blocks w (q * w + x) ≡ q + blocks w x
  blocks_more q x =
      let e : q * w + x + w - 1 ≡ q * w + (x + w - 1) = omega arith in
      ap (λ y. y / w) e ∙ mul-add-div_right wide q (x + w - 1)

  -- the blocks reach past the events by less than one block
  blocks_reach : (x : ℕ) → blocks w x * w ≤ x + w - 1
  blocks_reach x = omega (arith, div-add-mod' (x + w - 1) w)

  -- q blocks do for what is no more than q blocks
  blocks_few : (x q : ℕ) → x ≤ q * w → blocks w x ≤ q
  blocks_few x q h =
      let e : (q + 1) * w ≡ q * w + w = add-mul q 1 w ∙ ap (λ y. q * w + y) (one-mul w) in
      omega (arith, div_below (x + w - 1) w (q + 1) wide (omega arith))

  blocks_some : (x : ℕ) → 0 < x → 0 < blocks w x
  blocks_some x h = le-div 1 (x + w - 1) w wide (omega (arith, one-mul w))

-- ---- the inner tables of a step

-- parents of j children of w events; b is twice the most cells for each child, in a table over m of them
module _ (part : ℕ → Part) (n wide w j b : ℕ) (whole : wide ≡ j * w) (some : 0 < wide) (narrow : 0 < w)
    (each : (m : ℕ) → 0 < m → m ≤ j → 2 * (part m).size ≤ m * b) where
  -- the first k parents have as many children as blocks fit their events
  tables_most : (k : ℕ) → k ≤ parent_count n wide → 2 * (inner_tables part n wide w k).size ≤ blocks w (min n (k * wide)) * b
  tables_most zero h = omega arith
  tables_most (suc k) h =
      let low = parent_below n wide k some (omega arith) in
      let x = min wide (n - k * wide) in
      let m = count_of_children n (k * wide) wide w in
      let front : k * wide ≡ k * j * w = ap (λ y. k * y) whole ∙ sym (mul_assoc k j w) in
      let before : min n (k * wide) ≡ k * j * w + 0 = omega arith in
      let after : min n (suc k * wide) ≡ k * j * w + x = omega (arith, suc-mul k wide) in
      let none : blocks w 0 ≡ 0 = omega (arith, blocks_few w narrow 0 0 (omega arith)) in
      let fewer : blocks w (min n (k * wide)) ≡ k * j + 0 = ap (blocks w) before ∙ blocks_more w narrow (k * j) 0 ∙ ap (λ y. k * j + y) none in
      let more : blocks w (min n (suc k * wide)) ≡ k * j + m = ap (blocks w) after ∙ blocks_more w narrow (k * j) x in
      let table = each m (blocks_some w narrow x (omega arith)) (blocks_few w narrow x j (omega arith)) in
      let prior = rw fewer at (tables_most k (omega arith)) in
      rw more (omega (arith, add-mul (k * j) m b, add-mul (k * j) 0 b))

  -- all parents have as many children as blocks fit the events
  pub all_tables_most : 2 * (inner_tables part n wide w (parent_count n wide)).size ≤ blocks w n * b
  all_tables_most =
      let reach = div-add-mod' (n + wide - 1) wide in
      let left = mod_below (n + wide - 1) wide some in
      let whole-n : min n (parent_count n wide * wide) ≡ n = omega arith in
      rw whole-n at (tables_most (parent_count n wide) (omega arith))

-- ---- steps, and the layer

-- c and k tell how many cells the inner scheme takes: over the m children of a parent of 2^e events at most
-- m * (c + k * 2^f) / 2, where the children have 2^f events
abbrev pub Inside : Plan → ℕ → ℕ → Type 0
Inside p c k = (e m : ℕ) → 0 < e → e ≤ 16 → 0 < m → m ≤ 2 ^ (e - p.child e) → 2 * (p.part m).size ≤ m * (c + k * 2 ^ p.child e)

-- a lower power of two than that of the exponent is less than n
power_below : (n f : ℕ) → n ≤ 65536 → f < exponent n → 2 ^ f < n
power_below n f b h = ⊎_elim
    (λ (l : 2 ^ f < n). l)
    (λ (l : n ≤ 2 ^ f). absurd (omega (arith, (exponent_least n (omega arith)).least f l)))
    (cases_lt (2 ^ f) n)

module _ (p : Plan) (sound : Sound p) (c k r : ℕ) (inside : Inside p c k) (rate : c + 2 * k + 4 ≤ 2 * r) where
  -- a step takes at most r cells for each event
  step_most : (n e : ℕ) → n ≤ 65536 → 0 < e → e ≤ exponent n → (step_part p.part n (2 ^ e) (2 ^ p.child e)).size ≤ n * r
  step_most n e b some le =
      let few = exponent_few n b in
      let f = p.child e in
      let w = 2 ^ f in
      let down = sound.falls e some (omega arith) in
      let low = power_below n f b (omega arith) in
      let split : e ≡ e - f + f = omega arith in
      let whole : 2 ^ e ≡ 2 ^ (e - f) * w = ap (λ y. 2 ^ y) split ∙ pow-add 2 (e - f) f in
      let tables = all_tables_most p.part n (2 ^ e) w (2 ^ (e - f)) (c + k * w) whole (pow_pos e) (pow_pos f) (λ m h l. inside e m some (omega arith) h l) in
      let count = blocks w n in
      let parts : count * (c + k * w) ≡ count * c + count * (k * w) = mul-add count c (k * w) in
      let swap : count * (k * w) ≡ k * (count * w) = mul_left_comm count k w in
      let events : count * c ≤ n * c = mul-le count c n c (blocks_few w (pow_pos f) n n (omega (arith, mul-le n 1 n w (omega arith) (pow_pos f)))) (omega arith) in
      let reach : k * (count * w) ≤ k * (2 * n) = mul-le k (count * w) k (2 * n) (omega arith) (omega (arith, blocks_reach w (pow_pos f) n)) in
      let rated : n * (c + 2 * k + 4) ≤ n * (2 * r) = mul-le n (c + 2 * k + 4) n (2 * r) (omega arith) rate in
      omega (arith, mul-add n (c + 2 * k) 4, mul-add n c (2 * k))

  pub layer_most : (n : ℕ) → n ≤ 65536 → (layer_part p n).size ≤ n * (1 + r * count_of_steps p.child (exponent n))
  layer_most n b =
      let e = exponent n in
      let each : (s : ℕ) → s < count_of_steps p.child e → (layout_step p n e s).size ≤ n * r = λ s h.
      let l = live p.child sound.falls s e (exponent_few n b) h in
      rw exponent_next (step_most n (exponent_at p.child e s) b l.0 l.1) in
      let d = count_of_steps p.child e in
      omega (arith, laid_most (layout_step p n e) (n * r) d each, mul-add n 1 (r * d), mul_left_comm d n r)
