-- Blocks of w events, and the children of a parent.
use Rattle.std.proofs.Common.{◌≡◌, ℕ, ◌+◌, ◌-◌, ◌*◌, ◌/◌, ◌%◌, ◌^◌, ◌<◌, ◌≤◌, min, sym, ap, ◌∙◌, mul_assoc, add-mul, one-mul, zero-mul, mul-one, mul-div_cancel, arith, pow_mono}
use native.Mathlib.Nat.{add-mul-div_right, mul-mod_left}
use Rattle.std.proofs.lemmas.Nat.{div-add-mod', div-mul-add, mod_below, mul-le, le-div, div_below, pow_pos, pow-add}
use Rattle.scheme.specs.Blocks.{start_of_block}
use Rattle.layer_parts.specs.Parts.{Widths, Children, count_of_children, parent_count}
use Rattle.layer_parts.specs.Layout.{child_holding}

pub row_before : (q m w : ℕ) → q < m → q * w + w ≤ m * w
row_before q m w h = omega (arith, mul-le (q + 1) w m w (omega arith) (omega arith), add-mul q 1 w, one-mul w)

-- ---- the block of an event

pub block_low : (w p : ℕ) → start_of_block w p ≤ p
block_low w p = omega (arith, div-add-mod' p w)

pub block_high : (w p : ℕ) → 0 < w → p < start_of_block w p + w
block_high w p pos = omega (arith, div-add-mod' p w, mod_below p w pos)

-- an event between the start and the end of p's block is in it
pub same_block : (w p q : ℕ) → start_of_block w p ≤ q → q < start_of_block w p + w → q / w ≡ p / w
same_block w p q low high =
    let e : q ≡ p / w * w + (q - start_of_block w p) = omega arith in
    ap (λ k. k / w) e ∙ div-mul-add (p / w) w (q - start_of_block w p) (omega arith)

pub block_same : (w p q : ℕ) → start_of_block w p ≤ q → q < start_of_block w p + w → start_of_block w q ≡ start_of_block w p
block_same w p q low high = ap (λ k. k * w) (same_block w p q low high)

-- a later block begins where an earlier one has ended
pub block_after : (w p q : ℕ) → 0 < w → start_of_block w p + w ≤ q → start_of_block w p + w ≤ start_of_block w q
block_after w p q pos h =
    let e : (p / w + 1) * w ≡ start_of_block w p + w = omega (arith, add-mul (p / w) 1 w, one-mul w) in
    let l = le-div (p / w + 1) q w pos (omega arith) in
    omega (arith, mul-le (p / w + 1) w (q / w) w l (omega arith))

-- ---- parents and children

pub widths_of : (n e f : ℕ) → 0 < n → n ≤ 65536 → e ≤ 16 → f ≤ e → Widths n (2 ^ e) (2 ^ f)
widths_of n e f some few le less =
    let split : e ≡ (e - f) + f = omega arith in
    let a : 2 ^ e ≤ 2 ^ 16 = pow_mono le in
    let b : 2 ^ f ≤ 2 ^ e = pow_mono less in
    record {
      some = some;
      few = few;
      narrow = omega arith;
      positive = pow_pos f;
      broad = omega arith;
      more = pow_pos e;
      whole = ap (λ v. 2 ^ v % 2 ^ f) split ∙ ap (λ v. v % 2 ^ f) (pow-add 2 (e - f) f) ∙ mul-mod_left (2 ^ (e - f)) (2 ^ f);
    }

-- there are no more children than events, and the first begins below n
pub children_few : (n start w m : ℕ) → Children n start w m → (m ≤ n) × (start < n)
children_few n start w m k =
    let r = row_before 0 m w k.some in
    let e : 0 * w ≡ 0 = zero-mul w in
    let one : m * 1 ≤ m * w = mul-le m 1 m w (omega arith) k.wide in
    let last = row_before (m - 1) m w (omega (arith, k.some)) in
    let most : (m - 1) * 1 ≤ (m - 1) * w = mul-le (m - 1) 1 (m - 1) w (omega arith) k.wide in
    (omega (arith, k.last, k.wide, mul-one m, mul-one (m - 1)), omega (arith, k.last, k.wide))

-- a child begins where a block begins
pub child_aligned : (w start q : ℕ) → 0 < w → start_of_block w start ≡ start → start_of_block w (start + q * w) ≡ start + q * w
child_aligned w start q pos e =
    ap (λ k. k * w) (add-mul-div_right start q pos) ∙ add-mul (start / w) q w ∙ ap (λ k. k + q * w) e

-- every parent begins below n
pub parent_below : (n wide k : ℕ) → 0 < wide → k < parent_count n wide → k * wide < n
parent_below n wide k pos h = omega (arith, row_before k (parent_count n wide) wide h, div-add-mod' (n + wide - 1) wide)

-- the parent of an event is one of them
pub parent_counted : (n wide i : ℕ) → 0 < wide → i < n → i / wide < parent_count n wide
parent_counted n wide i more h =
    omega (arith, le-div (i / wide + 1) (n + wide - 1) wide more (omega (arith, div-add-mod' i wide, add-mul (i / wide) 1 wide, one-mul wide)))

-- a parent has a whole number of children's widths
pub wide_is : (n wide w : ℕ) → Widths n wide w → wide ≡ wide / w * w
wide_is n wide w ws = omega (arith, div-add-mod' wide w, ws.whole)

pub children_of : (n wide w k : ℕ) → Widths n wide w → k * wide < n → Children n (k * wide) w (count_of_children n (k * wide) wide w)
children_of n wide w k ws h =
    let pos = ws.positive in
    let more = ws.more in
    let x = min wide (n - k * wide) in
    let d = div-add-mod' (x + w - 1) w in
    let j = wide / w in
    let a : k * wide ≡ (k * j) * w = ap (λ v. k * v) (wide_is n wide w ws) ∙ sym (mul_assoc k j w) in
    record {
      few = ws.few;
      narrow = ws.narrow;
      wide = pos;
      some = omega (arith, le-div 1 (x + w - 1) w pos (omega (arith, one-mul w)));
      last = omega arith;
      aligned = rw a (ap (λ v. v * w) (mul-div_cancel (k * j) pos));
    }

-- the children of a parent do not reach past it
pub children_inside : (n wide w k : ℕ) → Widths n wide w → count_of_children n (k * wide) wide w * w ≤ wide
children_inside n wide w k ws =
    let pos = ws.positive in
    let e = wide_is n wide w ws in
    let x = min wide (n - k * wide) in
    let m = count_of_children n (k * wide) wide w in
    let l : m < wide / w + 1 = div_below (x + w - 1) w (wide / w + 1) pos (omega (arith, add-mul (wide / w) 1 w, one-mul w)) in
    omega (arith, mul-le m w (wide / w) w (omega arith) (omega arith))

-- a parent that is not cut has all its children
pub children_whole : (n wide w k : ℕ) → Widths n wide w → k * wide + wide ≤ n → count_of_children n (k * wide) wide w ≡ wide / w
children_whole n wide w k ws h =
    let pos = ws.positive in
    let e = wide_is n wide w ws in
    let x : min wide (n - k * wide) + w - 1 ≡ wide / w * w + (w - 1) = omega arith in
    ap (λ v. v / w) x ∙ div-mul-add (wide / w) w (w - 1) (omega arith)

-- where p's child begins, counted from its parent's beginning
pub child_starts : (n wide w p : ℕ) → Widths n wide w → p / wide * wide + child_holding wide w p * w ≡ start_of_block w p
child_starts n wide w p ws =
    let pos = ws.positive in
    let k = p / wide in
    let j = wide / w in
    let a : k * wide ≡ (k * j) * w = ap (λ v. k * v) (wide_is n wide w ws) ∙ sym (mul_assoc k j w) in
    let s : p ≡ p % wide + (k * j) * w = omega (arith, div-add-mod' p wide) in
    let d : p / w ≡ p % wide / w + k * j = ap (λ v. v / w) s ∙ add-mul-div_right (p % wide) (k * j) pos in
    omega (arith, ap (λ v. v * w) d, add-mul (p % wide / w) (k * j) w)

-- p's child is one of its parent's
pub child_counted : (n wide w p : ℕ) → Widths n wide w → p < n → child_holding wide w p < count_of_children n (p / wide * wide) wide w
child_counted n wide w p ws h =
    let pos = ws.positive in
    let q = child_holding wide w p in
    let s = child_starts n wide w p ws in
    let low = block_low w p in
    let m = mod_below p wide ws.more in
    let d = div-add-mod' p wide in
    let r = div-add-mod' (p % wide) w in
    let l = le-div (q + 1) (min wide (n - p / wide * wide) + w - 1) w pos (omega (arith, add-mul q 1 w, one-mul w)) in
    omega arith
