-- Texts put one after the other.
use Rattle.std.proofs.Common.{◌≡◌, ℕ, ◌+◌, ◌-◌, ◌<◌, ◌≤◌, Bool, true, false, cond, leb, List, [], ◌∷◌, ◌++◌, length, take, drop, set, ℤ, pos, negsuc, nat_abs, ◌≤ℤ◌, ◌<ℤ◌, Some, None, decimal, refl, sym, ap, ◌∙◌, add-one, arith, rules}
use lib.Seq.{paste}
use Rattle.std.specs.Fmt.{signed_decimal}
use Rattle.std.proofs.lemmas.Bool.{leb-true, le-leb}
use Rattle.std.proofs.lemmas.List.{set_split, set-append_right, append_assoc, drop_more, length-take-le, length_push, length-append, length-take, length-drop}
use Rattle.std.proofs.lemmas.List.Edits.{paste_all, paste-paste}
use Rattle.decimal.specs.Put.{put, placed, placed_end, end_in}

-- one byte
pub put_one : (xs : List ℕ) (at b : ℕ) → at < length xs → set xs at b ≡ put xs at (b ∷ [])
put_one xs at b h = rw (add-one, set_split xs at b h)

-- one byte after a text
pub put_more : (xs : List ℕ) (at : ℕ) (bs : List ℕ) (b : ℕ) → at + length bs < length xs → set (put xs at bs) (at + length bs) b ≡ put xs at (bs ++ (b ∷ []))
put_more xs at bs b h =
    let k : ℕ = at + length bs in
    let front = set-append_right (take at xs) (bs ++ drop k xs) at k b (length-take-le at xs (omega arith)) (omega arith) in
    let mid = set-append_right bs (drop k xs) (length bs) (k - at) b refl (omega arith) in
    let z : (k - at) - length bs ≡ 0 = omega arith in
    let tail : set (drop k xs) ((k - at) - length bs) b ≡ b ∷ drop (k + 1) xs = rw (z, drop_more xs k 0 h) refl in
    let last : k + 1 ≡ at + length (bs ++ (b ∷ [])) = omega (arith, length_push bs b) in
    front ∙ ap (λ ys. take at xs ++ ys) (mid ∙ ap (λ ys. bs ++ ys) (tail ∙ ap (λ m. b ∷ drop m xs) last) ∙ sym (append_assoc bs (b ∷ []) _))

-- one text after another
pub put_put : (xs : List ℕ) (at : ℕ) (us bs : List ℕ) → at ≤ length xs → put (put xs at us) (at + length us) bs ≡ put xs at (us ++ bs)
put_put xs at us bs h =
    let one = paste_all xs at us (length us) refl in
    let two = paste_all (put xs at us) (at + length us) bs (length bs) refl in
    let both = paste-paste xs at us bs (length us) (length bs) refl refl h in
    let whole = paste_all xs at (us ++ bs) (length us + length bs) (sym (length-append us bs)) in
    let n = length-append us bs in
    sym two ∙ ap (λ ys. paste ys (at + length us) bs (length bs)) (sym one) ∙ both ∙ whole ∙ ap (λ m. take at xs ++ ((us ++ bs) ++ drop (at + m) xs)) (sym n)

pub length_put : (xs : List ℕ) (at : ℕ) (bs : List ℕ) → at + length bs ≤ length xs → length (put xs at bs) ≡ length xs
length_put xs at bs h = simp (length-append, length-take, length-drop) (omega arith)

-- a number below 0 has a sign
pub signed_minus : (z : ℤ) → z <ℤ pos 0 → signed_decimal z ≡ (45 ∷ []) ++ decimal (nat_abs z)
signed_minus (pos n) h = absurd (search rules)
signed_minus (negsuc n) h = refl

pub signed_plain : (z : ℤ) → pos 0 ≤ℤ z → signed_decimal z ≡ decimal (nat_abs z)
signed_plain (pos n) h = refl
signed_plain (negsuc n) h = absurd (search rules)

-- a text of so many bytes, by the test whether it fits
module _ (xs : List ℕ) (at len : ℕ) (text : List ℕ) (long : len ≡ length text) where
  tested : (b : Bool) → b ≡ leb (at + len) (length xs) → leb (at + length text) (length xs) ≡ b
  tested b h = ap (λ n. leb (at + n) (length xs)) (sym long) ∙ sym h

  pub placed_fits : true ≡ leb (at + len) (length xs) → placed xs at text ≡ put xs at text
  unfolding placed
  placed_fits h = ap (λ b. cond b (put xs at text) xs) (tested true h)

  pub end_fits : true ≡ leb (at + len) (length xs) → placed_end xs at text ≡ Some (at + length text)
  unfolding placed_end
  end_fits h = ap (λ b. cond b (Some (at + length text)) None) (tested true h)

  pub placed_not : false ≡ leb (at + len) (length xs) → placed xs at text ≡ xs
  unfolding placed
  placed_not h = ap (λ b. cond b (put xs at text) xs) (tested false h)

  pub end_not : false ≡ leb (at + len) (length xs) → placed_end xs at text ≡ None
  unfolding placed_end
  end_not h = ap (λ b. cond b (Some (at + length text)) None) (tested false h)

-- three texts, each put where the one before ends
pub put_three : (xs ys zs ts : List ℕ) (at p q r : ℕ) (us vs ws : List ℕ) → at + length (us ++ (vs ++ ws)) ≤ length xs
    → p ≡ at + length us → ys ≡ put xs at us → q ≡ p + length vs → zs ≡ put ys p vs → r ≡ q + length ws → ts ≡ put zs q ws
    → (r ≡ at + length (us ++ (vs ++ ws))) × (ts ≡ put xs at (us ++ (vs ++ ws)))
put_three xs ys zs ts at p q r us vs ws room pe ye qe ze re te =
    let l = length-append us (vs ++ ws) in
    let m = length-append vs ws in
    let k = length-append us vs in
    let two = put_put xs at us vs (omega arith) in
    let three = put_put xs at (us ++ vs) ws (omega arith) in
    let whole = append_assoc us vs ws in
    let place : q ≡ at + length (us ++ vs) = omega arith in
    (omega arith, cc)

-- the bytes that three texts take
pub length_three : (us vs ws : List ℕ) (a b : ℕ) → a ≡ length us → b ≡ length ws → length vs + (a + b) ≡ length (us ++ (vs ++ ws))
length_three us vs ws a b h k = omega (arith, length-append us (vs ++ ws), length-append vs ws)

-- a place is told only where the text fits
told : (b : Bool) (n m : ℕ) → Some m ≡ cond b (Some n) None → (b ≡ true) × (m ≡ n)
told true n m h = (refl, cc)
told false n m h = absurd (let z : ◌≡◌ {A = ℕ} 0 1 = cc in omega arith)

-- two texts that fit together, each put where the one before ends
pub placed_joined : (xs ys zs : List ℕ) (at next end : ℕ) (us vs : List ℕ) → zs ≡ placed ys next vs → ys ≡ placed xs at us → Some next ≡ placed_end xs at us
    → Some end ≡ end_in (length xs) at (us ++ vs) → zs ≡ placed xs at (us ++ vs)
unfolding placed placed_end end_in
placed_joined xs ys zs at next end us vs z y first whole =
    let both = told (leb (at + length (us ++ vs)) (length xs)) _ _ whole in
    let one = told (leb (at + length us) (length xs)) _ _ first in
    let room = leb-true _ _ both.0 in
    let long = length-append us vs in
    let front : ys ≡ put xs at us = y ∙ ap (λ b. cond b (put xs at us) xs) one.0 in
    let size : length ys ≡ length xs = ap length front ∙ length_put xs at us (omega arith) in
    let fits = le-leb (next + length vs) (length ys) (omega arith) in
    let back : zs ≡ put ys next vs = z ∙ ap (λ b. cond b (put ys next vs) ys) fits in
    let joined = put_put xs at us vs (omega arith) in
    let all : zs ≡ put xs at (us ++ vs) = cc in
    all ∙ ap (λ b. cond b (put xs at (us ++ vs)) xs) (sym both.0)
