-- What stands at a place of a list, `slice_get`, after a write and in a part.
use Rattle.std.proofs.Common.{◌≡◌, ℕ, zero, suc, ◌+◌, ◌<◌, ◌≢◌, List, [], ◌∷◌, ◌++◌, length, take, drop, set, Some, refl, ap, suc-add, zero-add, arith}
use Rattle.std.specs.List.{slice_get}

pub nth_set_same : {A : Type 0} (xs : List A) (i : ℕ) (x : A) → i < length xs → slice_get (set xs i x) i ≡ Some x
nth_set_same [] i x h = absurd (omega arith)
nth_set_same (y ∷ ys) zero x h = refl
nth_set_same (y ∷ ys) (suc i) x h = nth_set_same ys i x (omega arith)

pub nth_set_other : {A : Type 0} (xs : List A) (i j : ℕ) (x : A) → j ≢ i → slice_get (set xs i x) j ≡ slice_get xs j
nth_set_other [] i j x h = refl
nth_set_other (y ∷ ys) zero zero x h = absurd (h refl)
nth_set_other (y ∷ ys) zero (suc j) x h = refl
nth_set_other (y ∷ ys) (suc i) zero x h = refl
nth_set_other (y ∷ ys) (suc i) (suc j) x h = nth_set_other ys i j x (λ e. h (ap suc e))

pub nth_take : {A : Type 0} (n : ℕ) (xs : List A) (i : ℕ) → i < n → slice_get (take n xs) i ≡ slice_get xs i
nth_take zero xs i h = absurd (omega arith)
nth_take (suc n) [] i h = refl
nth_take (suc n) (x ∷ xs) zero h = refl
nth_take (suc n) (x ∷ xs) (suc i) h = nth_take n xs i (omega arith)

pub nth_drop : {A : Type 0} (n : ℕ) (xs : List A) (i : ℕ) → slice_get (drop n xs) i ≡ slice_get xs (n + i)
nth_drop zero xs i = rw zero-add
nth_drop (suc n) [] i = refl
nth_drop (suc n) (x ∷ xs) i = rw suc-add (nth_drop n xs i)

pub nth_left : {A : Type 0} (xs ys : List A) (i : ℕ) → i < length xs → slice_get (xs ++ ys) i ≡ slice_get xs i
nth_left [] ys i h = absurd (omega arith)
nth_left (x ∷ xs) ys zero h = refl
nth_left (x ∷ xs) ys (suc i) h = nth_left xs ys i (omega arith)

pub nth_right : {A : Type 0} (xs ys : List A) (i : ℕ) → slice_get (xs ++ ys) (length xs + i) ≡ slice_get ys i
nth_right [] ys i = rw zero-add
nth_right (x ∷ xs) ys i = rw suc-add (nth_right xs ys i)

-- lists with the same elements at the places below n
pub take_same : {A : Type 0} (n : ℕ) (xs ys : List A) → ((i : ℕ) → i < n → slice_get xs i ≡ slice_get ys i) → take n xs ≡ take n ys
take_same zero xs ys h = refl
take_same (suc n) [] [] h = refl
take_same (suc n) [] (y ∷ ys) h = absurd (let e = h 0 (omega arith) in let z : ◌≡◌ {A = ℕ} 0 1 = cc in omega arith)
take_same (suc n) (x ∷ xs) [] h = absurd (let e = h 0 (omega arith) in let z : ◌≡◌ {A = ℕ} 0 1 = cc in omega arith)
take_same (suc n) (x ∷ xs) (y ∷ ys) h =
    let first : x ≡ y = let e = h 0 (omega arith) in cc in
    let rest = take_same n xs ys (λ i l. h (suc i) (omega arith)) in
    cc
