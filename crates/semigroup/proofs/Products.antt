-- Laws of products: of one element more, of lists and runs that adjoin, of a list whose one element changed.
use Rattle.std.proofs.Common.{◌≡◌, ℕ, zero, suc, ◌+◌, ◌-◌, ◌<◌, ◌≤◌, ◌⊎◌, List, [], ◌∷◌, ◌++◌, length, take, drop, set, Some, None, Option, sym, refl, ap, ◌∙◌, inl, inr, ⊎_elim, add-zero, arith, take-add}
use native.Mathlib.Nat.{sub_self}
use Rattle.std.proofs.lemmas.List.{drop-drop, drop-set-lt, drop-set-add, take-set-le, take_all}
use Rattle.std.proofs.lemmas.Bool.{cases_lt}
use Rattle.std.specs.List.{slice_get}
use Rattle.semigroup.specs.Product.{after, product, joined, run, over}
use Rattle.semigroup.proofs.Places.{nth_drop, nth_set_same}

-- ---- for any operation

pub joined_none : {A : Type 0} (op : A → A → A) (x : Option A) → joined op x None ≡ x
joined_none op None = refl
joined_none op (Some x) = refl

after_push : {A : Type 0} (op : A → A → A) (x : A) (ys : List A) (z : A) → after op x (ys ++ (z ∷ [])) ≡ op (after op x ys) z
after_push op x [] z = refl
after_push op x (y ∷ ys) z = after_push op (op x y) ys z

-- one element more at the end of a list
pub product_push : {A : Type 0} (op : A → A → A) (xs : List A) (z : A) → product op (xs ++ (z ∷ [])) ≡ joined op (product op xs) (Some z)
product_push op [] z = refl
product_push op (x ∷ xs) z = ap Some (after_push op x xs z)

-- a list that is not empty has a product
pub product_some : {A : Type 0} (op : A → A → A) (xs : List A) → 0 < length xs → (x : A) × (product op xs ≡ Some x)
product_some op [] h = absurd (omega arith)
product_some op (x ∷ xs) h = (after op x xs, refl)

first_of : {A : Type 0} (op : A → A → A) (xs : List A) → product op (take 1 xs) ≡ slice_get xs 0
first_of op [] = refl
first_of op (x ∷ xs) = refl

-- a run of one element
pub over_one : {A : Type 0} (op : A → A → A) (xs : List A) (a : ℕ) → over op xs a (a + 1) ≡ slice_get xs a
unfolding over
over_one op xs a =
    let e : a + 1 - a ≡ 1 = omega arith in
    rw e (first_of op (drop a xs) ∙ nth_drop a xs 0 ∙ ap (slice_get xs) (add-zero a))

-- an empty run
pub over_none : {A : Type 0} (op : A → A → A) (xs : List A) (a : ℕ) → over op xs a a ≡ None
unfolding over
over_none op xs a = rw (sub_self a)

-- the run of all elements
pub over_all : {A : Type 0} (op : A → A → A) (xs : List A) → over op xs 0 (length xs) ≡ product op xs
unfolding over
over_all op xs = let e : length xs - 0 ≡ length xs = omega arith in rw e (ap (product op) (take_all (length xs) xs (omega arith)))

-- a run that does not hold the place p
pub run_set : {A : Type 0} (xs : List A) (p : ℕ) (x : A) (a b : ℕ) → (p < a) ⊎ (b ≤ p) → run (set xs p x) a b ≡ run xs a b
run_set xs p x a b (inl h) = ap (take (b - a)) (drop-set-lt a xs p x h)
run_set xs p x a b (inr h) =
    ⊎_elim
    (λ (l : p < a). ap (take (b - a)) (drop-set-lt a xs p x l))
    (λ (l : a ≤ p).
    let at : a + (p - a) ≡ p = omega arith in
    let d : drop a (set xs p x) ≡ set (drop a xs) (p - a) x = ap (λ z. drop a (set xs z x)) (sym at) ∙ drop-set-add a xs (p - a) x in
    ap (take (b - a)) d ∙ take-set-le (b - a) (drop a xs) (p - a) x (omega arith))
    (cases_lt p a)

-- a change at a place that a run does not hold leaves the run's product
pub over_set_out : {A : Type 0} (op : A → A → A) (xs : List A) (p : ℕ) (x : A) (a b : ℕ) → (p < a) ⊎ (b ≤ p) → over op (set xs p x) a b ≡ over op xs a b
unfolding over
over_set_out op xs p x a b h = ap (product op) (run_set xs p x a b h)

-- a run is the runs on both sides of a place in it
pub run_split : {A : Type 0} (xs : List A) (a b c : ℕ) → a ≤ b → b ≤ c → run xs a c ≡ run xs a b ++ run xs b c
run_split xs a b c h k =
    let e : c - a ≡ (b - a) + (c - b) = omega arith in
    let f : a + (b - a) ≡ b = omega arith in
    rw (e, take-add, drop-drop, f)

rising : (start : ℕ → ℕ) (m : ℕ) → ((q : ℕ) → q < m → start q ≤ start (q + 1)) → (a k : ℕ) → a + k ≤ m → start a ≤ start (a + k)
rising start m up a zero h = rw add-zero (omega arith)
rising start m up a (suc k) h =
    let e : a + suc k ≡ (a + k) + 1 = omega arith in
    rw e (omega (arith, rising start m up a k (omega arith), up (a + k) (omega arith)))

-- ---- for an associative operation

module _ {A : Type 0} (op : A → A → A) (assoc : (a b c : A) → op (op a b) c ≡ op a (op b c)) where
  after_op : (x y : A) (ys : List A) → after op (op x y) ys ≡ op x (after op y ys)
  after_op x y [] = refl
  after_op x y (z ∷ zs) = ap (λ v. after op v zs) (assoc x y z) ∙ after_op x (op y z) zs

  pub joined_assoc : (x y z : Option A) → joined op (joined op x y) z ≡ joined op x (joined op y z)
  joined_assoc None y z = refl
  joined_assoc (Some x) None z = refl
  joined_assoc (Some x) (Some y) None = refl
  joined_assoc (Some x) (Some y) (Some z) = ap Some (assoc x y z)

  -- a product splits anywhere
  pub product_append : (xs ys : List A) → product op (xs ++ ys) ≡ joined op (product op xs) (product op ys)
  product_append [] ys = refl
  product_append (x ∷ []) [] = refl
  product_append (x ∷ []) (y ∷ ys) = ap Some (after_op x y ys)
  product_append (x ∷ z ∷ xs) ys = product_append (op x z ∷ xs) ys

  -- two runs that adjoin
  pub over_join : (xs : List A) (a b c : ℕ) → a ≤ b → b ≤ c → over op xs a c ≡ joined op (over op xs a b) (over op xs b c)
  unfolding over
  over_join xs a b c h k = ap (product op) (run_split xs a b c h k) ∙ product_append (run xs a b) (run xs b c)

  -- one element more on the right
  pub over_more : (xs : List A) (a b : ℕ) (l x : A) → a ≤ b → over op xs a b ≡ Some l → slice_get xs b ≡ Some x → over op xs a (b + 1) ≡ Some (op l x)
  over_more xs a b l x h le xe = over_join xs a b (b + 1) h (omega arith) ∙ rw (le, over_one op xs b, xe)

  -- one element more on the left
  pub over_less : (xs : List A) (a b : ℕ) (x r : A) → a + 1 ≤ b → slice_get xs a ≡ Some x → over op xs (a + 1) b ≡ Some r → over op xs a b ≡ Some (op x r)
  over_less xs a b x r h xe re = over_join xs a (a + 1) b (omega arith) h ∙ rw (re, over_one op xs a, xe)

  -- a change at a place that a run holds: what stands before it, the new element, and what stands after it
  pub over_set_in : (xs : List A) (p : ℕ) (x : A) (a b : ℕ) → a ≤ p → p < b → p < length xs
      → over op (set xs p x) a b ≡ joined op (over op xs a p) (joined op (Some x) (over op xs (p + 1) b))
  over_set_in xs p x a b h k l =
      let whole = over_join (set xs p x) a p b h (omega arith) in
      let right = over_join (set xs p x) p (p + 1) b (omega arith) (omega arith) in
      let before = over_set_out op xs p x a p (inr (omega arith)) in
      let behind = over_set_out op xs p x (p + 1) b (inl (omega arith)) in
      let here = over_one op (set xs p x) p ∙ nth_set_same xs p x l in
      cc

  -- if ys holds the products of the blocks between the starts, a product of ys is one of xs
  pub over_blocks : (xs ys : List A) (start : ℕ → ℕ) (m : ℕ)
      → ((q : ℕ) → q < m → start q ≤ start (q + 1))
      → ((q : ℕ) → q < m → slice_get ys q ≡ over op xs (start q) (start (q + 1)))
      → (a k : ℕ) → a + k ≤ m → over op ys a (a + k) ≡ over op xs (start a) (start (a + k))
  over_blocks xs ys start m up held a zero h = rw add-zero (over_none op ys a ∙ sym (over_none op xs (start a)))
  over_blocks xs ys start m up held a (suc k) h =
      let e : a + suc k ≡ (a + k) + 1 = omega arith in
      let left = over_blocks xs ys start m up held a k (omega arith) in
      let right : over op ys (a + k) (a + k + 1) ≡ over op xs (start (a + k)) (start (a + k + 1)) = over_one op ys (a + k) ∙ held (a + k) (omega arith) in
      let whole = over_join ys a (a + k) (a + k + 1) (omega arith) (omega arith) in
      let events = over_join xs (start a) (start (a + k)) (start (a + k + 1)) (rising start m up a k (omega arith)) (up (a + k) (omega arith)) in
      rw e (cc)
