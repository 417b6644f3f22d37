-- The product of a list and of a run of a list.
use Rattle.std.specs.Prelude.{ℕ, ◌-◌, List, [], ◌∷◌, take, drop, Some, None, Option}

-- x and then the elements of the list, combined left to right
abbrev pub after : {A : Type 0} → (A → A → A) → A → List A → A
after op x [] = x
after op x (y ∷ ys) = after op (op x y) ys

-- the elements of a list combined left to right; an empty list has no product
abbrev pub product : {A : Type 0} → (A → A → A) → List A → Option A
product op [] = None
product op (x ∷ xs) = Some (after op x xs)

-- two products combined; that of an empty list leaves the other as it is
abbrev pub joined : {A : Type 0} → (A → A → A) → Option A → Option A → Option A
joined op None y = y
joined op (Some x) None = Some x
joined op (Some x) (Some y) = Some (op x y)

-- the elements from..to of a list, `to` not among them
abbrev pub run : {A : Type 0} → List A → ℕ → ℕ → List A
run xs from to = take (to - from) (drop from xs)

-- the product of the elements from..to
unfoldable pub over : {A : Type 0} → (A → A → A) → List A → ℕ → ℕ → Option A
over op xs from to = product op (run xs from to)
