-- What holds of each event's element, and stays true with one event more, holds of every run's product.
use Rattle.std.specs.Prelude.{◌≡◌, ℕ, ◌+◌, ◌<◌, List, [], ◌∷◌, ◌++◌, map, length, take, Some, slice_index_or}
use Rattle.std.proofs.Common.{sym, ap, subst, ◌∙◌, append_assoc, append-nil, arith}
use Rattle.std.proofs.lemmas.List.{map-append, take_more, take-map, drop-map}
use Rattle.semigroup.specs.Product.{after, product, run, over}

module _ {A B : Type 0} (op : B → B → B) (element : A → B) (Means : List A → B → Type 0)
    (one : (e : A) → Means (e ∷ []) (element e))
    (more : (es : List A) (m : B) (e : A) → Means es m → Means (es ++ (e ∷ [])) (op m (element e))) where
  after_means : (done : List A) (m : B) (es : List A) → Means done m → Means (done ++ es) (after op m (map element es))
  after_means done m [] h = rw append-nil h
  after_means done m (e ∷ es) h = rw append_assoc at (after_means (done ++ (e ∷ [])) (op m (element e)) es (more done m e h))

  pub product_means : (es : List A) (m : B) → product op (map element es) ≡ Some m → Means es m
  product_means [] m h = absurd (let z : ◌≡◌ {A = ℕ} 0 1 = cc in omega arith)
  product_means (e ∷ es) m h =
      let same : after op (element e) (map element es) ≡ m = cc in
      subst (Means (e ∷ es)) same (after_means (e ∷ []) (element e) es (one e))

-- the elements of a run of events are a run of the elements
run_elements : {A B : Type 0} (element : A → B) (es : List A) (a b : ℕ) → run (map element es) a b ≡ map element (run es a b)
run_elements element es a b = simp (drop-map, take-map)

-- what a product of some of the elements says of their events
pub over_means : {A B : Type 0} (op : B → B → B) (element : A → B) (Means : List A → B → Type 0)
    → ((es : List A) (m : B) → product op (map element es) ≡ Some m → Means es m)
    → (es : List A) (xs : List B) → xs ≡ map element es → (a b : ℕ) (m : B) → over op xs a b ≡ Some m → Means (run es a b) m
unfolding over
over_means op element Means law es xs same a b m h = law (run es a b) m (ap (product op) (sym (run_elements element es a b)) ∙ ap (λ ys. product op (run ys a b)) (sym same) ∙ h)

-- one element more
pub one_more : {A B : Type 0} (element : A → B) (es : List A) (i : ℕ) (d : A) (x : B) (xs : List B) → i < length es → x ≡ element (slice_index_or es i d)
    → xs ≡ map element (take i es) → xs ++ (x ∷ []) ≡ map element (take (i + 1) es)
one_more element es i d x xs h at was =
    let more = take_more es i d h in
    let split = map-append element (take i es) (slice_index_or es i d ∷ []) in
    cc
