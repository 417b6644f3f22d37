-- The first event at the highest price, with one event more.
use Rattle.std.specs.Prelude.{◌≡◌, ℕ, ◌<◌, Bool, true, false, cond, ◌⊎◌, List, [], ◌∷◌, ◌++◌, length, ◌≤ℤ◌, ◌<ℤ◌, Some, None, Option, MatchOption, ◌==◌, int_lt, refl}
use Rattle.std.proofs.Common.{sym, subst, ◌∙◌, ⊎_elim, arith}
use Rattle.std.proofs.lemmas.Int.{ints}
use Rattle.std.proofs.lemmas.Bool.{eqb-true, eqb-false}
use Rattle.std.proofs.lemmas.Grind.{common_steps}
use Rattle.std.proofs.lemmas.Option.{gets, slice_get_within}
use Rattle.std.specs.List.{slice_get}
use Rattle.semigroup.proofs.Places.{nth_left}
use Rattle.kinds.specs.declared.extreme.Best.{Best}
use Rattle.kinds.specs.declared.extreme.Extreme.{Extreme}
use Rattle.kinds.specs.declared.kind.Entry.{Entry}
use Rattle.kinds.specs.Highest.{higher, higher_of, extreme_of, Priced, Unpriced, FirstHighest, Tops}

-- ---- places of a list with one element more

nth_last : {A : Type 0} (xs : List A) (z : A) → slice_get (xs ++ (z ∷ [])) (length xs) ≡ Some z
nth_last xs z = grind (arith, common_steps, gets)

-- an element of the longer list is one of the shorter list, or the last
nth_push : {A : Type 0} (xs : List A) (z : A) (i : ℕ) (x : A) → slice_get (xs ++ (z ∷ [])) i ≡ Some x → ((i < length xs) × (slice_get xs i ≡ Some x)) ⊎ ((i ≡ length xs) × (z ≡ x))
nth_push xs z i x h = grind (arith, common_steps, gets)

-- ---- one event more

-- the price and the number of an event
abbrev best_of : Entry → Best
best_of e = record { price = e.event.price; event = e.number }

module _ (es : List Entry) (e : Entry) where
  -- an event without a price changes nothing
  still_none : (Priced e → ⊥) → Unpriced es → Unpriced (es ++ (e ∷ []))
  still_none bare h i x at p =
      ⊎_elim
      (λ (k : (i < length es) × (slice_get es i ≡ Some x)). h i x k.1 p)
      (λ (k : (i ≡ length es) × (e ≡ x)). bare (subst Priced (sym k.1) p))
      (nth_push es e i x at)

  -- an event that does not pass the price so far changes nothing
  stays : (b : Best) → (Priced e → e.event.price ≤ℤ b.price) → FirstHighest es b → FirstHighest (es ++ (e ∷ [])) b
  stays b low h =
      let inside = slice_get_within es h.place h.entry h.stands in
      record {
        place = h.place;
        entry = h.entry;
        stands = nth_left es (e ∷ []) h.place inside ∙ h.stands;
        priced = h.priced;
        price = h.price;
        number = h.number;
        before = λ i x l at p.
            ⊎_elim
            (λ (k : (i < length es) × (slice_get es i ≡ Some x)). h.before i x l k.1 p)
            (λ (k : (i ≡ length es) × (e ≡ x)). absurd (omega (arith, k.0, l, inside)))
            (nth_push es e i x at);
        highest = λ i x at p.
            ⊎_elim
            (λ (k : (i < length es) × (slice_get es i ≡ Some x)). h.highest i x k.1 p)
            (λ (k : (i ≡ length es) × (e ≡ x)). subst (λ y. y.event.price ≤ℤ b.price) k.1 (low (subst Priced (sym k.1) p)))
            (nth_push es e i x at);
      }

  -- an event that passes every price so far is the first at the highest
  takes_over : Priced e → ((i : ℕ) (x : Entry) → slice_get es i ≡ Some x → Priced x → x.event.price <ℤ e.event.price) → FirstHighest (es ++ (e ∷ [])) (best_of e)
  takes_over has above =
      record {
        place = length es;
        entry = e;
        stands = nth_last es e;
        priced = has;
        price = refl;
        number = refl;
        before = λ i x l at p.
            ⊎_elim
            (λ (k : (i < length es) × (slice_get es i ≡ Some x)). above i x k.1 p)
            (λ (k : (i ≡ length es) × (e ≡ x)). absurd (omega (arith, k.0, l)))
            (nth_push es e i x at);
        highest = λ i x at p.
            ⊎_elim
            (λ (k : (i < length es) × (slice_get es i ≡ Some x)). let l = above i x k.1 p in omega (arith, ints))
            (λ (k : (i ≡ length es) × (e ≡ x)). subst (λ y. y.event.price ≤ℤ e.event.price) k.1 (omega (arith, ints)))
            (nth_push es e i x at);
      }

  after_none : Unpriced es → (b : Bool) → (e.event.price_flag == 1) ≡ b → MatchOption (cond b (Some (best_of e)) None) (Unpriced (es ++ (e ∷ []))) (FirstHighest (es ++ (e ∷ [])))
  after_none h true t = takes_over (eqb-true _ _ t) (λ i x at p. absurd (h i x at p))
  after_none h false t = still_none (eqb-false _ _ t) h

  compared : (b : Best) → FirstHighest es b → Priced e → (t : Bool) → int_lt b.price e.event.price ≡ t → MatchOption (cond t (Some (best_of e)) (Some b)) (Unpriced (es ++ (e ∷ []))) (FirstHighest (es ++ (e ∷ [])))
  compared b h p true t = takes_over p (λ i x at q. let l = h.highest i x at q in grind (arith, ints))
  compared b h p false t = stays b (λ q. grind (arith, ints)) h

  after_some : (b : Best) → FirstHighest es b → (t : Bool) → (e.event.price_flag == 1) ≡ t → MatchOption (higher (Some b) (cond t (Some (best_of e)) None)) (Unpriced (es ++ (e ∷ []))) (FirstHighest (es ++ (e ∷ [])))
  after_some b h true t = compared b h (eqb-true _ _ t) (int_lt b.price e.event.price) refl
  after_some b h false t = stays b (λ p. absurd (eqb-false _ _ t p)) h

pub tops_one : (e : Entry) → Tops (e ∷ []) (extreme_of e)
tops_one e = after_none [] e (λ i x at p. let z : ◌≡◌ {A = ℕ} 0 1 = cc in omega arith) (e.event.price_flag == 1) refl

more : (es : List Entry) (b : Option Best) (e : Entry) → MatchOption b (Unpriced es) (FirstHighest es) → Tops (es ++ (e ∷ [])) (record { best = higher b (extreme_of e).best })
more es None e h = after_none es e h (e.event.price_flag == 1) refl
more es (Some b) e h = after_some es e b h (e.event.price_flag == 1) refl

pub tops_more : (es : List Entry) (m : Extreme) (e : Entry) → Tops es m → Tops (es ++ (e ∷ [])) (higher_of m (extreme_of e))
tops_more es m e h = more es m.best e h
