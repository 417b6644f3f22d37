-- Extremes: the first event at the highest price.
use Rattle.std.specs.Prelude.{◌≡◌, ℕ, ◌<◌, cond, List, ◌++◌, ◌≤ℤ◌, ◌<ℤ◌, Some, None, codes, decimal, Option, MatchOption, ◌==◌, int_lt}
use Rattle.std.specs.List.{slice_get}
use Rattle.std.specs.Fmt.{signed_decimal}
use Rattle.kinds.specs.declared.extreme.Best.{Best}
use Rattle.kinds.specs.declared.extreme.Extreme.{Extreme}
use Rattle.kinds.specs.declared.kind.Entry.{Entry}

-- the higher price stays, of equal prices the left one; none leaves the other
abbrev pub higher : Option Best → Option Best → Option Best
higher None y = y
higher (Some x) None = Some x
higher (Some x) (Some y) = cond (int_lt x.price y.price) (Some y) (Some x)

abbrev pub higher_of : Extreme → Extreme → Extreme
higher_of x y = record { best = higher x.best y.best }

-- the extreme of an event: its price with its number, if it has a price
abbrev pub extreme_of : Entry → Extreme
extreme_of e = record { best = cond (e.event.price_flag == 1) (Some (record { price = e.event.price; event = e.number })) None }

-- an event has a price where its flag is 1
abbrev pub Priced : Entry → Type 0
Priced e = e.event.price_flag ≡ 1

-- no event of a run has a price
abbrev pub Unpriced : List Entry → Type 0
Unpriced es = (i : ℕ) (e : Entry) → slice_get es i ≡ Some e → Priced e → ⊥

-- the price and the number of an event of the run that no earlier event with a price reaches and no later one passes
pub record FirstHighest (es : List Entry) (b : Best) : Type 0 where
  pub place : ℕ
  pub entry : Entry
  pub stands : slice_get es place ≡ Some entry
  pub priced : Priced entry
  pub price : b.price ≡ entry.event.price
  pub number : b.event ≡ entry.number
  pub before : (i : ℕ) (e : Entry) → i < place → slice_get es i ≡ Some e → Priced e → e.event.price <ℤ b.price
  pub highest : (i : ℕ) (e : Entry) → slice_get es i ≡ Some e → Priced e → e.event.price ≤ℤ b.price

-- the extreme of a run is none if no event has a price, and else the first event at the highest price
abbrev pub Tops : List Entry → Extreme → Type 0
Tops es m = MatchOption m.best (Unpriced es) (FirstHighest es)

abbrev pub best_text : Option Best → List ℕ
best_text None = codes "none"
best_text (Some b) = signed_decimal b.price ++ (codes " at " ++ decimal b.event)

-- the price and the number, or `none`
abbrev pub extreme_text : Extreme → List ℕ
extreme_text m = best_text m.best
