-- Which codes and events are lawful.
use Rattle.std.specs.Prelude.{◌≡◌, ℕ, ◌<◌, ◌≤◌, true, ◌⊎◌, pos, is_some}
use Rattle.records.specs.declared.record.Code.{Code}
use Rattle.records.specs.declared.record.Event.{Event}

-- a code has one of the effects, a factor below 65,521, and 0 in its last two bytes
pub record LawfulCode (c : Code) : Type 0 where
  pub effect : is_some c.effect ≡ true
  pub factor : c.factor ≤ 65520
  pub reserved : c.reserved ≡ 0

-- an event lies within the day, names one of the codes, and has a price and a quantity only where its flag is 1
pub record LawfulEvent (codes : ℕ) (e : Event) : Type 0 where
  pub time : e.time ≤ 86399999
  pub code : e.code < codes
  pub price : (e.price_flag ≡ 1) ⊎ ((e.price_flag ≡ 0) × (e.price ≡ pos 0) × (e.quantity ≡ 0))
