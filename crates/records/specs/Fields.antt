-- What the bytes of a header, a code and an event say.
use Rattle.std.specs.Prelude.{ℕ, cond, List, ◌++◌, length, Some, None, codes, decimal, Option, Result, ◌==◌, nat_le, slice_index}
use Rattle.records.specs.declared.record.Header.{Header}
use Rattle.records.specs.declared.record.Code.{Code}
use Rattle.records.specs.declared.record.Event.{Event}
use Rattle.std.specs.Option.{ok_or}
use Rattle.records.specs.declared.record.Trade.{Trade}
use Rattle.records.specs.declared.record.UnknownEffect.{UnknownEffect}
use Rattle.records.specs.declared.record.Effect.{Effect}
use Rattle.records.specs.declared.record.Effect.TheVariants.{Nothing, Halt, Resumption}
use Rattle.records.specs.Numbers.{le2, le3, le4, signed4}

-- the header of a file of 20 bytes or more
abbrev pub header_of : List ℕ → Header
header_of b = record { edition = le2 b 0; codes = le2 b 2; events = le4 b 4; codes_at = le4 b 8; events_at = le4 b 12; file_len = le4 b 16 }

-- the header of a file, if it is long enough to have one
abbrev pub header_in : List ℕ → Option Header
header_in b = cond (nat_le 20 (length b)) (Some (header_of b)) None

-- the number of each effect
abbrev pub effect_number : Effect → ℕ
effect_number Nothing = 0
effect_number Halt = 1
effect_number Resumption = 2

-- the effect of each number
abbrev pub effect_of : ℕ → Option Effect
effect_of n = cond (n == 0) (Some Nothing) (cond (n == 1) (Some Halt) (cond (n == 2) (Some Resumption) None))

-- what a byte is read as: the effect of its number, or an error that keeps the number
abbrev pub effect_or_unknown : ℕ → Result Effect UnknownEffect
effect_or_unknown n = ok_or (effect_of n) (record { number = n })

-- such an error in words
abbrev pub unknown_effect_text : UnknownEffect → List ℕ
unknown_effect_text e = codes "no effect has the number " ++ decimal e.number

-- the code in 8 bytes
abbrev pub code_of : List ℕ → Code
code_of s = record { phase_map = le3 s 0; effect = effect_of (slice_index s 3); factor = le2 s 4; reserved = le2 s 6 }

-- the event in 16 bytes
abbrev pub event_of : List ℕ → Event
event_of s = record { time = le4 s 0; code = slice_index s 4; price_flag = slice_index s 5; participant = le2 s 6; price = signed4 s 8; quantity = le4 s 12 }

-- the price and the quantity of an event: there are any exactly where its flag is 1
abbrev pub trade_of : Event → Option Trade
trade_of e = cond (e.price_flag == 1) (Some (record { price = e.price; quantity = e.quantity })) None
