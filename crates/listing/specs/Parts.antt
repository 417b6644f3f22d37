-- The text of the parts of a line.
use Rattle.std.specs.Prelude.{ℕ, ◌/◌, ◌%◌, cond, List, ◌++◌, Some, None, codes, decimal, Option, ◌==◌}
use Rattle.std.specs.Fmt.{signed_decimal}
use Rattle.records.specs.declared.record.Event.{Event}
use Rattle.records.specs.declared.record.Effect.{Effect}
use Rattle.records.specs.declared.record.Effect.TheVariants.{Nothing, Halt, Resumption}
use Rattle.listing.specs.declared.part.Section.{Section}

-- a section, as `3 at byte 20`
abbrev pub section_text : Section → List ℕ
section_text s = decimal s.count ++ (codes " at byte " ++ decimal s.at)

-- milliseconds since midnight as hours, minutes, seconds and thousandths, digit by digit
abbrev pub time_text : ℕ → List ℕ
time_text t =
    decimal (t / 36000000) ++ (decimal (t / 3600000 % 10) ++ (codes ":" ++ (decimal (t / 600000 % 6) ++ (decimal (t / 60000 % 10)
    ++ (codes ":" ++ (decimal (t / 10000 % 6) ++ (decimal (t / 1000 % 10) ++ (codes "." ++ (decimal (t / 100 % 10) ++ (decimal (t / 10 % 10) ++ decimal (t % 10)))))))))))

-- the word for an effect
abbrev pub effect_text : Option Effect → List ℕ
effect_text (Some Nothing) = codes "none"
effect_text (Some Halt) = codes "halt"
effect_text (Some Resumption) = codes "resumption"
effect_text None = codes "unknown"

-- a participant's number, where 0 is nobody
abbrev pub participant_text : ℕ → List ℕ
participant_text n = cond (n == 0) (codes "none") (decimal n)

-- the price and the quantity of an event that has them
abbrev pub trade_text : Event → List ℕ
trade_text e = cond (e.price_flag == 1) (codes "price " ++ (signed_decimal e.price ++ (codes " quantity " ++ decimal e.quantity))) (codes "no price")
