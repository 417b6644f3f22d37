-- The refusal of a file, computed check by check.
use Rattle.std.specs.Prelude.{ℕ, zero, suc, ◌-◌, Bool, cond, ◌&&◌, ◌||◌, List, length, pos, is_some, Some, None, Option, ◌==◌, nat_le, nat_lt}
use Rattle.std.specs.Ordering.{int_eq}
use Rattle.std.specs.Option.{option_or}
use Rattle.records.specs.Fields.{header_of}
use Rattle.session.specs.Faults.{Refusal}
use Rattle.session.specs.Rules.{code_at, event_at, end_of_codes, end_of_events}

-- the tests of rules 1, 3 and 4
abbrev pub whole? : List ℕ → Bool
whole? b = nat_le 20 (length b) && (header_of b).file_len == length b

abbrev pub few_codes? : List ℕ → Bool
few_codes? b = nat_le 1 (header_of b).codes && nat_le (header_of b).codes 64

abbrev pub few_events? : List ℕ → Bool
few_events? b = nat_le 1 (header_of b).events && nat_le (header_of b).events 65536

abbrev pub sections? : List ℕ → Bool
sections? b =
    nat_le 20 (header_of b).codes_at && (nat_le (end_of_codes b) (length b) && (nat_le 20 (header_of b).events_at && (nat_le (end_of_events b) (length b)
    && (nat_le (end_of_codes b) (header_of b).events_at || nat_le (end_of_events b) (header_of b).codes_at))))

-- rules 1 to 4 together
abbrev pub headed? : List ℕ → Bool
headed? b = whole? b && ((header_of b).edition == 1 && (few_codes? b && (few_events? b && sections? b)))

-- the tests of rules 5, 6 and 7 at one place
abbrev pub code? : List ℕ → ℕ → Bool
code? b k = is_some (code_at b k).effect && (nat_le (code_at b k).factor 65520 && (code_at b k).reserved == 0)

abbrev pub event? : List ℕ → ℕ → Bool
event? b k =
    nat_le (event_at b k).time 86399999 && (nat_lt (event_at b k).code (header_of b).codes
    && ((event_at b k).price_flag == 1 || ((event_at b k).price_flag == 0 && (int_eq (event_at b k).price (pos 0) && (event_at b k).quantity == 0))))

-- (the first event follows none, and is held against itself)
abbrev pub order? : List ℕ → ℕ → Bool
order? b k = nat_le (event_at b (k - 1)).time (event_at b k).time

-- the first place below n at which the test fails
abbrev pub first_not : (ℕ → Bool) → ℕ → Option ℕ
first_not p zero = None
first_not p (suc n) = option_or (first_not p n) (cond (p n) None (Some n))

-- a check of the header: refused where the test fails, else as the later checks say
abbrev pub unless : Bool → ℕ → ℕ → Option Refusal → Option Refusal
unless t n k rest = cond t rest (Some (record { number = n; place = k }))

-- a check of records: refused at the first bad place, else as the later checks say
abbrev pub refused_at_first : Option ℕ → ℕ → Option Refusal → Option Refusal
refused_at_first None n rest = rest
refused_at_first (Some k) n rest = Some (record { number = n; place = k })

-- the checks from the seventh, the sixth and the fifth on
abbrev pub in_times : List ℕ → Option Refusal
in_times b = refused_at_first (first_not (order? b) (header_of b).events) 7 None

abbrev pub in_events : List ℕ → Option Refusal
in_events b = refused_at_first (first_not (event? b) (header_of b).events) 6 (in_times b)

abbrev pub in_codes : List ℕ → Option Refusal
in_codes b = refused_at_first (first_not (code? b) (header_of b).codes) 5 (in_events b)

-- the refusal of a file, if it is refused: the number of the first check that fails, and its place
unfoldable pub first_refusal : List ℕ → Option Refusal
first_refusal b =
    unless (whole? b) 1 (length b)
    (unless ((header_of b).edition == 1) 2 0
    (unless (few_codes? b) 3 2
    (unless (few_events? b) 3 4
    (unless (sections? b) 4 8
    (in_codes b)))))
