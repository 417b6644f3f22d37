-- When an index refuses, and with which number and place.
use Rattle.std.specs.Prelude.{◌≡◌, ℕ, ◌+◌, ◌^◌, cond, ◌||◌, List, ◌++◌, length, codes, decimal, Some, None, Ok, Err, Option, Result, ◌==◌, nat_le, nat_lt}
use Rattle.scheme.specs.Plan.{Plan}
use Rattle.scheme.specs.Calls.{capped}
use Rattle.index.specs.declared.fault.IndexFault.{IndexFault}
use Rattle.index.specs.declared.fault.IndexFault.TheVariants.{EventCount, ShortTable, OutOfRange, ShortTrace}

-- a refusal by its number, with its place
pub record Refusal : Type 0 where
  pub number : ℕ
  pub place : ℕ

-- the number and the place of each fault
abbrev pub refusal_of : IndexFault → Refusal
refusal_of (EventCount n) = record { number = 8; place = n }
refusal_of (ShortTable cells) = record { number = 9; place = cells }
refusal_of (OutOfRange event) = record { number = 10; place = event.0 }
refusal_of (ShortTrace pieces) = record { number = 11; place = pieces }

-- what is wrong, in words
abbrev pub fault_reason : IndexFault → List ℕ
fault_reason (EventCount n) = codes "number of events out of range"
fault_reason (ShortTable cells) = codes "table too short"
fault_reason (OutOfRange event) = codes "out of range"
fault_reason (ShortTrace pieces) = codes "trace too short"

-- what the place counts
abbrev pub place_unit : IndexFault → List ℕ
place_unit (EventCount n) = codes "number"
place_unit (ShortTable cells) = codes "cell"
place_unit (OutOfRange event) = codes "event"
place_unit (ShortTrace pieces) = codes "piece"

-- the text of a fault, as `fault 9 (table too short) at cell 15`
abbrev pub fault_text : IndexFault → List ℕ
fault_text f = codes "fault " ++ (decimal (refusal_of f).number ++ (codes " (" ++ (fault_reason f ++ (codes ") at " ++ (place_unit f ++ (codes " " ++ decimal (refusal_of f).place))))))

-- 8: an index of no events, or of more than 65,536
abbrev pub count_refusal : ℕ → Option Refusal
count_refusal n = cond (nat_lt n 1 || nat_lt 65536 n) (Some (record { number = 8; place = n })) None

-- how many cells the scheme tells, where 2^40 stands for that or more
abbrev pub cells_told : Plan → ℕ → ℕ
cells_told plan n = capped (plan.part n).size

-- 9: 2^40 cells are told, or more than the table's `room`
abbrev pub table_refusal : (plan : Plan) (n room : ℕ) → Option Refusal
table_refusal plan n room = cond (cells_told plan n == 2 ^ 40 || nat_lt room (cells_told plan n)) (Some (record { number = 9; place = cells_told plan n })) None

-- 10: no run of the n events goes from i to j; 11: the run has more pieces than the trace's `room`
abbrev pub run_refusal : (plan : Plan) (n i j room : ℕ) → Option Refusal
run_refusal plan n i j room =
    cond (nat_lt j i || nat_le n j) (Some (record { number = 10; place = j }))
    (cond (nat_lt room (length (plan.pieces n i (j + 1)))) (Some (record { number = 11; place = length (plan.pieces n i (j + 1)) })) None)

-- 10: p is none of the n events
abbrev pub item_refusal : (n p : ℕ) → Option Refusal
item_refusal n p = cond (nat_le n p) (Some (record { number = 10; place = p })) None

-- of two checks in a row the first that refuses decides
abbrev pub first_of : (first later : Option Refusal) → Option Refusal
first_of None later = later
first_of (Some refusal) later = Some refusal

-- a query checks 9, 10, 11: a table of so many `cells`, the run from i to j, a trace with so much `room`
abbrev pub query_refusal : (plan : Plan) (n cells i j room : ℕ) → Option Refusal
query_refusal plan n cells i j room = first_of (table_refusal plan n cells) (run_refusal plan n i j room)

-- an update checks 9, 10
abbrev pub update_refusal : (plan : Plan) (n cells p : ℕ) → Option Refusal
update_refusal plan n cells p = first_of (table_refusal plan n cells) (item_refusal n p)

-- a check that refuses exactly if a refusal is due, and then with that one
abbrev pub Checked : {X : Type 0} (result : Result X IndexFault) (due : Option Refusal) → Type 0
Checked (Ok x) due = due ≡ None
Checked (Err fault) due = due ≡ Some (refusal_of fault)
