-- The number, the place and the text of each fault of a file.
use Rattle.std.specs.Prelude.{ℕ, List, ◌++◌, codes, decimal}
use Rattle.session.specs.declared.fault.FileFault.{FileFault}
use Rattle.session.specs.declared.fault.FileFault.TheVariants.{Length, Edition, Count, Sections, Code, Event, Time}

-- the number of the rule that is broken
abbrev pub fault_number : FileFault → ℕ
fault_number (Length n) = 1
fault_number Edition = 2
fault_number (Count n) = 3
fault_number Sections = 4
fault_number (Code k) = 5
fault_number (Event k) = 6
fault_number (Time k) = 7

-- the length of the file, the byte of the edition, of the count or of the first offset, the code or the event
abbrev pub fault_place : FileFault → ℕ
fault_place (Length n) = n
fault_place Edition = 0
fault_place (Count n) = n
fault_place Sections = 8
fault_place (Code k) = k
fault_place (Event k) = k
fault_place (Time k) = k

-- a refusal: the number of the rule, and the place
pub record Refusal : Type 0 where
  pub number : ℕ
  pub place : ℕ

-- the refusal that a fault stands for
abbrev pub refusal_of : FileFault → Refusal
refusal_of f = record { number = fault_number f; place = fault_place f }

-- what is wrong, in words
abbrev pub fault_cause : FileFault → List ℕ
fault_cause (Length n) = codes "bad length"
fault_cause Edition = codes "bad edition"
fault_cause (Count n) = codes "count out of range"
fault_cause Sections = codes "misplaced section"
fault_cause (Code k) = codes "bad code"
fault_cause (Event k) = codes "bad event"
fault_cause (Time k) = codes "time falls"

-- what the place counts
abbrev pub place_unit : FileFault → List ℕ
place_unit (Length n) = codes "length"
place_unit Edition = codes "byte"
place_unit (Count n) = codes "byte"
place_unit Sections = codes "byte"
place_unit (Code k) = codes "code"
place_unit (Event k) = codes "event"
place_unit (Time k) = codes "event"

-- the text of a fault, as `fault 5 (bad code) at code 2`
abbrev pub fault_text : FileFault → List ℕ
fault_text f = codes "fault " ++ (decimal (fault_number f) ++ (codes " (" ++ (fault_cause f ++ (codes ") at " ++ (place_unit f ++ (codes " " ++ decimal (fault_place f)))))))
