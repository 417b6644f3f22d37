-- What makes bytes a session file.
use Rattle.std.specs.Prelude.{◌≡◌, ℕ, ◌+◌, ◌-◌, ◌*◌, ◌<◌, ◌≤◌, ◌⊎◌, List, length}
use Rattle.records.specs.declared.record.Code.{Code}
use Rattle.records.specs.declared.record.Event.{Event}
use Rattle.records.specs.Fields.{header_of, code_of, event_of}
use Rattle.records.specs.Lawful.{LawfulCode, LawfulEvent}
use Rattle.records.specs.Parts.{part}

-- the code and the event at a place of a file
abbrev pub code_at : List ℕ → ℕ → Code
code_at b k = code_of (part 8 b (header_of b).codes_at k)

abbrev pub event_at : List ℕ → ℕ → Event
event_at b k = event_of (part 16 b (header_of b).events_at k)

-- 1: there is a header, and the length that it tells is the file's
pub record Whole (b : List ℕ) : Type 0 where
  pub headed : 20 ≤ length b
  pub told : (header_of b).file_len ≡ length b

-- 2: the edition is 1
abbrev pub EditionOne : List ℕ → Type 0
EditionOne b = (header_of b).edition ≡ 1

-- 3: there are 1 to 64 codes, and 1 to 65,536 events
abbrev pub FewCodes : List ℕ → Type 0
FewCodes b = (1 ≤ (header_of b).codes) × ((header_of b).codes ≤ 64)

abbrev pub FewEvents : List ℕ → Type 0
FewEvents b = (1 ≤ (header_of b).events) × ((header_of b).events ≤ 65536)

-- where a section ends
abbrev pub end_of_codes : List ℕ → ℕ
end_of_codes b = (header_of b).codes_at + 8 * (header_of b).codes

abbrev pub end_of_events : List ℕ → ℕ
end_of_events b = (header_of b).events_at + 16 * (header_of b).events

-- 4: each section lies between the header and the file's end, and the two lie apart, in either order
pub record SectionsLie (b : List ℕ) : Type 0 where
  pub codes_begin : 20 ≤ (header_of b).codes_at
  pub codes_fit : end_of_codes b ≤ length b
  pub events_begin : 20 ≤ (header_of b).events_at
  pub events_fit : end_of_events b ≤ length b
  pub apart : (end_of_codes b ≤ (header_of b).events_at) ⊎ (end_of_events b ≤ (header_of b).codes_at)

-- 1 to 4
pub record Headed (b : List ℕ) : Type 0 where
  pub whole : Whole b
  pub edition : EditionOne b
  pub few_codes : FewCodes b
  pub few_events : FewEvents b
  pub sections : SectionsLie b

-- 5, 6 and 7 at one place: the code and the event there are lawful, and the event is not earlier than the one before it
abbrev pub GoodCode : List ℕ → ℕ → Type 0
GoodCode b k = LawfulCode (code_at b k)

abbrev pub GoodEvent : List ℕ → ℕ → Type 0
GoodEvent b k = LawfulEvent (header_of b).codes (event_at b k)

abbrev pub InOrder : List ℕ → ℕ → Type 0
InOrder b k = 0 < k → (event_at b (k - 1)).time ≤ (event_at b k).time

-- 5, 6 and 7 at every place
abbrev pub CodesGood : List ℕ → Type 0
CodesGood b = (k : ℕ) → k < (header_of b).codes → GoodCode b k

abbrev pub EventsGood : List ℕ → Type 0
EventsGood b = (k : ℕ) → k < (header_of b).events → GoodEvent b k

abbrev pub TimesGood : List ℕ → Type 0
TimesGood b = (k : ℕ) → k < (header_of b).events → InOrder b k

-- a session file: its sections lie within it and apart, every record is lawful, and times never fall
pub record WellFormed (b : List ℕ) : Type 0 where
  pub header : Headed b
  pub codes : CodesGood b
  pub events : EventsGood b
  pub times : TimesGood b
