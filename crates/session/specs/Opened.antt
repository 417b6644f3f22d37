-- What opening a file gives.
use Rattle.std.specs.Prelude.{◌≡◌, ℕ, true, cond, ◌&&◌, List, Some, None, Ok, Err, Option, Result, nat_lt}
use Rattle.records.specs.declared.record.Header.{Header}
use Rattle.records.specs.declared.record.Code.{Code}
use Rattle.records.specs.declared.record.Event.{Event}
use Rattle.records.specs.Fields.{header_of, code_of, event_of}
use Rattle.records.specs.Parts.{part, fits}
use Rattle.session.specs.declared.fault.FileFault.{FileFault}
use Rattle.session.specs.Faults.{Refusal, refusal_of}
use Rattle.session.specs.declared.file.SessionFile.{SessionFile}
use Rattle.session.specs.First.{First}

-- the number and the place of the fault that came back, if one did
abbrev pub refusal_in : {X : Type 0} → Result X FileFault → Option Refusal
refusal_in (Ok x) = None
refusal_in (Err f) = Some (refusal_of f)

-- a fault refuses the file exactly when it is the file's first
abbrev pub FirstRefused : {X : Type 0} → List ℕ → Result X FileFault → Type 0
FirstRefused b r = (f : FileFault) → (r ≡ Err f → First b f) × (First b f → r ≡ Err f)

-- an accepted file: the bytes, their header, and both sections within them
pub record Accepted (b : List ℕ) (s : SessionFile) : Type 0 where
  pub its_bytes : s.bytes.now ≡ b
  pub its_header : s.header ≡ header_of b
  pub codes_within : fits 8 b (header_of b).codes_at (header_of b).codes ≡ true
  pub events_within : fits 16 b (header_of b).events_at (header_of b).events ≡ true

-- the code and the event at a place of the sections that a header tells: none past the last, and none of a section that does not lie within the file
abbrev pub code_from : List ℕ → Header → ℕ → Option Code
code_from b h k = cond (fits 8 b h.codes_at h.codes && nat_lt k h.codes) (Some (code_of (part 8 b h.codes_at k))) None

abbrev pub event_from : List ℕ → Header → ℕ → Option Event
event_from b h k = cond (fits 16 b h.events_at h.events && nat_lt k h.events) (Some (event_of (part 16 b h.events_at k))) None
