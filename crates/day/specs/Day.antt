-- The events of a file, each with its number and the record of its code.
use Rattle.std.specs.Prelude.{ℕ, ◌%◌, cond, List, [], map}
use Rattle.std.specs.List.{range_with_len}
use Rattle.std.specs.Option.{unwrap_or}
use Rattle.records.specs.declared.record.Header.{Header}
use Rattle.records.specs.declared.record.Event.{Event}
use Rattle.records.specs.Fields.{code_of, event_of}
use Rattle.records.specs.Parts.{part, fits}
use Rattle.session.specs.Opened.{code_from}
use Rattle.kinds.specs.declared.kind.Entry.{Entry}

-- an event at a place, with its number (the place, of which there are 65,536) and the record of its code, which is all zeros where the file lacks it
abbrev pub numbered_entry : List ℕ → Header → ℕ → Event → Entry
numbered_entry b h k e = record { number = k % 65536; event = e; code = unwrap_or (code_from b h e.code) (code_of []) }

-- the entry of the event at a place of the section that a header tells
abbrev pub entry_at : List ℕ → Header → ℕ → Entry
entry_at b h k = numbered_entry b h k (event_of (part 16 b h.events_at k))

-- the entries of all events, in their order; a section that does not lie within the file has none
abbrev pub day_of : List ℕ → Header → List Entry
day_of b h = map (entry_at b h) (range_with_len 0 (cond (fits 16 b h.events_at h.events) h.events 0))
