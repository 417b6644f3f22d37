-- The text of whole lines.
use Rattle.std.specs.Prelude.{ℕ, List, ◌++◌, codes, decimal}
use Rattle.records.specs.declared.record.Header.{Header}
use Rattle.listing.specs.declared.line.EventLine.{EventLine}
use Rattle.listing.specs.Parts.{section_text, time_text, effect_text, participant_text, trade_text}

-- the header, as `edition 1, codes 3 at byte 20, events 5 at byte 44, length 124`
abbrev pub header_text : Header → List ℕ
header_text h =
    codes "edition " ++ (decimal h.edition ++ (codes ", codes " ++ (section_text (record { count = h.codes; at = h.codes_at })
    ++ (codes ", events " ++ (section_text (record { count = h.events; at = h.events_at }) ++ (codes ", length " ++ decimal h.file_len))))))

-- an event, as `0 00:00:01.000 code 0 (none) participant 7 price 100 quantity 10`
abbrev pub event_text : EventLine → List ℕ
event_text l =
    decimal l.number ++ (codes " " ++ (time_text l.event.time ++ (codes " code " ++ (decimal l.event.code ++ (codes " (" ++ (effect_text l.effect
    ++ (codes ") participant " ++ (participant_text l.event.participant ++ (codes " " ++ trade_text l.event)))))))))
