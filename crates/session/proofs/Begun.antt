-- A reader that has just begun over a section of a file whose header is right.
use Rattle.std.proofs.Common.{◌≡◌, ℕ, true, List}
use Rattle.records.specs.declared.record.Header.{Header}
use Rattle.records.specs.declared.reader.Records.{Records}
use Rattle.records.specs.Fields.{header_of}
use Rattle.records.specs.Reading.{Over}
use Rattle.records.proofs.Sections.{Section, section_begins}
use Rattle.session.specs.Computed.{headed?}
use Rattle.session.proofs.Decided.{headed_decided}

pub codes_begin : (b : List ℕ) (h : Header) (s : Records 8) → h ≡ header_of b → headed? b ≡ true → Over 8 b h.codes_at h.codes s → Section 8 b (header_of b).codes_at (header_of b).codes s
codes_begin b h s read headed over = section_begins 8 b _ _ s ((headed_decided b).0 headed).sections.codes_fit (rw read at over)

pub events_begin : (b : List ℕ) (h : Header) (s : Records 16) → h ≡ header_of b → headed? b ≡ true → Over 16 b h.events_at h.events s → Section 16 b (header_of b).events_at (header_of b).events s
events_begin b h s read headed over = section_begins 16 b _ _ s ((headed_decided b).0 headed).sections.events_fit (rw read at over)
