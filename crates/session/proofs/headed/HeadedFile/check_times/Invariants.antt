use Rattle.std.proofs.Common.{ℕ, ◌<◌}
use Rattle.records.specs.Fields.{header_of}
use Rattle.records.proofs.Sections.{Section}
use Rattle.session.specs.Rules.{InOrder}
use Rattle.session.proofs.Turn.{Latest}
use Rattle.session.proofs.headed.HeadedFile.check_times.Given as goal

abbrev pub invariant-loop-record : goal.invariant-loop-record
invariant-loop-record l =
    Section 16 l.self.bytes.now (header_of l.self.bytes.now).events_at (header_of l.self.bytes.now).events l.record-iterator
    × ((k : ℕ) → k < l.record-iterator.at → InOrder l.self.bytes.now k)
    × Latest l.self.bytes.now l.record-iterator.at l.latest
