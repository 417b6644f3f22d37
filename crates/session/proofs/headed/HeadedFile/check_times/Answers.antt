use Rattle.std.proofs.Common.{◌<◌, ◌≤◌, arith, rules}
use Rattle.records.specs.Fields.{header_of}
use Rattle.records.proofs.Sections.{section_turn}
use Rattle.session.specs.Rules.{InOrder}
use Rattle.session.proofs.Decided.{headed_decided}
use Rattle.session.proofs.Begun.{events_begin}
use Rattle.session.proofs.Turn.{one_more, first_bad, the_event, time_falls, time_stands, latest_more}
use Rattle.session.proofs.headed.HeadedFile.check_times.Goals as goal

pub loop-record-init : goal.loop-record-init
loop-record-init c =
    let whole = events_begin _ _ _ c.args.self.now.read c.args.self.now.headed c.events_of-record-items.ensures.reader in
    search rules

pub returns-then-event-latest : goal.returns-then-event-latest
returns-then-event-latest c =
    let inv = c.loop-record.invariant in
    let turn = section_turn 16 c.args.self.now.bytes.now (header_of c.args.self.now.bytes.now).events_at (header_of c.args.self.now.bytes.now).events c.loop-record.record-iterator c.next.new.self c.in-Some.record inv.0 c.in-Some.ensures.steps in
    let event-is = the_event c.args.self.now.bytes.now _ _ c.decode-event.result turn.bytes c.decode-event.ensures.fields in
    let earlier : c.decode-event.result.time < c.loop-record.latest = omega arith in
    let bad = time_falls _ _ _ _ inv.2 event-is earlier in
    let first = first_bad (InOrder c.args.self.now.bytes.now) _ _ _ turn.place turn.below inv.1 bad in
    let headed = (headed_decided c.args.self.now.bytes.now).0 c.args.self.now.headed in
    search rules

pub loop-record-preserved : goal.loop-record-preserved
loop-record-preserved c =
    let inv = c.loop-record.invariant in
    let turn = section_turn 16 c.args.self.now.bytes.now (header_of c.args.self.now.bytes.now).events_at (header_of c.args.self.now.bytes.now).events c.loop-record.record-iterator c.next.new.self c.in-Some.record inv.0 c.in-Some.ensures.steps in
    let event-is = the_event c.args.self.now.bytes.now _ _ c.decode-event.result turn.bytes c.decode-event.ensures.fields in
    let later : c.loop-record.latest ≤ c.decode-event.result.time = omega arith in
    let good = time_stands _ _ _ _ inv.2 event-is later in
    let below = one_more (InOrder c.args.self.now.bytes.now) _ _ turn.next inv.1 good in
    let latest = latest_more _ _ _ _ turn.next event-is in
    (turn.still, below, search rules)
