use Rattle.std.proofs.Common.{ℕ, List, rules, tests}
use Rattle.std.proofs.lemmas.Iterator.{IsFirst-from_position}
use Rattle.records.specs.Fields.{header_of, event_of}
use Rattle.records.specs.Lawful.{LawfulEvent}
use Rattle.records.proofs.Sections.{yields_to_come, section_search}
use Rattle.session.proofs.Begun.{events_begin}
use Rattle.session.proofs.headed.HeadedFile.bad_event.Goals as goal

pub returns : goal.returns
returns c =
    let whole = events_begin _ _ _ c.args.self.now.read c.args.self.now.headed c.events_of-events.ensures.reader in
    let good = λ (b : List ℕ). LawfulEvent (header_of c.args.self.now.bytes.now).codes (event_of b) in
    let found = IsFirst-from_position _ _ _ (λ b. good b → ⊥) good c.position.ensures.ran (yields_to_come 16 _) (λ x q k. search (rules, tests)) (λ x q k. search (rules, tests)) in
    record { first = section_search 16 _ _ _ _ good _ whole c.events_of-events.ensures.reader.at_first found }
