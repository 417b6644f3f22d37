use Rattle.std.proofs.Common.{rules, tests}
use Rattle.std.proofs.lemmas.Iterator.{IsFirst-from_position}
use Rattle.records.specs.Fields.{code_of}
use Rattle.records.specs.Lawful.{LawfulCode}
use Rattle.records.proofs.Sections.{yields_to_come, section_search}
use Rattle.session.proofs.Begun.{codes_begin}
use Rattle.session.proofs.headed.HeadedFile.bad_code.Goals as goal

pub returns : goal.returns
returns c =
    let whole = codes_begin _ _ _ c.args.self.now.read c.args.self.now.headed c.codes_of-codes.ensures.reader in
    let found = IsFirst-from_position _ _ _ (λ b. LawfulCode (code_of b) → ⊥) (λ b. LawfulCode (code_of b)) c.position.ensures.ran (yields_to_come 8 _) (λ x q k. search (rules, tests)) (λ x q k. search (rules, tests)) in
    record { first = section_search 8 _ _ _ _ (λ b. LawfulCode (code_of b)) _ whole c.codes_of-codes.ensures.reader.at_first found }
