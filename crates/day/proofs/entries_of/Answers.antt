use Rattle.std.proofs.Common.{rules}
use Rattle.std.proofs.lemmas.Iterator.{items_from_collect, YieldsList-from_map}
use Rattle.std.proofs.lemmas.Iterator.Consumers.{YieldsList-at}
use Rattle.std.proofs.lemmas.List.{map-id}
use Rattle.kinds.specs.declared.kind.Entry.{Entry}
use Rattle.day.proofs.Readings.{yields_day}
use Rattle.day.proofs.entries_of.Goals as goal

pub returns : goal.returns
returns c =
    let day = yields_day c.args.file.now.bytes.now c.args.file.now.header c.events.result c.events.ensures.reader in
    let entries = items_from_collect _ c.collect.ensures.ran (YieldsList-from_map _ (λ (e : Entry). e) (YieldsList-at c.map.ensures.source day) c.map.ensures.closure (λ x r q k. search rules)) in
    record { entries = simp map-id at entries }
