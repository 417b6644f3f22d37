use Rattle.std.proofs.Common.{rules}
use Rattle.std.proofs.lemmas.Iterator.{items_from_collect, YieldsList-from_map, YieldsList-from_slice}
use Rattle.std.proofs.lemmas.Result.{IfOk-weaker}
use Rattle.kinds.specs.Runs.{over_means}
use Rattle.kinds.proofs.kind.elements_of.Goals as goal

pub returns-clause-meaning : goal.returns-clause-meaning
returns-clause-meaning g c =
    let es = c.args.entries.now in
    let element = g.K.Kind.element in
    let elements = items_from_collect _ c.collect.ensures.ran (YieldsList-from_map _ element (YieldsList-from_slice es cc) c.map.ensures.closure (λ x r q k. search rules)) in
    IfOk-weaker c.collect.result _ _ (λ v same. over_means g.K.Semigroup.op element g.K.Kind.Means g.met.K.Kind.meaning es _ same) elements
