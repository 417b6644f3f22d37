use Rattle.std.proofs.Common.{◌≡◌, length, ap, ◌∙◌}
use Rattle.index.proofs.Refusing.{both_passed}
use Rattle.basic_schemes.specs.FlatPlan.{flat_plan}
use Rattle.index_tests.proofs.Replaced.{granted, answer_updated, middle_replaced}
use Rattle.index_tests.proofs.usage.with_middle.Goals as goal

-- the update and the query are a history of the index that was built
pub returns : goal.returns
returns g c =
    let op = g.T.Semigroup.op in
    let entry = c.args.table.now in
    let n = c.in_ok-built.built.draft.events.count in
    let keeps = rw (granted c.new.result c.in_ok-draft.draft c.in_ok-draft.ensures.value) at c.new.ensures.keeps in
    let is = granted c.build.result c.in_ok-built.built c.in_ok-built.ensures.value in
    let moves = rw is at c.build.ensures.moves in
    let decided = rw (is, ← moves) at c.build.ensures.decided in
    let lasting = rw is at c.build.ensures.lasting in
    let updated = rw (granted c.update.result tt c.in_ok-ok.ensures.value) at c.update.ensures.updated in
    let queried = rw (granted c.query.result c.in_ok-answer.answer c.in_ok-answer.ensures.value) at c.query.ensures.queried in
    let three : n ≡ 3 = ap (λ d. d.events.count) moves ∙ keeps.0 in
    let product = answer_updated op flat_plan n entry c.build.new.table c.update.new.table 1 0 2 c.args.middle c.args.trace.now c.query.new.trace c.in_ok-answer.answer lasting updated queried in
    record { value = middle_replaced op n (length entry) (length c.args.trace.now) entry c.args.middle _ three decided (both_passed _ _ queried.0).1 product }
