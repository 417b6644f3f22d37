use Rattle.std.proofs.Common.{◌≡◌, ℕ, ◌+◌, ◌-◌, ◌^◌, ◌<◌, ◌≤◌, List, length, sym, subst, ap, arith}
use Rattle.std.proofs.lemmas.Bool.{eqb-false}
use Rattle.scheme.specs.Plan.{Plan}
use Rattle.scheme.specs.Calls.{Drawn}
use Rattle.scheme.specs.declared.Piece.{Piece}
use Rattle.scheme.specs.declared.Answer.{Answer}
use Rattle.layer_parts.specs.Layout.{layer_part, layer_pieces}
use Rattle.block_layer.proofs.Partings.{parted_apart, parted_fits, parted_placed, parted_pieces}
use Rattle.block_layer.proofs.BlockLayerScheme.query.Goals as goal

-- an answer of the same plan over as many events
drawn_as : {A : Type 0} (op : A → A → A) (plan same : Plan) (n m i j : ℕ) (table : List A) (before after : List Piece) (answer : Answer A) → plan ≡ same → n ≡ m
    → Drawn op (layer_part plan n) (layer_pieces plan n i j) table before after answer → Drawn op (layer_part same m) (layer_pieces same m i j) table before after answer
drawn_as op plan same n m i j table before after answer p q d =
    subst (λ (k : ℕ). Drawn op (layer_part same k) (layer_pieces same k i j) table before after answer) q (subst (λ (x : Plan). Drawn op (layer_part x n) (layer_pieces x n i j) table before after answer) p d)

pub query_step-requires-clause-step : goal.query_step-requires-clause-step
query_step-requires-clause-step g c =
    let layer = c.over-layer.result in
    let count = ap (λ e. e.count) c.over-layer.ensures.1 in
    let rise : c.args.run.first.0 < c.args.run.last.0 = omega (arith, eqb-false c.args.run.first.0 c.args.run.last.0 (sym c.if-eq.ensures)) in
    let at = c.parting_step-step.ensures in
    let small : (layer_part (g.S.Scheme.plan layer.inner.now) layer.events.count).size < 2 ^ 40 = rw (c.over-layer.ensures.0, c.over-layer.ensures.1) c.requires.room.small in
    let fits : (layer_part (g.S.Scheme.plan layer.inner.now) layer.events.count).size ≤ length c.args.table.now = rw (c.over-layer.ensures.0, c.over-layer.ensures.1) c.requires.room.fits in
    parted_fits _ (g.met.S.Scheme.sound layer.inner.now) layer.events.count _ _ _ _ layer.events.counted.few rise (omega arith) at.parting _ _ at.placed small fits

pub query_step-requires-clause-placed : goal.query_step-requires-clause-placed
query_step-requires-clause-placed g c =
    let layer = c.over-layer.result in
    let count = ap (λ e. e.count) c.over-layer.ensures.1 in
    let rise : c.args.run.first.0 < c.args.run.last.0 = omega (arith, eqb-false c.args.run.first.0 c.args.run.last.0 (sym c.if-eq.ensures)) in
    let at = c.parting_step-step.ensures in
    parted_placed _ (g.met.S.Scheme.sound layer.inner.now) layer.events.count _ _ _ _ layer.events.counted.few rise (omega arith) at.parting _ at.placed

pub query_step-requires-clause-apart : goal.query_step-requires-clause-apart
query_step-requires-clause-apart g c =
    let layer = c.over-layer.result in
    let count = ap (λ e. e.count) c.over-layer.ensures.1 in
    let rise : c.args.run.first.0 < c.args.run.last.0 = omega (arith, eqb-false c.args.run.first.0 c.args.run.last.0 (sym c.if-eq.ensures)) in
    let at = c.parting_step-step.ensures in
    parted_apart _ (g.met.S.Scheme.sound layer.inner.now) layer.events.count _ _ _ _ layer.events.counted.few rise (omega arith) at.parting

pub returns : goal.returns
returns g c =
    let layer = c.over-layer.result in
    let count = ap (λ e. e.count) c.over-layer.ensures.1 in
    let rise : c.args.run.first.0 < c.args.run.last.0 = omega (arith, eqb-false c.args.run.first.0 c.args.run.last.0 (sym c.if-eq.ensures)) in
    let at = c.parting_step-step.ensures in
    let pieces = parted_pieces _ (g.met.S.Scheme.sound layer.inner.now) layer.events.count _ _ _ _ layer.events.counted.few rise (omega arith) at.parting _ at.placed in
    record { drawn = drawn_as g.T.Semigroup.op _ _ _ _ c.args.run.first.0 (c.args.run.last.0 + 1 - 1) _ _ _ _ (ap g.S.Scheme.plan c.over-layer.ensures.0) count (rw pieces c.query_step.ensures) }
