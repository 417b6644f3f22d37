use Rattle.std.proofs.Common.{◌<◌, sym, ap, arith}
use Rattle.std.proofs.lemmas.Bool.{eqb-false}
use Rattle.block_layer.proofs.Partings.{parted_apart}
use Rattle.block_layer.proofs.BlockLayerScheme.piece_count.Goals as goal

pub between_count-requires : goal.between_count-requires
between_count-requires g c =
    let layer = c.over-layer.result in
    let count = ap (λ e. e.count) c.over-layer.ensures.1 in
    let rise : c.args.run.first.0 < c.args.run.last.0 = omega (arith, eqb-false c.args.run.first.0 c.args.run.last.0 (sym c.if-eq.ensures)) in
    record { apart = parted_apart _ (g.met.S.Scheme.sound layer.inner.now) layer.events.count _ _ _ _ layer.events.counted.few rise (omega arith) c.parting-step.ensures }
