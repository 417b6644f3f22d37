use Rattle.std.proofs.Common.{arith}
use Rattle.layer_parts.proofs.Layouts.{at_first}
use Rattle.block_layer.proofs.Walks.{counted}
use Rattle.block_layer.proofs.BlockLayer.step_count.Goals as goal

pub returns : goal.returns
returns g c =
    let top = c.args.parents.blocks in
    let ran = c.count.ensures.ran in
    omega (arith, ran.2, counted g.S.Scheme.plan g.met.S.Scheme.sound top.e ran.0 _ ran.1.1.0 ran.1.0 0 (at_first _ top.e top.few) ran.1.1.1 ran.1.1.2)
