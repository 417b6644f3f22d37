use Rattle.std.proofs.Common.{arith}
use Rattle.block_layer.proofs.Betweens.{pieces_few}
use Rattle.block_layer.proofs.cells.Layer.between_count.Goals as goal

pub returns-clause-few : goal.returns-clause-few
returns-clause-few g c = omega (arith, pieces_few _ (g.met.S.Scheme.sound c.args.self.now.inner.now) c.in-Some.run')
