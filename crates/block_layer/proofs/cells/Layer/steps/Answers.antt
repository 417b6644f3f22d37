use Rattle.std.proofs.Common.{arith}
use Rattle.block_layer.proofs.cells.Layer.steps.Goals as goal

pub invariant_of-result : goal.invariant_of-result
invariant_of-result g c = record { few = c.exponent_of.ensures.least.least 16 (omega arith) }
