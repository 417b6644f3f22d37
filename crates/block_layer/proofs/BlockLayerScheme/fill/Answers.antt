use Rattle.block_layer.proofs.BlockLayerScheme.fill.Goals as goal

pub returns : goal.returns
returns g c = record { filled = rw (c.over.ensures.0, c.over.ensures.1) at c.fill.ensures }
