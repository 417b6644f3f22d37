use Rattle.std.proofs.Common.{◌^◌, arith}
use Rattle.layer_parts.proofs.Filling.{inner_filled}
use Rattle.block_layer.proofs.cells.Parent.fill.Goals as goal

pub returns : goal.returns
returns g c =
    let self = c.args.self in
    let m = self.children.count in
    let sound = g.met.S.Scheme.sound c.args.inner.now in
    inner_filled g.T.Semigroup.op g.met.T.Semigroup.associative self.events.count self.start.0 (2 ^ self.block.e) m self.kids
    ((g.S.Scheme.plan c.args.inner.now).part m) c.args.suffixes_at self.at _ c.args.table.now c.copy_children.new.table c.fill.new.table
    c.requires.suffixes c.copy_children.ensures c.fill.ensures.filled (sound.within m self.children.counted.some self.children.counted.few) (sound.enough m self.children.counted.some self.children.counted.few)
    (omega arith) (omega arith) c.fill.auto.table
