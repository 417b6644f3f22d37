use Rattle.std.proofs.Common.{◌+◌, ◌-◌, ◌^◌, length, arith}
use Rattle.layer_parts.proofs.Drawing.{inner_drawn}
use Rattle.block_layer.proofs.Turning.{drawn_pieces, turned_in}
use Rattle.block_layer.proofs.cells.Parent.query.Goals as goal

pub turn_pieces-requires-clause-pieces : goal.turn_pieces-requires-clause-pieces
turn_pieces-requires-clause-pieces g c =
    let self = c.args.self in
    let sound = g.met.S.Scheme.sound c.args.inner.now in
    let m = self.children in
    drawn_pieces g.T.Semigroup.op self.events.count self.start.0 (2 ^ self.block.e) m.count self.kids _ (sound.within m.count m.counted.some m.counted.few) (omega arith) m.counted.few
    _ _ _ (sound.covered m.count c.args.run.first.0 (c.args.run.last.0 + 1) m.counted.few (omega arith) (omega arith)) _ _ c.query-answer.new.trace c.query-answer.result (rw c.requires.run at c.query-answer.ensures.drawn)

pub returns : goal.returns
returns g c =
    let self = c.args.self in
    let sound = g.met.S.Scheme.sound c.args.inner.now in
    let m = self.children in
    let t = c.query-answer.new.trace in
    let d = rw c.requires.run at c.query-answer.ensures.drawn in
    inner_drawn self.events.count self.at self.start.0 (2 ^ self.block.e) m.count self.kids ((g.S.Scheme.plan c.args.inner.now).part m.count) _ (sound.within m.count m.counted.some m.counted.few) c.requires.place.1.1
    g.T.Semigroup.op c.args.table.now (length c.args.table.now - self.at) _ _ _ c.args.trace.now t _ c.query-answer.result _ (omega arith)
    (sound.covered m.count c.args.run.first.0 (c.args.run.last.0 + 1) m.counted.few (omega arith) (omega arith)) d d.counted
    (turned_in self.events.count self.at self.start.0 (2 ^ self.block.e) (c.query-answer.result.combinations + 1) t c.turn_pieces.new.pieces (omega arith) c.turn_pieces.auto.pieces c.turn_pieces.ensures)
