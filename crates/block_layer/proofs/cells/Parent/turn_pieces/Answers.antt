use Rattle.std.proofs.Common.{◌^◌, sym, ◌∙◌, arith}
use Rattle.std.proofs.lemmas.Option.{slice_get-get_or}
use Rattle.block_layer.proofs.Turning.{turn_more}
use Rattle.block_layer.proofs.cells.Parent.turn_pieces.Goals as goal

pub outer_piece-requires-clause-piece : goal.outer_piece-requires-clause-piece
outer_piece-requires-clause-piece c =
    let k = c.loop-piece.piece-index in
    c.requires.pieces k _ (sym (c.loop-piece.invariant.above k (omega arith)) ∙ slice_get-get_or c.loop-piece.pieces k _ (omega arith))

pub loop-piece-preserved : goal.loop-piece-preserved
loop-piece-preserved c =
    let k = c.loop-piece.piece-index in
    turn_more c.args.self.events.count c.args.self.at c.args.self.start.0 (2 ^ c.args.self.block.e) k c.args.pieces.now c.loop-piece.pieces _ c.outer_piece.result (omega arith) c.loop-piece.invariant
    (sym (c.loop-piece.invariant.above k (omega arith)) ∙ slice_get-get_or c.loop-piece.pieces k _ (omega arith)) c.outer_piece.ensures
