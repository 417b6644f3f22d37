use Rattle.std.proofs.Common.{◌^◌}
use Rattle.std.specs.List.{slice_get}
use Rattle.scheme.specs.Table.{Written}
use Rattle.layer_parts.specs.Writes.{outer_at}
use Rattle.block_layer.proofs.cells.Parent.turn_pieces.Given as goal

-- those before this one are turned
abbrev pub invariant-loop-piece : goal.invariant-loop-piece
invariant-loop-piece l = Written (λ k. outer_at l.self.events.count l.self.at l.self.start.0 (2 ^ l.self.block.e) (slice_get l.initial.pieces k)) l.piece-index 0 l.initial.pieces l.pieces
