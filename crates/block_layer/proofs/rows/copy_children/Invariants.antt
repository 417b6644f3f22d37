use Rattle.std.proofs.Common.{◌+◌, ◌*◌, ◌^◌}
use Rattle.std.specs.List.{slice_get}
use Rattle.scheme.specs.Table.{Written}
use Rattle.block_layer.proofs.rows.copy_children.Given as goal

-- the first q are copied
abbrev pub invariant-loop-q : goal.invariant-loop-q
invariant-loop-q g l = Written (λ q. slice_get l.initial.table (l.from + q * 2 ^ l.blocks.e)) l.q l.at l.initial.table l.table
