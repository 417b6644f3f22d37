use Rattle.std.proofs.Common.{◌^◌, take}
use Rattle.layer_parts.specs.Parts.{prefixes}
use Rattle.layer_parts.specs.Writes.{PriorHolds, Redone}
use Rattle.block_layer.proofs.rows.Row.refresh_prefixes.Given as goal

-- the cells below `p` are computed
abbrev pub invariant-loop-p : goal.invariant-loop-p
invariant-loop-p g l = let op = g.T.Semigroup.op in let items = take l.self.events.count l.initial.table in
    Redone op items (prefixes l.self.events.count (2 ^ l.self.block.e)) l.self.at l.first l.p (PriorHolds op items l.self.events.count (2 ^ l.self.block.e) l.self.at l.first l.initial.table) l.initial.table l.table
