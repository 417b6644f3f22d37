use Rattle.std.proofs.Common.{◌-◌, ◌^◌, ◌≤◌, take}
use Rattle.layer_parts.specs.Parts.{suffixes}
use Rattle.layer_parts.specs.Writes.{NextHolds, Redone}
use Rattle.block_layer.proofs.rows.Row.refresh_suffixes.Given as goal

-- the cells from `p` on are computed
abbrev pub invariant-loop-p : goal.invariant-loop-p
invariant-loop-p g l = let op = g.T.Semigroup.op in let items = take l.self.events.count l.initial.table in
    (l.first ≤ l.p) × Redone op items (suffixes l.self.events.count (2 ^ l.self.block.e)) l.self.at l.p l.last (NextHolds op items l.self.events.count (2 ^ l.self.block.e) l.self.at (l.last - 1) l.initial.table) l.initial.table l.table
