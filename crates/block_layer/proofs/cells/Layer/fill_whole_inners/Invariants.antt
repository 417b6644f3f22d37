use Rattle.std.proofs.Common.{◌+◌, ◌^◌, take}
use Rattle.scheme.specs.Table.{Filled}
use Rattle.layer_parts.specs.Parts.{inner_tables}
use Rattle.block_layer.proofs.cells.Layer.fill_whole_inners.Given as goal

-- the tables of the first k parents are filled
abbrev pub invariant-loop-k : goal.invariant-loop-k
invariant-loop-k g l = Filled g.T.Semigroup.op (take l.self.events.count l.initial.table) (inner_tables (g.S.Scheme.plan l.self.inner.now).part l.self.events.count (2 ^ l.step.parents.e) (2 ^ l.step.children.e) l.k) (l.at + l.self.events.count + l.self.events.count) l.initial.table l.table
