use Rattle.std.proofs.Common.{◌≡◌, ℕ, take}
use Rattle.scheme.specs.Exponent.{exponent}
use Rattle.scheme.specs.Table.{Filled}
use Rattle.layer_parts.specs.Layout.{layout_steps}
use Rattle.block_layer.specs.Walk.{next_place}
use Rattle.block_layer.proofs.Walks.{Walk}
use Rattle.block_layer.proofs.cells.Layer.fill.Given as goal

-- the first s steps are filled
abbrev pub invariant-loop-placed : goal.invariant-loop-placed
invariant-loop-placed g l = let plan = g.S.Scheme.plan l.self.inner.now in let n = l.self.events.count in record {
  inner : l.placed-iterator.steps.inner ≡ l.self.inner;
  events : l.placed-iterator.events ≡ l.self.events;
  steps : ℕ;
  walk : Walk plan n steps l.placed-iterator.steps.block.e (next_place plan n l.placed-iterator.at l.placed-iterator.last);
  filled : Filled g.T.Semigroup.op (take n l.initial.table) (layout_steps plan n (exponent n) steps) n l.initial.table l.table;
}
