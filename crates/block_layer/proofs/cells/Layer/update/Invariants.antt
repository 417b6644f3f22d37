use Rattle.std.proofs.Common.{◌≡◌, ℕ}
use Rattle.scheme.specs.Exponent.{exponent}
use Rattle.layer_parts.specs.Layout.{layout_steps}
use Rattle.layer_parts.specs.Writes.{PartRenewed}
use Rattle.block_layer.specs.Walk.{next_place}
use Rattle.block_layer.proofs.Walks.{Walk}
use Rattle.block_layer.proofs.cells.Layer.update.Given as goal

-- the first s steps are updated
abbrev pub invariant-loop-placed : goal.invariant-loop-placed
invariant-loop-placed g l = let plan = g.S.Scheme.plan l.self.inner.now in let n = l.self.events.count in record {
  inner : l.placed-iterator.steps.inner ≡ l.self.inner;
  events : l.placed-iterator.events ≡ l.self.events;
  steps : ℕ;
  walk : Walk plan n steps l.placed-iterator.steps.block.e (next_place plan n l.placed-iterator.at l.placed-iterator.last);
  renewed : PartRenewed g.T.Semigroup.op n l.p.0 (layout_steps plan n (exponent n) steps) n (Unit {0}) l.initial.table l.table;
}
