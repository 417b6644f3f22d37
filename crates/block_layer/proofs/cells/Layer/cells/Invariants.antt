use Rattle.std.proofs.Common.{◌≡◌, ℕ}
use Rattle.block_layer.proofs.Walks.{Walk}
use Rattle.block_layer.proofs.cells.Layer.cells.Given as goal

-- the cells of the first s steps are counted
abbrev pub invariant-loop-step : goal.invariant-loop-step
invariant-loop-step g l = record { inner : l.step-iterator.inner ≡ l.self.inner; steps : ℕ; walk : Walk (g.S.Scheme.plan l.self.inner.now) l.self.events.count steps l.step-iterator.block.e l.total }
