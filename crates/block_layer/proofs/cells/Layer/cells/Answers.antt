use Rattle.std.proofs.Common.{◌+◌, ◌∙◌}
use Rattle.block_layer.proofs.Walks.{walk_on}
use Rattle.block_layer.proofs.cells.Layer.cells.Goals as goal

pub loop-step-preserved : goal.loop-step-preserved
loop-step-preserved g c =
    let w = c.loop-step.invariant in
    record {
      inner = c.in-Some.ensures.steps.0 ∙ w.inner;
      steps = w.steps + 1;
      walk = walk_on _ (g.met.S.Scheme.sound c.args.self.now.inner.now) _ _ _ _ c.in-Some.step w.walk.step (rw w.inner at c.in-Some.ensures.steps.1) _ c.step_cells.result _ w.walk c.min-total.ensures c.step_cells.ensures.counted;
    }
