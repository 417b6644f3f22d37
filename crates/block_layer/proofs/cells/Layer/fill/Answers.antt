use Rattle.std.proofs.Common.{◌+◌, ◌∙◌, arith}
use Rattle.scheme.specs.Exponent.{exponent}
use Rattle.layer_parts.proofs.Layouts.{at_end}
use Rattle.layer_parts.proofs.Filling.{step_turn, layer_filled}
use Rattle.block_layer.proofs.Walks.{placed_is, placed_next, placed_at, placed_fits}
use Rattle.block_layer.proofs.cells.Layer.fill.Goals as goal

pub fill_step-requires : goal.fill_step-requires
fill_step-requires g c =
    let w = c.loop-placed.invariant in
    placed_fits _ (g.met.S.Scheme.sound c.args.self.now.inner.now) _ _ _ _ _ _ c.in-Some.placed w.walk (rw (w.inner, w.events) at c.in-Some.ensures.steps.1.1) c.requires.small _ (omega arith)

pub loop-placed-preserved : goal.loop-placed-preserved
loop-placed-preserved g c =
    let plan = g.S.Scheme.plan c.args.self.now.inner.now in
    let sound = g.met.S.Scheme.sound c.args.self.now.inner.now in
    let n = c.args.self.now.events.count in
    let w = c.loop-placed.invariant in
    let given = rw (w.inner, w.events) at c.in-Some.ensures.steps.1.1 in
    let at = placed_at plan sound n _ _ _ _ _ c.in-Some.placed w.walk given c.requires.small in
    record {
      inner = c.in-Some.ensures.steps.0 ∙ w.inner;
      events = c.in-Some.ensures.steps.1.0 ∙ w.events;
      steps = w.steps + 1;
      walk = placed_next plan sound n _ _ _ _ _ c.in-Some.placed w.walk given;
      filled = step_turn g.T.Semigroup.op plan n (exponent n) w.steps n c.in-Some.placed.at _ c.args.table.now c.loop-placed.table _ (omega arith)
          (placed_is plan sound n _ _ _ _ _ c.in-Some.placed w.walk given) at w.filled c.fill_step.ensures;
    }

pub returns : goal.returns
returns g c =
    let plan = g.S.Scheme.plan c.args.self.now.inner.now in
    let w = c.loop-placed.invariant in
    let end = at_end plan.child _ _ _ w.walk.step c.in-None.ensures.steps.1.1.0 in
    layer_filled g.T.Semigroup.op c.args.self.now.events.count _ c.args.table.now c.loop-placed.table (rw end at w.filled)
