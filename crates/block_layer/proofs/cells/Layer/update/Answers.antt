use Rattle.std.proofs.Common.{◌+◌, refl, ◌∙◌, arith, length-set}
use Rattle.scheme.specs.Exponent.{exponent}
use Rattle.layer_parts.specs.Layout.{layout_step, layer_plan}
use Rattle.layer_parts.proofs.Layouts.{at_end}
use Rattle.layer_parts.proofs.Renewing.{renewed_more, layer_renewed}
use Rattle.block_layer.proofs.Walks.{placed_is, placed_next, placed_at, placed_fits}
use Rattle.block_layer.proofs.cells.Layer.update.Goals as goal

pub update_step-requires-clause-step : goal.update_step-requires-clause-step
update_step-requires-clause-step g c =
    let w = c.loop-placed.invariant in
    placed_fits _ (g.met.S.Scheme.sound c.args.self.now.inner.now) _ _ _ _ _ _ c.in-Some.placed w.walk (rw (w.inner, w.events) at c.in-Some.ensures.steps.1.1) c.requires.room.small _ (omega (arith, length-set c.args.table.now c.args.p.0 c.args.element))

pub loop-placed-preserved : goal.loop-placed-preserved
loop-placed-preserved g c =
    let plan = g.S.Scheme.plan c.args.self.now.inner.now in
    let sound = g.met.S.Scheme.sound c.args.self.now.inner.now in
    let n = c.args.self.now.events.count in
    let w = c.loop-placed.invariant in
    let given = rw (w.inner, w.events) at c.in-Some.ensures.steps.1.1 in
    let at = placed_at plan sound n _ _ _ _ _ c.in-Some.placed w.walk given c.requires.room.small in
    record {
      inner = c.in-Some.ensures.steps.0 ∙ w.inner;
      events = c.in-Some.ensures.steps.1.0 ∙ w.events;
      steps = w.steps + 1;
      walk = placed_next plan sound n _ _ _ _ _ c.in-Some.placed w.walk given;
      renewed = renewed_more g.T.Semigroup.op n c.args.p.0 (layout_step plan n (exponent n)) w.steps n _ c.loop-placed.table _ (omega arith) w.renewed
          (rw (placed_is plan sound n _ _ _ _ _ c.in-Some.placed w.walk given, at) at c.update_step.ensures);
    }

pub returns : goal.returns
returns g c =
    let plan = g.S.Scheme.plan c.args.self.now.inner.now in
    let n = c.args.self.now.events.count in
    let w = c.loop-placed.invariant in
    let end = at_end plan.child _ _ _ w.walk.step c.in-None.ensures.steps.1.1.0 in
    layer_renewed g.T.Semigroup.op n c.args.p.0 c.args.element c.requires.event _ c.args.table.now c.loop-placed.table (omega arith) (layer_plan plan) refl (rw end at w.renewed)
