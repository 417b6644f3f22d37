use Rattle.std.proofs.Common.{◌≡◌, arith}
use Rattle.basic_schemes.specs.HalvingPlan.{rows}
use Rattle.basic_schemes.specs.HalvingLayout.{cells_enough}
use Rattle.basic_schemes.proofs.HalvingUpdates.{renewing_more, halving_renewed}
use Rattle.basic_schemes.proofs.halving.HalvingScheme.update.Goals as goal

pub loop-h-preserved : goal.loop-h-preserved
loop-h-preserved g c = renewing_more g.T.Semigroup.op c.args.events.count c.args.p.0 (omega arith) c.loop-h.h _ c.loop-h.table _ (omega arith) c.loop-h.invariant c.renew.ensures

pub returns : goal.returns
returns g c =
    let n = c.args.events.count in
    let e : c.loop-h.h ≡ rows n = omega (arith, c.loop-h.auto.h-end (omega arith)) in
    record {
      renewed = halving_renewed g.T.Semigroup.op n c.args.p.0 (omega arith) c.args.element c.args.table.now c.loop-h.table
          (omega (arith, cells_enough n)) (rw e at c.loop-h.invariant);
    }
