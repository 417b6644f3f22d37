use Rattle.std.proofs.Common.{◌≡◌, arith}
use Rattle.basic_schemes.specs.FlatLayout.{cells_enough}
use Rattle.basic_schemes.proofs.FlatUpdates.{renewing_none, renewing_more, flat_renewed}
use Rattle.basic_schemes.proofs.flat.FlatScheme.update.Goals as goal

pub loop-gap-init : goal.loop-gap-init
loop-gap-init g c = renewing_none g.T.Semigroup.op c.args.events.count c.args.p.0 (omega arith) _

pub loop-gap-preserved : goal.loop-gap-preserved
loop-gap-preserved g c = renewing_more g.T.Semigroup.op c.args.events.count c.args.p.0 (omega arith) c.loop-gap.gap _ _ _ c.loop-gap.table _ (omega arith) (omega arith) c.loop-gap.invariant c.refresh.ensures.redone (omega arith) (omega arith)

pub returns : goal.returns
returns g c =
    let e : c.loop-gap.gap ≡ c.args.events.count = omega (arith, c.loop-gap.auto.gap-end (omega arith)) in
    record {
      renewed = flat_renewed g.T.Semigroup.op c.args.events.count c.args.p.0 (omega arith) c.args.element c.args.table.now c.loop-gap.table
          (omega (arith, cells_enough c.args.events.count)) (rw e at c.loop-gap.invariant);
    }
