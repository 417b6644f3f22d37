use Rattle.std.proofs.Common.{◌≡◌, arith}
use Rattle.basic_schemes.proofs.FlatFills.{rows_items, rows_more, rows_filled}
use Rattle.basic_schemes.proofs.flat.FlatScheme.fill.Goals as goal

pub loop-gap-init : goal.loop-gap-init
loop-gap-init g c = rows_items g.T.Semigroup.op c.args.events.count c.args.table.now

pub loop-gap-preserved : goal.loop-gap-preserved
loop-gap-preserved g c = rows_more g.T.Semigroup.op c.args.events.count c.loop-gap.gap c.args.table.now c.loop-gap.table _ (omega arith) (omega arith) c.loop-gap.invariant c.refresh.ensures.redone

pub returns : goal.returns
returns g c =
    let e : c.loop-gap.gap ≡ c.args.events.count = omega (arith, c.loop-gap.auto.gap-end (omega arith)) in
    record { filled = rows_filled g.T.Semigroup.op c.args.events.count c.args.table.now c.loop-gap.table (omega arith) (rw e at c.loop-gap.invariant) }
