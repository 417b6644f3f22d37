use Rattle.std.proofs.Common.{arith}
use Rattle.basic_schemes.proofs.HalvingFills.{rows_items, rows_more}
use Rattle.basic_schemes.proofs.halving.HalvingScheme.fill.Goals as goal

pub loop-h-init : goal.loop-h-init
loop-h-init g c = rows_items g.T.Semigroup.op c.args.events.count c.args.table.now

pub loop-h-preserved : goal.loop-h-preserved
loop-h-preserved g c = rows_more g.T.Semigroup.op c.args.events.count c.loop-h.h c.args.table.now c.loop-h.table _ (omega arith) c.loop-h.invariant c.fill.ensures
