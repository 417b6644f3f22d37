use Rattle.basic_schemes.proofs.HalvingUpdates.{renewed_left, renewed_right}
use Rattle.basic_schemes.proofs.halving.Row.renew.Goals as goal

pub returns-then-is_left : goal.returns-then-is_left
returns-then-is_left g c =
    renewed_left g.T.Semigroup.op c.args.self.events.count c.args.p c.args.self.halves.e c.args.table.now c.refresh_left.new.table c.requires.event _
    c.start.ensures.value (c.is_left.ensures.left c.if-is_left.true) c.refresh_left.ensures

pub returns-else-is_left : goal.returns-else-is_left
returns-else-is_left g c =
    renewed_right g.T.Semigroup.op c.args.self.events.count c.args.p c.args.self.halves.e c.args.table.now c.refresh_right.new.table c.requires.event _
    c.end.ensures.value (c.is_left.ensures.right c.if-is_left.false) c.refresh_right.ensures
