use Rattle.basic_schemes.proofs.HalvingFills.{row_filled}
use Rattle.basic_schemes.proofs.halving.Row.fill.Goals as goal

pub returns : goal.returns
returns g c = row_filled g.T.Semigroup.op c.args.self.events.count c.args.self.halves.e c.args.table.now _ _ c.requires.past c.refresh_left.ensures c.refresh_right.ensures
