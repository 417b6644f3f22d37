use Rattle.std.proofs.Common.{◌≡◌, ◌+◌, refl, ap, arith}
use Rattle.basic_schemes.specs.FlatPlan.{row_start}
use Rattle.basic_schemes.specs.FlatLayout.{row_none, cell_below}
use Rattle.basic_schemes.proofs.flat.cell_of.Goals as goal

pub returns-then-gap-eq0 : goal.returns-then-gap-eq0
returns-then-gap-eq0 c =
    let n = c.args.events.count in
    let e : c.args.first ≡ row_start n c.args.gap + c.args.first = omega (arith, ap (row_start n) c.if-gap-eq0.true, row_none n) in
    record { place = e; below = omega (arith, cell_below n c.args.gap c.args.first (omega arith)) }

pub returns : goal.returns
unfolding row_start
returns c = record { place = refl; below = cell_below c.args.events.count c.args.gap c.args.first (omega arith) }
