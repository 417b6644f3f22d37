use Rattle.std.proofs.Common.{◌≡◌, ◌-◌, arith}
use lib.Bits.{bit_xor}
use lib.Count.{count_leading_zeros}
use Rattle.basic_schemes.specs.HalvingPlan.{row_of_parting}
use Rattle.basic_schemes.specs.HalvingLayout.{leading_few, parted, parting_row_below, rows_few}
use Rattle.basic_schemes.proofs.halving.Row.of_parting.Goals as goal

pub overflow_sub-result : goal.overflow_sub-result
overflow_sub-result c = leading_few c.args.run.first.0 c.args.run.last.0 (omega arith) (omega arith)

pub invariant_of-result : goal.invariant_of-result
invariant_of-result c =
    let n = c.args.run.events.count in
    let low = parting_row_below n c.args.run.first.0 c.args.run.last.0 (omega arith) (omega arith) (omega arith) in
    let few = rows_few n (omega arith) (omega arith) in
    omega arith

pub returns-clause-parted : goal.returns-clause-parted
returns-clause-parted c =
    let i = c.args.run.first.0 in
    let j = c.args.run.last.0 in
    let e : 31 - count_leading_zeros 32 (bit_xor i j) ≡ row_of_parting i j = omega arith in
    rw e (parted i j (omega arith) (omega arith))
