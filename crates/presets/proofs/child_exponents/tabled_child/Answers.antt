use Rattle.std.proofs.Common.{◌∙◌, arith}
use lib.Count.{count_leading_zeros}
use Rattle.presets.proofs.Table.{entry_ruled}
use Rattle.presets.proofs.child_exponents.tabled_child.Goals as goal

-- the table is compared, entry by entry, with what the rule computes
pub returns : goal.returns
unfolding count_leading_zeros
returns c = record {
  ruled = c.from-2.ensures ∙ entry_ruled c.args.row c.from.result c.args.parents.blocks.e c.from.ensures (omega arith) (omega arith) (omega arith);
}
