use Rattle.std.proofs.Common.{arith}
use Rattle.std.proofs.lemmas.List.{length-take, length-set}
use Rattle.decimal.proofs.Digits.{length_step}
use Rattle.decimal.proofs.+write_digits.Goals as goal

pub write_digits-requires : goal.write_digits-requires
write_digits-requires t c = let step = length_step c.args.n (omega arith) (omega arith) in (omega arith, simp (length-take, length-set) (omega arith))
