use Rattle.std.proofs.Common.{refl, arith}
use Rattle.scheme.proofs.Exponents.{exponent_least}
use Rattle.scheme.proofs.exponent_of.Goals as goal

pub returns : goal.returns
returns c = simp c.saturating_sub.ensures (record { value = refl; least = exponent_least c.args.n (omega arith) })
