use Rattle.decimal.proofs.Puts.{placed_joined}
use Rattle.decimal.proofs.Tuple2Text.put.Goals as goal

pub returns-clause-written : goal.returns-clause-written
returns-clause-written g c = placed_joined _ _ _ _ _ _ _ _ c.put-2.ensures.written c.put.ensures.written c.in_ok-next.ensures.end c.in_ok-end.ensures.place
