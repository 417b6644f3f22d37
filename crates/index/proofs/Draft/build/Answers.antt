use Rattle.std.proofs.Common.{length, arith}
use Rattle.index.proofs.Refusing.{table_room}
use Rattle.index.proofs.Histories.{filled_lasting}
use Rattle.index.proofs.Draft.build.Goals as goal

pub returns-clause-lasting : goal.returns-clause-lasting
returns-clause-lasting g c =
    let self = c.args.self in
    let plan = g.S.Scheme.plan self.scheme in
    let n = self.events.count in
    let sound = g.met.S.Scheme.sound self.scheme in
    let room = table_room plan n (length c.args.table.now) (omega arith) (omega arith) c.in_default.ensures.checked in
    let enough = sound.enough n (omega arith) (omega arith) in
    let small = room.small in
    let fits = room.fits in
    filled_lasting g.T.Semigroup.op g.met.T.Semigroup.associative plan sound n (omega arith) (omega arith) small c.args.table.now c.fill.new.table (omega arith) c.fill.ensures.filled
