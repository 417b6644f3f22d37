use Rattle.std.proofs.Common.{◌≡◌, ◌^◌, take, arith}
use Rattle.std.proofs.lemmas.Nat.{pow_pos}
use Rattle.layer_parts.specs.Parts.{prefixes}
use Rattle.layer_parts.proofs.Rows.{redone_up, redone_items, prior_ready}
use Rattle.block_layer.proofs.rows.Row.refresh_prefixes.Goals as goal

pub loop-p-preserved : goal.loop-p-preserved
loop-p-preserved g c =
    let op = g.T.Semigroup.op in
    let before = c.args.table.now in
    let t = c.loop-p.table in
    let part = prefixes c.args.self.events.count (2 ^ c.args.self.block.e) in
    let same = redone_items op (take c.args.self.events.count before) part c.args.self.at _ before c.args.self.events.count c.args.first c.loop-p.p t (omega arith) c.loop-p.invariant in
    redone_up op (take c.args.self.events.count before) part c.args.self.at _ before c.args.first c.loop-p.p t c.prefix_cell-made.result (omega arith) (omega arith) c.loop-p.invariant
    (λ start. rw same at (c.prefix_cell-made.ensures (prior_ready op c.args.self.events.count (2 ^ c.args.self.block.e) c.args.self.at (pow_pos c.args.self.block.e) (omega arith) before t c.args.first c.loop-p.p (omega arith) c.loop-p.invariant start)))

pub returns : goal.returns
returns g c = let e : c.loop-p.p ≡ c.args.last = omega (arith, c.loop-p.auto.p-end (omega arith)) in rw e at c.loop-p.invariant
