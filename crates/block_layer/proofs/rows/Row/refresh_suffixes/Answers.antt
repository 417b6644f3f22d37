use Rattle.std.proofs.Common.{◌≡◌, ◌+◌, ◌-◌, ◌^◌, take, arith}
use Rattle.std.proofs.lemmas.Nat.{pow_pos}
use Rattle.layer_parts.specs.Parts.{suffixes}
use Rattle.layer_parts.proofs.Rows.{redone_down, redone_items, next_ready}
use Rattle.block_layer.proofs.rows.Row.refresh_suffixes.Goals as goal

pub loop-p-preserved : goal.loop-p-preserved
loop-p-preserved g c =
    let op = g.T.Semigroup.op in
    let before = c.args.table.now in
    let t = c.loop-p.table in
    let part = suffixes c.args.self.events.count (2 ^ c.args.self.block.e) in
    let p = c.loop-p.p - 1 in
    let next : c.loop-p.p ≡ p + 1 = omega arith in
    let inv = c.loop-p.invariant.1 in
    let same = redone_items op (take c.args.self.events.count before) part c.args.self.at _ before c.args.self.events.count c.loop-p.p c.args.last t (omega arith) inv in (
      omega arith,
      redone_down op (take c.args.self.events.count before) part c.args.self.at _ before c.loop-p.p p c.args.last t c.suffix_cell-made.result next (omega arith) (omega arith) inv
          (λ start. rw same at (c.suffix_cell-made.ensures (next_ready op c.args.self.events.count (2 ^ c.args.self.block.e) c.args.self.at (pow_pos c.args.self.block.e) (omega arith) before t p c.args.last (omega arith) (rw next at inv) start))),
    )
