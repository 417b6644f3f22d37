use Rattle.std.proofs.Common.{◌≡◌, ◌+◌, ◌-◌, ◌^◌, take, arith}
use Rattle.std.proofs.lemmas.Nat.{pow_pos}
use Rattle.scheme.specs.Blocks.{start_of_block, end_of_block}
use Rattle.layer_parts.specs.Parts.{prefixes, suffixes}
use Rattle.layer_parts.specs.Writes.{PriorHolds, NextHolds, Redone}
use Rattle.layer_parts.proofs.Rows.{prefixes_renewed, suffixes_renewed}
use Rattle.layer_parts.proofs.Renewing.{step_renewed}
use Rattle.block_layer.proofs.Sizes.{widths, exponents}
use Rattle.block_layer.proofs.cells.Layer.update_step.Goals as goal

pub returns : goal.returns
returns g c =
    let op = g.T.Semigroup.op in
    let n = c.args.self.now.events.count in
    let e = c.args.placed.step.parents.e in
    let f = c.args.placed.step.children.e in
    let at = c.args.placed.at in
    let p = c.args.p.0 in
    let t = c.args.table.now in
    let u = c.refresh_prefixes.new.table in
    let v = c.refresh_suffixes.new.table in
    let back : p + 1 - 1 ≡ p = omega arith in
    let first : Redone op (take n t) (prefixes n (2 ^ f)) at p (end_of_block n (2 ^ f) p) (PriorHolds op (take n t) n (2 ^ f) at p t) t u = rw (c.prefixes.ensures, c.end-end.ensures.value) at c.refresh_prefixes.ensures in
    let second : Redone op (take n u) (suffixes n (2 ^ f)) (at + n) (start_of_block (2 ^ f) p) (p + 1) (NextHolds op (take n u) n (2 ^ f) (at + n) p u) u v = rw (c.suffixes.ensures, c.start-start.ensures.value, back) at c.refresh_suffixes.ensures in
    step_renewed op g.met.T.Semigroup.associative (g.S.Scheme.plan c.args.self.now.inner.now) (g.met.S.Scheme.sound c.args.self.now.inner.now) n (2 ^ e) (2 ^ f) p (widths n e f (exponents c.args.self.now.events c.args.placed.step)) c.requires.event at t u v _ (omega arith)
    (prefixes_renewed op n (2 ^ f) at p (pow_pos f) c.requires.event t u first)
    (suffixes_renewed op n (2 ^ f) (at + n) p (pow_pos f) c.requires.event u v second)
    c.update_inner.ensures
