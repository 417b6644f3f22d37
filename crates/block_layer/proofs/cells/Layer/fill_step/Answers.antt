use Rattle.std.proofs.Common.{◌+◌, ◌^◌, take, refl, arith}
use Rattle.std.proofs.lemmas.Nat.{pow_pos}
use Rattle.scheme.proofs.Writes.{filled_holds}
use Rattle.layer_parts.specs.Parts.{prefixes, suffixes}
use Rattle.layer_parts.proofs.Rows.{redone_filled, prior_start, next_end}
use Rattle.layer_parts.proofs.Filling.{step_filled}
use Rattle.block_layer.proofs.cells.Layer.fill_step.Goals as goal

pub fill_inners-requires-clause-suffixes : goal.fill_inners-requires-clause-suffixes
fill_inners-requires-clause-suffixes g c =
    let op = g.T.Semigroup.op in
    let n = c.args.self.now.events.count in
    let at = c.args.placed.at + n in
    let w = 2 ^ c.args.placed.step.children.e in
    let pos = pow_pos c.args.placed.step.children.e in
    let t = c.refresh_prefixes.new.table in
    let u = c.refresh_suffixes.new.table in
    filled_holds op n (suffixes n w) at t u (omega arith)
    (redone_filled op (take n t) (suffixes n w) at _ t n u refl (next_end op n w at pos (omega arith) t t c.args.self.now.events.counted.some) (rw c.suffixes.ensures at c.refresh_suffixes.ensures))

pub returns : goal.returns
returns g c =
    let op = g.T.Semigroup.op in
    let n = c.args.self.now.events.count in
    let at = c.args.placed.at in
    let w = 2 ^ c.args.placed.step.children.e in
    let pos = pow_pos c.args.placed.step.children.e in
    let before = c.args.table.now in
    let t = c.refresh_prefixes.new.table in
    let u = c.refresh_suffixes.new.table in
    step_filled op (g.S.Scheme.plan c.args.self.now.inner.now).part n (2 ^ c.args.placed.step.parents.e) w at before t u _ (omega arith)
    (redone_filled op (take n before) (prefixes n w) at _ before n t refl (prior_start op n w at pos (omega arith) before before) (rw c.prefixes.ensures at c.refresh_prefixes.ensures))
    (redone_filled op (take n t) (suffixes n w) (at + n) _ t n u refl (next_end op n w (at + n) pos (omega arith) t t c.args.self.now.events.counted.some) (rw c.suffixes.ensures at c.refresh_suffixes.ensures))
    c.fill_inners.ensures
