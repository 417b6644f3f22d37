use Rattle.std.proofs.Common.{◌^◌, length, refl, ◌∙◌, arith}
use Rattle.std.proofs.lemmas.Option.{slice_get_read}
use Rattle.layer_parts.proofs.Blocks.{child_counted}
use Rattle.block_layer.proofs.Sizes.{widths, exponents}
use Rattle.block_layer.proofs.Updating.{inner_updated}
use Rattle.block_layer.proofs.cells.Layer.update_inner.Goals as goal

pub update-requires-clause-event : goal.update-requires-clause-event
update-requires-clause-event g c =
    let step = c.args.placed.step in
    omega (arith, child_counted c.args.self.now.events.count (2 ^ step.parents.e) (2 ^ step.children.e) c.args.p.0 (widths _ _ _ (exponents c.args.self.now.events step)) c.requires.event)

pub returns : goal.returns
returns g c =
    let step = c.args.placed.step in
    let t = c.args.table.now in
    inner_updated g.T.Semigroup.op g.met.T.Semigroup.associative (g.S.Scheme.plan c.args.self.now.inner.now) (g.met.S.Scheme.sound c.args.self.now.inner.now) c.args.self.now.events.count step.parents.e step.children.e c.args.placed.at c.args.p.0
    _ _ _ _ _ _ c.index-table-suffixes.result t c.update.new.table (exponents c.args.self.now.events step) c.requires.event c.parent_of-parent.ensures.parent (omega arith) (omega arith) c.update.auto.table
    (c.inner_event-child.ensures ∙ c.child_of.ensures) c.start.ensures.value (slice_get_read t (length t) _ _ refl (omega arith) (rw c.suffixes-suffixes.ensures at c.index-table-suffixes.is)) c.update.ensures.renewed
