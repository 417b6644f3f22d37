use Rattle.std.proofs.Common.{length, Ok, Err, refl, arith}
use Rattle.std.proofs.lemmas.Result.{err_from_is_err_and}
use Rattle.index.specs.Refusals.{table_refusal, item_refusal}
use Rattle.index.proofs.Refusing.{stopped_first, passes_both}
use Rattle.index.proofs.Histories.{update_amended}
use Rattle.index.proofs.Built.update.Goals as goal

pub returns-in_err-check_table-clause-standing : goal.returns-in_err-check_table-clause-standing
returns-in_err-check_table-clause-standing g c =
    let p = err_from_is_err_and c.from_residual.result c.from_residual.ensures.1 in
    let draft = c.args.self.now.draft in
    let plan = g.S.Scheme.plan draft.scheme in
    let n = draft.events.count in
    let table = c.args.table.now in
    rw (p.1, p.2) (λ items small s.
    update_amended g.T.Semigroup.op g.met.T.Semigroup.associative plan (g.met.S.Scheme.sound draft.scheme) n (omega arith) (omega arith) small
    items table c.args.p.0 c.args.element (Err c.in_err-check_table.field-0.0) table s (record {
      reason = stopped_first (table_refusal plan n (length table)) (item_refusal n c.args.p.0) _ c.in_err-check_table.ensures.checked;
      unchanged = refl;
    }))

pub returns-clause-standing : goal.returns-clause-standing
returns-clause-standing g c =
    let draft = c.args.self.now.draft in
    let plan = g.S.Scheme.plan draft.scheme in
    let n = draft.events.count in
    let table = c.args.table.now in
    λ items small s.
    update_amended g.T.Semigroup.op g.met.T.Semigroup.associative plan (g.met.S.Scheme.sound draft.scheme) n (omega arith) (omega arith) small
    items table c.args.p.0 c.args.element (Ok tt) c.update.new.table s
    (passes_both (table_refusal plan n (length table)) (item_refusal n c.args.p.0) c.in_ok-check_table.ensures.checked c.in_ok-check_event.ensures.checked, c.update.ensures.renewed)
