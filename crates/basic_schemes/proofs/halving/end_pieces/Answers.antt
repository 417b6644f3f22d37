use Rattle.std.proofs.Common.{◌≡◌, ℕ, ◌+◌, ◌*◌, ◌^◌, refl, ap, ◌∙◌, arith}
use Rattle.scheme.specs.Blocks.{start_of_block}
use Rattle.scheme.proofs.Drawing.{piece_is}
use Rattle.basic_schemes.specs.HalvingPlan.{row_of_parting, halving_plan}
use Rattle.basic_schemes.specs.HalvingLayout.{left_span, right_span}
use Rattle.basic_schemes.proofs.HalvingQueries.{end_below}
use Rattle.basic_schemes.proofs.halving.end_pieces.Goals as goal

pub returns : goal.returns
returns c =
    let n = c.args.run.events.count in
    let i = c.args.run.first.0 in
    let j = c.args.run.last.0 in
    let h = row_of_parting i j in
    let part = halving_plan.part n in
    let row = c.of_parting-row in
    let cell : (p : ℕ) → row.result.halves.e * row.result.events.count + p ≡ h * n + p = λ p. simp (row.ensures.value, row.ensures.events) in
    let first = c.cell_of.ensures ∙ cell i in
    let last = c.cell_of-2.ensures ∙ cell j in
    let middle : c.start-middle.result ≡ start_of_block (2 ^ h) j = c.start-middle.ensures.value ∙ ap (λ e. start_of_block (2 ^ e) j) row.ensures.value in
    let low = end_below n i j i (omega arith) (omega arith) (omega arith) (omega arith) in
    let high = end_below n i j j (omega arith) (omega arith) (omega arith) (omega arith) in
    record {
      left = piece_is part (h * n + i) i (start_of_block (2 ^ h) j) _ _ _ (left_span n i j (omega arith) (omega arith) (omega arith)) first refl (omega arith);
      right = piece_is part (h * n + j) (start_of_block (2 ^ h) j) (j + 1) _ _ _ (right_span n i j (omega arith) (omega arith) (omega arith)) last middle (omega arith);
      below = (omega arith, omega arith);
    }
