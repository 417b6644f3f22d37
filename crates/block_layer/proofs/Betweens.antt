-- The children strictly between those of two events of one parent.
use Rattle.std.proofs.Common.{◌≡◌, ℕ, ◌+◌, ◌^◌, ◌<◌, ◌≤◌, [], length, arith}
use Rattle.std.proofs.lemmas.Bool.{lt-ltb, le-ltb}
use Rattle.scheme.specs.Plan.{Plan, Sound}
use Rattle.scheme.specs.declared.events.EventRun.{EventRun}
use Rattle.scheme.proofs.Covering.{covers_length}
use Rattle.layer_parts.specs.Layout.{child_holding, between}
use Rattle.block_layer.specs.Steps.{BetweenRun}

pub between_none : (plan : Plan) (n wide w i j : ℕ) → child_holding wide w j ≤ child_holding wide w i + 1 → between plan n wide w i j ≡ []
between_none plan n wide w i j none = rw (le-ltb (child_holding wide w i + 1) (child_holding wide w j) none)

-- the inner scheme's pieces for them are those of their run
pub between_is : (plan : Plan) (n e f i j : ℕ) (run : EventRun) → BetweenRun n e f i j run → between plan n (2 ^ e) (2 ^ f) i j ≡ plan.pieces run.events.count run.first.0 (run.last.0 + 1)
between_is plan n e f i j run b =
    let some : child_holding (2 ^ e) (2 ^ f) i + 1 < child_holding (2 ^ e) (2 ^ f) j = omega (arith, b.first, b.last, run.lies.rises) in
    rw (lt-ltb (child_holding (2 ^ e) (2 ^ f) i + 1) (child_holding (2 ^ e) (2 ^ f) j) some) (rw (b.children, b.first, b.last))

-- a run has no more pieces than an index has events
pub pieces_few : (plan : Plan) → Sound plan → (run : EventRun) → length (plan.pieces run.events.count run.first.0 (run.last.0 + 1)) ≤ 65536
pieces_few plan sound run =
    let n = run.events.count in
    let some = run.events.counted.some in
    let few = run.events.counted.few in
    let lies = run.lies in
    omega (arith, covers_length n (plan.part n) (sound.within n some few) run.first.0 (run.last.0 + 1) (plan.pieces n run.first.0 (run.last.0 + 1)) (sound.covered n run.first.0 (run.last.0 + 1) few (omega arith) (omega arith)))
