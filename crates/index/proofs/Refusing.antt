-- What follows where no refusal is due, and why a table that stands is never too short.
use Rattle.std.proofs.Common.{◌≡◌, ℕ, ◌+◌, ◌^◌, ◌<◌, ◌≤◌, Bool, true, false, cond, length, Some, None, Option, refl, ap, ◌∙◌, arith}
use Rattle.std.proofs.lemmas.Bool.{ltb-false, leb-true, leb-false, eqb-false, le-ltb, ne_eqb, or_parts, or_from, cond-false}
use Rattle.scheme.specs.Plan.{Plan}
use Rattle.scheme.specs.Calls.{Room}
use Rattle.index.specs.Refusals.{Refusal, first_of, cells_told, table_refusal, run_refusal, item_refusal}

-- where a check does not refuse, its condition is false, and the next check decides
passed : {X : Type 0} (b : Bool) (x : X) (later : Option X) → cond b (Some x) later ≡ None → (b ≡ false) × (later ≡ None)
passed true x later e = cc
passed false x later e = (refl, e)

-- where it refuses, its condition is true
stopped : {X : Type 0} (b : Bool) (x r : X) → cond b (Some x) None ≡ Some r → b ≡ true
stopped true x r e = refl
stopped false x r e = cc

pub stopped_first : (first later : Option Refusal) (r : Refusal) → first ≡ Some r → first_of first later ≡ Some r
stopped_first first later r e = ap (λ o. first_of o later) e

pub passes_both : (first later : Option Refusal) → first ≡ None → later ≡ None → first_of first later ≡ None
passes_both first later e f = ap (λ o. first_of o later) e ∙ f

pub both_passed : (first later : Option Refusal) → first_of first later ≡ None → (first ≡ None) × (later ≡ None)
both_passed None later e = (refl, e)
both_passed (Some r) later e = cc

-- a table that is not too short has room
pub table_room : (plan : Plan) (n room : ℕ) → 0 < n → n ≤ 65536 → table_refusal plan n room ≡ None → Room plan n room
table_room plan n room some few e =
    let parts = or_parts _ _ (passed _ _ _ e).0 in
    let short = ltb-false room (cells_told plan n) parts.1 in
    let small = eqb-false (cells_told plan n) (2 ^ 40) parts.0 in
    record { some = some; few = few; small = omega arith; fits = omega arith }

-- and the other way round
pub room_table : (plan : Plan) (n room : ℕ) → (plan.part n).size < 2 ^ 40 → (plan.part n).size ≤ room → table_refusal plan n room ≡ None
room_table plan n room small fits = cond-false _ _ _ (or_from _ _ (ne_eqb (cells_told plan n) (2 ^ 40) (λ e. omega arith)) (le-ltb room (cells_told plan n) (omega arith)))

-- a run that is not refused
pub run_passed : (plan : Plan) (n i j room : ℕ) → run_refusal plan n i j room ≡ None → (i ≤ j) × (j < n) × (length (plan.pieces n i (j + 1)) ≤ room)
run_passed plan n i j room e =
    let first = passed _ _ _ e in
    let parts = or_parts _ _ first.0 in
    let pieces = passed _ _ _ first.1 in
    (ltb-false j i parts.0, leb-false n j parts.1, ltb-false room (length (plan.pieces n i (j + 1))) pieces.0)

-- an event that is not refused
pub item_passed : (n p : ℕ) → item_refusal n p ≡ None → p < n
item_passed n p e = leb-false n p (passed _ _ _ e).0

-- an event that is refused
pub item_denied : (n p : ℕ) (r : Refusal) → item_refusal n p ≡ Some r → n ≤ p
item_denied n p r e = leb-true n p (stopped _ _ _ e)
