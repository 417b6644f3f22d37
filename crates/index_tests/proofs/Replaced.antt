-- What a caller concludes from a history of an update and a query.
use Rattle.std.proofs.Common.{◌≡◌, ℕ, ◌+◌, ◌≤◌, cond, ◌&&◌, leb, List, [], ◌∷◌, take, set, Some, None, Ok, Err, Result, sym, arith}
use Rattle.std.proofs.lemmas.Bool.{le-leb}
use Rattle.std.specs.Result.{result_ok}
use Rattle.semigroup.specs.Product.{over}
use Rattle.scheme.specs.Plan.{Plan}
use Rattle.scheme.specs.declared.Piece.{Piece}
use Rattle.scheme.specs.declared.Answer.{Answer}
use Rattle.basic_schemes.specs.FlatPlan.{flat_plan}
use Rattle.index.specs.Refusals.{table_refusal, run_refusal}
use Rattle.index.specs.Calls.{Queried, Updated}
use Rattle.index.specs.History.{query, update, answered, updated, none, queries, updates, becomes, Lasting}
use Rattle.index.proofs.Refusing.{table_room, run_passed}

-- what was granted is the result's value
pub granted : {X E : Type 0} (result : Result X E) (x : X) → Some x ≡ result_ok result → result ≡ Ok x
granted (Ok y) x e = cc
granted (Err fault) x e = cc

-- an update and then a query, each granted, are a history: the answer is the product of the list as updated
pub answer_updated : {A : Type 0} (op : A → A → A) (plan : Plan) (n : ℕ) (before table next : List A) (p i j : ℕ) (x : A) (trace trace' : List Piece) (answer : Answer A) → Lasting op plan n before table
    → Updated op plan n table p x (Ok tt) next → Queried op plan n next i j trace (Ok answer) trace' → over op (becomes n (take n before) (update p x)) i (j + 1) ≡ Some answer.value
answer_updated op plan n before table next p i j x trace trace' answer law u q =
    (law.always (update p x ∷ query i j trace ∷ []) (updated (Ok tt) ∷ answered (Ok answer) trace' ∷ []) next
    (updates {next = next} {p = p} {x = x} {reply = Ok tt} u (queries {i = i} {j = j} {trace = trace} {trace' = trace'} {reply = Ok answer} q none))
    ).faithful.1.0.1.value

-- with three events, the checks passed and the model list's product is the answer
pub middle_replaced : {A : Type 0} (op : A → A → A) (n room traced : ℕ) (entry : List A) (middle x : A) → n ≡ 3 → table_refusal flat_plan n room ≡ None → run_refusal flat_plan n 0 2 traced ≡ None
    → over op (becomes n (take n entry) (update 1 middle)) 0 3 ≡ Some x
    → Some x ≡ cond (leb 6 room && leb 1 traced) (over op (set (take 3 entry) 1 middle) 0 3) None
middle_replaced op n room traced entry middle x three table run product =
    let fits : (flat_plan.part n).size ≤ room = (table_room flat_plan n room (omega arith) (omega arith) table).fits in
    let cells : 6 ≤ room = rw three at fits in
    let pieces : 1 ≤ traced = (run_passed flat_plan n 0 2 traced run).2 in
    rw (le-leb 6 room cells, le-leb 1 traced pieces) (sym (rw three at product))
