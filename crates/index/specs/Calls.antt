-- What a query and an update do: on any table, and on a table that stands for a list.
use Rattle.std.specs.Prelude.{◌≡◌, ℕ, ◌+◌, ◌^◌, ◌<◌, ◌≤◌, List, length, Some, None, Ok, Err, Option, Result, slice_set}
use Rattle.std.specs.List.{slice_get}
use Rattle.semigroup.specs.Product.{over}
use Rattle.scheme.specs.Plan.{Plan, Covers}
use Rattle.scheme.specs.Table.{Stands}
use Rattle.scheme.specs.Calls.{Drawn, Renewed}
use Rattle.scheme.specs.declared.Piece.{Piece}
use Rattle.scheme.specs.declared.Answer.{Answer}
use Rattle.index.specs.declared.fault.IndexFault.{IndexFault}
use Rattle.index.specs.Refusals.{Refusal, refusal_of, query_refusal, update_refusal, run_refusal, item_refusal}

-- the refusal that is due was made, and the slice is as it was
pub record Denied {X : Type 0} (due : Option Refusal) (fault : IndexFault) (was is : List X) : Type 0 where
  pub reason : due ≡ Some (refusal_of fault)
  pub unchanged : is ≡ was

-- ---- on any table

-- a query of the run from i to j is refused, or the pieces' cells are combined, whatever they hold
abbrev pub Queried : {A : Type 0} (op : A → A → A) (plan : Plan) (n : ℕ) (table : List A) (i j : ℕ) (trace : List Piece) (reply : Result (Answer A) IndexFault) (trace' : List Piece) → Type 0
Queried op plan n table i j trace (Ok answer) trace' =
    (query_refusal plan n (length table) i j (length trace) ≡ None) × Drawn op (plan.part n) (plan.pieces n i (j + 1)) table trace trace' answer
Queried op plan n table i j trace (Err fault) trace' = Denied (query_refusal plan n (length table) i j (length trace)) fault trace trace'

-- an update of item p to x is refused, or made as far as that is fixed
abbrev pub Updated : {A : Type 0} (op : A → A → A) (plan : Plan) (n : ℕ) (table : List A) (p : ℕ) (x : A) (reply : Result (Unit {0}) IndexFault) (table' : List A) → Type 0
Updated op plan n table p x (Ok _) table' = (update_refusal plan n (length table) p ≡ None) × Renewed op plan n p x table table'
Updated op plan n table p x (Err fault) table' = Denied (update_refusal plan n (length table) p) fault table table'

-- ---- on a table that stands for a list

-- a granted query: the answer is the product of the list's items from i to j; the pieces follow one another from i to j and are no more
-- than the budget; what they hold combines to the answer with one combination fewer; the trace lists them, and is as it was past them
pub record Granted {A : Type 0} (op : A → A → A) (plan : Plan) (n : ℕ) (items table : List A) (i j : ℕ) (trace trace' : List Piece) (answer : Answer A) : Type 0 where
  pub value : over op items i (j + 1) ≡ Some answer.value
  pub covers : Covers (plan.part n) i (j + 1) (plan.pieces n i (j + 1))
  pub few : length (plan.pieces n i (j + 1)) ≤ plan.budget
  pub drawn : Drawn op (plan.part n) (plan.pieces n i (j + 1)) table trace trace' answer

-- a query is refused by 10 or 11, or granted
abbrev pub Answered : {A : Type 0} (op : A → A → A) (plan : Plan) (n : ℕ) (items table : List A) (i j : ℕ) (trace : List Piece) (reply : Result (Answer A) IndexFault) (trace' : List Piece) → Type 0
Answered op plan n items table i j trace (Ok answer) trace' = (run_refusal plan n i j (length trace) ≡ None) × Granted op plan n items table i j trace trace' answer
Answered op plan n items table i j trace (Err fault) trace' = Denied (run_refusal plan n i j (length trace)) fault trace trace'

-- so a query is, for every list that the table stands for, where fewer than 2^40 cells are told
abbrev pub AnsweredIfStanding : {A : Type 0} (op : A → A → A) (plan : Plan) (n : ℕ) (table : List A) (i j : ℕ) (trace : List Piece) (reply : Result (Answer A) IndexFault) (trace' : List Piece) → Type 0
AnsweredIfStanding {A} op plan n table i j trace reply trace' =
    (items : List A) → (plan.part n).size < 2 ^ 40 → Stands op plan n items table → Answered op plan n items table i j trace reply trace'

-- an update is refused by 10, or the table then stands for the list with x at p, and its cells past the plan's are as they were
abbrev pub Amended : {A : Type 0} (op : A → A → A) (plan : Plan) (n : ℕ) (items table : List A) (p : ℕ) (x : A) (reply : Result (Unit {0}) IndexFault) (table' : List A) → Type 0
Amended op plan n items table p x (Ok _) table' =
    (item_refusal n p ≡ None) × Stands op plan n (slice_set items p x) table' × ((c : ℕ) → (plan.part n).size ≤ c → slice_get table' c ≡ slice_get table c)
Amended op plan n items table p x (Err fault) table' = Denied (item_refusal n p) fault table table'

-- and so an update is, for every list that the table stands for
abbrev pub AmendedIfStanding : {A : Type 0} (op : A → A → A) (plan : Plan) (n : ℕ) (table : List A) (p : ℕ) (x : A) (reply : Result (Unit {0}) IndexFault) (table' : List A) → Type 0
AmendedIfStanding {A} op plan n table p x reply table' =
    (items : List A) → (plan.part n).size < 2 ^ 40 → Stands op plan n items table → Amended op plan n items table p x reply table'
