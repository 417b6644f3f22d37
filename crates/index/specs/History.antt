-- Whole histories of an index: any list of queries and updates, each given the table as the one before left it.
use Rattle.std.specs.Prelude.{◌≡◌, ℕ, ◌≤◌, cond, List, [], ◌∷◌, take, Result, nat_lt, slice_set}
use Rattle.std.specs.List.{slice_get}
use Rattle.scheme.specs.Plan.{Plan}
use Rattle.scheme.specs.Table.{Stands}
use Rattle.scheme.specs.declared.Piece.{Piece}
use Rattle.scheme.specs.declared.Answer.{Answer}
use Rattle.index.specs.declared.fault.IndexFault.{IndexFault}
use Rattle.index.specs.Refusals.{cells_told}
use Rattle.index.specs.Calls.{Queried, Updated, Answered, Amended}

-- a call: a query of the run from i to j with a trace to write, or an update of item p
pub data Call (A : Type 0) : Type 0 where
  query : (i j : ℕ) (trace : List Piece) → Call A
  update : (p : ℕ) (x : A) → Call A

-- what a call gives back: its result, and of a query the trace
pub data Reply (A : Type 0) : Type 0 where
  answered : Result (Answer A) IndexFault → List Piece → Reply A
  updated : Result (Unit {0}) IndexFault → Reply A

-- the calls, made on a table one after another, gave these replies and left that table. Each call did what it does on any table
pub data History {A : Type 0} (op : A → A → A) (plan : Plan) (n : ℕ) : List A → List (Call A) → List (Reply A) → List A → Type 0 where
  none : {table : List A} → History op plan n table [] [] table
  queries : {table end : List A} {i j : ℕ} {trace trace' : List Piece} {reply : Result (Answer A) IndexFault} {calls : List (Call A)} {replies : List (Reply A)}
      → Queried op plan n table i j trace reply trace' → History op plan n table calls replies end
      → History op plan n table (query i j trace ∷ calls) (answered reply trace' ∷ replies) end
  updates : {table next end : List A} {p : ℕ} {x : A} {reply : Result (Unit {0}) IndexFault} {calls : List (Call A)} {replies : List (Reply A)}
      → Updated op plan n table p x reply next → History op plan n next calls replies end
      → History op plan n table (update p x ∷ calls) (updated reply ∷ replies) end

-- the model list after a call: an update of one of its items puts the element in the item's place, and nothing else changes it
abbrev pub becomes : {A : Type 0} → ℕ → List A → Call A → List A
becomes n items (query i j trace) = items
becomes n items (update p x) = cond (nat_lt p n) (slice_set items p x) items

-- the model list after all calls
abbrev pub finally : {A : Type 0} → ℕ → List A → List (Call A) → List A
finally n items [] = items
finally n items (call ∷ calls) = finally n (becomes n items call) calls

-- along a history each reply is the one that the model list calls for, as list and table are at that call
abbrev pub Faithful : {A : Type 0} {op : A → A → A} {plan : Plan} {n : ℕ} {table end : List A} {calls : List (Call A)} {replies : List (Reply A)}
    → List A → History op plan n table calls replies end → Type 0
Faithful items none = Unit {0}
Faithful {A} {op} {plan} {n} items (queries {table = table} {i = i} {j = j} {trace = trace} {trace' = trace'} {reply = reply} step rest) =
    Answered op plan n items table i j trace reply trace' × Faithful items rest
Faithful {A} {op} {plan} {n} items (updates {table = table} {next = next} {p = p} {x = x} {reply = reply} step rest) =
    Amended op plan n items table p x reply next × Faithful (becomes n items (update p x)) rest

-- what holds after a history that began with the table that a build over `before` left, the items being the model list:
-- each reply was faithful, every cell holds its interval's product of the model list, and the cells past the plan's are as before the build
pub record Kept {A : Type 0} (op : A → A → A) (plan : Plan) (n : ℕ) (before : List A) {table end : List A} {calls : List (Call A)} {replies : List (Reply A)}
    (history : History op plan n table calls replies end) : Type 0 where
  pub faithful : Faithful (take n before) history
  pub stands : Stands op plan n (finally n (take n before) calls) end
  pub past : (c : ℕ) → (plan.part n).size ≤ c → slice_get end c ≡ slice_get before c

-- the law of an index built over `before` that left `table`: the cells told are the plan's, and every history keeps to the model list
pub record Lasting {A : Type 0} (op : A → A → A) (plan : Plan) (n : ℕ) (before table : List A) : Type 0 where
  pub told : cells_told plan n ≡ (plan.part n).size
  pub always : (calls : List (Call A)) (replies : List (Reply A)) (end : List A) (history : History op plan n table calls replies end) → Kept op plan n before history
