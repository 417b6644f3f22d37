-- What the calls of a scheme ask and do.
use Rattle.std.specs.Prelude.{◌≡◌, ℕ, ◌+◌, ◌-◌, ◌^◌, ◌<◌, ◌≤◌, min, List, map, length, take, Some, slice_set}
use Rattle.std.specs.List.{slice_get}
use Rattle.semigroup.specs.Product.{product}
use Rattle.scheme.specs.Plan.{Part, Plan, Contains, Misses}
use Rattle.scheme.specs.Table.{Written, due, AsBuilt, picked}
use Rattle.scheme.specs.declared.Piece.{Piece}
use Rattle.scheme.specs.declared.Answer.{Answer}

-- 2^40 stands for that number and all above it
abbrev pub capped : ℕ → ℕ
capped k = min (2 ^ 40) k

-- a number of events that an index can have
pub record Events (n : ℕ) : Type 0 where
  pub some : 0 < n
  pub few : n ≤ 65536

-- the run from i to j, both in it, of n events
pub record Run (n i j : ℕ) : Type 0 where
  pub few : n ≤ 65536
  pub rises : i ≤ j
  pub below : j < n

-- a table of `room` cells has room for the plan's, of which there are fewer than 2^40
pub record Room (plan : Plan) (n room : ℕ) : Type 0 where
  pub some : 0 < n
  pub few : n ≤ 65536
  pub small : (plan.part n).size < 2 ^ 40
  pub fits : (plan.part n).size ≤ room

-- a cell, with the first and the last event of its interval
abbrev pub piece_of : Part → ℕ → Piece
piece_of p c = record { cell = record { 0 = c }; first = record { 0 = (p.span c).from }; last = record { 0 = (p.span c).to - 1 } }

-- an answer drawn from cells, whatever they hold: they are combined left to right, with one combination fewer than cells;
-- the trace lists them from its start on, and is as it was past them
pub record Drawn {A : Type 0} (op : A → A → A) (p : Part) (cells : List ℕ) (table : List A) (before after : List Piece) (answer : Answer A) : Type 0 where
  pub combined : product op (picked table cells) ≡ Some answer.value
  pub counted : answer.combinations + 1 ≡ length cells
  pub traced : Written (slice_get (map (piece_of p) cells)) (length cells) 0 before after

-- what cell c, with p in its interval, holds after item p became x: its new product if the table was as built;
-- on any other table what it holds is not fixed, unless it is cell p
abbrev pub NotFixedUnlessBuilt : {A : Type 0} (op : A → A → A) (plan : Plan) (n p : ℕ) (x : A) (before after : List A) (c : ℕ) → Type 0
NotFixedUnlessBuilt op plan n p x before after c = AsBuilt op plan n before → slice_get after c ≡ due op (slice_set (take n before) p x) (plan.part n).span c

-- item p became x: cell p holds x, the cells with p in their interval are renewed, and all others are as they were
pub record Renewed {A : Type 0} (op : A → A → A) (plan : Plan) (n p : ℕ) (x : A) (before after : List A) : Type 0 where
  pub item : slice_get after p ≡ Some x
  pub containing : (c : ℕ) → c < (plan.part n).size → Contains ((plan.part n).span c) p → NotFixedUnlessBuilt op plan n p x before after c
  pub missing : (c : ℕ) → c < (plan.part n).size → Misses ((plan.part n).span c) p → slice_get after c ≡ slice_get before c
  pub past : (c : ℕ) → (plan.part n).size ≤ c → slice_get after c ≡ slice_get before c
