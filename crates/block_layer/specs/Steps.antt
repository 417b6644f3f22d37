-- What the layer's calls ask of a step, of a parent and of the step in which two events part.
use Rattle.std.specs.Prelude.{◌≡◌, ℕ, ◌+◌, ◌-◌, ◌*◌, ◌/◌, ◌^◌, ◌<◌, ◌≤◌, cond, List, Some, ◌==◌}
use Rattle.std.specs.List.{slice_get}
use Rattle.scheme.specs.Plan.{Plan}
use Rattle.scheme.specs.Calls.{capped}
use Rattle.scheme.specs.Exponent.{exponent}
use Rattle.scheme.specs.declared.Piece.{Piece}
use Rattle.scheme.specs.declared.events.EventRun.{EventRun}
use Rattle.layer_parts.specs.Parts.{inner_tables, count_of_children, step_part}
use Rattle.layer_parts.specs.Layout.{exponent_at, step_of_parting, layout_steps, child_holding}

-- n cells past the items of a table with room for them
pub record RowFits (n at room : ℕ) : Type 0 where
  pub past : n ≤ at
  pub fits : at + n ≤ room

-- a step from parents of 2^e of n events to children of 2^f, whose cells begin at `at`, past the items of a table with room
-- for them
pub record StepFits (plan : Plan) (n e f at room : ℕ) : Type 0 where
  pub past : n ≤ at
  pub small : at + (step_part plan.part n (2 ^ e) (2 ^ f)).size < 2 ^ 40
  pub fits : at + (step_part plan.part n (2 ^ e) (2 ^ f)).size ≤ room

-- the cells of one inner table of a parent with all its children, none if there is no such parent
abbrev pub cells_of_whole : (plan : Plan) (e f k : ℕ) → ℕ
cells_of_whole plan e f k = cond (k == 0) 0 (capped (plan.part (2 ^ (e - f))).size)

-- the parent of p in a step whose cells begin at `at`: its first event, its children, and where its inner table begins, which
-- lies past the prefix cells and the suffix cells and within the step
pub record ParentOf (plan : Plan) (n e f at p start children cells : ℕ) : Type 0 where
  pub begins : start ≡ p / 2 ^ e * 2 ^ e
  pub counted : children ≡ count_of_children n (p / 2 ^ e * 2 ^ e) (2 ^ e) (2 ^ f)
  pub placed : cells ≡ at + n + n + (inner_tables plan.part n (2 ^ e) (2 ^ f) (p / 2 ^ e)).size
  pub past : at + n + n ≤ cells
  pub within : cells + (plan.part children).size ≤ at + (step_part plan.part n (2 ^ e) (2 ^ f)).size

-- the step of the layout in which i and j part has parents of 2^e events and children of 2^f
pub record Parting (plan : Plan) (n i j e f : ℕ) : Type 0 where
  pub upper : e ≡ exponent_at plan.child (exponent n) (step_of_parting plan.child (exponent n) i j)
  pub lower : f ≡ exponent_at plan.child (exponent n) (step_of_parting plan.child (exponent n) i j + 1)

-- where the cells of that step begin
abbrev pub parting_start : (plan : Plan) (n i j : ℕ) → ℕ
parting_start plan n i j = n + (layout_steps plan n (exponent n) (step_of_parting plan.child (exponent n) i j)).size

-- the run of the children strictly between those of i and of j, as events of the inner table of their parent
pub record BetweenRun (n e f i j : ℕ) (run : EventRun) : Type 0 where
  pub children : run.events.count ≡ count_of_children n (i / 2 ^ e * 2 ^ e) (2 ^ e) (2 ^ f)
  pub first : run.first.0 ≡ child_holding (2 ^ e) (2 ^ f) i + 1
  pub last : run.last.0 + 1 ≡ child_holding (2 ^ e) (2 ^ f) j

-- a piece of an inner table with fewer than 2^40 cells, over children of the parent that begins at `start`
pub record InnerPiece (start w : ℕ) (piece : Piece) : Type 0 where
  pub cell_low : piece.cell.0 < 2 ^ 40
  pub first_low : piece.first.0 < 65536
  pub last_low : piece.last.0 < 65536
  pub begins : start + piece.first.0 * w < 65536

-- all pieces are such
abbrev pub InnerPieces : (start w : ℕ) (pieces : List Piece) → Type 0
InnerPieces start w pieces = (k : ℕ) (piece : Piece) → slice_get pieces k ≡ Some piece → InnerPiece start w piece
