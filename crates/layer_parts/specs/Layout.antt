-- The plan of a layer of blocks over another scheme's plan. A layout is a falling row of exponents, each followed by the
-- child exponent that the inner scheme tells for it, down to 0; each two that follow one another are a step, whose parents
-- have 2^e events and whose children 2^f.
use Rattle.std.specs.Prelude.{◌≡◌, ℕ, zero, suc, ◌+◌, ◌-◌, ◌*◌, ◌/◌, ◌%◌, ◌^◌, ◌<◌, cond, List, [], ◌∷◌, ◌++◌, map, ◌==◌, nat_lt}
use Rattle.scheme.specs.Plan.{Part, Plan}
use Rattle.scheme.specs.Exponent.{exponent}
use Rattle.layer_parts.specs.Parts.{beside, laid, items, Widths, count_of_children, inner_tables, step_part}

-- ---- layouts

-- the exponent at place s, from 0, of the layout from e
abbrev pub exponent_at : (child : ℕ → ℕ) (e s : ℕ) → ℕ
exponent_at child e zero = e
exponent_at child e (suc s) = child (exponent_at child e s)

-- the number of steps from e down to 0, of which at most `most` are counted
abbrev pub steps_within : (child : ℕ → ℕ) (most e : ℕ) → ℕ
steps_within child zero e = 0
steps_within child (suc most) e = cond (e == 0) 0 (1 + steps_within child most (child e))

-- the number of steps of the layout from e; exponents fall, so there are no more than e
abbrev pub count_of_steps : (child : ℕ → ℕ) (e : ℕ) → ℕ
count_of_steps child e = steps_within child e e

-- the first step of the layout from e, of at most `most`, that has i and j in two children
abbrev pub parting_within : (child : ℕ → ℕ) (most e i j : ℕ) → ℕ
parting_within child zero e i j = 0
parting_within child (suc most) e i j = cond (i / 2 ^ child e == j / 2 ^ child e) (1 + parting_within child most (child e) i j) 0

-- that step, of all
abbrev pub step_of_parting : (child : ℕ → ℕ) (e i j : ℕ) → ℕ
step_of_parting child e i j = parting_within child e e i j

-- ---- cells

-- the cells of step s of the layout from e
abbrev pub layout_step : (inner : Plan) (n e s : ℕ) → Part
layout_step inner n e s = step_part inner.part n (2 ^ exponent_at inner.child e s) (2 ^ exponent_at inner.child e (s + 1))

-- the cells of the first s steps
abbrev pub layout_steps : (inner : Plan) (n e s : ℕ) → Part
layout_steps inner n e s = laid (layout_step inner n e) s

-- the items, and then the cells of each step
abbrev pub layer_part : (inner : Plan) (n : ℕ) → Part
layer_part inner n = beside (items n) (layout_steps inner n (exponent n) (count_of_steps inner.child (exponent n)))

-- ---- pieces

-- which child of its parent p is in
abbrev pub child_holding : (wide w p : ℕ) → ℕ
child_holding wide w p = p % wide / w

-- events i < j of one parent that are in two children
pub record Apart (n wide w i j : ℕ) : Type 0 where
  pub widths : Widths n wide w
  pub below : j < n
  pub one_parent : i / wide ≡ j / wide
  pub two_children : i / w < j / w

-- the inner scheme's pieces for the children strictly between those of i and of j, if there are any
abbrev pub between : (inner : Plan) (n wide w i j : ℕ) → List ℕ
between inner n wide w i j = cond (nat_lt (child_holding wide w i + 1) (child_holding wide w j))
    (inner.pieces (count_of_children n (i / wide * wide) wide w) (child_holding wide w i + 1) (child_holding wide w j))
    []

-- where the inner table of i's parent begins among the cells of a step
abbrev pub inner_start : (inner : Plan) (n wide w i : ℕ) → ℕ
inner_start inner n wide w i = n + n + (inner_tables inner.part n wide w (i / wide)).size

-- cells of a part that begins at `at`, as cells of the whole
abbrev pub moved : (at : ℕ) (cells : List ℕ) → List ℕ
moved at cells = map (λ c. at + c) cells

-- the cells of a step that answer the run from i to j, both in it, in two children of one parent: i's suffix cell, the
-- pieces between, and j's prefix cell
abbrev pub step_pieces : (inner : Plan) (n wide w i j : ℕ) → List ℕ
step_pieces inner n wide w i j = (n + i) ∷ (moved (inner_start inner n wide w i) (between inner n wide w i j) ++ (j ∷ []))

-- the cells that answer the run from i to j, both in it: the item, or those of the one step in which i and j are in one
-- parent and in two children
abbrev pub layer_pieces : (inner : Plan) (n i j : ℕ) → List ℕ
layer_pieces inner n i j =
    let e = exponent n in
    let s = step_of_parting inner.child e i j in
    cond (i == j) (i ∷ [])
    (moved (n + (layout_steps inner n e s).size) (step_pieces inner n (2 ^ exponent_at inner.child e s) (2 ^ exponent_at inner.child e (s + 1)) i j))

-- two pieces more than the inner scheme; the children of blocks of 2^e events have 2^⌈log₂ d⌉, d the number of steps from e
abbrev pub layer_plan : (inner : Plan) → Plan
layer_plan inner = record {
  part = layer_part inner;
  pieces = λ n i j. layer_pieces inner n i (j - 1);
  budget = inner.budget + 2;
  child = λ e. exponent (count_of_steps inner.child e);
}
