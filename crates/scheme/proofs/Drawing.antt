-- Answers drawn from few cells.
use Rattle.std.proofs.Common.{◌≡◌, ℕ, ◌-◌, ◌≤◌, List, [], ◌∷◌, map, length, set, Some, sym, refl, ap, ◌∙◌, arith, length-set}
use Rattle.std.specs.List.{slice_get}
use Rattle.semigroup.specs.Product.{product}
use Rattle.scheme.specs.Plan.{Part}
use Rattle.scheme.specs.Table.{pick}
use Rattle.scheme.specs.Calls.{Drawn, piece_of}
use Rattle.scheme.specs.declared.Piece.{Piece}
use Rattle.scheme.proofs.Writes.{written_none, written_more}

-- the piece of a cell whose interval is i..m
pub piece_is : (p : Part) (c i m cell first last : ℕ) → p.span c ≡ record { from = i; to = m } → cell ≡ c → first ≡ i → last ≡ m - 1
    → record { cell = record { 0 = cell }; first = record { 0 = first }; last = record { 0 = last } } ≡ piece_of p c
piece_is p c i m cell first last span at begins ends = rw (at, begins, ends, span)

-- an answer drawn from one cell
pub drawn_one : {A : Type 0} (op : A → A → A) (p : Part) (c : ℕ) (table : List A) (trace : List Piece) (piece : Piece) (x : A) → 1 ≤ length trace
    → slice_get table c ≡ Some x → piece ≡ piece_of p c → Drawn op p (c ∷ []) table trace (set trace 0 piece) (record { value = x; combinations = 0 })
drawn_one op p c table trace piece x room held e =
    let value = slice_get (map (piece_of p) (c ∷ [])) in
    record {
      combined = ap (λ o. product op (pick o [])) held;
      counted = refl;
      traced = written_more value 0 trace 0 trace piece (written_none value 0 trace) (omega arith) (ap Some (sym e));
    }

-- an answer drawn from two cells
pub drawn_two : {A : Type 0} (op : A → A → A) (p : Part) (c d : ℕ) (table : List A) (trace : List Piece) (first second : Piece) (x y : A) → 2 ≤ length trace
    → slice_get table c ≡ Some x → slice_get table d ≡ Some y → first ≡ piece_of p c → second ≡ piece_of p d
    → Drawn op p (c ∷ d ∷ []) table trace (set (set trace 0 first) 1 second) (record { value = op x y; combinations = 1 })
drawn_two op p c d table trace first second x y room u v e f =
    let value = slice_get (map (piece_of p) (c ∷ d ∷ [])) in
    let one = written_more value 0 trace 0 trace first (written_none value 0 trace) (omega arith) (ap Some (sym e)) in
    record {
      combined = ap (λ o. product op (pick o (pick (slice_get table d) []))) u ∙ ap (λ o. product op (x ∷ pick o [])) v;
      counted = refl;
      traced = written_more value 0 trace 1 (set trace 0 first) second one (simp length-set (omega arith)) (ap Some (sym f));
    }
