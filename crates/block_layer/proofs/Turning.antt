-- Pieces of an inner table, turned one after the other.
use Rattle.std.proofs.Common.{◌≡◌, ℕ, zero, suc, ◌+◌, ◌^◌, ◌<◌, ◌≤◌, List, [], ◌∷◌, map, length, take, set, Some, Option, sym, refl, ap, ◌∙◌, zero-add, arith, length-take}
use borrow.Rule.Slice.PartMut.{put_mid}
use Rattle.std.specs.List.{slice_get}
use Rattle.scheme.specs.Plan.{Part, Covers, done, goes, Within}
use Rattle.scheme.specs.Table.{Written}
use Rattle.scheme.specs.Calls.{Drawn, piece_of}
use Rattle.scheme.specs.declared.Piece.{Piece}
use Rattle.scheme.specs.declared.Answer.{Answer}
use Rattle.std.proofs.lemmas.List.{length-take-le}
use Rattle.semigroup.proofs.Places.{nth_take}
use Rattle.scheme.proofs.Writes.{written_more, written_as, written_part}
use Rattle.scheme.proofs.Standing.{nth_below}
use Rattle.layer_parts.specs.Parts.{Children}
use Rattle.layer_parts.specs.Writes.{piece_in_layer, outer_at}
use Rattle.layer_parts.proofs.Blocks.{row_before}
use Rattle.block_layer.specs.Steps.{InnerPiece, InnerPieces}

-- one piece more
pub turn_more : (n at start w k : ℕ) (before t : List Piece) (piece turned : Piece) → k < length t → Written (λ i. outer_at n at start w (slice_get before i)) k 0 before t
    → slice_get before k ≡ Some piece → turned ≡ piece_in_layer n at start w piece → Written (λ i. outer_at n at start w (slice_get before i)) (k + 1) 0 before (set t k turned)
turn_more n at start w k before t piece turned room f read is =
    let value : ℕ → Option Piece = λ i. outer_at n at start w (slice_get before i) in
    let here : value k ≡ Some turned = ap (outer_at n at start w) read ∙ ap Some (sym is) in
    let more = written_more value 0 before k t turned f (omega arith) here in
    let place : 0 + k ≡ k = omega arith in
    record { holds = λ c h. (rw place at more.holds) c h; below = λ c h. absurd (omega arith); above = λ c h. (rw place at more.above) c h }

-- ---- the pieces that an inner query traced

piece_at : (p : Part) (i j : ℕ) (cs : List ℕ) → Covers p i j cs → (k : ℕ) → k < length cs → (c : ℕ) × (slice_get (map (piece_of p) cs) k ≡ Some (piece_of p c)) × (c < p.size)
piece_at p i j [] done k h = absurd (omega arith)
piece_at p i j (c ∷ cs) (goes l e rest) zero h = (c, refl, l)
piece_at p i j (c ∷ cs) (goes l e rest) (suc k) h = piece_at p (p.span c).to j cs rest k (omega arith)

inner_piece : (n start w m : ℕ) → Children n start w m → (p : Part) → Within m p → p.size < 2 ^ 40 → m ≤ 65536 → (c : ℕ) → c < p.size → InnerPiece start w (piece_of p c)
inner_piece n start w m kids p within small few c h =
    let s = within c h in
    record {
      cell_low = omega arith;
      first_low = omega arith;
      last_low = omega arith;
      begins = omega (arith, row_before (p.span c).from m w (omega arith), kids.last, kids.few);
    }

-- those that an answer took from an inner table are pieces of it
pub drawn_pieces : {A : Type 0} (op : A → A → A) (n start w m : ℕ) → Children n start w m → (p : Part) → Within m p → p.size < 2 ^ 40 → m ≤ 65536
    → (i j : ℕ) (cs : List ℕ) → Covers p i j cs → (table : List A) (before t : List Piece) (answer : Answer A) → Drawn op p cs table before t answer → InnerPieces start w (take (answer.combinations + 1) t)
drawn_pieces op n start w m kids p within small few i j cs cover table before t answer d k piece read =
    let count = d.counted in
    let low : k < answer.combinations + 1 = omega (arith, nth_below (take (answer.combinations + 1) t) k piece read, length-take-le' (answer.combinations + 1) t) in
    let found = piece_at p i j cs cover k (omega arith) in
    let held : slice_get t k ≡ slice_get (map (piece_of p) cs) k = rw zero-add at (d.traced.holds k (omega arith)) in
    let same-place : slice_get (take (answer.combinations + 1) t) k ≡ slice_get t k = nth_take (answer.combinations + 1) t k low in
    let at = found.1 in
    let same : piece_of p found.0 ≡ piece = cc in
    rw (← same) (inner_piece n start w m kids p within small few found.0 found.2)
  where
    length-take-le' : {A : Type 0} (m : ℕ) (xs : List A) → length (take m xs) ≤ m
    length-take-le' m xs = simp length-take (omega arith)

-- turned in the trace
pub turned_in : (n at start w count : ℕ) (t ys : List Piece) → count ≤ length t → length ys ≡ length (take count t)
    → Written (λ k. outer_at n at start w (slice_get (take count t) k)) (length (take count t)) 0 (take count t) ys
    → Written (λ k. outer_at n at start w (slice_get t (0 + k))) count 0 t (put_mid 0 count t ys)
turned_in n at start w count t ys room kept f =
    let size : length (take count t) ≡ count = length-take-le count t room in
    written_as _ _ count 0 t _ (λ c h. rw zero-add (ap (outer_at n at start w) (nth_take count t c h))) (written_part _ count 0 count t ys (rw size at f) (omega arith) (omega arith) kept)
