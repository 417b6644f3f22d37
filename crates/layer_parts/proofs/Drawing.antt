-- Answers drawn from an inner table and from the two cells beside it.
use Rattle.std.proofs.Common.{◌≡◌, ℕ, zero, suc, ◌+◌, ◌-◌, ◌*◌, ◌<◌, ◌≤◌, List, [], ◌∷◌, ◌++◌, map, length, take, drop, set, Some, None, Option, sym, refl, ap, ◌∙◌, add-zero, add_assoc, zero-add, one-add, arith, length-append, length-set}
use borrow.Rule.Slice.PartMut.{put_mid}
use Rattle.std.specs.List.{slice_get}
use Rattle.std.proofs.lemmas.List.{length-map}
use Rattle.semigroup.specs.Product.{product, joined}
use Rattle.semigroup.proofs.Places.{nth_take, nth_drop, nth_set_same, nth_left, nth_right}
use Rattle.semigroup.proofs.Products.{product_append}
use Rattle.scheme.specs.Plan.{Part, Covers, done, goes, Within}
use Rattle.scheme.specs.Table.{Written, pick, picked}
use Rattle.scheme.specs.Calls.{Drawn, piece_of}
use Rattle.scheme.specs.declared.Piece.{Piece}
use Rattle.scheme.specs.declared.Answer.{Answer}
use Rattle.scheme.proofs.Writes.{written_none, written_more, written_part, length_part}
use Rattle.layer_parts.specs.Parts.{LiftedAt, child_start, Children}
use Rattle.layer_parts.specs.Layout.{moved}
use Rattle.layer_parts.specs.Writes.{piece_in_layer, outer_at}
use Rattle.layer_parts.proofs.Blocks.{row_before}

-- ---- cells of a part, as cells of the whole

pub moved_append : (at : ℕ) (cs ds : List ℕ) → moved at (cs ++ ds) ≡ moved at cs ++ moved at ds
moved_append at [] ds = refl
moved_append at (c ∷ cs) ds = ap (λ v. (at + c) ∷ v) (moved_append at cs ds)

pub moved_moved : (at by : ℕ) (cs : List ℕ) → moved at (moved by cs) ≡ moved (at + by) cs
moved_moved at by [] = refl
moved_moved at by (c ∷ cs) = rw (add_assoc at by c) (ap (λ v. (at + (by + c)) ∷ v) (moved_moved at by cs))

pub length_moved : (at : ℕ) (cs : List ℕ) → length (moved at cs) ≡ length cs
length_moved at cs = length-map cs (λ c. at + c)

-- the cells of a part hold what they hold in the whole table
picked_part : {A : Type 0} (p : Part) (table : List A) (at len i j : ℕ) (cs : List ℕ) → p.size ≤ len → Covers p i j cs
    → picked (take len (drop at table)) cs ≡ picked table (moved at cs)
picked_part p table at len i j [] fits done = refl
picked_part p table at len i j (c ∷ cs) fits (goes h e rest) =
    let o : slice_get (take len (drop at table)) c ≡ slice_get table (at + c) = nth_take len (drop at table) c (omega arith) ∙ nth_drop at table c in
    ap (λ v. pick v (picked (take len (drop at table)) cs)) o ∙ ap (pick (slice_get table (at + c))) (picked_part p table at len (p.span c).to j cs fits rest)

-- ---- an inner table

module _ (n at start w m : ℕ) (kids : Children n start w m) (p outer : Part) (within : Within m p) (lift : LiftedAt n at start w p outer) where
  -- a piece of the inner table, turned, is one of the whole
  turned : (c : ℕ) → c < p.size → piece_in_layer n at start w (piece_of p c) ≡ piece_of outer (at + c)
  turned c h =
      let s = within c h in
      let last : (p.span c).to - 1 + 1 ≡ (p.span c).to = omega arith in
      let first : start + (p.span c).from * w ≡ child_start n start w (p.span c).from = omega (arith, row_before (p.span c).from m w (omega arith), kids.last) in
      let make : ℕ → Piece = λ v. record { cell = record { 0 = at + c }; first = record { 0 = v }; last = record { 0 = child_start n start w (p.span c).to - 1 } } in
      rw (lift c h, last) (ap make first)

  pub pieces_turned : (i j : ℕ) (cs : List ℕ) → Covers p i j cs → (k : ℕ) → outer_at n at start w (slice_get (map (piece_of p) cs) k) ≡ slice_get (map (piece_of outer) (moved at cs)) k
  pieces_turned i j [] done k = refl
  pieces_turned i j (c ∷ cs) (goes h e rest) zero = ap Some (turned c h)
  pieces_turned i j (c ∷ cs) (goes h e rest) (suc k) = pieces_turned (p.span c).to j cs rest k

  -- an answer drawn from the inner table, its trace turned
  pub inner_drawn : {A : Type 0} (op : A → A → A) (table : List A) (len i j : ℕ) (cs : List ℕ) (before t after : List Piece) (answer : Answer A) (count : ℕ)
      → p.size ≤ len → Covers p i j cs → Drawn op p cs (take len (drop at table)) before t answer → count ≡ length cs
      → Written (λ k. outer_at n at start w (slice_get t (0 + k))) count 0 t after → Drawn op outer (moved at cs) table before after answer
  inner_drawn op table len i j cs before t after answer count fits cover d is w' =
      let l = length_moved at cs in
      record {
        combined = rw (picked_part p table at len i j cs fits cover) at d.combined;
        counted = d.counted ∙ sym l;
        traced = record {
          holds = λ k h. w'.holds k (omega arith) ∙ ap (outer_at n at start w) (d.traced.holds k (omega arith)) ∙ pieces_turned i j cs cover k;
          below = λ k h. absurd (omega arith);
          above = λ k h. w'.above k (omega arith) ∙ d.traced.above k (omega arith);
        };
      }

-- ---- a first cell, others and a last one

pick_append : {A : Type 0} (o : Option A) (xs ys : List A) → pick o (xs ++ ys) ≡ pick o xs ++ ys
pick_append None xs ys = refl
pick_append (Some x) xs ys = refl

picked_append : {A : Type 0} (table : List A) (cs ds : List ℕ) → picked table (cs ++ ds) ≡ picked table cs ++ picked table ds
picked_append table [] ds = refl
picked_append table (c ∷ cs) ds = ap (pick (slice_get table c)) (picked_append table cs ds) ∙ pick_append (slice_get table c) (picked table cs) (picked table ds)

-- what they hold, combined
ends_product : {A : Type 0} (op : A → A → A) → ((a b c : A) → op (op a b) c ≡ op a (op b c)) → (table : List A) (f l : ℕ) (mid : List ℕ) (x y z : A)
    → slice_get table f ≡ Some x → slice_get table l ≡ Some z → product op (picked table mid) ≡ Some y → product op (picked table (f ∷ (mid ++ (l ∷ [])))) ≡ Some (op (op x y) z)
ends_product op assoc table f l mid x y z ef el em =
    let rest : product op (picked table (mid ++ (l ∷ []))) ≡ Some (op y z) =
    ap (product op) (picked_append table mid (l ∷ []) ∙ ap (λ o. picked table mid ++ pick o []) el) ∙ product_append op assoc (picked table mid) (z ∷ []) ∙ ap (λ o. joined op o (Some z)) em in
    ap (λ o. product op (pick o (picked table (mid ++ (l ∷ []))))) ef ∙ product_append op assoc (x ∷ []) (picked table (mid ++ (l ∷ [])))
    ∙ ap (joined op (Some x)) rest ∙ ap Some (sym (assoc x y z))

-- the trace of them
ends_traced : (f l : Piece) (mid before u : List Piece) → length mid + 2 ≤ length before → length u ≡ length before
    → Written (slice_get mid) (length mid) 1 (set before 0 f) u → Written (slice_get (f ∷ (mid ++ (l ∷ [])))) (length (f ∷ (mid ++ (l ∷ [])))) 0 before (set u (1 + length mid) l)
ends_traced f l mid before u room same w =
    let all = f ∷ (mid ++ (l ∷ [])) in
    let first : Written (slice_get all) 1 0 before (set before 0 f) = written_more (slice_get all) 0 before 0 before f (written_none (slice_get all) 0 before) (omega arith) refl in
    let both : Written (slice_get all) (1 + length mid) 0 before u = record {
      holds = λ c h. rw zero-add (at_front c h);
      below = λ c h. absurd (omega arith);
      above = λ c h. w.above c (omega arith) ∙ first.above c (omega arith);
    } in
    let last : slice_get all (1 + length mid) ≡ Some l = rw one-add (rw add-zero at (nth_right mid (l ∷ []) 0)) in
    let size : length all ≡ 1 + length mid + 1 = omega (arith, length-append mid (l ∷ [])) in
    let end = written_more (slice_get all) 0 before (1 + length mid) u l both (omega arith) last in
    rw size (rw zero-add at end)
  where
    at_front : (c : ℕ) → c < 1 + length mid → slice_get u c ≡ slice_get (f ∷ (mid ++ (l ∷ []))) c
    at_front zero h = w.below 0 (omega arith) ∙ nth_set_same before 0 f (omega arith)
    at_front (suc c) h = (rw one-add at (w.holds c (omega arith))) ∙ sym (nth_left mid (l ∷ []) c (omega arith))

map_ends : (p : Part) (f l : ℕ) (mid : List ℕ) → map (piece_of p) (f ∷ (mid ++ (l ∷ []))) ≡ piece_of p f ∷ (map (piece_of p) mid ++ (piece_of p l ∷ []))
map_ends p f l mid = ap (λ v. piece_of p f ∷ v) (along mid)
  where
    along : (cs : List ℕ) → map (piece_of p) (cs ++ (l ∷ [])) ≡ map (piece_of p) cs ++ (piece_of p l ∷ [])
    along [] = refl
    along (c ∷ cs) = ap (λ v. piece_of p c ∷ v) (along cs)

-- an answer drawn from a first cell, from the cells of another answer, and from a last cell
pub ends_drawn : {A : Type 0} (op : A → A → A) → ((a b c : A) → op (op a b) c ≡ op a (op b c)) → (p : Part) (table : List A) (f l k : ℕ) (mid : List ℕ) (first last : Piece)
    (before part : List Piece) (x z : A) (middle : Answer A) (place count : ℕ)
    → slice_get table f ≡ Some x → slice_get table l ≡ Some z → first ≡ piece_of p f → last ≡ piece_of p l → k ≡ length (set before 0 first) - 1
    → Drawn op p mid table (take k (drop 1 (set before 0 first))) part middle
    → length mid + 2 ≤ length before → length part ≡ length (take k (drop 1 (set before 0 first)))
    → place ≡ middle.combinations + 2 → count ≡ middle.combinations + 2
    → Drawn op p (f ∷ (mid ++ (l ∷ []))) table before (set (put_mid 1 k (set before 0 first) part) place last) (record { value = op (op x middle.value) z; combinations = count })
ends_drawn op assoc p table f l k mid first last before part x z middle place count ef el pf pl ek d room kept at_last counted =
    let n = length-set before 0 first in
    let e = d.counted in
    let pieces = map (piece_of p) mid in
    let size : length pieces ≡ length mid = length-map mid (piece_of p) in
    let w = written_part (slice_get pieces) (length pieces) 1 k (set before 0 first) part (rw (sym size) at d.traced) (omega arith) (omega arith) kept in
    let place_is : place ≡ 1 + length pieces = omega arith in
    let whole = ends_traced first last pieces before (put_mid 1 k (set before 0 first) part) (omega arith) (length_part 1 k (set before 0 first) part (omega arith) kept ∙ n) w in
    let cells : length (f ∷ (mid ++ (l ∷ []))) ≡ length (first ∷ (pieces ++ (last ∷ []))) = omega (arith, length-append mid (l ∷ []), length-append pieces (last ∷ [])) in
    record {
      combined = ends_product op assoc table f l mid x middle.value z ef el d.combined;
      counted = omega (arith, length-append mid (l ∷ []));
      traced = rw (map_ends p f l mid, ← pf, ← pl, cells, place_is) whole;
    }
