-- The pieces of a step, as cells of the layer's table.
use Rattle.std.proofs.Common.{◌≡◌, ℕ, ◌+◌, ◌-◌, ◌*◌, ◌/◌, ◌<◌, ◌≤◌, List, [], ◌∷◌, ◌++◌, length, take, drop, set, Some, sym, refl, ap, ◌∙◌, add_assoc, arith}
use borrow.Rule.Slice.PartMut.{put_mid}
use Rattle.std.specs.List.{slice_get}
use Rattle.scheme.specs.Plan.{Part, Plan}
use Rattle.scheme.specs.Calls.{Drawn, piece_of}
use Rattle.scheme.specs.Blocks.{start_of_block, end_of_block}
use Rattle.scheme.specs.declared.Piece.{Piece}
use Rattle.scheme.specs.declared.Answer.{Answer}
use Rattle.scheme.proofs.Drawing.{piece_is, drawn_two}
use Rattle.layer_parts.specs.Parts.{inner_table, inner_tables, count_of_children, step_part, HasAt, LiftedAt}
use Rattle.layer_parts.specs.Layout.{between, inner_start, moved, step_pieces, Apart}
use Rattle.layer_parts.specs.Writes.{suffix_piece, prefix_piece}
use Rattle.layer_parts.proofs.Blocks.{parent_counted}
use Rattle.layer_parts.proofs.Drawing.{moved_append, moved_moved, length_moved, ends_drawn}
use Rattle.layer_parts.proofs.Soundness.{apart_rise, inner_placed, prefix_placed, suffix_placed}

module _ (plan : Plan) (n wide w at i j : ℕ) (outer : Part) (placed : HasAt at (step_part plan.part n wide w) outer) (apart : Apart n wide w i j) where
  -- a suffix cell, cells of an inner table, and a prefix cell
  pub pieces_are : moved at (step_pieces plan n wide w i j) ≡ (at + n + i) ∷ (moved (at + inner_start plan n wide w i) (between plan n wide w i j) ++ ((at + j) ∷ []))
  pieces_are =
      let mid = between plan n wide w i j in
      let rest = moved_append at (moved (inner_start plan n wide w i) mid) (j ∷ []) ∙ ap (λ v. v ++ ((at + j) ∷ [])) (moved_moved at (inner_start plan n wide w i) mid) in
      rw (add_assoc at n i) (ap (λ v. (at + (n + i)) ∷ v) rest)

  pub left_is : suffix_piece n w at i ≡ piece_of outer (at + n + i)
  left_is =
      let s = suffix_placed plan.part n wide w i (omega (arith, apart_rise n wide w i j apart, apart.below)) in
      let q = placed (n + i) s.0 in
      let e = add_assoc at n i in
      piece_is outer (at + n + i) i (end_of_block n w i) (at + n + i) i (end_of_block n w i - 1) (ap outer.span e ∙ q.1 ∙ s.1) refl refl refl

  pub right_is : prefix_piece w at j ≡ piece_of outer (at + j)
  right_is =
      let s = prefix_placed plan.part n wide w j apart.below in
      let q = placed j s.0 in
      piece_is outer (at + j) (start_of_block w j) (j + 1) (at + j) (start_of_block w j) j (q.1 ∙ s.1) refl refl (omega arith)

  -- the inner table of their parent, among the cells of the layer
  pub inner_lifted : (cells start m : ℕ) → cells ≡ at + n + n + (inner_tables plan.part n wide w (i / wide)).size → start ≡ i / wide * wide → m ≡ count_of_children n (i / wide * wide) wide w
      → LiftedAt n cells start w (plan.part m) outer
  inner_lifted cells start m cells_is start_is m-is c h =
      let k = i / wide in
      let c-low : c < (inner_table plan.part n wide w k).size = rw m-is at h in
      let s = inner_placed plan.part n wide w k (parent_counted n wide i apart.widths.more (omega (arith, apart_rise n wide w i j apart, apart.below))) c c-low in
      let q = placed (n + n + (inner_tables plan.part n wide w k).size + c) s.0 in
      let e : cells + c ≡ at + (n + n + (inner_tables plan.part n wide w k).size + c) = omega arith in
      rw (start_is, m-is) (ap outer.span e ∙ q.1 ∙ s.1)

  -- ---- the answer

  module _ {A : Type 0} (op : A → A → A) (assoc : (a b c : A) → op (op a b) c ≡ op a (op b c)) (table : List A) (trace : List Piece) (left right : Piece) (c d : ℕ) (x z : A)
      (room : length (between plan n wide w i j) + 2 ≤ length trace) (left_at : left ≡ suffix_piece n w at i) (right-at : right ≡ prefix_piece w at j)
      (c-is : c ≡ at + n + i) (d-is : d ≡ at + j) (first : slice_get table c ≡ Some x) (second : slice_get table d ≡ Some z) where
    -- no child stands between those of i and of j
    pub two_drawn : (count : ℕ) → between plan n wide w i j ≡ [] → count ≡ 1
        → Drawn op outer (moved at (step_pieces plan n wide w i j)) table trace (set (set trace 0 left) 1 right) (record { value = op x z; combinations = count })
    two_drawn count none one =
        let cells : moved at (step_pieces plan n wide w i j) ≡ (at + n + i) ∷ (at + j) ∷ [] = pieces_are ∙ (rw none) in
        rw (cells, one) (drawn_two op outer (at + n + i) (at + j) table trace left right x z (omega arith) (ap (slice_get table) (sym c-is) ∙ first) (ap (slice_get table) (sym d-is) ∙ second) (left_at ∙ left_is) (right-at ∙ right_is))

    -- the children between are answered by the inner table that begins at `cells`
    pub three_drawn : (k cells place count : ℕ) (mid : List ℕ) (part : List Piece) (middle : Answer A) → between plan n wide w i j ≡ mid
        → cells ≡ at + n + n + (inner_tables plan.part n wide w (i / wide)).size → k ≡ length (set trace 0 left) - 1
        → Drawn op outer (moved cells mid) table (take k (drop 1 (set trace 0 left))) part middle → length part ≡ length (take k (drop 1 (set trace 0 left)))
        → place ≡ middle.combinations + 2 → count ≡ middle.combinations + 2
        → Drawn op outer (moved at (step_pieces plan n wide w i j)) table trace (set (put_mid 1 k (set trace 0 left) part) place right) (record { value = op (op x middle.value) z; combinations = count })
    three_drawn k cells place count mid part middle mid-is cells_is k-is drawn kept at_last counted =
        let same : at + inner_start plan n wide w i ≡ cells = omega arith in
        let are : moved at (step_pieces plan n wide w i j) ≡ (at + n + i) ∷ (moved cells mid ++ ((at + j) ∷ [])) = pieces_are ∙ (rw (same, mid-is)) in
        rw are (ends_drawn op assoc outer table (at + n + i) (at + j) k (moved cells mid) left right trace part x z middle place count
        (ap (slice_get table) (sym c-is) ∙ first) (ap (slice_get table) (sym d-is) ∙ second) (left_at ∙ left_is) (right-at ∙ right_is) k-is drawn
        (omega (arith, length_moved cells mid, ap length mid-is)) kept at_last counted)
