-- What it is to compute cells of a step, and to compute them anew after an update.
use Rattle.std.specs.Prelude.{◌≡◌, ℕ, ◌+◌, ◌-◌, ◌*◌, ◌<◌, ◌≤◌, List, length, take, Some, None, Option, ◌≢◌, slice_set}
use Rattle.std.specs.List.{slice_get}
use Rattle.scheme.specs.Plan.{Part, Misses}
use Rattle.scheme.specs.Table.{Holds, due}
use Rattle.scheme.specs.Blocks.{start_of_block, end_of_block}
use Rattle.scheme.specs.declared.Piece.{Piece}
use Rattle.layer_parts.specs.Parts.{prefixes, suffixes, child_start}

-- the prefix cell of the event before p, if that is in p's block, holds its product; the prefix cells begin at `at`
abbrev pub PriorHolds : {A : Type 0} (op : A → A → A) (items : List A) (n w at p : ℕ) (t : List A) → Type 0
PriorHolds op items n w at p t = (start_of_block w p ≢ p) → slice_get t (at + (p - 1)) ≡ due op items (prefixes n w).span (p - 1)

-- the suffix cell of the event after p, if that is in p's block, holds its product; the suffix cells begin at `at`
abbrev pub NextHolds : {A : Type 0} (op : A → A → A) (items : List A) (n w at p : ℕ) (t : List A) → Type 0
NextHolds op items n w at p t = (end_of_block n w p ≢ p + 1) → slice_get t (at + (p + 1)) ≡ due op items (suffixes n w).span (p + 1)

-- if `Start`, the cells from first up to last of a part that begins at `at` hold their intervals' products; all other cells are
-- as they were
pub record Redone {A : Type 0} (op : A → A → A) (items : List A) (part : Part) (at first last : ℕ) (Start : Type 0) (before after : List A) : Type 0 where
  pub holds : Start → (c : ℕ) → first ≤ c → c < last → slice_get after (at + c) ≡ due op items part.span c
  pub below : (c : ℕ) → c < at + first → slice_get after c ≡ slice_get before c
  pub above : (c : ℕ) → at + last ≤ c → slice_get after c ≡ slice_get before c

-- once item p has become another: where a part that begins at `at` held its intervals' products it does so again, if `Start`;
-- its cells without p, and all cells below and above it, are as they were
pub record PartRenewed {A : Type 0} (op : A → A → A) (n p : ℕ) (part : Part) (at : ℕ) (Start : Type 0) (before after : List A) : Type 0 where
  pub holds : Start → (items : List A) (x : A) → length items ≡ n → take n before ≡ slice_set items p x → Holds op items part at before → Holds op (slice_set items p x) part at after
  pub missing : (c : ℕ) → c < part.size → Misses (part.span c) p → slice_get after (at + c) ≡ slice_get before (at + c)
  pub below : (c : ℕ) → c < at → slice_get after c ≡ slice_get before c
  pub above : (c : ℕ) → at + part.size ≤ c → slice_get after c ≡ slice_get before c

-- a piece of the inner table that begins at cell `at`, over the children of the parent that begins at `start`, as a piece of
-- the layer's table over n events
abbrev pub piece_in_layer : (n at start w : ℕ) (piece : Piece) → Piece
piece_in_layer n at start w piece = record {
  cell = record { 0 = at + piece.cell.0 };
  first = record { 0 = start + piece.first.0 * w };
  last = record { 0 = child_start n start w (piece.last.0 + 1) - 1 };
}

-- what stands at a place of a trace, so turned
abbrev pub outer_at : (n at start w : ℕ) (held : Option Piece) → Option Piece
outer_at n at start w None = None
outer_at n at start w (Some piece) = Some (piece_in_layer n at start w piece)

-- the piece of event p's suffix cell, in a step over n events whose cells begin at `at`
abbrev pub suffix_piece : (n w at p : ℕ) → Piece
suffix_piece n w at p = record { cell = record { 0 = at + n + p }; first = record { 0 = p }; last = record { 0 = end_of_block n w p - 1 } }

-- the piece of event p's prefix cell, in a step whose cells begin at `at`
abbrev pub prefix_piece : (w at p : ℕ) → Piece
prefix_piece w at p = record { cell = record { 0 = at + p }; first = record { 0 = start_of_block w p }; last = record { 0 = p } }
