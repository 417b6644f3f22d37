-- An update of an inner table, and of a whole step.
use Rattle.std.proofs.Common.{◌≡◌, ℕ, ◌+◌, ◌*◌, ◌/◌, ◌^◌, ◌<◌, ◌≤◌, List, length, take, drop, Some}
use borrow.Rule.Slice.PartMut.{put_mid}
use Rattle.std.specs.List.{slice_get}
use Rattle.scheme.specs.Plan.{Plan, Sound}
use Rattle.scheme.specs.Table.{Holds}
use Rattle.scheme.specs.Calls.{Renewed}
use Rattle.scheme.specs.Blocks.{start_of_block}
use Rattle.layer_parts.specs.Parts.{count_of_children, suffixes, inner_tables, parent_count}
use Rattle.layer_parts.specs.Layout.{child_holding}
use Rattle.layer_parts.specs.Writes.{PartRenewed}
use Rattle.layer_parts.proofs.Renewing.{inner_renewed, inners_renewed}
use Rattle.block_layer.specs.Steps.{ParentOf}
use Rattle.block_layer.proofs.Sizes.{Exponents, widths}

-- the inner tables of a step, after an inner update of the child of p in the table of its parent
pub inner_updated : {A : Type 0} (op : A → A → A) → ((a b c : A) → op (op a b) c ≡ op a (op b c)) → (plan : Plan) → Sound plan → (n e f at p start children cells len q place : ℕ) (y : A) (t ys : List A)
    → Exponents n e f → p < n → ParentOf plan n e f at p start children cells → len ≡ (plan.part children).size → cells + len ≤ length t → length ys ≡ length (take len (drop cells t))
    → q ≡ child_holding (2 ^ e) (2 ^ f) p → place ≡ start_of_block (2 ^ f) p → slice_get t (at + n + place) ≡ Some y → Renewed op plan children q y (take len (drop cells t)) ys
    → PartRenewed op n p (inner_tables plan.part n (2 ^ e) (2 ^ f) (parent_count n (2 ^ e))) (at + n + n) (Holds op (take n t) (suffixes n (2 ^ f)) (at + n) t) t (put_mid cells len t ys)
inner_updated op assoc plan sound n e f at p start children cells len q place y t ys x low is len_is room kept q-is place_is cell r =
    let ws = widths n e f x in
    let wide = 2 ^ e in
    let w = 2 ^ f in
    let m = count_of_children n (p / wide * wide) wide w in
    let r' : Renewed op plan m (child_holding wide w p) y (take len (drop cells t)) ys = rw (is.counted, q-is) at r in
    let one = inner_renewed op assoc plan sound n wide w p ws low (at + n) cells len y t ys (rw is.counted at len_is) room kept (rw place_is at cell) r' in
    inners_renewed op assoc plan sound n wide w p ws low (at + n + n) _ t (put_mid cells len t ys) (rw (← is.placed) one)
