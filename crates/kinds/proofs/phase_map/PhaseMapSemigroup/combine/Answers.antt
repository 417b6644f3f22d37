use Rattle.std.proofs.Common.{◌≡◌, rules, sym, refl, ap, ◌∙◌}
use Rattle.std.specs.List.{fold}
use Rattle.std.proofs.lemmas.Fn.{fold_over}
use Rattle.std.proofs.lemmas.List.Sums.{fold_push}
use Rattle.kinds.specs.Phased.{composed_is}
use Rattle.kinds.proofs.Folds.{down, Back, yields_down, turn, packed_fold}
use Rattle.kinds.proofs.phase_map.PhaseMapSemigroup.combine.Goals as goal

pub returns : goal.returns
returns c =
    let f = c.args.self in
    let g = c.args.right in
    let made : c.fold-bits.result ≡ fold (turn f g) 0 (down 8) =
    fold_over Back (λ x. x) _ (λ ys a. a ≡ fold (turn f g) 0 ys) _
    (λ ys a x b f' so_far call. let one : b ≡ turn f g a x = search rules in (one ∙ ap (λ y. turn f g y x) so_far ∙ sym (fold_push (turn f g) 0 ys x), search rules))
    c.rev.result (down 8) 0 _ (yields_down c.rev.result c.rev.ensures.source).runs refl c.fold-bits.ensures.ran
    in
    let bits = made ∙ packed_fold f g in
    record { combined = cc (composed_is f g) }
