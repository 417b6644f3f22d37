-- The table of child exponents as their rule makes it. That the table of the code is the same is one test, which is computed.
use Rattle.std.proofs.Common.{◌≡◌, ℕ, zero, suc, ◌+◌, ◌-◌, ◌*◌, ◌/◌, ◌%◌, ◌<◌, ◌≤◌, List, map, get_or, refl, ap, ◌∙◌, arith}
use Rattle.std.specs.List.{range_with_len}
use Rattle.std.proofs.lemmas.Nat.{div-mul-add, mod-mul-add}
use Rattle.std.proofs.lemmas.List.FromFn.{get_or-map-range_with_len}
use Rattle.presets.specs.Presets.{preset_plan, child_rule}
use Rattle.presets.specs.declared.Preset.{Preset}
use Rattle.presets.specs.declared.Preset.TheVariants.{One, Two, Three, Four, Five, Six}

-- the preset of row q, from 0
abbrev preset_at : ℕ → Preset
preset_at zero = One
preset_at (suc zero) = Two
preset_at (suc (suc zero)) = Three
preset_at (suc (suc (suc q))) = Four

-- the child exponent at a place of the table
abbrev rule_at : ℕ → ℕ
rule_at place = child_rule (preset_at (place / 16)) (place % 16 + 1)

-- four rows of 16
abbrev pub ruled_table : List ℕ
ruled_table = map rule_at (range_with_len 0 64)

-- the rows are those of the presets with a budget of up to 4
row_of : (row : Preset) → (preset_plan row).budget ≤ 4 → (0 < (preset_plan row).budget) × (preset_at ((preset_plan row).budget - 1) ≡ row)
row_of One h = (omega arith, refl)
row_of Two h = (omega arith, refl)
row_of Three h = (omega arith, refl)
row_of Four h = (omega arith, refl)
row_of Five h = absurd (omega arith)
row_of Six h = absurd (omega arith)

-- an entry by its row and column
pub entry_ruled : (row : Preset) (number e : ℕ) → number ≡ (preset_plan row).budget → (preset_plan row).budget ≤ 4 → 0 < e → e ≤ 16
    → get_or ruled_table (16 * (number - 1) + (e - 1)) 0 ≡ child_rule row e
entry_ruled row number e is low some few =
    let r = row_of row low in
    let place = 16 * (number - 1) + (e - 1) in
    let split : place ≡ (number - 1) * 16 + (e - 1) = omega arith in
    let line : place / 16 ≡ (preset_plan row).budget - 1 = ap (λ y. y / 16) split ∙ div-mul-add (number - 1) 16 (e - 1) (omega arith) ∙ ap (λ y. y - 1) is in
    let column : place % 16 + 1 ≡ e = omega (arith, ap (λ y. y % 16) split ∙ mod-mul-add (number - 1) 16 (e - 1) (omega arith)) in
    get_or-map-range_with_len rule_at 0 64 place place 0 (omega arith) (omega arith)
    ∙ ap (λ q. child_rule q (place % 16 + 1)) (ap preset_at line ∙ r.1)
    ∙ ap (child_rule row) column
