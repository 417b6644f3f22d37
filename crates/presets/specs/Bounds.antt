-- The bounds on the cells of the six presets.
use Rattle.std.specs.Prelude.{◌≡◌, ℕ, zero, suc, ◌+◌, ◌-◌, ◌*◌, ◌/◌, ◌^◌, ◌<◌, ◌≤◌, Bool, true, ◌&&◌, nat_le, refl}
use Rattle.std.proofs.Common.{ap, ◌∙◌, ⊎_elim, arith, mul-add, mul_assoc, mul_left_comm, pow-suc, lt_of_le_of_lt, pow_mono}
use Rattle.std.specs.Int.Count.{count_leading_zeros}
use Rattle.std.proofs.lemmas.Nat.{mul-le}
use Rattle.std.proofs.lemmas.Bool.{leb-true, and_parts, cases_eq}
use Rattle.scheme.specs.Plan.{Plan, Sound}
use Rattle.scheme.specs.Exponent.{exponent}
use Rattle.scheme.proofs.Exponents.{exponent_least, exponent_few}
use Rattle.basic_schemes.specs.FlatPlan.{flat_plan}
use Rattle.basic_schemes.specs.HalvingPlan.{rows, halving_plan}
use Rattle.basic_schemes.specs.FlatLayout.{flat_sound, cells_few as flat-cells-few}
use Rattle.basic_schemes.specs.HalvingLayout.{halving_sound, cells_few as halving-cells-few}
use Rattle.layer_parts.specs.Layout.{count_of_steps, layer_plan}
use Rattle.layer_parts.proofs.Layouts.{steps_few}
use Rattle.layer_parts.proofs.Soundness.{layer_sound}
use Rattle.presets.specs.Presets.{preset_plan, layer_steps, cell_bound}
use Rattle.presets.specs.declared.Preset.{Preset}
use Rattle.presets.specs.declared.Preset.TheVariants.{One, Two, Three, Four, Five, Six}
use Rattle.presets.specs.Cells.{Inside, layer_most}

-- ---- layouts from greater exponents have no fewer steps

-- the test that d does not fall from 0 to k
abbrev rising : (ℕ → ℕ) → ℕ → Bool
rising d zero = true
rising d (suc k) = nat_le (d k) (d (suc k)) && rising d k

-- d does not fall from 0 to 16
abbrev Rises : (ℕ → ℕ) → Type 0
Rises d = (a b : ℕ) → a ≤ b → b ≤ 16 → d a ≤ d b

rises : (d : ℕ → ℕ) (k : ℕ) → rising d k ≡ true → (a b : ℕ) → a ≤ b → b ≤ k → d a ≤ d b
rises d zero t a b h l =
    let e : a ≡ b = omega arith in
    omega (arith, ap d e)
rises d (suc k) t a b h l =
    let s = and_parts (nat_le (d k) (d (suc k))) (rising d k) t in
    let below = rises d k s.1 in
    ⊎_elim
    (λ (e : a ≡ b). omega (arith, ap d e))
    (λ (e : a ≡ b → ⊥). ⊎_elim
    (λ (last : b ≡ suc k). rw last (omega (arith, below a k (omega (arith, e)) (omega arith), leb-true (d k) (d (suc k)) s.0)))
    (λ (last : b ≡ suc k → ⊥). below a b h (omega (arith, last)))
    (cases_eq b (suc k)))
    (cases_eq a b)

flat_rises : Rises (count_of_steps flat_plan.child)
flat_rises = rises (count_of_steps flat_plan.child) 16 refl

halving_rises : Rises (count_of_steps halving_plan.child)
unfolding count_leading_zeros
halving_rises = rises (count_of_steps halving_plan.child) 16 refl

-- ---- inner schemes

-- the exponent of a number of children is no more than that of their parent
children_exponent : (m e f : ℕ) → e ≤ 16 → m ≤ 2 ^ (e - f) → (m ≤ 65536) × (exponent m ≤ e)
children_exponent m e f b l =
    let low : e - f ≤ 16 = omega arith in
    let few : m ≤ 65536 = omega (arith, pow_mono low) in
    (few, omega (arith, (exponent_least m (omega arith)).least (e - f) l))

inside_flat : Inside flat_plan 1 2
inside_flat e m z b some l =
    let half : e - e / 2 ≤ suc (e / 2) = omega arith in
    let twice : m ≤ 2 * 2 ^ (e / 2) = omega (arith, pow_mono half, pow-suc 2 (e / 2)) in
    omega (arith, mul-le m (m + 1) m (1 + 2 * 2 ^ (e / 2)) (omega arith) (omega arith))

inside_halving : Inside halving_plan 0 2
inside_halving e m z b some l =
    let w = 2 ^ exponent e in
    let few = children_exponent m e (exponent e) b l in
    let high = (exponent_least e (omega arith)).enough in
    let most : m * rows m ≤ m * w = mul-le m (rows m) m w (omega arith) (omega arith) in
    omega (arith, mul-add m 0 (2 * w), mul_left_comm m 2 w)

-- a layer that takes r cells for each event in each step, as the inner scheme of another
inside_layer : (p : Plan) → Sound p → (c k r : ℕ) → Inside p c k → c + 2 * k + 4 ≤ 2 * r → Rises (count_of_steps p.child) → Inside (layer_plan p) 2 (2 * r)
inside_layer p sound c k r inside rate up e m z b some l =
    let steps = count_of_steps p.child in
    let w = 2 ^ exponent (steps e) in
    let few = children_exponent m e (exponent (steps e)) b l in
    let high : steps e ≤ w = (exponent_least (steps e) (omega (arith, steps_few p.child e))).enough in
    let fewer : steps (exponent m) ≤ w = omega (arith, up (exponent m) e few.1 b) in
    let rated : r * steps (exponent m) ≤ r * w = mul-le r (steps (exponent m)) r w (omega arith) fewer in
    let cells : m * (1 + r * steps (exponent m)) ≤ m * (1 + r * w) = mul-le m (1 + r * steps (exponent m)) m (1 + r * w) (omega arith) (omega arith) in
    let twice : m * (2 * r * w) ≡ 2 * (m * (r * w)) = ap (λ y. m * y) (mul_assoc 2 r w) ∙ mul_left_comm m 2 (r * w) in
    omega (arith, layer_most p sound c k r inside rate m few.0, mul-add m 1 (r * w), mul-add m 2 (2 * r * w))

inside_layer_flat : Inside (layer_plan flat_plan) 2 10
inside_layer_flat = inside_layer flat_plan flat_sound 1 2 5 inside_flat (omega arith) flat_rises

inside_layer_halving : Inside (layer_plan halving_plan) 2 8
inside_layer_halving = inside_layer halving_plan halving_sound 0 2 4 inside_halving (omega arith) halving_rises

-- ---- the presets

pub preset_sound : (p : Preset) → Sound (preset_plan p)
preset_sound One = flat_sound
preset_sound Two = halving_sound
preset_sound Three = layer_sound flat_plan flat_sound
preset_sound Four = layer_sound halving_plan halving_sound
preset_sound Five = layer_sound (layer_plan flat_plan) (layer_sound flat_plan flat_sound)
preset_sound Six = layer_sound (layer_plan halving_plan) (layer_sound halving_plan halving_sound)

pub cells_most : (p : Preset) (n : ℕ) → n ≤ 65536 → ((preset_plan p).part n).size ≤ cell_bound p n
cells_most One n b = omega arith
cells_most Two n b = omega arith
cells_most Three n b = layer_most flat_plan flat_sound 1 2 5 inside_flat (omega arith) n b
cells_most Four n b = layer_most halving_plan halving_sound 0 2 4 inside_halving (omega arith) n b
cells_most Five n b = layer_most (layer_plan flat_plan) (layer_sound flat_plan flat_sound) 2 10 13 inside_layer_flat (omega arith) n b
cells_most Six n b = layer_most (layer_plan halving_plan) (layer_sound halving_plan halving_sound) 2 8 11 inside_layer_halving (omega arith) n b

-- presets without a layer take as many
pub cells_reached : (p : Preset) (n : ℕ) → (preset_plan p).budget ≤ 2 → ((preset_plan p).part n).size ≡ cell_bound p n
cells_reached One n h = refl
cells_reached Two n h = refl
cells_reached Three n h = absurd (omega arith)
cells_reached Four n h = absurd (omega arith)
cells_reached Five n h = absurd (omega arith)
cells_reached Six n h = absurd (omega arith)

-- ---- 2^40 cells are more than any preset has

layer_few : (inner : Plan) (n r : ℕ) → n ≤ 65536 → r ≤ 13 → n * (1 + r * layer_steps inner n) < 2 ^ 40
layer_few inner n r b l =
    let steps : layer_steps inner n ≤ 16 = omega (arith, steps_few inner.child (exponent n), exponent_few n b) in
    let rated : r * layer_steps inner n ≤ 13 * 16 = mul-le r (layer_steps inner n) 13 16 l steps in
    omega (arith, mul-le n (1 + r * layer_steps inner n) 65536 209 b (omega arith))

pub cells_few : (p : Preset) (n : ℕ) → 0 < n → n ≤ 65536 → ((preset_plan p).part n).size < 2 ^ 40
cells_few One n z b = omega (arith, flat-cells-few n b)
cells_few Two n z b = omega (arith, halving-cells-few n z b)
cells_few Three n z b = lt_of_le_of_lt (cells_most Three n b) (layer_few flat_plan n 5 b (omega arith))
cells_few Four n z b = lt_of_le_of_lt (cells_most Four n b) (layer_few halving_plan n 4 b (omega arith))
cells_few Five n z b = lt_of_le_of_lt (cells_most Five n b) (layer_few (layer_plan flat_plan) n 13 b (omega arith))
cells_few Six n z b = lt_of_le_of_lt (cells_most Six n b) (layer_few (layer_plan halving_plan) n 11 b (omega arith))
