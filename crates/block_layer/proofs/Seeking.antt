-- The walk to the step in which two events part.
use Rattle.std.proofs.Common.{◌≡◌, ℕ, ◌+◌, ◌/◌, ◌^◌, ◌<◌, ◌≤◌, List, [], ◌∷◌, Option, Some, None, refl, sym, ap, ◌∙◌, div-one, arith}
use Rattle.std.specs.Iterator.{Yields}
use Rattle.std.specs.List.{FoldsTo}
use Rattle.std.specs.Option.{IfSome}
use native.Mathlib.Nat.{div-eq_of_lt}
use Rattle.scheme.specs.Plan.{Plan, Sound}
use Rattle.scheme.specs.Exponent.{exponent}
use Rattle.scheme.proofs.Exponents.{exponent_least, exponent_few}
use Rattle.layer_parts.specs.Layout.{exponent_at, step_of_parting}
use Rattle.layer_parts.proofs.Layouts.{AtStep, at_first, at_next, exponent_next, parting_later, parting_here}
use Rattle.block_layer.specs.Steps.{Parting}
use Rattle.block_layer.specs.Walk.{StepFrom}
use Rattle.block_layer.specs.declared.steps.Step.{Step}

-- a walk is at blocks of 2^e events and at step s, and has not come past the step in which i and j part
pub record Seeking (plan : Plan) (n i j s e : ℕ) : Type 0 where
  pub step : AtStep plan.child (exponent n) s e
  pub together : i / 2 ^ e ≡ j / 2 ^ e
  pub ahead : step_of_parting plan.child (exponent n) i j ≡ s + step_of_parting plan.child e i j

module _ (plan : Plan) (n i j : ℕ) (few : n ≤ 65536) (rise : i < j) (low : j < n) where
  pub seek_first : (e : ℕ) → e ≡ exponent n → Seeking plan n i j 0 e
  seek_first e is =
      let big = (exponent_least n (omega arith)).enough in
      rw is (record {
        step = at_first plan.child (exponent n) (exponent_few n few);
        together = div-eq_of_lt (omega arith) ∙ sym (div-eq_of_lt (omega arith));
        ahead = omega arith;
      })

  -- it does not come to single events
  pub seek_goes : (s e : ℕ) → Seeking plan n i j s e → e ≡ 0 → ⊥
  seek_goes s e k none = let one = rw none at k.together in omega (arith, div-one i, div-one j)

module _ (plan : Plan) (sound : Sound plan) (n i j s e f : ℕ) (rise : i < j) (step : Step) (k : Seeking plan n i j s e) (given : StepFrom plan e f step) where
  live : 0 < e
  live = omega (arith, given.parents, step.falls)

  child : step.children.e ≡ plan.child e
  child = given.children ∙ given.told

  pub seek_next : i / 2 ^ step.children.e ≡ j / 2 ^ step.children.e → Seeking plan n i j (s + 1) f
  seek_next same =
      let later = parting_later plan.child sound.falls e i j live k.step.low (λ one. omega arith) (rw child at same) in
      record {
        step = at_next plan.child sound.falls (exponent n) s e k.step live f given.told;
        together = rw given.children at same;
        ahead = omega (arith, k.ahead, ap (λ x. step_of_parting plan.child x i j) given.told);
      }

  -- the walk has come to the step
  pub seek_here : (i / 2 ^ step.children.e ≡ j / 2 ^ step.children.e → ⊥) → step_of_parting plan.child (exponent n) i j ≡ s
  seek_here apart = omega (arith, k.ahead, parting_here plan.child sound.falls e i j live (λ same. apart (rw child same)))

  pub seek_done : (i / 2 ^ step.children.e ≡ j / 2 ^ step.children.e → ⊥) → Parting plan n i j step.parents.e step.children.e
  seek_done apart =
      let here = seek_here apart in
      let exponents = exponent_at plan.child (exponent n) in
      record {
        upper = given.parents ∙ k.step.exponent_is ∙ ap exponents (sym here);
        lower = child ∙ ap plan.child k.step.exponent_is ∙ sym (exponent_next plan.child (exponent n) s) ∙ ap (λ x. exponents (x + 1)) (sym here);
      }

-- ---- the first step that parts them

-- what a search found on a walk: the step k in which i and j part, which the walk gave at s
pub record Found {S B : Type 0} (plan : Plan) (n i j : ℕ) (gives : S → Option B → S → Type 0) (Right : S → ℕ → Type 0) (view : B → Step) (u : S) (r : Option B) : Type 0 where
  pub item : B
  pub is : r ≡ Some item
  pub place : ℕ
  pub state : S
  pub right : Right state place
  pub given : gives state (Some item) u
  pub parting : Parting plan n i j (view item).parents.e (view item).children.e
  pub here : step_of_parting plan.child (exponent n) i j ≡ place

-- a walk keeps right, and gives steps of the layout down to single events. Passed says of an item that its step does not part
-- them, and Last that it does
module _ {S B F : Type 0} (plan : Plan) (sound : Sound plan) (n i j : ℕ) (few : n ≤ 65536) (rise : i < j) (low : j < n) (gives : S → Option B → S → Type 0) (Right : S → ℕ → Type 0) (blocks : S → ℕ) (view : B → Step)
    (goes : (s t : S) (k : ℕ) (x : B) → Right s k → AtStep plan.child (exponent n) k (blocks s) → gives s (Some x) t → Right t (k + 1) × StepFrom plan (blocks s) (blocks t) (view x))
    (ends : (s t : S) → gives s None t → blocks s ≡ 0)
    (f h : F) (Passed : F → B → F → Type 0) (Last : B → Type 0)
    (no : (x : B) (q : F) → Passed f x q → (q ≡ f) × (i / 2 ^ (view x).children.e ≡ j / 2 ^ (view x).children.e))
    (yes : (x : B) → f ≡ h → Last x → i / 2 ^ (view x).children.e ≡ j / 2 ^ (view x).children.e → ⊥) where
  pub found : (xs : List B) (s t u : S) (r : Option B) (k : ℕ) → Right s k → Seeking plan n i j k (blocks s) → Yields gives s xs t → gives t r u → FoldsTo Passed f xs h → IfSome r Last → Found plan n i j gives Right view u r
  found [] s t u None k right seek y z ran last =
      let same : s ≡ t = y in
      absurd (seek_goes plan n i j few rise low k (blocks s) seek (ends s u (rw same z)))
  found [] s t u (Some x) k right seek y z ran last =
      let same : s ≡ t = y in
      let given : gives s (Some x) u = rw same z in
      let step = (goes s u k x right seek.step given).1 in
      let apart = yes x ran last in
      record {
        item = x;
        is = refl;
        place = k;
        state = s;
        right = right;
        given = given;
        parting = seek_done plan sound n i j k (blocks s) (blocks u) rise (view x) seek step apart;
        here = seek_here plan sound n i j k (blocks s) (blocks u) rise (view x) seek step apart;
      }
  found (x ∷ xs) s t u r k right seek y z ran last =
      let on = no x ran.0 ran.1 in
      let turn = goes s y.0 k x right seek.step y.1 in
      found xs y.0 t u r (k + 1) turn.0 (seek_next plan sound n i j k (blocks s) (blocks y.0) rise (view x) seek turn.1 on.1) y.2 z (rw on.0 at ran.2) last
