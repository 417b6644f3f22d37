-- The plan with too many cells is sound.
use Rattle.std.specs.Prelude.{ℕ, ◌<◌, ◌≤◌, List, [], ◌∷◌}
use Rattle.std.proofs.Common.{⊎_elim, arith}
use Rattle.std.proofs.lemmas.Bool.{lt-ltb, le-ltb, cases_lt}
use Rattle.scheme.specs.Plan.{Sound, Covers, done, goes}
use Rattle.basic_schemes.specs.FlatPlan.{flat_plan}
use Rattle.basic_schemes.specs.FlatLayout.{flat_sound}
use Rattle.index_tests.specs.VastPlan.{vast_plan, plan_of_vast}
use Rattle.index_tests.specs.declared.vast.Vast.{Vast}
use Rattle.index_tests.specs.declared.vast.Vast.TheVariants.{Uncounted, Counted}

-- what covers a run in the smaller table covers it here
covers_still : (n i j : ℕ) (cs : List ℕ) → Covers (flat_plan.part n) i j cs → Covers (vast_plan.part n) i j cs
covers_still n i j [] done = done
covers_still n i j (c ∷ cs) (goes h e rest) =
    let low = lt-ltb c (flat_plan.part n).size h in
    goes (omega arith) (rw low e) (rw low (covers_still n ((flat_plan.part n).span c).to j cs rest))

pub vast_sound : Sound vast_plan
vast_sound = record {
  enough = λ n some few. omega (arith, flat_sound.enough n some few);
  items_first = λ n c few h. rw (lt-ltb c (flat_plan.part n).size (omega (arith, flat_sound.enough n (omega arith) few))) (flat_sound.items_first n c few h);
  within = λ n some few c h. ⊎_elim
      (λ (l : c < (flat_plan.part n).size). rw (lt-ltb c (flat_plan.part n).size l) (flat_sound.within n some few c l))
      (λ (l : (flat_plan.part n).size ≤ c). rw (le-ltb c (flat_plan.part n).size l) (omega arith, omega arith))
      (cases_lt c (flat_plan.part n).size);
  covered = λ n i j few l m. covers_still n i j _ (flat_sound.covered n i j few l m);
  few = flat_sound.few;
  falls = flat_sound.falls;
}

-- with the cells more and without
pub plan_of_vast_sound : (v : Vast) → Sound (plan_of_vast v)
plan_of_vast_sound Uncounted = vast_sound
plan_of_vast_sound Counted = flat_sound
