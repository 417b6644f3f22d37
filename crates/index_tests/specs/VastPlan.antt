-- A plan with more cells than can be counted.
use Rattle.std.specs.Prelude.{◌+◌, ◌^◌, cond, nat_lt}
use Rattle.scheme.specs.Plan.{Plan, single}
use Rattle.basic_schemes.specs.FlatPlan.{flat_plan}
use Rattle.index_tests.specs.declared.vast.Vast.{Vast}
use Rattle.index_tests.specs.declared.vast.Vast.TheVariants.{Uncounted, Counted}

-- the table of every run, and 2^40 cells more for event 0
abbrev pub vast_plan : Plan
vast_plan = record {
  part = λ n. record {
    size = (flat_plan.part n).size + 2 ^ 40;
    span = λ c. cond (nat_lt c (flat_plan.part n).size) ((flat_plan.part n).span c) (single 0);
  };
  pieces = flat_plan.pieces;
  budget = 1;
  child = flat_plan.child;
}

-- with the cells more and without
abbrev pub plan_of_vast : Vast → Plan
plan_of_vast Uncounted = vast_plan
plan_of_vast Counted = flat_plan
