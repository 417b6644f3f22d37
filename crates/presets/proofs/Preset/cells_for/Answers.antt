use Rattle.std.proofs.Common.{◌≡◌, ◌<◌, ◌≤◌, ap, arith}
use Rattle.presets.specs.Presets.{preset_plan}
use Rattle.presets.specs.Bounds.{cells_most, cells_reached, cells_few}
use Rattle.presets.proofs.Preset.cells_for.Goals as goal

-- the number is below 2^40, so it is the number itself that the scheme tells
pub returns : goal.returns
returns c =
    let preset = c.args.self in
    let n = c.args.n in
    let events = c.in_ok-events.events in
    let is : events.count ≡ n = c.in_ok-events.ensures.made in
    let some : 0 < n = omega (arith, events.counted.some) in
    let few : n ≤ 65536 = omega (arith, events.counted.few) in
    let same = ap (λ k. ((preset_plan preset).part k).size) is in
    let told : c.cells.result ≡ ((preset_plan preset).part n).size = omega (arith, c.cells.ensures.told, cells_few preset n some few) in
    record {
      counted = record {
        events = record { some = some; few = few };
        exact = omega arith;
        bounded = omega (arith, cells_most preset n few);
        reached = λ h. omega (arith, cells_reached preset n h);
      };
    }
