-- The clerk's notes, with one event more.
use Rattle.std.specs.Prelude.{◌≡◌, ℕ, ◌+◌, ◌-◌, ◌≤◌, min, Bool, true, false, cond, List, [], ◌∷◌, ◌++◌, length, Some, None, Option, ◌==◌, nat_le, refl}
use Rattle.std.proofs.Common.{ap, ◌∙◌, arith}
use Rattle.std.proofs.lemmas.Bool.Decides.{nat_tests}
use Rattle.std.proofs.lemmas.List.{length_push}
use Rattle.std.proofs.lemmas.Bool.{leb-true, leb-false, lt-leb}
use Rattle.records.specs.declared.record.Effect.{Effect}
use Rattle.records.specs.declared.record.Effect.TheVariants.{Nothing, Halt, Resumption}
use Rattle.kinds.specs.declared.halt_summary.HaltCounts.{HaltCounts}
use Rattle.kinds.specs.declared.halt_summary.HaltSummary.{HaltSummary}
use Rattle.kinds.specs.declared.kind.Entry.{Entry}
use Rattle.kinds.specs.Halts.{counts, met, summed, summed_up, counts_of, summary_of, Clerk, noted, walked, clerk, Tallies}

walked_push : (k : Clerk) (es : List Entry) (e : Entry) → walked k (es ++ (e ∷ [])) ≡ noted e.code.effect (walked k es)
walked_push k [] e = refl
walked_push k (d ∷ es) e = walked_push (noted d.code.effect k) es e

noted_bound : (f : Option Effect) (k : Clerk) → (noted f k).unmet + (noted f k).halts ≤ k.unmet + k.halts + 1
noted_bound None k = omega arith
noted_bound (Some Nothing) k = omega arith
noted_bound (Some Halt) k = omega arith
noted_bound (Some Resumption) k = grind (arith, nat_tests)

walked_bound : (k : Clerk) (es : List Entry) → (walked k es).unmet + (walked k es).halts ≤ k.unmet + k.halts + length es
walked_bound k [] = omega arith
walked_bound k (e ∷ es) = omega (arith, noted_bound e.code.effect k, walked_bound (noted e.code.effect k) es)

-- the clerk's notes over n events, as counts
abbrev counted : ℕ → Clerk → HaltCounts
counted n k = record { events = n; unmatched = k.unmet; pending = k.halts }

-- counts that meet those of one event are the notes with that event
met_noted : (f : Option Effect) (n : ℕ) (k : Clerk) → met (counted n k) (counts_of f) ≡ counted (n + 1) (noted f k)
met_noted None n k =
    let c : k.unmet + 0 - min k.halts 0 ≡ k.unmet = grind (arith, nat_tests) in
    let o : k.halts + 0 - min k.halts 0 ≡ k.halts = grind (arith, nat_tests) in
    cc
met_noted (Some Nothing) n k =
    let c : k.unmet + 0 - min k.halts 0 ≡ k.unmet = grind (arith, nat_tests) in
    let o : k.halts + 0 - min k.halts 0 ≡ k.halts = grind (arith, nat_tests) in
    cc
met_noted (Some Halt) n k =
    let c : k.unmet + 0 - min k.halts 0 ≡ k.unmet = grind (arith, nat_tests) in
    let o : k.halts + 1 - min k.halts 0 ≡ k.halts + 1 = grind (arith, nat_tests) in
    cc
met_noted (Some Resumption) n k =
    let c : k.unmet + 1 - min k.halts 1 ≡ cond (k.halts == 0) (k.unmet + 1) k.unmet = grind (arith, nat_tests) in
    let o : k.halts + 0 - min k.halts 1 ≡ k.halts - 1 = grind (arith, nat_tests) in
    cc

one_noted : (f : Option Effect) → counts_of f ≡ counted 1 (noted f (record { unmet = 0; halts = 0 }))
one_noted None = refl
one_noted (Some Nothing) = refl
one_noted (Some Halt) = refl
one_noted (Some Resumption) = refl

pub tallies_one : (e : Entry) → Tallies (e ∷ []) (summary_of e)
tallies_one e = ap Some (one_noted e.code.effect)

-- ---- one event more

read_counts : (n : ℕ) (k : Clerk) → k.unmet + k.halts ≤ n → n ≤ 65536 → counts (Some (counted n k)) ≡ Some (counted n k)
read_counts n k h l = grind (arith, nat_tests)

read_one : (f : Option Effect) → counts (Some (counts_of f)) ≡ Some (counts_of f)
read_one None = refl
read_one (Some Nothing) = refl
read_one (Some Halt) = refl
read_one (Some Resumption) = refl

one_event : (f : Option Effect) → (counts_of f).events ≡ 1
one_event None = refl
one_event (Some Nothing) = refl
one_event (Some Halt) = refl
one_event (Some Resumption) = refl

longer : (es : List Entry) (m : Option HaltCounts) (e : Entry) (t : Bool) → nat_le (length es) 65536 ≡ t → m ≡ cond t (Some (counted (length es) (clerk es))) None
    → summed (counts m) (counts (Some (counts_of e.code.effect))) ≡ cond (nat_le (length es + 1) 65536) (Some (counted (length es + 1) (noted e.code.effect (clerk es)))) None
longer es m e true t h =
    let k = clerk es in
    let left = ap counts h ∙ read_counts (length es) k (omega (arith, walked_bound (record { unmet = 0; halts = 0 }) es)) (leb-true _ _ t) in
    let both = met_noted e.code.effect (length es) k in
    let one = one_event e.code.effect in
    rw (left, read_one e.code.effect) (cc)
longer es m e false t h =
    let left = ap counts h in
    let long = lt-leb (length es + 1) 65536 (omega (arith, leb-false _ _ t)) in
    rw (left, long)

pub tallies_more : (es : List Entry) (m : HaltSummary) (e : Entry) → Tallies es m → Tallies (es ++ (e ∷ [])) (summed_up m (summary_of e))
tallies_more es m e h =
    let start : Clerk = record { unmet = 0; halts = 0 } in
    let l = length_push es e in
    let w = walked_push start es e in
    longer es m.stored e (nat_le (length es) 65536) refl h ∙ rw (l, w) refl
