-- Calls of a reader, one after the other.
use Rattle.std.proofs.Common.{◌≡◌, ℕ, zero, suc, ◌+◌, ◌<◌, ◌≤◌, Bool, true, false, cond, leb, ◌⊎◌, Some, None, Option, refl, inl, inr, add-zero, arith}
use Rattle.std.proofs.lemmas.Bool.{leb-true, leb-false}
use Rattle.records.specs.declared.reader.Record.{Record}
use Rattle.records.specs.declared.reader.Records.{Records}
use Rattle.records.specs.Reading.{Answer, Next, HandsOut}
use Rattle.records.specs.Reading.Reads.{none, then}

-- where a call leaves the reader: at the next place, or past the last
reaches : (count at next : ℕ) (b : Bool) → leb count at ≡ b → next ≡ cond b at (at + 1) → ((at < count) × (next ≡ at + 1)) ⊎ ((count ≤ at) × (next ≡ at))
reaches count at next true e n = inr (leb-true _ _ e, n)
reaches count at next false e n = inl (leb-false _ _ e, n)

-- what the reader after a call answers is what this one answers a place later
one_on : (len : ℕ) (s t : Records len) (r : Option (Record len)) (k : ℕ) (a : Option (Record len)) → Next len s r t → Answer len t (t.at + k) a → Answer len s (s.at + suc k) a
one_on len s t r k None n h =
    elim (reaches s.count s.at t.at _ refl n.goes_on) [ inl p ↦ omega (arith, p.1, n.same_count, h) | inr p ↦ omega (arith, p.0) ]
one_on len s t r k (Some e) n h =
    elim (reaches s.count s.at t.at _ refl n.goes_on) [
      | inl p ↦ let there : t.at + k ≡ s.at + suc k = omega (arith, p.1) in
          (omega (arith, h.0, n.same_count), omega (arith, h.1), rw (there, n.same_file, n.same_start) at h.2)
      | inr p ↦ absurd (omega (arith, p.0, p.1, n.same_count, h.0))
    ]

-- induction over the calls
pub hands_out : (len : ℕ) (s : Records len) → HandsOut len s
hands_out len s rs none k r e = absurd (let z : ◌≡◌ {A = ℕ} 0 1 = cc in omega arith)
hands_out len s rs (then {t = t} {r = r₀} {rs = rest} n more) zero r e =
    let same : r₀ ≡ r = cc in
    rw (add-zero s.at, ← same) n.answer
hands_out len s rs (then {t = t} {r = r₀} {rs = rest} n more) (suc k) r e = one_on len s t r₀ k r n (hands_out len t rest more k r e)
