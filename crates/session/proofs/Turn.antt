-- The loop over the times of a file: one more place that is good, and the first that is not.
use Rattle.std.proofs.Common.{◌≡◌, ℕ, zero, suc, ◌+◌, ◌-◌, ◌<◌, ◌≤◌, List, refl, arith, below_more}
use Rattle.records.specs.declared.record.Event.{Event}
use Rattle.records.specs.Fields.{header_of, event_of}
use Rattle.records.specs.Parts.{part}
use Rattle.session.specs.Rules.{event_at, InOrder}
use Rattle.session.specs.First.{Least}

pub one_more : (P : ℕ → Type 0) (at next : ℕ) → next ≡ at + 1 → ((k : ℕ) → k < at → P k) → P at → (k : ℕ) → k < next → P k
one_more P at next e below here = rw e (below_more P at below here)

pub first_bad : (P : ℕ → Type 0) (n at place : ℕ) → place ≡ at → at < n → ((k : ℕ) → k < at → P k) → (P at → ⊥) → Least P n place
first_bad P n at place e h below here = rw e (h, below, here)

-- what a decoded event is, in the words of the file
pub the_event : (file bytes : List ℕ) (at : ℕ) (event : Event) → bytes ≡ part 16 file (header_of file).events_at at → event ≡ event_of bytes → event ≡ event_at file at
the_event file bytes at event p q = rw (q, p) refl

-- the time of the event before, or 0 before the first
abbrev pub Latest : List ℕ → ℕ → ℕ → Type 0
Latest file at latest = (at ≡ 0 → latest ≡ 0) × (0 < at → latest ≡ (event_at file (at - 1)).time)

pub time_falls : (file : List ℕ) (at latest : ℕ) (event : Event) → Latest file at latest → event ≡ event_at file at → event.time < latest → InOrder file at → ⊥
time_falls file zero latest event l e h order = omega (arith, l.0 refl)
time_falls file (suc k) latest event l e h order = let t = rw e at h in omega (arith, l.1 (omega arith), order (omega arith))

pub time_stands : (file : List ℕ) (at latest : ℕ) (event : Event) → Latest file at latest → event ≡ event_at file at → latest ≤ event.time → InOrder file at
time_stands file at latest event l e h later = let t = rw e at h in omega (arith, l.1 later)

pub latest_more : (file : List ℕ) (at next : ℕ) (event : Event) → next ≡ at + 1 → event ≡ event_at file at → Latest file next event.time
latest_more file at next event n e =
    let back : next - 1 ≡ at = omega arith in
    (λ z. absurd (omega arith), λ _. rw (back, e) refl)
