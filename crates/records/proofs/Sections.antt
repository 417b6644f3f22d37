-- A loop and a search over all the records of a section.
use Rattle.std.proofs.Common.{◌≡◌, ℕ, suc, ◌+◌, ◌-◌, ◌*◌, ◌<◌, ◌≤◌, List, [], ◌∷◌, length, get_or, map, Some, None, Option, refl, ◌∙◌, arith, MatchOption}
use Rattle.std.specs.List.{range_with_len, AllWithin, HoldsAt}
use Rattle.std.proofs.lemmas.Bool.{le-leb, lt-leb}
use Rattle.std.proofs.lemmas.Iterator.{YieldsList}
use Rattle.std.proofs.lemmas.Iterator.Consumers.{YieldsList-from_shown}
use Rattle.std.proofs.lemmas.List.FromFn.{length-map-range_with_len, get_or-map-range_with_len}
use Rattle.records.specs.declared.reader.Record.{Record}
use Rattle.records.specs.declared.reader.Records.{Records}
use Rattle.records.specs.Parts.{part}
use Rattle.records.specs.Reading.{Over, Next}

-- a reader over the records of a section that lies within the file, wherever it has come to
pub record Section (len : ℕ) (file : List ℕ) (start count : ℕ) (s : Records len) : Type 0 where
  pub its_file : s.file.now ≡ file
  pub its_start : s.start ≡ start
  pub its_count : s.count ≡ count

pub section_begins : (len : ℕ) (file : List ℕ) (start count : ℕ) (s : Records len) → start + len * count ≤ length file → Over len file start count s → Section len file start count s
section_begins len file start count s h o =
    let within = le-leb _ _ h in
    record { its_file = o.its_file; its_start = rw within at o.its_start; its_count = rw within at o.its_count }

pub section_goes_on : (len : ℕ) (file : List ℕ) (start count : ℕ) (s t : Records len) (r : Option (Record len)) → Section len file start count s → Next len s r t → Section len file start count t
section_goes_on len file start count s t r p n =
    record { its_file = n.same_file ∙ p.its_file; its_start = n.same_start ∙ p.its_start; its_count = n.same_count ∙ p.its_count }

-- what a turn of the loop is given, and where it leaves the reader
pub record Turn (len : ℕ) (file : List ℕ) (start count : ℕ) (s t : Records len) (e : Record len) : Type 0 where
  pub below : s.at < count
  pub place : e.place ≡ s.at
  pub bytes : e.bytes.now ≡ part len file start s.at
  pub next : t.at ≡ s.at + 1
  pub still : Section len file start count t

pub section_turn : (len : ℕ) (file : List ℕ) (start count : ℕ) (s t : Records len) (e : Record len) → Section len file start count s → Next len s (Some e) t → Turn len file start count s t e
section_turn len file start count s t e p n =
    let more = lt-leb _ _ n.answer.0 in
    record {
      below = rw p.its_count at n.answer.0;
      place = n.answer.1;
      bytes = rw (p.its_file, p.its_start) at n.answer.2;
      next = rw more at n.goes_on;
      still = section_goes_on len file start count s t (Some e) p n;
    }

-- a loop that ended has seen every place
pub section_ends : (len : ℕ) (file : List ℕ) (start count : ℕ) (s t : Records len) → Section len file start count s → Next len s None t → count ≤ s.at
section_ends len file start count s t p n = rw p.its_count at n.answer

-- the records that are still to come, each by its bytes
abbrev pub to_come : (len : ℕ) → Records len → List (List ℕ)
to_come len s = map (part len s.file.now s.start) (range_with_len s.at (s.count - s.at))

nothing_left : (len : ℕ) (s t : Records len) → Next len s None t → length (to_come len s) ≡ 0
nothing_left len s t n = omega (arith, length-map-range_with_len (part len s.file.now s.start) s.at (s.count - s.at), n.answer)

one_less : (len : ℕ) (s : Records len) (e : Record len) (t : Records len) → Next len s (Some e) t → to_come len s ≡ e.bytes.now ∷ to_come len t
one_less len s e t n =
    let next : t.at ≡ s.at + 1 = rw (lt-leb _ _ n.answer.0) at n.goes_on in
    let left : s.count - s.at ≡ suc (t.count - t.at) = omega (arith, n.answer.0, n.same_count) in
    rw (left, n.answer.2, n.same_file, n.same_start, next) refl

pub yields_to_come : (len : ℕ) (s : Records len) → YieldsList (Next len) (λ e. e.bytes.now) s (to_come len s)
yields_to_come len s = YieldsList-from_shown (Next len) (λ e. e.bytes.now) (to_come len) (nothing_left len) (one_less len) s

-- of a reader at its first place they are the parts of the section
section_part : (len : ℕ) (file : List ℕ) (start count : ℕ) (s : Records len) → Section len file start count s → s.at ≡ 0 → (k : ℕ) (d : List ℕ) → k < count → get_or (to_come len s) k d ≡ part len file start k
section_part len file start count s p z k d h =
    let there = get_or-map-range_with_len (part len s.file.now s.start) s.at (s.count - s.at) k k d (omega (arith, p.its_count)) (omega arith) in
    rw (there, p.its_file, p.its_start) refl

section_len : (len : ℕ) (file : List ℕ) (start count : ℕ) (s : Records len) → Section len file start count s → s.at ≡ 0 → length (to_come len s) ≡ count
section_len len file start count s p z = omega (arith, length-map-range_with_len (part len s.file.now s.start) s.at (s.count - s.at), p.its_count)

-- what a search over a whole section has found: none that is bad, or the first
pub section_search : (len : ℕ) (file : List ℕ) (start count : ℕ) (s : Records len) (Good : List ℕ → Type 0) (r : Option ℕ) → Section len file start count s → s.at ≡ 0
    → MatchOption r (AllWithin Good (to_come len s) 0 (length (to_come len s))) (λ k. (k < length (to_come len s)) × HoldsAt (λ b. Good b → ⊥) (to_come len s) k × AllWithin Good (to_come len s) 0 k)
    → MatchOption r ((k : ℕ) → k < count → Good (part len file start k)) (λ k. (k < count) × ((j : ℕ) → j < k → Good (part len file start j)) × (Good (part len file start k) → ⊥))
section_search len file start count s Good None p z all =
    λ k h. let good = all k [] (omega arith) (omega (arith, section_len len file start count s p z)) in rw (section_part len file start count s p z k [] h) at good
section_search len file start count s Good (Some k) p z found =
    let below : k < count = omega (arith, found.0, section_len len file start count s p z) in (
      below,
      λ j h. let good = found.2 j [] (omega arith) h in rw (section_part len file start count s p z j [] (omega arith)) at good,
      let bad = found.1 [] in rw (section_part len file start count s p z k [] below) at bad,
    )
