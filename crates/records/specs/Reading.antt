-- What a reader hands out.
use Rattle.std.specs.Prelude.{◌≡◌, ℕ, ◌+◌, ◌<◌, ◌≤◌, cond, List, [], ◌∷◌, Some, None, Option, nat_le}
use Rattle.std.specs.List.{slice_get}
use Rattle.records.specs.declared.reader.Record.{Record}
use Rattle.records.specs.declared.reader.Records.{Records}
use Rattle.records.specs.Parts.{part, fits}

-- a new reader over so many records from start on: over all of them if they lie within the file, else over none
pub record Over (len : ℕ) (file : List ℕ) (start count : ℕ) (s : Records len) : Type 0 where
  pub its_file : s.file.now ≡ file
  pub its_start : s.start ≡ cond (fits len file start count) start 0
  pub its_count : s.count ≡ cond (fits len file start count) count 0
  pub at_first : s.at ≡ 0

-- what the reader answers at a place: its record, as it lies in the file, and none past the last
abbrev pub Answer : (len : ℕ) → Records len → ℕ → Option (Record len) → Type 0
Answer len s k None = s.count ≤ k
Answer len s k (Some e) = (k < s.count) × (e.place ≡ k) × (e.bytes.now ≡ part len s.file.now s.start k)

-- one call: the answer at the place that is reached, after which the reader is at the next
pub record Next (len : ℕ) (s : Records len) (r : Option (Record len)) (t : Records len) : Type 0 where
  pub answer : Answer len s s.at r
  pub goes_on : t.at ≡ cond (nat_le s.count s.at) s.at (s.at + 1)
  pub same_file : t.file.now ≡ s.file.now
  pub same_start : t.start ≡ s.start
  pub same_count : t.count ≡ s.count

-- the answers of calls one after the other
pub data Reads (len : ℕ) : Records len → List (Option (Record len)) → Type 0 where
  none : {s : Records len} → Reads len s []
  then : {s t : Records len} {r : Option (Record len)} {rs : List (Option (Record len))} → Next len s r t → Reads len t rs → Reads len s (r ∷ rs)

-- however often it is called, a reader hands out the records in their order, and then none for ever
abbrev pub HandsOut : (len : ℕ) → Records len → Type 0
HandsOut len s = (rs : List (Option (Record len))) → Reads len s rs → (k : ℕ) (r : Option (Record len)) → slice_get rs k ≡ Some r → Answer len s (s.at + k) r
