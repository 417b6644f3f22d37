-- The entries of the events that a reader hands out.
use Rattle.std.proofs.Common.{◌≡◌, ℕ, suc, ◌+◌, ◌-◌, Bool, true, false, cond, List, ◌∷◌, map, length, Some, None, refl, subst, ◌∙◌, arith}
use Rattle.std.specs.List.{range_with_len}
use Rattle.std.proofs.lemmas.Bool.{lt-leb}
use Rattle.std.proofs.lemmas.List.FromFn.{length-map-range_with_len}
use Rattle.std.proofs.lemmas.Iterator.{YieldsList}
use Rattle.std.proofs.lemmas.Iterator.Consumers.{YieldsList-from_shown}
use Rattle.records.specs.declared.record.Header.{Header}
use Rattle.records.specs.declared.reader.Record.{Record}
use Rattle.records.specs.declared.reader.Records.{Records}
use Rattle.records.specs.Fields.{event_of}
use Rattle.records.specs.Parts.{part, fits}
use Rattle.records.specs.Reading.{Over, Next}
use Rattle.kinds.specs.declared.kind.Entry.{Entry}
use Rattle.day.specs.Day.{numbered_entry, entry_at, day_of}

module _ (b : List ℕ) (h : Header) where
  -- the entry of a record
  abbrev pub read : Record 16 → Entry
  read r = numbered_entry b h r.place (event_of r.bytes.now)

  -- the entries of the records that are still to come
  abbrev to_come : Records 16 → List Entry
  to_come s = map (λ k. numbered_entry b h k (event_of (part 16 s.file.now s.start k))) (range_with_len s.at (s.count - s.at))

  none_to_come : (s t : Records 16) → Next 16 s None t → length (to_come s) ≡ 0
  none_to_come s t n = length-map-range_with_len _ s.at (s.count - s.at) ∙ omega (arith, n.answer)

  one_to_come : (s : Records 16) (r : Record 16) (t : Records 16) → Next 16 s (Some r) t → to_come s ≡ read r ∷ to_come t
  one_to_come s r t n =
      let more = lt-leb _ _ n.answer.0 in
      let next : t.at ≡ s.at + 1 = rw more at n.goes_on in
      let left : s.count - s.at ≡ suc (t.count - t.at) = omega (arith, n.answer.0, n.same_count) in
      simp (left, next, n.same_file, n.same_start, n.answer.1, n.answer.2)

  its_day : (t : Bool) → map (λ k. numbered_entry b h k (event_of (part 16 b (cond t h.events_at 0) k))) (range_with_len 0 (cond t h.events 0 - 0)) ≡ map (entry_at b h) (range_with_len 0 (cond t h.events 0))
  its_day true = let none : h.events - 0 ≡ h.events = omega arith in rw none refl
  its_day false = refl

  -- before the first, they are the day
  all_to_come : (s : Records 16) → Over 16 b h.events_at h.events s → to_come s ≡ day_of b h
  all_to_come s o = simp (o.its_file, o.its_start, o.its_count, o.at_first) (its_day (fits 16 b h.events_at h.events))

  pub yields_day : (s : Records 16) → Over 16 b h.events_at h.events s → YieldsList (λ s r t. Next 16 s r t) read s (day_of b h)
  yields_day s o = subst (YieldsList (λ s r t. Next 16 s r t) read s) (all_to_come s o) (YieldsList-from_shown (λ s r t. Next 16 s r t) read to_come none_to_come one_to_come s)
