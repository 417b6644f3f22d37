-- Halt summaries: how the halts and resumptions of a run meet.
use Rattle.std.specs.Prelude.{◌≡◌, ℕ, ◌+◌, ◌-◌, min, Bool, cond, ◌&&◌, List, [], ◌∷◌, ◌++◌, length, Some, None, codes, decimal, Option, ◌==◌, nat_le}
use Rattle.records.specs.declared.record.Effect.{Effect}
use Rattle.records.specs.declared.record.Effect.TheVariants.{Nothing, Halt, Resumption}
use Rattle.kinds.specs.declared.halt_summary.HaltCounts.{HaltCounts}
use Rattle.kinds.specs.declared.halt_summary.HaltSummary.{HaltSummary}
use Rattle.kinds.specs.declared.kind.Entry.{Entry}

-- counts that a run can have: at most 65,536 events, and no more resumptions and halts than events
abbrev pub possible : HaltCounts → Bool
possible k = nat_le (k.unmatched + k.pending) k.events && nat_le k.events 65536

-- what a summary is read as: impossible counts stand for an over-long run
abbrev pub counts : Option HaltCounts → Option HaltCounts
counts None = None
counts (Some k) = cond (possible k) (Some k) None

-- the counts of a run and the next: the resumptions of the next end halts that are still open
abbrev pub met : HaltCounts → HaltCounts → HaltCounts
met x y = record {
  events = x.events + y.events;
  unmatched = x.unmatched + y.unmatched - min x.pending y.unmatched;
  pending = x.pending + y.pending - min x.pending y.unmatched;
}

-- both together, unless they are too long
abbrev pub summed : Option HaltCounts → Option HaltCounts → Option HaltCounts
summed None y = None
summed (Some x) None = None
summed (Some x) (Some y) = cond (nat_le (x.events + y.events) 65536) (Some (met x y)) None

abbrev pub summed_up : HaltSummary → HaltSummary → HaltSummary
summed_up x y = record { stored = summed (counts x.stored) (counts y.stored) }

-- the counts of an event, by its code's effect
abbrev pub counts_of : Option Effect → HaltCounts
counts_of None = record { events = 1; unmatched = 0; pending = 0 }
counts_of (Some Nothing) = record { events = 1; unmatched = 0; pending = 0 }
counts_of (Some Halt) = record { events = 1; unmatched = 0; pending = 1 }
counts_of (Some Resumption) = record { events = 1; unmatched = 1; pending = 0 }

-- the summary of an event
abbrev pub summary_of : Entry → HaltSummary
summary_of e = record { stored = Some (counts_of e.code.effect) }

-- a clerk who walks the events notes how many halts are open, and how many resumptions met none
pub record Clerk : Type 0 where
  pub unmet : ℕ
  pub halts : ℕ

-- at each event: a halt is one more that is open, a resumption ends one or meets none
abbrev pub noted : Option Effect → Clerk → Clerk
noted None k = k
noted (Some Nothing) k = k
noted (Some Halt) k = record { unmet = k.unmet; halts = k.halts + 1 }
noted (Some Resumption) k = record { unmet = cond (k.halts == 0) (k.unmet + 1) k.unmet; halts = k.halts - 1 }

-- the notes at the end of a walk that began with the notes k
abbrev pub walked : Clerk → List Entry → Clerk
walked k [] = k
walked k (e ∷ es) = walked (noted e.code.effect k) es

-- the notes of a walk over a run
abbrev pub clerk : List Entry → Clerk
clerk es = walked (record { unmet = 0; halts = 0 }) es

-- the summary of a run has the clerk's notes, and is over-long just where there are more than 65,536 events
abbrev pub Tallies : List Entry → HaltSummary → Type 0
Tallies es m =
    m.stored ≡ cond (nat_le (length es) 65536) (Some (record { events = length es; unmatched = (clerk es).unmet; pending = (clerk es).halts })) None

abbrev pub counts_text : Option HaltCounts → List ℕ
counts_text None = codes "over-long"
counts_text (Some k) = decimal k.unmatched ++ (codes " " ++ decimal k.pending)

-- the resumptions that met no halt and the halts still open, or `over-long`
abbrev pub halt_text : HaltSummary → List ℕ
halt_text m = counts_text (counts m.stored)
