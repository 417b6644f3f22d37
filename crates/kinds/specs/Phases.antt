-- Phase maps: eight phases, three bits for each.
use Rattle.std.specs.Prelude.{◌≡◌, ℕ, zero, suc, ◌+◌, ◌-◌, ◌*◌, ◌/◌, ◌%◌, ◌^◌, ◌<◌, List, [], ◌∷◌, map}
use Rattle.kinds.specs.declared.phase_map.PhaseMap.{PhaseMap}
use Rattle.kinds.specs.declared.kind.Entry.{Entry}

-- the phase in bits 3q to 3q + 2
abbrev pub phase_at : ℕ → ℕ → ℕ
phase_at bits q = bits / 2 ^ (3 * q) % 8

-- where a map sends phase q
abbrev pub sends : PhaseMap → ℕ → ℕ
sends f q = phase_at f.bits q

-- the bits of the phases h (8 - k) to h 7, the last one highest
abbrev pub packed : (ℕ → ℕ) → ℕ → ℕ
packed h zero = 0
packed h (suc k) = h (7 - k) + 8 * packed h k

-- first f, then g
unfoldable pub composed : PhaseMap → PhaseMap → PhaseMap
composed f g = record { bits = packed (λ q. sends g (sends f q)) 8 }

-- the map of an event is its code's
abbrev pub phases_of : Entry → PhaseMap
phases_of e = record { bits = e.code.phase_map }

-- phase q passed through the maps of the events in order
abbrev pub passed : List Entry → ℕ → ℕ
passed [] q = q
passed (e ∷ es) q = passed es (phase_at e.code.phase_map q)

-- the map of a run sends each phase to where the events pass it
abbrev pub Passes : List Entry → PhaseMap → Type 0
Passes es m = (q : ℕ) → q < 8 → sends m q ≡ passed es q

-- the phases reached from 0 to 7, a digit for each
abbrev pub phase_text : PhaseMap → List ℕ
phase_text f = map (λ q. 48 + sends f q) (0 ∷ 1 ∷ 2 ∷ 3 ∷ 4 ∷ 5 ∷ 6 ∷ 7 ∷ [])
