-- The cells of one step of a layer of blocks, as parts laid end to end. The events are cut into parents of `wide` events, and
-- each parent into children of w events, the last ones cut at n.
use Rattle.std.specs.Prelude.{◌≡◌, ℕ, zero, suc, ◌+◌, ◌-◌, ◌*◌, ◌/◌, ◌%◌, ◌<◌, ◌≤◌, min, cond, nat_lt}
use Rattle.scheme.specs.Plan.{Interval, Part, single}
use Rattle.scheme.specs.Blocks.{start_of_block, end_of_block}

-- ---- parts laid end to end

abbrev pub nothing : Part
nothing = record { size = 0; span = single }

-- one part, and right after it another
abbrev pub beside : (p q : Part) → Part
beside p q = record { size = p.size + q.size; span = λ c. cond (nat_lt c p.size) (p.span c) (q.span (c - p.size)) }

-- the first k of many parts, laid end to end
abbrev pub laid : (parts : ℕ → Part) (k : ℕ) → Part
laid parts zero = nothing
laid parts (suc k) = beside (laid parts k) (parts k)

-- the part q has the cells of p from `at` on
abbrev pub HasAt : (at : ℕ) (p q : Part) → Type 0
HasAt at p q = (c : ℕ) → c < p.size → (at + c < q.size) × (q.span (at + c) ≡ p.span c)

-- ---- the parts of a step

-- each event alone
abbrev pub items : (n : ℕ) → Part
items n = record { size = n; span = single }

-- for each event, from its child's first event to it
abbrev pub prefixes : (n w : ℕ) → Part
prefixes n w = record { size = n; span = λ p. record { from = start_of_block w p; to = p + 1 } }

-- for each event, from it to its child's last event
abbrev pub suffixes : (n w : ℕ) → Part
suffixes n w = record { size = n; span = λ p. record { from = p; to = end_of_block n w p } }

-- where child q begins, of n events, of the parent that begins at `start`
abbrev pub child_start : (n start w q : ℕ) → ℕ
child_start n start w q = min n (start + q * w)

-- the events of a run of children of the parent that begins at `start`
abbrev pub events_of_children : (n start w : ℕ) (children : Interval) → Interval
events_of_children n start w s = record { from = child_start n start w s.from; to = child_start n start w s.to }

-- a table over the children of one parent, each run of children taken as a run of events
abbrev pub lifted : (p : Part) (n start w : ℕ) → Part
lifted p n start w = record { size = p.size; span = λ c. events_of_children n start w (p.span c) }

-- how many children the parent has that begins at `start`
abbrev pub count_of_children : (n start wide w : ℕ) → ℕ
count_of_children n start wide w = (min wide (n - start) + w - 1) / w

-- how many parents there are
abbrev pub parent_count : (n wide : ℕ) → ℕ
parent_count n wide = (n + wide - 1) / wide

-- the inner table of parent k; `part m` is the inner scheme's table over m children
abbrev pub inner_table : (part : ℕ → Part) (n wide w k : ℕ) → Part
inner_table part n wide w k = lifted (part (count_of_children n (k * wide) wide w)) n (k * wide) w

-- the inner tables of the first k parents
abbrev pub inner_tables : (part : ℕ → Part) (n wide w k : ℕ) → Part
inner_tables part n wide w k = laid (inner_table part n wide w) k

-- the cells of a step: a prefix cell and a suffix cell for each event, and the inner table of each parent
abbrev pub step_part : (part : ℕ → Part) (n wide w : ℕ) → Part
step_part part n wide w = beside (beside (prefixes n w) (suffixes n w)) (inner_tables part n wide w (parent_count n wide))

-- ---- what a step is given

-- parents of `wide` events, cut into children of w
pub record Widths (n wide w : ℕ) : Type 0 where
  pub some : 0 < n
  pub few : n ≤ 65536
  pub narrow : w ≤ 65536
  pub positive : 0 < w
  pub broad : wide ≤ 65536
  pub more : 0 < wide
  pub whole : wide % w ≡ 0

-- m blocks of w events each begin at `start`, where a block begins, and the last of them begins below n
pub record Children (n start w m : ℕ) : Type 0 where
  pub few : n ≤ 65536
  pub narrow : w ≤ 65536
  pub wide : 0 < w
  pub some : 0 < m
  pub last : start + m * w < n + w
  pub aligned : start_of_block w start ≡ start

-- the cells of an inner table are cells of the whole from `at` on, with the events of their children
abbrev pub LiftedAt : (n at start w : ℕ) (p outer : Part) → Type 0
LiftedAt n at start w p outer = (c : ℕ) → c < p.size → outer.span (at + c) ≡ events_of_children n start w (p.span c)
