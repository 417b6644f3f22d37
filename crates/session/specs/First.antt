-- The first rule that bytes break, with its place.
use Rattle.std.specs.Prelude.{◌≡◌, ℕ, ◌<◌, ◌⊎◌, List, length}
use Rattle.records.specs.Fields.{header_of}
use Rattle.session.specs.declared.fault.FileFault.{FileFault}
use Rattle.session.specs.declared.fault.FileFault.TheVariants.{Length, Edition, Count, Sections, Code, Event, Time}
use Rattle.session.specs.Rules.{Whole, EditionOne, FewCodes, FewEvents, SectionsLie, Headed, GoodCode, GoodEvent, InOrder, CodesGood, EventsGood}

-- k is the first place below n at which P does not hold
abbrev pub Least : (ℕ → Type 0) → ℕ → ℕ → Type 0
Least P n k = (k < n) × ((j : ℕ) → j < k → P j) × (P k → ⊥)

-- the fault is the file's first: the rules before its own hold of the whole file, and its own is broken, at its place first
abbrev pub First : List ℕ → FileFault → Type 0
First b (Length n) = (Whole b → ⊥) × (n ≡ length b)
First b Edition = Whole b × (EditionOne b → ⊥)
First b (Count n) = Whole b × EditionOne b × (((FewCodes b → ⊥) × (n ≡ 2)) ⊎ (FewCodes b × (FewEvents b → ⊥) × (n ≡ 4)))
First b Sections = Whole b × EditionOne b × FewCodes b × FewEvents b × (SectionsLie b → ⊥)
First b (Code k) = Headed b × Least (GoodCode b) (header_of b).codes k
First b (Event k) = Headed b × CodesGood b × Least (GoodEvent b) (header_of b).events k
First b (Time k) = Headed b × CodesGood b × EventsGood b × Least (InOrder b) (header_of b).events k
