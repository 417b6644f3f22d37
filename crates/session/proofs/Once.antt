-- A well-formed file has no fault, and another has one first fault.
use Rattle.std.proofs.Common.{◌≡◌, ℕ, ◌<◌, ◌⊎◌, List, length, is_ok, Ok, Err, Decides, Result, sym, refl, ap, ◌∙◌, inl, inr, arith, MatchResult}
use Rattle.std.proofs.lemmas.Bool.{false≢true}
use Rattle.session.specs.declared.fault.FileFault.{FileFault}
use Rattle.session.specs.declared.fault.FileFault.TheVariants.{Length, Edition, Count, Sections, Code, Event, Time}
use Rattle.records.specs.Fields.{header_of}
use Rattle.session.specs.Rules.{Whole, EditionOne, FewCodes, FewEvents, SectionsLie, WellFormed, GoodCode, GoodEvent, InOrder, CodesGood, EventsGood}
use Rattle.session.specs.First.{Least, First}
use Rattle.session.specs.Opened.{FirstRefused}

pub no_fault : (b : List ℕ) (f : FileFault) → First b f → WellFormed b → ⊥
no_fault b (Length n) p w = p.0 w.header.whole
no_fault b Edition p w = p.1 w.header.edition
no_fault b (Count n) p w = elim p.2 [ inl q ↦ q.0 w.header.few_codes | inr q ↦ q.1 w.header.few_events ]
no_fault b Sections p w = p.4 w.header.sections
no_fault b (Code k) p w = p.1.2 (w.codes k p.1.0)
no_fault b (Event k) p w = p.2.2 (w.events k p.2.0)
no_fault b (Time k) p w = p.3.2 (w.times k p.3.0)

-- the same as a ladder: at each step the rule is broken, or it holds and the step above decides
abbrev Step : Type 0 → Type 0 → Type 0 → Type 0
Step P Here Above = ((P → ⊥) × Here) ⊎ (P × Above)

abbrev Ladder : List ℕ → FileFault → Type 0
Ladder b f =
    Step (Whole b) (f ≡ Length (length b)) (Step (EditionOne b) (f ≡ Edition) (Step (FewCodes b) (f ≡ Count 2) (Step (FewEvents b) (f ≡ Count 4) (Step (SectionsLie b) (f ≡ Sections)
    (Step (CodesGood b) ((k : ℕ) × Least (GoodCode b) (header_of b).codes k × (f ≡ Code k))
    (Step (EventsGood b) ((k : ℕ) × Least (GoodEvent b) (header_of b).events k × (f ≡ Event k))
    ((k : ℕ) × Least (InOrder b) (header_of b).events k × (f ≡ Time k))))))))

not_all : {P : ℕ → Type 0} {n k : ℕ} → Least P n k → ((j : ℕ) → j < n → P j) → ⊥
not_all l all = l.2 (all _ l.0)

climbed : (b : List ℕ) (f : FileFault) → First b f → Ladder b f
climbed b (Length n) p = inl (p.0, ap Length p.1)
climbed b Edition p = inr (p.0, inl (p.1, refl))
climbed b (Count n) p = inr (p.0, inr (p.1, elim p.2 [ inl q ↦ inl (q.0, ap Count q.1) | inr q ↦ inr (q.0, inl (q.1, ap Count q.2)) ]))
climbed b Sections p = inr (p.0, inr (p.1, inr (p.2, inr (p.3, inl (p.4, refl)))))
climbed b (Code k) p = let h = p.0 in inr (h.whole, inr (h.edition, inr (h.few_codes, inr (h.few_events, inr (h.sections, inl (not_all p.1, (k, p.1, refl)))))))
climbed b (Event k) p = let h = p.0 in inr (h.whole, inr (h.edition, inr (h.few_codes, inr (h.few_events, inr (h.sections, inr (p.1, inl (not_all p.2, (k, p.2, refl))))))))
climbed b (Time k) p = let h = p.0 in inr (h.whole, inr (h.edition, inr (h.few_codes, inr (h.few_events, inr (h.sections, inr (p.1, inr (p.2, (k, p.3, refl))))))))

step_once : {P A B C D E : Type 0} → (A → B → E) → (C → D → E) → Step P A C → Step P B D → E
step_once here above (inl p) (inl q) = here p.1 q.1
step_once here above (inl p) (inr q) = absurd (p.0 q.0)
step_once here above (inr p) (inl q) = absurd (q.0 p.0)
step_once here above (inr p) (inr q) = above p.1 q.1

least_once : {P : ℕ → Type 0} {n j k : ℕ} → Least P n j → Least P n k → j ≡ k
least_once {P} {n} {j} {k} p q =
    let up : j < k → ⊥ = λ h. p.2 (q.1 j h) in
    let down : k < j → ⊥ = λ h. q.2 (p.1 k h) in
    omega arith

place_once : {P : ℕ → Type 0} {n : ℕ} {f g : FileFault} (F : ℕ → FileFault) → ((k : ℕ) × Least P n k × (f ≡ F k)) → ((k : ℕ) × Least P n k × (g ≡ F k)) → f ≡ g
place_once F p q = p.2 ∙ ap F (least_once p.1 q.1) ∙ sym q.2

same : {f g h : FileFault} → f ≡ h → g ≡ h → f ≡ g
same p q = p ∙ sym q

pub one_fault : (b : List ℕ) (f g : FileFault) → First b f → First b g → f ≡ g
one_fault b f g p q =
    step_once same (step_once same (step_once same (step_once same (step_once same (step_once (place_once Code) (step_once (place_once Event) (place_once Time))))))) (climbed b f p) (climbed b g q)

-- the two halves of opening, from a result that is either
pub decides : {X : Type 0} (b : List ℕ) (r : Result X FileFault) → MatchResult r (λ _. WellFormed b) (First b) → Decides (is_ok r) (WellFormed b)
decides b (Ok x) w = (λ _. w, λ _. refl)
decides b (Err g) p = (λ e. absurd (false≢true e), λ w. absurd (no_fault b g p w))

pub refuses : {X : Type 0} (b : List ℕ) (r : Result X FileFault) → MatchResult r (λ _. WellFormed b) (First b) → FirstRefused b r
refuses b (Ok x) w = λ f. (λ e. absurd (let z : ◌≡◌ {A = ℕ} 0 1 = cc in omega arith), λ p. absurd (no_fault b f p w))
refuses b (Err g) p = λ f. (λ e. (let s : g ≡ f = cc in rw s at p), λ q. ap Err (one_fault b g f p q))
