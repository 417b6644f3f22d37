-- Parts laid end to end: their cells, intervals and covers, and what was filled.
use Rattle.std.proofs.Common.{◌≡◌, ℕ, zero, suc, ◌+◌, ◌-◌, ◌*◌, ◌<◌, ◌≤◌, List, [], ◌∷◌, ◌++◌, sym, refl, ap, ◌∙◌, ⊎_elim, add-zero, suc-mul, zero-mul, add-one, arith}
use Rattle.std.proofs.lemmas.Bool.{lt-ltb, le-ltb, cases_lt}
use Rattle.scheme.specs.Plan.{Interval, Part, Covers, done, goes, Within}
use Rattle.scheme.specs.Table.{Filled, Holds}
use Rattle.layer_parts.specs.Parts.{nothing, beside, laid, HasAt, child_start, lifted}
use Rattle.layer_parts.specs.Layout.{moved}

-- ---- places

pub span_left : (p q : Part) (c : ℕ) → c < p.size → (beside p q).span c ≡ p.span c
span_left p q c h = rw (lt-ltb c p.size h)

pub span_right : (p q : Part) (c : ℕ) → (beside p q).span (p.size + c) ≡ q.span c
span_right p q c =
    let e : p.size + c - p.size ≡ c = omega arith in
    rw (le-ltb (p.size + c) p.size (omega arith), e)

pub laid_more : (parts : ℕ → Part) (k : ℕ) → laid parts (k + 1) ≡ beside (laid parts k) (parts k)
laid_more parts k = rw add-one

laid_rises : (parts : ℕ → Part) (k m : ℕ) → (laid parts k).size ≤ (laid parts (k + m)).size
laid_rises parts k zero = rw add-zero (omega arith)
laid_rises parts k (suc m) =
    let e : k + suc m ≡ suc (k + m) = omega arith in
    rw e (omega (arith, laid_rises parts k m))

-- the parts up to one of them are no more than all
pub laid_room : (parts : ℕ → Part) (k count : ℕ) → k < count → (laid parts k).size + (parts k).size ≤ (laid parts count).size
laid_room parts k count h =
    let e : k + 1 + (count - (k + 1)) ≡ count = omega arith in
    omega (arith, ap (λ (p : Part). p.size) (laid_more parts k), rw e at (laid_rises parts (k + 1) (count - (k + 1))))

-- parts of one size lie at its multiples
pub laid_same : (parts : ℕ → Part) (s k : ℕ) → ((i : ℕ) → i < k → (parts i).size ≡ s) → (laid parts k).size ≡ k * s
laid_same parts s zero f = sym (zero-mul s)
laid_same parts s (suc k) f = omega (arith, laid_same parts s k (λ i h. f i (omega arith)), f k (omega arith), suc-mul k s)

pub span_laid : (parts : ℕ → Part) (k count c : ℕ) → k < count → c < (parts k).size → (laid parts count).span ((laid parts k).size + c) ≡ (parts k).span c
span_laid parts k zero c h l = absurd (omega arith)
span_laid parts k (suc count) c h l = ⊎_elim
    (λ (before : k < count). span_left (laid parts count) (parts count) ((laid parts k).size + c) (omega (arith, laid_room parts k count before)) ∙ span_laid parts k count c before l)
    (λ (last : count ≤ k). let e : k ≡ count = omega arith in rw e (span_right (laid parts count) (parts count) c))
    (cases_lt k count)

-- where a cell of parts laid end to end is: of which part, and which of its cells
pub record Located (parts : ℕ → Part) (count c : ℕ) : Type 0 where
  pub part : ℕ
  pub cell : ℕ
  pub counted : part < count
  pub inside : cell < (parts part).size
  pub at : c ≡ (laid parts part).size + cell

pub locate : (parts : ℕ → Part) (count c : ℕ) → c < (laid parts count).size → Located parts count c
locate parts zero c h = absurd (omega arith)
locate parts (suc count) c h = ⊎_elim
    (λ (l : c < (laid parts count).size).
    let r = locate parts count c l in
    record { part = r.part; cell = r.cell; counted = omega (arith, r.counted); inside = r.inside; at = r.at })
    (λ (l : (laid parts count).size ≤ c). record { part = count; cell = c - (laid parts count).size; counted = omega arith; inside = omega arith; at = omega arith })
    (cases_lt c (laid parts count).size)

-- ---- intervals within the events

pub within_beside : (n : ℕ) (p q : Part) → Within n p → Within n q → Within n (beside p q)
within_beside n p q f g c h = ⊎_elim
    (λ (left : c < p.size). rw (lt-ltb c p.size left) (f c left))
    (λ (right : p.size ≤ c). rw (le-ltb c p.size right) (g (c - p.size) (omega arith)))
    (cases_lt c p.size)

pub within_laid : (n : ℕ) (parts : ℕ → Part) (count : ℕ) → ((k : ℕ) → k < count → Within n (parts k)) → Within n (laid parts count)
within_laid n parts zero f c h = absurd (omega arith)
within_laid n parts (suc count) f c h = within_beside n (laid parts count) (parts count) (within_laid n parts count (λ k l. f k (omega arith))) (f count (omega arith)) c h

-- ---- covers

-- a cover by cells of a part, as cells of a larger one
pub covers_moved : (p q : Part) (at i j : ℕ) (cs : List ℕ) → HasAt at p q → Covers p i j cs → Covers q i j (moved at cs)
covers_moved p q at i j [] move done = done
covers_moved p q at i j (c ∷ cs) move (goes h e rest) =
    goes (move c h).0 (ap (λ (s : Interval). s.from) (move c h).1 ∙ e)
    (rw (move c h).1 (covers_moved p q at (p.span c).to j cs move rest))

pub covers_append : (p : Part) (i j k : ℕ) (cs ds : List ℕ) → Covers p i j cs → Covers p j k ds → Covers p i k (cs ++ ds)
covers_append p i j k [] ds done d = d
covers_append p i j k (c ∷ cs) ds (goes h e rest) d = goes h e (covers_append p (p.span c).to j k cs ds rest d)

-- a cover of children is one of their events
pub covers_lifted : (p : Part) (n start w i j : ℕ) (cs : List ℕ) → Covers p i j cs → Covers (lifted p n start w) (child_start n start w i) (child_start n start w j) cs
covers_lifted p n start w i j [] done = done
covers_lifted p n start w i j (c ∷ cs) (goes h e rest) =
    goes h (ap (child_start n start w) e) (covers_lifted p n start w (p.span c).to j cs rest)

pub covers_none : (p : Part) (i j : ℕ) → i ≡ j → Covers p i j []
covers_none p i j e = rw e done

pub covers_from : (p : Part) (i k j : ℕ) (cs : List ℕ) → i ≡ k → Covers p k j cs → Covers p i j cs
covers_from p i k j cs e c = rw e c

pub covers_to : (p : Part) (i k j : ℕ) (cs : List ℕ) → k ≡ j → Covers p i k cs → Covers p i j cs
covers_to p i k j cs e c = rw e at c

-- ---- what is filled, and what holds

pub filled_none : {A : Type 0} (op : A → A → A) (xs : List A) (at : ℕ) (t : List A) → Filled op xs nothing at t t
filled_none op xs at t = record { holds = λ c h. absurd (omega arith); below = λ c h. refl; above = λ c h. refl }

-- a part and then the one beside it
pub filled_beside : {A : Type 0} (op : A → A → A) (xs : List A) (p q : Part) (at : ℕ) (before t after : List A)
    → Filled op xs p at before t → Filled op xs q (at + p.size) t after → Filled op xs (beside p q) at before after
filled_beside op xs p q at before t after f g = record {
  holds = λ c h. ⊎_elim
      (λ (left : c < p.size). rw (lt-ltb c p.size left) (g.below (at + c) (omega arith) ∙ f.holds c left))
      (λ (right : p.size ≤ c).
      let e : at + c ≡ at + p.size + (c - p.size) = omega arith in
      rw (le-ltb c p.size right, e) (g.holds (c - p.size) (omega arith)))
      (cases_lt c p.size);
  below = λ c h. g.below c (omega arith) ∙ f.below c h;
  above = λ c h. g.above c (omega arith) ∙ f.above c (omega arith);
}

-- one part more
pub filled_more : {A : Type 0} (op : A → A → A) (xs : List A) (parts : ℕ → Part) (k at : ℕ) (before t after : List A)
    → Filled op xs (laid parts k) at before t → Filled op xs (parts k) (at + (laid parts k).size) t after → Filled op xs (laid parts (k + 1)) at before after
filled_more op xs parts k at before t after f g = rw (laid_more parts k) (filled_beside op xs (laid parts k) (parts k) at before t after f g)

module _ {A : Type 0} (op : A → A → A) (xs : List A) (p q : Part) (at : ℕ) (t : List A) where
  pub holds_left : Holds op xs (beside p q) at t → Holds op xs p at t
  holds_left h c l = rw (span_left p q c l) at (h c (omega arith))

  pub holds_right : Holds op xs (beside p q) at t → Holds op xs q (at + p.size) t
  holds_right h c l =
      let e : at + p.size + c ≡ at + (p.size + c) = omega arith in
      rw e (rw (span_right p q c) at (h (p.size + c) (omega arith)))

  pub holds_both : Holds op xs p at t → Holds op xs q (at + p.size) t → Holds op xs (beside p q) at t
  holds_both f g c h = ⊎_elim
      (λ (left : c < p.size). rw (lt-ltb c p.size left) (f c left))
      (λ (right : p.size ≤ c).
      let e : at + c ≡ at + p.size + (c - p.size) = omega arith in
      rw (le-ltb c p.size right, e) (g (c - p.size) (omega arith)))
      (cases_lt c p.size)
