-- The computed refusal is that of the first fault.
use Rattle.std.proofs.Common.{◌≡◌, ℕ, zero, suc, ◌<◌, ◌≤◌, Bool, true, false, cond, leb, List, length, Some, None, Ok, Err, Decides, Option, Result, refl, ap, ◌∙◌, inl, inr, arith, MatchOption, MatchResult}
use Rattle.std.specs.Option.{option_or}
use Rattle.std.proofs.lemmas.Bool.Decides.{Decides-eqb, Decides-int_eq, Decides-ltb, Decides-and, Decides-or, Decides-like}
use Rattle.std.proofs.lemmas.Bool.{leb-true, le-leb, false≢true}
use Rattle.session.specs.declared.fault.FileFault.{FileFault}
use Rattle.session.specs.declared.fault.FileFault.TheVariants.{Length, Edition, Count, Sections, Code, Event, Time}
use Rattle.records.specs.Fields.{header_of}
use Rattle.session.specs.Rules.{Whole, FewCodes, FewEvents, SectionsLie, Headed, WellFormed, GoodCode, GoodEvent, InOrder}
use Rattle.session.specs.First.{Least, First}
use Rattle.session.specs.Computed.{whole?, few_codes?, few_events?, sections?, headed?, code?, event?, order?, first_not, unless, refused_at_first, in_times, in_events, first_refusal}
use Rattle.session.specs.Opened.{refusal_in}
use Rattle.session.specs.Faults.{Refusal, refusal_of}
use Rattle.session.proofs.Once.{no_fault, one_fault}
use Rattle.session.proofs.Turn.{one_more}

decides_leb : (x y : ℕ) → Decides (leb x y) (x ≤ y)
decides_leb x y = (leb-true x y, le-leb x y)

whole_decided : (b : List ℕ) → Decides (whole? b) (Whole b)
whole_decided b =
    Decides-like (whole? b) (λ p. record { headed = p.0; told = p.1 }) (λ w. (w.headed, w.told)) (Decides-and _ _ (decides_leb 20 _) (Decides-eqb _ _))

few_codes_decided : (b : List ℕ) → Decides (few_codes? b) (FewCodes b)
few_codes_decided b = Decides-and _ _ (decides_leb 1 _) (decides_leb _ 64)

few_events_decided : (b : List ℕ) → Decides (few_events? b) (FewEvents b)
few_events_decided b = Decides-and _ _ (decides_leb 1 _) (decides_leb _ 65536)

sections_decided : (b : List ℕ) → Decides (sections? b) (SectionsLie b)
sections_decided b =
    Decides-like (sections? b)
    (λ p. record { codes_begin = p.0; codes_fit = p.1.0; events_begin = p.1.1.0; events_fit = p.1.1.1.0; apart = p.1.1.1.1 })
    (λ s. (s.codes_begin, (s.codes_fit, (s.events_begin, (s.events_fit, s.apart)))))
    (Decides-and _ _ (decides_leb 20 _) (Decides-and _ _ (decides_leb _ _) (Decides-and _ _ (decides_leb 20 _) (Decides-and _ _ (decides_leb _ _) (Decides-or _ _ (decides_leb _ _) (decides_leb _ _))))))

pub headed_decided : (b : List ℕ) → Decides (headed? b) (Headed b)
headed_decided b =
    Decides-like (headed? b)
    (λ p. record { whole = p.0; edition = p.1.0; few_codes = p.1.1.0; few_events = p.1.1.1.0; sections = p.1.1.1.1 })
    (λ h. (h.whole, (h.edition, (h.few_codes, (h.few_events, h.sections)))))
    (Decides-and _ _ (whole_decided b) (Decides-and _ _ (Decides-eqb _ 1) (Decides-and _ _ (few_codes_decided b) (Decides-and _ _ (few_events_decided b) (sections_decided b)))))

itself : (t : Bool) → Decides t (t ≡ true)
itself t = (λ e. e, λ e. e)

code_decided : (b : List ℕ) (k : ℕ) → Decides (code? b k) (GoodCode b k)
code_decided b k =
    Decides-like (code? b k) (λ p. record { effect = p.0; factor = p.1.0; reserved = p.1.1 }) (λ l. (l.effect, (l.factor, l.reserved)))
    (Decides-and _ _ (itself _) (Decides-and _ _ (decides_leb _ 65520) (Decides-eqb _ 0)))

event_decided : (b : List ℕ) (k : ℕ) → Decides (event? b k) (GoodEvent b k)
event_decided b k =
    Decides-like (event? b k) (λ p. record { time = p.0; code = p.1.0; price = elim p.1.1 [ inl f ↦ inl f | inr q ↦ inr (q.0, q.1.0, q.1.1) ] })
    (λ l. (l.time, (l.code, elim l.price [ inl f ↦ inl f | inr q ↦ inr (q.0, (q.1, q.2)) ])))
    (Decides-and _ _ (decides_leb _ 86399999) (Decides-and _ _ (Decides-ltb _ _)
    (Decides-or _ _ (Decides-eqb _ 1) (Decides-and _ _ (Decides-eqb _ 0) (Decides-and _ _ (Decides-int_eq _ _) (Decides-eqb _ 0))))))

order_decided : (b : List ℕ) (k : ℕ) → Decides (order? b k) (InOrder b k)
order_decided b zero = Decides-like (order? b zero) (λ h z. absurd (omega arith)) (λ _. omega arith) (decides_leb _ _)
order_decided b (suc k) = Decides-like (order? b (suc k)) (λ h _. h) (λ o. o (omega arith)) (decides_leb _ _)

-- one step of the ladder
by_test : {P : Type 0} (Q : Option Refusal → Type 0) (t : Bool) (n k : ℕ) (rest : Option Refusal) → Decides t P → ((P → ⊥) → Q (Some (record { number = n; place = k }))) → (P → Q rest) → Q (unless t n k rest)
by_test Q true n k rest d broken holds = holds (d.0 refl)
by_test Q false n k rest d broken holds = broken (λ p. false≢true (d.1 p))

search_more : (P : ℕ → Type 0) (n : ℕ) (o : Option ℕ) (t : Bool) → Decides t (P n) → MatchOption o ((k : ℕ) → k < n → P k) (Least P n) → MatchOption (option_or o (cond t None (Some n))) ((k : ℕ) → k < suc n → P k) (Least P (suc n))
search_more P n None true d all = one_more P n (suc n) (omega arith) all (d.0 refl)
search_more P n None false d all = (omega arith, all, λ p. false≢true (d.1 p))
search_more P n (Some k) t d l = (omega (arith, l.0), l.1, l.2)

searched : {P : ℕ → Type 0} (p : ℕ → Bool) → ((k : ℕ) → Decides (p k) (P k)) → (n : ℕ) → MatchOption (first_not p n) ((k : ℕ) → k < n → P k) (Least P n)
searched p each zero = λ k h. absurd (omega arith)
searched {P} p each (suc n) = search_more P n (first_not p n) (p n) (each n) (searched {P = P} p each n)

by_search : {P : ℕ → Type 0} (Q : Option Refusal → Type 0) (n : ℕ) (o : Option ℕ) (number : ℕ) (rest : Option Refusal)
    → MatchOption o ((k : ℕ) → k < n → P k) (Least P n) → ((k : ℕ) → Least P n k → Q (Some (record { number = number; place = k }))) → (((k : ℕ) → k < n → P k) → Q rest) → Q (refused_at_first o number rest)
by_search Q n None number rest s broken holds = holds s
by_search Q n (Some k) number rest s broken holds = broken k s

-- a well-formed file is not refused, and another is refused by its first fault
abbrev Told : List ℕ → Option Refusal → Type 0
Told b o = MatchOption o (WellFormed b) (λ q. (f : FileFault) × First b f × (refusal_of f ≡ q))

decided : (b : List ℕ) → Told b (first_refusal b)
unfolding first_refusal
decided b =
    by_test (Told b) _ _ _ _ (whole_decided b) (λ n. (Length (length b), (n, refl), refl)) (λ w.
    by_test (Told b) _ _ _ _ (Decides-eqb _ 1) (λ n. (Edition, (w, n), refl)) (λ e.
    by_test (Told b) _ _ _ _ (few_codes_decided b) (λ n. (Count 2, (w, e, inl (n, refl)), refl)) (λ fc.
    by_test (Told b) _ _ _ _ (few_events_decided b) (λ n. (Count 4, (w, e, inr (fc, n, refl)), refl)) (λ fe.
    by_test (Told b) _ _ _ _ (sections_decided b) (λ n. (Sections, (w, e, fc, fe, n), refl)) (λ s.
    let h : Headed b = record { whole = w; edition = e; few_codes = fc; few_events = fe; sections = s } in
    by_search (Told b) _ (first_not (code? b) (header_of b).codes) 5 (in_events b) (searched _ (code_decided b) (header_of b).codes) (λ k l. (Code k, (h, l), refl)) (λ cs.
    by_search (Told b) _ (first_not (event? b) (header_of b).events) 6 (in_times b) (searched _ (event_decided b) (header_of b).events) (λ k l. (Event k, (h, cs, l), refl)) (λ es.
    by_search (Told b) _ (first_not (order? b) (header_of b).events) 7 None (searched _ (order_decided b) (header_of b).events) (λ k l. (Time k, (h, cs, es, l), refl)) (λ ts.
    let all : WellFormed b = record { header = h; codes = cs; events = es; times = ts } in all))))))))

-- what decides is what is so
agree : {X : Type 0} (b : List ℕ) (o : Option Refusal) (r : Result X FileFault) → Told b o → MatchResult r (λ _. WellFormed b) (First b) → refusal_in r ≡ o
agree b None (Ok x) p q = refl
agree b None (Err f) p q = absurd (no_fault b f q p)
agree b (Some n) (Ok x) p q = absurd (no_fault b p.0 p.1 q)
agree b (Some n) (Err g) p q = ap Some (ap refusal_of (one_fault b g p.0 q p.1) ∙ p.2)

pub told : {X : Type 0} (b : List ℕ) (r : Result X FileFault) → MatchResult r (λ _. WellFormed b) (First b) → refusal_in r ≡ first_refusal b
told b r q = agree b (first_refusal b) r (decided b) q
