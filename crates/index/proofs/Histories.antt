-- One call on a table that stands for a list, and whole histories.
use Rattle.std.proofs.Common.{◌≡◌, ℕ, ◌+◌, ◌^◌, ◌<◌, ◌≤◌, List, length, take, None, Ok, Err, Result, sym, refl, ap, ◌∙◌, arith}
use Rattle.std.specs.List.{slice_get}
use Rattle.std.proofs.lemmas.Bool.{lt-ltb, le-ltb}
use Rattle.scheme.specs.Plan.{Plan, Sound}
use Rattle.scheme.specs.Table.{Stands, Filled}
use Rattle.scheme.specs.declared.Piece.{Piece}
use Rattle.scheme.specs.declared.Answer.{Answer}
use Rattle.scheme.proofs.Covering.{covers_product}
use Rattle.scheme.proofs.Standing.{filled_stands, stands_room, renewed_stands}
use Rattle.index.specs.declared.fault.IndexFault.{IndexFault}
use Rattle.index.specs.Refusals.{first_of, table_refusal, run_refusal, item_refusal}
use Rattle.index.specs.Calls.{Queried, Updated, Answered, Amended}
use Rattle.index.specs.History.{Call, update, Reply, History, none, queries, updates, becomes, finally, Faithful, Lasting}
use Rattle.index.proofs.Refusing.{both_passed, room_table, run_passed, item_passed, item_denied}

module _ {A : Type 0} (op : A → A → A) (assoc : (a b c : A) → op (op a b) c ≡ op a (op b c)) (plan : Plan) (sound : Sound plan) (n : ℕ) (some : 0 < n) (few : n ≤ 65536)
    (small : (plan.part n).size < 2 ^ 40) where
  -- a table that stands is long enough
  long : (items table : List A) → Stands op plan n items table → table_refusal plan n (length table) ≡ None
  long items table s = room_table plan n (length table) small (stands_room op plan sound n some few items table s)

  -- a query on a table that stands for a list answers from the list
  pub query_answered : (items table : List A) (i j : ℕ) (trace : List Piece) (reply : Result (Answer A) IndexFault) (trace' : List Piece) → Stands op plan n items table
      → Queried op plan n table i j trace reply trace' → Answered op plan n items table i j trace reply trace'
  query_answered items table i j trace (Ok answer) trace' s q =
      let passed : run_refusal plan n i j (length trace) ≡ None = (both_passed (table_refusal plan n (length table)) (run_refusal plan n i j (length trace)) q.0).1 in
      let run : (i ≤ j) × (j < n) × (length (plan.pieces n i (j + 1)) ≤ length trace) = run_passed plan n i j (length trace) passed in
      let up : i < j + 1 = omega (arith, run.0) in
      let end : j + 1 ≤ n = omega (arith, run.1) in
      let cover = sound.covered n i (j + 1) few up end in (
        passed,
        record {
          value = sym (covers_product op assoc (plan.part n) items table n (sound.within n some few) s.holds i (j + 1) (plan.pieces n i (j + 1)) cover) ∙ q.1.combined;
          covers = cover;
          few = sound.few n i (j + 1) few up end;
          drawn = q.1;
        },
      )
  query_answered items table i j trace (Err fault) trace' s q = record {
    reason = ap (λ o. first_of o (run_refusal plan n i j (length trace))) (sym (long items table s)) ∙ q.reason;
    unchanged = q.unchanged;
  }

  -- an update on a table that stands for a list leaves it in step
  pub update_amended : (items table : List A) (p : ℕ) (x : A) (reply : Result (Unit {0}) IndexFault) (table' : List A) → Stands op plan n items table
      → Updated op plan n table p x reply table' → Amended op plan n items table p x reply table'
  update_amended items table p x (Ok _) table' s u =
      ((both_passed _ _ u.0).1, renewed_stands op plan sound n some few items table table' p x s u.1, u.1.past)
  update_amended items table p x (Err fault) table' s u = record {
    reason = ap (λ o. first_of o (item_refusal n p)) (sym (long items table s)) ∙ u.reason;
    unchanged = u.unchanged;
  }

  -- after an update the table stands for what the list became
  amended_stands : (items table : List A) (p : ℕ) (x : A) (reply : Result (Unit {0}) IndexFault) (table' : List A) → Stands op plan n items table
      → Amended op plan n items table p x reply table' → Stands op plan n (becomes n items (update p x)) table'
  amended_stands items table p x (Ok _) table' s a = rw (lt-ltb p n (item_passed n p a.0)) a.1
  amended_stands items table p x (Err fault) table' s a = rw (le-ltb p n (item_denied n p _ a.reason), a.unchanged) s

  amended_past : (items table : List A) (p : ℕ) (x : A) (reply : Result (Unit {0}) IndexFault) (table' : List A)
      → Amended op plan n items table p x reply table' → (c : ℕ) → (plan.part n).size ≤ c → slice_get table' c ≡ slice_get table c
  amended_past items table p x (Ok _) table' a = a.2
  amended_past items table p x (Err fault) table' a = λ c h. ap (λ t. slice_get t c) a.unchanged

  pub history_faithful : (items : List A) {table end : List A} {calls : List (Call A)} {replies : List (Reply A)} (h : History op plan n table calls replies end)
      → Stands op plan n items table → Faithful items h
  history_faithful items none s = tt
  history_faithful items (queries step rest) s = (query_answered items _ _ _ _ _ _ s step, history_faithful items rest s)
  history_faithful items (updates step rest) s =
      let amended = update_amended items _ _ _ _ _ s step in
      (amended, history_faithful (becomes n items (update _ _)) rest (amended_stands items _ _ _ _ _ s amended))

  pub history_stands : (items : List A) {table end : List A} {calls : List (Call A)} {replies : List (Reply A)} → History op plan n table calls replies end
      → Stands op plan n items table → Stands op plan n (finally n items calls) end
  history_stands items none s = s
  history_stands items (queries step rest) s = history_stands items rest s
  history_stands items (updates step rest) s =
      history_stands (becomes n items (update _ _)) rest (amended_stands items _ _ _ _ _ s (update_amended items _ _ _ _ _ s step))

  pub history_past : (items : List A) {table end : List A} {calls : List (Call A)} {replies : List (Reply A)} → History op plan n table calls replies end
      → Stands op plan n items table → (c : ℕ) → (plan.part n).size ≤ c → slice_get end c ≡ slice_get table c
  history_past items none s c h = refl
  history_past items (queries step rest) s c h = history_past items rest s c h
  history_past items (updates step rest) s c h =
      let amended = update_amended items _ _ _ _ _ s step in
      history_past (becomes n items (update _ _)) rest (amended_stands items _ _ _ _ _ s amended) c h ∙ amended_past items _ _ _ _ _ amended c h

  -- the law of a table that was filled
  pub filled_lasting : (table after : List A) → n ≤ length table → Filled op (take n table) (plan.part n) 0 table after → Lasting op plan n table after
  filled_lasting table after room f =
      let s = filled_stands op plan sound n some few table after room f in
      record {
        told = omega arith;
        always = λ calls replies end h. record {
          faithful = history_faithful (take n table) h s;
          stands = history_stands (take n table) h s;
          past = λ c l. history_past (take n table) h s c l ∙ f.above c (omega arith);
        };
      }
