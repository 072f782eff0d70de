-- A case of the code's search is the definition's.
use Prim.Native.Nat.{ℕ, ◌+◌, ◌≤◌, ◌<◌}
use mathlib.Core.Path.{◌≡◌, refl, sym, ap, subst, ◌∙◌}
use mathlib.Core.Bool.{Bool, true, false, ◌||◌}
use mathlib.Core.List.{List, [], ◌∷◌, ◌++◌}
use mathlib.Core.Option.{Option, none, some}
use native.Mathlib.Omega.{arith}
use lib.Dec.{leb}
use lib.ListN.{length, get_or}
use borrow.Author.Tests.{le-leb, lt-leb}
use Rattle.layout.specs.Sizes.{verdict_reasons}
use Rattle.checker_result.specs.Statuses.{refusal_m, is_violation_m}
use Rattle.texts.specs.Lists.{is_empty}
use Rattle.texts.specs.Texts.{Text, text, insert_t, sorted_t}
use Rattle.reasons.specs.Kinds as kinds
use Rattle.reasons.specs.Lists.{listed, insert_all, Holds}
use Rattle.reasons.proofs.Listing.{grown}
use Rattle.reasons.specs.Reasons.{render, body, words}
use Rattle.model_spec.specs.Answer.{Answer, answer, refused, ◌>>=◌, accept}
use Rattle.model_spec.specs.Model.{Input, Event, Model}
use Rattle.model_spec.specs.Validate.{check_input}
use Rattle.engine_fields.specs.Fields.{alone}
use Rattle.engine_refinement.specs.Meaning.{Tabled}
use Rattle.engine_refinement.specs.Events.{Among, EventAt}
use Rattle.engine_refinement.proofs.Pool.{no_text, mem_right, among_to}
use Rattle.engine_entry.proofs.Refines.{tb}
use Rattle.checker_spec.specs.Check.{Check, is_violation, checked}
use Rattle.checker_spec.specs.Check as check
use Rattle.checker_spec.specs.Verify as verify
use Rattle.checker_spec.specs.Verify.{after_case, out_of_budget, try_case}
use Rattle.checker_result.specs.declared.CheckResult.{CheckResult}
use Rattle.checker_result.specs.declared.Status.{Status}
use Rattle.checker_entry.specs.Contract.{status_as}
use Rattle.checker_entry.specs.Contract as said
use Rattle.checker_entry.specs.Promises.{RefusedAs}
use Rattle.checker_entry.specs.Pool.{check_pool}
use Rattle.checker_entry.proofs.Pool.{few_in_pool, among_both, mem_first}
use Rattle.checker_retry.specs.Retry.{Tells, answers, refuses, Cased}
use Rattle.search_inputs.specs.declared.Placed.{Placed}
use Rattle.engine_inputs.proofs.Refines.{Fine}
use Rattle.search_inputs.proofs.Refines.{fine_here, input_accepted, event_at_here}
use Rattle.search_cases.specs.declared.Search.{Search}
use Rattle.search_cases.specs.Promises.{refused_m, Spends, Found, Other, Gathers}
use Rattle.search.specs.Meaning.{
  none_such,
  cells_of,
  sizes,
  search_pool,
  Entire,
  Setting,
  PlacedAs,
  WitnessIs,
  Held,
  Outcome,
}
use Rattle.search.proofs.Sorted.{sorted_few, sorted_again, sorted_both, sorted_one, sorted_none}
use Rattle.search.proofs.Budget.{few_steps}

-- ---- the model behind a plan

module _ {f : List ℕ} {p : Entire} {q a u : ℕ} (x : Setting f p q a u) where
  abbrev m : Model
  m = x.m

  abbrev spent_text : Text
  spent_text = text "search budget exhausted"

  abbrev pub table : Tabled f p.prepared.table x.indexed.ts m
  table = tb f x.index m x.is_accepted x.indexed x.bytes p.prepared x.prepared_from

  pub spent_is : render f (alone kinds.search_spent) ≡ spent_text
  unfolding render body alone words
  spent_is = rw (no_text f p.prepared.table x.indexed.ts m table) refl

  pub pool_few : length (search_pool m) ≤ verdict_reasons
  unfolding search_pool
  pool_few = omega (
    arith,
    few_in_pool f x.index m x.is_accepted x.indexed x.bytes p.prepared
        x.prepared_from,
  )

  pub widen : (l : List Text) → Among (check_pool m) l → Among (search_pool m) l
  unfolding search_pool
  widen l h = among_to l (check_pool m) (search_pool m) (λ t e. mem_right t (spent_text ∷ []) (check_pool m) e) h

  spent_among : Among (search_pool m) (spent_text ∷ [])
  unfolding search_pool
  spent_among = (mem_first spent_text (check_pool m), tt)

  pub few_reasons : (s : verify.Search) (o : Search) (w : List ℕ) → Held x s o w → o.reasons ≤ verdict_reasons
  few_reasons s o w h = omega (arith, h.reasons.many, sorted_few (search_pool m) s.reasons h.within, pool_few)

  -- a witness stays
  witness_stays : (y : Option verify.Witness) (o r : Search) → r.found ≡ o.found → r.witness ≡ o.witness
      → WitnessIs x y o → WitnessIs x y r
  witness_stays none o r e g h = e ∙ h
  witness_stays (some w) o r e g h = record {
    found = e ∙ h.found;
    few = h.few;
    placed = subst (PlacedAs x.indexed.ts m w.events) (sym g) h.placed;
    checks = h.checks;
  }

  -- ---- the budget

  module _ (vs : List Event) (s : verify.Search) {o : Search} {w : List ℕ} (h : Held x s o w) where
    abbrev tried : Answer verify.Search
    tried = try_case (sizes q a u) m (cells_of m) vs s

    abbrev spent_test : Bool
    spent_test = leb m.scenario.limits.max_cases s.cases || leb 200000 s.total_steps

    pub test_cases : p.cases ≤ o.cases → spent_test ≡ true
    test_cases g = rw (le-leb m.scenario.limits.max_cases s.cases (omega (arith, g, x.cases, h.cases)))

    pub test_steps : 200000 ≤ o.steps → spent_test ≡ true
    test_steps g = rw (le-leb 200000 s.total_steps (omega (arith, g, h.steps)))
        (by (leb m.scenario.limits.max_cases s.cases))
      where
        by : (b : Bool) → (b || true) ≡ true
        by true = refl
        by false = refl

    test_none : o.cases < p.cases → o.steps < 200000 → spent_test ≡ false
    test_none g k = rw (
      lt-leb m.scenario.limits.max_cases s.cases (omega (arith, g, x.cases, h.cases)),
      lt-leb 200000 s.total_steps (omega (arith, k, h.steps)),
    )

    spent_law : spent_test ≡ true → tried ≡ answer (out_of_budget s)
    unfolding try_case
    spent_law e = by spent_test e
      where
        by : (b : Bool) → b ≡ true →
            ◌≡◌ {A = Answer verify.Search}
            (elim b [
              | true ↦ answer (out_of_budget s)
              | false ↦ checked (sizes q a u) m (cells_of m) vs >>= λ c. answer
                  (after_case vs c s)
            ])
            (answer (out_of_budget s))
        by b e = rw e

    check_law : spent_test ≡ false → tried ≡ (checked (sizes q a u) m (cells_of m) vs >>= λ c. answer (after_case vs c s))
    unfolding try_case
    check_law e = by spent_test e
      where
        by : (b : Bool) → b ≡ false →
            ◌≡◌ {A = Answer verify.Search}
            (elim b [
              | true ↦ answer (out_of_budget s)
              | false ↦ checked (sizes q a u) m (cells_of m) vs >>= λ c. answer
                  (after_case vs c s)
            ])
            (checked (sizes q a u) m (cells_of m) vs >>= λ c. answer (after_case vs c s))
        by b e = rw e

    pub spent_held : {r : Search} {w' : List ℕ} → spent_test ≡ true → Spends f o w r w' → Outcome x tried r w'
    unfolding out_of_budget
    spent_held {r} {w'} e k = subst (λ (y : Answer verify.Search). Outcome x y r w') (sym (spent_law e)) held
      where
        told : Holds f (sorted_t (s.reasons ++ spent_text ∷ [])) r.reasons w'
        told =
            subst (λ (l : List Text). Holds f l r.reasons w')
            (ap (λ (t : Text). insert_t t (sorted_t s.reasons)) spent_is ∙ sorted_one s.reasons spent_text)
            (grown f (insert_t (render f (alone kinds.search_spent))) (k.reasons (few_reasons s o w h)) (λ t. tt)
            h.reasons)

        held : Held x (out_of_budget s) r w'
        held = record {
          fine = k.refused ∙ h.fine;
          cases = k.cases ∙ h.cases;
          steps = k.steps ∙ h.steps;
          reasons = told;
          within = among_both (search_pool m) s.reasons (spent_text ∷ []) h.within spent_among;
          shortest = k.shortest ∙ h.shortest;
          stopped = k.stopped;
          witness = witness_stays s.witness o r k.found k.witness h.witness;
        }

  -- ---- the events of a check

  pub events_at : (vs : List Event) {placed : Placed} → PlacedAs x.indexed.ts m vs placed → (j : ℕ) → j < length vs →
      EventAt f p.prepared.table x.indexed.ts m placed.words j (get_or vs j none_such)
  events_at vs {placed} ps j h =
      let c = ps.chosen j h in
      event_at_here f x.index m x.is_accepted x.indexed placed.words none_such vs ps.words j h
      p.prepared.table table
      (subst (Fine x.indexed.ts) (sym c.is)
      (fine_here f x.index m x.is_accepted x.indexed Input.restart c.place c.inside))
      (subst (λ (i : Input). check_input m.scenario.entities i ≡ accept) (sym c.is)
      (input_accepted f x.index m x.is_accepted x.indexed Input.restart c.place c.inside))

-- ---- the status of a check

refusal_none : (y : check.Status) → refusal_m (status_as y) ≡ 0
refusal_none check.Status.unknown = refl
refusal_none check.Status.violation = refl
refusal_none check.Status.incomplete = refl
refusal_none check.no_violation_in_trace = refl

violates_as : (y : check.Status) → is_violation_m (status_as y) ≡ is_violation y
unfolding is_violation
violates_as check.Status.unknown = refl
violates_as check.Status.violation = refl
violates_as check.Status.incomplete = refl
violates_as check.no_violation_in_trace = refl

-- ---- after a check

module _ (vs : List Event) (b : Check) (s : verify.Search) where
  abbrev with_witness : verify.Search
  with_witness = record {
    cases = s.cases + 1;
    total_steps = s.total_steps + b.simulation.steps;
    reasons = s.reasons;
    witness = some (record { events = vs; check = b });
    shortest = is_empty s.reasons;
    stopped = true;
  }

  after_violation : is_violation b.status ≡ true → after_case vs b s ≡ with_witness
  unfolding after_case
  after_violation e = rw e

  abbrev with_reasons : verify.Search
  with_reasons = record {
    cases = s.cases + 1;
    total_steps = s.total_steps + b.simulation.steps;
    reasons = sorted_t (s.reasons ++ b.unknown ++ b.incomplete);
    witness = s.witness;
    shortest = s.shortest;
    stopped = false;
  }

  after_other : is_violation b.status ≡ false → after_case vs b s ≡ with_reasons
  unfolding after_case
  after_other e = rw e

module _ {f : List ℕ} {p : Entire} {q a u : ℕ} {placed : Placed} {c : CheckResult}
    (ch : Cased f p.starts p.invariants p.prepared placed.words placed.count c q a u)
    (x : Setting f p q a u) (vs : List Event) (ps : PlacedAs x.indexed.ts x.m vs placed)
    (s : verify.Search) {o : Search} {w : List ℕ} (h : Held x s o w) (lc : o.cases < p.cases)
    (ls : o.steps < 200000) where
  abbrev plain : Answer Check
  plain = checked (sizes q a u) x.m (cells_of x.m) vs

  abbrev here : Answer verify.Search
  here = try_case (sizes q a u) x.m (cells_of x.m) vs s

  abbrev Promised : Type 0
  Promised = Tells f x.m c plain

  promised : Promised
  promised = ch.does x.index x.starts_are x.invariants_are x.m x.is_accepted x.indexed x.bytes
      x.prepared_from none_such vs (events_at x vs ps)
      ps.count

  answer_so : (b : Check) → plain ≡ answer b → here ≡ answer (after_case vs b s)
  unfolding ◌>>=◌
  answer_so b e = check_law x vs s h (test_none x vs s h lc ls) ∙ rw e

  refuse_so : (n : ℕ) → plain ≡ refused n → here ≡ refused n
  unfolding ◌>>=◌
  refuse_so n e = check_law x vs s h (test_none x vs s h lc ls) ∙ rw e

  refusal_of : (b : Check) → said.Shows f c b → refusal_m c.status ≡ 0
  refusal_of b k = ap refusal_m k.status_is ∙ refusal_none b.status

  refusal_so : (n : ℕ) → RefusedAs n c → refusal_m c.status ≡ n
  refusal_so n e = ap refusal_m e.status_is

  -- the steps of a check
  steps_of : (b : Check) → plain ≡ answer b → said.Shows f c b → {n : ℕ}
      → (c.simulation.steps ≤ 10000 → n ≡ o.steps + c.simulation.steps) →
      n ≡ s.total_steps + b.simulation.steps
  steps_of b e k g =
      let z : c.simulation.steps ≡ b.simulation.steps = k.simulation.steps in
      let l = few_steps f x.m x.is_accepted (sizes q a u) (cells_of x.m) vs b e in
      omega (arith, g (omega (arith, z, l)), z, h.steps)

  pub refused_held : {n : ℕ} {r : Search} → n ≡ refusal_m c.status → (n ≡ 0 → ⊥) → r ≡ refused_m o n → Outcome x here r w
  refused_held {n} {r} e z g = by promised
    where
      by : Promised → Outcome x here r w
      by (answers b y k ku ki) = absurd (z (e ∙ refusal_of b k))
      by (refuses j lo hi y k) =
          subst (λ (t : Answer verify.Search). Outcome x t r w) (sym (refuse_so j y))
          (record {
            number = ap (λ (t : Search). t.refused) g ∙ e
                ∙ refusal_so j k;
            low = lo;
            high = hi;
            stopped = ap (λ (t : Search). t.stopped) g;
          })

  pub found_held : {n : ℕ} {v : Bool} {r : Search} → n ≡ refusal_m c.status → n ≡ 0 → v ≡ is_violation_m c.status
      → v ≡ true →
      placed.count ≤ 5 → Found o placed c.simulation.steps r → Outcome x here r w
  found_held {n} {v} {r} e z d t five g = by promised
    where
      by : Promised → Outcome x here r w
      by (answers b y k ku ki) =
          let violated : is_violation b.status ≡ true = sym (violates_as b.status)
          ∙ sym (ap is_violation_m k.status_is) ∙ sym d ∙ t in
          subst (λ (t : Answer verify.Search). Outcome x t r w)
          (sym (answer_so b y ∙ ap answer (after_violation vs b s violated)))
          (record {
            fine = g.refused ∙ h.fine;
            cases = g.cases ∙ ap (λ (t : ℕ). t + 1) h.cases;
            steps = steps_of b y k g.steps;
            reasons = subst (λ (t : ℕ). Holds f (sorted_t s.reasons) t w) (sym g.reasons) h.reasons;
            within = h.within;
            shortest = g.shortest ∙ sorted_none s.reasons h.reasons.many;
            stopped = g.stopped;
            witness = record {
              found = g.found;
              few = omega (arith, five, ps.count);
              placed = subst (PlacedAs x.indexed.ts x.m vs) (sym g.witness) ps;
              checks = y;
            };
          })
      by (refuses j lo hi y k) = absurd (omega (arith, e, z, refusal_so j k, lo))

  pub other_held : {n : ℕ} {v : Bool} {count : ℕ} {r : Search} {w' : List ℕ} → n ≡ refusal_m c.status → n ≡ 0
      → v ≡ is_violation_m c.status → v ≡ false →
      Gathers f o.reasons c.unknown c.unknowns c.incomplete c.incompletes w count w' →
      Other o count c.simulation.steps r → Outcome x here r w'
  other_held {n} {v} {count} {r} {w'} e z d t told g = by promised
    where
      by : Promised → Outcome x here r w'
      by (answers b y k ku ki) =
          let fine_so : is_violation b.status ≡ false = sym (violates_as b.status)
          ∙ sym (ap is_violation_m k.status_is) ∙ sym d ∙ t in
          let sized = ch.sized in
          let au = widen x b.unknown ku in
          let ai = widen x b.incomplete ki in
          let first : insert_all (listed f c.unknown c.unknowns) (listed f o.reasons w)
          ≡ sorted_t (b.unknown ++ s.reasons) = ap (λ (t : List Text). insert_all t (listed f o.reasons w))
          k.unknown.texts ∙ ap (insert_all b.unknown) h.reasons.texts
          ∙ Rattle.reasons.proofs.Sorting.merged b.unknown s.reasons in
          let few : length (insert_all (listed f c.unknown c.unknowns)
          (listed f o.reasons w)) ≤ verdict_reasons = omega (
            arith,
            ap length first,
            sorted_few (search_pool x.m) (b.unknown ++ s.reasons)
                (among_both (search_pool x.m) b.unknown s.reasons au h.within),
            pool_few x,
          ) in
          let both : List Text → List Text = λ l. insert_all (listed f c.incomplete c.incompletes)
          (insert_all (listed f c.unknown c.unknowns) l) in
          let all : Holds f (both (sorted_t s.reasons)) count w' = grown f both
          (told (few_reasons x s o w h) sized.few_unknown sized.few_incomplete few)
          (λ t. (k.unknown.clean, k.incomplete.clean)) h.reasons in
          let same : both (sorted_t s.reasons) ≡ sorted_t (s.reasons ++ b.unknown ++ b.incomplete) = ap
          (λ (t : List Text). insert_all t (insert_all (listed f c.unknown c.unknowns) (sorted_t s.reasons)))
          k.incomplete.texts ∙ ap (λ (t : List Text). insert_all b.incomplete
          (insert_all t (sorted_t s.reasons))) k.unknown.texts
          ∙ sorted_both s.reasons b.unknown b.incomplete in
          subst (λ (t : Answer verify.Search). Outcome x t r w')
          (sym (answer_so b y ∙ ap answer (after_other vs b s fine_so)))
          (record {
            fine = g.refused ∙ h.fine;
            cases = g.cases ∙ ap (λ (t : ℕ). t + 1) h.cases;
            steps = steps_of b y k g.steps;
            reasons = subst (λ (t : List Text). Holds f t r.reasons w')
                (same ∙ sym (sorted_again (s.reasons ++ b.unknown ++ b.incomplete)))
                (subst (λ (t : ℕ). Holds f (both (sorted_t s.reasons)) t w') (sym g.reasons) all);
            within = Rattle.checker_entry.proofs.Pool.sorted_among (search_pool x.m)
                (s.reasons ++ b.unknown ++ b.incomplete)
                (among_both (search_pool x.m) (s.reasons ++ b.unknown) b.incomplete
                (among_both (search_pool x.m) s.reasons b.unknown h.within au) ai);
            shortest = g.shortest ∙ h.shortest;
            stopped = g.stopped;
            witness = witness_stays x s.witness o r g.found g.witness h.witness;
          })
      by (refuses j lo hi y k) = absurd (omega (arith, e, z, refusal_so j k, lo))
