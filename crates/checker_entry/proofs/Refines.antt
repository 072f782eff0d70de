-- What `check_events` answers and leaves in the areas, by the definition's check of the model. Search and reduction go on
-- from it.
use Rattle.std.specs.Prelude.{if◌then◌else◌}
use Prim.Native.Nat.{ℕ, suc, ◌-◌, ◌*◌, ◌/◌, ◌≤◌, ◌<◌}
use mathlib.Core.Path.{◌≡◌, refl, sym, ap, subst, ◌∙◌}
use mathlib.Core.Bool.{Bool, true, false}
use mathlib.Core.List.{List, [], ◌∷◌, ◌++◌, append-nil, map}
use native.Mathlib.Omega.{arith}
use lib.Dec.{eqb}
use lib.ListN.{length, get_or, take, replicate, length-replicate}
use lib.Seq.{take_all}
use borrow.Author.Tests.{ne_eqb, eqb-true, eqb-false}
use Rattle.layout.specs.Sizes.{violation_numbers}
use Rattle.texts.specs.Lists.{is_empty, each, flat}
use Rattle.texts.specs.Texts.{Text, sorted_t}
use Rattle.areas.specs.Areas.{area}
use Rattle.areas.specs.Areas as areas
use Rattle.areas.proofs.Laws.{area_length}
use Rattle.records.specs.Records.{record_words, recorded}
use Rattle.records.specs.declared.Record.{Record}
use Rattle.records.proofs.Laws.{sized}
use Rattle.reasons.specs.Kinds as kinds
use Rattle.reasons.specs.Lists.{insert_all, Holds}
use Rattle.reasons.specs.Reasons.{render, body, words}
use Rattle.reasons.proofs.Listing.{reported}
use Rattle.reasons.proofs.Sorting.{merged, one_by_one, either_way}
use Rattle.model_spec.specs.Answer.{Answer, answer, refused, ◌>>=◌}
use Rattle.model_spec.specs.Model.{Event, Invariant, Model}
use Rattle.model_spec.specs.File.{invariant}
use Rattle.model_spec.specs.Validate.{accepted}
use Rattle.model_parts.specs.Stand.{Reads}
use Rattle.model_index.specs.declared.Index.{Index}
use Rattle.model_index.specs.Indexed.{Indexed}
use Rattle.engine_spec.specs.Cells.{Cell, initial_cells}
use Rattle.engine_spec.specs.Reasons.{space_spent, steps_spent, runs_left}
use Rattle.engine_spec.specs.Records.{Areas}
use Rattle.engine_spec.specs.Simulate as engine
use Rattle.engine_spec.specs.Simulate.{simulated}
use Rattle.engine_spec.specs.Words.{words_in}
use Rattle.engine_spec.proofs.Closed.{records_fit}
use Rattle.engine_spec.proofs.Lists.{Each, Case, is_true, is_false, case}
use Rattle.bounds.specs.Bounds.{at_most}
use Rattle.engine_fields.specs.Fields.{alone}
use Rattle.engine_refinement.specs.Meaning.{cells_of, record_of, Tabled}
use Rattle.engine_refinement.proofs.Accepted.{accepted_lawful}
use Rattle.engine_refinement.proofs.Lists.{each_imp}
use Rattle.engine_refinement.proofs.Numbers.{most_is}
use Rattle.engine_refinement.proofs.Pool.{has_text, no_text}
use Rattle.engine_refinement.proofs.Relation.{Worded}
use Rattle.engine_refinement.specs.Events.{EventAt}
use Rattle.engine_refinement.proofs.Evaluate.{Valued}
use Rattle.engine_inputs.proofs.Refines.{start_valued, start_cells_are}
use Rattle.engine_summary.specs.declared.Simulation.{Simulation}
use Rattle.engine_summary.specs.Summary.{no_simulation}
use Rattle.engine_entry.specs.Contract.{incomplete_of, Shows}
use Rattle.engine_entry.specs.Prepared.{Prepared, PreparedFrom}
use Rattle.engine_entry.proofs.Refines.{tb}
use Rattle.engine_entry.proofs.RunEvents.{texts_here, records_here}
use Rattle.engine_entry.proofs.RunEvents as simulator
use Rattle.checker_spec.specs.Check.{Violation, status_of, violation_of, judged, checked}
use Rattle.checker_spec.specs.Check as check
use Rattle.checker_spec.specs.Judge.{read_all, unknown_reasons, incomplete_reasons}
use Rattle.checker_refinement.proofs.Judge.{Traced}
use Rattle.checker_collect.specs.declared.Counts.{Counts}
use Rattle.checker_collect.specs.Collect.{broken_m, Gathered, first_m, Keeps}
use Rattle.checker_result.specs.declared.Status.TheVariants as status
use Rattle.checker_result.specs.declared.CheckResult.{CheckResult}
use Rattle.checker_result.specs.Result.{no_check}
use Rattle.checker_entry.specs.Contract.{status_as, violation_words}
use Rattle.checker_entry.specs.Contract as said
use Rattle.checker_result.specs.Verdicts.{status_m, stopped_m, left_m, start_m, counts}
use Rattle.checker_entry.specs.Promises.{Checked, Whole, RefusedAs}
use Rattle.checker_entry.proofs.Judged.{Agreed, agreed}

module _ (f x : List ℕ) (ts : List Text) (m : Model) (tb : Tabled f x ts m) where
  alone_is : (k : ℕ) (t : Text) → eqb k kinds.source_note_kind ≡ false → words k ≡ t → render f (alone k) ≡ t
  unfolding render body alone
  alone_is k t n e = rw (n, no_text f x ts m tb, e) (append-nil t)

  -- why a simulation is incomplete
  stopped_is : (w : ℕ) → map (render f) (stopped_m w)
      ≡ (if eqb w 0 then [] else if eqb w 1 then space_spent ∷ [] else steps_spent ∷ [])
  unfolding stopped_m words space_spent steps_spent
  stopped_is w = by (eqb w 0) (eqb w 1)
    where
      by : (a b : Bool) →
          map (render f) (if a then [] else if b then alone kinds.space_spent ∷ [] else alone kinds.steps_spent ∷ [])
          ≡ (if a then [] else if b then space_spent ∷ [] else steps_spent ∷ [])
      by true b = refl
      by false true = ap (λ (t : Text). t ∷ []) (alone_is kinds.space_spent space_spent refl refl)
      by false false = ap (λ (t : Text). t ∷ []) (alone_is kinds.steps_spent steps_spent refl refl)

  left_is : (b : Bool) → map (render f) (left_m b) ≡ (if b then runs_left ∷ [] else [])
  unfolding left_m words runs_left
  left_is true = ap (λ (t : Text). t ∷ []) (alone_is kinds.runs_left runs_left refl refl)
  left_is false = refl

  own_reasons : (w : ℕ) (b : Bool) → insert_all (map (render f) (left_m b)) (insert_all (map (render f) (stopped_m w)) [])
      ≡ sorted_t (incomplete_of w b)
  unfolding incomplete_of
  own_reasons w b =
      ap (insert_all (map (render f) (left_m b))) (one_by_one (map (render f) (stopped_m w)))
      ∙ merged (map (render f) (left_m b)) (map (render f) (stopped_m w))
      ∙ either_way (map (render f) (left_m b)) (map (render f) (stopped_m w))
      ∙ ap (λ (l : List Text). sorted_t (map (render f) (stopped_m w) ++ l)) (left_is b)
      ∙ ap (λ (l : List Text). sorted_t (l ++ (if b then runs_left ∷ [] else []))) (stopped_is w)

-- the status, by what there is
status_same : (vs : List Violation) (us ws : List Text) (t : Counts) → t.violations ≡ length vs → t.unknown ≡ length us →
    t.incomplete ≡ length ws → status_m t ≡ status_as (status_of vs us ws)
unfolding status_m status_of is_empty
status_same vs us ws t a b c = rw (a, b, c) (by us vs ws)
  where
    by : (us : List Text) (vs : List Violation) (ws : List Text) →
        (if eqb (length us) 0 then (if eqb (length vs) 0
        then (if eqb (length ws) 0 then status.NoViolationInTrace else status.Incomplete) else status.Violation)
        else status.Unknown)
        ≡ status_as (status_of vs us ws)
    by (u ∷ us) vs ws = rw (ne_eqb (suc (length us)) 0 (λ z. absurd (omega arith)))
    by [] (v ∷ vs) ws = rw (ne_eqb (suc (length vs)) 0 (λ z. absurd (omega arith)))
    by [] [] (w ∷ ws) = rw (ne_eqb (suc (length ws)) 0 (λ z. absurd (omega arith)))
    by [] [] [] = refl

-- ---- of an accepted file

module _ (f : List ℕ) (i : Index) (m : Model) (acc : accepted f ≡ answer m) (o : Indexed f i m)
    (bytes : (k : ℕ) → get_or f k 0 < 256) (g : Prepared) (gr : PreparedFrom f i g) where
  abbrev x : List ℕ
  x = g.table

  abbrev t : Tabled f x o.ts m
  t = tb f i m acc o bytes g gr

  abbrev pub cells : List Cell
  cells = initial_cells m.scenario.entities

  abbrev pub is : List Invariant
  is = m.scenario.invariants

  abbrev starts : List ℕ
  starts = i.invariants.starts

  pub few_invariants : length is ≤ 32
  few_invariants = (accepted_lawful f m acc).few_invariants

  stand : (d : Invariant) (k : ℕ) → k < length is → Reads (invariant o.ts) f (get_or starts k 0) (get_or is k d)
  stand d k h = o.invariants.stand d k (omega (arith, h, few_invariants)) h

  all_invariants : at_most i.invariants.count 32 ≡ length is
  all_invariants = most_is i.invariants.count 32 (omega (arith, few_invariants, o.invariants.counts))
      ∙ o.invariants.counts

  valued : Valued f x o.ts m t g.cells.values
  valued = start_valued f x i m acc o t g.cells gr.cells

  versions_long : length g.cells.versions ≡ 32
  versions_long = ap length gr.cells.versions ∙ length-replicate {A = ℕ} 32 0

  cells_are : cells ≡ cells_of x o.ts g.cells.values g.cells.versions
  cells_are = start_cells_are f x i m acc o t g.cells gr.cells

  -- ---- the verdict on a simulation

  module _ (s : Simulation) (sim : engine.Simulation) (shows : Shows f s sim) (l : List Record)
      (trace : sim.trace ≡ each (record_of x o.ts) l) (words-so : Each (Worded x o.ts m) l) where
    traced : Traced o.ts l
    traced = each_imp (Worded x o.ts m) _ (λ r w. w.placed) l words-so

    abbrev AgreedAt : ℕ → Gathered → Type 0
    AgreedAt k y = Agreed f x o.ts m t is starts stand t.stated g.cells g.cells.versions
        valued versions_long l traced sim.unknown sim.incomplete k y

    at_start : AgreedAt 0 (start_m f s)
    unfolding start_m areas.words flat
    at_start = record {
      violations = refl;
      many = refl;
      unknowns = ap (λ (y : List Text). insert_all y []) shows.unknown.texts ∙ one_by_one sim.unknown
          ∙ ap sorted_t (sym (append-nil sim.unknown));
      incompletes = own_reasons f x o.ts m t s.stop_reason s.runs_left
          ∙ ap sorted_t (shows.incomplete ∙ sym (append-nil sim.incomplete));
    }

    abbrev all : Gathered
    all = first_m f x starts g.cells l (at_most i.invariants.count 32) (start_m f s)

    none_such : Invariant
    none_such = Rattle.model_spec.specs.Model.never [] []

    at_end : AgreedAt (length is) all
    at_end = subst (λ (k : ℕ). AgreedAt (length is) (first_m f x starts g.cells l k (start_m f s))) (sym all_invariants)
        (agreed f x o.ts m t is starts stand t.stated g.cells g.cells.versions valued versions_long l traced
        sim.unknown sim.incomplete (start_m f s) at_start none_such (length is) (omega arith))

    abbrev verdict : check.Check
    verdict = judged is cells sim

    -- the definition reads the same cells and records
    violations_are : flat (λ (y : Invariant). violation_of y
        (read_all y (cells_of x o.ts g.cells.values g.cells.versions) (each (record_of x o.ts) l)).failing)
        (take (length is) is) ≡ verdict.violations
    unfolding judged
    violations_are = rw (take_all (length is) is (omega arith), ← cells_are, ← trace)

    unknowns_are : sorted_t
        (sim.unknown ++ flat (λ (y : Invariant). unknown_reasons y
        (read_all y (cells_of x o.ts g.cells.values g.cells.versions) (each (record_of x o.ts) l)).memory)
        (take (length is) is)) ≡ verdict.unknown
    unfolding judged
    unknowns_are = rw (take_all (length is) is (omega arith), ← cells_are, ← trace)

    incompletes_are : sorted_t (sim.incomplete ++ flat
        (λ (y : Invariant). incomplete_reasons y (read_all y (cells_of x o.ts g.cells.values g.cells.versions)
        (each (record_of x o.ts) l)).memory) (take (length is) is)) ≡ verdict.incomplete
    unfolding judged
    incompletes_are = rw (take_all (length is) is (omega arith), ← cells_are, ← trace)

    pub verdict_shows : (r : CheckResult) → r.status ≡ status_m (counts r) → r.simulation ≡ s →
        length r.violated ≡ violation_numbers →
        Keeps f r.violated r.unknowns r.incompletes (counts r) all → said.Shows f r verdict
    unfolding area judged
    verdict_shows r se re long keeps =
        let e = at_end in
        let nv : r.violations ≡ length verdict.violations = keeps.many ∙ e.many ∙ ap length violations_are in
        let hu : Holds f verdict.unknown r.unknown r.unknowns =
        subst (λ (y : List Text). Holds f y r.unknown r.unknowns) (e.unknowns ∙ unknowns_are) keeps.unknown in
        let hw : Holds f verdict.incomplete r.incomplete r.incompletes =
        subst (λ (y : List Text). Holds f y r.incomplete r.incompletes) (e.incompletes ∙ incompletes_are)
        keeps.incomplete in
        record {
          status_is = se ∙ status_same verdict.violations verdict.unknown verdict.incomplete (counts r) nv
              hu.many hw.many;
          violations = nv;
          violated =
              keeps.violations
              ∙ ap (λ (n : ℕ). areas.words broken_m all.violations ++ replicate
              (n - length (areas.words broken_m all.violations)) 0) long
              ∙ ap (λ (y : List ℕ). y ++ replicate (violation_numbers - length y) 0)
              (e.violations ∙ ap (areas.words (violation_words o.ts)) violations_are)
              ∙ ap (λ (ts : List Text). areas.words (violation_words ts) verdict.violations ++ replicate
              (violation_numbers - length (areas.words (violation_words ts) verdict.violations)) 0)
              (sym (texts_here f i m acc o bytes g gr));
          unknown = reported (has_text f x o.ts m t) hu;
          incomplete = reported (has_text f x o.ts m t) hw;
          simulation = subst (λ (y : Simulation). Shows f y sim) (sym re) shows;
        }

  -- ---- a check with the events vs, given as words

  module _ (v : List ℕ) (d : Event) (vs : List Event)
      (evs : (j : ℕ) → j < length vs → EventAt f x o.ts m v j (get_or vs j d)) {n : ℕ} (many : n ≡ length vs)
      {r : CheckResult} {q q' a a' u u' : List ℕ} (ch : Checked f i.invariants.starts i.invariants.count
      g v n r q q' a a' u u') where
    abbrev sizes : Areas
    sizes = record { queue = length q / 5; records = length a / 13; runs = length u / 28 }

    abbrev pub plain : Answer check.Check
    plain = checked sizes m cells vs

    -- the answer says what the definition's check says, and the record area holds its records
    pub data Promise : Type 0 where
      answers : (c : check.Check) → plain ≡ answer c → said.Shows f r c →
          a' ≡ area (words_in f) (length a) c.simulation.trace → Promise
      refuses : (n : ℕ) → 41 ≤ n → n ≤ 43 → plain ≡ refused n → RefusedAs n r → a' ≡ replicate (length a) 0 → Promise

    pub answer_law : (sim : engine.Simulation) → simulated sizes m cells vs ≡ answer sim →
        plain ≡ answer (judged is cells sim)
    unfolding checked ◌>>=◌
    answer_law sim e = rw e

    pub refuse_law : (k : ℕ) → simulated sizes m cells vs ≡ refused k → plain ≡ refused k
    unfolding checked ◌>>=◌
    refuse_law k e = rw e

    refused_as : (k : ℕ) → 41 ≤ k → r.simulation.refused ≡ k → RefusedAs k r
    refused_as k lo e = record {
      status_is = ch.full (λ z. absurd (omega (arith, e, lo, z))) ∙ ap status.Refused e;
      number = e;
    }

    same_length : (l : List Record) → a' ≡ area record_words (length a) l → length l * 13 ≤ length a → length a' ≡ length a
    same_length l e h = ap length e ∙ area_length record_words 13 sized (length a) l h

    answered : (sim : engine.Simulation) → simulator.Told f i m acc o bytes g gr v d vs evs many ch.ran sim →
        simulated sizes m cells vs ≡ answer sim → Promise
    unfolding judged
    answered sim k e =
        let s = r.simulation in
        let w = ch.done k.shows.accepted in
        let room : length k.records * 13 ≤ length a =
        omega (arith, k.count, k.shows.records, records_fit sizes m cells vs sim e) in
        let long = same_length k.records k.area_is room in
        let rep : a' ≡ recorded (length a') k.records =
        k.area_is ∙ ap (λ (y : ℕ). area record_words y k.records) (sym long) in
        answers (judged is cells sim) (answer_law sim e)
        (verdict_shows s sim k.shows k.records k.trace k.words r w.status_is refl w.long
        (w.holds (omega (arith, k.shows.unknown.many, k.few)) (λ h. k.shows.unknown.clean) k.records
        (sym k.count) (omega (arith, k.count, room, long)) rep))
        (k.area_is ∙ records_here f i m acc o bytes g gr (length a) k.records sim.trace k.words k.trace)

    pub promise : Promise
    promise = by (simulator.promise f i m acc o bytes g gr v d vs evs many ch.ran)
      where
        by : simulator.Promise f i m acc o bytes g gr v d vs evs many ch.ran → Promise
        by (simulator.answers sim e k) = answered sim k e
        by (simulator.refuses k lo hi e is z) = refuses k lo hi (refuse_law k e) (refused_as k lo is) z

-- ---- the check as one answer

module _ {f starts : List ℕ} {many : ℕ} {g : Prepared} {v : List ℕ} {n : ℕ} {r : CheckResult} {q q' a a' u u' : List ℕ}
    (wh : Whole f starts many g v n r q q' a a' u u') where
  pub whole_shows : (c : check.Check) → said.Shows f wh.result c → said.Shows f r c
  whole_shows c k = subst (λ (y : CheckResult). said.Shows f y c) (sym (wh.answered.done k.simulation.accepted)) k

  pub whole_refused : (k : ℕ) → 41 ≤ k → RefusedAs k wh.result → r ≡ no_check k
  whole_refused k lo e = wh.answered.full (λ z. absurd (omega (arith, e.number, lo, z))) ∙ ap no_check e.number

  no_check_number : (k : ℕ) → (no_check k).simulation.refused ≡ k
  unfolding no_check no_simulation
  no_check_number k = refl

  -- a check that isn't refused is the whole answer
  pub whole_done : r.simulation.refused ≡ 0 → Checked f starts many g v n r q q' a a' u u'
  whole_done z = by (case (eqb wh.result.simulation.refused 0))
    where
      by : Case (eqb wh.result.simulation.refused 0) → Checked f starts many g v n r q q' a a' u u'
      by (is_true e) =
          subst (λ (y : CheckResult). Checked f starts many g v n y q q' a a' u u')
          (sym (wh.answered.done (eqb-true wh.result.simulation.refused 0 e))) wh.checked
      by (is_false e) =
          let k = eqb-false wh.result.simulation.refused 0 e in
          absurd (k (sym (ap (λ (y : CheckResult). y.simulation.refused) (wh.answered.full k)
          ∙ no_check_number wh.result.simulation.refused) ∙ z))

  -- a refusal has the same number
  pub whole_full : (r.simulation.refused ≡ 0 → ⊥) → wh.result.simulation.refused ≡ r.simulation.refused
  whole_full z = by (case (eqb wh.result.simulation.refused 0))
    where
      by : Case (eqb wh.result.simulation.refused 0) → wh.result.simulation.refused ≡ r.simulation.refused
      by (is_true e) =
          sym (ap (λ (y : CheckResult). y.simulation.refused)
          (wh.answered.done (eqb-true wh.result.simulation.refused 0 e)))
      by (is_false e) =
          let k = eqb-false wh.result.simulation.refused 0 e in
          sym (ap (λ (y : CheckResult). y.simulation.refused) (wh.answered.full k)
          ∙ no_check_number wh.result.simulation.refused)
