-- Two models that are alike inside a cone, both simulated to the end: every invariant has one answer in both
-- (`all_answers`), and both checks return the same of each (`check_same`).
use Rattle.std.specs.Prelude.{if◌then◌else◌}
use Prim.Native.Nat.{ℕ, ◌+◌}
use mathlib.Core.Bool.{Bool, true, false}
use mathlib.Core.List.{List, [], ◌∷◌, ◌++◌}
use mathlib.Core.Option.{Option, none, some}
use mathlib.Core.Path.{◌≡◌, refl, sym, ap, ◌∙◌, subst}
use native.Mathlib.Omega.{arith}
use Rattle.texts.specs.Lists.{absent, all, keep, each, flat}
use Rattle.texts.specs.Texts.{Text, sorted_t, insert_t, eq_t, lt_t}
use Rattle.model_spec.specs.Answer.{answer}
use Rattle.model_spec.specs.Model.{Moment, Event, Invariant, id_of, Model}
use Rattle.engine_spec.specs.Cells.{Cell}
use Rattle.engine_spec.specs.Records.{Item, Kind, Trace, Areas, Engine}
use Rattle.engine_spec.specs.Changes.{append}
use Rattle.engine_spec.specs.Unsupported.{unsupported}
use Rattle.engine_spec.specs.Engine.{log, expiry, loop, event_item, begun, left_over, last_record, closed, Ended}
use Rattle.engine_spec.specs.Simulate.{Simulation, ended, outcome, unless_full, simulated}
use Rattle.engine_spec.proofs.Distinct.{answer_eq, refused_answer, bind_inv}
use Rattle.checker_spec.specs.Judge.{Failing, Reading, read_all, unknown_reasons}
use Rattle.checker_spec.specs.Check.{Check, violation_of, judged, checked}
use Rattle.cone_spec.specs.Cone.{names}
use Rattle.cone_judge.specs.Reading.{
  Told,
  failed,
  missed,
  told,
  About,
  holds,
  fails,
  late,
  about_failing,
  about,
  violation_told,
}
use Rattle.cone_engine.proofs.Base.{keep_append, keep_flat, each_flat, Every, every_end, le-leb}
use Rattle.cone_engine.proofs.Queue
use Rattle.cone_engine.proofs.View
use Rattle.cone_engine.proofs.View.{boundary}
use Rattle.cone_engine.proofs.Steps
use Rattle.cone_engine.proofs.Scoped
use Rattle.cone_engine.proofs.Slice
use Rattle.cone_engine.proofs.Slice.{cons_nil}
use Rattle.cone_engine.proofs.TimeOrder
use Rattle.cone_engine.proofs.TimeOrder.{Tidy, Rising, headed, fair, rising_end, headed_end, tidy_loop}
use Rattle.cone_judge.proofs.Judge
use Rattle.cone_judge.proofs.Judge.{ends, ends_end}

-- ---- lists that are empty

pub nil_l : {A : Type 0} (l m : List A) → l ++ m ≡ [] → l ≡ []
nil_l [] m e = refl
nil_l (x ∷ l) m e = absurd (cons_nil e)

pub nil_r : {A : Type 0} (l m : List A) → l ++ m ≡ [] → m ≡ []
nil_r [] m e = e
nil_r (x ∷ l) m e = absurd (cons_nil e)

insert_some : (t : Text) (l : List Text) → insert_t t l ≡ [] → ⊥
unfolding insert_t
insert_some t [] e = cons_nil e
insert_some t (x ∷ l) e = go (eq_t t x) (lt_t t x) e
  where
    go : (a b : Bool) → (if a then x ∷ l else if b then t ∷ x ∷ l else x ∷ insert_t t l) ≡ [] → ⊥
    go true b p = cons_nil p
    go false true p = cons_nil p
    go false false p = cons_nil p

pub nil_sorted : (l : List Text) → sorted_t l ≡ [] → l ≡ []
unfolding sorted_t
nil_sorted [] e = refl
nil_sorted (t ∷ l) e = absurd (insert_some t (sorted_t l) e)

-- ---- the end of a simulation

record Whole (h : ℕ) (d : Ended) : Type 0 where
  before : d.incomplete ≡ []
  engine_is : (closed h d).engine ≡ log h Kind.horizon none none none d.engine

whole : (h : ℕ) (d : Ended) → (closed h d).incomplete ≡ [] → Whole h d
unfolding closed last_record
whole h d e = record {
  before = nil_l d.incomplete (left_over d.engine.runs) e;
  engine_is = ap (λ (l : List Text). last_record h l d.engine) e;
}

-- what is known of the records of a complete simulation
pub record Records (h : ℕ) (l : List Trace) : Type 0 where
  pub heads : headed l ≡ true
  pub rises : Rising 0 l h
  pub closes : ends l ≡ true
  pub fairs : Every fair l

all_late : (l : List Item) → Every (Queue.late 0) l
unfolding Queue.late
all_late [] = tt
all_late (x ∷ l) = (le-leb 0 x.at (omega arith), all_late l)

begun_tidy : (areas : Areas) (origin : Moment) (cells : List Cell) (notes : List Text) (events : List Event)
    → Tidy 0 (begun areas origin cells notes events)
unfolding begun log append fair headed boundary absent
begun_tidy areas origin cells notes events =
    TimeOrder.t_adds 0 (flat (expiry 0) cells) _ (all_late (flat (expiry 0) cells))
    (TimeOrder.t_adds 0 (each event_item events) _ (all_late (each event_item events))
    (record { due = tt; told = (omega arith, omega arith); begins = refl; plain = (refl, tt) }))

-- the loop of a model, with given cells and events
unfoldable pub run_over : Areas → Model → List Cell → List Event → Ended
run_over areas m cells events =
    loop m.rules m.scenario.limits.horizon m.scenario.limits.max_steps 0
    (begun areas m.start cells (unsupported m.rules) events)

trace_is : (areas : Areas) (m : Model) (cells : List Cell) (events : List Event)
    → (ended areas m cells events).incomplete ≡ []
    → (ended areas m cells events).engine.trace ≡ (run_over areas m cells events).engine.trace
    ++ record {
      at = m.scenario.limits.horizon;
      kind = Kind.horizon;
      automation = none;
      source = none;
      change =
          none;
    } ∷ []
unfolding ended run_over
trace_is areas m cells events e =
    ap (λ (x : Engine). x.trace) (whole m.scenario.limits.horizon (run_over areas m cells events) e).engine_is
    ∙ (unfold log append in refl)

records : (areas : Areas) (m : Model) (cells : List Cell) (events : List Event)
    → (ended areas m cells events).incomplete ≡ []
    → Records m.scenario.limits.horizon (ended areas m cells events).engine.trace
records areas m cells events e = subst (Records h) (sym (trace_is areas m cells events e)) (record {
  heads = headed_end l t k.heads;
  rises = rising_end 0 l h h t k.rises (omega arith) (omega arith);
  closes = ends_end l t (unfold boundary in refl);
  fairs = every_end fair l t k.fairs (unfold fair boundary absent in refl);
})
  where
    h : ℕ
    h = m.scenario.limits.horizon

    l : List Trace
    l = (run_over areas m cells events).engine.trace

    t : Trace
    t = record { at = h; kind = Kind.horizon; automation = none; source = none; change = none }

    k : TimeOrder.Told h l
    k = unfold run_over in (tidy_loop m.rules h m.scenario.limits.max_steps 0 0
        (begun areas m.start cells (unsupported m.rules) events)
        (begun_tidy areas m.start cells (unsupported m.rules) events)
        (omega arith))

module _ (in_e in_a : Text → Bool) where
  unfoldable pub cone_event : Event → Bool
  cone_event v = View.cone_input in_e in_a v.input

  -- two models alike in the cone, but for events
  pub record Inside (m m' : Model) (cells cells' : List Cell) : Type 0 where
    pub good : Every (Steps.good_rule in_e in_a) m.rules
    pub good' : Every (Steps.good_rule in_e in_a) m'.rules
    pub same_rules : keep (View.cone_rule in_e in_a) m.rules ≡ keep (View.cone_rule in_e in_a) m'.rules
    pub same_cells : keep (View.cone_cell in_e in_a) cells ≡ keep (View.cone_cell in_e in_a) cells'
    pub same_horizon : m.scenario.limits.horizon ≡ m'.scenario.limits.horizon
    pub same_start : m.start ≡ m'.start
    pub same_invariants : m.scenario.invariants ≡ m'.scenario.invariants
    pub named : Every (λ i. all in_e (names i)) m.scenario.invariants

  begun_good : (areas : Areas) (origin : Moment) (cells : List Cell) (notes : List Text) (events : List Event)
      → Every (Steps.good_run in_e in_a) (begun areas origin cells notes events).runs
  unfolding begun log append
  begun_good areas origin cells notes events =
      Scoped.g_adds in_e in_a (flat (expiry 0) cells) _ (Scoped.g_adds in_e in_a (each event_item events) _ tt)

  begun_like : (areas areas' : Areas) (origin origin' : Moment) (cells cells' : List Cell) (notes notes' : List Text)
      (events events' : List Event) → origin ≡ origin'
      → keep (View.cone_cell in_e in_a) cells ≡ keep (View.cone_cell in_e in_a) cells'
      → keep cone_event events ≡ keep cone_event events'
      → Steps.Like in_e in_a (begun areas origin cells notes events) (begun areas' origin' cells' notes' events')
  unfolding begun log
  begun_like areas areas' origin origin' cells cells' notes notes' events events' o p q =
      View.l_adds in_e in_a _ _
      (View.l_adds in_e in_a _ _
      (View.l_append in_e in_a (record {
        of_cells = p;
        of_queue = refl;
        of_runs = refl;
        of_made = refl;
        of_trace = refl;
        of_start = o;
      }) _ _ refl)
      (each event_item events) (each event_item events') (side events ∙ ap (each event_item) q ∙ sym (side events')))
      (flat (expiry 0) cells) (flat (expiry 0) cells') (stale cells ∙ ap (flat (expiry 0)) p ∙ sym (stale cells'))
    where
      side : (l : List Event) → keep (View.cone_item in_e in_a) (each event_item l) ≡ each event_item (keep cone_event l)
      side l = Rattle.cone_engine.proofs.Base.keep_each event_item (View.cone_item in_e in_a) cone_event
          (λ v. unfold View.cone_item View.cone_work event_item cone_event in refl) l

      stale : (l : List Cell) → keep (View.cone_item in_e in_a) (flat (expiry 0) l) ≡ flat (expiry 0)
          (keep (View.cone_cell in_e in_a) l)
      stale l = keep_flat (expiry 0) (View.cone_cell in_e in_a) (View.cone_item in_e in_a) (View.expiry_in in_e in_a 0)
          (View.expiry_out in_e in_a 0) l

  module _ (m m' : Model) (cells cells' : List Cell) (a : Inside m m' cells cells') (areas areas' : Areas)
      (events events' : List Event) (v : keep cone_event events ≡ keep cone_event events')
      (e : (ended areas m cells events).incomplete ≡ []) (e' : (ended areas' m' cells' events').incomplete ≡ []) where
    same_view : Slice.strip in_e in_a (run_over areas m cells events).engine ≡ Slice.strip in_e in_a
        (run_over areas' m' cells' events').engine
    unfolding run_over
    same_view =
        Slice.alike in_e in_a m.rules m'.rules m.scenario.limits.horizon a.good a.good' a.same_rules
        m.scenario.limits.max_steps m'.scenario.limits.max_steps s s'
        (begun_good areas m.start cells (unsupported m.rules) events)
        (begun_good areas' m'.start cells' (unsupported m'.rules) events')
        (Slice.strip_eq in_e in_a (begun_like areas areas' m.start m'.start cells cells' (unsupported m.rules)
        (unsupported m'.rules) events events' a.same_start a.same_cells v))
        (whole m.scenario.limits.horizon (run_over areas m cells events) (unfold ended in e)).before
        (rw a.same_horizon (whole m'.scenario.limits.horizon (run_over areas' m' cells' events')
        (unfold ended in e')).before)
        ∙ ap (λ (h : ℕ). Slice.strip in_e in_a (loop m'.rules h m'.scenario.limits.max_steps 0 s').engine)
        a.same_horizon
      where
        s : Engine
        s = begun areas m.start cells (unsupported m.rules) events

        s' : Engine
        s' = begun areas' m'.start cells' (unsupported m'.rules) events'

    same_told : keep (View.cone_trace in_e in_a) (run_over areas m cells events).engine.trace ≡ keep
        (View.cone_trace in_e in_a) (run_over areas' m' cells' events').engine.trace
    unfolding Slice.strip
    same_told = ap (λ (x : Engine). x.trace) same_view

    same_records : keep (View.cone_trace in_e in_a) (ended areas m cells events).engine.trace ≡ keep
        (View.cone_trace in_e in_a) (ended areas' m' cells' events').engine.trace
    same_records =
        ap (keep (View.cone_trace in_e in_a)) (trace_is areas m cells events e)
        ∙ keep_append (View.cone_trace in_e in_a) _ _
        ∙ (λ j. same_told j ++ keep (View.cone_trace in_e in_a)
        (record { at = a.same_horizon j; kind = Kind.horizon; automation = none; source = none; change = none } ∷ []))
        ∙ sym (keep_append (View.cone_trace in_e in_a) _ _)
        ∙ sym (ap (keep (View.cone_trace in_e in_a)) (trace_is areas' m' cells' events' e'))

    -- one invariant
    one_answer : (i : Invariant) → all in_e (names i) ≡ true
        → about i (read_all i cells (ended areas m cells events).engine.trace) ≡ about i
        (read_all i cells' (ended areas' m' cells' events').engine.trace)
    one_answer i h =
        let k : Records m.scenario.limits.horizon (ended areas m cells events).engine.trace =
        records areas m cells events e in
        let k' : Records m'.scenario.limits.horizon (ended areas' m' cells' events').engine.trace =
        records areas' m' cells' events' e' in
        Judge.judge_view in_e in_a i h cells _ m.scenario.limits.horizon k.heads k.rises k.closes k.fairs
        ∙ (λ j. about i (read_all i (a.same_cells j) (same_records j)))
        ∙ sym (Judge.judge_view in_e in_a i h cells' _ m'.scenario.limits.horizon k'.heads k'.rises
        k'.closes k'.fairs)

    all_answers : (l : List Invariant) → Every (λ i. all in_e (names i)) l
        → each (λ i. about i (read_all i cells (ended areas m cells events).engine.trace)) l ≡ each
        (λ i. about i (read_all i cells' (ended areas' m' cells' events').engine.trace)) l
    unfolding each
    all_answers [] h = refl
    all_answers (i ∷ l) h = λ j. one_answer i h.0 j ∷ all_answers l h.1 j

    -- what a check returns of each invariant
    unfoldable told_of : Invariant → About → List (Text × Told)
    told_of i (holds us) = []
    told_of i (fails y at src us) = (id_of i, failed y at src) ∷ []
    told_of i (late d) = (id_of i, missed d) ∷ []

    told_is : (i : Invariant) (r : Reading) → each violation_told (violation_of i r.failing) ≡ told_of i (about i r)
    unfolding about
    told_is i r = go r.failing
      where
        by : (x : Told) (us : List Text) → (id_of i, x) ∷ [] ≡ told_of i (about_failing x us)
        by (failed y at src) us = unfold about_failing told_of in refl
        by (missed d) us = unfold about_failing told_of in refl

        go : (o : Option Failing) → each violation_told (violation_of i o)
            ≡ told_of i (elim o [
              | none ↦ holds (unknown_reasons i r.memory)
              | some f ↦ about_failing (told f.failure f.at f.source) (unknown_reasons i r.memory)
            ])
        go none = unfold each violation_of told_of in refl
        go (some f) = unfold each violation_of violation_told in
            (by (told f.failure f.at f.source) (unknown_reasons i r.memory))

    flat_told : (l : List Invariant) → Every (λ i. all in_e (names i)) l
        → flat (λ i. each violation_told
        (violation_of i (read_all i cells (ended areas m cells events).engine.trace).failing)) l
        ≡ flat (λ i. each violation_told
        (violation_of i (read_all i cells' (ended areas' m' cells' events').engine.trace).failing)) l
    unfolding flat
    flat_told [] h = refl
    flat_told (i ∷ l) h =
        λ j. (told_is i (read_all i cells (ended areas m cells events).engine.trace)
        ∙ ap (told_of i) (one_answer i h.0)
        ∙ sym (told_is i (read_all i cells' (ended areas' m' cells' events').engine.trace))) j ++ flat_told l
        h.1 j

    all_told : (l : List Invariant) → Every (λ i. all in_e (names i)) l
        → each violation_told
        (flat (λ i. violation_of i (read_all i cells (ended areas m cells events).engine.trace).failing) l)
        ≡ each violation_told
        (flat (λ i. violation_of i (read_all i cells' (ended areas' m' cells' events').engine.trace).failing) l)
    all_told l h = each_flat violation_told _ l ∙ flat_told l h ∙ sym (each_flat violation_told _ l)

-- ---- a check that is not refused

abbrev pub simulation_of : Areas → Model → List Cell → List Event → Simulation
simulation_of areas m cells events = outcome m (ended areas m cells events)

simulated_is : (areas : Areas) (m : Model) (cells : List Cell) (events : List Event) (s : Simulation)
    → simulated areas m cells events ≡ answer s → s ≡ simulation_of areas m cells events
unfolding simulated unless_full
simulated_is areas m cells events s e = go (ended areas m cells events).engine.overflow e
  where
    go : (o : Option ℕ) → unless_full o (simulation_of areas m cells events) ≡ answer s
        → s ≡ simulation_of areas m cells events
    go none p = sym (answer_eq p)
    go (some n) p = absurd (refused_answer p)

pub checked_is : (areas : Areas) (m : Model) (cells : List Cell) (events : List Event) (c : Check)
    → checked areas m cells events ≡ answer c
    → c ≡ judged m.scenario.invariants cells (simulation_of areas m cells events)
unfolding checked
checked_is areas m cells events c e =
    let b : (s : Simulation) × ((simulated areas m cells events ≡ answer s)
    × (answer (judged m.scenario.invariants cells s) ≡ answer c)) =
    bind_inv (simulated areas m cells events) (λ s. answer (judged m.scenario.invariants cells s)) c e in
    sym (answer_eq b.1.1) ∙ ap (judged m.scenario.invariants cells)
    (simulated_is areas m cells events b.0 b.1.0)

-- what two checks have in common
pub record Common (m m' : Model) (cells cells' : List Cell) (c c' : Check) : Type 0 where
  pub answers : each (λ i. about i (read_all i cells c.simulation.trace)) m.scenario.invariants ≡ each
      (λ i. about i (read_all i cells' c'.simulation.trace)) m'.scenario.invariants
  pub returned : each violation_told c.violations ≡ each violation_told c'.violations

module _ (in_e in_a : Text → Bool) where
  pub check_same : (m m' : Model) (cells cells' : List Cell) → Inside in_e in_a m m' cells cells'
      → (areas areas' : Areas) (events events' : List Event)
      → keep (cone_event in_e in_a) events ≡ keep (cone_event in_e in_a) events'
      → (c c' : Check) → checked areas m cells events ≡ answer c → checked areas' m' cells' events' ≡ answer c'
      → c.simulation.incomplete ≡ [] → c'.simulation.incomplete ≡ []
      → Common m m' cells cells' c c'
  check_same m m' cells cells' a areas areas' events events' v c c' p p' e e' =
      rw (checked_is areas m cells events c p, checked_is areas' m' cells' events' c' p')
      (record {
        answers = unfold judged outcome in
            (all_answers in_e in_a m m' cells cells' a areas areas' events events' v d d' m.scenario.invariants
            a.named
            ∙ ap (each (λ i. about i (read_all i cells' (ended areas' m' cells' events').engine.trace)))
            a.same_invariants);
        returned = unfold judged outcome in
            (all_told in_e in_a m m' cells cells' a areas areas' events events' v d d' m.scenario.invariants a.named
            ∙ ap (λ (l : List Invariant). each violation_told
            (flat (λ i. violation_of i
            (read_all i cells' (ended areas' m' cells' events').engine.trace).failing) l)) a.same_invariants);
      })
    where
      d : (ended areas m cells events).incomplete ≡ []
      d = unfold judged outcome in (rw (checked_is areas m cells events c p) at e)

      d' : (ended areas' m' cells' events').incomplete ≡ []
      d' = unfold judged outcome in (rw (checked_is areas' m' cells' events' c' p') at e')
