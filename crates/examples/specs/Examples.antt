-- The scope's examples that are to be proved, P1 to P12, as one table with one theorem.
use Rattle.std.specs.Prelude.{ℕ, ◌≡◌, refl, List, [], ◌∷◌}
use Rattle.std.proofs.Math.Option.{Option, none, some}
use Rattle.texts.specs.Texts.{Text, text}
use Rattle.model_spec.specs.Answer.{Answer, answer, refused, Verdict, accept, ◌>>=◌}
use Rattle.model_spec.specs.Model.{
  Source,
  Entity,
  comfort,
  Predicate,
  state,
  single,
  toggle,
  done,
  act,
  Automation,
  Input,
  reload,
  Event,
  Invariant,
  never,
  response,
  Model,
  midnight,
}
use Rattle.model_spec.specs.Validate.{accepted}
use Rattle.engine_spec.specs.Cells.{Cell, initial_cells}
use Rattle.engine_spec.specs.Kleene.{Yes, No, Unknown}
use Rattle.engine_spec.specs.Truth.{evaluate, evaluate_all}
use Rattle.engine_spec.specs.Records.{Kind, Change, Trace, Areas}
use Rattle.engine_spec.specs.Simulate.{simulated}
use Rattle.checker_spec.specs.Judge.{deadline_missed}
use Rattle.checker_spec.specs.Check.{Status, no_violation_in_trace, Violation, checked}
use Rattle.checker_spec.specs.Verify.{Found, no_counterexample_within_bounds, verified, all_verify}
use Rattle.examples.specs.Files as files

-- ---- models about a lamp

unfoldable pub lamp_with : (stale_after : Option ℕ) → Entity
lamp_with stale = record {
  name = text "lamp";
  domain = text "dim" ∷ text "off" ∷ text "on" ∷ [];
  initial = text "off";
  tier = comfort;
  stale_after = stale;
}

unfoldable pub model_with : List Automation → Entity → List Event → List Invariant → List Input → (horizon depth : ℕ)
    → Model
model_with rules lamp events invariants alphabet horizon depth = record {
  scenario = record {
    version = 1;
    title = [];
    entities = lamp ∷ [];
    events = events;
    invariants = invariants;
    alphabet = alphabet;
    gaps = 10 ∷ [];
    limits = record { horizon = horizon; max_steps = 100; search_depth = depth; max_cases = 100 };
  };
  rules = rules;
  start = midnight;
}

unfoldable pub model : Entity → List Event → List Invariant → List Input → (horizon depth : ℕ) → Model
model = model_with []

unfoldable pub turn : ℕ → Text → Event
turn t v = record { at = t; input = Input.set (text "lamp") v }

unfoldable pub lamp_is : Text → Predicate
lamp_is v = state (text "lamp") v

-- the lamp alone, at a value
unfoldable pub at : Text → List Cell
at v = record { name = text "lamp"; stale_after = none; value = v; version = 0 } ∷ []

unfoldable pub room : Areas
room = record { queue = 100; records = 100; runs = 100 }

unfoldable pub cells_of : Model → List Cell
cells_of m = initial_cells m.scenario.entities

unfoldable pub final : Model → Answer (List (Text × Text))
final m = simulated room m (cells_of m) m.scenario.events >>= λ s. answer s.final_state

unfoldable pub records : Model → Answer (List Trace)
records m = simulated room m (cells_of m) m.scenario.events >>= λ s. answer s.trace

unfoldable pub status : Model → Answer Status
status m = checked room m (cells_of m) m.scenario.events >>= λ c. answer c.status

unfoldable pub violations : Model → Answer (List Violation)
violations m = checked room m (cells_of m) m.scenario.events >>= λ c. answer c.violations

-- a search's status, its cases and its reasons
unfoldable pub search : Model → Answer (Found × (ℕ × List Text))
search m = verified room m (cells_of m) >>= λ v. answer (v.status, (v.cases, v.reasons))

-- whether a file's model is accepted, or its refusal
unfoldable pub verdict : List ℕ → Verdict
verdict file = accepted file >>= λ m. accept

-- `stale_after` 0, and nothing happens
unfoldable pub fading : (horizon : ℕ) → Model
fading h = model (lamp_with (some 0)) [] [] [] h 0

-- a record about no automation; about one
unfoldable pub told : ℕ → Kind → Option Change → Trace
told t k c = record { at = t; kind = k; automation = none; source = none; change = c }

unfoldable pub told_of : ℕ → Kind → (place : Option Source) → Option Change → Trace
told_of t k s c = record { at = t; kind = k; automation = some (text "flip"); source = s; change = c }

unfoldable pub lamp_from : (before after : Text) → Option Change
lamp_from v w = some (record { entity = text "lamp"; before = v; after = w })

-- the lamp is dimmed at second 5, and an automation toggles it then
unfoldable pub place : ℕ → Source
place n = record { line = n; column = 1 }

unfoldable pub dim_toggled : Model
dim_toggled =
    model_with
    (record {
      id = text "flip";
      mode = single;
      max = 1;
      triggers =
          record { entity = text "lamp"; from = none; to = some (text "dim"); source = place 1; note = none } ∷ [];
      conditions = [];
      actions = act (place 3) (toggle (text "lamp")) done;
      source = place 2;
      notes = [];
    } ∷ [])
    (lamp_with none) (turn 5 (text "dim") ∷ []) [] [] 7 0

-- on within 10 seconds of dim, which comes at second 5
unfoldable pub dimmed : (goal : ℕ) → Model
dimmed t =
    model (lamp_with none) (turn 5 (text "dim") ∷ turn t (text "on") ∷ [])
    (response (text "r") (lamp_is (text "dim")) (lamp_is (text "on")) 10 ∷ []) [] 20 0

unfoldable pub searched : List Input → Model
searched inputs = model (lamp_with none) [] (never (text "n") (lamp_is (text "dim") ∷ []) ∷ []) inputs 20 5

pub record Table : Type 0 where
  pub p1 : (l : List Cell) → evaluate_all midnight [] l ≡ Yes
  pub p2 : evaluate_all midnight (Predicate.unknown (text "note") ∷ lamp_is (text "on") ∷ []) (at (text "off")) ≡ No
  pub p3 : evaluate midnight (lamp_is (text "unknown")) (at (text "unknown")) ≡ Yes
  pub p4 : evaluate midnight (lamp_is (text "off")) (at (text "unavailable")) ≡ Unknown
  pub p5 : (final dim_toggled ≡ answer ((text "lamp", text "on") ∷ []))
      × (records dim_toggled
      ≡ answer
      (told 0 Kind.initial none
      ∷ told 5 Kind.external (lamp_from (text "off") (text "dim"))
      ∷ told_of 5 (Kind.trigger Yes) (some (place 2)) none
      ∷ told_of 5 (Kind.start 1) none none
      ∷ told_of 5 Kind.action (some (place 3)) (lamp_from (text "dim") (text "on"))
      ∷ told_of 5 (Kind.complete 1) none none
      ∷ told 7 Kind.horizon none
      ∷ []))
  pub p6 : (final (fading 0) ≡ answer ((text "lamp", text "off") ∷ []))
      × (records (fading 0) ≡ answer (told 0 Kind.initial none ∷ told 0 Kind.horizon none ∷ []))
  pub p7 : (final (fading 1) ≡ answer ((text "lamp", text "unknown") ∷ []))
      × (records (fading 1)
      ≡ answer
      (told 0 Kind.initial none
      ∷ told 1 Kind.stale (lamp_from (text "off") (text "unknown"))
      ∷ told 1 Kind.horizon none
      ∷ []))
  -- an empty list at depth 16 is accepted, at depth 17 it is refused
  pub p8 : verdict (files.file_with files.no_event (files.rule_with (files.nested 16))) ≡ accept
  pub p9 : verdict (files.file_with files.no_event (files.rule_with (files.nested 17))) ≡ refused 16
  -- an event at the horizon, 7, and one a second later
  pub p10 : (verdict (files.file_with (files.event_at 7) files.no_rule) ≡ accept)
      × (verdict (files.file_with (files.event_at 8) files.no_rule) ≡ refused 9)
  -- the goal at second 15 holds; at 16 it fails, with the deadline 15, at the record of second 16, which is the third
  pub p11 : ((status (dimmed 15) ≡ answer no_violation_in_trace) × (violations (dimmed 15) ≡ answer []))
      × ((status (dimmed 16) ≡ answer Status.violation)
      × (violations (dimmed 16)
      ≡ answer
      (record { invariant = text "r"; at = 16; index = 2; source = none; failure = deadline_missed 15 } ∷ [])))
  pub p12 : (search (searched (Input.set (text "lamp") (text "on") ∷ []))
      ≡ answer (no_counterexample_within_bounds, (3, [])))
      × (search (searched (Input.set (text "lamp") (text "on") ∷ reload ∷ []))
      ≡ answer (no_counterexample_within_bounds, (7, [])))
  -- a record area of no entries
  pub no_records : simulated (record { queue = 100; records = 0; runs = 100 }) (fading 0) (cells_of (fading 0)) []
      ≡ refused 42

pub examples : Table
unfolding all_verify files.all_files lamp_with model_with model turn lamp_is at room cells_of final records status violations
    search verdict fading told told_of lamp_from place dim_toggled dimmed searched
examples = record {
  p1 = λ l. refl;
  p2 = refl;
  p3 = refl;
  p4 = refl;
  p5 = (refl, refl);
  p6 = (refl, refl);
  p7 = (refl, refl);
  p8 = refl;
  p9 = refl;
  p10 = (refl, refl);
  p11 = ((refl, refl), (refl, refl));
  p12 = (refl, refl);
  no_records = refl;
}
