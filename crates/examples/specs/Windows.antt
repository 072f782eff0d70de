-- Windows and the model's start: worked examples, as one table with one theorem.
use Rattle.std.specs.Prelude.{ℕ, zero, suc, ◌≡◌, refl, true, false, List, [], ◌∷◌, ◌++◌, length}
use Rattle.std.proofs.Math.Option.{none, some}
use Rattle.texts.specs.Texts.{Text, text}
use Rattle.model_spec.specs.Answer.{Answer, answer, refused, Verdict, accept, ◌>>=◌}
use Rattle.model_spec.specs.Model.{
  Moment,
  Predicate,
  state,
  window,
  single,
  delay,
  condition,
  choose,
  Effect,
  Actions,
  done,
  act,
  no_branch,
  branch,
  reload,
  Invariant,
  never,
  guard,
  response,
  Model,
}
use Rattle.model_spec.specs.Windows.{with_start}
use Rattle.model_spec.specs.Validate.{check_predicate, check_stated, validate}
use Rattle.engine_spec.specs.Kleene.{Truth, Yes, No, Unknown}
use Rattle.engine_spec.specs.Truth.{moment_after, evaluate, evaluate_all}
use Rattle.engine_spec.specs.Records.{Areas}
use Rattle.engine_spec.specs.Simulate.{simulated}
use Rattle.checker_spec.specs.Judge.{prohibited_state}
use Rattle.checker_spec.specs.Check.{Status, no_violation_in_trace, Violation, check}
use Rattle.checker_spec.specs.Verify.{all_verify}
use Rattle.lint_spec.specs.Findings.{contradictory, mismatched, clash}
use Rattle.examples.specs.Files as files
use Rattle.examples.specs.Examples as examples
use Rattle.examples.specs.Examples.{lamp_is, at, final, verdict}

-- ---- moments and windows

unfoldable pub on_day : (weekday second : ℕ) → Moment
on_day d s = record { weekday = d; second = s }

-- from 22:00 to 06:00 of the night that begins on one of these weekdays; bit n is weekday n
unfoldable pub night : (days : ℕ) → Predicate
night d = window d 79200 21600

-- from 08:00 to 18:00
unfoldable pub office : (days : ℕ) → Predicate
office d = window d 28800 64800

-- a predicate's truth so many seconds after the start
unfoldable pub truth_at : Predicate → (start : Moment) → (t : ℕ) → Truth
truth_at p start t = evaluate (moment_after start t) p []

-- ---- a lamp that an automation turns off again

unfoldable pub off_if : (conditions : List Predicate) → Actions → Moment → (horizon : ℕ) → (on : ℕ) → Model
off_if ps as' start h t =
    with_start start (examples.model_with
    (record {
      id = text "quiet";
      mode = single;
      max = 1;
      triggers =
          record { entity = text "lamp"; from = none; to = some (text "on"); source = examples.place 1; note = none } ∷ [];
      conditions = ps;
      actions = as';
      source = examples.place 2;
      notes = [];
    } ∷ [])
    (examples.lamp_with none) (examples.turn t (text "on") ∷ []) [] [] h 0)

-- the lamp's value is lost at second 4; any change of the lamp triggers the automation. What reasons its simulation gives
unfoldable pub reasons_if : (conditions : List Predicate) → Moment → Answer (List Text)
reasons_if ps start =
    let m = with_start start (examples.model_with
    (record {
      id = text "quiet";
      mode = single;
      max = 1;
      triggers = record { entity = text "lamp"; from = none; to = none; source = examples.place 1; note = none } ∷ [];
      conditions = ps;
      actions = done;
      source = examples.place 2;
      notes = [];
    } ∷ [])
    (examples.lamp_with none) (examples.turn 4 (text "unknown") ∷ []) [] [] 10 0) in
    simulated examples.room m (examples.cells_of m) m.scenario.events >>= λ s. answer s.unknown

-- a model with so many entities and so many inputs that starts on a weekday
unfoldable pub copies : {A : Type 0} → ℕ → A → List A
copies zero a = []
copies (suc n) a = a ∷ copies n a

unfoldable pub sized : (entities inputs weekday : ℕ) → Model
sized n i d = record {
  scenario = record {
    version = 1;
    title = [];
    entities = copies n (examples.lamp_with none);
    events = [];
    invariants = [];
    alphabet = copies i reload;
    gaps = 10 ∷ [];
    limits = record { horizon = 7; max_steps = 100; search_depth = 0; max_cases = 1 };
  };
  rules = [];
  start = on_day d 0;
}

unfoldable pub valid : Model → Verdict
valid m = validate m >>= λ n. accept

-- a model with one invariant
unfoldable pub stating : Invariant → Model
stating i = examples.model (examples.lamp_with none) [] (i ∷ []) [] 7 0

unfoldable pub door_open : Predicate
door_open = state (text "door") (text "open")

-- refused: from a second to the same second, for no weekday
unfoldable pub empty : Predicate
empty = window 0 5 5

unfoldable pub turn_off : Actions
turn_off = act (examples.place 3) (Effect.set (text "lamp") (text "off")) done

-- a delay, and then an effect and the others
unfoldable pub waiting : (seconds : ℕ) → Effect → Actions → Actions
waiting n f rest = act (examples.place 4) (delay n) (act (examples.place 5) f rest)

-- a choice that turns the lamp off at night
unfoldable pub at_night_off : Effect
at_night_off = choose (branch (night 1 ∷ []) turn_off no_branch) done

unfoldable pub lamp : Text → Answer (List (Text × Text))
lamp v = answer ((text "lamp", v) ∷ [])

-- ---- files

-- no event, no automation, and these bytes behind it
unfoldable pub ending : List ℕ → List ℕ
ending tail = files.file_with files.no_event files.no_rule ++ tail

unfoldable pub zeros : List ℕ
zeros = 0 ∷ 0 ∷ 0 ∷ 0 ∷ 0 ∷ 0 ∷ 0 ∷ []

-- the scope's example of `showcheck`, examples/lampdoor.model, with other conditions of its automation and these bytes
-- behind it
unfoldable pub lampdoor : (conditions tail : List ℕ) → List ℕ
lampdoor conditions tail =
    1 ∷ 0 ∷ 0 ∷ 0 ∷ 11 ∷ 0 ∷ 4 ∷ text "door" ++ 7 ∷ text "example" ++ 4 ∷ text "lamp" ++ 8 ∷ text "lampdoor"
    ++ 6 ∷ text "locked" ++ 6 ∷ text "nodoor" ++ 3 ∷ text "off" ++ 2 ∷ text "on" ++ 11 ∷ text "unavailable"
    ++ 7 ∷ text "unknown" ++ 8 ∷ text "unlocked"
    ++ 1 ∷ 0 ∷ 2 ∷ 0 ∷ 0 ∷ 0 ∷ 2 ∷ 0 ∷ 4 ∷ 0 ∷ 10 ∷ 0 ∷ 4 ∷ 0 ∷ 3 ∷ 255 ∷ 255 ∷ 255 ∷ 255
    ∷ 2 ∷ 0 ∷ 2 ∷ 0 ∷ 6 ∷ 0 ∷ 7 ∷ 0 ∷ 6 ∷ 0 ∷ 1 ∷ 255 ∷ 255 ∷ 255 ∷ 255
    ∷ 1 ∷ 0 ∷ 5 ∷ 0 ∷ 0 ∷ 0 ∷ 0 ∷ 2 ∷ 0 ∷ 7 ∷ 0
    ∷ 1 ∷ 0 ∷ 0 ∷ 5 ∷ 0 ∷ 1 ∷ 0 ∷ 0 ∷ 0 ∷ 0 ∷ 10 ∷ 0
    ∷ 1 ∷ 0 ∷ 0 ∷ 2 ∷ 0 ∷ 7 ∷ 0 ∷ 1 ∷ 0 ∷ 1 ∷ 0 ∷ 0 ∷ 0
    ∷ 10 ∷ 0 ∷ 0 ∷ 0 ∷ 100 ∷ 0 ∷ 0 ∷ 0 ∷ 1 ∷ 0 ∷ 0 ∷ 0 ∷ 10 ∷ 0 ∷ 0 ∷ 0
    ∷ 1 ∷ 0 ∷ 3 ∷ 0 ∷ 0 ∷ 1 ∷ 0 ∷ 0 ∷ 0 ∷ 1 ∷ 0 ∷ 2 ∷ 0 ∷ 255 ∷ 255 ∷ 7 ∷ 0 ∷ 1 ∷ 0 ∷ 0 ∷ 0 ∷ 1 ∷ 0 ∷ 0 ∷ 0 ∷ 255 ∷ 255 ∷ []
    ++ conditions
    ++ 1 ∷ 0 ∷ 7 ∷ 0 ∷ 0 ∷ 0 ∷ 3 ∷ 0 ∷ 0 ∷ 0 ∷ 0 ∷ 0 ∷ 0 ∷ 10 ∷ 0 ∷ 1 ∷ 0 ∷ 0 ∷ 0 ∷ 1 ∷ 0 ∷ 0 ∷ 0 ∷ 0 ∷ 0 ∷ []
    ++ tail

-- a condition of a kind that holds these bytes
unfoldable pub one_condition : (kind : ℕ) → List ℕ → List ℕ
one_condition k bytes = 1 ∷ 0 ∷ k ∷ bytes

-- 79,200, 21,600 and 86,400 as bytes
unfoldable pub ten_at_night : List ℕ
ten_at_night = 96 ∷ 53 ∷ 1 ∷ 0 ∷ []

unfoldable pub six_in_the_morning : List ℕ
six_in_the_morning = 96 ∷ 84 ∷ 0 ∷ 0 ∷ []

unfoldable pub a_day : List ℕ
a_day = 128 ∷ 81 ∷ 1 ∷ 0 ∷ []

unfoldable pub no_condition : List ℕ
no_condition = 0 ∷ 0 ∷ []

unfoldable pub at_night : List ℕ
at_night = one_condition 2 (1 ∷ ten_at_night ++ six_in_the_morning)

-- weekday 0, at second 79,104 + n
unfoldable pub evening : (n : ℕ) → List ℕ
evening n = 0 ∷ 0 ∷ 0 ∷ 0 ∷ n ∷ 53 ∷ 1 ∷ 0 ∷ []

unfoldable pub room : Areas
room = record { queue = 1024; records = 1024; runs = 512 }

-- a check's status, its steps and records, its violations, and its reasons
unfoldable pub outcome : List ℕ → Answer (Status × (ℕ × (ℕ × (List Violation × List Text))))
outcome file = check room file >>= λ c.
    let s = c.simulation in
    answer (c.status, (s.steps, (length s.trace, (c.violations, c.unknown ++ c.incomplete))))

-- the scope's answer
unfoldable pub unlocks : Answer (Status × (ℕ × (ℕ × (List Violation × List Text))))
unlocks = answer (
  Status.violation,
  (
    5,
    (
      7,
      (
        record {
          invariant = text "nodoor";
          at = 5;
          index = 4;
          source = some (record { line = 7; column = 3 });
          failure = prohibited_state;
        } ∷ [],
        [],
      ),
    ),
  ),
)

-- ---- the table

pub record Table : Type 0 where
  -- the start is in, the end is out
  pub day_start : (truth_at (office 1) (on_day 0 28799) 0 ≡ No) × (truth_at (office 1) (on_day 0 28799) 1 ≡ Yes)
  pub day_end : (truth_at (office 1) (on_day 0 64799) 0 ≡ Yes) × (truth_at (office 1) (on_day 0 64799) 1 ≡ No)
  pub other_day : (truth_at (office 2) (on_day 0 30000) 0 ≡ No) × (truth_at (office 2) (on_day 0 30000) 86400 ≡ Yes)
  pub night_start : (truth_at (night 1) (on_day 0 79199) 0 ≡ No) × (truth_at (night 1) (on_day 0 79199) 1 ≡ Yes)
  -- past midnight it is weekday 1, second 0: the window belongs to weekday 0
  pub past_midnight : (truth_at (night 1) (on_day 0 79199) 7201 ≡ Yes) × (truth_at (night 2) (on_day 0 79199) 7201 ≡ No)
  pub night_end : (truth_at (night 1) (on_day 0 79199) 28800 ≡ Yes) × (truth_at (night 1) (on_day 0 79199) 28801 ≡ No)
  -- the first hours of weekday 0 belong to weekday 6
  pub night_before : (truth_at (night 1) (on_day 0 0) 0 ≡ No) × (truth_at (night 64) (on_day 0 0) 0 ≡ Yes)
  pub week_turns : (truth_at (night 64) (on_day 6 86000) 399 ≡ Yes) × (truth_at (night 64) (on_day 6 86000) 400 ≡ Yes)
  -- up to midnight: end 0
  pub until_midnight : (truth_at (window 1 79200 0) (on_day 0 86399) 0 ≡ Yes)
      × (truth_at (window 1 79200 0) (on_day 0 86399) 1 ≡ No)
  -- two days later
  pub later_days : (moment_after (on_day 6 86399) 86400 ≡ on_day 0 86399)
      × (moment_after (on_day 6 86399) 86401 ≡ on_day 1 0)
  -- a closed window wins over an unknown, an open one leaves it
  pub closed_wins : evaluate_all (on_day 0 0) (lamp_is (text "on") ∷ night 1 ∷ []) (at (text "unknown")) ≡ No
  pub no_reason : reasons_if (lamp_is (text "on") ∷ night 1 ∷ []) (on_day 0 0) ≡ answer []
  pub open_leaves : evaluate_all (on_day 0 0) (lamp_is (text "on") ∷ night 64 ∷ []) (at (text "unknown")) ≡ Unknown
  pub a_reason : reasons_if (lamp_is (text "on") ∷ night 64 ∷ []) (on_day 0 0)
      ≡ answer (text "quiet: unknown trigger condition" ∷ [])
  -- a trigger's conditions are read at the second of the change
  pub at_the_change : (final (off_if (night 1 ∷ []) turn_off (on_day 0 79195) 10 4) ≡ lamp (text "on"))
      × (final (off_if (night 1 ∷ []) turn_off (on_day 0 79195) 10 5) ≡ lamp (text "off"))
  -- an action's condition and a choice's are read at the second of that action
  pub after_a_delay :
      (final (off_if [] (waiting 3 (condition (night 1)) turn_off) (on_day 0 79195) 10 1) ≡ lamp (text "on"))
      × (final (off_if [] (waiting 4 (condition (night 1)) turn_off) (on_day 0 79195) 10 1) ≡ lamp (text "off"))
  pub in_a_choice : (final (off_if [] (waiting 3 at_night_off done) (on_day 0 79195) 10 1) ≡ lamp (text "on"))
      × (final (off_if [] (waiting 4 at_night_off done) (on_day 0 79195) 10 1) ≡ lamp (text "off"))
  -- the scope's example: unlocked from 22:00 on at second 5, not a second earlier
  pub as_before : outcome (lampdoor no_condition []) ≡ unlocks
  pub without_window : outcome (lampdoor no_condition (evening 90)) ≡ unlocks
  pub in_time : outcome (lampdoor at_night (evening 91)) ≡ unlocks
  pub too_early : outcome (lampdoor at_night (evening 90)) ≡ answer (no_violation_in_trace, (2, (4, ([], []))))
  -- 50, at the window's turn
  pub accepted_window : verdict (lampdoor at_night []) ≡ accept
  pub no_weekday : verdict (lampdoor (one_condition 2 (0 ∷ ten_at_night ++ six_in_the_morning)) []) ≡ refused 50
  pub last_weekday : verdict (lampdoor (one_condition 2 (127 ∷ ten_at_night ++ six_in_the_morning)) []) ≡ accept
  pub weekday_above : verdict (lampdoor (one_condition 2 (128 ∷ ten_at_night ++ six_in_the_morning)) []) ≡ refused 50
  pub never_open : verdict (lampdoor (one_condition 2 (1 ∷ ten_at_night ++ ten_at_night)) []) ≡ refused 50
  pub end_above : verdict (lampdoor (one_condition 2 (1 ∷ ten_at_night ++ a_day)) []) ≡ refused 50
  pub start_above : verdict (lampdoor (one_condition 2 (1 ∷ a_day ++ ten_at_night)) []) ≡ refused 50
  pub next_kind : verdict (lampdoor (one_condition 3 (1 ∷ ten_at_night ++ six_in_the_morning)) []) ≡ refused 30
  -- in an invariant 51, whatever the window holds
  pub stated : (check_stated [] (night 1) ≡ refused 51) × (check_stated [] (window 0 0 0) ≡ refused 51)
  pub not_stated : (check_predicate [] (night 1) ≡ accept) × (check_predicate [] (window 0 0 0) ≡ refused 50)
  -- each at its turn: predicates in list order, behind 11, before a guard's own pair and before 12
  pub in_never : (valid (stating (never (text "n") (door_open ∷ empty ∷ []))) ≡ refused 7)
      × (valid (stating (never (text "n") (empty ∷ door_open ∷ []))) ≡ refused 51)
  pub in_guard : (valid (stating (guard (text "g") (text "door") (text "open") [])) ≡ refused 11)
      × ((valid (stating (guard (text "g") (text "door") (text "open") (night 1 ∷ []))) ≡ refused 51)
      × (valid (stating (guard (text "g") (text "door") (text "open") (lamp_is (text "on") ∷ []))) ≡ refused 7))
  pub in_response : (valid (stating (response (text "r") (night 1) door_open 86401)) ≡ refused 51)
      × ((valid (stating (response (text "r") (lamp_is (text "on")) (night 1) 86401)) ≡ refused 51)
      × (valid (stating (response (text "r") (lamp_is (text "on")) (lamp_is (text "off")) 86401)) ≡ refused 12))
  pub in_conditions : (valid (off_if (door_open ∷ empty ∷ []) turn_off (on_day 0 0) 10 5) ≡ refused 7)
      × (valid (off_if (empty ∷ door_open ∷ []) turn_off (on_day 0 0) 10 5) ≡ refused 50)
  pub in_actions : (valid (off_if [] (waiting 86401 (condition empty) turn_off) (on_day 0 0) 10 5) ≡ refused 18)
      × ((valid (off_if [] (waiting 3 (condition empty) turn_off) (on_day 0 0) 10 5) ≡ refused 50)
      × (valid (off_if [] (act (examples.place 4) (choose (branch (empty ∷ []) done no_branch) done) done) (on_day 0 0) 10 5)
      ≡ refused 50))
  -- the start: a file ends before it, or holds all of it
  pub no_start : verdict (ending []) ≡ accept
  pub a_byte : verdict (ending (0 ∷ [])) ≡ refused 30
  pub half_a_start : verdict (ending (0 ∷ 0 ∷ 0 ∷ 0 ∷ [])) ≡ refused 30
  pub seven_bytes : verdict (ending zeros) ≡ refused 30
  pub eight_bytes : verdict (ending (0 ∷ zeros)) ≡ accept
  pub nine_bytes : verdict (ending (0 ∷ 0 ∷ zeros)) ≡ refused 31
  pub saturday_midnight : verdict (ending (6 ∷ 0 ∷ 0 ∷ 0 ∷ 127 ∷ 81 ∷ 1 ∷ 0 ∷ [])) ≡ accept
  pub weekday_seven : verdict (ending (7 ∷ 0 ∷ 0 ∷ 0 ∷ 0 ∷ 0 ∷ 0 ∷ 0 ∷ [])) ≡ refused 3
  pub wide_weekday : verdict (ending (0 ∷ 1 ∷ 0 ∷ 0 ∷ 0 ∷ 0 ∷ 0 ∷ 0 ∷ [])) ≡ refused 3
  pub second_above : verdict (ending (0 ∷ 0 ∷ 0 ∷ 0 ∷ a_day)) ≡ refused 3
  -- 3 comes after 2 and before 4
  pub in_order : (valid (sized 33 12 7) ≡ refused 2)
      × ((valid (sized 1 13 7) ≡ refused 3) × (valid (sized 1 13 6) ≡ refused 4))
  -- lint passes over windows
  pub no_contradiction : contradictory (night 1 ∷ office 1 ∷ lamp_is (text "on") ∷ []) ≡ false
  pub still_contradiction : contradictory (lamp_is (text "on") ∷ night 1 ∷ lamp_is (text "off") ∷ []) ≡ true
  pub no_mismatch : mismatched (night 1 ∷ [])
      (record { entity = text "lamp"; from = none; to = some (text "on"); source = examples.place 1; note = none }) ≡ false

pub windows : Table
unfolding all_verify files.all_files examples.lamp_with examples.model_with examples.model examples.turn lamp_is at
    examples.room examples.cells_of final verdict examples.place on_day night office truth_at off_if turn_off waiting
    at_night_off lamp ending zeros lampdoor one_condition ten_at_night six_in_the_morning a_day no_condition at_night evening
    room outcome unlocks reasons_if copies sized valid stating door_open empty contradictory clash mismatched
windows = record {
  day_start = (refl, refl);
  day_end = (refl, refl);
  other_day = (refl, refl);
  night_start = (refl, refl);
  past_midnight = (refl, refl);
  night_end = (refl, refl);
  night_before = (refl, refl);
  week_turns = (refl, refl);
  until_midnight = (refl, refl);
  later_days = (refl, refl);
  closed_wins = refl;
  no_reason = refl;
  open_leaves = refl;
  a_reason = refl;
  at_the_change = (refl, refl);
  after_a_delay = (refl, refl);
  in_a_choice = (refl, refl);
  as_before = refl;
  without_window = refl;
  in_time = refl;
  too_early = refl;
  accepted_window = refl;
  no_weekday = refl;
  last_weekday = refl;
  weekday_above = refl;
  never_open = refl;
  end_above = refl;
  start_above = refl;
  next_kind = refl;
  stated = (refl, refl);
  not_stated = (refl, refl);
  in_never = (refl, refl);
  in_guard = (refl, (refl, refl));
  in_response = (refl, (refl, refl));
  in_conditions = (refl, refl);
  in_actions = (refl, (refl, refl));
  no_start = refl;
  a_byte = refl;
  half_a_start = refl;
  seven_bytes = refl;
  eight_bytes = refl;
  nine_bytes = refl;
  saturday_midnight = refl;
  weekday_seven = refl;
  wide_weekday = refl;
  second_above = refl;
  in_order = (refl, (refl, refl));
  no_contradiction = refl;
  still_contradiction = refl;
  no_mismatch = refl;
}
