-- Demand 3 is about something: two files that differ in their texts, entities, automations and events outside the cone
-- meet all premises of its part on checks and of its part on searches. In both checks an invariant of each kind fails, at
-- the same second from the same source; both searches find the same witness. The automation that unlocks the door has a
-- window past midnight, and with another start the door stays locked.
use Prim.Native.Nat.{ℕ}
use mathlib.Core.List.{List, [], ◌∷◌}
use mathlib.Core.Option.{Option, none, some}
use mathlib.Core.Bool.{true}
use mathlib.Core.Path.{◌≡◌, refl}
use Rattle.texts.specs.Texts.{Text, text}
use Rattle.model_spec.specs.Model.{Source, Input}
use Rattle.model_spec.specs.Answer.{answer}
use Rattle.model_spec.specs.Validate.{accepted, all_checks}
use Rattle.checker_spec.specs.Judge.{Failure, prohibited_state, guard_violated, forbidden_transition, deadline_missed}
use Rattle.checker_spec.specs.Check.{Violation, Status, check, all_check}
use Rattle.checker_spec.specs.Verify.{counterexample, verify, all_verify}
use Rattle.cone_spec.specs.Cone.{all_cone}
use Rattle.cone_judge.specs.Reading.{About, fails, late}
use Rattle.noninterference.specs.Alike.{all_alike}
use Rattle.noninterference.specs.Demand.{all_demand}
use Rattle.noninterference_example.specs.EachKind.{before_midnight, first_from, first, second, all_each_kind}
use Rattle.noninterference_example.proofs.Premises.{
  plenty,
  answered,
  counts,
  Verdict,
  Outcome,
  whole_verdict,
  whole_outcome,
  abouts,
  shared,
  settings,
  inputs_inside,
  Met,
  meet,
}

abbrev at_7_3 : Option Source
at_7_3 = some (record { line = 7; column = 3 })

abbrev violation : (invariant : Text) (at index : ℕ) → Option Source → Failure → Violation
violation id t i s y = record { invariant = id; at = t; index = i; source = s; failure = y }

-- what the check of each file tells, with the indices of the records that fail the invariants
abbrev told : (steps records : ℕ) → (door lamp end : ℕ) → Verdict
told n m i j k = record {
  status = Status.violation;
  steps = n;
  records = m;
  violations = violation (text "nodoor") 5 i at_7_3 prohibited_state
      ∷ violation (text "door") 5 i at_7_3 guard_violated
      ∷ violation (text "lamp") 5 j none forbidden_transition
      ∷ violation (text "lampdoor") 10 k none (deadline_missed 7)
      ∷ [];
  unknown = [];
}

-- of each invariant, the same in both
abbrev each_told : List About
each_told =
    fails prohibited_state 5 at_7_3 []
    ∷ fails guard_violated 5 at_7_3 []
    ∷ fails forbidden_transition 5 none []
    ∷ late 7
    ∷ []

abbrev found : Outcome
found = record {
  status = counterexample;
  cases = 2;
  events = some (record { at = 1; input = Input.set (text "lamp") (text "on") } ∷ []);
}

first_sizes : answered counts (accepted first) ≡ answer (2 ∷ 1 ∷ 2 ∷ 1 ∷ [])
unfolding all_checks all_cone all_alike all_each_kind answered counts
first_sizes = refl

first_checked : answered whole_verdict (check plenty first) ≡ answer ([], told 10 12 8 2 11)
unfolding all_check all_each_kind answered plenty
first_checked = refl

first_told : abouts first ≡ answer each_told
unfolding all_check all_demand all_each_kind answered plenty abouts
first_told = refl

first_verified : answered whole_outcome (verify plenty 1000 first) ≡ answer ([], ([], found))
unfolding all_verify all_demand all_each_kind answered plenty
first_verified = refl

second_sizes : answered counts (accepted second) ≡ answer (2 ∷ 1 ∷ 3 ∷ 1 ∷ [])
unfolding all_checks all_cone all_alike all_each_kind answered counts
second_sizes = refl

second_checked : answered whole_verdict (check plenty second) ≡ answer ([], told 12 14 10 7 13)
unfolding all_check all_each_kind answered plenty
second_checked = refl

second_told : abouts second ≡ answer each_told
unfolding all_check all_demand all_each_kind answered plenty abouts
second_told = refl

second_verified : answered whole_outcome (verify plenty 1000 second) ≡ answer ([], ([], found))
unfolding all_verify all_demand all_each_kind answered plenty
second_verified = refl

-- ---- both

same_shared : answered shared (accepted first) ≡ answered shared (accepted second)
unfolding all_checks all_cone all_alike all_each_kind answered
same_shared = refl

same_settings : answered settings (accepted first) ≡ answered settings (accepted second)
unfolding all_checks all_each_kind answered
same_settings = refl

inside : answered inputs_inside (accepted first) ≡ answer true
unfolding all_checks all_cone all_alike all_each_kind answered
inside = refl

pub met : Met first second (2 ∷ 1 ∷ 2 ∷ 1 ∷ []) (2 ∷ 1 ∷ 3 ∷ 1 ∷ []) (told 10 12 8 2 11) (told 12 14 10 7 13) each_told found
met = meet
    (record { accepts = first_sizes; checks = first_checked; tells = first_told; verifies = first_verified })
    (record { accepts = second_sizes; checks = second_checked; tells = second_told; verifies = second_verified })
    (record { cones = same_shared; searches = same_settings; inside = inside })

-- ---- the start matters: on weekday 6 the window of weekday 0 is closed at midnight, and the door stays locked
pub other_start : answered whole_verdict (check plenty (first_from (before_midnight 6))) ≡ answer (
  [],
  record {
    status = Status.violation;
    steps = 7;
    records = 9;
    violations = violation (text "lamp") 5 2 none forbidden_transition
        ∷ violation (text "lampdoor") 10 8 none (deadline_missed 7)
        ∷ [];
    unknown = [];
  },
)
unfolding all_check all_each_kind answered plenty
other_start = refl
