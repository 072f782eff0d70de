-- A second pair that meets all premises of demand 3. An invariant holds and has an unknown reason, because a sensor's value
-- went stale; another fails at a toggle; a restart ends a wait.
use Prim.Native.Nat.{ℕ}
use mathlib.Core.List.{List, [], ◌∷◌}
use mathlib.Core.Option.{some}
use mathlib.Core.Bool.{true}
use mathlib.Core.Path.{◌≡◌, refl}
use Rattle.texts.specs.Texts.{text}
use Rattle.model_spec.specs.Model.{Input}
use Rattle.model_spec.specs.Answer.{answer}
use Rattle.model_spec.specs.Validate.{accepted, all_checks}
use Rattle.checker_spec.specs.Judge.{forbidden_transition}
use Rattle.checker_spec.specs.Check.{Status, check, all_check}
use Rattle.checker_spec.specs.Verify.{counterexample, verify, all_verify}
use Rattle.cone_spec.specs.Cone.{all_cone}
use Rattle.cone_judge.specs.Reading.{About, holds, fails}
use Rattle.noninterference.specs.Alike.{all_alike}
use Rattle.noninterference.specs.Demand.{all_demand}
use Rattle.noninterference_example.specs.Stale.{first, second, all_stale}
use Rattle.noninterference_example.proofs.Premises.{
  plenty,
  answered,
  counts,
  Verdict,
  Outcome,
  whole_verdict,
  whole_outcome,
  abouts,
  shared,
  settings,
  inputs_inside,
  Met,
  meet,
}

-- what the check of each file tells, with the index of the record that fails `bell`
abbrev told : (steps records : ℕ) → (bell : ℕ) → Verdict
told n m i = record {
  status = Status.unknown;
  steps = n;
  records = m;
  violations = record {
    invariant = text "bell";
    at = 1;
    index = i;
    source = some (record { line = 7; column = 3 });
    failure = forbidden_transition;
  } ∷ [];
  unknown = text "quiet: unknown state predicate" ∷ [];
}

-- of each invariant, the same in both: `quiet` holds, with a reason
abbrev each_told : List About
each_told =
    holds (text "quiet: unknown state predicate" ∷ [])
    ∷ fails forbidden_transition 1 (some (record { line = 7; column = 3 })) []
    ∷ []

abbrev found : Outcome
found = record {
  status = counterexample;
  cases = 2;
  events = some (record { at = 1; input = Input.set (text "door") (text "on") } ∷ []);
}

first_sizes : answered counts (accepted first) ≡ answer (2 ∷ 1 ∷ 5 ∷ 4 ∷ [])
unfolding all_checks all_cone all_alike all_stale answered counts
first_sizes = refl

first_checked : answered whole_verdict (check plenty first) ≡ answer ([], told 28 26 7)
unfolding all_check all_stale answered plenty
first_checked = refl

first_told : abouts first ≡ answer each_told
unfolding all_check all_demand all_stale answered plenty abouts
first_told = refl

first_verified : answered whole_outcome (verify plenty 1000 first) ≡ answer ([], ([], found))
unfolding all_verify all_demand all_stale answered plenty
first_verified = refl

second_sizes : answered counts (accepted second) ≡ answer (2 ∷ 1 ∷ 6 ∷ 4 ∷ [])
unfolding all_checks all_cone all_alike all_stale answered counts
second_sizes = refl

second_checked : answered whole_verdict (check plenty second) ≡ answer ([], told 29 27 4)
unfolding all_check all_stale answered plenty
second_checked = refl

second_told : abouts second ≡ answer each_told
unfolding all_check all_demand all_stale answered plenty abouts
second_told = refl

second_verified : answered whole_outcome (verify plenty 1000 second) ≡ answer ([], ([], found))
unfolding all_verify all_demand all_stale answered plenty
second_verified = refl

-- ---- both

same_shared : answered shared (accepted first) ≡ answered shared (accepted second)
unfolding all_checks all_cone all_alike all_stale answered
same_shared = refl

same_settings : answered settings (accepted first) ≡ answered settings (accepted second)
unfolding all_checks all_stale answered
same_settings = refl

inside : answered inputs_inside (accepted first) ≡ answer true
unfolding all_checks all_cone all_alike all_stale answered
inside = refl

pub met : Met first second (2 ∷ 1 ∷ 5 ∷ 4 ∷ []) (2 ∷ 1 ∷ 6 ∷ 4 ∷ []) (told 28 26 7) (told 29 27 4) each_told found
met = meet
    (record { accepts = first_sizes; checks = first_checked; tells = first_told; verifies = first_verified })
    (record { accepts = second_sizes; checks = second_checked; tells = second_told; verifies = second_verified })
    (record { cones = same_shared; searches = same_settings; inside = inside })
