-- check.rs: the reduction of a violating model.
use Rattle.std.specs.Prelude.{ℕ, zero, suc, ◌+◌, Bool, true, false, ◌&&◌, not, List, [], ◌∷◌, ltb, eqb, length}
use Rattle.texts.specs.Lists.{any}
use Rattle.texts.specs.Texts.{Text, eq_t}
use Rattle.model_spec.specs.Answer.{Answer, answer, refused, ◌>>=◌, ◌and◌, ◌when◌}
use Rattle.model_spec.specs.Model.{Event, Model}
use Rattle.model_spec.specs.Validate.{accepted}
use Rattle.model_spec.specs.Rewrite.{rewritten}
use Rattle.engine_spec.specs.Cells.{Cell, initial_cells}
use Rattle.engine_spec.specs.Records.{Areas}
use Rattle.checker_spec.specs.Check.{Check, is_violation, checked}
use Rattle.checker_spec.specs.Verify.{short_of_room}

-- the events that are left, how many candidates were checked, and the place reached
pub record Reduced : Type 0 where
  pub events : List Event
  pub attempts : ℕ
  pub reached : ℕ

pub record Minimized : Type 0 where
  pub events : List Event
  pub invariant : Text
  pub original_events : ℕ
  pub attempts : ℕ
  pub deletion_minimal : Bool
  pub check : Check

-- the list without its element at a place
unfoldable pub remove : {A : Type 0} → ℕ → List A → List A
remove n [] = []
remove zero (x ∷ l) = l
remove (suc n) (x ∷ l) = x ∷ remove n l

-- the check is a violation, of the target too
unfoldable pub violates : (target : Text) → Check → Bool
violates target c = is_violation c.status && any (λ v. eq_t v.invariant target) c.violations

-- the invariant to keep is the first that is violated; 21: the first check isn't a violation
unfoldable pub target_of : Check → Answer Text
target_of c = 21 when not (is_violation c.status) and elim c.violations [
  | [] ↦ refused 21
  | v ∷ l ↦ answer v.invariant
]

module _ (areas : Areas) (m : Model) (cells : List Cell) where
  -- from the place i on, with so many attempts left and made
  unfoldable pub reduce : (target : Text) → (left made i : ℕ) → List Event → Answer Reduced
  reduce target zero made i events = answer (record { events = events; attempts = made; reached = i })
  reduce target (suc left) made i events = elim (ltb i (length events)) [
    | false ↦ answer (record { events = events; attempts = made; reached = i })
    | true ↦ checked areas m cells (remove i events) >>= λ c. elim (violates target c) [
      | true ↦ reduce target left (made + 1) 0 (remove i events)
      | false ↦ reduce target left (made + 1) (i + 1) events
    ]
  ]

  unfoldable pub minimized : List Event → Answer Minimized
  minimized events = do
    c ← checked areas m cells events
    target ← target_of c
    r ← reduce target 200 0 0 events
    final ← checked areas m cells r.events
    answer (record {
      events = r.events;
      invariant = target;
      original_events = length events;
      attempts = r.attempts;
      deletion_minimal = eqb r.reached (length r.events);
      check = final;
    })

-- the entry; 44: the output is too short
unfoldable pub minimize : Areas → (output : ℕ) → (file : List ℕ) → Answer Minimized
minimize areas output file = do
  m ← accepted file
  44 when short_of_room output file and minimized areas m (initial_cells m.scenario.entities) m.scenario.events

-- what the output then holds: the file with the events that are left
unfoldable pub reduced_file : (file : List ℕ) → Minimized → List ℕ
reduced_file file r = rewritten file r.events
