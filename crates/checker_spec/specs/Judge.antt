-- check.rs: reading a simulation's records for one invariant.
-- The first failing record ends the reading and is the answer. Records hold no state: the reader carries the cells along.
use Rattle.std.specs.Prelude.{ℕ, ◌+◌, Bool, false, ◌&&◌, ◌||◌, not, List, [], ◌∷◌, ◌++◌, ltb, leb, if◌then◌else◌}
use Rattle.std.proofs.Math.Option.{Option, none, some}
use Rattle.texts.specs.Lists.{absent, present_and, all_lists}
use Rattle.texts.specs.Texts.{Text, text, eq_t, decimal, all_texts}
use Rattle.model_spec.specs.Model.{
  Source,
  Predicate,
  Invariant,
  never,
  guard,
  transition,
  response,
  id_of,
  midnight,
  all_model,
}
use Rattle.engine_spec.specs.Cells.{Cell, put, all_cells}
use Rattle.engine_spec.specs.Kleene.{Truth, is_yes, is_no, is_unknown}
use Rattle.engine_spec.specs.Truth.{evaluate, evaluate_all, all_truth}
use Rattle.engine_spec.specs.Records.{kind_name, Change, Trace, all_records}

-- why a record fails an invariant
pub data Failure : Type 0 where
  prohibited_state guard_violated forbidden_transition : Failure
  deadline_missed : (deadline : ℕ) → Failure

-- what a reading keeps from record to record: a response's deadline, if it waits; whether its `when` held at the last
-- record; and which reasons have come up
pub record Memory : Type 0 where
  pub deadline : Option ℕ
  pub was_when : Bool
  pub unknown_predicate : Bool
  pub unknown_at_deadline : Bool
  pub beyond_horizon : Bool

abbrev pub nothing_yet : Memory
nothing_yet = record {
  deadline = none;
  was_when = false;
  unknown_predicate = false;
  unknown_at_deadline = false;
  beyond_horizon = false;
}

-- what one record shows
pub record Shown : Type 0 where
  pub failure : Option Failure
  pub memory : Memory

-- a predicate is unknown at this record
abbrev pub unsure : Bool → Memory → Memory
unsure b m = record {
  deadline = m.deadline;
  was_when = m.was_when;
  unknown_predicate = m.unknown_predicate || b;
  unknown_at_deadline = m.unknown_at_deadline;
  beyond_horizon = m.beyond_horizon;
}

-- the truth of an invariant's predicates: an accepted one has no window, so that one moment is as good as another
abbrev pub stated : Predicate → List Cell → Truth
stated = evaluate midnight

abbrev pub stated_all : List Predicate → List Cell → Truth
stated_all = evaluate_all midnight

-- the state after a record, given the state before it
unfoldable pub after : Trace → List Cell → List Cell
after t l = elim t.change [ none ↦ l | some c ↦ put c.entity c.after 0 l ]

unfoldable pub is_action : Trace → Bool
is_action t = eq_t (kind_name t.kind) (text "action")

unfoldable pub is_horizon : Trace → Bool
is_horizon t = eq_t (kind_name t.kind) (text "horizon")

unfoldable pub writes : (entity value : Text) → Change → Bool
writes x v c = eq_t c.entity x && eq_t c.after v

unfoldable pub passes : (entity from to : Text) → Change → Bool
passes x from to c = eq_t c.entity x && eq_t c.before from && eq_t c.after to

-- a failure, if the test holds
unfoldable pub fails_if : Bool → Failure → Option Failure
fails_if b f = if b then some f else none

-- ---- a response, by the truth of its two predicates

-- the deadline, if the response waits, has passed
unfoldable pub overdue : (now : ℕ) → Option ℕ → Bool
overdue now = present_and (λ d. ltb d now)

-- a deadline that has passed is missed if the goal did not hold before the record
unfoldable pub missed : (now : ℕ) → (goal-before : Truth) → Option ℕ → Option Failure
missed now g none = none
missed now g (some d) = fails_if (ltb d now && is_no g) (deadline_missed d)

-- what waits after a record: a deadline that has passed is dropped; if `when` rises and nothing waits, a wait begins; the
-- goal ends it
unfoldable pub waits_after : (now within : ℕ) → (cause goal : Truth) → (was_when : Bool) → Option ℕ → Option ℕ
waits_after now within w g was deadline =
    let kept = if overdue now deadline then none else deadline in
    let begun = if is_yes w && not was && absent kept then some (now + within) else kept in
    if is_yes g then none else begun

-- at the horizon what still waits is missed, if its deadline is reached
unfoldable pub missed_at_end : (now : ℕ) → (goal : Truth) → Option ℕ → Option Failure
missed_at_end now g none = none
missed_at_end now g (some d) = fails_if (leb d now && is_no g) (deadline_missed d)

unfoldable pub beyond : (now : ℕ) → Option ℕ → Bool
beyond now = present_and (λ d. ltb now d)

-- a later failure at the same record is the one that is told
unfoldable pub or_else : Option Failure → Option Failure → Option Failure
or_else (some f) g = some f
or_else none g = g

unfoldable pub read_response : (cause goal : Predicate) → (within : ℕ) → (before present : List Cell) → Trace → Memory →
    Shown
read_response p q within before present t m =
    let w = stated p present in
    let g = stated q present in
    let waits = waits_after t.at within w g m.was_when m.deadline in
    record {
      failure = or_else
          (if is_horizon t then missed_at_end t.at g waits else none)
          (missed t.at (stated q before) m.deadline);
      memory = record {
        deadline = waits;
        was_when = is_yes w;
        unknown_predicate = m.unknown_predicate || is_unknown w || is_unknown g;
        unknown_at_deadline = m.unknown_at_deadline || overdue t.at m.deadline && is_unknown (stated q before);
        beyond_horizon = m.beyond_horizon || is_horizon t && beyond t.at waits;
      };
    }

-- ---- any invariant

-- what the record t shows; `before` and `present` are the states before it and after it
unfoldable pub read : Invariant → (before present : List Cell) → Trace → Memory → Shown
read (never id ps) before present t m =
    let v = stated_all ps present in
    record { failure = fails_if (is_yes v) prohibited_state; memory = unsure (is_unknown v) m }
read (guard id x v ps) before present t m =
    let about = is_action t && present_and (writes x v) t.change in
    let w = stated_all ps before in
    record { failure = fails_if (about && is_no w) guard_violated; memory = unsure (about && is_unknown w) m }
read (transition id x from to) before present t m =
    record { failure = fails_if (present_and (passes x from to) t.change) forbidden_transition; memory = m }
read (response id p q n) before present t m = read_response p q n before present t m

-- ---- all records

-- the failing record: its index, its second, its source
pub record Failing : Type 0 where
  pub index : ℕ
  pub at : ℕ
  pub source : Option Source
  pub failure : Failure

pub record Reading : Type 0 where
  pub failing : Option Failing
  pub memory : Memory

-- the records from index k on, with the state before them
unfoldable pub reading : Invariant → (k : ℕ) → List Cell → Memory → List Trace → Reading
reading i k cells m [] = record { failing = none; memory = m }
reading i k cells m (t ∷ ts) =
    let present = after t cells in
    let shown = read i cells present t m in
    elim shown.failure [
      | some f ↦ record {
        failing = some (record { index = k; at = t.at; source = t.source; failure = f });
        memory = shown.memory;
      }
      | none ↦ reading i (k + 1) present shown.memory ts
    ]

-- what reading all records for the invariant gives, from the cells that the simulation started from
unfoldable pub read_all : Invariant → List Cell → List Trace → Reading
read_all i cells = reading i 0 cells nothing_yet

-- ---- as Rust writes it

unfoldable pub message : Failure → Text
message prohibited_state = text "prohibited state reached"
message guard_violated = text "action guard violated"
message forbidden_transition = text "forbidden transition"
message (deadline_missed d) = text "response deadline " ++ decimal d ++ text " missed"

-- a reason, if it came up
unfoldable pub reason_if : Bool → Text → List Text
reason_if b t = if b then t ∷ [] else []

-- an invariant's unknown reasons, doubles dropped
unfoldable pub unknown_reasons : Invariant → Memory → List Text
unknown_reasons (never id ps) m = reason_if m.unknown_predicate (id ++ text ": unknown state predicate")
unknown_reasons (guard id x v ps) m = reason_if m.unknown_predicate (id ++ text ": unknown action guard")
unknown_reasons (transition id x from to) m = []
unknown_reasons (response id p q n) m =
    reason_if m.unknown_at_deadline (id ++ text ": unknown response at deadline")
    ++ reason_if m.unknown_predicate (id ++ text ": unknown temporal predicate")

unfoldable pub incomplete_reasons : Invariant → Memory → List Text
incomplete_reasons i m = reason_if m.beyond_horizon (id_of i ++ text ": response deadline beyond horizon")

-- opens the file, for proofs by computation
unfoldable pub all_judge : Unit {0}
unfolding all_lists all_texts all_cells all_truth all_records all_model after is_action is_horizon writes passes fails_if
    overdue missed waits_after missed_at_end beyond or_else read_response read reading read_all message reason_if
    unknown_reasons incomplete_reasons
all_judge = tt
