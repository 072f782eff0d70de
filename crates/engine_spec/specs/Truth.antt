-- engine.rs: the truth of predicates, and what a trigger matches.
use Rattle.std.specs.Prelude.{ℕ, ◌+◌, ◌/◌, ◌%◌, ◌^◌, Bool, ◌&&◌, ◌||◌, not, List, [], ◌∷◌, ltb, leb, eqb, if◌then◌else◌}
use Rattle.std.proofs.Math.Option.{none, some}
use Rattle.texts.specs.Lists.{absent, absent_or}
use Rattle.texts.specs.Texts.{Text, text, eq_t}
use Rattle.model_spec.specs.Model.{Moment, Predicate, state, window, Trigger}
use Rattle.model_spec.specs.Validate.{day, undecided}
use Rattle.engine_spec.specs.Cells.{Cell, cell_of, all_cells}
use Rattle.engine_spec.specs.Kleene.{Truth, Yes, No, Unknown, ◌and₃◌, all_kleene}

-- an entity's present value against a predicate's
unfoldable pub against : Text → Text → Truth
against present v = if eq_t present v then Yes else if undecided present then Unknown else No

-- ---- windows

-- so many seconds after a moment
unfoldable pub moment_after : Moment → (seconds : ℕ) → Moment
moment_after t n = record { weekday = (t.weekday + (t.second + n) / day) % 7; second = (t.second + n) % day }

-- bit n of the days is set for weekday n
unfoldable pub marked : (days weekday : ℕ) → Bool
marked d n = eqb (d / 2 ^ n % 2) 1

unfoldable pub day_before : (weekday : ℕ) → ℕ
day_before n = (n + 6) % 7

-- from the start up to the end, not at it. A window that starts after its end runs past midnight: up to midnight it is open
-- on a marked weekday, from midnight on if the weekday before is marked.
unfoldable pub is_open : (days start end : ℕ) → Moment → Bool
is_open d b e t =
    if ltb b e
    then marked d t.weekday && leb b t.second && ltb t.second e
    else (marked d t.weekday && leb b t.second) || (marked d (day_before t.weekday) && ltb t.second e)

-- ---- predicates

-- at a moment; only a window looks at it
unfoldable pub evaluate : Moment → Predicate → List Cell → Truth
evaluate t (state x v) l = elim (cell_of x l) [ none ↦ Unknown | some c ↦ against c.value v ]
evaluate t (Predicate.unknown r) l = Unknown
evaluate t (window d b e) l = if is_open d b e t then Yes else No

-- the whole list, a conjunction: any No wins, even after an Unknown; the empty list is Yes
unfoldable pub evaluate_all : Moment → List Predicate → List Cell → Truth
evaluate_all t [] l = Yes
evaluate_all t (p ∷ ps) l = evaluate t p l and₃ evaluate_all t ps l

-- Rust's `{:?}`
unfoldable pub truth_name : Truth → Text
truth_name Yes = text "Yes"
truth_name No = text "No"
truth_name Unknown = text "Unknown"

-- the trigger reacts to a change of an entity from one value to another
unfoldable pub matches : (entity from to : Text) → Trigger → Bool
matches x from to t =
    absent t.note && eq_t t.entity x && not (eq_t from to) && absent_or (λ v. eq_t v from) t.from
    && absent_or (λ v. eq_t v to) t.to

-- opens the file, for proofs by computation
unfoldable pub all_truth : Unit {0}
unfolding all_cells all_kleene undecided against moment_after marked day_before is_open evaluate evaluate_all truth_name
    matches
all_truth = tt
