-- Quiet hours, in the request's words: what a window's truth is at each second of a simulation. Seconds are counted from a
-- midnight at which a weekday 0 began, a week or more before the model's second 0: day k begins at second 86,400 · k, and
-- its weekday is k mod 7.
use Rattle.std.specs.Prelude.{ℕ, ◌+◌, ◌*◌, ◌/◌, ◌%◌, ◌^◌, ◌≤◌, ◌<◌, ◌⊎◌, ◌≡◌, true, false, List, ◌∷◌}
use Rattle.std.proofs.Math.Option.{none, some}
use Rattle.texts.specs.Lists.{◌▸◌, any, all}
use Rattle.texts.specs.Texts.{Text}
use Rattle.model_spec.specs.Answer.{answer, accept}
use Rattle.model_spec.specs.Model.{
  Source,
  Entity,
  Moment,
  Predicate,
  window,
  condition,
  choose,
  Actions,
  Branches,
  branch,
  Automation,
  Event,
  Model,
  is_window,
}
use Rattle.model_spec.specs.Windows.{windowless_invariant}
use Rattle.model_spec.specs.Validate.{check_predicate, accepted}
use Rattle.engine_spec.specs.Cells.{Cell}
use Rattle.engine_spec.specs.Kleene.{Yes, No, Unknown, ◌and₃◌}
use Rattle.engine_spec.specs.Truth.{moment_after, evaluate, evaluate_all, matches}
use Rattle.engine_spec.specs.Records.{Run, Kind, Areas, Engine}
use Rattle.engine_spec.specs.Engine.{select, log, log_action, admit, offer, tested, chosen, perform}
use Rattle.engine_spec.specs.Page.{after_items}

-- the second that comes n seconds after a moment
abbrev pub clock : Moment → (n : ℕ) → ℕ
clock t n = (7 + t.weekday) * 86400 + (t.second + n)

-- day k is marked, by the bit of its weekday, and the window that starts on it and ends on day j is open at second t: from
-- the start up to, but not at, the end
pub record Open (days start end k j t : ℕ) : Type 0 where
  pub marks : days / 2 ^ (k % 7) % 2 ≡ 1
  pub from : k * 86400 + start ≤ t
  pub before : t < j * 86400 + end

pub record QuietHours : Type 0 where
  -- a start before the end: Yes exactly from the start up to, but not at, the end of a marked day
  pub yes_by_day : (d b e : ℕ) → b < e → e < 86400 → (t : Moment) (n : ℕ) (l : List Cell)
      → (k : ℕ) → Open d b e k k (clock t n) → evaluate (moment_after t n) (window d b e) l ≡ Yes
  pub only_by_day : (d b e : ℕ) → b < e → e < 86400 → (t : Moment) (n : ℕ) (l : List Cell)
      → evaluate (moment_after t n) (window d b e) l ≡ Yes → (k : ℕ) × Open d b e k k (clock t n)
  -- a start after the end: it runs past midnight, to the end on the next day, and belongs to the weekday on which it starts
  pub yes_past_midnight : (d b e : ℕ) → e < b → b < 86400 → (t : Moment) (n : ℕ) (l : List Cell)
      → (k : ℕ) → Open d b e k (k + 1) (clock t n) → evaluate (moment_after t n) (window d b e) l ≡ Yes
  pub only_past_midnight : (d b e : ℕ) → e < b → b < 86400 → (t : Moment) (n : ℕ) (l : List Cell)
      → evaluate (moment_after t n) (window d b e) l ≡ Yes → (k : ℕ) × Open d b e k (k + 1) (clock t n)
  -- else No; never Unknown
  pub else_no : (d b e : ℕ) (t : Moment) (l : List Cell)
      → (evaluate t (window d b e) l ≡ Yes → ⊥) → evaluate t (window d b e) l ≡ No
  pub known : (d b e : ℕ) (t : Moment) (l : List Cell) → evaluate t (window d b e) l ≡ Unknown → ⊥
  -- each window that isn't refused is of one of the two kinds
  pub of_a_kind : (declared : List Entity) (d b e : ℕ) → check_predicate declared (window d b e) ≡ accept
      → ((b < e) × (e < 86400)) ⊎ ((e < b) × (b < 86400))
  -- weekdays go round, and so do the seconds of the day
  pub weekday : (t : Moment) (n : ℕ) → (moment_after t n).weekday ≡ clock t n / 86400 % 7
  pub second : (t : Moment) (n : ℕ) → (moment_after t n).second ≡ clock t n % 86400
  -- the truth of no other predicate depends on the moment
  pub others : (p : Predicate) → is_window p ≡ false → (t u : Moment) (l : List Cell) → evaluate t p l ≡ evaluate u p l
  -- and an accepted file has no window in an invariant
  pub not_in_invariants : (file : List ℕ) (m : Model) → accepted file ≡ answer m
      → all windowless_invariant m.scenario.invariants ≡ true
  -- the start is that of the model's second 0 throughout the simulation
  pub start_stays : (areas : Areas) (m : Model) (cells : List Cell) (events : List Event) (n : ℕ)
      → (after_items areas m cells events n).start ≡ m.start
  -- a window is read when its automation reads conditions, at that second: as a trigger matches, in an action's condition
  -- and in a choice's
  pub at_triggers : (now : ℕ) (x from to : Text) (r : Automation) (e : Engine)
      → any (matches x from to) r.triggers ≡ true
      → offer now x from to r e
      ≡ (let v = evaluate_all (moment_after e.start now) r.conditions e.cells in
      e ▸ log now (Kind.trigger v) (some r.id) (some r.source) none ▸ admit now v r)
  pub in_actions : (now : ℕ) (p : Predicate) (src : Source) (r : Run) (e : Engine)
      → perform now (condition p) src r e
      ≡ (let v = evaluate (moment_after e.start now) p e.cells in
      e ▸ log_action now (Kind.condition v) src r ▸ tested now v r)
  pub in_choices : (now : ℕ) (bs : Branches) (d : Actions) (src : Source) (r : Run) (e : Engine)
      → perform now (choose bs d) src r e ≡ (e ▸ chosen now (select (moment_after e.start now) bs d e.cells) src r)
  -- each predicate of a list, and each branch of a choice, at the same moment
  pub in_lists : (t : Moment) (p : Predicate) (ps : List Predicate) (l : List Cell)
      → evaluate_all t (p ∷ ps) l ≡ evaluate t p l and₃ evaluate_all t ps l
  pub in_branches : (t : Moment) (ps : List Predicate) (as' : Actions) (bs : Branches) (d : Actions) (l : List Cell)
      → select t (branch ps as' bs) d l
      ≡ elim (evaluate_all t ps l) [ Yes ↦ some as' | No ↦ select t bs d l | Unknown ↦ none ]
