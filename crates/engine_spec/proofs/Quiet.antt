-- Quiet hours are as the request says.
use Rattle.std.specs.Prelude.{if◌then◌else◌}
use Prim.Native.Nat.{ℕ, ◌+◌, ◌*◌, ◌/◌, ◌%◌, ◌^◌, ◌<◌}
use mathlib.Core.Logic.{◌⊎◌, inl, inr}
use mathlib.Core.Path.{◌≡◌, refl, sym, ap, ◌∙◌}
use mathlib.Core.Bool.{Bool, true, false, ◌||◌, not, false≢true}
use mathlib.Core.List.{List}
use native.Mathlib.Omega.{arith}
use lib.Dec.{ltb, leb, eqb}
use borrow.Author.Tests.{ltb-true, ltb-false, lt-ltb, le-ltb, eqb-true, eqb-false}
use Rattle.model_spec.specs.Answer.{accept, ◌when◌}
use Rattle.model_spec.specs.Model.{Entity, Moment, Predicate, window, Event, Model, is_window}
use Rattle.model_spec.specs.Windows.{no_window}
use Rattle.model_spec.specs.Validate.{bad_window, check_predicate}
use Rattle.engine_spec.specs.Cells.{Cell}
use Rattle.engine_spec.specs.Kleene.{Yes, No, Unknown, is_yes, is_unknown}
use Rattle.engine_spec.specs.Truth.{moment_after, marked, is_open, evaluate, evaluate_all}
use Rattle.engine_spec.specs.Records.{Areas, Engine}
use Rattle.engine_spec.specs.Changes.{with_cells, add, append, with_runs, add_run, uncertain, with_queue}
use Rattle.engine_spec.specs.Engine.{select, offer, perform}
use Rattle.engine_spec.specs.Page.{after_items}
use Rattle.engine_spec.specs.Quiet.{clock, Open, QuietHours}
use Rattle.engine_spec.proofs.Lists.{Case, is_true, is_false, case, or_no, leb_no}
use Rattle.engine_spec.proofs.Validated.{refused_answer, or_no'}
use Rattle.engine_spec.proofs.Stated.{accepted_stated}
use Rattle.engine_spec.proofs.Closed.{Closed, loop_closed, begun_closed}
use Rattle.engine_spec.proofs.Windowless.{same_truth}
use Rattle.engine_spec.proofs.Windows.{OpenOn, opens, is_opened, window_known}

-- ---- one bit, one truth

marked_of : (d n : ℕ) → d / 2 ^ n % 2 ≡ 1 → marked d n ≡ true
unfolding marked
marked_of d n h = ap (λ (x : ℕ). eqb x 1) h

bit_of : (d n : ℕ) → marked d n ≡ true → d / 2 ^ n % 2 ≡ 1
unfolding marked
bit_of d n h = eqb-true (d / 2 ^ n % 2) 1 h

only_true : (x : Bool) → (if x then Yes else No) ≡ Yes → x ≡ true
only_true true h = refl
only_true false h = absurd (false≢true (unfold is_yes in (ap is_yes h)))

no_of : (x : Bool) → ((if x then Yes else No) ≡ Yes → ⊥) → (if x then Yes else No) ≡ No
no_of true h = absurd (h refl)
no_of false h = refl

module _ (d b e : ℕ) (t : Moment) (l : List Cell) where
  yes_if : is_open d b e t ≡ true → evaluate t (window d b e) l ≡ Yes
  unfolding evaluate
  yes_if h = ap (λ (x : Bool). if x then Yes else No) h

  open_if : evaluate t (window d b e) l ≡ Yes → is_open d b e t ≡ true
  unfolding evaluate
  open_if h = only_true (is_open d b e t) h

  else_no : (evaluate t (window d b e) l ≡ Yes → ⊥) → evaluate t (window d b e) l ≡ No
  unfolding evaluate
  else_no h = no_of (is_open d b e t) h

  known : evaluate t (window d b e) l ≡ Unknown → ⊥
  known h = false≢true (sym (window_known t d b e l) ∙ ap is_unknown h ∙ (unfold is_unknown in refl))

-- ---- a window of one day, and one past midnight

module _ (d b e : ℕ) (t : Moment) (n : ℕ) where
  of_day : b < e → (k : ℕ) → Open d b e k k (clock t n) → OpenOn d b e k (clock t n)
  of_day h k o = record {
    marks = marked_of d (k % 7) o.marks;
    from = o.from;
    to = rw (lt-ltb b e h) (omega (arith, o.before));
  }

  day_of : b < e → (k : ℕ) → OpenOn d b e k (clock t n) → Open d b e k k (clock t n)
  day_of h k o =
      let u : clock t n < k * 86400 + e + 0 = rw (lt-ltb b e h) at o.to in
      record { marks = bit_of d (k % 7) o.marks; from = o.from; before = omega (arith, u) }

  of_night : e < b → (k : ℕ) → Open d b e k (k + 1) (clock t n) → OpenOn d b e k (clock t n)
  of_night h k o = record {
    marks = marked_of d (k % 7) o.marks;
    from = o.from;
    to = rw (le-ltb b e (omega (arith, h))) (omega (arith, o.before));
  }

  night_of : e < b → (k : ℕ) → OpenOn d b e k (clock t n) → Open d b e k (k + 1) (clock t n)
  night_of h k o =
      let u : clock t n < k * 86400 + e + 86400 = rw (le-ltb b e (omega (arith, h))) at o.to in
      record { marks = bit_of d (k % 7) o.marks; from = o.from; before = omega (arith, u) }

-- ---- a window that isn't refused

not_refused : (x : Bool) → (50 when x) ≡ accept → x ≡ false
unfolding ◌when◌
not_refused true h = absurd (refused_answer h)
not_refused false h = refl

of_a_kind : (declared : List Entity) (d b e : ℕ) → check_predicate declared (window d b e) ≡ accept
    → ((b < e) × (e < 86400)) ⊎ ((e < b) × (b < 86400))
unfolding check_predicate bad_window
of_a_kind declared d b e h =
    let p = eqb b e in
    let q = leb 86400 b in
    let r = leb 86400 e in
    let s = eqb d 0 in
    let u = or_no (p || q || r) s (or_no (p || q || r || s) (ltb 127 d) (not_refused (bad_window d b e) h)) in
    let v = or_no (p || q) r u in
    go (eqb-false b e (or_no p q v)) (omega (arith, leb_no 86400 b (or_no' p q v)))
    (omega (arith, leb_no 86400 e (or_no' (p || q) r u))) (case (ltb b e))
  where
    go : (b ≡ e → ⊥) → b < 86400 → e < 86400 → Case (ltb b e) → ((b < e) × (e < 86400)) ⊎ ((e < b) × (b < 86400))
    go n x y (is_true l) = inl (ltb-true b e l, y)
    go n x y (is_false l) = inr (omega (arith, n, ltb-false b e l), x)

-- ---- the start stays

abbrev StartsAt : Moment → Engine → Type 0
StartsAt o e = e.start ≡ o

start_kept : (o : Moment) → Closed (StartsAt o)
unfolding with_cells add append with_runs add_run uncertain with_queue
start_kept o = record {
  on_cells = λ l e h. h;
  on_add = λ i e h. h;
  on_append = λ t e h. h;
  on_runs = λ l e h. h;
  on_run = λ r e h. h;
  on_uncertain = λ t e h. h;
  on_queue = λ l e h. h;
}

start_stays : (areas : Areas) (m : Model) (cells : List Cell) (events : List Event) (n : ℕ)
    → (after_items areas m cells events n).start ≡ m.start
start_stays areas m cells events n =
    loop_closed (StartsAt m.start) (start_kept m.start) _ _ _ _ _
    (begun_closed (StartsAt m.start) (start_kept m.start) _ _ _ _ _ refl)

-- ---- the clock

same_weekday : (t : Moment) (n : ℕ) → (moment_after t n).weekday ≡ clock t n / 86400 % 7
unfolding moment_after
same_weekday t n = omega arith

same_second : (t : Moment) (n : ℕ) → (moment_after t n).second ≡ clock t n % 86400
unfolding moment_after
same_second t n = omega arith

not_window : (p : Predicate) → is_window p ≡ false → no_window p ≡ true
unfolding no_window
not_window p h = ap not h

pub quiet_hours : QuietHours
quiet_hours = record {
  yes_by_day = λ d b e h s t n l k o.
      yes_if d b e (moment_after t n) l (is_opened d b e (omega (arith, h, s)) s t n k (of_day d b e t n h k o));
  only_by_day = λ d b e h s t n l y.
      let r = opens d b e (omega (arith, h, s)) s t n (open_if d b e (moment_after t n) l y) in
      (r.0, day_of d b e t n h r.0 r.1);
  yes_past_midnight = λ d b e h s t n l k o.
      yes_if d b e (moment_after t n) l (is_opened d b e s (omega (arith, h, s)) t n k (of_night d b e t n h k o));
  only_past_midnight = λ d b e h s t n l y.
      let r = opens d b e s (omega (arith, h, s)) t n (open_if d b e (moment_after t n) l y) in
      (r.0, night_of d b e t n h r.0 r.1);
  else_no = else_no;
  known = known;
  of_a_kind = of_a_kind;
  weekday = same_weekday;
  second = same_second;
  others = λ p h t u l. same_truth t u l p (not_window p h);
  not_in_invariants = accepted_stated;
  start_stays = start_stays;
  at_triggers = λ now x from to r e h. unfold offer in (rw h refl);
  in_actions = λ now p src r e. unfold perform in refl;
  in_choices = λ now bs d src r e. unfold perform in refl;
  in_lists = λ t p ps l. unfold evaluate_all in refl;
  in_branches = λ t ps as' bs d l. unfold select in refl;
}
