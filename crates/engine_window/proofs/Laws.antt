-- A window by cases, in the order of the code's tests.
use Prim.Native.Nat.{ℕ, ◌+◌, ◌/◌, ◌%◌, ◌^◌, ◌≤◌, ◌<◌}
use mathlib.Core.Path.{◌≡◌, refl, sym, ap, ◌∙◌}
use mathlib.Core.Bool.{Bool, true, false, ◌&&◌, ◌||◌}
use mathlib.Core.List.{List}
use lib.Dec.{ltb, leb, eqb}
use lib.ListN.{get_or}
use borrow.Author.Tests.{lt-ltb, le-ltb, le-leb, lt-leb}
use Rattle.model_spec.specs.Model.{Moment}
use Rattle.engine_spec.specs.Truth.{moment_after, marked, day_before, is_open}
use Rattle.engine_fields.specs.Fields.{four}
use Rattle.engine_window.specs.Window.{start_m, open_m}

pub marks_is : (d n : ℕ) → eqb (d / 2 ^ n % 2) 1 ≡ marked d n
unfolding marked
marks_is d n = refl

and_true : (b : Bool) → (b && true) ≡ b
and_true true = refl
and_true false = refl

and_false : (b : Bool) → (b && false) ≡ false
and_false true = refl
and_false false = refl

-- from midnight on
module _ (d e w s : ℕ) where
  pub tail_before : (n : ℕ) (r : Bool) → s < e → n ≡ (w + 6) % 7 → r ≡ marked d n
      → r ≡ (marked d (day_before w) && ltb s e)
  unfolding day_before
  tail_before n r h en er =
      er ∙ ap (marked d) en ∙ sym (ap (λ (b : Bool). marked d (day_before w) && b) (lt-ltb s e h)
      ∙ and_true (marked d (day_before w)))

  pub tail_over : e ≤ s → false ≡ (marked d (day_before w) && ltb s e)
  tail_over h = sym (ap (λ (b : Bool). marked d (day_before w) && b) (le-ltb s e h) ∙ and_false (marked d (day_before w)))

module _ (d b e w s : ℕ) where
  abbrev at : Moment
  at = record { weekday = w; second = s }

  -- within a day
  module _ (h : b < e) where
    pub day_early : s < b → false ≡ is_open d b e at
    unfolding is_open
    day_early k = sym (rw (lt-ltb b e h, lt-leb b s k) (cases (marked d w)))
      where
        cases : (m : Bool) → (m && false && ltb s e) ≡ false
        cases true = refl
        cases false = refl

    pub day_open : (r : Bool) → b ≤ s → s < e → r ≡ marked d w → r ≡ is_open d b e at
    unfolding is_open
    day_open r k l er = er ∙ sym (rw (lt-ltb b e h, le-leb b s k, lt-ltb s e l) (cases (marked d w)))
      where
        cases : (m : Bool) → (m && true && true) ≡ m
        cases true = refl
        cases false = refl

    pub day_late : e ≤ s → false ≡ is_open d b e at
    unfolding is_open
    day_late l = sym (rw (lt-ltb b e h, le-ltb s e l) (cases (marked d w) (leb b s)))
      where
        cases : (m n : Bool) → (m && n && false) ≡ false
        cases true true = refl
        cases true false = refl
        cases false n = refl

  -- past midnight
  module _ (h : e ≤ b) where
    pub night_early : (r : Bool) → s < b → r ≡ (marked d (day_before w) && ltb s e) → r ≡ is_open d b e at
    unfolding is_open
    night_early r k er =
        er ∙ sym (rw (le-ltb b e h, lt-leb b s k) (ap (λ (y : Bool). y || (marked d (day_before w) && ltb s e))
        (and_false (marked d w))))

    pub night_open : (r : Bool) → b ≤ s → r ≡ marked d w → r ≡ true → true ≡ is_open d b e at
    unfolding is_open
    night_open r k er t = sym (rw (le-ltb b e h, le-leb b s k, sym er ∙ t))

    pub night_other : (r q : Bool) → b ≤ s → q ≡ marked d w → q ≡ false
        → r ≡ (marked d (day_before w) && ltb s e) → r ≡ is_open d b e at
    unfolding is_open
    night_other r q k eq t er = er ∙ sym (rw (le-ltb b e h, le-leb b s k, sym eq ∙ t))

module _ (w s n : ℕ) where
  pub weekday_is : (w + (s + n) / 86400) % 7 ≡ (moment_after (record { weekday = w; second = s }) n).weekday
  unfolding moment_after
  weekday_is = refl

  pub second_is : (s + n) % 86400 ≡ (moment_after (record { weekday = w; second = s }) n).second
  unfolding moment_after
  second_is = refl

pub open_is : (f x : List ℕ) (n at d b e w s : ℕ) (r : Bool) → d ≡ get_or f (at + 1) 0 → b ≡ four f (at + 2) →
    e ≡ four f (at + 6)
    → w ≡ (moment_after (start_m x) n).weekday → s ≡ (moment_after (start_m x) n).second
    → r ≡ is_open d b e (record { weekday = w; second = s }) → r ≡ open_m f x n at
unfolding open_m
open_is f x n at d b e w s r ed eb ee ew es er =
    er
    ∙ (λ i. is_open (ed i) (eb i) (ee i) (record { weekday = ew i; second = es i }))
