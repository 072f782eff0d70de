-- What a window means. Seconds are counted from a midnight at which a weekday 0 began, a week or more before; so day k
-- begins at second 86,400 · k and has the weekday k mod 7. A window is open at a second exactly if on some marked day it
-- started by then and hasn't ended: on that day, or on the next if its end isn't after its start.
use Rattle.std.specs.Prelude.{if◌then◌else◌}
use Prim.Native.Nat.{ℕ, ◌+◌, ◌*◌, ◌/◌, ◌%◌, ◌≤◌, ◌<◌}
use mathlib.Core.Path.{◌≡◌, refl, sym, ap, ◌∙◌, subst}
use mathlib.Core.Bool.{Bool, true, false, ◌&&◌, ◌||◌, false≢true}
use mathlib.Core.List.{List}
use native.Mathlib.Omega.{arith}
use lib.Dec.{ltb, leb, eqb}
use borrow.Author.Tests.{ltb-true, leb-true, lt-ltb, le-leb, eqb-true, eqb-false}
use Rattle.model_spec.specs.Model.{Moment, window}
use Rattle.engine_spec.specs.Cells.{Cell}
use Rattle.engine_spec.specs.Kleene.{Yes, No, is_unknown}
use Rattle.engine_spec.specs.Truth.{moment_after, marked, day_before, is_open, evaluate}
use Rattle.engine_spec.proofs.Lists.{Case, is_true, is_false, case, and_l, and_r}

-- a window is never Unknown
pub window_known : (t : Moment) (d b e : ℕ) (l : List Cell) → is_unknown (evaluate t (window d b e) l) ≡ false
unfolding evaluate is_unknown
window_known t d b e l = go (is_open d b e t)
  where
    go : (x : Bool) → is_unknown (if x then Yes else No) ≡ false
    go true = refl
    go false = refl

-- the second that comes n seconds after a moment
abbrev pub counted : Moment → (n : ℕ) → ℕ
counted m n = (7 + m.weekday) * 86400 + (m.second + n)

-- of day k the window is open at second t
pub record OpenOn (days start end k t : ℕ) : Type 0 where
  pub marks : marked days (k % 7) ≡ true
  pub from : k * 86400 + start ≤ t
  pub to : t < k * 86400 + end + (if ltb start end then 0 else 86400)

module _ (d b e : ℕ) (b-small : b < 86400) (e-small : e < 86400) (m : Moment) (n : ℕ) where
  -- the day's number and the second of that day
  abbrev at_day : ℕ
  at_day = 7 + m.weekday + (m.second + n) / 86400

  abbrev at_second : ℕ
  at_second = (m.second + n) % 86400

  abbrev weekday : ℕ
  weekday = (m.weekday + (m.second + n) / 86400) % 7

  same_weekday : weekday ≡ at_day % 7
  same_weekday = omega arith

  same_before : (k : ℕ) → k + 1 ≡ at_day → (weekday + 6) % 7 ≡ k % 7
  same_before k h = omega arith

  both : (x y : Bool) → x ≡ true → y ≡ true → x && y ≡ true
  both true y p q = q
  both false y p q = p

  first : (x y : Bool) → x ≡ true → x || y ≡ true
  first true y p = refl
  first false y p = absurd (false≢true p)

  second : (x y : Bool) → y ≡ true → x || y ≡ true
  second true y p = refl
  second false y p = p

  pub opens : is_open d b e (moment_after m n) ≡ true → (k : ℕ) × OpenOn d b e k (counted m n)
  unfolding is_open moment_after day_before
  opens h = go (case (ltb b e))
    where
      tonight : (c : Bool) → ltb b e ≡ c → marked d weekday ≡ true → b ≤ at_second → at_second < e + (if c then 0 else 86400)
          → (k : ℕ) × OpenOn d b e k (counted m n)
      tonight c x p q r = (
        at_day,
        record {
          marks = subst (λ (y : ℕ). marked d y ≡ true) same_weekday p;
          from = omega arith;
          to = rw x (omega arith);
        },
      )

      last_night : ltb b e ≡ false → marked d ((weekday + 6) % 7) ≡ true → at_second < e
          → (k : ℕ) × OpenOn d b e k (counted m n)
      last_night x p q =
          let k = 6 + m.weekday + (m.second + n) / 86400 in (
            k,
            record {
              marks = subst (λ (y : ℕ). marked d y ≡ true) (same_before k (omega arith)) p;
              from = omega arith;
              to = rw x (omega arith);
            },
          )

      late : (x y : Bool) → marked d weekday && leb b at_second ≡ x → marked d ((weekday + 6) % 7) && ltb at_second e ≡ y
          → x || y ≡ true → ltb b e ≡ false → (k : ℕ) × OpenOn d b e k (counted m n)
      late true y p q r z =
          tonight false z (and_l (marked d weekday) (leb b at_second) p)
          (leb-true b at_second (and_r (marked d weekday) (leb b at_second) p)) (omega arith)
      late false true p q r z =
          last_night z (and_l (marked d ((weekday + 6) % 7)) (ltb at_second e) q)
          (ltb-true at_second e (and_r (marked d ((weekday + 6) % 7)) (ltb at_second e) q))
      late false false p q r z = absurd (false≢true r)

      go : Case (ltb b e) → (k : ℕ) × OpenOn d b e k (counted m n)
      go (is_true x) =
          let g : marked d weekday && leb b at_second && ltb at_second e ≡ true = rw x at h in
          let i = and_l (marked d weekday && leb b at_second) (ltb at_second e) g in
          let j = ltb-true at_second e (and_r (marked d weekday && leb b at_second) (ltb at_second e) g) in
          tonight true x (and_l (marked d weekday) (leb b at_second) i)
          (leb-true b at_second (and_r (marked d weekday) (leb b at_second) i)) (omega arith)
      go (is_false x) = late _ _ refl refl (rw x at h) x

  pub is_opened : (k : ℕ) → OpenOn d b e k (counted m n) → is_open d b e (moment_after m n) ≡ true
  unfolding is_open moment_after day_before
  is_opened k o = go (case (ltb b e))
    where
      mark : k ≡ at_day → marked d weekday ≡ true
      mark p = subst (λ (y : ℕ). marked d y ≡ true) (ap (λ (y : ℕ). y % 7) p ∙ sym same_weekday) o.marks

      same_day : (x : Bool) → ltb b e ≡ x → k ≡ at_day → (marked d weekday && leb b at_second) ≡ true
      same_day x z p = both (marked d weekday) (leb b at_second) (mark p) (le-leb b at_second (omega (arith, o.from)))

      go : Case (ltb b e) → (if ltb b e then marked d weekday && leb b at_second && ltb at_second e
          else (marked d weekday && leb b at_second) || (marked d ((weekday + 6) % 7) && ltb at_second e)) ≡ true
      go (is_true x) =
          let t : counted m n < k * 86400 + e + 0 = rw x at o.to in
          let p : k ≡ at_day = omega (arith, ltb-true b e x, o.from) in
          rw x (both (marked d weekday && leb b at_second) (ltb at_second e) (same_day true x p)
          (lt-ltb at_second e (omega arith)))
      go (is_false x) = rw x (night (case (eqb k at_day)))
        where
          t : counted m n < k * 86400 + e + 86400
          t = rw x at o.to

          night : Case (eqb k at_day)
              → (marked d weekday && leb b at_second) || (marked d ((weekday + 6) % 7) && ltb at_second e) ≡ true
          night (is_true y) =
              first (marked d weekday && leb b at_second) (marked d ((weekday + 6) % 7) && ltb at_second e)
              (same_day false x (eqb-true k at_day y))
          night (is_false y) =
              let u : k ≡ at_day → ⊥ = eqb-false k at_day y in
              let p : k + 1 ≡ at_day = omega (arith, u, t, o.from) in
              second (marked d weekday && leb b at_second) (marked d ((weekday + 6) % 7) && ltb at_second e)
              (both (marked d ((weekday + 6) % 7)) (ltb at_second e)
              (subst (λ (z : ℕ). marked d z ≡ true) (sym (same_before k p)) o.marks)
              (lt-ltb at_second e (omega (arith, t))))
