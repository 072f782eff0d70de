-- Lists by place and lists by test: where one element passes a test, what is done at its place is what is done by the test.
-- `g` maps the machine's entries to the definition's.
use Rattle.std.specs.Prelude.{if◌then◌else◌, Option, Some, None}
use mathlib.Core.Path.{◌≡◌, refl, ap, ◌∙◌}
use mathlib.Core.Bool.{Bool, true, false, cond, not}
use mathlib.Core.List.{List, [], ◌∷◌, ◌++◌}
use mathlib.Core.Option.{none, some}
use Prim.Native.Nat.{ℕ, zero, suc, ◌+◌, ◌≤◌, ◌<◌}
use native.Mathlib.Omega.{arith}
use lib.ListN.{length, get_or, take, drop, set}
use Rattle.texts.specs.Lists.{find, keep, tally, each}
use Rattle.runs.specs.Lists.{place_from}
use Rattle.runs.specs.Lists as places
use Rattle.engine_spec.proofs.Lists.{Case, is_true, is_false, case, Each}

module _ {A B : Type 0} (g : A → B) where
  pub each_one : (l : List A) (x : A) → each g (l ++ x ∷ []) ≡ each g l ++ g x ∷ []
  unfolding each
  each_one [] x = refl
  each_one (y ∷ l) x = ap (λ (m : List B). g y ∷ m) (each_one l x)

  pub each_length : (l : List A) → length (each g l) ≡ length l
  unfolding each
  each_length [] = refl
  each_length (y ∷ l) = ap suc (each_length l)

  pub each_set : (l : List A) (k : ℕ) (x : A) → each g (set l k x) ≡ set (each g l) k (g x)
  unfolding each
  each_set [] k x = refl
  each_set (y ∷ l) zero x = refl
  each_set (y ∷ l) (suc k) x = ap (λ (m : List B). g y ∷ m) (each_set l k x)

  pub each_out : (l : List A) (k : ℕ) → each g (take k l ++ drop (suc k) l) ≡ take k (each g l) ++ drop (suc k) (each g l)
  unfolding each
  each_out [] zero = refl
  each_out [] (suc k) = refl
  each_out (y ∷ l) zero = refl
  each_out (y ∷ l) (suc k) = ap (λ (m : List B). g y ∷ m) (each_out l k)

  pub each_at : (l : List A) (k : ℕ) (d : A) → get_or (each g l) k (g d) ≡ g (get_or l k d)
  unfolding each
  each_at [] k d = refl
  each_at (y ∷ l) zero d = refl
  each_at (y ∷ l) (suc k) d = each_at l k d

  -- tests that agree
  module _ (p : A → Bool) (q : B → Bool) where
    abbrev pub Agree : List A → Type 0
    Agree l = Each (λ (a : A). q (g a) ≡ p a) l

    pub data Sought (d : A) (l : List A) (f : Option ℕ) (i : ℕ) : Type 0 where
      here : (k : ℕ) → f ≡ Some (i + k) → k < length l → find q (each g l) ≡ some (g (get_or l k d)) →
          p (get_or l k d) ≡ true → Sought d l f i
      nowhere : f ≡ None → find q (each g l) ≡ none → Sought d l f i

    pub sought : (d : A) (l : List A) (i : ℕ) → Agree l → Sought d l (place_from p i l) i
    unfolding place_from find each
    sought d [] i h = nowhere refl refl
    sought d (y ∷ l) i h = cases (case (p y)) (sought d l (suc i) h.1)
      where
        cases : Case (p y) → Sought d l (place_from p (suc i) l) (suc i) → Sought d (y ∷ l) (place_from p i (y ∷ l)) i
        cases (is_true b) r = here 0 (rw b (ap Some (omega arith))) (omega arith) (rw (h.0 ∙ b)) b
        cases (is_false b) (here k e o f t) = here (suc k) (rw b (e ∙ ap Some (omega arith))) (omega arith) (rw (h.0 ∙ b) f) t
        cases (is_false b) (nowhere e f) = nowhere (rw b e) (rw (h.0 ∙ b) f)

    pub kept : (l : List A) → Agree l → keep q (each g l) ≡ each g (places.keep p l)
    unfolding keep each places.keep
    kept [] h = refl
    kept (y ∷ l) h = cases (case (p y)) (kept l h.1)
      where
        cases : Case (p y) → keep q (each g l) ≡ each g (places.keep p l) →
            keep q (each g (y ∷ l)) ≡ each g (places.keep p (y ∷ l))
        cases (is_true b) e = rw (h.0 ∙ b, b) (ap (λ (m : List B). g y ∷ m) e)
        cases (is_false b) e = rw (h.0 ∙ b, b) e

    pub tallied : (l : List A) → Agree l → tally q (each g l) ≡ places.tally p l
    unfolding tally each places.tally
    tallied [] h = refl
    tallied (y ∷ l) h = cases (case (p y)) (tallied l h.1)
      where
        cases : Case (p y) → tally q (each g l) ≡ places.tally p l → tally q (each g (y ∷ l)) ≡ places.tally p (y ∷ l)
        cases (is_true b) e = rw (h.0 ∙ b, b) (omega arith)
        cases (is_false b) e = rw (h.0 ∙ b, b) (omega arith)

-- ---- where at most one passes
module _ {B : Type 0} (p : B → Bool) where
  some_pass : (l : List B) (k : ℕ) (d : B) → k < length l → p (get_or l k d) ≡ true → 1 ≤ tally p l
  unfolding tally
  some_pass [] k d h e = absurd (omega arith)
  some_pass (y ∷ l) zero d h e = rw e (omega arith)
  some_pass (y ∷ l) (suc k) d h e = omega (arith, some_pass l k d (omega arith) e)

  none_change : (r : B) (l : List B) → tally p l ≡ 0 → each (λ y. if p y then r else y) l ≡ l
  unfolding tally each
  none_change r [] h = refl
  none_change r (y ∷ l) h = cases (p y) h (none_change r l)
    where
      cases : (b : Bool) → (if b then 1 else 0) + tally p l ≡ 0 →
          (tally p l ≡ 0 → each (λ y. if p y then r else y) l ≡ l) →
          (if b then r else y) ∷ each (λ y. if p y then r else y) l ≡ y ∷ l
      cases true h ih = absurd (omega arith)
      cases false h ih = ap (λ (m : List B). y ∷ m) (ih (omega arith))

  -- the one that passes becomes r
  pub set_one : (r : B) (l : List B) (k : ℕ) (d : B) → k < length l → p (get_or l k d) ≡ true → tally p l ≤ 1 →
      each (λ y. if p y then r else y) l ≡ set l k r
  unfolding tally each
  set_one r [] k d h e o = absurd (omega arith)
  set_one r (y ∷ l) zero d h e o = cases (p y) e o
    where
      cases : (b : Bool) → b ≡ true → (if b then 1 else 0) + tally p l ≤ 1 →
          (if b then r else y) ∷ each (λ y. if p y then r else y) l ≡ r ∷ l
      cases true e o = ap (λ (m : List B). r ∷ m) (none_change r l (omega arith))
      cases false e o = let z : ◌≡◌ {A = ℕ} 0 1 = cc in absurd (omega arith)
  set_one r (y ∷ l) (suc k) d h e o = cases (p y) o (set_one r l k d (omega arith) e)
    where
      cases : (b : Bool) → (if b then 1 else 0) + tally p l ≤ 1 →
          (tally p l ≤ 1 → each (λ y. if p y then r else y) l ≡ set l k r) →
          (if b then r else y) ∷ each (λ y. if p y then r else y) l ≡ y ∷ set l k r
      cases true o ih = absurd (omega (arith, some_pass l k d (omega arith) e))
      cases false o ih = ap (λ (m : List B). y ∷ m) (ih (omega arith))

  none_out : (l : List B) → tally p l ≡ 0 → keep (λ y. not (p y)) l ≡ l
  unfolding tally keep
  none_out [] h = refl
  none_out (y ∷ l) h = cases (p y) h (none_out l)
    where
      cases : (b : Bool) → (if b then 1 else 0) + tally p l ≡ 0 → (tally p l ≡ 0 → keep (λ y. not (p y)) l ≡ l) →
          (if not b then y ∷ keep (λ y. not (p y)) l else keep (λ y. not (p y)) l) ≡ y ∷ l
      cases true h ih = absurd (omega arith)
      cases false h ih = ap (λ (m : List B). y ∷ m) (ih (omega arith))

  -- and goes
  pub out_one : (l : List B) (k : ℕ) (d : B) → k < length l → p (get_or l k d) ≡ true → tally p l ≤ 1 →
      keep (λ y. not (p y)) l ≡ take k l ++ drop (suc k) l
  unfolding tally keep
  out_one [] k d h e o = absurd (omega arith)
  out_one (y ∷ l) zero d h e o = cases (p y) e o
    where
      cases : (b : Bool) → b ≡ true → (if b then 1 else 0) + tally p l ≤ 1 →
          (if not b then y ∷ keep (λ y. not (p y)) l else keep (λ y. not (p y)) l) ≡ l
      cases true e o = none_out l (omega arith)
      cases false e o = let z : ◌≡◌ {A = ℕ} 0 1 = cc in absurd (omega arith)
  out_one (y ∷ l) (suc k) d h e o = cases (p y) o (out_one l k d (omega arith) e)
    where
      cases : (b : Bool) → (if b then 1 else 0) + tally p l ≤ 1 →
          (tally p l ≤ 1 → keep (λ y. not (p y)) l ≡ take k l ++ drop (suc k) l) →
          (if not b then y ∷ keep (λ y. not (p y)) l else keep (λ y. not (p y)) l) ≡ y ∷ (take k l ++ drop (suc k) l)
      cases true o ih = absurd (omega (arith, some_pass l k d (omega arith) e))
      cases false o ih = ap (λ (m : List B). y ∷ m) (ih (omega arith))

-- ---- what holds of each
module _ {A : Type 0} (P : A → Type 0) where
  pub each_get_d : (l : List A) (k : ℕ) (d : A) → k < length l → Each P l → P (get_or l k d)
  each_get_d [] k d h e = absurd (omega arith)
  each_get_d (y ∷ l) zero d h e = e.0
  each_get_d (y ∷ l) (suc k) d h e = each_get_d l k d (omega arith) e.1

  pub each_put : (l : List A) (k : ℕ) (x : A) → Each P l → P x → Each P (set l k x)
  each_put [] k x e h = e
  each_put (y ∷ l) zero x e h = (h, e.1)
  each_put (y ∷ l) (suc k) x e h = (e.0, each_put l k x e.1 h)

  pub each_less : (l : List A) (k : ℕ) → Each P l → Each P (take k l ++ drop (suc k) l)
  each_less [] zero e = e
  each_less [] (suc k) e = e
  each_less (y ∷ l) zero e = e.1
  each_less (y ∷ l) (suc k) e = (e.0, each_less l k e.1)

  pub each_more : (l : List A) (x : A) → Each P l → P x → Each P (l ++ x ∷ [])
  each_more [] x e h = (h, tt)
  each_more (y ∷ l) x e h = (e.0, each_more l x e.1 h)

  pub each_kept : (p : A → Bool) (l : List A) → Each P l → Each P (places.keep p l)
  unfolding places.keep
  each_kept p [] e = e
  each_kept p (y ∷ l) e = cases (p y) (each_kept p l e.1)
    where
      cases : (b : Bool) → Each P (places.keep p l) → Each P (cond b (y ∷ places.keep p l) (places.keep p l))
      cases true h = (e.0, h)
      cases false h = h

pub each_imp : {A : Type 0} (P Q : A → Type 0) → ((a : A) → P a → Q a) → (l : List A) → Each P l → Each Q l
each_imp P Q f [] e = tt
each_imp P Q f (x ∷ l) e = (f x e.0, each_imp P Q f l e.1)
