-- The laws that the proofs of actions' checks cite.
use mathlib.Core.Path.{◌≡◌, refl}
use mathlib.Core.List.{List}
use Prim.Native.Nat.{ℕ, zero, suc, ◌+◌, ◌-◌, ◌≤◌, ◌<◌}
use native.Mathlib.Numerals.{sub-one}
use native.Mathlib.Omega.{arith}
use lib.Dec.{ltb}
use borrow.Author.Tests.{lt-ltb, le-ltb, ne_eqb}
use Rattle.model_spec.specs.File.{Got, got, broken, Reader, u16, u32}
use Rattle.model_spec.specs.Validate.{day}
use Rattle.model_check.specs.declared.Checked.{Checked}
use Rattle.model_check.specs.declared.Checked.TheVariants as checked
use Rattle.model_check.specs.Checks.{
  Check,
  and_then,
  ◌⨾◌,
  by,
  stay,
  refuse,
  refuse_if,
  skip_m,
  times_m,
  Declaration,
  value_m,
  pair_m,
  predicate_m,
  trigger_m,
}
use Rattle.model_actions.specs.Actions.{count_m, toggle_m, wait_m, simple_m, action_m, actions_m}

-- ---- the count

module _ (s : List ℕ) (p n : ℕ) where
  pub count_in : (l : Check) → n < 512 → (count_m ⨾ l) s p n ≡ l s p (n + 1)
  unfolding ◌⨾◌ and_then count_m
  count_in l h = rw (lt-ltb n 512 h)

  pub count_out : (l : Check) → 512 ≤ n → (count_m ⨾ l) s p n ≡ checked.Refused 17
  unfolding ◌⨾◌ and_then count_m
  count_out l h = rw (le-ltb n 512 h)

-- ---- order of checks

and_then_assoc : (x : Checked) (f g : ℕ → ℕ → Checked) → and_then (and_then x f) g ≡ and_then x (λ p n. and_then (f p n) g)
unfolding and_then
and_then_assoc (checked.To p n) f g = refl
and_then_assoc (checked.Refused k) f g = refl

by_and_then : (g : Got ℕ) (f : ℕ → ℕ → Checked) (h : ℕ → ℕ → Checked) →
    and_then (elim g [ got x q ↦ f x q | broken ↦ checked.Refused 30 ]) h
    ≡ elim g [ got x q ↦ and_then (f x q) h | broken ↦ checked.Refused 30 ]
unfolding and_then
by_and_then (got x q) f h = refl
by_and_then broken f h = refl

module _ (s : List ℕ) (p n : ℕ) where
  pub assoc : (a b c : Check) → ((a ⨾ b) ⨾ c) s p n ≡ (a ⨾ (b ⨾ c)) s p n
  unfolding ◌⨾◌
  assoc a b c = and_then_assoc (a s p n) (b s) (c s)

  pub by_then : (r : Reader ℕ) (f : ℕ → Check) (l : Check) → (by r f ⨾ l) s p n ≡ by r (λ x. f x ⨾ l) s p n
  unfolding ◌⨾◌ by
  by_then r f l = by_and_then (r s p) (λ x q. f x s q n) (l s)

-- ---- lists

pub times_then : (k l : Check) (s : List ℕ) (p n : ℕ) (i : ℕ) → 0 < i →
    (times_m i k ⨾ l) s p n ≡ (k ⨾ (times_m (i - 1) k ⨾ l)) s p n
unfolding times_m
times_then k l s p n zero h = absurd (omega arith)
times_then k l s p n (suc i) h = rw (sub-one (suc i)) (assoc s p n k (times_m i k) l)

pub none_then : (k l : Check) (s : List ℕ) (p n : ℕ) (i : ℕ) → i ≤ 0 → (times_m i k ⨾ l) s p n ≡ l s p n
unfolding times_m ◌⨾◌ stay and_then
none_then k l s p n zero h = refl
none_then k l s p n (suc i) h = absurd (omega arith)

-- ---- what the shut checks are

module _ (d : Declaration) (s : List ℕ) (p n : ℕ) where
  pub toggle_is : toggle_m d s p n ≡ by u16 (λ x. value_m d x d.on ⨾ value_m d x d.off) s p n
  unfolding toggle_m
  toggle_is = refl

  pub wait_is : wait_m d s p n ≡ (trigger_m d ⨾ by u32 (λ x. refuse_if 19 (ltb day x)) ⨾ skip_m 1) s p n
  unfolding wait_m
  wait_is = refl

  -- an effect's kind
  module _ {k : ℕ} where
    pub simple_0 : k ≡ 0 → simple_m d k s p n ≡ pair_m d s p n
    unfolding simple_m
    simple_0 e = rw e

    pub simple_1 : k ≡ 1 → simple_m d k s p n ≡ toggle_m d s p n
    unfolding simple_m
    simple_1 e = rw e

    pub simple_2 : k ≡ 2 → simple_m d k s p n ≡ by u32 (λ x. refuse_if 18 (ltb day x)) s p n
    unfolding simple_m
    simple_2 e = rw e

    pub simple_3 : k ≡ 3 → simple_m d k s p n ≡ predicate_m d 0 s p n
    unfolding simple_m
    simple_3 e = rw e

    pub simple_5 : k ≡ 5 → simple_m d k s p n ≡ wait_m d s p n
    unfolding simple_m
    simple_5 e = rw e

    pub simple_else : (k ≡ 0 → ⊥) → (k ≡ 1 → ⊥) → (k ≡ 2 → ⊥) → (k ≡ 3 → ⊥) → (k ≡ 5 → ⊥) → simple_m d k s p n ≡ skip_m 2 s p n
    unfolding simple_m
    simple_else a b c d e = rw (ne_eqb _ _ a, ne_eqb _ _ b, ne_eqb _ _ c, ne_eqb _ _ d, ne_eqb _ _ e)

pub actions_none : (d : Declaration) (s : List ℕ) (p n : ℕ) → actions_m d 0 s p n ≡ checked.Refused 16
unfolding actions_m refuse
actions_none d s p n = refl

pub actions_more : (d : Declaration) (left : ℕ) (s : List ℕ) (p n : ℕ) → (left ≡ 0 → ⊥) →
    actions_m d left s p n ≡ by u16 (λ c. times_m c (action_m d (actions_m d (left - 1)))) s p n
unfolding actions_m
actions_more d zero s p n h = absurd (h refl)
actions_more d (suc left) s p n h = rw (sub-one (suc left))
