-- The engine's runs: an automation's runs stand in the order in which they were made, each under a key of its own,
-- and a queued run doesn't wait. What `keep`, `store` and a new run do to this, and to how many runs execute.
use Prim.Native.Nat.{◌+◌, ◌≤◌, ◌<◌}
use mathlib.Core.Path.{◌≡◌, refl, sym, ap, ◌∙◌}
use mathlib.Core.Bool.{Bool, true, false, not, ◌&&◌}
use mathlib.Core.List.{List, [], ◌∷◌, ◌++◌}
use native.Mathlib.Omega.{arith}
use lib.Dec.{eqb}
use Rattle.texts.specs.Lists.{absent, keep, tally, each}
use Rattle.texts.specs.Texts.{Text, eq_t}
use Rattle.engine_spec.specs.Records.{Key, Run}
use Rattle.engine_spec.specs.Page.{same_key}
pub use Rattle.engine_spec.specs.Page.{Later, InOrder}
use Rattle.engine_spec.specs.Engine.{same_run, of_rule, other_run, of_other_rule, executing, in_place}
use Rattle.engine_spec.proofs.Lists.{
  Case,
  is_true,
  is_false,
  case,
  if_prop,
  and_l,
  and_r,
  eqb_eq,
  eqb_same,
  eq_t_eq,
  eq_t_same,
  one,
  tally_sums,
  tally_le,
  tally_same,
  tally_keep,
  tally_none,
  tally_never,
  tally_each,
  Each,
  each_keep,
  each_to,
  each_end,
}

-- ---- keys

pub keys_eq : (j k : Key) → same_key j k ≡ true → j ≡ k
unfolding same_key
keys_eq j k e =
    let p : j.rule ≡ k.rule = eq_t_eq _ _ (and_l _ (eqb j.sequence k.sequence) e) in
    let q : j.sequence ≡ k.sequence = eqb_eq _ _ (and_r (eq_t j.rule k.rule) _ e) in
    λ i. record { rule = p i; sequence = q i }

pub keys_same : (k : Key) → same_key k k ≡ true
unfolding same_key
keys_same k = rw (eq_t_same k.rule, eqb_same k.sequence)

pub key_is : (k : Key) (r : Run) → same_run k r ≡ true → r.key ≡ k
unfolding same_run same_key
key_is k r e = keys_eq r.key k e

pub own_key : (r : Run) → same_run r.key r ≡ true
unfolding same_run same_key
own_key r = keys_same r.key

pub kept_key : (r x : Run) → (in_place r x).key ≡ x.key
unfolding in_place
kept_key r x = if_prop (λ (y : Run). y.key ≡ x.key) (same_run r.key x) (λ a. sym (key_is r.key x a)) (λ a. refl)

-- ---- order

pub order_keep : (p : Run → Bool) (l : List Run) → InOrder l → InOrder (keep p l)
unfolding keep
order_keep p [] h = tt
order_keep p (x ∷ l) h =
    if_prop InOrder (p x) (λ a. (each_keep (Later x) p l h.0, order_keep p l h.1)) (λ a. order_keep p l h.1)

pub order_each : (f : Run → Run) → ((x : Run) → (f x).key ≡ x.key) → (l : List Run) → InOrder l → InOrder (each f l)
unfolding each
order_each f h [] k = tt
order_each f h (x ∷ l) k =
    (each_to (Later x) (Later (f x)) f (λ y g. rw (h x, h y) g) l k.0, order_each f h l k.1)

pub order_end : (l : List Run) (x : Run) → InOrder l → Each (λ y. Later y x) l → InOrder (l ++ x ∷ [])
order_end [] x h k = (tt, tt)
order_end (y ∷ l) x h k = (each_end (Later y) l x h.0 k.0, order_end l x h.1 k.1)

-- a later run has another key
pub later_differs : (k : Key) (x y : Run) → same_run k x ≡ true → Later x y → same_run k y ≡ false
later_differs k x y a g = by (case (same_run k y))
  where
    by : Case (same_run k y) → same_run k y ≡ false
    by (is_false b) = b
    by (is_true b) =
        let same : x.key ≡ y.key = key_is k x a ∙ sym (key_is k y b) in
        let e : x.key.sequence ≡ y.key.sequence = ap (λ (z : Key). z.sequence) same in
        let less : x.key.sequence < y.key.sequence = g (ap (λ (z : Key). z.rule) same) in
        absurd (omega arith)

-- a key names at most one run
pub once : (k : Key) (l : List Run) → InOrder l → tally (same_run k) l ≤ 1
unfolding tally
once k [] h = omega arith
once k (x ∷ l) h = go (case (same_run k x)) (once k l h.1)
  where
    go : Case (same_run k x) → tally (same_run k) l ≤ 1 → tally (same_run k) (x ∷ l) ≤ 1
    go (is_true a) n = omega (arith, tally_none (Later x) (same_run k) (λ y g. later_differs k x y a g) l h.0, ap one a)
    go (is_false a) n = omega (arith, ap one a)

-- ---- a run's own state

-- its place is below the number made of its automation; if it is queued it doesn't wait
pub record Fit (made : List Text) (r : Run) : Type 0 where
  pub old : r.key.sequence < tally (eq_t r.key.rule) made
  pub rests : r.queued ≡ true → absent r.waiting ≡ true

-- ---- how many execute

-- this run, and not queued
unfoldable pub goes : Key → Run → Bool
goes k r = same_run k r && not r.queued

-- the rule of a run in place is the rule of the run that stood there
pub rule_in_place : (id : Text) (r x : Run) → of_rule id (in_place r x) ≡ of_rule id x
unfolding of_rule
rule_in_place id r x = ap (λ (k : Key). eq_t k.rule id) (kept_key r x)

-- what stands in place: the run, or what stood there
pub in_here : (r x : Run) → same_run r.key x ≡ true → in_place r x ≡ r
unfolding in_place
in_here r x a = rw a

pub in_there : (r x : Run) → same_run r.key x ≡ false → in_place r x ≡ x
unfolding in_place
in_there r x a = rw a

-- by whether the runs are of the automation (o), queued before (q) and after (p)
table : (o q p : Bool) → one (o && not p) + one (not q) ≤ one (o && not q) + 1
table true true true = omega arith
table true true false = omega arith
table true false true = omega arith
table true false false = omega arith
table false true p = omega arith
table false false p = omega arith

one_and : (a b : Bool) → one (a && b) ≤ one b
one_and true b = omega arith
one_and false true = omega arith
one_and false false = omega arith

at_most_one : (b : Bool) → one b ≤ 1
at_most_one true = omega arith
at_most_one false = omega arith

pub fewer : (p q : Run → Bool) (l : List Run) → tally p (keep q l) ≤ tally p l
fewer p q l = omega (arith, tally_keep p q l, tally_le (λ x. q x && p x) p (λ x. one_and (q x) (p x)) l)

-- all runs of the automation are taken out
pub all_out : (id : Text) (l : List Run) → tally (of_rule id) (keep (of_other_rule id) l) ≡ 0
all_out id l =
    tally_keep (of_rule id) (of_other_rule id) l ∙ tally_never (λ x. of_other_rule id x && of_rule id x)
    (λ x. unfold of_other_rule in (by (of_rule id x))) l
  where
    by : (b : Bool) → not b && b ≡ false
    by true = refl
    by false = refl

pub rules_store : (id : Text) (r : Run) (l : List Run) → tally (of_rule id) (each (in_place r) l) ≡ tally (of_rule id) l
rules_store id r l = tally_each (of_rule id) (in_place r) l ∙ tally_same _ (of_rule id) (rule_in_place id r) l

-- a run that executes is put back: no more execute than before
pub executing_store : (id : Text) (r : Run) (l : List Run) → InOrder l → 1 ≤ tally (goes r.key) l
    → tally (executing id) (each (in_place r) l) ≤ tally (executing id) l
executing_store id r l o h =
    omega (
      arith,
      tally_each (executing id) (in_place r) l,
      once r.key l o,
      tally_sums (λ x. executing id (in_place r x)) (goes r.key) (executing id) (same_run r.key)
          (λ x. go x (case (same_run r.key x))) l,
    )
  where
    go : (x : Run) → Case (same_run r.key x)
        → one (executing id (in_place r x)) + one (goes r.key x) ≤ one (executing id x) + one (same_run r.key x)
    go x (is_true a) = unfold executing goes in
        (rw (rule_in_place id r x, in_here r x a, a) (table (of_rule id x) x.queued r.queued))
    go x (is_false a) = unfold goes in (rw (in_there r x a, a) (omega arith))

-- any run is put back: at most one more executes
pub executing_more : (id : Text) (r : Run) (l : List Run) → InOrder l
    → tally (executing id) (each (in_place r) l) ≤ tally (executing id) l + 1
executing_more id r l o =
    omega (
      arith,
      tally_each (executing id) (in_place r) l,
      once r.key l o,
      tally_sums (λ x. executing id (in_place r x)) (λ x. false) (executing id) (same_run r.key)
          (λ x. go x (case (same_run r.key x))) l,
    )
  where
    go : (x : Run) → Case (same_run r.key x)
        → one (executing id (in_place r x)) + 0 ≤ one (executing id x) + one (same_run r.key x)
    go x (is_true a) = rw a (omega (arith, at_most_one (executing id (in_place r x))))
    go x (is_false a) = rw (in_there r x a, a) (omega arith)

-- a run of another automation is put back: as many execute as before
pub executing_other : (id : Text) (r : Run) (l : List Run) → eq_t r.key.rule id ≡ false
    → tally (executing id) (each (in_place r) l) ≡ tally (executing id) l
executing_other id r l n =
    tally_each (executing id) (in_place r) l ∙ tally_same _ (executing id) (λ x. go x (case (same_run r.key x))) l
  where
    go : (x : Run) → Case (same_run r.key x) → executing id (in_place r x) ≡ executing id x
    go x (is_true a) = unfold executing of_rule in (rw (in_here r x a, key_is r.key x a, n))
    go x (is_false a) = ap (executing id) (in_there r x a)

-- a run that executes is taken out: one less of its automation executes
pub executing_less : (id : Text) (k : Key) (l : List Run) → eq_t k.rule id ≡ true → 1 ≤ tally (goes k) l
    → tally (executing id) (keep (other_run k) l) + 1 ≤ tally (executing id) l
executing_less id k l n h =
    omega (
      arith,
      tally_keep (executing id) (other_run k) l,
      tally_never (λ x. false) (λ x. refl) l,
      tally_sums (λ x. other_run k x && executing id x) (goes k) (executing id) (λ x. false)
          (λ x. go x (case (same_run k x))) l,
    )
  where
    go : (x : Run) → Case (same_run k x)
        → one (other_run k x && executing id x) + one (goes k x) ≤ one (executing id x) + 0
    go x (is_true a) = unfold other_run executing goes of_rule in (rw (a, key_is k x a, n) (omega arith))
    go x (is_false a) = unfold other_run goes in (rw a (omega arith))

pub fewer_execute : (id : Text) (l : List Run) → tally (executing id) l ≤ tally (of_rule id) l
fewer_execute id l =
    tally_le (executing id) (of_rule id) (λ r. unfold executing in (by (of_rule id r) (not r.queued))) l
  where
    by : (a b : Bool) → one (a && b) ≤ one a
    by true b = at_most_one b
    by false b = omega arith

-- a run that is put back and executes still executes
pub goes_store : (k : Key) (r : Run) (l : List Run) → r.queued ≡ false
    → tally (goes k) l ≤ tally (goes k) (each (in_place r) l)
goes_store k r l q =
    omega (
      arith,
      tally_each (goes k) (in_place r) l,
      tally_le (goes k) (λ x. goes k (in_place r x))
          (λ x. go x (case (same_run r.key x))) l,
    )
  where
    by : (a b : Bool) → one (a && b) ≤ one (a && true)
    by true b = at_most_one b
    by false b = omega arith

    go : (x : Run) → Case (same_run r.key x) → one (goes k x) ≤ one (goes k (in_place r x))
    go x (is_true a) =
        unfold goes same_run in (rw (in_here r x a, key_is r.key x a, q)
        (by (eq_t r.key.rule k.rule && eqb r.key.sequence k.sequence) (not x.queued)))
    go x (is_false a) = rw (in_there r x a) (omega arith)
