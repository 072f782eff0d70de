-- Laws on lists, texts and tests: how `keep`, the filter that leaves only what lies inside the cone, commutes with what the
-- engine does to lists (append, find, tally, each, flat), and that sorting texts keeps their members.
use Rattle.std.specs.Prelude.{if◌then◌else◌}
use Prim.Native.Nat.{ℕ, ◌+◌, ◌≤◌, ◌<◌}
use mathlib.Core.Path.{◌≡◌, refl, sym, ap, ◌∙◌, subst}
use mathlib.Core.Bool.{Bool, true, false, not, ◌&&◌, ◌||◌, true≢false}
use mathlib.Core.List.{List, [], ◌∷◌, ◌++◌}
use mathlib.Core.Option.{Option, none, some}
use native.Mathlib.Omega.{arith}
use lib.Dec.{leb, T, leb→le, nleb→lt}
pub use Rattle.engine_spec.proofs.Lists.{
  Case,
  is_true,
  is_false,
  case,
  and_l,
  and_r,
  or_no,
  le-leb,
  eq_t_eq,
  eq_t_same,
  some_eq,
  none_some,
  keep_append,
  found_is,
}
pub use Rattle.engine_spec.proofs.Distinct.{or_no'}
use Rattle.texts.specs.Lists.{any, all, keep, find, tally, each, flat}
use Rattle.texts.specs.Texts.{Text, eq_t, insert_t, sorted_t, lt_t}

-- a test that is true, and one that is false
pub T_true : {b : Bool} → b ≡ true → T b
T_true e = subst T (sym e) tt

pub leb_le : (m n : ℕ) → leb m n ≡ true → m ≤ n
leb_le m n e = leb→le m n (T_true e)

pub gt_leb : (m n : ℕ) → leb m n ≡ false → n < m
gt_leb m n e = nleb→lt m n (subst T (sym (ap not e)) tt)

pub and_i : (a b : Bool) → a ≡ true → b ≡ true → a && b ≡ true
and_i a b p q = rw (p, q)

pub or_l : (a b : Bool) → a ≡ true → a || b ≡ true
or_l a b h = rw h

pub or_r : (a b : Bool) → b ≡ true → a || b ≡ true
or_r true b h = refl
or_r false b h = h

pub not-true : (b : Bool) → not b ≡ true → b ≡ false
not-true true e = sym e
not-true false e = refl

pub if_prop : {A : Type 0} (P : A → Type 0) (b : Bool) {x y : A} → P x → P y → P (if b then x else y)
if_prop P true p q = p
if_prop P false p q = q

pub if_hom : {A B : Type 0} (f : A → B) (b : Bool) {x y : A} {u w : B} → f x ≡ u → f y ≡ w
    → f (if b then x else y) ≡ if b then u else w
if_hom f true p q = p
if_hom f false p q = q

pub if_both : {A B : Type 0} (f : A → B) (b : Bool) {x y : A} {u : B} → f x ≡ u → f y ≡ u → f (if b then x else y) ≡ u
if_both f true p q = p
if_both f false p q = q

module _ {A : Type 0} where
  pub cons_eq : {x : A} {l m : List A} → l ≡ m → x ∷ l ≡ x ∷ m
  cons_eq {x} e = ap {B = List A} (λ t. x ∷ t) e

  pub append_none : (l : List A) → l ++ [] ≡ l
  append_none [] = refl
  append_none (x ∷ l) = cons_eq (append_none l)

  pub append_assoc : (l m n : List A) → (l ++ m) ++ n ≡ l ++ (m ++ n)
  append_assoc [] m n = refl
  append_assoc (x ∷ l) m n = cons_eq (append_assoc l m n)

  pub keep_in : (p : A → Bool) (x : A) (l : List A) → p x ≡ true → keep p (x ∷ l) ≡ x ∷ keep p l
  unfolding keep
  keep_in p x l e = rw e

  pub keep_out : (p : A → Bool) (x : A) (l : List A) → p x ≡ false → keep p (x ∷ l) ≡ keep p l
  unfolding keep
  keep_out p x l e = rw e

  pub keep_nil : (p : A → Bool) → keep p [] ≡ []
  unfolding keep
  keep_nil p = refl

  pub keep_end_out : (p : A → Bool) (l : List A) (x : A) → p x ≡ false → keep p (l ++ x ∷ []) ≡ keep p l
  keep_end_out p l x e = keep_append p l (x ∷ [])
      ∙ ap {B = List A} (λ t. keep p l ++ t) (keep_out p x [] e ∙ keep_nil p) ∙ append_none (keep p l)

  -- two filters change places
  pub keep_swap : (p q : A → Bool) (l : List A) → keep p (keep q l) ≡ keep q (keep p l)
  unfolding keep
  keep_swap p q [] = refl
  keep_swap p q (x ∷ l) = go (case (p x)) (case (q x)) (keep_swap p q l)
    where
      go : Case (p x) → Case (q x) → keep p (keep q l) ≡ keep q (keep p l)
          → keep p (keep q (x ∷ l)) ≡ keep q (keep p (x ∷ l))
      go (is_true a) (is_true b) e = simp (a, b) (cons_eq e)
      go (is_true a) (is_false b) e = simp (a, b) e
      go (is_false a) (is_true b) e = simp (a, b) e
      go (is_false a) (is_false b) e = simp (a, b) e

  -- a filter changes nothing if the other drops all that it drops
  pub keep_idle : (p q : A → Bool) (l : List A) → ((x : A) → p x ≡ true → q x ≡ true) → keep p (keep q l) ≡ keep p l
  unfolding keep
  keep_idle p q [] h = refl
  keep_idle p q (x ∷ l) h = go (case (p x)) (case (q x)) (keep_idle p q l h)
    where
      go : Case (p x) → Case (q x) → keep p (keep q l) ≡ keep p l → keep p (keep q (x ∷ l)) ≡ keep p (x ∷ l)
      go (is_true a) (is_true b) e = simp (a, b) (cons_eq e)
      go (is_true a) (is_false b) e = absurd (true≢false (sym (h x a) ∙ b))
      go (is_false a) (is_true b) e = simp (a, b) e
      go (is_false a) (is_false b) e = simp (a, b) e

  pub keep_again : (p : A → Bool) (l : List A) → keep p (keep p l) ≡ keep p l
  keep_again p l = keep_idle p p l (λ x h. h)

  pub find_keep : (q p : A → Bool) → ((x : A) → q x ≡ true → p x ≡ true) → (l : List A) → find q (keep p l) ≡ find q l
  unfolding find keep
  find_keep q p h [] = refl
  find_keep q p h (x ∷ l) = go (case (p x)) (case (q x)) (find_keep q p h l)
    where
      go : Case (p x) → Case (q x) → find q (keep p l) ≡ find q l → find q (keep p (x ∷ l)) ≡ find q (x ∷ l)
      go (is_true a) (is_true b) e = simp (a, b)
      go (is_true a) (is_false b) e = simp (a, b) e
      go (is_false a) (is_true b) e = absurd (true≢false (sym (h x b) ∙ a))
      go (is_false a) (is_false b) e = simp (a, b) e

  pub tally_keep : (q p : A → Bool) → ((x : A) → q x ≡ true → p x ≡ true) → (l : List A) → tally q (keep p l) ≡ tally q l
  unfolding tally keep
  tally_keep q p h [] = refl
  tally_keep q p h (x ∷ l) = go (case (p x)) (case (q x)) (tally_keep q p h l)
    where
      go : Case (p x) → Case (q x) → tally q (keep p l) ≡ tally q l → tally q (keep p (x ∷ l)) ≡ tally q (x ∷ l)
      go (is_true a) b e = simp a (ap (λ (n : ℕ). (if q x then 1 else 0) + n) e)
      go (is_false a) (is_true b) e = absurd (true≢false (sym (h x b) ∙ a))
      go (is_false a) (is_false b) e = simp (a, b) (omega (arith, e))

  -- what holds of every element
  abbrev pub Every : (A → Bool) → List A → Type 0
  Every g [] = Unit {0}
  Every g (x ∷ l) = (g x ≡ true) × Every g l

  pub every_keep : (g p : A → Bool) (l : List A) → Every g l → Every g (keep p l)
  unfolding keep
  every_keep g p [] h = tt
  every_keep g p (x ∷ l) h = go (case (p x)) (every_keep g p l h.1)
    where
      go : Case (p x) → Every g (keep p l) → Every g (keep p (x ∷ l))
      go (is_true a) e = simp a (h.0, e)
      go (is_false a) e = simp a e

  pub every_both : (g : A → Bool) (l m : List A) → Every g l → Every g m → Every g (l ++ m)
  every_both g [] m h k = k
  every_both g (x ∷ l) m h k = (h.0, every_both g l m h.1 k)

  pub every_end : (g : A → Bool) (l : List A) (x : A) → Every g l → g x ≡ true → Every g (l ++ x ∷ [])
  every_end g l x h e = every_both g l (x ∷ []) h (e, tt)

  pub every_find : (g q : A → Bool) (l : List A) (x : A) → Every g l → find q l ≡ some x → g x ≡ true
  unfolding find
  every_find g q [] x e h = absurd (none_some h)
  every_find g q (y ∷ l) x e h = go (case (q y)) (every_find g q l x e.1)
    where
      go : Case (q y) → (find q l ≡ some x → g x ≡ true) → g x ≡ true
      go (is_true a) r = subst (λ (z : A). g z ≡ true) (some_eq (simp a at h)) e.0
      go (is_false a) r = r (simp a at h)

  pub all_append : (p : A → Bool) (l m : List A) → all p (l ++ m) ≡ (all p l && all p m)
  unfolding all
  all_append p [] m = refl
  all_append p (x ∷ l) m = go (p x) (all_append p l m)
    where
      go : (b : Bool) → all p (l ++ m) ≡ (all p l && all p m) → (b && all p (l ++ m)) ≡ ((b && all p l) && all p m)
      go true e = e
      go false e = refl

  pub any_append : (p : A → Bool) (l m : List A) → any p (l ++ m) ≡ (any p l || any p m)
  unfolding any
  any_append p [] m = refl
  any_append p (x ∷ l) m = go (p x) (any_append p l m)
    where
      go : (b : Bool) → any p (l ++ m) ≡ (any p l || any p m) → (b || any p (l ++ m)) ≡ ((b || any p l) || any p m)
      go true e = refl
      go false e = e

  pub all_i : (p : A → Bool) (l m : List A) → all p l ≡ true → all p m ≡ true → all p (l ++ m) ≡ true
  all_i p l m h k = all_append p l m ∙ and_i (all p l) (all p m) h k

  pub all_l : (p : A → Bool) (l m : List A) → all p (l ++ m) ≡ true → all p l ≡ true
  all_l p l m h = and_l (all p l) (all p m) (sym (all_append p l m) ∙ h)

  pub all_r : (p : A → Bool) (l m : List A) → all p (l ++ m) ≡ true → all p m ≡ true
  all_r p l m h = and_r (all p l) (all p m) (sym (all_append p l m) ∙ h)

  pub all_weaken : (p q : A → Bool) → ((x : A) → p x ≡ true → q x ≡ true) → (l : List A) → all p l ≡ true → all q l ≡ true
  unfolding all
  all_weaken p q h [] e = refl
  all_weaken p q h (x ∷ l) e =
      and_i (q x) (all q l) (h x (and_l (p x) (all p l) e)) (all_weaken p q h l (and_r (p x) (all p l) e))

  pub all_both : (p q : A → Bool) (l : List A) → all p l ≡ true → all q l ≡ true → all (λ x. p x && q x) l ≡ true
  unfolding all
  all_both p q [] h k = refl
  all_both p q (x ∷ l) h k =
      and_i (p x && q x) (all (λ y. p y && q y) l)
      (and_i (p x) (q x) (and_l (p x) (all p l) h) (and_l (q x) (all q l) k))
      (all_both p q l (and_r (p x) (all p l) h) (and_r (q x) (all q l) k))

  pub any_not : (p : A → Bool) (l : List A) → any p l ≡ false → all (λ x. not (p x)) l ≡ true
  unfolding any all
  any_not p [] h = refl
  any_not p (x ∷ l) h = and_i (not (p x)) (all (λ y. not (p y)) l) (ap not (or_no (p x) (any p l) h))
      (any_not p l (or_no' (p x) (any p l) h))

  -- of each element of the list
  pub any_none : (p q : A → Bool) (l : List A) → Every q l → ((x : A) → q x ≡ true → p x ≡ false) → any p l ≡ false
  unfolding any
  any_none p q [] e h = refl
  any_none p q (x ∷ l) e h = rw (h x e.0) (any_none p q l e.1 h)

  pub all_every : (p : A → Bool) (l : List A) → all p l ≡ true → Every p l
  unfolding all
  all_every p [] h = tt
  all_every p (x ∷ l) h = (and_l (p x) (all p l) h, all_every p l (and_r (p x) (all p l) h))

module _ {A B : Type 0} where
  pub keep_each : (f : A → B) (p : B → Bool) (q : A → Bool) → ((x : A) → p (f x) ≡ q x) → (l : List A)
      → keep p (each f l) ≡ each f (keep q l)
  unfolding each keep
  keep_each f p q h [] = refl
  keep_each f p q h (x ∷ l) = go (case (q x)) (keep_each f p q h l)
    where
      go : Case (q x) → keep p (each f l) ≡ each f (keep q l) → keep p (each f (x ∷ l)) ≡ each f (keep q (x ∷ l))
      go (is_true a) e = simp (h x, a) (cons_eq e)
      go (is_false a) e = simp (h x, a) e

  pub tally_each : (f : A → B) (p : B → Bool) (q : A → Bool) → ((x : A) → p (f x) ≡ q x) → (l : List A)
      → tally p (each f l) ≡ tally q l
  unfolding each tally
  tally_each f p q h [] = refl
  tally_each f p q h (x ∷ l) = rw (h x, tally_each f p q h l)

  unfoldable pub opt : (A → B) → Option A → Option B
  opt f none = none
  opt f (some x) = some (f x)

  pub find_each : (f : A → B) (p : B → Bool) (q : A → Bool) → ((x : A) → p (f x) ≡ q x) → (l : List A)
      → find p (each f l) ≡ opt f (find q l)
  unfolding each find opt
  find_each f p q h [] = refl
  find_each f p q h (x ∷ l) = go (case (q x)) (find_each f p q h l)
    where
      go : Case (q x) → find p (each f l) ≡ opt f (find q l) → find p (each f (x ∷ l)) ≡ opt f (find q (x ∷ l))
      go (is_true a) e = simp (h x, a)
      go (is_false a) e = simp (h x, a) e

  pub each_append : (f : A → B) (l m : List A) → each f (l ++ m) ≡ each f l ++ each f m
  unfolding each
  each_append f [] m = refl
  each_append f (x ∷ l) m = cons_eq (each_append f l m)

  pub all_flat : (p : B → Bool) (f : A → List B) (l : List A) → all p (flat f l) ≡ all (λ x. all p (f x)) l
  unfolding flat all
  all_flat p f [] = refl
  all_flat p f (x ∷ l) = all_append p (f x) (flat f l) ∙ ap (λ (b : Bool). all p (f x) && b) (all_flat p f l)

  pub any_flat : (p : B → Bool) (f : A → List B) (l : List A) → any p (flat f l) ≡ any (λ x. any p (f x)) l
  unfolding flat any
  any_flat p f [] = refl
  any_flat p f (x ∷ l) = any_append p (f x) (flat f l) ∙ ap (λ (b : Bool). any p (f x) || b) (any_flat p f l)

  pub all_each : (p : B → Bool) (f : A → B) (l : List A) → all p (each f l) ≡ all (λ x. p (f x)) l
  unfolding each all
  all_each p f [] = refl
  all_each p f (x ∷ l) = ap (λ (b : Bool). p (f x) && b) (all_each p f l)

  pub any_each : (p : B → Bool) (f : A → B) (l : List A) → any p (each f l) ≡ any (λ x. p (f x)) l
  unfolding each any
  any_each p f [] = refl
  any_each p f (x ∷ l) = ap (λ (b : Bool). p (f x) || b) (any_each p f l)

  -- each list without what lies outside: those of what lies inside
  pub keep_flat : (f : A → List B) (p : A → Bool) (q : B → Bool) → ((x : A) → p x ≡ true → keep q (f x) ≡ f x)
      → ((x : A) → p x ≡ false → keep q (f x) ≡ [])
      → (l : List A) → keep q (flat f l) ≡ flat f (keep p l)
  unfolding flat keep
  keep_flat f p q h k [] = refl
  keep_flat f p q h k (x ∷ l) = keep_append q (f x) (flat f l) ∙ go (case (p x)) (keep_flat f p q h k l)
    where
      go : Case (p x) → keep q (flat f l) ≡ flat f (keep p l) → keep q (f x) ++ keep q (flat f l) ≡ flat f (keep p (x ∷ l))
      go (is_true a) e = simp a (rw (h x a, e))
      go (is_false a) e = simp a (rw (k x a, e))

module _ {A B C : Type 0} where
  pub each_each : (f : A → B) (g : B → C) (h : A → C) → ((x : A) → g (f x) ≡ h x) → (l : List A)
      → each g (each f l) ≡ each h l
  unfolding each
  each_each f g h e [] = refl
  each_each f g h e (x ∷ l) = λ i. e x i ∷ each_each f g h e l i

  pub each_flat : (g : B → C) (f : A → List B) (l : List A) → each g (flat f l) ≡ flat (λ x. each g (f x)) l
  unfolding flat each
  each_flat g f [] = refl
  each_flat g f (x ∷ l) = each_append g (f x) (flat f l) ∙ ap {B = List C} (λ t. each g (f x) ++ t) (each_flat g f l)

module _ {A : Type 0} where
  pub each_keep : (f : A → A) (p : A → Bool) → ((x : A) → p (f x) ≡ p x) → (l : List A)
      → keep p (each f l) ≡ each f (keep p l)
  each_keep f p h l = keep_each f p p h l

  pub each_idle : (f : A → A) (p g : A → Bool) → ((x : A) → p x ≡ true → g x ≡ true → f x ≡ x) → (l : List A)
      → Every g l → each f (keep p l) ≡ keep p l
  unfolding each keep
  each_idle f p g h [] k = refl
  each_idle f p g h (x ∷ l) k = go (case (p x)) (each_idle f p g h l k.1)
    where
      go : Case (p x) → each f (keep p l) ≡ keep p l → each f (keep p (x ∷ l)) ≡ keep p (x ∷ l)
      go (is_true a) e = simp a (ap {B = List A} (λ t. t ∷ each f (keep p l)) (h x a k.0) ∙ cons_eq e)
      go (is_false a) e = simp a e

  pub every_each : (g : A → Bool) (f : A → A) → ((x : A) → g x ≡ true → g (f x) ≡ true) → (l : List A) → Every g l
      → Every g (each f l)
  unfolding each
  every_each g f h [] e = tt
  every_each g f h (x ∷ l) e = (h x e.0, every_each g f h l e.1)

  pub every_yes : (l : List A) → Every (λ x. true) l
  every_yes [] = tt
  every_yes (x ∷ l) = (refl, every_yes l)

  -- a filter under which another's elements are those of a third
  pub keep_same : (p q : A → Bool) (l : List A) → Every (λ x. true) l → ((x : A) → p x ≡ q x) → keep p l ≡ keep q l
  unfolding keep
  keep_same p q [] k h = refl
  keep_same p q (x ∷ l) k h = rw (h x, keep_same p q l k.1 h)

-- sorted texts
pub all_insert : (p : Text → Bool) (t : Text) (l : List Text) → all p (insert_t t l) ≡ (p t && all p l)
unfolding insert_t all
all_insert p t [] = refl
all_insert p t (x ∷ l) = go (case (eq_t t x)) (lt_t t x) (all_insert p t l)
  where
    swap : (a b c : Bool) → a && (b && c) ≡ b && (a && c)
    swap true true c = refl
    swap true false c = refl
    swap false true c = refl
    swap false false c = refl

    twice : (a c : Bool) → a && c ≡ a && (a && c)
    twice true c = refl
    twice false c = refl

    go : Case (eq_t t x) → (b : Bool) → all p (insert_t t l) ≡ (p t && all p l)
        → all p (if eq_t t x then x ∷ l else if b then t ∷ x ∷ l else x ∷ insert_t t l) ≡ (p t && (p x && all p l))
    go (is_true a) b e = rw a (twice (p x) (all p l) ∙ ap (λ (y : Text). p y && (p x && all p l)) (sym (eq_t_eq t x a)))
    go (is_false a) true e = rw a
    go (is_false a) false e = rw a (ap (λ (y : Bool). p x && y) e ∙ swap (p x) (p t) (all p l))

pub all_sorted : (p : Text → Bool) (l : List Text) → all p (sorted_t l) ≡ all p l
unfolding sorted_t all
all_sorted p [] = refl
all_sorted p (t ∷ l) = all_insert p t (sorted_t l) ∙ ap (λ (b : Bool). p t && b) (all_sorted p l)

pub any_insert : (p : Text → Bool) (t : Text) (l : List Text) → any p (insert_t t l) ≡ (p t || any p l)
unfolding insert_t any
any_insert p t [] = refl
any_insert p t (x ∷ l) = go (case (eq_t t x)) (lt_t t x) (any_insert p t l)
  where
    swap : (a b c : Bool) → a || (b || c) ≡ b || (a || c)
    swap true true c = refl
    swap true false c = refl
    swap false true c = refl
    swap false false c = refl

    twice : (a c : Bool) → a || c ≡ a || (a || c)
    twice true c = refl
    twice false c = refl

    go : Case (eq_t t x) → (b : Bool) → any p (insert_t t l) ≡ (p t || any p l)
        → any p (if eq_t t x then x ∷ l else if b then t ∷ x ∷ l else x ∷ insert_t t l) ≡ (p t || (p x || any p l))
    go (is_true a) b e = rw a (twice (p x) (any p l) ∙ ap (λ (y : Text). p y || (p x || any p l)) (sym (eq_t_eq t x a)))
    go (is_false a) true e = rw a
    go (is_false a) false e = rw a (ap (λ (y : Bool). p x || y) e ∙ swap (p x) (p t) (any p l))

pub any_sorted : (p : Text → Bool) (l : List Text) → any p (sorted_t l) ≡ any p l
unfolding sorted_t any
any_sorted p [] = refl
any_sorted p (t ∷ l) = any_insert p t (sorted_t l) ∙ ap (λ (b : Bool). p t || b) (any_sorted p l)
