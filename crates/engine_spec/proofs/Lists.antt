-- Laws on tests and on lists: how many pass a test, and what holds of each, after the list is filtered or changed.
-- Every change that the engine makes to its runs is one of `keep`, `each` and an element put at the end.
use Rattle.std.specs.Prelude.{if◌then◌else◌}
use Prim.Native.Nat.{ℕ, suc, ◌+◌, ◌≤◌}
use mathlib.Core.Path.{◌≡◌, refl, sym, ap, ◌∙◌, subst}
use mathlib.Core.Bool.{Bool, true, false, not, ◌&&◌, ◌||◌, true≢false, false≢true}
use mathlib.Core.List.{List, [], ◌∷◌, ◌++◌}
use mathlib.Core.Option.{Option, none, some}
use native.Mathlib.Omega.{arith}
use lib.ListN.{length}
use lib.Dec.{eqb, leb, T, leb→le, le→leb, eqb→eq, eqb_refl, nleb→lt}
use Rattle.texts.specs.Lists.{any, keep, find, tally, each}
use Rattle.texts.specs.Texts.{Text, eq_t, lt_t, insert_t, sorted_t}
pub use Rattle.engine_spec.specs.Each.{Each}

-- ---- tests

-- a case split that keeps its equation
pub data Case (b : Bool) : Type 0 where
  is_true : b ≡ true → Case b
  is_false : b ≡ false → Case b

pub case : (b : Bool) → Case b
case true = is_true refl
case false = is_false refl

pub if_prop : {A : Type 0} (P : A → Type 0) (b : Bool) {x y : A} → (b ≡ true → P x) → (b ≡ false → P y)
    → P (if b then x else y)
if_prop P true p q = p refl
if_prop P false p q = q refl

pub and_l : (a b : Bool) → a && b ≡ true → a ≡ true
and_l true b e = refl
and_l false b e = e

pub and_r : (a b : Bool) → a && b ≡ true → b ≡ true
and_r true b e = e
and_r false b e = absurd (false≢true e)

pub or_no : (a b : Bool) → a || b ≡ false → a ≡ false
or_no true b h = h
or_no false b h = refl

T_true : {b : Bool} → b ≡ true → T b
T_true e = subst T (sym e) tt

true_t : (b : Bool) → T b → b ≡ true
true_t true t = refl
true_t false t = absurd t

pub eqb_eq : (m n : ℕ) → eqb m n ≡ true → m ≡ n
eqb_eq m n e = eqb→eq m n (T_true e)

pub eqb_same : (n : ℕ) → eqb n n ≡ true
eqb_same n = true_t (eqb n n) (eqb_refl n)

pub leb_no : (m n : ℕ) → leb m n ≡ false → n + 1 ≤ m
leb_no m n e = omega (arith, nleb→lt m n (subst T (sym (ap not e)) tt))

pub le-leb : (m n : ℕ) → m ≤ n → leb m n ≡ true
le-leb m n h = true_t (leb m n) (le→leb m n h)

pub lt-leb : (m n : ℕ) → n + 1 ≤ m → leb m n ≡ false
lt-leb m n h = by (case (leb m n))
  where
    by : Case (leb m n) → leb m n ≡ false
    by (is_false e) = e
    by (is_true e) =
        let k : m ≤ n = leb→le m n (T_true e) in
        absurd (omega arith)

pub eq_t_eq : (s t : Text) → eq_t s t ≡ true → s ≡ t
unfolding eq_t
eq_t_eq [] [] e = refl
eq_t_eq [] (b ∷ t) e = absurd (false≢true e)
eq_t_eq (a ∷ s) [] e = absurd (false≢true e)
eq_t_eq (a ∷ s) (b ∷ t) e =
    let p : a ≡ b = eqb_eq a b (and_l (eqb a b) (eq_t s t) e) in
    let q : s ≡ t = eq_t_eq s t (and_r (eqb a b) (eq_t s t) e) in
    λ i. p i ∷ q i

pub eq_t_same : (s : Text) → eq_t s s ≡ true
unfolding eq_t
eq_t_same [] = refl
eq_t_same (a ∷ s) = rw (eqb_same a, eq_t_same s)

-- ---- options

pub some_eq : {A : Type 0} {a b : A} → some a ≡ some b → a ≡ b
some_eq p = cc

pub none_some : {A : Type 0} {a : A} → none ≡ some a → ⊥
none_some {A} p = true≢false (ap is_none p)
  where
    is_none : Option A → Bool
    is_none none = true
    is_none (some y) = false

-- ---- how many

-- 1 if the test passes
abbrev pub one : Bool → ℕ
one b = if b then 1 else 0

module _ {A : Type 0} where
  -- a bound that holds of each element holds of the sums
  pub tally_sums : (p q s t : A → Bool) → ((x : A) → one (p x) + one (q x) ≤ one (s x) + one (t x))
      → (l : List A) → tally p l + tally q l ≤ tally s l + tally t l
  unfolding tally
  tally_sums p q s t h [] = omega arith
  tally_sums p q s t h (x ∷ l) = omega (arith, h x, tally_sums p q s t h l)

  pub tally_le : (p q : A → Bool) → ((x : A) → one (p x) ≤ one (q x)) → (l : List A) → tally p l ≤ tally q l
  unfolding tally
  tally_le p q h [] = omega arith
  tally_le p q h (x ∷ l) = omega (arith, h x, tally_le p q h l)

  pub tally_same : (p q : A → Bool) → ((x : A) → p x ≡ q x) → (l : List A) → tally p l ≡ tally q l
  unfolding tally
  tally_same p q h [] = refl
  tally_same p q h (x ∷ l) = rw (h x, tally_same p q h l)

  pub tally_keep : (p q : A → Bool) (l : List A) → tally p (keep q l) ≡ tally (λ x. q x && p x) l
  unfolding tally keep
  tally_keep p q [] = refl
  tally_keep p q (x ∷ l) = go (case (q x)) (tally_keep p q l)
    where
      go : Case (q x) → tally p (keep q l) ≡ tally (λ y. q y && p y) l
          → tally p (keep q (x ∷ l)) ≡ tally (λ y. q y && p y) (x ∷ l)
      go (is_true a) e = simp a (omega (arith, e))
      go (is_false a) e = simp a (omega (arith, e))

  pub tally_end : (p : A → Bool) (l : List A) (x : A) → tally p (l ++ x ∷ []) ≡ tally p l + one (p x)
  unfolding tally
  tally_end p [] x = omega arith
  tally_end p (y ∷ l) x = omega (arith, tally_end p l x)

  pub tally_append : (p : A → Bool) (l m : List A) → tally p (l ++ m) ≡ tally p l + tally p m
  unfolding tally
  tally_append p [] m = omega arith
  tally_append p (x ∷ l) m = omega (arith, tally_append p l m)

  pub some_pass : (p : A → Bool) (l : List A) → any p l ≡ true → 1 ≤ tally p l
  unfolding any tally
  some_pass p [] e = absurd (false≢true e)
  some_pass p (x ∷ l) e = go (case (p x)) (some_pass p l)
    where
      go : Case (p x) → (any p l ≡ true → 1 ≤ tally p l) → 1 ≤ one (p x) + tally p l
      go (is_true a) h = omega (arith, ap one a)
      go (is_false a) h = omega (arith, h (rw a at e))

  pub tally_found : (p q : A → Bool) (l : List A) (x : A) → find q l ≡ some x → p x ≡ true → 1 ≤ tally p l
  unfolding tally find
  tally_found p q [] x e h = absurd (none_some e)
  tally_found p q (y ∷ l) x e h = go (case (q y)) (λ k. tally_found p q l x k h)
    where
      go : Case (q y) → (find q l ≡ some x → 1 ≤ tally p l) → 1 ≤ tally p (y ∷ l)
      go (is_true a) r = rw (some_eq (simp a at e), h) (omega arith)
      go (is_false a) r = omega (arith, r (simp a at e))

  pub none_found : (q : A → Bool) (l : List A) → find q l ≡ none → tally q l ≡ 0
  unfolding tally find
  none_found q [] e = refl
  none_found q (x ∷ l) e = go (case (q x)) (none_found q l)
    where
      go : Case (q x) → (find q l ≡ none → tally q l ≡ 0) → tally q (x ∷ l) ≡ 0
      go (is_true a) r =
          let z : some x ≡ none = rw a at e in
          absurd (none_some (sym z))
      go (is_false a) r =
          let z : find q l ≡ none = rw a at e in
          rw a (omega (arith, r z))

  pub none_kept : (p : A → Bool) (l : List A) → tally p l ≡ 0 → keep p l ≡ []
  unfolding tally keep
  none_kept p [] e = refl
  none_kept p (x ∷ l) e = go (case (p x)) (none_kept p l)
    where
      go : Case (p x) → (tally p l ≡ 0 → keep p l ≡ []) → keep p (x ∷ l) ≡ []
      go (is_true a) r =
          let h : 1 + tally p l ≡ 0 = simp a at e in
          absurd (omega arith)
      go (is_false a) r =
          let h : 0 + tally p l ≡ 0 = simp a at e in
          rw a (r (omega arith))

  pub keep_append : (p : A → Bool) (l m : List A) → keep p (l ++ m) ≡ keep p l ++ keep p m
  unfolding keep
  keep_append p [] m = refl
  keep_append p (x ∷ l) m = go (p x) (keep_append p l m)
    where
      go : (b : Bool) → keep p (l ++ m) ≡ keep p l ++ keep p m
          → (if b then x ∷ keep p (l ++ m) else keep p (l ++ m)) ≡ (if b then x ∷ keep p l else keep p l) ++ keep p m
      go true e = ap {B = List A} (λ t. x ∷ t) e
      go false e = e

  -- a test that lets through what passes another
  pub keep_in : (p q : A → Bool) → ((x : A) → p x ≡ true → q x ≡ true) → (l : List A) → keep p (keep q l) ≡ keep p l
  unfolding keep
  keep_in p q h [] = refl
  keep_in p q h (x ∷ l) = go (case (q x)) (case (p x)) (keep_in p q h l)
    where
      go : Case (q x) → Case (p x) → keep p (keep q l) ≡ keep p l → keep p (keep q (x ∷ l)) ≡ keep p (x ∷ l)
      go (is_true a) (is_true b) e = rw (a, b, e)
      go (is_true a) (is_false b) e = rw (a, b, e)
      go (is_false a) (is_true b) e = absurd (true≢false (sym (h x b) ∙ a))
      go (is_false a) (is_false b) e = rw (a, b, e)

  -- what passes the test isn't changed
  pub keep_same : (p : A → Bool) (f : A → A) → ((x : A) → p (f x) ≡ p x) → ((x : A) → p x ≡ true → f x ≡ x)
      → (l : List A) → keep p (each f l) ≡ keep p l
  unfolding keep each
  keep_same p f h s [] = refl
  keep_same p f h s (x ∷ l) = go (case (p x)) (keep_same p f h s l)
    where
      go : Case (p x) → keep p (each f l) ≡ keep p l → keep p (each f (x ∷ l)) ≡ keep p (x ∷ l)
      go (is_true a) e = rw (h x, a, e, s x a)
      go (is_false a) e = rw (h x, a, e)

  pub find_keep : (p q : A → Bool) (l : List A) → find q (keep p l) ≡ find (λ x. p x && q x) l
  unfolding keep find
  find_keep p q [] = refl
  find_keep p q (x ∷ l) = go (case (p x)) (find_keep p q l)
    where
      go : Case (p x) → find q (keep p l) ≡ find (λ x. p x && q x) l
          → find q (keep p (x ∷ l)) ≡ find (λ x. p x && q x) (x ∷ l)
      go (is_true a) e = rw (a, e)
      go (is_false a) e = rw (a, e)

  pub kept_none : (p : A → Bool) (l : List A) → keep p l ≡ [] → tally p l ≡ 0
  kept_none p l e =
      tally_same p (λ x. p x && p x) (λ x. by (p x)) l ∙ sym (tally_keep p p l) ∙ ap (tally p) e ∙ (unfold tally in refl)
    where
      by : (b : Bool) → b ≡ b && b
      by true = refl
      by false = refl

  -- ---- what holds of each

  pub each_keep : (P : A → Type 0) (p : A → Bool) (l : List A) → Each P l → Each P (keep p l)
  unfolding keep
  each_keep P p [] h = tt
  each_keep P p (x ∷ l) h = if_prop (Each P) (p x) (λ a. (h.0, each_keep P p l h.1)) (λ a. each_keep P p l h.1)

  -- what holds of those that pass the test
  pub each_sift : (P Q : A → Type 0) (p : A → Bool) → ((x : A) → p x ≡ true → P x → Q x) → (l : List A) → Each P l
      → Each Q (keep p l)
  unfolding keep
  each_sift P Q p h [] k = tt
  each_sift P Q p h (x ∷ l) k =
      if_prop (Each Q) (p x) (λ a. (h x a k.0, each_sift P Q p h l k.1)) (λ a. each_sift P Q p h l k.1)

  pub each_less : (P : A → Type 0) (p q : A → Bool) (l : List A) → Each P (keep p l) → Each P (keep p (keep q l))
  unfolding keep
  each_less P p q [] k = tt
  each_less P p q (x ∷ l) k = go (case (q x)) (case (p x)) (each_less P p q l)
    where
      go : Case (q x) → Case (p x) → (Each P (keep p l) → Each P (keep p (keep q l))) → Each P (keep p (keep q (x ∷ l)))
      go (is_true a) (is_true b) f = let h : P x × Each P (keep p l) = rw b at k in rw (a, b) (h.0, f h.1)
      go (is_true a) (is_false b) f = rw (a, b) (f (rw b at k))
      go (is_false a) (is_true b) f = let h : P x × Each P (keep p l) = rw b at k in rw a (f h.1)
      go (is_false a) (is_false b) f = rw a (f (rw b at k))

  pub each_weak : (P Q : A → Type 0) → ((x : A) → P x → Q x) → (l : List A) → Each P l → Each Q l
  each_weak P Q h [] k = tt
  each_weak P Q h (x ∷ l) k = (h x k.0, each_weak P Q h l k.1)

  pub each_end : (P : A → Type 0) (l : List A) (x : A) → Each P l → P x → Each P (l ++ x ∷ [])
  each_end P [] x k h = (h, tt)
  each_end P (y ∷ l) x k h = (k.0, each_end P l x k.1 h)

  pub each_found : (P : A → Type 0) (q : A → Bool) (l : List A) (x : A) → Each P l → find q l ≡ some x → P x
  unfolding find
  each_found P q [] x k e = absurd (none_some e)
  each_found P q (y ∷ l) x k e = go (case (q y)) (λ d. each_found P q l x k.1 d)
    where
      go : Case (q y) → (find q l ≡ some x → P x) → P x
      go (is_true a) r = subst P (some_eq (simp a at e)) k.0
      go (is_false a) r = r (simp a at e)

  pub found_is : (q : A → Bool) (l : List A) (x : A) → find q l ≡ some x → q x ≡ true
  unfolding find
  found_is q [] x e = absurd (none_some e)
  found_is q (y ∷ l) x e = go (case (q y)) (found_is q l x)
    where
      go : Case (q y) → (find q l ≡ some x → q x ≡ true) → q x ≡ true
      go (is_true a) r = subst (λ (z : A). q z ≡ true) (some_eq (simp a at e)) a
      go (is_false a) r = r (simp a at e)

  pub tally_none : (P : A → Type 0) (q : A → Bool) → ((x : A) → P x → q x ≡ false) → (l : List A) → Each P l
      → tally q l ≡ 0
  unfolding tally
  tally_none P q h [] k = refl
  tally_none P q h (x ∷ l) k = rw (h x k.0, tally_none P q h l k.1)

  pub none_each : (q : A → Bool) (l : List A) → tally q l ≡ 0 → Each (λ x. q x ≡ false) l
  unfolding tally
  none_each q [] e = tt
  none_each q (x ∷ l) e = (by (case (q x)), none_each q l (omega arith))
    where
      by : Case (q x) → q x ≡ false
      by (is_false a) = a
      by (is_true a) = absurd (omega (arith, e, ap one a))

  pub each_both : (P Q R : A → Type 0) → ((x : A) → P x → Q x → R x) → (l : List A) → Each P l → Each Q l → Each R l
  each_both P Q R h [] k m = tt
  each_both P Q R h (x ∷ l) k m = (h x k.0 m.0, each_both P Q R h l k.1 m.1)

  pub tally_never : (q : A → Bool) → ((x : A) → q x ≡ false) → (l : List A) → tally q l ≡ 0
  unfolding tally
  tally_never q h [] = refl
  tally_never q h (x ∷ l) = rw (h x, tally_never q h l)

module _ {A B : Type 0} where
  pub each_to : (P : A → Type 0) (Q : B → Type 0) (f : A → B) → ((x : A) → P x → Q (f x)) → (l : List A) → Each P l
      → Each Q (each f l)
  unfolding each
  each_to P Q f h [] k = tt
  each_to P Q f h (x ∷ l) k = (h x k.0, each_to P Q f h l k.1)

  pub keep_each : (p : B → Bool) (q : A → Bool) (f : A → B) → ((x : A) → p (f x) ≡ q x) → (l : List A)
      → keep p (each f l) ≡ each f (keep q l)
  unfolding keep each
  keep_each p q f h [] = refl
  keep_each p q f h (x ∷ l) = go (case (q x)) (keep_each p q f h l)
    where
      go : Case (q x) → keep p (each f l) ≡ each f (keep q l) → keep p (each f (x ∷ l)) ≡ each f (keep q (x ∷ l))
      go (is_true a) e = rw (h x, a, e)
      go (is_false a) e = rw (h x, a, e)

  pub tally_each : (p : B → Bool) (f : A → B) (l : List A) → tally p (each f l) ≡ tally (λ x. p (f x)) l
  unfolding tally each
  tally_each p f [] = refl
  tally_each p f (x ∷ l) = ap (λ (n : ℕ). one (p (f x)) + n) (tally_each p f l)

-- what holds of each of two lists
pub each_join : {A : Type 0} (P : A → Type 0) (l m : List A) → Each P l → Each P m → Each P (l ++ m)
each_join P [] m h k = k
each_join P (x ∷ l) m h k = (h.0, each_join P l m h.1 k)

pub each_split : {A : Type 0} (P : A → Type 0) (l m : List A) → Each P (l ++ m) → Each P l × Each P m
each_split P [] m h = (tt, h)
each_split P (x ∷ l) m h = let r = each_split P l m h.1 in ((h.0, r.0), r.1)

-- ---- sorted texts

insert_many : (t : Text) (l : List Text) → length (insert_t t l) ≤ length l + 1
unfolding insert_t
insert_many t [] = omega arith
insert_many t (y ∷ l) = by (eq_t t y) (lt_t t y) (insert_many t l)
  where
    by : (a b : Bool) → length (insert_t t l) ≤ length l + 1
        → length (if a then y ∷ l else if b then t ∷ y ∷ l else y ∷ insert_t t l) ≤ suc (length l) + 1
    by true b h = omega arith
    by false true h = omega arith
    by false false h = omega arith

pub sorted_many : (l : List Text) → length (sorted_t l) ≤ length l
unfolding sorted_t
sorted_many [] = omega arith
sorted_many (t ∷ l) = omega (arith, insert_many t (sorted_t l), sorted_many l)
