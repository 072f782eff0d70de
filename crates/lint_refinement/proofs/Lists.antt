-- Lists: those that pass a test, ascending lists, and texts by their places.
use Rattle.std.specs.Prelude.{if◌then◌else◌}
use mathlib.Core.Path.{◌≡◌, refl, sym, ap, ◌∙◌}
use mathlib.Core.Bool.{Bool, true, false, ◌||◌, ◌&&◌}
use mathlib.Core.List.{List, [], ◌∷◌, ◌++◌, append_assoc}
use mathlib.Core.Logic.{◌⊎◌, inl, inr}
use Prim.Native.Nat.{ℕ, zero, suc, ◌+◌, ◌≤◌, ◌<◌}
use native.Mathlib.Omega.{arith}
use lib.ListN.{length, get_or, length-append}
use Rattle.texts.specs.Lists.{is_empty, keep, each, flat}
use Rattle.texts.specs.Texts.{Text, eq_t, mem_t, sorted_t}
use Rattle.texts.proofs.Ordering.{not_both, eq_is, eq_refl, eq_sym}
use Rattle.model_walk.proofs.Found.{Case, is_true, is_false, case}
use Rattle.lint_access.proofs.Rising.{
  Above,
  over_none,
  over_one,
  Rising,
  rise_none,
  rise,
  mem_cons,
  mem_none,
  rising_sorted,
  mem_sorted,
  unique,
}

-- ---- lists

pub flat_append : {A B : Type 0} (f : A → List B) (l m : List A) → flat f (l ++ m) ≡ flat f l ++ flat f m
unfolding flat
flat_append f [] m = refl
flat_append f (x ∷ l) m = rw (flat_append f l m) (sym (append_assoc (f x) (flat f l) (flat f m)))

pub flat_flat : {A B C : Type 0} (f : B → List C) (g : A → List B) (l : List A) →
    flat f (flat g l) ≡ flat (λ a. flat f (g a)) l
unfolding flat
flat_flat f g [] = refl
flat_flat f g (x ∷ l) = flat_append f (g x) (flat g l) ∙ ap (λ (y : List _). flat f (g x) ++ y) (flat_flat f g l)

pub each_keep : {A B : Type 0} (f : A → B) (p : A → Bool) (l : List A) →
    each f (keep p l) ≡ flat (λ a. if p a then f a ∷ [] else []) l
unfolding each keep flat
each_keep f p [] = refl
each_keep f p (x ∷ l) = cases (p x) (each_keep f p l)
  where
    cases : (b : Bool) → each f (keep p l) ≡ flat (λ a. if p a then f a ∷ [] else []) l →
        each f (if b then x ∷ keep p l else keep p l) ≡ (if b then f x ∷ [] else []) ++ flat
        (λ a. if p a then f a ∷ [] else []) l
    cases true ih = ap (λ (y : List _). f x ∷ y) ih
    cases false ih = ih

pub flat_keep : {A B : Type 0} (f : A → List B) (p : A → Bool) → ((a : A) → p a ≡ false → f a ≡ []) → (l : List A) →
    flat f l ≡ flat f (keep p l)
unfolding keep flat
flat_keep f p h [] = refl
flat_keep f p h (x ∷ l) = cases (p x) refl (flat_keep f p h l)
  where
    cases : (b : Bool) → p x ≡ b → flat f l ≡ flat f (keep p l) →
        f x ++ flat f l ≡ flat f (if b then x ∷ keep p l else keep p l)
    cases true e ih = ap (λ (y : List _). f x ++ y) ih
    cases false e ih = ap (λ (y : List _). y ++ flat f l) (h x e) ∙ ih

pub each_empty : {A B : Type 0} (f : A → B) (l : List A) → is_empty (each f l) ≡ is_empty l
unfolding each is_empty
each_empty f [] = refl
each_empty f (x ∷ l) = refl

pub either : (a b : Bool) → (a || b) ≡ true → (a ≡ true) ⊎ (b ≡ true)
either true b h = inl refl
either false b h = inr h

-- ---- ascending lists

-- those of an ascending list that pass a test ascend
pub above_keep : (p : Text → Bool) {t : Text} {l : List Text} → Above t l → Above t (keep p l)
unfolding keep
above_keep p over_none = over_none
above_keep p {t} (over_one {u = x} {l} b a) = cases (p x) (above_keep p a)
  where
    cases : (c : Bool) → Above t (keep p l) → Above t (if c then x ∷ keep p l else keep p l)
    cases true ih = over_one b ih
    cases false ih = ih

pub rising_keep : (p : Text → Bool) {l : List Text} → Rising l → Rising (keep p l)
unfolding keep
rising_keep p rise_none = rise_none
rising_keep p (rise {t = x} {l} a r) = cases (p x) (rising_keep p r)
  where
    cases : (c : Bool) → Rising (keep p l) → Rising (if c then x ∷ keep p l else keep p l)
    cases true ih = rise (above_keep p a) ih
    cases false ih = ih

pub sorted_rising : (l : List Text) → Rising l → sorted_t l ≡ l
sorted_rising l r = unique (sorted_t l) l (rising_sorted l) r (λ t. mem_sorted t l)

pub mem_keep : (p : Text → Bool) (t : Text) (l : List Text) → mem_t t (keep p l) ≡ (p t && mem_t t l)
unfolding keep
mem_keep p t [] = mem_none t ∙ no (p t) ∙ ap (λ (b : Bool). p t && b) (sym (mem_none t))
  where
    no : (b : Bool) → false ≡ (b && false)
    no true = refl
    no false = refl
mem_keep p t (x ∷ l) = cases (p x) refl (mem_keep p t l)
  where
    same : eq_t t x ≡ true → p t ≡ p x
    same h = ap p (eq_is t x h)

    yes : (a b c : Bool) → (a ≡ true → c ≡ true) → (a || (c && b)) ≡ (c && (a || b))
    yes true b c h = let z = h refl in rw z
    yes false b c h = refl

    nope : (a b c : Bool) → (a ≡ true → c ≡ false) → (c && b) ≡ (c && (a || b))
    nope true b c h = let z = h refl in rw z
    nope false b c h = refl

    cases : (q : Bool) → p x ≡ q → mem_t t (keep p l) ≡ (p t && mem_t t l) →
        mem_t t (if q then x ∷ keep p l else keep p l) ≡ (p t && mem_t t (x ∷ l))
    cases true e ih =
        mem_cons t x (keep p l) ∙ ap (λ (b : Bool). eq_t t x || b) ih ∙ yes (eq_t t x) (mem_t t l) (p t) (λ h. same h ∙ e)
        ∙ ap (λ (b : Bool). p t && b) (sym (mem_cons t x l))
    cases false e ih = ih ∙ nope (eq_t t x) (mem_t t l) (p t) (λ h. same h ∙ e)
        ∙ ap (λ (b : Bool). p t && b) (sym (mem_cons t x l))

pub mem_at : (l : List Text) (j : ℕ) → j < length l → mem_t (get_or l j []) l ≡ true
mem_at [] j h = absurd (omega arith)
mem_at (x ∷ l) zero h = mem_cons x x l ∙ rw (eq_refl x)
mem_at (x ∷ l) (suc j) h = mem_cons (get_or l j []) x l
    ∙ ap (λ (b : Bool). eq_t (get_or l j []) x || b) (mem_at l j (omega arith)) ∙ or_yes (eq_t (get_or l j []) x)
  where
    or_yes : (b : Bool) → (b || true) ≡ true
    or_yes true = refl
    or_yes false = refl

pub not_at : (l : List Text) (t : Text) → mem_t t l ≡ false → (j : ℕ) → j < length l → eq_t (get_or l j []) t ≡ false
not_at [] t h j k = absurd (omega arith)
not_at (x ∷ l) t h j k = go (case (eq_t t x)) j k (λ h j k. not_at l t h j k)
  where
    go : Case (eq_t t x) → (j : ℕ) → j < suc (length l) →
        (mem_t t l ≡ false → (j : ℕ) → j < length l → eq_t (get_or l j []) t ≡ false) → eq_t (get_or (x ∷ l) j []) t ≡ false
    go (is_true e) j k ih = absurd (not_both h (mem_cons t x l ∙ rw e))
    go (is_false e) zero k ih = eq_sym x t ∙ e
    go (is_false e) (suc j) k ih = ih (sym (mem_cons t x l ∙ rw e) ∙ h) j (omega arith)

pub found_at : (l : List Text) (t : Text) → mem_t t l ≡ true → (j : ℕ) × ((j < length l) × (get_or l j [] ≡ t))
found_at [] t h = absurd (not_both (mem_none t) h)
found_at (x ∷ l) t h = cases (case (eq_t t x)) (λ k. found_at l t k)
  where
    cases : Case (eq_t t x) → (mem_t t l ≡ true → (j : ℕ) × ((j < length l) × (get_or l j [] ≡ t))) →
        (j : ℕ) × ((j < suc (length l)) × (get_or (x ∷ l) j [] ≡ t))
    cases (is_true e) ih = (0, (omega arith, sym (eq_is t x e)))
    cases (is_false e) ih = let r = ih (sym (mem_cons t x l ∙ rw e) ∙ h) in let b = r.1.0 in
        (suc r.0, (omega arith, r.1.1))

-- one list is no longer than all of them
pub flat_longer : {A B : Type 0} (f : A → List B) (d : A) (l : List A) (j : ℕ) → j < length l →
    length (f (get_or l j d)) ≤ length (flat f l)
unfolding flat
flat_longer f d [] j h = absurd (omega arith)
flat_longer f d (x ∷ l) zero h = omega (arith, length-append (f x) (flat f l))
flat_longer f d (x ∷ l) (suc j) h = omega (arith, flat_longer f d l j (omega arith), length-append (f x) (flat f l))
