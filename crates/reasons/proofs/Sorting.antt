-- Inserting in any order gives the same list: what was inserted one by one is what `sorted_t` gives.
use mathlib.Core.Path.{◌≡◌, refl, sym, ap, ◌∙◌}
use mathlib.Core.List.{List, [], ◌∷◌, ◌++◌, append-nil}
use Rattle.texts.specs.Texts.{Text, insert_t, sorted_t}
use Rattle.texts.proofs.Ordering.{Before, Three, lt, eq, gt, three, trans, lt_yes, lt_no, eq_no, no_eq, eq_refl}
use Rattle.reasons.specs.Lists.{insert_all}

-- ---- inserting before, at and behind a text

pub in_front : {t x : Text} (l : List Text) → Before t x → insert_t t (x ∷ l) ≡ t ∷ x ∷ l
unfolding insert_t
in_front {t} {x} l p = rw (eq_no p, lt_yes p)

pub already : (x : Text) (l : List Text) → insert_t x (x ∷ l) ≡ x ∷ l
unfolding insert_t
already x l = rw (eq_refl x)

pub further : {t x : Text} (l : List Text) → Before x t → insert_t t (x ∷ l) ≡ x ∷ insert_t t l
unfolding insert_t
further {t} {x} l p = rw (no_eq p, lt_no p)

pub alone : (t : Text) → insert_t t [] ≡ t ∷ []
unfolding insert_t
alone t = refl

-- ---- two texts, in either order

abbrev Swap : Text → Text → List Text → Type 0
Swap t u l = insert_t t (insert_t u l) ≡ insert_t u (insert_t t l)

equal : {t u : Text} (l : List Text) → t ≡ u → Swap t u l
equal {t} {u} l e = rw e

both_empty : {t u : Text} → Before t u → Swap t u []
both_empty {t} {u} p = ap (insert_t t) (alone u) ∙ in_front [] p
    ∙ sym (ap (insert_t u) (alone t) ∙ further [] p ∙ ap (λ (m : List Text). t ∷ m) (alone u))

module _ {t u x : Text} (l : List Text) where
  both_front : Before t u → Before u x → Swap t u (x ∷ l)
  both_front p q =
      ap (insert_t t) (in_front l q)
      ∙ in_front (x ∷ l) p
      ∙ sym (ap (insert_t u) (in_front l (trans p q)) ∙ further (x ∷ l) p ∙ ap (λ (m : List Text). t ∷ m) (in_front l q))

  front_behind : Before t x → Before x u → Swap t u (x ∷ l)
  front_behind p q =
      ap (insert_t t) (further l q)
      ∙ in_front (insert_t u l) p
      ∙ sym (ap (insert_t u) (in_front l p) ∙ further (x ∷ l) (trans p q) ∙ ap (λ (m : List Text). t ∷ m) (further l q))

  both_behind : Before x t → Before x u → Swap t u l → Swap t u (x ∷ l)
  both_behind p q s =
      ap (insert_t t) (further l q)
      ∙ further (insert_t u l) p
      ∙ ap (λ (m : List Text). x ∷ m) s
      ∙ sym (ap (insert_t u) (further l p) ∙ further (insert_t t l) q)

module _ {t x : Text} (l : List Text) where
  front_at : Before t x → Swap t x (x ∷ l)
  front_at p = ap (insert_t t) (already x l) ∙ in_front l p
      ∙ sym (ap (insert_t x) (in_front l p) ∙ further (x ∷ l) p ∙ ap (λ (m : List Text). t ∷ m) (already x l))

  behind_at : Before x t → Swap t x (x ∷ l)
  behind_at p = ap (insert_t t) (already x l) ∙ further l p ∙ sym (ap (insert_t x) (further l p) ∙ already x (insert_t t l))

pub swap : (t u : Text) (l : List Text) → Swap t u l
swap t u [] = go (three t u)
  where
    go : Three t u → Swap t u []
    go (lt p) = both_empty p
    go (eq e) = equal [] e
    go (gt p) = sym (both_empty p)
swap t u (x ∷ l) = go (three t x) (three u x) (three t u) (swap t u l)
  where
    go : Three t x → Three u x → Three t u → Swap t u l → Swap t u (x ∷ l)
    go (lt p) (lt q) (lt r) s = both_front l r q
    go (lt p) (lt q) (eq e) s = equal (x ∷ l) e
    go (lt p) (lt q) (gt r) s = sym (both_front l r p)
    go (lt p) (eq e) r s = rw e (front_at l p)
    go (lt p) (gt q) r s = front_behind l p q
    go (eq e) (lt q) r s = rw e (sym (front_at l q))
    go (eq e) (eq g) r s = equal (x ∷ l) (e ∙ sym g)
    go (eq e) (gt q) r s = rw e (sym (behind_at l q))
    go (gt p) (lt q) r s = sym (front_behind l q p)
    go (gt p) (eq e) r s = rw e (behind_at l p)
    go (gt p) (gt q) r s = both_behind l p q s

-- ---- a text first or last, and whole lists

pub first_or_last : (t : Text) (ts l : List Text) → insert_all ts (insert_t t l) ≡ insert_t t (insert_all ts l)
unfolding insert_all
first_or_last t [] l = refl
first_or_last t (u ∷ ts) l = ap (insert_all ts) (swap u t l) ∙ first_or_last t ts (insert_t u l)

-- a list inserted into a sorted one: both sorted together
pub merged : (ts l : List Text) → insert_all ts (sorted_t l) ≡ sorted_t (ts ++ l)
unfolding insert_all sorted_t
merged [] l = refl
merged (t ∷ ts) l = first_or_last t ts (sorted_t l) ∙ ap (insert_t t) (merged ts l)

-- a list inserted one by one: it sorted
pub one_by_one : (ts : List Text) → insert_all ts [] ≡ sorted_t ts
unfolding sorted_t
one_by_one ts = merged ts [] ∙ ap sorted_t (append-nil ts)

-- a text anywhere in a list
pub anywhere : (t : Text) (l ts : List Text) → sorted_t (l ++ (t ∷ ts)) ≡ insert_t t (sorted_t (l ++ ts))
unfolding sorted_t
anywhere t [] ts = refl
anywhere t (x ∷ l) ts = ap (insert_t x) (anywhere t l ts) ∙ swap x t (sorted_t (l ++ ts))

-- the order of two lists does not matter
pub either_way : (ts l : List Text) → sorted_t (ts ++ l) ≡ sorted_t (l ++ ts)
unfolding sorted_t
either_way [] l = ap sorted_t (sym (append-nil l))
either_way (t ∷ ts) l = ap (insert_t t) (either_way ts l) ∙ sym (anywhere t l ts)
