-- Reasons sorted without doubles: how many there are, and that sorting them again changes nothing.
use Prim.Native.Nat.{ℕ, ◌+◌, ◌≤◌}
use mathlib.Core.Path.{◌≡◌, refl, sym, ap, ◌∙◌}
use mathlib.Core.Bool.{true, false}
use mathlib.Core.List.{List, [], ◌∷◌, ◌++◌, append-nil, append_assoc}
use native.Mathlib.Omega.{arith}
use lib.Dec.{eqb}
use lib.ListN.{length}
use borrow.Author.Tests.{ne_eqb}
use Rattle.texts.specs.Lists.{is_empty, any}
use Rattle.texts.specs.Texts.{Text, eq_t, mem_t, insert_t, sorted_t}
use Rattle.reasons.specs.Lists.{insert_all}
use Rattle.reasons.proofs.Ascending as ascending
use Rattle.reasons.proofs.Ascending.{
  here,
  there,
  Distinct,
  more,
  Rising,
  step,
  Ascending,
  empty,
  from,
  ascending_insert,
  ascending_distinct,
}
use Rattle.reasons.proofs.Listing as listing
use Rattle.reasons.proofs.Sorting.{in_front, alone, merged, either_way, anywhere}
use Rattle.engine_spec.proofs.Lists.{Case, is_true, is_false, case, eq_t_eq}
use Rattle.engine_refinement.specs.Events.{Among}
use Rattle.engine_refinement.proofs.Pigeonhole.{Differ, at_most}
use Rattle.checker_entry.proofs.Pool.{sorted_among}

mem_in : (x : Text) (l : List Text) → mem_t x l ≡ true → ascending.Among x l
unfolding mem_t any
mem_in x [] h = let z : ◌≡◌ {A = ℕ} 0 1 = cc in absurd (omega arith)
mem_in x (y ∷ l) h = by (case (eq_t x y)) (mem_in x l)
  where
    by : Case (eq_t x y) → (mem_t x l ≡ true → ascending.Among x l) → ascending.Among x (y ∷ l)
    by (is_true e) r = here (eq_t_eq x y e)
    by (is_false e) r = there (r (rw e at h))

differs : (l : List Text) → Distinct l → Differ l
differs [] d = tt
differs (x ∷ l) (more n d) = (by (case (mem_t x l)), differs l d)
  where
    by : Case (mem_t x l) → mem_t x l ≡ false
    by (is_true e) = absurd (n (mem_in x l e))
    by (is_false e) = e

sorted_ascends : (l : List Text) → Ascending (sorted_t l)
unfolding sorted_t
sorted_ascends [] = empty
sorted_ascends (t ∷ l) = ascending_insert t (sorted_ascends l)

-- no more than the pool has
pub sorted_few : (pool l : List Text) → Among pool l → length (sorted_t l) ≤ length pool
sorted_few pool l a = at_most (sorted_t l) pool (differs (sorted_t l) (ascending_distinct (sorted_ascends l)))
    (sorted_among pool l a)

rising_again : {x : Text} (l : List Text) → Rising x l → sorted_t l ≡ l
unfolding sorted_t
rising_again [] r = refl
rising_again (y ∷ l) (step p r) = ap (insert_t y) (rising_again l r) ∙ first l r
  where
    first : (l : List Text) → Rising y l → insert_t y l ≡ y ∷ l
    first [] r = alone y
    first (z ∷ l) (step p r) = in_front l p

ascending_again : (l : List Text) → Ascending l → sorted_t l ≡ l
unfolding sorted_t
ascending_again [] a = refl
ascending_again (y ∷ l) (from r) = ap (insert_t y) (rising_again l r) ∙ first l r
  where
    first : (l : List Text) → Rising y l → insert_t y l ≡ y ∷ l
    first [] r = alone y
    first (z ∷ l) (step p r) = in_front l p

pub sorted_again : (l : List Text) → sorted_t (sorted_t l) ≡ sorted_t l
sorted_again l = ascending_again (sorted_t l) (sorted_ascends l)

-- two lists inserted into a sorted one
pub sorted_both : (l a b : List Text) → insert_all b (insert_all a (sorted_t l)) ≡ sorted_t (l ++ a ++ b)
sorted_both l a b =
    ap (insert_all b) (merged a l)
    ∙ merged b (a ++ l)
    ∙ either_way b (a ++ l)
    ∙ sorted_swap
    ∙ ap sorted_t (sym (append_assoc l a b))
  where
    sorted_swap : sorted_t ((a ++ l) ++ b) ≡ sorted_t (l ++ (a ++ b))
    sorted_swap =
        sym (merged (a ++ l) b) ∙ by ∙ either_way (a ++ b) l
      where
        by : insert_all (a ++ l) (sorted_t b) ≡ sorted_t ((a ++ b) ++ l)
        by = merged (a ++ l) b ∙ either_way (a ++ l) b ∙ ap sorted_t (sym (append_assoc b a l)) ∙ front
          where
            front : sorted_t ((b ++ a) ++ l) ≡ sorted_t ((a ++ b) ++ l)
            front = either_way (b ++ a) l ∙ sym (merged l (b ++ a)) ∙ ap (insert_all l) (either_way b a)
                ∙ merged l (a ++ b) ∙ either_way l (a ++ b)

-- one text behind the others
pub sorted_one : (l : List Text) (t : Text) → insert_t t (sorted_t l) ≡ sorted_t (l ++ t ∷ [])
sorted_one l t = sym (anywhere t l [] ∙ ap (λ (k : List Text). insert_t t (sorted_t k)) (append-nil l))

-- none if there was none
pub sorted_none : (l : List Text) {n : ℕ} → n ≡ length (sorted_t l) → eqb n 0 ≡ is_empty l
unfolding is_empty sorted_t
sorted_none [] e = rw e
sorted_none (t ∷ l) {n} e = ne_eqb n 0 (λ z. absurd (omega (arith, z, e, some (sorted_t l))))
  where
    some : (k : List Text) → 1 ≤ length (insert_t t k)
    some [] = omega (arith, ap length (alone t))
    some (y ∷ k) = omega (arith, listing.length_insert t (y ∷ k))
