-- Texts added one by one while there is place: with at most 300 of them, their sorted list.
use mathlib.Core.Path.{◌≡◌, refl, sym, ap, ◌∙◌}
use mathlib.Core.List.{List, [], ◌∷◌, ◌++◌}
use Prim.Native.Nat.{◌+◌, ◌≤◌}
use native.Mathlib.Omega.{arith}
use lib.ListN.{length, length-append}
use borrow.Author.Tests.{le-ltb}
use Rattle.layout.specs.Sizes.{last_simulation_reason, simulation_reasons}
use Rattle.engine_spec.proofs.Bounds.{length_each}
use Rattle.texts.specs.Lists.{each, flat}
use Rattle.texts.specs.Texts.{Text, text, insert_t, sorted_t}
use Rattle.model_spec.specs.Model.{
  Effect,
  toggle,
  delay,
  condition,
  choose,
  wait,
  Source,
  Actions,
  done,
  act,
  Branches,
  no_branch,
  branch,
  Automation,
}
use Rattle.model_spec.specs.Notes.{of_predicate, of_trigger, of_effect, of_actions, of_branches, of_rule}
use Rattle.engine_spec.specs.Unsupported.{effect_reasons, action_reasons, branch_reasons, rule_reasons}
use Rattle.reasons.specs.Lists.{insert_all}
use Rattle.reasons.proofs.Listing.{one_more}
use Rattle.reasons.proofs.Sorting.{one_by_one}
use Rattle.engine_notes.specs.Listing.{insert_m}
use Rattle.engine_notes.proofs.Adding.{add_all}

with_place : (t : Text) (l : List Text) → length l ≤ last_simulation_reason → insert_m t l ≡ insert_t t l
unfolding insert_m
with_place t l h = rw (le-ltb last_simulation_reason (length l) h)

add_insert : (ts l : List Text) → length ts + length l ≤ simulation_reasons → add_all ts l ≡ insert_all ts l
unfolding add_all insert_all
add_insert [] l h = refl
add_insert (t ∷ ts) l h =
    ap (add_all ts) (with_place t l (omega arith))
    ∙ add_insert ts (insert_t t l) (omega (arith, one_more t l))

pub add_sorted : (ts : List Text) → length ts ≤ simulation_reasons → add_all ts [] ≡ sorted_t ts
add_sorted ts h = add_insert ts [] (omega arith) ∙ one_by_one ts

-- ---- lists

pub each_same : {A : Type 0} (l : List A) → each (λ a. a) l ≡ l
unfolding each
each_same [] = refl
each_same (a ∷ l) = ap (λ (z : List _). a ∷ z) (each_same l)

-- ---- there are as many reasons as notes

both : (a b c d : List Text) → length a ≡ length c → length b ≡ length d → length (a ++ b) ≡ length (c ++ d)
both a b c d p q = length-append a b ∙ omega (arith, p, q) ∙ sym (length-append c d)

mutual
  unfolding effect_reasons of_effect

  many_effect : (e : Effect) (s : Source) → length (effect_reasons e s) ≡ length (of_effect e)
  many_effect (Effect.set x v) s = refl
  many_effect (toggle x) s = refl
  many_effect (delay n) s = refl
  many_effect (condition p) s = refl
  many_effect (choose bs d) s =
      both (branch_reasons bs) (action_reasons d) (of_branches bs) (of_actions d) (many_branches bs) (many_actions d)
  many_effect (wait t n c) s = refl
  many_effect (Effect.unknown r) s = refl

  many_actions : (a : Actions) → length (action_reasons a) ≡ length (of_actions a)
  many_actions done = refl
  many_actions (act s e rest) =
      both (effect_reasons e s) (action_reasons rest) (of_effect e) (of_actions rest) (many_effect e s) (many_actions rest)

  many_branches : (b : Branches) → length (branch_reasons b) ≡ length (of_branches b)
  many_branches no_branch = refl
  many_branches (branch ps a bs) =
      both (flat of_predicate ps ++ action_reasons a) (branch_reasons bs) (flat of_predicate ps ++ of_actions a)
      (of_branches bs)
      (both (flat of_predicate ps) (action_reasons a) (flat of_predicate ps) (of_actions a) refl (many_actions a))
      (many_branches bs)

many_rule : (r : Automation) → length (rule_reasons r) ≡ length (of_rule r)
unfolding rule_reasons of_rule
many_rule r =
    let g : Text → Text = λ u. r.id ++ text ": " ++ u in
    let t = flat of_trigger r.triggers in
    let c = flat of_predicate r.conditions in
    let a = action_reasons r.actions in
    let b = of_actions r.actions in
    length-append (each g (r.notes ++ t ++ c)) a
    ∙ omega (arith, length_each g (r.notes ++ t ++ c), many_actions r.actions, length-append (r.notes ++ t ++ c) b)

pub many_rules : (rs : List Automation) → length (flat rule_reasons rs) ≡ length (flat of_rule rs)
unfolding flat
many_rules [] = refl
many_rules (r ∷ rs) =
    both (rule_reasons r) (flat rule_reasons rs) (of_rule r) (flat of_rule rs) (many_rule r) (many_rules rs)
