-- An accepted invariant has no window: its predicates have the same truth at every moment.
use Prim.Native.Nat.{ℕ}
use mathlib.Core.Path.{◌≡◌, refl}
use mathlib.Core.Bool.{true, ◌||◌}
use mathlib.Core.List.{List, [], ◌∷◌}
use lib.Dec.{ltb}
use lib.ListN.{length}
use Rattle.texts.proofs.Bool.{and_both}
use Rattle.texts.specs.Lists.{is_empty, all}
use Rattle.texts.specs.Texts.{Text, mem_t}
use Rattle.model_spec.specs.Answer.{answer, accept, ◌and◌, ◌when◌, each_accepted}
use Rattle.model_spec.specs.Model.{
  Entity,
  Predicate,
  state,
  window,
  Invariant,
  never,
  guard,
  transition,
  response,
  id_of,
  Model,
  is_window,
}
use Rattle.model_spec.specs.Windows.{no_window, windowless_invariant}
use Rattle.model_spec.specs.Validate.{
  bad_length,
  check_stated,
  check_conditions,
  check_invariant,
  check_invariants,
  accepted,
}
use Rattle.engine_spec.proofs.Validated.{refused_answer, and_first, and_inv, accepted_passed}

module _ (declared : List Entity) where
  no_window_of : (p : Predicate) → check_stated declared p ≡ accept → no_window p ≡ true
  unfolding check_stated no_window is_window ◌and◌ ◌when◌
  no_window_of (state x v) e = refl
  no_window_of (Predicate.unknown r) e = refl
  no_window_of (window d b f) e = absurd (refused_answer e)

  no_windows_of : (ps : List Predicate) → each_accepted (check_stated declared) ps ≡ accept → all no_window ps ≡ true
  unfolding each_accepted all
  no_windows_of [] e = refl
  no_windows_of (p ∷ ps) e =
      and_both (no_window p) (all no_window ps) (no_window_of p (and_first _ _ tt e)) (no_windows_of ps (and_inv _ _ tt e))

  windowless_of : (i : Invariant) → check_invariant declared i ≡ accept → windowless_invariant i ≡ true
  unfolding check_invariant check_conditions windowless_invariant
  windowless_of (never i ps) e = no_windows_of ps (and_inv (11 when (is_empty ps || ltb 32 (length ps))) _ tt e)
  windowless_of (guard i x v ps) e =
      no_windows_of ps (and_inv (11 when (is_empty ps || ltb 32 (length ps))) _ tt
      (and_first (11 when (is_empty ps || ltb 32 (length ps)) and each_accepted (check_stated declared) ps) _ tt e))
  windowless_of (transition i x f t) e = refl
  windowless_of (response i p q n) e =
      and_both (no_window p) (no_window q) (no_window_of p (and_first (check_stated declared p) _ tt e))
      (no_window_of q (and_first (check_stated declared q) _ tt (and_inv (check_stated declared p) _ tt e)))

  all_windowless : (ids : List Text) (is : List Invariant) → check_invariants declared ids is ≡ accept
      → all windowless_invariant is ≡ true
  unfolding check_invariants all
  all_windowless ids [] e = refl
  all_windowless ids (i ∷ is) e =
      let f = and_inv (10 when (bad_length (id_of i) || mem_t (id_of i) ids)) _ tt e in
      and_both (windowless_invariant i) (all windowless_invariant is)
      (windowless_of i (and_first (check_invariant declared i) _ tt f))
      (all_windowless (id_of i ∷ ids) is (and_inv (check_invariant declared i) _ tt f))

pub accepted_stated : (file : List ℕ) (m : Model) → accepted file ≡ answer m
    → all windowless_invariant m.scenario.invariants ≡ true
accepted_stated file m e =
    all_windowless m.scenario.entities [] m.scenario.invariants (accepted_passed file m e).invariants
