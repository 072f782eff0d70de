-- The entities that the invariants of an accepted model name are declared.
use mathlib.Core.Path.{◌≡◌, ◌∙◌}
use mathlib.Core.Bool.{false}
use mathlib.Core.List.{List, [], ◌∷◌}
use Prim.Native.Nat.{ℕ}
use Rattle.texts.specs.Lists.{flat}
use Rattle.texts.specs.Texts.{Text, mem_t}
use Rattle.model_spec.specs.Answer.{answer, accept}
use Rattle.model_spec.specs.Model.{Entity, Predicate, Invariant, never, guard, transition, response, id_of, Model}
use Rattle.model_spec.specs.Validate.{check_stated, check_conditions, check_invariant, check_invariants, accepted}
use Rattle.engine_spec.proofs.Lists.{Each}
use Rattle.engine_spec.proofs.Validated.{and_first, and_inv, accepted_passed}
use Rattle.lint_spec.specs.Touches.{predicate_reads}
use Rattle.lint_access.proofs.Rising.{mem_cons, mem_append}
use Rattle.lint_conditions.specs.declared.Names.{Names}
use Rattle.model_parts.specs.declared.Section.{Section}
use Rattle.lint_refinement.proofs.Accepted.{each_verdict, Declared, FineP, value_fine, predicate_fine}
use Rattle.lint_refinement.proofs.FileFacts.{Stage}
use Rattle.lint_refinement.proofs.Rules.{es}
use Rattle.lint_refinement.proofs.Undeclared.{Strange, fine_not, one_not, predicate_not, flat_not}
use Rattle.cone_spec.specs.Cone.{names}

module _ (ds : List Entity) where
  abbrev pub FineI : Invariant → Type 0
  FineI (never i ps) = Each (FineP ds) ps
  FineI (guard i x v ps) = Each (FineP ds) ps × Declared ds x
  FineI (transition i x f t) = Declared ds x
  FineI (response i p q n) = FineP ds p × FineP ds q

  stated_fine : (p : Predicate) → check_stated ds p ≡ accept → FineP ds p
  unfolding check_stated
  stated_fine p e = predicate_fine ds p (and_inv _ _ tt e)

  conditions_fine : (ps : List _) → check_conditions ds ps ≡ accept → Each (FineP ds) ps
  unfolding check_conditions
  conditions_fine ps e = each_verdict (check_stated ds) (FineP ds) stated_fine ps (and_inv _ _ tt e)

  invariant_fine : (i : Invariant) → check_invariant ds i ≡ accept → FineI i
  unfolding check_invariant
  invariant_fine (never i ps) e = conditions_fine ps e
  invariant_fine (guard i x v ps) e = (conditions_fine ps (and_first _ _ tt e), value_fine ds x v (and_inv _ _ tt e))
  invariant_fine (transition i x f t) e = value_fine ds x f (and_first _ _ tt e)
  invariant_fine (response i p q n) e =
      (stated_fine p (and_first _ _ tt e), stated_fine q (and_first _ _ tt (and_inv _ _ tt e)))

  invariants_fine : (ids : List Text) (l : List Invariant) → check_invariants ds ids l ≡ accept → Each FineI l
  unfolding check_invariants
  invariants_fine ids [] e = tt
  invariants_fine ids (i ∷ l) e =
      let f = and_inv _ _ tt e in
      (invariant_fine i (and_first _ _ tt f), invariants_fine (id_of i ∷ ids) l (and_inv _ _ tt f))

pub accepted_invariants : (file : List ℕ) (m : Model) → accepted file ≡ answer m
    → Each (FineI m.scenario.entities) m.scenario.invariants
accepted_invariants file m e =
    invariants_fine m.scenario.entities [] m.scenario.invariants (accepted_passed file m e).invariants

-- so no undeclared name is among those that invariants name
module _ {s : List ℕ} {d : Names} {rs : Section} {ts : List Text} {m : Model} (st : Stage s d rs ts m) (x : Text)
    (h : Strange st x) where
  invariant_not : (i : Invariant) → FineI (es st) i → mem_t x (names i) ≡ false
  unfolding names
  invariant_not (never i ps) f = flat_not st x predicate_reads (FineP (es st)) (predicate_not st x h) ps f
  invariant_not (guard i y v ps) f =
      mem_cons x y (flat predicate_reads ps)
      ∙ rw (fine_not st x y h f.1) (flat_not st x predicate_reads (FineP (es st)) (predicate_not st x h) ps f.0)
  invariant_not (transition i y u t) f = one_not st x y h f
  invariant_not (response i p q n) f =
      mem_append x (predicate_reads p) (predicate_reads q)
      ∙ rw (predicate_not st x h p f.0) (predicate_not st x h q f.1)

  pub start_not : (l : List Invariant) → Each (FineI (es st)) l → mem_t x (flat names l) ≡ false
  start_not l f = flat_not st x names (FineI (es st)) invariant_not l f
