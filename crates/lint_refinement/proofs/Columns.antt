-- The names, the identifiers and the texts of an accepted file are the model's, and the texts ascend.
use mathlib.Core.Path.{◌≡◌, ap}
use mathlib.Core.List.{List, []}
use Prim.Native.Nat.{ℕ}
use native.Mathlib.Omega.{arith}
use Rattle.texts.specs.Lists.{each}
use Rattle.texts.specs.Texts.{Text}
use Rattle.model_spec.specs.Answer.{Answer, answer, refused}
use Rattle.model_spec.specs.Model.{Model}
use Rattle.model_spec.specs.File.{Got, got, broken}
use Rattle.model_spec.specs.Validate.{accepted}
use Rattle.model_order.proofs.Places.{same_place, texts_ascend}
use Rattle.model_index.specs.declared.Index.{Index}
use Rattle.model_index.specs.Indexed.{Indexed}
use Rattle.engine_spec.specs.Words.{texts_in}
use Rattle.lint_spec.specs.Words.{names_in, ids_in}
use Rattle.lint_access.proofs.Rising.{Rising, rising_ascending}
use Rattle.lint_refinement.specs.Context.{Bounds}
use Rattle.lint_refinement.proofs.Accepted.{accepted_lawful}
use Rattle.lint_refinement.proofs.Sets.{Once}

module _ (s : List ℕ) (m : Model) (acc : accepted s ≡ answer m) where
  pub names_are : names_in s ≡ each (λ e. e.name) m.scenario.entities
  unfolding names_in
  names_are = ap (λ (a : Answer Model). elim a
      [ answer m ↦ each (λ e. e.name) m.scenario.entities | refused n ↦ [] ]) acc

  pub ids_are : ids_in s ≡ each (λ r. r.id) m.rules
  unfolding ids_in
  ids_are = ap (λ (a : Answer Model). elim a [ answer m ↦ each (λ r. r.id) m.rules | refused n ↦ [] ]) acc

  -- the index's counts
  pub bounds : (i : Index) → Indexed s i m → Bounds i
  bounds i o =
      let l = accepted_lawful s m acc in
      record {
        entities = omega (arith, o.entities.counts, l.few_entities);
        invariants = omega (arith, o.invariants.counts, l.few_invariants);
        rules = omega (arith, o.rules.counts, l.few_rules);
      }

module _ (s : List ℕ) (i : Index) (m : Model) (o : Indexed s i m) where
  pub texts_are : texts_in s ≡ o.ts
  unfolding texts_in
  texts_are = ap (λ (g : Got (List Text)). elim g [ got ts q ↦ ts | broken ↦ [] ]) o.all_texts.1

  pub ascends : Rising o.ts
  ascends = rising_ascending o.ts (texts_ascend s o.all_texts.1)

  pub texts_once : Once o.ts
  unfolding Once
  texts_once = same_place o.ts (texts_ascend s o.all_texts.1)
