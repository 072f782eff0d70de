-- What a check returns is what the readings of its invariants give: its violations are theirs, and each invariant's own
-- unknown reasons are among those that it lists.
use mathlib.Core.Bool.{Bool, true}
use mathlib.Core.List.{List, [], ◌∷◌, ◌++◌}
use mathlib.Core.Path.{◌≡◌, refl, sym, ◌∙◌, subst}
use Rattle.texts.specs.Lists.{any, all, flat}
use Rattle.texts.specs.Texts.{Text, eq_t, mem_t, sorted_t}
use Rattle.model_spec.specs.Answer.{answer}
use Rattle.model_spec.specs.Model.{Event, Model}
use Rattle.engine_spec.specs.Cells.{initial_cells}
use Rattle.engine_spec.specs.Records.{Areas}
use Rattle.engine_spec.specs.Simulate.{Simulation}
use Rattle.checker_spec.specs.Judge.{unknown_reasons}
use Rattle.checker_spec.specs.Check.{Check, judged, checked}
use Rattle.noninterference.specs.Demand.{reading_for, OfReadings}
use Rattle.cone_engine.proofs.Base.{and_i, or_l, or_r, any_append, any_sorted}
use Rattle.cone_judge.proofs.Check.{simulation_of, checked_is}
use Rattle.cone_engine.proofs.Closure.{mem_append, all_mem}

module _ {A : Type 0} (f : A → List Text) (us : List Text) where
  -- what one element gives is in the whole list
  in_whole : (x : Text) (l m : List Text) → mem_t x m ≡ true → mem_t x (sorted_t (l ++ m)) ≡ true
  unfolding mem_t
  in_whole x l m h = any_sorted (eq_t x) (l ++ m) ∙ any_append (eq_t x) l m ∙ or_r (any (eq_t x) l) (any (eq_t x) m) h

  each_in : (l : List A) (p : Text → Bool) → ((x : Text) → mem_t x (flat f l) ≡ true → p x ≡ true)
      → all (λ i. all p (f i)) l ≡ true
  unfolding all flat
  each_in [] p h = refl
  each_in (i ∷ l) p h =
      and_i (all p (f i)) (all (λ j. all p (f j)) l)
      (all_mem (f i) p (λ x q. h x (mem_append x (f i) (flat f l) ∙ or_l (mem_t x (f i)) (mem_t x (flat f l)) q)))
      (each_in l p (λ x q. h x (mem_append x (f i) (flat f l) ∙ or_r (mem_t x (f i)) (mem_t x (flat f l)) q)))

  all_in : (l : List A) → all (λ i. all (λ t. mem_t t (sorted_t (us ++ flat f l))) (f i)) l ≡ true
  all_in l = each_in l (λ t. mem_t t (sorted_t (us ++ flat f l))) (λ x h. in_whole x us (flat f l) h)

of_judged : (m : Model) (sim : Simulation)
    → OfReadings m (judged m.scenario.invariants (initial_cells m.scenario.entities) sim)
unfolding judged reading_for
of_judged m sim = record {
  violations = refl;
  unknown = all_in (λ i. unknown_reasons i (reading_for m sim i).memory) sim.unknown m.scenario.invariants;
}

pub of_checked : (areas : Areas) (m : Model) (events : List Event) (c : Check)
    → checked areas m (initial_cells m.scenario.entities) events ≡ answer c → OfReadings m c
of_checked areas m events c e =
    subst (OfReadings m) (sym (checked_is areas m (initial_cells m.scenario.entities) events c e))
    (of_judged m (simulation_of areas m (initial_cells m.scenario.entities) events))
