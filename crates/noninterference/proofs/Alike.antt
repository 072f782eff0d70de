-- Two accepted models that are alike, as Alike.antt of specs says it: they have one cone, and inside it the same
-- automations, cells and events. That is all that the engine's part of the proof asks of them (`inside_of_alike`,
-- `events_same`).
use mathlib.Core.Bool.{Bool}
use mathlib.Core.List.{List, []}
use mathlib.Core.Path.{◌≡◌, refl, sym, ap, ◌∙◌, subst}
use Rattle.texts.specs.Lists.{keep, each}
use Rattle.texts.specs.Texts.{Text, mem_t}
use Rattle.model_spec.specs.Model.{Entity, Input, reload, Event, Model}
use Rattle.engine_spec.specs.Cells.{initial_cells}
use Rattle.cone_spec.specs.Cone.{Cone, cone_of}
use Rattle.noninterference.specs.Alike.{
  Alike,
  entity_in,
  automation_in,
  input_in,
  event_in,
  cone_declarations,
  cone_automations,
  cone_events,
}
use Rattle.cone_engine.proofs.Base.{keep_each, keep_same, every_yes, Every}
use Rattle.cone_engine.proofs.View
use Rattle.cone_engine.proofs.Steps
use Rattle.cone_judge.proofs.Check.{Inside, cone_event}
use Rattle.engine_spec.proofs.Distinct.{Fresh}
use Rattle.cone_engine.proofs.Closure.{in_entities, in_automations, cone_good, cone_named, autos}

keep_ext : {A : Type 0} (p q : A → Bool) → ((x : A) → p x ≡ q x) → (l : List A) → keep p l ≡ keep q l
keep_ext p q h l = keep_same p q l (every_yes l) h

module _ (m m' : Model) (a : Alike m m') where
  same_cone : cone_of m ≡ cone_of m'
  unfolding cone_automations automation_in
  same_cone =
      let u : (cone_of m).automations ≡ (cone_of m').automations = autos m
      ∙ ap (each (λ r. r.id)) a.same_automations ∙ sym (autos m') in
      λ j. record { entities = a.same_entities j; automations = u j }

  abbrev in_e : Text → Bool
  in_e = in_entities m

  abbrev in_a : Text → Bool
  in_a = in_automations m

  rules_same : keep (View.cone_rule in_e in_a) m.rules ≡ keep (View.cone_rule in_e in_a) m'.rules
  unfolding cone_automations
  rules_same =
      keep_ext (View.cone_rule in_e in_a) (automation_in (cone_of m)) (λ r. unfold View.cone_rule automation_in in refl)
      m.rules
      ∙ a.same_automations
      ∙ ap (λ (c : Cone). keep (automation_in c) m'.rules) (sym same_cone)
      ∙ sym (keep_ext (View.cone_rule in_e in_a) (automation_in (cone_of m))
      (λ r. unfold View.cone_rule automation_in in refl) m'.rules)

  cells_of : (l : List Entity)
      → keep (View.cone_cell in_e in_a) (initial_cells l) ≡ initial_cells (keep (entity_in (cone_of m)) l)
  unfolding initial_cells View.cone_cell entity_in
  cells_of l = keep_each (λ e. record {
    name = e.name;
    stale_after = e.stale_after;
    value = e.initial;
    version =
        0;
  }) (View.cone_cell in_e in_a) (entity_in (cone_of m)) (λ e. refl) l

  cells_same : keep (View.cone_cell in_e in_a) (initial_cells m.scenario.entities) ≡ keep (View.cone_cell in_e in_a)
      (initial_cells m'.scenario.entities)
  unfolding cone_declarations
  cells_same =
      cells_of m.scenario.entities
      ∙ ap initial_cells (a.same_declarations
      ∙ ap (λ (c : Cone). keep (entity_in c) m'.scenario.entities) (sym same_cone))
      ∙ sym (cells_of m'.scenario.entities)

  event_same : (v : Event) → cone_event in_e in_a v ≡ event_in (cone_of m) v
  unfolding cone_event event_in
  event_same v = go v.input
    where
      go : (i : Input) → View.cone_input in_e in_a i ≡ input_in (cone_of m) i
      go (Input.set x w) = unfold View.cone_input input_in in refl
      go Input.restart = unfold View.cone_input input_in in refl
      go reload = unfold View.cone_input input_in in refl

  pub events_same : keep (cone_event in_e in_a) m.scenario.events ≡ keep (cone_event in_e in_a) m'.scenario.events
  unfolding cone_events
  events_same =
      keep_ext (cone_event in_e in_a) (event_in (cone_of m)) event_same m.scenario.events
      ∙ a.same_events
      ∙ ap (λ (c : Cone). keep (event_in c) m'.scenario.events) (sym same_cone)
      ∙ sym (keep_ext (cone_event in_e in_a) (event_in (cone_of m)) event_same m'.scenario.events)

  pub inside_of_alike : Fresh [] m.rules → Fresh [] m'.rules
      → Inside in_e in_a m m' (initial_cells m.scenario.entities) (initial_cells m'.scenario.entities)
  inside_of_alike f f' = record {
    good = cone_good m f;
    good' = subst (λ (c : Cone). Every (Steps.good_rule (λ x. mem_t x c.entities) (λ id. mem_t id c.automations))
        m'.rules) (sym same_cone) (cone_good m' f');
    same_rules = rules_same;
    same_cells = cells_same;
    same_horizon = a.same_horizon;
    same_start = a.same_start;
    same_invariants = a.same_invariants;
    named = cone_named m f;
  }
