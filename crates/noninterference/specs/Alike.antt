-- Two models that are alike in invariants, horizon, start and cone.
use Rattle.std.specs.Prelude.{◌≡◌, Bool, true, List}
use Rattle.texts.specs.Lists.{keep, all}
use Rattle.texts.specs.Texts.{mem_t}
use Rattle.model_spec.specs.Model.{Entity, Automation, Input, reload, Event, Model}
use Rattle.cone_spec.specs.Cone.{Cone, cone_of}

module _ (c : Cone) where
  unfoldable pub entity_in : Entity → Bool
  entity_in e = mem_t e.name c.entities

  unfoldable pub automation_in : Automation → Bool
  automation_in r = mem_t r.id c.automations

  -- a restart and a reload name no entity outside
  unfoldable pub input_in : Input → Bool
  input_in (Input.set x v) = mem_t x c.entities
  input_in Input.restart = true
  input_in reload = true

  unfoldable pub event_in : Event → Bool
  event_in e = input_in e.input

-- what a model holds inside its cone

unfoldable pub cone_declarations : Model → List Entity
cone_declarations m = keep (entity_in (cone_of m)) m.scenario.entities

unfoldable pub cone_automations : Model → List Automation
cone_automations m = keep (automation_in (cone_of m)) m.rules

unfoldable pub cone_events : Model → List Event
cone_events m = keep (event_in (cone_of m)) m.scenario.events

-- inside the cone declarations, automations and events agree in order; all else may differ
pub record Alike (m m' : Model) : Type 0 where
  pub same_invariants : m.scenario.invariants ≡ m'.scenario.invariants
  pub same_horizon : m.scenario.limits.horizon ≡ m'.scenario.limits.horizon
  pub same_start : m.start ≡ m'.start
  pub same_entities : (cone_of m).entities ≡ (cone_of m').entities
  pub same_declarations : cone_declarations m ≡ cone_declarations m'
  pub same_automations : cone_automations m ≡ cone_automations m'
  pub same_events : cone_events m ≡ cone_events m'

-- two searches with the same settings, over inputs that set only entities of the cone
pub record SameSearch (m m' : Model) : Type 0 where
  pub same_depth : m.scenario.limits.search_depth ≡ m'.scenario.limits.search_depth
  pub same_cases : m.scenario.limits.max_cases ≡ m'.scenario.limits.max_cases
  pub same_alphabet : m.scenario.alphabet ≡ m'.scenario.alphabet
  pub same_gaps : m.scenario.gaps ≡ m'.scenario.gaps
  pub inputs_in : all (input_in (cone_of m)) m.scenario.alphabet ≡ true

-- opens the file, for proofs by computation
unfoldable pub all_alike : Unit {0}
unfolding entity_in automation_in input_in event_in cone_declarations cone_automations cone_events
all_alike = tt
