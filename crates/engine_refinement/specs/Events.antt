-- Texts among others, and an event that stands as four words, as the machine reads them.
use Rattle.std.specs.Prelude.{ℕ, ◌+◌, ◌*◌, ◌<◌, ◌≡◌, true, List, length, get_or}
use Rattle.texts.specs.Texts.{Text, mem_t}
use Rattle.model_spec.specs.Model.{Event, Model}
use Rattle.queue.specs.declared.Work.{Work as QWork}
use Rattle.queue.specs.declared.Work.TheVariants as queue
use Rattle.engine_spec.specs.Each.{Each}
use Rattle.engine_spec.specs.Records.{Work}
use Rattle.engine_fields.specs.Fields.{name}
use Rattle.engine_schedule.specs.Events.{event_m}
use Rattle.engine_refinement.specs.Meaning.{work_of}

-- each text stands in the pool
abbrev pub Among : List Text → List Text → Type 0
Among pool = Each (λ (t : Text). mem_t t pool ≡ true)

module _ (f x : List ℕ) (ts : List Text) (mo : Model) where
  -- the entity with this name is declared
  abbrev pub Declared : ℕ → Type 0
  Declared e = (j : ℕ) × ((j < length mo.scenario.entities) × (name x j ≡ e))

  -- work whose places are those of texts and automations
  abbrev pub GoodWork : QWork → Type 0
  GoodWork (queue.Set e v) = Declared e × ((e < length ts) × (v < length ts))
  GoodWork queue.Restart = Unit {0}
  GoodWork queue.Reload = Unit {0}
  GoodWork (queue.Changed e v u) = (e < length ts) × ((v < length ts) × (u < length ts))
  GoodWork (queue.Resume a n) = a < length mo.rules
  GoodWork (queue.Timeout a n) = a < length mo.rules
  GoodWork (queue.Stale e n) = e < length ts

  -- the event that stands at the i-th four words
  pub record EventAt (l : List ℕ) (i : ℕ) (v : Event) : Type 0 where
    pub second : get_or l (i * 4) 0 ≡ v.at
    pub work : work_of x ts (event_m (get_or l (i * 4 + 1) 0) (get_or l (i * 4 + 2) 0) (get_or l (i * 4 + 3) 0))
        ≡ Work.external v.input
    pub good : GoodWork (event_m (get_or l (i * 4 + 1) 0) (get_or l (i * 4 + 2) 0) (get_or l (i * 4 + 3) 0))
