-- What the entries answer, by the definitions of crate `engine_spec`: each number of the answer, and each word of the lent
-- areas.
use Rattle.std.specs.Prelude.{ℕ, ◌-◌, ◌≤◌, ◌≡◌, Bool, List, [], ◌∷◌, ◌++◌, eqb, length, replicate, if◌then◌else◌}
use Rattle.layout.specs.Sizes.{simulation_reason_words}
use Rattle.texts.specs.Lists.{each}
use Rattle.texts.specs.Texts.{Text}
use Rattle.model_spec.specs.Answer.{Answer, answer, refused}
use Rattle.reasons.specs.Lists.{Reported}
use Rattle.engine_spec.specs.Memory.{Lent, entries}
use Rattle.engine_spec.specs.Reasons.{space_spent, steps_spent, runs_left}
use Rattle.engine_spec.specs.Simulate as engine
use Rattle.model_spec.specs.Rewrite.{place_of}
use Rattle.engine_spec.specs.Words.{texts_in, entry_words, simulate_memory}
use Rattle.engine_entry.specs.declared.Notes.{Notes}
use Rattle.engine_summary.specs.declared.Simulation.{Simulation}
use Rattle.engine_summary.specs.Summary.{no_simulation}

-- ---- unsupported

unfoldable pub no_notes : (number : ℕ) → Notes
no_notes n = record { refused = n; count = 0; reasons = replicate simulation_reason_words 0 }

-- The reasons' renderings are the definition's list, each can be read, and zeros stand behind them. Which of two reasons
-- with the same rendering stands there is left free.
abbrev pub NotesSay : (file : List ℕ) → Notes → Answer (List Text) → Type 0
NotesSay f r (answer l) = (r.refused ≡ 0) × Reported f l r.count r.reasons
NotesSay f r (refused n) = r ≡ no_notes n

-- ---- simulate

-- why the simulation is incomplete: 1, records or items were spent; 2, steps were; runs were left
unfoldable pub incomplete_of : (stopped : ℕ) → (left : Bool) → List Text
incomplete_of w b =
    (if eqb w 0 then [] else if eqb w 1 then space_spent ∷ [] else steps_spent ∷ [])
    ++ (if b then runs_left ∷ [] else [])

-- the values' places among the texts, then zeros
unfoldable pub values_of : (texts : List Text) → List (Text × Text) → List ℕ
values_of ts l = each (λ p. place_of p.1 ts) l ++ replicate (32 - length l) 0

-- the answer's numbers say what the definition's simulation says
pub record Shows (f : List ℕ) (r : Simulation) (s : engine.Simulation) : Type 0 where
  pub accepted : r.refused ≡ 0
  pub steps : r.steps ≡ s.steps
  pub records : r.records ≡ length s.trace
  pub horizon : r.horizon ≡ s.horizon
  pub values : r.values ≡ values_of (texts_in f) s.final_state
  pub unknown : Reported f s.unknown r.unknown r.reasons
  pub stop_reason : r.stop_reason ≤ 2
  pub incomplete : incomplete_of r.stop_reason r.runs_left ≡ s.incomplete

abbrev pub Says : (file : List ℕ) → Simulation → Answer engine.Simulation → Type 0
Says f r (answer s) = Shows f r s
Says f r (refused n) = r ≡ no_simulation n

abbrev pub lent : (queue records runs : List ℕ) → Lent
lent q a r = record { queue = q; records = a; runs = r }

-- the entry `simulate`: its answer, and each word of the areas afterwards
pub record Simulates (f : List ℕ) (r : Simulation) (before after : Lent) : Type 0 where
  pub says : Says f r (engine.simulate (entries entry_words before) f)
  pub memory : after ≡ simulate_memory f before
