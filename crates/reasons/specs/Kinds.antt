-- The kinds of reasons: what each is made of, and its number's name. A new kind goes to the end.
use Rattle.std.specs.Prelude.{ℕ, ◌<◌, ◌≡◌, Bool, true, false, List, [], ◌∷◌, length, get_or}
use Rattle.texts.specs.Texts.{Text, text}

-- fixed words; which of the two texts stand around them; whether a line and a column stand in front
pub record Kind : Type 0 where
  pub words : Text
  pub first : Bool
  pub second : Bool
  pub source : Bool

abbrev pub bare : Text → Kind
bare t = record { words = t; first = false; second = false; source = false }

abbrev pub behind_first : Text → Kind
behind_first t = record { words = t; first = true; second = false; source = false }

-- by their numbers, from 0
abbrev pub kinds : List Kind
kinds =
    behind_first (text "")
    ∷ record { words = text ": "; first = true; second = true; source = false }
    ∷ record { words = text ": "; first = false; second = true; source = true }
    ∷ behind_first (text ": unknown trigger condition")
    ∷ behind_first (text ": toggle of unknown state")
    ∷ behind_first (text ": unknown choose condition")
    ∷ behind_first (text ": unknown action condition")
    ∷ bare (text "unsupported wait trigger")
    ∷ behind_first (text ": unknown state predicate")
    ∷ behind_first (text ": unknown action guard")
    ∷ behind_first (text ": unknown response at deadline")
    ∷ behind_first (text ": unknown temporal predicate")
    ∷ behind_first (text ": response deadline beyond horizon")
    ∷ bare (text "trace or queue budget exhausted")
    ∷ bare (text "step budget exhausted")
    ∷ bare (text "active or queued runs beyond observation horizon")
    ∷ bare (text "search budget exhausted")
    ∷ []

-- a number past the last kind stands for nothing
abbrev pub no_kind : Kind
no_kind = bare []

abbrev pub kind_of : ℕ → Kind
kind_of k = get_or kinds k no_kind

-- the number of a kind that has the first text only, and of one that has none
pub record OneText (k : ℕ) : Type 0 where
  pub known : k < length kinds
  pub is : kind_of k ≡ behind_first (kind_of k).words

pub record NoText (k : ℕ) : Type 0 where
  pub known : k < length kinds
  pub is : kind_of k ≡ bare (kind_of k).words

-- ---- the numbers' names

abbrev pub note : ℕ
note = 0

abbrev pub id_note_kind : ℕ
id_note_kind = 1

abbrev pub source_note_kind : ℕ
source_note_kind = 2

abbrev pub trigger_condition : ℕ
trigger_condition = 3

abbrev pub toggle : ℕ
toggle = 4

abbrev pub choose_condition : ℕ
choose_condition = 5

abbrev pub action_condition : ℕ
action_condition = 6

abbrev pub wait : ℕ
wait = 7

abbrev pub state_predicate : ℕ
state_predicate = 8

abbrev pub action_guard : ℕ
action_guard = 9

abbrev pub response_at_deadline : ℕ
response_at_deadline = 10

abbrev pub temporal_predicate : ℕ
temporal_predicate = 11

abbrev pub beyond_horizon : ℕ
beyond_horizon = 12

abbrev pub space_spent : ℕ
space_spent = 13

abbrev pub steps_spent : ℕ
steps_spent = 14

abbrev pub runs_left : ℕ
runs_left = 15

abbrev pub search_spent : ℕ
search_spent = 16
