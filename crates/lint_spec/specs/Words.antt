-- What stands in the two lent areas, word for word (docs/FORMAT.md): entities and automations as numbers in the file's
-- order.
use Rattle.std.specs.Prelude.{ℕ, ◌^◌, ◌≡◌, true, List, [], ◌∷◌, ◌++◌, ltb, eqb, if◌then◌else◌}
use Rattle.std.specs.Int.Bits.{bit_or}
use Rattle.texts.specs.Lists.{each, through}
use Rattle.texts.specs.Texts.{Text, text}
use Rattle.model_spec.specs.Answer.{answer, refused}
use Rattle.model_spec.specs.Model.{Source}
use Rattle.model_spec.specs.Validate.{accepted}
use Rattle.reasons.specs.declared.Reason.{Reason}
use Rattle.reasons.specs.Reasons.{render}
use Rattle.reasons.specs.Readable.{Readable}
use Rattle.reasons.specs.Lists.{words_of}
use Rattle.model_spec.specs.Rewrite.{place_of}
use Rattle.lint_spec.specs.Findings.{
  Problem,
  unreachable_conditions,
  trigger_condition_mismatch,
  delayed_write,
  unreachable_branch,
  high_fanout,
  trigger_cycle,
  freshness_assumption,
  missing_safety_guard,
  opposing_writes,
  unsupported_note,
  Finding,
  Interaction,
}

-- numbers below 32 as the bits of a number
unfoldable pub set_of : List ℕ → ℕ
set_of l = through (λ i x. bit_or x (2 ^ i)) l 0

unfoldable pub code_number : Problem → ℕ
code_number unreachable_conditions = 0
code_number trigger_condition_mismatch = 1
code_number delayed_write = 2
code_number unreachable_branch = 3
code_number high_fanout = 4
code_number trigger_cycle = 5
code_number (freshness_assumption x) = 6
code_number (missing_safety_guard x) = 7
code_number (opposing_writes x) = 8
code_number (unsupported_note r) = 9

-- 0 static, 1 potential, 2 unknown
unfoldable pub certainty_number : Problem → ℕ
certainty_number unreachable_conditions = 0
certainty_number trigger_condition_mismatch = 1
certainty_number delayed_write = 1
certainty_number unreachable_branch = 0
certainty_number high_fanout = 1
certainty_number trigger_cycle = 1
certainty_number (freshness_assumption x) = 1
certainty_number (missing_safety_guard x) = 1
certainty_number (opposing_writes x) = 1
certainty_number (unsupported_note r) = 2

abbrev pub tiers : List Text
tiers = text "observational" ∷ text "comfort" ∷ text "property" ∷ text "access_safety" ∷ text "accesssafety" ∷ text
    "unknown" ∷ []

unfoldable pub tier_number : Text → ℕ
tier_number t = place_of t tiers

-- the lines and columns of two sources
unfoldable pub source_words : List Source → List ℕ
source_words [] = 0 ∷ 0 ∷ 0 ∷ 0 ∷ []
source_words (a ∷ []) = a.line ∷ a.column ∷ 0 ∷ 0 ∷ []
source_words (a ∷ b ∷ l) = a.line ∷ a.column ∷ b.line ∷ b.column ∷ []

-- a cycle's sources are those of its automations
unfoldable pub sources_of : Finding → List Source
sources_of f = if eqb (code_number f.problem) 5 then [] else f.sources

-- `names` are the declared entities', `ids` the automations', both in the file's order
module _ (names ids : List Text) where
  -- the entity that the message names
  unfoldable pub entity_number : Problem → ℕ
  entity_number unreachable_conditions = 0
  entity_number trigger_condition_mismatch = 0
  entity_number delayed_write = 0
  entity_number unreachable_branch = 0
  entity_number high_fanout = 0
  entity_number trigger_cycle = 0
  entity_number (freshness_assumption x) = place_of x names
  entity_number (missing_safety_guard x) = place_of x names
  entity_number (opposing_writes x) = place_of x names
  entity_number (unsupported_note r) = 0

  -- automations as a set of their numbers
  unfoldable pub ids_set : List Text → ℕ
  ids_set l = set_of (each (λ t. place_of t ids) l)

  -- a finding's first nine words
  unfoldable pub finding_words : Finding → List ℕ
  finding_words f =
      (code_number f.problem ∷ certainty_number f.problem ∷ tier_number f.tier ∷ entity_number
      f.problem ∷ ids_set f.automations ∷ [])
      ++ source_words (sources_of f)

  unfoldable pub interaction_words : Interaction → List ℕ
  interaction_words i = place_of i.from ids ∷ place_of i.to ids ∷ place_of i.entity names ∷ []

-- The last five words: those of a reason that can be read and is rendered as the note; no other finding has one.
-- Which of two reasons with the same rendering stands there is left free.
pub data Reasoned (file : List ℕ) : Problem → List ℕ → Type 0 where
  noted : (r : Reason) → Readable file r → Reasoned file (unsupported_note (render file r)) (words_of r)
  plain : {p : Problem} → ltb (code_number p) 9 ≡ true → Reasoned file p (0 ∷ 0 ∷ 0 ∷ 0 ∷ 0 ∷ [])

-- a finding's 14 words
pub record Worded (file : List ℕ) (names ids : List Text) (f : Finding) (w : List ℕ) : Type 0 where
  pub reason : List ℕ
  pub is : w ≡ finding_words names ids f ++ reason
  pub reasoned : Reasoned file f.problem reason

-- the names of the entities, and the automations' identifiers, of an accepted file
unfoldable pub names_in : (file : List ℕ) → List Text
names_in file = elim (accepted file) [ answer m ↦ each (λ e. e.name) m.scenario.entities | refused n ↦ [] ]

unfoldable pub ids_in : (file : List ℕ) → List Text
ids_in file = elim (accepted file) [ answer m ↦ each (λ r. r.id) m.rules | refused n ↦ [] ]
