-- What the words of an answer say, whatever they are: names and problems. f is the model file; a section has the positions
-- of its parts in it.
use Rattle.std.specs.Prelude.{ℕ, List, [], ◌∷◌, ltb, get_or, if◌then◌else◌}
use Rattle.texts.specs.Lists.{each}
use Rattle.texts.specs.Texts.{Text, text}
use Rattle.texts.specs.Places.{text_at, start_from}
use Rattle.model_parts.specs.declared.Section.{Section}
use Rattle.lint_spec.specs.Findings.{
  Problem,
  unreachable_conditions,
  trigger_condition_mismatch,
  delayed_write,
  unreachable_branch,
  high_fanout,
  trigger_cycle,
  freshness_assumption,
  missing_safety_guard,
  opposing_writes,
  unsupported_note,
}
use Rattle.lint_spec.specs.Words.{tiers}
use Rattle.lint_reach.specs.Sets.{members}
use Rattle.lint_walk.specs.Raw.{place_m}

-- ---- texts and names

unfoldable pub placed_text : (f : List ℕ) → (place : ℕ) → Text
placed_text f k = text_at f (start_from f 6 k)

-- the position of the i-th part; there are at most 100
unfoldable pub start_at : Section → (i : ℕ) → ℕ
start_at s i = if ltb i 100 then get_or s.starts i 0 else 0

-- the place of its name: an automation's identifier, an entity's name
unfoldable pub name_place : (f : List ℕ) → Section → (i : ℕ) → ℕ
name_place f s i = place_m f (start_at s i)

unfoldable pub name_of : (f : List ℕ) → Section → (i : ℕ) → Text
name_of f s i = placed_text f (name_place f s i)

-- the names of a set of parts
unfoldable pub names_of : (f : List ℕ) → Section → (set : ℕ) → List Text
names_of f s x = each (name_of f s) (members x)

-- ---- the words of a finding

-- the problems that no note is about, by their codes
abbrev pub problems : (entity : Text) → List Problem
problems x =
    unreachable_conditions
    ∷ trigger_condition_mismatch
    ∷ delayed_write
    ∷ unreachable_branch
    ∷ high_fanout
    ∷ trigger_cycle
    ∷ freshness_assumption x
    ∷ missing_safety_guard x
    ∷ opposing_writes x
    ∷ []

unfoldable pub problem_of : (entity reason : Text) → (code : ℕ) → Problem
problem_of x t n = get_or (problems x) n (unsupported_note t)

unfoldable pub certainty_of : ℕ → Text
certainty_of n = get_or (text "static" ∷ text "potential" ∷ []) n (text "unknown")

unfoldable pub tier_of : ℕ → Text
tier_of n = get_or tiers n (text "unknown")
