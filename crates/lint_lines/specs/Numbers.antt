-- What the words of findings, interactions and components say, whatever they are. f is the model file; a section has the
-- positions of its parts in it.
use Rattle.std.specs.Prelude.{ℕ, ◌+◌, ◌*◌, ◌/◌, ◌&&◌, List, [], ◌∷◌, ltb, eqb, length, get_or, take, drop, if◌then◌else◌}
use Rattle.texts.specs.Lists.{each}
use Rattle.texts.specs.Texts.{Text}
use Rattle.reasons.specs.declared.Reason.{Reason}
use Rattle.reasons.specs.Reasons.{render}
use Rattle.model_spec.specs.Model.{Source}
use Rattle.model_parts.specs.declared.Section.{Section}
use Rattle.model_index.specs.declared.Index.{Index}
use Rattle.lint_spec.specs.Findings.{Finding, Interaction}
use Rattle.lint_reach.specs.Sets.{members}
use Rattle.lint_walk.specs.Raw.{number_m, past}
use Rattle.lint_walk.specs.Walks.{walk_m}
use Rattle.lint_entry.specs.declared.Report.{Report}
use Rattle.lint_words.specs.Numbers.{start_at, name_of, names_of, problem_of, certainty_of, tier_of}
use Rattle.lint_lines.specs.Lines.{finding_line, interaction_line, component_line}

-- ---- sources

-- the source that stands at a position
unfoldable pub source_at : (f : List ℕ) → (at : ℕ) → Source
source_at f p = record { line = number_m f p; column = number_m f (past f p 4) }

-- an automation's: it stands behind its actions
unfoldable pub rule_source : (f : List ℕ) → (rules : Section) → (i : ℕ) → Source
rule_source f s i = source_at f (walk_m f (start_at s i)).next

-- ---- a finding's 14 words

unfoldable pub note_reason_of : (w : List ℕ) → Reason
note_reason_of w = record {
  kind = get_or w 9 0;
  first = get_or w 10 0;
  second = get_or w 11 0;
  line = get_or w 12 0;
  column = get_or w 13 0;
}

abbrev pub first_source : (w : List ℕ) → Source
first_source w = record { line = get_or w 5 0; column = get_or w 6 0 }

abbrev pub second_source : (w : List ℕ) → Source
second_source w = record { line = get_or w 7 0; column = get_or w 8 0 }

-- a cycle's are those of its automations; opposing writes have two
unfoldable pub sources_of : (f : List ℕ) → (rules : Section) → (w : List ℕ) → List Source
sources_of f s w =
    if eqb (get_or w 0 0) 5 then each (rule_source f s) (members (get_or w 4 0)) else
    if eqb (get_or w 0 0) 8 then first_source w ∷ second_source w ∷ [] else
    first_source w ∷ []

unfoldable pub finding_of : (f : List ℕ) → Index → (w : List ℕ) → Finding
finding_of f i w = record {
  problem = problem_of (name_of f i.entities (get_or w 3 0)) (render f (note_reason_of w)) (get_or w 0 0);
  automations = names_of f i.rules (get_or w 4 0);
  sources = sources_of f i.rules w;
  tier = tier_of (get_or w 2 0);
}

unfoldable pub finding_text : (f : List ℕ) → Index → (w : List ℕ) → Text
finding_text f i w = finding_line (certainty_of (get_or w 1 0)) (finding_of f i w)

-- the k-th of an area, if there is one
unfoldable pub finding_at : (f : List ℕ) → Index → (a : List ℕ) → (k : ℕ) → Text
finding_at f i a k = if ltb k (length a / 14) then finding_text f i (take 14 (drop (14 * k) a)) else []

-- ---- interactions and components

unfoldable pub interaction_of : (f : List ℕ) → Index → (from to entity : ℕ) → Interaction
interaction_of f i a b e = record {
  from = name_of f i.rules a;
  to = name_of f i.rules b;
  entity = name_of f i.entities e;
}

unfoldable pub interaction_at : (f : List ℕ) → Index → (a : List ℕ) → (k : ℕ) → Text
interaction_at f i a k =
    if ltb k (length a / 3)
    then interaction_line (interaction_of f i (get_or a (3 * k) 0) (get_or a (3 * k + 1) 0) (get_or a (3 * k + 2) 0))
    else []

unfoldable pub component_at : (f : List ℕ) → Index → Report → (k : ℕ) → Text
component_at f i r k =
    if ltb k r.components && ltb k 32 then component_line (names_of f i.rules (get_or r.cycles k 0)) else []
