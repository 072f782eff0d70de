-- The lines of `lint` on findings, interactions and components, with their newlines: what a reader of the program's output
-- sees.
use Rattle.std.specs.Prelude.{ℕ, List, [], ◌∷◌, ◌++◌}
use Rattle.texts.specs.Lists.{each}
use Rattle.texts.specs.Texts.{Text, text, decimal}
use Rattle.reasons.specs.Reasons.{placed}
use Rattle.model_spec.specs.Model.{Source}
use Rattle.lint_spec.specs.Findings.{Finding, Interaction, code_name, message}
use Rattle.show.specs.Lines.{newline, quoted}
use Rattle.lint_words.specs.Lines.{listed, quoted_list}

-- ---- parts

-- `N LINE:COLUMN..`
unfoldable pub source_list : List Source → Text
source_list l = listed (each (λ s. placed s.line s.column) l)

-- `finding CODE CERTAINTY TIER `
unfoldable pub kind_part : (code certainty tier : Text) → Text
kind_part x c t = text "finding " ++ (x ++ (32 ∷ (c ++ (32 ∷ (t ++ (32 ∷ []))))))

-- ` automations N "ID".. sources N LINE:COLUMN..`
unfoldable pub places_part : (automations : List Text) → (sources : List Source) → Text
places_part a s = text " automations " ++ (quoted_list a ++ (text " sources " ++ (source_list s ++ newline)))

-- ---- lines

unfoldable pub counts_line : (findings interactions components : ℕ) → Text
counts_line f i c =
    text "findings "
    ++ (decimal f
    ++ (text " interactions "
    ++ (decimal i
    ++ (text " components "
    ++ (decimal c ++ newline)))))

unfoldable pub finding_line : (certainty : Text) → Finding → Text
finding_line c x =
    kind_part (code_name x.problem) c x.tier
    ++ (quoted (message x.problem) ++ places_part x.automations x.sources)

unfoldable pub interaction_line : Interaction → Text
interaction_line i =
    text "interaction "
    ++ (quoted i.from
    ++ (32 ∷ (quoted i.to
    ++ (32 ∷ (quoted i.entity ++ newline)))))

unfoldable pub component_line : (ids : List Text) → Text
component_line l = text "component " ++ (quoted_list l ++ newline)

-- opens the file, for proofs by computation
unfoldable pub all_lines : Unit {0}
unfolding source_list kind_part places_part counts_line finding_line interaction_line component_line
all_lines = tt
