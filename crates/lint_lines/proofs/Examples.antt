-- A few lines, computed.
use mathlib.Core.Path.{◌≡◌, refl}
use mathlib.Core.List.{[], ◌∷◌}
use Rattle.texts.specs.Lists.{all_lists}
use Rattle.texts.specs.Texts.{text, all_texts}
use Rattle.reasons.specs.Reasons.{placed}
use Rattle.lint_spec.specs.Findings.{freshness_assumption, Finding, code_name, message}
use Rattle.show.specs.Lines as show
use Rattle.lint_words.specs.Lines as words
use Rattle.lint_lines.specs.Lines.{counts_line, finding_line, interaction_line, component_line, all_lines}

counts : counts_line 2 1 0 ≡ text "findings 2 interactions 1 components 0\n"
unfolding all_lines all_lists all_texts
counts = refl

a_finding : Finding
a_finding = record {
  problem = freshness_assumption (text "do\"or");
  automations = text "lock" ∷ [];
  sources = record { line = 7; column = 3 } ∷ [];
  tier = text "access_safety";
}

finding : finding_line (text "potential") a_finding
    ≡ text
    "finding freshness_assumption potential access_safety \"do\\\"or has modeled freshness expiry\" automations 1 \"lock\" sources 1 7:3\n"
unfolding a_finding all_lines words.all_lines all_lists all_texts show.all_lines code_name message placed
finding = refl

interaction : interaction_line (record { from = text "a"; to = text "b"; entity = text "x" })
    ≡ text "interaction \"a\" \"b\" \"x\"\n"
unfolding all_lines all_lists show.all_lines
interaction = refl

component : component_line (text "a" ∷ text "b" ∷ []) ≡ text "component 2 \"a\" \"b\"\n"
unfolding all_lines words.all_lines all_lists all_texts show.all_lines
component = refl
