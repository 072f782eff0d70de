use mathlib.Core.Path.{refl, sym, ◌∙◌}
use Rattle.model_rewrite.proofs.Laws as laws
use Rattle.model_rewrite.proofs.events_in.Goals as goal

pub returns-in_default : goal.returns-in_default
returns-in_default c =
    c.no_span.ensures ∙ sym (laws.span_is _ c.section_at-texts.ensures
    ∙ laws.behind_broken _ _ refl c.in_default.is)

pub returns : goal.returns
returns c =
    c.events_behind.ensures ∙ sym (laws.span_is _ c.section_at-texts.ensures
    ∙ laws.behind_to _ _ refl c.in-Some.is)
