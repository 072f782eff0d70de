use mathlib.Core.Path.{ap, ◌∙◌}
use lib.ListN.{length}
use Rattle.texts.specs.Lists.{flat}
use Rattle.texts.specs.Texts.{Text}
use Rattle.reasons.specs.Reasons.{words_file}
use Rattle.reasons.proofs.words_len.Goals as goal

pub returns : goal.returns
unfolding words_file flat
returns c = (
  c.text_len.ensures.0 ∙ ap (λ (t : Text). length t) c.words_start.ensures,
  c.text_len.ensures.1,
)
