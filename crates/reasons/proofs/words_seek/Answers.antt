use mathlib.Core.Path.{ap, ◌∙◌}
use Rattle.texts.specs.Lists.{flat}
use Rattle.texts.specs.Texts.{Text}
use Rattle.texts.specs.Places.{seek}
use Rattle.reasons.specs.Reasons.{words_file}
use Rattle.reasons.proofs.words_seek.Goals as goal

pub returns : goal.returns
unfolding words_file flat
returns c =
    c.text_seek.ensures ∙ ap (λ (t : Text). seek t c.args.i)
    c.words_start.ensures
