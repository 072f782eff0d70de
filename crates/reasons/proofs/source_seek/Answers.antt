use borrow.Author.Rules.{rules}
use mathlib.Core.List.{◌∷◌}
use Rattle.texts.specs.Texts.{decimal}
use Rattle.texts.specs.Places.{seek}
use Rattle.texts.proofs.Laws as places
use Rattle.reasons.specs.Reasons.{placed}
use Rattle.reasons.proofs.source_seek.Goals as goal

pub returns : goal.returns
unfolding placed seek
returns c = places.seek_or (decimal c.args.line) (58 ∷ decimal c.args.column) c.args.i _ _ c.number_seek.ensures c.or_else.ensures (λ j p. search rules)
