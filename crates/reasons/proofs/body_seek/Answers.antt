use borrow.Author.Rules.{rules}
use mathlib.Core.Path.{◌∙◌, ap}
use mathlib.Core.List.{◌++◌}
use Rattle.std.proofs.Common.{append_assoc}
use Rattle.texts.specs.Texts.{Text}
use Rattle.texts.specs.Places.{text_at, seek}
use Rattle.texts.proofs.Laws as places
use Rattle.reasons.specs.Reasons.{words, body}
use Rattle.reasons.proofs.body_seek.Goals as goal

pub returns : goal.returns
unfolding body
returns c =
    let a = c.args in let t = text_at a.f.now a.r.first in let u = text_at a.f.now a.r.second in
    places.seek_or (t ++ words a.r.kind) u a.i _ _ (places.seek_or t (words a.r.kind) a.i _ _ c.text_seek.ensures c.or_else.ensures (λ j p. search rules)) c.or_else-2.ensures (λ k p. search rules) ∙ ap (λ (x : Text). seek x a.i) (append_assoc t (words a.r.kind) u)
