use borrow.Author.Rules.{rules}
use mathlib.Core.Path.{sym, ◌∙◌, ap}
use Prim.Native.Nat.{ℕ}
use mathlib.Core.List.{List}
use Rattle.texts.specs.Places.{seek}
use Rattle.texts.proofs.Laws as places
use Rattle.reasons.specs.Reasons.{placed, body}
use Rattle.reasons.proofs.Rendering as rendering
use Rattle.reasons.proofs.byte_of.Goals as goal

pub returns-then-r-eq-SOURCE_NOTE : goal.returns-then-r-eq-SOURCE_NOTE
returns-then-r-eq-SOURCE_NOTE c =
    let a = c.args in let f = a.f.now in
    places.seek_or (placed a.r.line a.r.column) (body f a.r) a.i _ _ c.source_seek.ensures c.or_else.ensures (λ j p. search rules)
    ∙ ap (λ (t : List ℕ). seek t a.i) (sym (rendering.with_source f a.r c.if-r-eq-SOURCE_NOTE.true))

pub returns : goal.returns
returns c = rw (rendering.without c.args.f.now c.args.r c.if-r-eq-SOURCE_NOTE.false) c.body_seek.ensures
