use mathlib.Core.Path.{refl, ap}
use native.Mathlib.Omega.{arith}
use Rattle.texts.specs.Lists.{flat}
use Rattle.texts.proofs.Laws as texts
use Rattle.show.specs.Lines.{escape}
use Rattle.show.proofs.Laws as show
use Rattle.lint_words.proofs.Laws as laws
use Rattle.lint_words.proofs.put_inner.Goals as goal

pub returns-then-f-at : goal.returns-then-f-at
returns-then-f-at c = show.is (laws.no_inner _ _ c.if-f-at.true) (show.nothing _ _)

pub slice_bounds-put_escaped-end : goal.slice_bounds-put_escaped-end
slice_bounds-put_escaped-end c = omega (arith, c.text_len.ensures.0, texts.length_fits c.args.f.now c.args.at)

pub returns : goal.returns
returns c =
    show.is (ap (flat escape) (show.part _ _ _ _ _ c.text_len.ensures.0 refl refl))
    c.put_escaped.ensures
