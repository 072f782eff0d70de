use mathlib.Core.Path.{refl, ap}
use native.Mathlib.Omega.{arith}
use Rattle.show.proofs.Laws as laws
use Rattle.show.specs.Lines.{quoted}
use Rattle.texts.proofs.Laws as texts
use Rattle.show.proofs.put_quoted_text.Goals as goal

pub returns-then-f-at : goal.returns-then-f-at
returns-then-f-at c =
    laws.is (laws.no_text_quoted _ _ c.if-f-at.true)
    c.put.ensures

pub slice_bounds-put_quoted-end : goal.slice_bounds-put_quoted-end
slice_bounds-put_quoted-end c = omega (arith, c.text_len.ensures.0, texts.length_fits c.args.f.now c.args.at)

pub returns : goal.returns
returns c = laws.is (ap quoted (laws.part _ _ _ _ _ c.text_len.ensures.0 refl refl)) c.put_quoted.ensures
