use mathlib.Core.Path.{refl}
use native.Mathlib.Omega.{arith}
use Rattle.show.proofs.Laws as laws
use Rattle.texts.proofs.Laws as texts
use Rattle.show.proofs.put_text.Goals as goal

pub returns-then-f-at : goal.returns-then-f-at
returns-then-f-at c = laws.is (laws.no_text _ _ c.if-f-at.true) (laws.nothing _ _)

pub slice_bounds-put-end : goal.slice_bounds-put-end
slice_bounds-put-end c = omega (arith, c.text_len.ensures.0, texts.length_fits c.args.f.now c.args.at)

pub returns : goal.returns
returns c =
    laws.is (laws.part _ _ _ _ _ c.text_len.ensures.0 refl refl)
    c.put.ensures
