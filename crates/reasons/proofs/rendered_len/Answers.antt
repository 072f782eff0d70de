use native.Mathlib.Omega.{arith}
use Rattle.reasons.proofs.Rendering as rendering
use Rattle.reasons.proofs.rendered_len.Goals as goal

pub returns-then-r-eq-SOURCE_NOTE : goal.returns-then-r-eq-SOURCE_NOTE
returns-then-r-eq-SOURCE_NOTE c = (
  rendering.source_length c.args.f.now c.args.r _ _ _ c.if-r-eq-SOURCE_NOTE.true
      c.digit_count.ensures.0 c.digit_count-then-r-eq-SOURCE_NOTE.ensures.0 c.body_len-n.ensures.0,
  omega arith,
)

pub returns : goal.returns
returns c = (
  rw (rendering.without c.args.f.now c.args.r c.if-r-eq-SOURCE_NOTE.false) c.body_len-n.ensures.0,
  omega arith,
)
