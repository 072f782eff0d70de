use native.Mathlib.Omega.{arith}
use Rattle.reasons.proofs.Rendering as rendering
use Rattle.reasons.proofs.body_len.Goals as goal

pub returns : goal.returns
returns c = (
  rendering.body_length c.args.f.now c.args.r _ _ _ c.text_len.ensures.0
      c.words_len.ensures.0 c.text_len-2.ensures.0,
  omega arith,
)
