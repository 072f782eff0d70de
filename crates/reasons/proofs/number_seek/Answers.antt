use native.Mathlib.Omega.{arith}
use Rattle.texts.proofs.Laws as places
use Rattle.reasons.proofs.Rendering as rendering
use Rattle.reasons.proofs.number_seek.Goals as goal

pub returns-then-i-c : goal.returns-then-i-c
returns-then-i-c c = rendering.digit_is _ _ _ _ (omega arith) (omega arith) c.digit.ensures

pub returns : goal.returns
returns c = places.seek_past _ _ _ (omega arith) (omega arith)
