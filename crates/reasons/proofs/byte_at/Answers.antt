use mathlib.Core.Path.{ap, ◌∙◌}
use Rattle.std.specs.Prelude.{Result}
use Rattle.std.specs.Result.{result_unwrap_or}
use Prim.Native.Nat.{ℕ}
use Rattle.texts.proofs.Laws as places
use Rattle.reasons.specs.Reasons.{render}
use Rattle.reasons.proofs.byte_at.Goals as goal

pub returns : goal.returns
returns c = c.unwrap_or.ensures ∙ ap (λ (s : Result ℕ ℕ). result_unwrap_or s 0) c.byte_of.ensures ∙ places.got_or (render c.args.f.now c.args.r) c.args.i
