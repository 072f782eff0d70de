use mathlib.Core.Path.{refl}
use Rattle.engine_run.specs.Run.{refusal_m}
use Rattle.engine_run.proofs.refusal.Goals as goal

pub returns : goal.returns
unfolding refusal_m
returns c = refl
