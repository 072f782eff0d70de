use mathlib.Core.Path.{refl}
use Rattle.engine_run.specs.Run.{answer_ended_m}
use Rattle.engine_run.proofs.answer.Goals as goal

pub returns : goal.returns
unfolding answer_ended_m
returns c = refl
