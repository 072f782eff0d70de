use Rattle.engine_evaluate.specs.Actions.{top_m}
use Rattle.engine_evaluate.proofs.top.Goals as goal

pub returns : goal.returns
unfolding top_m
returns c = rw (← c.last_word.ensures) c.place_in.ensures
