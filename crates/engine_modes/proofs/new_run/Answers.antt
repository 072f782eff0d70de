use Rattle.engine_modes.specs.Modes.{new_run}
use Rattle.engine_modes.proofs.new_run.Goals as goal

pub returns : goal.returns
unfolding new_run
returns c = rw (← c.rule_word.ensures, ← c.more_than-number.ensures) c.with_list.ensures
