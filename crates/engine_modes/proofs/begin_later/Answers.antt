use Rattle.engine_state.proofs.Laws.{none, one, two}
use Rattle.engine_modes.proofs.Laws as laws
use Rattle.engine_modes.proofs.Compose as wholes
use Rattle.engine_modes.specs.Modes.{begin_queued_m}
use Rattle.engine_modes.proofs.begin_later.Goals as goal

pub returns : goal.returns
unfolding begin_queued_m
returns c =
    wholes.named (wholes.next c.add_run-s1.ensures c.log_rule.ensures none two one none none none one)
    (λ v n s k. laws.begin_later_is _ _ _ _ _ c.new_run-run.ensures)
