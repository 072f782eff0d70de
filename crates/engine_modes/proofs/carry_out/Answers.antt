use Rattle.engine_state.proofs.Laws.{none, same, wide}
use Rattle.engine_modes.proofs.Laws as laws
use Rattle.engine_modes.proofs.Compose as wholes
use Rattle.engine_modes.proofs.Compose.{apart, lent, shared}
use Rattle.engine_modes.specs.Modes.{carry_out_m, carry_with_m, decided_m}
use Rattle.engine_modes.proofs.carry_out.Goals as goal

pub returns-in-AlreadyRunning : goal.returns-in-AlreadyRunning
unfolding carry_out_m decided_m
returns-in-AlreadyRunning c =
    wholes.counted (carry_with_m _ _ _) c.count_runs-running.ensures
    (wholes.part c.log_rule.ensures (wide c.requires.1.0) same (wide c.requires.1.1.1)
    none apart apart lent (λ v n s k. laws.carry_is _ _ _ _ _ _ _ _ _ c.in-AlreadyRunning.is c.decide-d.ensures
    c.rule_word.ensures c.rule_word-2.ensures))

pub returns-in-MaxReached : goal.returns-in-MaxReached
unfolding carry_out_m decided_m
returns-in-MaxReached c =
    wholes.counted (carry_with_m _ _ _) c.count_runs-running.ensures
    (wholes.part c.log_rule-in-MaxReached.ensures (wide c.requires.1.0) same (wide c.requires.1.1.1)
    none apart apart lent (λ v n s k. laws.carry_is _ _ _ _ _ _ _ _ _ c.in-MaxReached.is c.decide-d.ensures
    c.rule_word.ensures c.rule_word-2.ensures))

pub returns-in-Start : goal.returns-in-Start
unfolding carry_out_m decided_m
returns-in-Start c =
    wholes.counted (carry_with_m _ _ _) c.count_runs-running.ensures
    (wholes.part c.begin_now.ensures same same same none apart apart shared
    (λ v n s k. laws.carry_is _ _ _ _ _ _ _ _ _ c.in-Start.is c.decide-d.ensures
    c.rule_word.ensures c.rule_word-2.ensures))

pub returns-in-StopAndStart : goal.returns-in-StopAndStart
unfolding carry_out_m decided_m
returns-in-StopAndStart c =
    wholes.counted (carry_with_m _ _ _) c.count_runs-running.ensures
    (wholes.part c.stop_and_start.ensures same same same none apart apart shared
    (λ v n s k. laws.carry_is _ _ _ _ _ _ _ _ _ c.in-StopAndStart.is c.decide-d.ensures
    c.rule_word.ensures c.rule_word-2.ensures))

pub returns-in-WaitInLine : goal.returns-in-WaitInLine
unfolding carry_out_m decided_m
returns-in-WaitInLine c =
    wholes.counted (carry_with_m _ _ _) c.count_runs-running.ensures
    (wholes.part c.begin_later.ensures (wide c.requires.1.0) same same none apart apart shared
    (λ v n s k. laws.carry_is _ _ _ _ _ _ _ _ _ c.in-WaitInLine.is c.decide-d.ensures
    c.rule_word.ensures c.rule_word-2.ensures))
