use Rattle.engine_state.proofs.Laws.{same, wide}
use Rattle.engine_dispatch.proofs.Laws as laws
use Rattle.engine_modes.proofs.Compose as wholes
use Rattle.engine_modes.proofs.Compose.{lent, shared}
use Rattle.engine_dispatch.specs.Dispatch.{process_m}
use Rattle.engine_dispatch.proofs.process.Goals as goal

pub returns-in-Set : goal.returns-in-Set
unfolding process_m
returns-in-Set c =
    wholes.part c.external.ensures same same (wide c.requires.1.1.0) (wide c.requires.1.1.1.0) shared shared lent
    (λ v n s k. laws.process_is _ _ _ _ _ c.in-Set.is)

pub returns-in-Restart : goal.returns-in-Restart
unfolding process_m
returns-in-Restart c =
    wholes.part c.drop_all.ensures (wide c.requires.0) same same (wide c.requires.1.1.1.0) lent lent lent
    (λ v n s k. laws.process_is _ _ _ _ _ c.in-Restart.is)

pub returns-in-Reload : goal.returns-in-Reload
unfolding process_m
returns-in-Reload c =
    wholes.part c.drop_all-in-Reload.ensures (wide c.requires.0) same same (wide c.requires.1.1.1.0) lent lent lent
    (λ v n s k. laws.process_is _ _ _ _ _ c.in-Reload.is)

pub returns-in-Changed : goal.returns-in-Changed
unfolding process_m
returns-in-Changed c =
    wholes.part c.trigger.ensures same same same same shared lent shared
    (λ v n s k. laws.process_is _ _ _ _ _ c.in-Changed.is)

pub returns-in-Resume : goal.returns-in-Resume
unfolding process_m
returns-in-Resume c =
    wholes.part c.resume.ensures same same same same shared shared lent
    (λ v n s k. laws.process_is _ _ _ _ _ c.in-Resume.is)

pub returns-in-Timeout : goal.returns-in-Timeout
unfolding process_m
returns-in-Timeout c =
    wholes.part c.time_out.ensures same same same (wide c.requires.1.1.1.0) lent lent lent
    (λ v n s k. laws.process_is _ _ _ _ _ c.in-Timeout.is)

pub returns-in-Stale : goal.returns-in-Stale
unfolding process_m
returns-in-Stale c =
    wholes.part c.go_stale.ensures same same (wide c.requires.1.1.0) (wide c.requires.1.1.1.0) shared shared lent
    (λ v n s k. laws.process_is _ _ _ _ _ c.in-Stale.is)
