use Rattle.engine_state.proofs.Laws.{same, wide}
use Rattle.engine_dispatch.proofs.Laws as laws
use Rattle.engine_modes.proofs.Compose as wholes
use Rattle.engine_modes.proofs.Compose.{apart, lent, shared}
use Rattle.engine_dispatch.specs.Resume.{perform_m}
use Rattle.engine_dispatch.proofs.perform.Goals as goal

pub returns-in-Set : goal.returns-in-Set
unfolding perform_m
returns-in-Set c =
    wholes.part c.set.ensures same same (wide c.requires.1.1.1.0) (wide c.requires.1.1.1.1.0)
    shared shared apart (λ v n s k. laws.perform_is _ _ _ _ _ _ _ _ c.in-Set.is)

pub returns-in-Toggle : goal.returns-in-Toggle
unfolding perform_m
returns-in-Toggle c =
    wholes.part c.flip.ensures same same (wide c.requires.1.1.1.0) same shared shared apart
    (λ v n s k. laws.perform_is _ _ _ _ _ _ _ _ c.in-Toggle.is)

pub returns-in-Delay : goal.returns-in-Delay
unfolding perform_m
returns-in-Delay c =
    wholes.part c.delay.ensures same same (wide c.requires.1.1.1.0) (wide c.requires.1.1.1.1.0) lent lent apart
    (λ v n s k. laws.perform_is _ _ _ _ _ _ _ _ c.in-Delay.is)

pub returns-in-Condition : goal.returns-in-Condition
unfolding perform_m
returns-in-Condition c =
    wholes.part c.condition.ensures same same same same shared lent apart
    (λ v n s k. laws.perform_is _ _ _ _ _ _ _ _ c.in-Condition.is)

pub returns-in-Choose : goal.returns-in-Choose
unfolding perform_m
returns-in-Choose c =
    wholes.part c.choose.ensures same same same same shared lent apart
    (λ v n s k. laws.perform_is _ _ _ _ _ _ _ _ c.in-Choose.is)

pub returns-in-Wait : goal.returns-in-Wait
unfolding perform_m
returns-in-Wait c =
    wholes.part c.begin_wait.ensures same same same same lent lent apart
    (λ v n s k. laws.perform_is _ _ _ _ _ _ _ _ c.in-Wait.is)

pub returns-in-Unknown : goal.returns-in-Unknown
unfolding perform_m
returns-in-Unknown c =
    wholes.part c.give_up.ensures same same same same lent lent apart
    (λ v n s k. laws.perform_is _ _ _ _ _ _ _ _ c.in-Unknown.is)
