use mathlib.Core.Path.{refl}
use native.Mathlib.Omega.{arith}
use Rattle.engine_state.proofs.Laws.{same, wide}
use Rattle.engine_trigger.proofs.Laws as steps
use Rattle.engine_dispatch.proofs.Laws as laws
use Rattle.engine_modes.proofs.Compose as wholes
use Rattle.engine_modes.proofs.Compose.{lent, shared, apart}
use Rattle.engine_dispatch.specs.Resume.{resume_m, resume_at_m, resume_run_m}
use Rattle.engine_dispatch.proofs.resume.Goals as goal

pub returns-in_default : goal.returns-in_default
unfolding resume_m resume_at_m
returns-in_default c =
    steps.found (resume_at_m _ _) c.find_run-found.ensures c.in_default.is
    (wholes.part (wholes.idle _) (wide c.requires.0) (wide c.requires.1.0) (wide c.requires.1.1.0)
    (wide c.requires.1.1.1.0) lent lent apart (λ v n s k. refl))

pub run_at-run-requires : goal.run_at-run-requires
run_at-run-requires c = omega (arith, c.requires, c.find_run-found.ensures.within _ c.in-Some.is)

pub go_on-requires : goal.go_on-requires
go_on-requires c = (c.find_run-found.ensures.within _ c.in-Some.is, c.requires)

pub returns-then-is_going : goal.returns-then-is_going
unfolding resume_m resume_at_m
returns-then-is_going c =
    steps.found (resume_at_m _ _) c.find_run-found.ensures c.in-Some.is
    (steps.ran (resume_run_m _ _ _) c.run_at-run.ensures (c.find_run-found.ensures.within _ c.in-Some.is)
    (wholes.part c.go_on.ensures same same same same shared shared apart
    (λ v n s k. laws.resume_yes _ _ _ _ _ _ c.is_going.ensures c.if-is_going.true)))

pub returns : goal.returns
unfolding resume_m resume_at_m
returns c =
    steps.found (resume_at_m _ _) c.find_run-found.ensures c.in-Some.is
    (steps.ran (resume_run_m _ _ _) c.run_at-run.ensures
    (c.find_run-found.ensures.within _ c.in-Some.is)
    (wholes.part (wholes.idle _) (wide c.requires.0) (wide c.requires.1.0) (wide c.requires.1.1.0)
    (wide c.requires.1.1.1.0) lent lent apart (λ v n s k. laws.resume_no _ _ _ _ _ _ c.is_going.ensures
    c.if-is_going.false)))
