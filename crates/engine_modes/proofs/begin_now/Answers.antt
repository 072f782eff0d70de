use mathlib.Core.Path.{refl}
use native.Mathlib.Omega.{arith}
use Rattle.engine_state.proofs.Laws.{none, one, two}
use Rattle.engine_modes.proofs.Laws as laws
use Rattle.engine_modes.proofs.Compose as wholes
use Rattle.engine_modes.specs.Modes.{begin_run_m, now_m}
use Rattle.engine_modes.proofs.begin_now.Goals as goal

pub next_step-requires : goal.next_step-requires
next_step-requires c = omega (arith, c.requires, c.add_run-s1.ensures.queue, c.log_rule-s2.ensures.queue)

pub returns : goal.returns
unfolding begin_run_m
returns c =
    wholes.named
    (wholes.next {G = now_m _} (wholes.next c.add_run-s1.ensures c.log_rule-s2.ensures
    none two one none none none one) (wholes.named c.next_step.ensures (λ v n s k. refl))
    two one one none none none one) (λ v n s k. laws.begin_now_is _ _ _ _ _ c.new_run-run.ensures)
