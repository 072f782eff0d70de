use mathlib.Core.Path.{refl}
use native.Mathlib.Omega.{arith}
use Rattle.engine_state.proofs.Laws.{two, both, same, wide}
use Rattle.engine_state.proofs.Laws as states
use Rattle.engine_trigger.proofs.Laws as steps
use Rattle.engine_dispatch.proofs.Laws as laws
use Rattle.engine_dispatch.specs.Resume.{go_on_m, go_on_run_m, perform_m}
use borrow.Author.Rules.{rules}
use Rattle.engine_dispatch.proofs.go_on.Goals as goal

pub returns-then-run-eq0 : goal.returns-then-run-eq0
unfolding go_on_m
returns-then-run-eq0 c =
    states.moves (λ v n s. steps.with_run (go_on_run_m _ _ _) c.run_at-run.ensures (omega (arith, c.requires))
    (states.renamed _ (states.widen (c.finish.ensures.does _ _ _) same same same (wide (omega (arith, c.requires))))
    (λ z. laws.on_end _ _ _ _ _ c.if-run-eq0.true)))

pub put_run-requires : goal.put_run-requires
put_run-requires c =
    omega (
      arith,
      c.requires,
    )

pub perform-requires : goal.perform-requires
perform-requires c = (c.requires.0, (c.requires.1.0, (c.requires.1.1.0, (omega (arith, c.requires), c.requires.1.1.1.1))))

pub returns : goal.returns
unfolding go_on_m
returns c =
    states.moves (λ v n s. steps.with_run (go_on_run_m _ _ _) c.run_at-run.ensures (omega (arith, c.requires))
    (states.renamed _ (states.follow (perform_m _ _ _ _ _ _)
    (steps.replaced _ _ _ (omega (arith, c.requires)) (search rules) _ _ _ c.put_run.ensures refl
    (omega (arith, c.requires))) (c.perform.ensures.does v n _) two two both two)
    (λ z. laws.on_act _ _ _ _ _ _ _ _ c.if-run-eq0.false c.top-place.ensures c.action_at-action.ensures
    c.stepped-next.ensures)))
