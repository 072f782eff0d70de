use borrow.Author.Tests.{eq-eqb, ne_eqb}
use Rattle.engine_state.proofs.Laws.{none, same}
use Rattle.engine_state.proofs.Laws as states
use Rattle.engine_update.specs.Update.{changed_m}
use Rattle.engine_update.proofs.changed.Goals as goal

pub returns-then-m : goal.returns-then-m
unfolding changed_m
returns-then-m c =
    states.moves (λ v n s. states.stay (λ k. rw (eq-eqb _ _ c.if-m.true)) (same c.requires)
    none none none)

pub returns : goal.returns
unfolding changed_m
returns c =
    states.moves (λ v n s. states.renamed _ (c.add.ensures.does _ _ _)
    (λ k. rw (ne_eqb _ _ c.if-m.false)))
