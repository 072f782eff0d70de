use mathlib.Core.Path.{refl}
use borrow.Author.Tests.{eq-eqb}
use Rattle.engine_state.proofs.Laws.{none, same}
use Rattle.engine_state.proofs.Laws as states
use Rattle.engine_update.proofs.Laws as laws
use Rattle.engine_update.specs.Update.{expiry_m}
use Rattle.engine_update.proofs.expiry.Goals as goal

pub returns-then-ttl : goal.returns-then-ttl
unfolding expiry_m
returns-then-ttl c =
    states.moves (λ v n s. states.stay (λ k. rw (← c.stale_of-ttl.ensures, eq-eqb _ _ c.if-ttl.true))
    (same c.requires.1) none none none)

pub returns : goal.returns
returns c =
    states.moves (λ v n s. states.renamed _ (c.add.ensures.does _ _ _)
    (λ k. laws.expiry_goes _ _ _ _ _ _ _ _ c.stale_of-ttl.ensures c.if-ttl.false c.after.ensures
    c.after-second.ensures c.name_of-entity.ensures refl))
