use native.Mathlib.Omega.{arith}
use Rattle.engine_state.proofs.Laws.{none, one, two, both, same}
use Rattle.engine_state.proofs.Laws as states
use Rattle.engine_update.proofs.Laws as laws
use Rattle.engine_update.specs.Update.{expiry_m, changed_m, write_m}
use Rattle.engine_state.specs.Changes.{log_write_m}
use Rattle.engine_update.proofs.update.Goals as goal

pub returns-then-e-gt31 : goal.returns-then-e-gt31
returns-then-e-gt31 c =
    states.moves (λ v n s. states.stay (λ k. laws.update_none _ _ _ _ c.entity_of-e.ensures c.if-e-gt31.true)
    (same c.requires.0) (same c.requires.1) none none)

pub log_write-s2-requires : goal.log_write-s2-requires
log_write-s2-requires c = omega (arith, c.requires, c.expiry-s1.ensures.records)

pub changed-requires : goal.changed-requires
changed-requires c = omega (arith, c.requires, c.log_write-s2.ensures.queue, c.expiry-s1.ensures.queue)

pub returns : goal.returns
unfolding write_m
returns c =
    states.moves
    (λ v n s. states.renamed _ (states.follow (changed_m _)
    (states.follow (log_write_m _ _) (states.follow (expiry_m _ _) (states.celled _ _) (c.expiry-s1.ensures.does _ n _)
    two none none none) (c.log_write-s2.ensures.does _ _ _) one two none none)
    (c.changed.ensures.does _ _ _) both one none none)
    (λ k. laws.update_goes _ _ _ _ c.entity_of-e.ensures _ c.if-e-gt31.false c.more_than.ensures))
