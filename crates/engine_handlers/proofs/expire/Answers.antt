use native.Mathlib.Omega.{arith}
use Rattle.engine_state.proofs.Laws.{none, one, two}
use Rattle.engine_state.proofs.Laws as states
use Rattle.engine_handlers.proofs.Laws as laws
use Rattle.engine_handlers.specs.Handlers.{expire_to_m}
use Rattle.engine_update.specs.Update.{changed_m}
use Rattle.engine_state.specs.Changes.{log_write_m}
use Rattle.engine_handlers.proofs.expire.Goals as goal

pub log_write-s1-requires : goal.log_write-s1-requires
log_write-s1-requires c = omega (arith, c.requires)

pub changed-requires : goal.changed-requires
changed-requires c = omega (arith, c.requires, c.log_write-s1.ensures.queue)

pub returns : goal.returns
unfolding expire_to_m
returns c =
    states.moves
    (λ v n s. states.renamed _ (states.follow (changed_m _)
    (states.follow (log_write_m _ _) (states.celled _ _) (c.log_write-s1.ensures.does _ _ _) none two none none)
    (c.changed.ensures.does _ _ _) two one none none)
    (λ k. laws.expire_is _ _ _ _ c.name_of-entity.ensures))
