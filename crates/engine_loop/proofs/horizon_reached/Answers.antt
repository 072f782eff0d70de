use native.Mathlib.Omega.{arith}
use Rattle.engine_state.proofs.Laws.{none, two}
use Rattle.engine_state.proofs.Laws as states
use Rattle.engine_loop.specs.Loop.{horizon_m}
use Rattle.engine_state.specs.Changes.{log_plain_m}
use Rattle.engine_loop.proofs.horizon_reached.Goals as goal

pub log_plain-requires : goal.log_plain-requires
log_plain-requires c = omega (arith, c.requires, c.at_now-s.ensures.records)

pub returns : goal.returns
unfolding horizon_m
returns c =
    states.moves (λ v n s. states.follow (log_plain_m 9) (c.at_now-s.ensures.does _ _ _)
    (c.log_plain.ensures.does _ _ _) none two none none)
