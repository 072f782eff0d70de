use mathlib.Core.Path.{ap}
use native.Mathlib.Omega.{arith}
use Rattle.engine_state.proofs.Laws.{none, one, two}
use Rattle.engine_state.proofs.Laws as states
use Rattle.engine_handlers.proofs.Laws as laws
use Rattle.engine_handlers.specs.Handlers.{drop_all_m}
use Rattle.engine_state.specs.Changes.{log_plain_m}
use borrow.Author.Rules.{rules}
use Rattle.engine_handlers.proofs.drop_all.Goals as goal

pub overflow_mul-n : goal.overflow_mul-n
overflow_mul-n c = omega (arith, c.requires)

pub clear-requires : goal.clear-requires
clear-requires c = omega (arith, c.requires)

pub log_plain-requires : goal.log_plain-requires
log_plain-requires c = omega (arith, c.requires, ap (λ s. s.records) c.with_active-s1.ensures)

pub returns : goal.returns
unfolding drop_all_m
returns c =
    states.moves (λ v n s.
    states.follow (log_plain_m 4)
    (laws.no_runs _ _ _ _ (omega (arith, c.requires)) c.clear.ensures c.with_active-s1.ensures (search rules))
    (c.log_plain.ensures.does _ _ _) none two one none)
