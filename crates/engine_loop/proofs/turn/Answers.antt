use mathlib.Core.Path.{refl, ap}
use native.Mathlib.Omega.{arith}
use Rattle.engine_state.proofs.Laws.{two, both, same}
use Rattle.engine_state.proofs.Laws as states
use Rattle.engine_loop.proofs.Laws as laws
use Rattle.engine_loop.specs.Loop.{turn_m, turn_with_m}
use Rattle.engine_dispatch.specs.Dispatch.{process_m}
use borrow.Author.Rules.{rules}
use Rattle.engine_loop.proofs.turn.Goals as goal

pub returns-then-st-eq0 : goal.returns-then-st-eq0
returns-then-st-eq0 c =
    states.moves (λ v n s. laws.turn_empty _ _ c.if-st-eq0.true
    (states.stay (λ k. refl) (same (omega (arith, c.requires))) (same (omega (arith, c.requires)))
    (same (omega (arith, c.requires))) (same (omega (arith, c.requires)))))

pub returns-in_default : goal.returns-in_default
returns-in_default c =
    states.moves (λ v n s. laws.never c.args.st _ _ _ c.take.ensures (search rules) (omega (arith, c.requires))
    (omega (arith, c.if-st-eq0.false)) _ c.in_default.is (omega (arith, c.requires)) (omega (arith, c.requires))
    (omega (arith, c.requires)))

pub at_second-s-requires : goal.at_second-s-requires
at_second-s-requires c = omega (arith, c.if-st-eq0.false)

pub process-requires : goal.process-requires
process-requires c = (
  omega (
    arith,
    c.requires,
    ap (λ s. s.items) c.at_second-s.ensures,
    ap (λ s. s.queue_start) c.at_second-s.ensures,
  ),
  (
    omega (
      arith,
      c.requires,
      ap (λ s. s.records) c.at_second-s.ensures,
    ),
    (
      omega (
        arith,
        c.requires,
        ap (λ s. s.live_runs) c.at_second-s.ensures,
      ),
      (
        omega (
          arith,
          c.requires,
          ap (λ s. s.reasons) c.at_second-s.ensures,
        ),
        omega (
          arith,
          c.requires,
        ),
      ),
    ),
  ),
)

pub returns : goal.returns
unfolding turn_m turn_with_m
returns c =
    states.moves (λ v n s. laws.with_taken (turn_with_m _ _) c.take.ensures c.in-Some.is
    (states.follow (process_m _ _ _) (laws.taken _ _ _ _ c.take.ensures (search rules) (omega (arith, c.requires))
    (omega (arith, c.if-st-eq0.false)) _ _ c.in-Some.is c.at_second-s.ensures) (c.process.ensures.does v n s)
    both two two two))
