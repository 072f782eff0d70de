use mathlib.Core.Path.{◌∙◌}
use native.Mathlib.Omega.{arith}
use Rattle.engine_run.proofs.Laws as laws
use Rattle.engine_run.proofs.run_all.Goals as goal

pub run_loop-d-requires : goal.run_loop-d-requires
run_loop-d-requires c = (
  omega (arith, c.begun-s.ensures.queue),
  (
    omega (arith, c.begun-s.ensures.records),
    (
      omega (arith, c.requires, c.begun-s.ensures.runs),
      (omega (arith, c.requires, c.begun-s.ensures.reasons), omega (arith, c.requires)),
    ),
  ),
)

pub closed-requires : goal.closed-requires
closed-requires c =
    omega (
      arith,
      c.run_loop-d.ensures.records,
    )

pub shape_of-q : goal.shape_of-q
shape_of-q c = c.run_loop-d.ensures.queue.0 ∙ c.begun-s.ensures.queue.0

pub shape_of-a : goal.shape_of-a
shape_of-a c = c.closed.ensures.records.0 ∙ c.run_loop-d.ensures.records.0 ∙ c.begun-s.ensures.records.0

pub shape_of-r : goal.shape_of-r
shape_of-r c = c.run_loop-d.ensures.runs.0

pub shape_of-u : goal.shape_of-u
shape_of-u c = c.run_loop-d.ensures.reasons.0

pub returns : goal.returns
returns c = laws.wholly c.begun-s.ensures c.run_loop-d.ensures c.closed.ensures
