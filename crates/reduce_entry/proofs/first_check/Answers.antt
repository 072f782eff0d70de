use native.Mathlib.Omega.{arith}
use mathlib.Core.Path.{sym, ap, ◌∙◌}
use Rattle.checker_entry.proofs.Refines.{whole_done, whole_full}
use Rattle.reduce_result.specs.Result.{no_reduction}
use Rattle.reduce_entry.proofs.Outcome as outcome
use Rattle.reduce_entry.proofs.first_check.Goals as goal

pub returns-then-s-ne0 : goal.returns-then-s-ne0
returns-then-s-ne0 c =
    outcome.first_full _ (λ k. omega (arith, c.shared_slice_known-1.given k)) c.check_of-c.ensures.checked
    (λ y. c.if-s-ne0.true (sym (whole_full c.check_of-c.ensures c.if-s-ne0.true) ∙ y))
    (c.refused.ensures ∙ ap no_reduction (sym (whole_full c.check_of-c.ensures c.if-s-ne0.true))) _

pub reduction-requires : goal.reduction-requires
reduction-requires c =
    outcome.aimed _ (λ k. omega (arith, c.shared_slice_known-1.given k))
    (whole_done c.check_of-c.ensures c.if-s-ne0.false) c.if-s-ne0.false c.is_violation.ensures c.if-is_violation.true
    c.requires

pub shape_of-queue-then-is_violation : goal.shape_of-queue-then-is_violation
shape_of-queue-then-is_violation c = omega (arith, c.reduction.auto.queue, c.check_of-c.auto.queue)

pub shape_of-records-then-is_violation : goal.shape_of-records-then-is_violation
shape_of-records-then-is_violation c = omega (arith, c.reduction.auto.records, c.check_of-c.auto.records)

pub shape_of-runs-then-is_violation : goal.shape_of-runs-then-is_violation
shape_of-runs-then-is_violation c = omega (arith, c.reduction.auto.runs, c.check_of-c.auto.runs)

pub shape_of-output-then-is_violation : goal.shape_of-output-then-is_violation
shape_of-output-then-is_violation c = c.reduction.auto.output

pub returns-then-is_violation : goal.returns-then-is_violation
returns-then-is_violation c =
    outcome.first_so _ (λ k. omega (arith, c.shared_slice_known-1.given k))
    (whole_done c.check_of-c.ensures c.if-s-ne0.false) c.if-s-ne0.false c.is_violation.ensures
    c.if-is_violation.true c.reduction.ensures c.check_of-c.auto.queue
    c.check_of-c.auto.records c.check_of-c.auto.runs

pub shape_of-queue : goal.shape_of-queue
shape_of-queue c = omega (arith, c.clear_three.auto.queue, c.check_of-c.auto.queue)

pub shape_of-records : goal.shape_of-records
shape_of-records c = omega (arith, c.clear_three.auto.records, c.check_of-c.auto.records)

pub shape_of-runs : goal.shape_of-runs
shape_of-runs c = omega (arith, c.clear_three.auto.runs, c.check_of-c.auto.runs)

pub returns : goal.returns
returns c =
    outcome.first_other _ (λ k. omega (arith, c.shared_slice_known-1.given k))
    (whole_done c.check_of-c.ensures c.if-s-ne0.false) c.if-s-ne0.false c.is_violation.ensures c.if-is_violation.false
    c.refused-2.ensures c.clear_three.ensures c.check_of-c.auto.queue
    c.check_of-c.auto.records c.check_of-c.auto.runs _
