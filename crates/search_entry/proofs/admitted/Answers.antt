use Rattle.search_entry.proofs.Entry as entry
use native.Mathlib.Omega.{arith}
use borrow.Author.Rules.{rules}
use Rattle.search_entry.proofs.admitted.Goals as goal

pub refused-requires : goal.refused-requires
refused-requires c = search rules

pub returns-then-invariants-eq0 : goal.returns-then-invariants-eq0
returns-then-invariants-eq0 c = entry.admit_20 c.if-invariants-eq0.true c.refused.ensures

pub refused-requires-then-output-lt45 : goal.refused-requires-then-output-lt45
refused-requires-then-output-lt45 c = search rules

pub returns-then-output-lt45 : goal.returns-then-output-lt45
returns-then-output-lt45 c = entry.admit_44 c.if-invariants-eq0.false (omega (arith, c.if-output-lt45.true)) c.refused-then-output-lt45.ensures

pub overflow_sub-output : goal.overflow_sub-output
overflow_sub-output c = search rules

pub refused-requires-then-output-file : goal.refused-requires-then-output-file
refused-requires-then-output-file c = search rules

pub returns-then-output-file : goal.returns-then-output-file
returns-then-output-file c = entry.admit_44 c.if-invariants-eq0.false (omega (arith, c.if-output-lt45.false, c.if-output-file.true)) c.refused-then-output-file.ensures

pub run-requires : goal.run-requires
run-requires c = (c.requires, omega (arith, c.if-output-lt45.false, c.if-output-file.false))

pub shape_of-queue : goal.shape_of-queue
shape_of-queue c = search rules

pub shape_of-records : goal.shape_of-records
shape_of-records c = search rules

pub shape_of-runs : goal.shape_of-runs
shape_of-runs c = search rules

pub shape_of-output : goal.shape_of-output
shape_of-output c = search rules

pub returns : goal.returns
returns c = entry.admit_run c.if-invariants-eq0.false (omega (arith, c.if-output-lt45.false, c.if-output-file.false)) c.run.ensures
