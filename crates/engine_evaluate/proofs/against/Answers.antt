use mathlib.Core.Path.{sym, ◌∙◌}
use borrow.Author.Tests.{eq-eqb, ne_eqb}
use Rattle.engine_evaluate.specs.Evaluate.{against_m}
use Rattle.engine_evaluate.proofs.against.Goals as goal

pub returns-then-present-v : goal.returns-then-present-v
unfolding against_m
returns-then-present-v c = rw (eq-eqb _ _ c.if-present-v.true)

pub returns-then-undecided : goal.returns-then-undecided
unfolding against_m
returns-then-undecided c = rw (ne_eqb _ _ c.if-present-v.false, sym c.undecided.ensures ∙ c.if-undecided.true)

pub returns : goal.returns
unfolding against_m
returns c = rw (ne_eqb _ _ c.if-present-v.false, sym c.undecided.ensures ∙ c.if-undecided.false)
