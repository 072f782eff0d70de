use mathlib.Core.Path.{sym, ◌∙◌}
use Prim.Native.Nat.{◌-◌}
use Rattle.lint_conditions.proofs.Laws as tests
use Rattle.lint_undeclared.proofs.Laws as laws
use Rattle.lint_undeclared.proofs.awaits.Goals as goal

pub loop-k-init : goal.loop-k-init
loop-k-init c = laws.awaits_is _ _ _ ∙ tests.list_start _ _ _

pub returns-then-awaits_at : goal.returns-then-awaits_at
returns-then-awaits_at c =
    sym (c.loop-k.invariant ∙ tests.list_here _ _ _ _ c.loop-k-test.true
    (sym c.awaits_at.ensures ∙ c.if-awaits_at.true))

pub loop-k-preserved : goal.loop-k-preserved
loop-k-preserved c = c.loop-k.invariant ∙ tests.list_later _ _ _ _ c.loop-k-test.true (sym c.awaits_at.ensures ∙ c.if-awaits_at.false)

pub returns : goal.returns
returns c = sym (c.loop-k.invariant ∙ tests.list_end_lem _ _ _ _ c.loop-k-test.false)
