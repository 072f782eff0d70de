use mathlib.Core.Path.{sym, ◌∙◌}
use Prim.Native.Nat.{◌-◌}
use borrow.Author.Tests.{eq-eqb, ne_eqb}
use Rattle.lint_conditions.proofs.Laws as laws
use Rattle.lint_conditions.proofs.delays.Goals as goal

pub loop-k-init : goal.loop-k-init
loop-k-init c = laws.delays_is _ _ ∙ laws.list_start _ _ _

pub returns-then-kind_at-eq2 : goal.returns-then-kind_at-eq2
returns-then-kind_at-eq2 c =
    sym (c.loop-k.invariant ∙ laws.list_here _ _ _ _ c.loop-k-test.true
    (eq-eqb _ _ (sym c.kind_at.ensures ∙ c.if-kind_at-eq2.true)))

pub loop-k-preserved : goal.loop-k-preserved
loop-k-preserved c =
    c.loop-k.invariant ∙ laws.list_later _ _ _ _ c.loop-k-test.true
    (ne_eqb _ _ (λ e. c.if-kind_at-eq2.false (c.kind_at.ensures ∙ e)))

pub returns : goal.returns
returns c = sym (c.loop-k.invariant ∙ laws.list_end_lem _ _ _ _ c.loop-k-test.false)
