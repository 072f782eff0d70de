use mathlib.Core.Path.{sym, ◌∙◌}
use Prim.Native.Nat.{◌-◌}
use Rattle.lint_conditions.proofs.Laws as tests
use Rattle.lint_collect.proofs.Laws as laws
use Rattle.lint_collect.proofs.leads_to.Goals as goal

pub loop-k-init : goal.loop-k-init
loop-k-init c = laws.leads_is _ _ _ _ ∙ tests.list_start _ _ _

pub returns-then-action_leads : goal.returns-then-action_leads
returns-then-action_leads c =
    sym (c.loop-k.invariant ∙ tests.list_here _ _ _ _ c.loop-k-test.true
    (sym c.action_leads.ensures ∙ c.if-action_leads.true))

pub loop-k-preserved : goal.loop-k-preserved
loop-k-preserved c = c.loop-k.invariant ∙ tests.list_later _ _ _ _ c.loop-k-test.true (sym c.action_leads.ensures ∙ c.if-action_leads.false)

pub returns : goal.returns
returns c = sym (c.loop-k.invariant ∙ tests.list_end_lem _ _ _ _ c.loop-k-test.false)
