use mathlib.Core.Path.{sym, ◌∙◌}
use Prim.Native.Nat.{◌-◌}
use Rattle.lint_collect.proofs.Laws as laws
use Rattle.lint_collect.proofs.action_leads.Goals as goal

pub returns-then-kind_at-gt1 : goal.returns-then-kind_at-gt1
returns-then-kind_at-gt1 c = sym (laws.action_no _ _ _ _ c.kind_at.ensures c.if-kind_at-gt1.true)

pub returns : goal.returns
returns c =
    c.leads.ensures ∙ laws.action_is _ _ _ _ c.kind_at.ensures c.if-kind_at-gt1.false c.past.ensures
    c.place_at-x.ensures c.value-v.ensures
