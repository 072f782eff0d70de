use mathlib.Core.Path.{sym, ◌∙◌}
use Prim.Native.Nat.{◌-◌}
use Rattle.lint_conditions.proofs.Laws as laws
use Rattle.lint_conditions.specs.Context.{section_of}
use Rattle.lint_conditions.proofs.guarded.Goals as goal

pub loop-k-init : goal.loop-k-init
loop-k-init c = laws.list_start _ _ _

pub returns-then-guard : goal.returns-then-guard
returns-then-guard c =
    sym (laws.guarded_is _ (section_of _ _) _ _ ∙ c.loop-k.invariant
    ∙ laws.list_here _ _ _ _ c.loop-k-test.true (sym c.guard.ensures ∙ c.if-guard.true))

pub loop-k-preserved : goal.loop-k-preserved
loop-k-preserved c = c.loop-k.invariant ∙ laws.list_later _ _ _ _ c.loop-k-test.true (sym c.guard.ensures ∙ c.if-guard.false)

pub returns : goal.returns
returns c = sym (laws.guarded_is _ (section_of _ _) _ _ ∙ c.loop-k.invariant ∙ laws.list_end_lem _ _ _ _ c.loop-k-test.false)
