use mathlib.Core.Path.{refl, sym, ◌∙◌}
use Prim.Native.Nat.{◌-◌}
use mathlib.Core.Bool.{false}
use Rattle.lint_conditions.specs.Context.{section_of}
use Rattle.lint_collect.proofs.Laws as laws
use Rattle.lint_collect.proofs.reach_row.Goals as goal

pub loop-j-init : goal.loop-j-init
loop-j-init c = refl

pub loop-j-preserved : goal.loop-j-preserved
loop-j-preserved c =
    c.loop-j.invariant ∙ laws.fill_more _ _ _ _ c.loop-j-test.true
    c.leads_to.ensures

pub returns : goal.returns
returns c = sym (laws.row_is _ _ (section_of _ _) _ ∙ c.loop-j.invariant ∙ laws.fill_end _ _ _ _ c.loop-j-test.false)
