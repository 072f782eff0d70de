use mathlib.Core.Path.{◌∙◌, ap}
use native.Mathlib.Omega.{arith}
use Prim.Native.Nat.{◌-◌}
use Rattle.lint_reach.specs.Steps.{leads_m}
use Rattle.lint_reach.proofs.Laws as laws
use Rattle.lint_reach.proofs.leads.Goals as goal
use Rattle.lint_reach.proofs.leads.Goals.{else-row-j, then-row-j}

pub loop-j-init : goal.loop-j-init
loop-j-init c = (laws.leads_none _, omega arith)

pub loop-j-preserved : goal.loop-j-preserved
loop-j-preserved c =
    let l = c.loop-j in (
      (elim c.if-row-j.branch [ then-row-j w ↦ w.some-is ∙ laws.leads_here _ l.j w.if-row-j.true | else-row-j w ↦ laws.leads_on _ l.j w.if-row-j.false (w.some-is ∙ l.invariant.0) ]),
      omega arith,
    )

pub returns : goal.returns
returns c = let l = c.loop-j in l.invariant.0 ∙ ap (leads_m _) (omega (arith, l.invariant.1, c.loop-j-test.false))
