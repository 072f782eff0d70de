use mathlib.Core.Path.{◌≡◌, sym, ◌∙◌}
use native.Mathlib.Omega.{arith}
use Prim.Native.Nat.{◌-◌}
use Rattle.cone_close.proofs.Laws as laws
use Rattle.cone_close.proofs.first.Goals as goal

pub loop-i-init : goal.loop-i-init
loop-i-init c = laws.first_start _ _ _

pub returns-then-adds : goal.returns-then-adds
returns-then-adds c =
    sym (c.loop-i.invariant ∙ laws.first_here _ _ _ _ c.loop-i-test.true c.adds.ensures
    c.if-adds.true)

pub loop-i-preserved : goal.loop-i-preserved
loop-i-preserved c = c.loop-i.invariant ∙ laws.first_later _ _ _ _ c.loop-i-test.true c.adds.ensures c.if-adds.false

pub returns : goal.returns
returns c =
    let e : c.args.count ≡ c.loop-i.i = omega arith in e ∙ sym (c.loop-i.invariant ∙ laws.first_end _ _ _ _ c.loop-i-test.false)
