use Prim.Native.Nat.{◌-◌}
use Rattle.texts.proofs.FromIndex as compared
use Rattle.reasons.specs.Reasons.{render}
use mathlib.Core.Path.{refl, sym, ◌∙◌}
use native.Mathlib.Omega.{arith}
use borrow.Author.Rules.{rules}
use Rattle.reasons.proofs.compare.Goals as goal

pub loop-i-init : goal.loop-i-init
loop-i-init c = (refl, search rules)

pub returns-then-m-i : goal.returns-then-m-i
returns-then-m-i c =
    let a = c.args in sym (c.loop-i.invariant.0
    ∙ compared.longer (render a.f.now a.a) (render a.f.now a.b) c.loop-i.i (omega arith)
    (omega arith))

pub returns-then-x-y : goal.returns-then-x-y
returns-then-x-y c =
    let a = c.args in
    sym (c.loop-i.invariant.0 ∙ compared.less (render a.f.now a.a) (render a.f.now a.b) c.loop-i.i
    (omega arith) (omega arith) (omega arith))

pub returns-then-y-x : goal.returns-then-y-x
returns-then-y-x c =
    let a = c.args in
    sym (c.loop-i.invariant.0 ∙ compared.more (render a.f.now a.a) (render a.f.now a.b) c.loop-i.i
    (omega arith) (omega arith) (omega arith))

pub loop-i-preserved : goal.loop-i-preserved
loop-i-preserved c =
    let a = c.args in (
      c.loop-i.invariant.0 ∙ compared.same (render a.f.now a.a) (render a.f.now a.b) c.loop-i.i (omega arith)
          (omega arith) (omega arith) (omega arith),
      omega arith,
    )

pub returns-then-n-m : goal.returns-then-n-m
returns-then-n-m c =
    let a = c.args in sym (c.loop-i.invariant.0
    ∙ compared.shorter (render a.f.now a.a) (render a.f.now a.b) c.loop-i.i (omega arith)
    (omega arith))

pub returns : goal.returns
returns c =
    let a = c.args in sym (c.loop-i.invariant.0
    ∙ compared.ends (render a.f.now a.a) (render a.f.now a.b) c.loop-i.i (omega arith)
    (omega arith))
