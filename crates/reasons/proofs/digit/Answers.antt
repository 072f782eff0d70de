use Prim.Native.Nat.{◌-◌}
use native.Mathlib.Nat.{sub-zero, sub-add-eq}
use Rattle.reasons.proofs.Digits as digits
use mathlib.Core.Path.{◌≡◌, refl, sym, ◌∙◌}
use native.Mathlib.Omega.{arith}
use Rattle.reasons.proofs.digit.Goals as goal

pub loop-init : goal.loop-init
loop-init c = rw sub-zero (refl, c.requires, omega arith)

pub loop-preserved : goal.loop-preserved
loop-preserved c =
    let l = c.loop in let s = digits.digit_next l.x (omega arith) (c.args.left - l.counter) (omega arith)
    l.invariant.1 in rw sub-add-eq (l.invariant.0 ∙ s.1, s.0, omega arith)

pub returns : goal.returns
returns c =
    let l = c.loop in let z : c.args.left - l.counter ≡ 0 = omega arith in
    sym (rw z at l.invariant.0 ∙ digits.digit_last l.x (omega arith))
