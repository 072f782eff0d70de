use mathlib.Core.Path.{◌≡◌, sym, ap, ◌∙◌}
use mathlib.Core.Bool.{false}
use Prim.Native.Nat.{ℕ, ◌-◌}
use native.Mathlib.Omega.{arith}
use Rattle.reduce.specs.Promises.{among}
use Rattle.reduce.proofs.Laws as laws
use Rattle.reduce.proofs.named.Goals as goal

pub loop-k-init : goal.loop-k-init
loop-k-init c = (laws.among_none _ _, (omega arith, c.requires))

pub returns-then-violated-k : goal.returns-then-violated-k
returns-then-violated-k c =
    sym (laws.among_hit _ _ c.args.n c.loop-k.k (omega (arith, c.loop-k-test.true))
    c.if-violated-k.true)

pub loop-k-preserved : goal.loop-k-preserved
loop-k-preserved c = (
  laws.among_miss _ _ c.loop-k.k c.loop-k.invariant.0 c.if-violated-k.false,
  (omega (arith, c.loop-k-test.true), c.loop-k.invariant.1.1),
)

pub returns : goal.returns
returns c =
    let z : c.loop-k.k ≡ c.args.n =
    omega (arith, c.loop-k-test.false, c.loop-k.invariant.1.0) in
    sym c.loop-k.invariant.0
    ∙ ap (λ (j : ℕ). among c.args.violated.now j c.args.target) z
