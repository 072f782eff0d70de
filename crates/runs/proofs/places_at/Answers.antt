use borrow.Author.Rules.{rules}
use mathlib.Core.Path.{refl, ◌∙◌}
use Prim.Native.Nat.{◌-◌}
use native.Mathlib.Omega.{arith}
use lib.ListN.{drop}
use Rattle.runs.proofs.Laws as laws
use lib.ListN.{length-set, replicate}
use lib.Seq.{paste-zero}
use Rattle.runs.proofs.places_at.Goals as goal

pub loop-i-init : goal.loop-i-init
loop-i-init c = (search rules, (refl, paste-zero (replicate 17 0) 0 (drop c.args.at c.args.a.now)))

pub loop-i-preserved : goal.loop-i-preserved
loop-i-preserved c =
    let a = c.args in let l = c.loop-i in (
      search rules,
      (
        simp length-set l.invariant.1.0,
        rw l.invariant.1.1 (laws.places_one (replicate 17 0) a.a.now a.at l.i refl c.loop-i-test.true
            (search rules)),
      ),
    )

pub returns : goal.returns
returns c =
    let a = c.args in let l = c.loop-i in
    l.invariant.1.1 ∙ laws.places_all (replicate 17 0) a.a.now a.at l.i refl (omega arith)
