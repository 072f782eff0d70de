use borrow.Author.Rules.{rules}
use mathlib.Core.Path.{refl, ◌∙◌}
use Prim.Native.Nat.{◌-◌}
use native.Mathlib.Omega.{arith}
use lib.ListN.{length-set}
use lib.Seq.{paste-zero}
use Rattle.areas.proofs.Lists as lists
use Rattle.c_encoding.proofs.put_words.Goals as goal

pub loop-k-init : goal.loop-k-init
loop-k-init c = (
  search rules,
  (
    refl,
    paste-zero c.args.out.now c.args.at
        c.args.w.now,
  ),
)

pub loop-k-preserved : goal.loop-k-preserved
loop-k-preserved c =
    let a = c.args in let l = c.loop-k in let w = c.wide in (
      search rules,
      (
        simp length-set l.invariant.1.0,
        rw (w.ensures, l.invariant.1.1) (lists.put_one a.out.now a.w.now a.at l.k (omega arith)
            (search rules)),
      ),
    )

pub returns : goal.returns
returns c =
    let a = c.args in let l = c.loop-k in l.invariant.1.1
    ∙ lists.put_all a.out.now a.w.now a.at l.k (omega arith)
