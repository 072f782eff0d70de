use borrow.Author.Rules.{rules}
use mathlib.Core.Path.{sym, ◌∙◌, ap}
use Prim.Native.Nat.{◌+◌, ◌-◌}
use native.Mathlib.Omega.{arith}
use Rattle.runs.specs.Runs.{run_of}
use Rattle.runs.proofs.Laws as laws
use Rattle.runs.proofs.Lists as lists
use native.Mathlib.Nat.{zero-add}
use Rattle.runs.proofs.count_runs.Goals as goal
use Rattle.runs.proofs.count_runs.Goals.{then-run_of, else-run_of}

pub loop-k-init : goal.loop-k-init
loop-k-init c = (search rules, (search rules, λ l held. sym (zero-add _)))

pub loop-k-preserved : goal.loop-k-preserved
loop-k-preserved c =
    let a = c.args in let l = c.loop-k in
    elim c.if-run_of.branch [
      | then-run_of w ↦ (
        omega arith,
        (
          omega arith,
          λ m held. rw w.many-is (l.invariant.1.1 m held
              ∙ laws.count_on l.many (laws.counted_hit a.a.now a.n m held (run_of a.automation)
              (laws.run_of_blind a.automation) l.k c.loop-k-test.true
              (sym c.run_of.ensures ∙ w.if-run_of.true))),
        ),
      )
      | else-run_of w ↦ (
        omega arith,
        (
          omega arith,
          λ m held. rw w.many-is (l.invariant.1.1 m held
              ∙ ap (λ i. l.many + i) (laws.counted_pass a.a.now a.n m held (run_of a.automation)
              (laws.run_of_blind a.automation) l.k c.loop-k-test.true
              (sym c.run_of.ensures ∙ w.if-run_of.false))),
        ),
      )
    ]

pub returns : goal.returns
returns c =
    let a = c.args in let l = c.loop-k in record {
      is =
          λ m held. sym (l.invariant.1.1 m held ∙ laws.count_end l.many
          (lists.tally_end (run_of a.automation) m l.k (omega (arith, held.0))));
    }
