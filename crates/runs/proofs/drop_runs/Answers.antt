use borrow.Author.Rules.{rules}
use mathlib.Core.Path.{refl, sym, ◌∙◌}
use Prim.Native.Nat.{◌-◌}
use native.Mathlib.Omega.{arith}
use lib.ListN.{length}
use Rattle.runs.specs.Runs.{run_at, other}
use Rattle.runs.proofs.Laws as laws
use Rattle.runs.proofs.drop_runs.Goals as goal

pub loop-k-init : goal.loop-k-init
loop-k-init c = (
  search rules,
  (
    search rules,
    (
      refl,
      λ l held. laws.kept_first (other c.args.automation) c.args.a.now c.args.n
          l held,
    ),
  ),
)

pub loop-k-preserved-then-run_of : goal.loop-k-preserved-then-run_of
loop-k-preserved-then-run_of c =
    let a = c.args in let l = c.loop-k in let t = c.loop-k-test.true in (
      omega arith,
      (
        omega arith,
        (
          omega arith,
          λ m held. laws.kept_out (other a.automation) (laws.other_blind a.automation) m
              (length a.a.now) l.k l.left l.a l.invariant.1.1.0 (l.invariant.1.1.1 m held)
              c.take_out.new.a t l.invariant.1.0
              (laws.other_no a.automation (run_at l.a l.k) (sym c.run_of.ensures ∙ c.if-run_of.true))
              c.take_out.ensures,
        ),
      ),
    )

pub loop-k-preserved : goal.loop-k-preserved
loop-k-preserved c =
    let a = c.args in let l = c.loop-k in let t = c.loop-k-test.true in (
      omega arith,
      (
        l.invariant.1.0,
        (
          l.invariant.1.1.0,
          λ m held. laws.kept_on (other a.automation) (laws.other_blind a.automation) m
              (length a.a.now) l.k l.left l.a l.invariant.1.1.0 (l.invariant.1.1.1 m held) t
              (laws.other_yes a.automation (run_at l.a l.k) (sym c.run_of.ensures ∙ c.if-run_of.false)),
        ),
      ),
    )

pub returns : goal.returns
returns c =
    let a = c.args in let l = c.loop-k in record {
      is =
          λ m held. laws.kept_is (other a.automation) (laws.other_blind a.automation) m (length a.a.now) l.k
          l.left l.a l.invariant.1.1.0 (l.invariant.1.1.1 m held) c.loop-k-test.false;
      many =
          λ m held. laws.kept_left (other a.automation) (laws.other_blind a.automation) m (length a.a.now) l.k
          l.left l.a l.invariant.1.1.0 (l.invariant.1.1.1 m held) c.loop-k-test.false;
      room = l.invariant.1.0;
    }
