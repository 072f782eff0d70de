use borrow.Author.Rules.{rules}
use mathlib.Core.Path.{refl, sym, ◌∙◌}
use Prim.Native.Nat.{◌-◌}
use native.Mathlib.Omega.{arith}
use Rattle.runs.specs.Runs.{is_run}
use Rattle.runs.proofs.Laws as laws
use Rattle.runs.proofs.Lists as lists
use Rattle.runs.proofs.find_run.Goals as goal

pub loop-k-init : goal.loop-k-init
loop-k-init c = (search rules, λ l held. refl)

pub returns-then-is_run : goal.returns-then-is_run
returns-then-is_run c =
    let a = c.args in let l = c.loop-k in record {
      is =
          λ m held. sym (l.invariant.1 m held ∙ laws.sought_hit a.a.now a.n m held (is_run a.automation a.sequence)
          (laws.is_run_blind a.automation a.sequence) l.k c.loop-k-test.true
          (sym c.is_run.ensures ∙ c.if-is_run.true));
      within =
          λ j e. laws.found_in l.k j a.n e c.loop-k-test.true;
    }

pub loop-k-preserved : goal.loop-k-preserved
loop-k-preserved c =
    let a = c.args in let l = c.loop-k in (
      search rules,
      λ m held. l.invariant.1 m held
          ∙ laws.sought_pass a.a.now a.n m held (is_run a.automation a.sequence)
          (laws.is_run_blind a.automation a.sequence) l.k c.loop-k-test.true
          (sym c.is_run.ensures ∙ c.if-is_run.false),
    )

pub returns : goal.returns
returns c =
    let a = c.args in let l = c.loop-k in record {
      is =
          λ m held. sym (l.invariant.1 m held ∙ lists.place_end (is_run a.automation a.sequence) m l.k
          (omega (arith, held.0)));
      within = λ j e. laws.not_found j a.n e;
    }
