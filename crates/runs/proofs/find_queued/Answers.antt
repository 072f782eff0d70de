use borrow.Author.Rules.{rules}
use mathlib.Core.Path.{refl, sym, ◌∙◌}
use Prim.Native.Nat.{◌-◌}
use native.Mathlib.Omega.{arith}
use Rattle.runs.specs.Runs.{in_line}
use Rattle.runs.proofs.Laws as laws
use Rattle.runs.proofs.Lists as lists
use Rattle.runs.proofs.find_queued.Goals as goal

pub loop-k-init : goal.loop-k-init
loop-k-init c = (search rules, λ l held. refl)

pub returns-then-in_line : goal.returns-then-in_line
returns-then-in_line c =
    let a = c.args in let l = c.loop-k in record {
      is =
          λ m held. sym (l.invariant.1 m held ∙ laws.sought_hit a.a.now a.n m held (in_line a.automation)
          (laws.in_line_blind a.automation) l.k c.loop-k-test.true
          (sym c.in_line.ensures ∙ c.if-in_line.true));
      within =
          λ j e. laws.found_in l.k j a.n e c.loop-k-test.true;
    }

pub loop-k-preserved : goal.loop-k-preserved
loop-k-preserved c =
    let a = c.args in let l = c.loop-k in (
      search rules,
      λ m held. l.invariant.1 m held
          ∙ laws.sought_pass a.a.now a.n m held (in_line a.automation) (laws.in_line_blind a.automation) l.k
          c.loop-k-test.true (sym c.in_line.ensures ∙ c.if-in_line.false),
    )

pub returns : goal.returns
returns c =
    let a = c.args in let l = c.loop-k in record {
      is =
          λ m held. sym (l.invariant.1 m held ∙ lists.place_end (in_line a.automation) m l.k (omega (arith, held.0)));
      within = λ j e. laws.not_found j a.n e;
    }
