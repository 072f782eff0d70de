use mathlib.Core.Path.{refl, sym, ◌∙◌}
use Prim.Native.Nat.{◌≤◌, ◌<◌}
use native.Mathlib.Omega.{arith}
use borrow.Author.Tests.{ltb-true, ltb-false}
use Rattle.queue.proofs.Laws as laws
use Rattle.queue.proofs.take.Goals as goal

pub returns-in_err-it : goal.returns-in_err-it
returns-in_err-it c =
    let n = c.args.n in let none : n ≤ 0 = ltb-false 0 n (sym c.in_err-it.ensures.some) in
    record {
      is = λ l ln rep. c.from_residual.ensures ∙ c.in_err-it.ensures.item.is l ln rep;
      left = λ h l ln rep. absurd (omega arith);
      same = λ e. refl;
    }

pub clear-requires : goal.clear-requires
clear-requires c =
    let one : 0 < c.args.n = ltb-true 0 c.args.n (sym c.in_ok-it.ensures.some) in omega arith

pub returns : goal.returns
returns c =
    let a = c.args in let one : 0 < a.n = ltb-true 0 a.n (sym c.in_ok-it.ensures.some) in
    record {
      is = c.in_ok-it.ensures.item.is;
      left = λ h l ln rep. c.clear.ensures ∙ laws.left_is a.a.now a.first a.n l ln rep c.requires h;
      same = λ e. absurd (omega arith);
    }
