use Prim.Native.Nat.{◌-◌, ◌≤◌}
use lib.ListN.{length, take}
use Rattle.texts.specs.Lists.{flat}
use Rattle.show.specs.Lines.{escape}
use Rattle.show.specs.Writing.{Written}
use Rattle.lint_words.proofs.put_escaped.Given as goal

abbrev pub invariant-loop-x : goal.invariant-loop-x
invariant-loop-x l = Written (flat escape (take l.x-index l.t)) l.initial.out l.n l.out l.m × (l.x-index ≤ length l.t)
