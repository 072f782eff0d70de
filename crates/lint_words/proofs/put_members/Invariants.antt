use Prim.Native.Nat.{ℕ, ◌-◌, ◌≤◌}
use Rattle.texts.specs.Lists.{each}
use Rattle.lint_reach.specs.Sets.{holds, members}
use Rattle.lint_words.specs.Lines.{spaced}
use Rattle.lint_words.proofs.Loops as loops
use Rattle.show.specs.Lines.{quoted}
use Rattle.lint_words.specs.Numbers.{name_of}
use Rattle.lint_words.proofs.put_members.Given as goal

abbrev pub invariant-loop-i : goal.invariant-loop-i
invariant-loop-i l =
    loops.Part (spaced (each (λ (j : ℕ). quoted (name_of l.f l.section j)) (members l.set)))
    (spaced (each (λ (j : ℕ). quoted (name_of l.f l.section j)) (loops.from_on 32 (holds l.set) l.i))) l.initial.out l.initial.m l.out l.m × (l.i ≤ 32)
