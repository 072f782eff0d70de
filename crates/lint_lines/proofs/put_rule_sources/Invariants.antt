use borrow.Author.Rules.{rules}
use Prim.Native.Nat.{ℕ, ◌-◌, ◌≤◌}
use Rattle.texts.specs.Lists.{each}
use Rattle.lint_reach.specs.Sets.{holds, members}
use Rattle.lint_words.specs.Lines.{spaced}
use Rattle.lint_words.proofs.Loops as loops
use Rattle.reasons.specs.Reasons.{placed}
use Rattle.lint_lines.specs.Numbers.{rule_source}
use Rattle.lint_lines.proofs.put_rule_sources.Given as goal

abbrev pub invariant-loop-i : goal.invariant-loop-i
invariant-loop-i l =
    loops.Part
    (spaced (each (λ (j : ℕ). placed (rule_source l.f l.rules j).line (rule_source l.f l.rules j).column) (members l.set)))
    (spaced (each (λ (j : ℕ). placed (rule_source l.f l.rules j).line (rule_source l.f l.rules j).column)
    (loops.from_on 32 (holds l.set) l.i))) l.initial.out l.initial.m l.out l.m × (l.i ≤ 32)
