use borrow.Author.Rules.{rules}
use mathlib.Core.Path.{◌≡◌}
use Prim.Native.Nat.{◌-◌, ◌≤◌}
use Rattle.texts.specs.Lists.{through}
use Rattle.lint_spec.specs.Reach.{places}
use Rattle.lint_reads_lines.specs.Numbers.{better, rule_from}
use Rattle.lint_reads_lines.proofs.rule_from.Given as goal

abbrev pub invariant-loop-i : goal.invariant-loop-i
invariant-loop-i l = (rule_from l.f l.rules l.from ≡ through (better l.f l.rules l.from) (places (l.rules.count - l.i) l.i) l.found) × (l.i ≤ l.rules.count)
