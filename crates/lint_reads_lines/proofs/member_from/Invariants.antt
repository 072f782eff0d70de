use mathlib.Core.Path.{◌≡◌}
use Prim.Native.Nat.{◌-◌, ◌≤◌}
use Rattle.texts.specs.Lists.{each, through}
use Rattle.lint_reach.specs.Sets.{holds, members}
use Rattle.lint_words.specs.Numbers.{name_place}
use Rattle.lint_reads_lines.specs.Numbers.{lesser, least_from}
use Rattle.lint_words.proofs.Loops.{from_on}
use Rattle.lint_reads_lines.proofs.member_from.Given as goal

abbrev pub invariant-loop-i : goal.invariant-loop-i
invariant-loop-i l =
    (least_from l.from (each (name_place l.f l.section) (members l.set))
    ≡ through (lesser l.from) (each (name_place l.f l.section) (from_on 32 (holds l.set) l.i)) l.best) × (l.i ≤ 32)
