use borrow.Author.Rules.{rules}
use mathlib.Core.Path.{sym, ◌∙◌}
use Prim.Native.Nat.{◌-◌}
use Rattle.lint_reach.specs.Sets.{holds}
use Rattle.lint_words.specs.Numbers.{name_place}
use Rattle.lint_reads_lines.proofs.Loops as loops
use Rattle.lint_reads_lines.proofs.Laws as laws
use Rattle.lint_reads_lines.proofs.member_from.Goals as goal
use Rattle.lint_reads_lines.proofs.member_from.Goals.{then-has, else-has}

pub loop-i-init : goal.loop-i-init
loop-i-init c = (loops.least_begun _ _ _, search rules)

pub loop-i-preserved : goal.loop-i-preserved
loop-i-preserved c =
    elim c.if-has.branch [
      | then-has w ↦ rw w.best-is ((
        c.loop-i.invariant.0 ∙ loops.yes 32 (holds c.args.set) _ _ c.loop-i.i _ c.loop-i-test.true
            (sym c.has.ensures ∙ w.if-has.true)
            ∙ laws.next_best _ _ _ _ _ _ w.name_place.ensures w.lesser-best.ensures,
        search rules,
      ))
      | else-has w ↦ rw w.best-is ((
        c.loop-i.invariant.0 ∙ loops.no 32 (holds c.args.set) _ _ c.loop-i.i _ c.loop-i-test.true
            (sym c.has.ensures ∙ w.if-has.false),
        search rules,
      ))
    ]

pub returns : goal.returns
returns c = sym (c.loop-i.invariant.0 ∙ loops.over 32 _ _ _ _ _ c.loop-i-test.false)
