use borrow.Author.Rules.{rules}
use mathlib.Core.Path.{refl, sym, ◌∙◌}
use Prim.Native.Nat.{◌-◌}
use Rattle.lint_reads_lines.specs.Numbers.{is_read}
use Rattle.lint_reads_lines.proofs.Loops as loops
use Rattle.lint_reads_lines.proofs.Laws as laws
use Rattle.lint_reads_lines.proofs.stranger_from.Goals as goal
use Rattle.lint_reads_lines.proofs.stranger_from.Goals.{then-is_read, else-is_read}

pub loop-k-init : goal.loop-k-init
loop-k-init c = (laws.strangers_begin _ _ _ _, search rules)

pub loop-k-preserved : goal.loop-k-preserved
loop-k-preserved c =
    elim c.if-is_read.branch [
      | then-is_read w ↦ rw w.least-is ((
        c.loop-k.invariant.0 ∙ loops.yes 64 _ _ _ c.loop-k.k _ c.loop-k-test.true
            (sym c.is_read.ensures ∙ w.if-is_read.true)
            ∙ laws.next_best _ _ _ _ _ _ refl w.lesser-least.ensures,
        search rules,
      ))
      | else-is_read w ↦ rw w.least-is ((
        c.loop-k.invariant.0 ∙ loops.no 64 _ _ _ c.loop-k.k _ c.loop-k-test.true
            (sym c.is_read.ensures ∙ w.if-is_read.false),
        search rules,
      ))
    ]

pub returns : goal.returns
returns c = sym (c.loop-k.invariant.0 ∙ loops.over 64 _ _ _ _ _ c.loop-k-test.false)
