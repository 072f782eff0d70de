use native.Mathlib.Nat.{sub-zero, sub-add-eq}
use Prim.Native.Nat.{◌-◌}
use borrow.Author.Rules.{rules}
use mathlib.Core.Path.{sym, ◌∙◌}
use native.Mathlib.Omega.{arith}
use Rattle.lint_reads_lines.proofs.Loops as loops
use Rattle.lint_reads_lines.proofs.reads_count.Goals as goal

pub loop-init : goal.loop-init
loop-init c =
    rw sub-zero ((omega arith, search rules))

pub counted-many-requires : goal.counted-many-requires
counted-many-requires c = omega (arith, c.loop.invariant.1, c.loop-test.true)

pub loop-preserved : goal.loop-preserved
loop-preserved c =
    rw sub-add-eq (loops.count_next _ _ _ _ _ _ _ _ c.loop.invariant (omega arith) c.read_from-place.ensures
    c.counted-many.ensures c.behind-from.ensures)

pub returns : goal.returns
returns c = sym (c.loop.invariant.0 ∙ sym (loops.count_end _ _ _ _ (omega arith)))
