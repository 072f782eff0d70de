use native.Mathlib.Nat.{sub-zero, sub-add-eq}
use native.Mathlib.Omega.{arith}
use Prim.Native.Nat.{◌-◌}
use mathlib.Core.Path.{refl, ◌∙◌}
use Rattle.lint_words.proofs.Loops as words
use Rattle.lint_reads_lines.proofs.Loops as loops
use Rattle.show.proofs.Laws as show
use Rattle.lint_reads_lines.proofs.Laws as laws
use Rattle.lint_reads_lines.proofs.put_reads.Goals as goal

pub loop-init : goal.loop-init
loop-init c =
    rw sub-zero (words.begun refl)

pub loop-preserved : goal.loop-preserved
loop-preserved c =
    rw sub-add-eq (words.further (loops.read_next _ _ _ _ _ _ (omega arith) c.read_from-place.ensures c.behind-from.ensures)
    c.loop.invariant c.put_text_at-m.ensures)

pub shape_of-out : goal.shape_of-out
shape_of-out c = c.loop.invariant.written.same ∙ c.put_number-m.ensures.same

pub returns : goal.returns
returns c =
    show.is (laws.reads_listed _ _ _ c.reads_count.ensures)
    (show.both c.put_number-m.ensures (words.finished (loops.read_end _ _ _ _ (omega arith))
    c.loop.invariant))
