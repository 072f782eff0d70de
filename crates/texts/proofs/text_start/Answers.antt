use mathlib.Core.Path.{refl, sym, ◌∙◌}
use Prim.Native.Nat.{◌-◌}
use native.Mathlib.Nat.{sub-zero, sub-add-eq}
use native.Mathlib.Omega.{arith}
use borrow.Author.Rules.{rules}
use Rattle.texts.proofs.Laws as laws
use Rattle.texts.proofs.text_start.Goals as goal

pub loop-init : goal.loop-init
loop-init c = (rw sub-zero, search rules)

pub loop-preserved : goal.loop-preserved
loop-preserved c = (
  rw sub-add-eq (c.loop.invariant.0 ∙ laws.start_next _ _ _ _ (omega arith) c.length_byte.ensures.0),
  omega arith,
)

pub returns : goal.returns
returns c = sym (c.loop.invariant.0 ∙ laws.start_end _ _ _ (omega arith))
