use borrow.Author.Rules.{rules}
use mathlib.Core.Path.{refl, sym, ◌∙◌}
use Prim.Native.Nat.{◌-◌}
use Rattle.lint_findings.proofs.Laws as items
use Rattle.lint_notes.proofs.Laws as laws
use Rattle.lint_notes.proofs.note_findings.Goals as goal

pub loop-j-init : goal.loop-j-init
loop-j-init c = ((λ k. laws.items_is _ _ _ _ _ _), refl)

pub loop-j-preserved : goal.loop-j-preserved
loop-j-preserved c = (
  (λ k. c.loop-j.invariant.0 k ∙ items.numbers_more _ _ _ _ c.loop-j-test.true
      (items.one_finding _ c.note_words.ensures (c.push_finding-out.ensures k))),
  search rules,
)

pub returns : goal.returns
returns c = λ k. sym (c.loop-j.invariant.0 k ∙ items.numbers_end _ _ _ _ c.loop-j-test.false)
