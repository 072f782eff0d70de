use borrow.Author.Rules.{rules}
use mathlib.Core.Path.{refl, sym, ◌∙◌}
use Prim.Native.Nat.{◌-◌}
use Rattle.lint_walk.proofs.Sizes as sizes
use Rattle.lint_findings.proofs.Laws as items
use Rattle.lint_collect.proofs.Laws as laws
use Rattle.lint_collect.proofs.later_entries.Goals as goal

pub returns-then-count-from : goal.returns-then-count-from
returns-then-count-from c = λ k. sym (laws.later_none _ _ _ _ _ c.if-count-from.true)

pub loop-j-init : goal.loop-j-init
loop-j-init c = ((λ k. refl), refl)

pub pair_entries-out-requires : goal.pair_entries-out-requires
pair_entries-out-requires c = (c.requires.0, c.requires.2, search rules, (sizes.sized _ _ c.rule_walk-c.ensures).0)

pub loop-j-preserved : goal.loop-j-preserved
loop-j-preserved c = (
  (λ k. c.loop-j.invariant.0 k ∙ items.numbers_more _ _ _ _ c.loop-j-test.true
      (c.pair_entries-out.ensures k)),
  search rules,
)

pub returns : goal.returns
returns c =
    λ k. sym (laws.later_is _ _ _ _ _ c.rule_walk-c.ensures ∙ c.loop-j.invariant.0 k
    ∙ items.numbers_end _ _ _ _ c.loop-j-test.false)
