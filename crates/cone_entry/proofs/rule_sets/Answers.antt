use borrow.Author.Rules.{rules}
use mathlib.Core.Path.{sym, ◌∙◌}
use Prim.Native.Nat.{◌-◌}
use Rattle.lint_collect.proofs.Laws as entry
use Rattle.lint_walk.proofs.Sizes as sizes
use Rattle.cone_entry.proofs.Laws as laws
use Rattle.cone_entry.proofs.rule_sets.Goals as goal

pub loop-i-init : goal.loop-i-init
loop-i-init c = (laws.writes_are _ _ _, laws.needs_are _ _ _)

pub writes-requires : goal.writes-requires
writes-requires c = (c.requires.0, (sizes.sized _ _ c.rule_walk-c.ensures).0)

pub needs-requires : goal.needs-requires
needs-requires c = (c.requires.0, (sizes.sized _ _ c.rule_walk-c.ensures).0)

pub loop-i-preserved : goal.loop-i-preserved
loop-i-preserved c = (
  c.loop-i.invariant.0 ∙ entry.fill_more _ _ _ _ c.loop-i-test.true
      (laws.write_is _ _ _ c.rule_walk-c.ensures c.writes.ensures),
  c.loop-i.invariant.1
      ∙ entry.fill_more _ _ _ _ c.loop-i-test.true
      (laws.need_is _ _ _ c.rule_walk-c.ensures c.needs.ensures),
)

pub returns : goal.returns
returns c =
    record {
      writes = sym (c.loop-i.invariant.0 ∙ entry.fill_end _ _ _ _ c.loop-i-test.false);
      needs =
          sym (c.loop-i.invariant.1 ∙ entry.fill_end _ _ _ _ c.loop-i-test.false);
    }
