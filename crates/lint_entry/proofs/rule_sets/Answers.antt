use mathlib.Core.Path.{sym, ◌∙◌}
use Prim.Native.Nat.{◌-◌}
use Rattle.lint_collect.proofs.Laws as entry
use Rattle.lint_walk.proofs.Sizes as sizes
use Rattle.lint_entry.proofs.Laws as laws
use Rattle.lint_entry.proofs.rule_sets.Reads as reads
use Rattle.lint_entry.proofs.rule_sets.Goals as goal

pub loop-i-init : goal.loop-i-init
loop-i-init c = λ z y. (laws.reads_are _ _ _, laws.writes_are _ _ _)

pub reads-requires : goal.reads-requires
reads-requires c = (
  c.requires.0,
  (sizes.sized _ _ c.rule_walk-c.ensures).0,
)

pub writes-requires : goal.writes-requires
writes-requires c = (c.requires.0, (sizes.sized _ _ c.rule_walk-c.ensures).0)

pub loop-i-preserved : goal.loop-i-preserved
loop-i-preserved c =
    λ z y. (
      (c.loop-i.invariant z y).0 ∙ entry.fill_more _ _ _ _ c.loop-i-test.true
          (laws.read_is _ _ _ c.rule_walk-c.ensures c.reads.ensures),
      (c.loop-i.invariant z y).1
          ∙ entry.fill_more _ _ _ _ c.loop-i-test.true
          (laws.write_is _ _ _ c.rule_walk-c.ensures c.writes.ensures),
    )

pub returns : goal.returns
returns c = (
  sym ((c.loop-i.invariant _ _).0 ∙ entry.fill_end _ _ _ _ c.loop-i-test.false),
  sym ((c.loop-i.invariant _ _).1 ∙ entry.fill_end _ _ _ _ c.loop-i-test.false),
)
