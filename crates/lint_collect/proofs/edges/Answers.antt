use mathlib.Core.Path.{sym, ◌∙◌}
use Prim.Native.Nat.{◌-◌}
use Rattle.lint_walk.proofs.Sizes as sizes
use Rattle.lint_collect.proofs.Laws as laws
use Rattle.lint_collect.proofs.edges.Goals as goal

pub loop-i-init : goal.loop-i-init
loop-i-init c = laws.edges_is _ _ _

pub reach_row-requires : goal.reach_row-requires
reach_row-requires c = (
  c.requires,
  (sizes.sized _ _ c.rule_walk-c.ensures).0,
)

pub loop-i-preserved : goal.loop-i-preserved
loop-i-preserved c =
    c.loop-i.invariant ∙ laws.fill_more _ _ _ _ c.loop-i-test.true
    (laws.edge_row _ _ _ _ c.rule_walk-c.ensures c.reach_row.ensures)

pub returns : goal.returns
returns c = sym (c.loop-i.invariant ∙ laws.fill_end _ _ _ _ c.loop-i-test.false)
