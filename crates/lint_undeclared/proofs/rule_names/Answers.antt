use mathlib.Core.Path.{refl, sym, ◌∙◌}
use Prim.Native.Nat.{◌-◌}
use Rattle.lint_walk.proofs.Sizes as sizes
use Rattle.lint_undeclared.proofs.Laws as laws
use Rattle.lint_undeclared.proofs.rule_names.Goals as goal
use Rattle.lint_undeclared.proofs.rule_names.Goals.{then-awaits, else-awaits}

pub loop-place-init : goal.loop-place-init
loop-place-init c = refl

pub awaits-requires : goal.awaits-requires
awaits-requires c = (sizes.sized _ _ c.rule_walk-c.ensures).0

pub loop-place-preserved : goal.loop-place-preserved
loop-place-preserved c =
    elim c.if-awaits.branch [
      | then-awaits w ↦ rw w.v-is (c.loop-place.invariant ∙ laws.names_more _ _ _ _ _ _ _ c.loop-place-test.true
          (laws.name_yes _ _ _ _ _ _ c.awaits.ensures w.if-awaits.true w.with_strange-v.ensures))
      | else-awaits w ↦ rw w.v-is (c.loop-place.invariant ∙ laws.names_more _ _ _ _ _ _ _ c.loop-place-test.true
          (laws.name_no _ _ _ _ _ _ c.awaits.ensures w.if-awaits.false))
    ]

pub returns : goal.returns
returns c =
    sym (laws.rule_is _ _ _ _ _ _ c.rule_walk-c.ensures ∙ c.loop-place.invariant
    ∙ laws.names_end _ _ _ _ _ _ _ c.loop-place-test.false)
