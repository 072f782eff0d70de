use mathlib.Core.Path.{◌∙◌}
use Prim.Native.Nat.{◌-◌}
use Rattle.lint_access.proofs.Laws as laws
use Rattle.lint_walk.specs.Raw.{past}
use Rattle.lint_access.proofs.add_write.Goals as goal

pub returns-then-kind_at-lt2 : goal.returns-then-kind_at-lt2
returns-then-kind_at-lt2 c =
    c.add_entity.ensures ∙ laws.write_yes _ _ _ _ c.kind_at.ensures c.if-kind_at-lt2.true
    c.past.ensures c.place_at-place.ensures

pub returns : goal.returns
returns c = laws.write_no _ _ _ _ c.kind_at.ensures c.if-kind_at-lt2.false
