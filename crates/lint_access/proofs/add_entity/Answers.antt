use Rattle.lint_access.specs.Sets.{section_by}
use mathlib.Core.Path.{sym, ◌∙◌}
use Prim.Native.Nat.{◌-◌}
use Rattle.lint_access.proofs.Laws as laws
use Rattle.lint_access.proofs.add_entity.Goals as goal

pub returns-then-i-count : goal.returns-then-i-count
returns-then-i-count c =
    c.with.ensures
    ∙ sym (laws.entity_yes _ (section_by _ _) _ c.first_of-i.ensures.0 _ c.if-i-count.true)

pub returns : goal.returns
returns c = sym (laws.entity_no _ (section_by _ _) _ c.first_of-i.ensures.0 _ c.if-i-count.false)
