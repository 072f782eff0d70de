use mathlib.Core.Path.{ap, sym}
use mathlib.Core.Bool.{not}
use Prim.Native.Nat.{◌-◌}
use Rattle.lint_conditions.proofs.Laws as laws
use Rattle.lint_conditions.proofs.unguarded.Goals as goal

pub returns-then-not-guarded : goal.returns-then-not-guarded
returns-then-not-guarded c = sym (laws.unguarded_on _ _ _ _ c.if-v-given.true c.guarded.ensures (ap not c.if-not-guarded.true))

pub returns-then-v-given : goal.returns-then-v-given
returns-then-v-given c =
    laws.unguarded_off _ _ _ _ c.if-v-given.true c.guarded.ensures (ap not c.if-not-guarded.false)
    c.guarded-then-v-given.ensures

pub returns : goal.returns
returns c = laws.unguarded_one _ _ _ _ c.if-v-given.false c.guarded-2.ensures
