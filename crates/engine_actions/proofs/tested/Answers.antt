use native.Mathlib.Omega.{arith}
use mathlib.Core.Path.{refl}
use Rattle.engine_state.proofs.Laws.{same, wide}
use Rattle.engine_actions.proofs.Laws as laws
use Rattle.engine_modes.proofs.Compose as wholes
use Rattle.engine_modes.proofs.Compose.{apart}
use Rattle.engine_actions.specs.Actions.{tested_m}
use borrow.Author.Rules.{rules}
use Rattle.engine_actions.proofs.tested.Goals as goal

pub unclear-requires : goal.unclear-requires
unclear-requires c = (record { known = omega arith; is = refl }, (search rules, search rules))

pub returns-in-Yes : goal.returns-in-Yes
unfolding tested_m
returns-in-Yes c =
    wholes.part c.next_step.ensures same (wide c.requires.1.1.0) (wide c.requires.1.1.1.0)
    (wide c.requires.1.1.1.1.0) apart apart apart
    (λ v n s k. laws.tested_is _ _ _ _ _ _ _ c.in-Yes.is)

pub returns-in-No : goal.returns-in-No
unfolding tested_m
returns-in-No c =
    wholes.part c.finish.ensures same same same (wide c.requires.1.1.1.1.0) apart apart apart
    (λ v n s k. laws.tested_is _ _ _ _ _ _ _ c.in-No.is)

pub returns-in-Unknown : goal.returns-in-Unknown
unfolding tested_m
returns-in-Unknown c =
    wholes.part c.unclear.ensures same same same same apart apart apart
    (λ v n s k. laws.tested_is _ _ _ _ _ _ _ c.in-Unknown.is)
