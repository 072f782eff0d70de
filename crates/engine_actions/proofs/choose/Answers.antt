use native.Mathlib.Omega.{arith}
use mathlib.Core.Path.{refl}
use Rattle.engine_state.proofs.Laws.{same, wide}
use Rattle.engine_actions.proofs.Laws as laws
use Rattle.engine_modes.proofs.Compose as wholes
use Rattle.engine_modes.proofs.Compose.{apart, lent}
use Rattle.engine_actions.specs.Actions.{chosen_m}
use borrow.Author.Rules.{rules}
use Rattle.engine_actions.proofs.choose.Goals as goal

pub unclear-requires : goal.unclear-requires
unclear-requires c = (record { known = omega arith; is = refl }, (search rules, search rules))

pub unclear-requires-in-Skip : goal.unclear-requires-in-Skip
unclear-requires-in-Skip c = (record { known = omega arith; is = refl }, (search rules, search rules))

pub returns-in-Take : goal.returns-in-Take
unfolding chosen_m
returns-in-Take c =
    wholes.part c.take_list.ensures same same same (wide c.requires.1.1.1.1.0) lent apart apart
    (λ v n s k. laws.choose_is _ _ _ _ _ _ _ _ _ c.in-Take.is c.select-b.ensures)

pub returns-in-Unclear : goal.returns-in-Unclear
unfolding chosen_m
returns-in-Unclear c =
    wholes.part c.unclear.ensures same same same same lent apart apart
    (λ v n s k. laws.choose_is _ _ _ _ _ _ _ _ _ c.in-Unclear.is c.select-b.ensures)

pub returns-in-Skip : goal.returns-in-Skip
unfolding chosen_m
returns-in-Skip c =
    wholes.part c.unclear-in-Skip.ensures same same same same lent apart apart
    (λ v n s k. laws.choose_is _ _ _ _ _ _ _ _ _ c.in-Skip.is c.select-b.ensures)
