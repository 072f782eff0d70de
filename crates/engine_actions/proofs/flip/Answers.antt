use mathlib.Core.Path.{refl}
use Rattle.engine_fields.proofs.Readable.{about_readable}
use native.Mathlib.Omega.{arith}
use Rattle.engine_state.proofs.Laws.{none, one, two, same, wide}
use Rattle.engine_state.proofs.Laws as states
use Rattle.engine_actions.proofs.Laws as laws
use Rattle.engine_modes.proofs.Compose as wholes
use Rattle.engine_modes.proofs.Compose.{apart, shared}
use Rattle.engine_modes.specs.Modes.{now_m}
use borrow.Author.Rules.{rules}
use Rattle.engine_actions.proofs.flip.Goals as goal

pub returns-then-e-gt31 : goal.returns-then-e-gt31
returns-then-e-gt31 c =
    states.moves (λ v n s. states.stay (λ k. laws.flip_none _ _ _ _ _ _ _ c.entity_of-e.ensures c.if-e-gt31.true)
    (same c.requires.0) (same c.requires.1.0) none (same c.requires.1.1.0))

pub uncertain-s1-requires : goal.uncertain-s1-requires
uncertain-s1-requires c = (
  search rules,
  (search rules, about_readable _ _ c.about_rule-why.ensures (record { known = omega arith; is = refl })),
)

pub next_step-requires : goal.next_step-requires
next_step-requires c = omega (arith, c.requires, c.uncertain-s1.ensures.queue)

pub returns-then-undecided : goal.returns-then-undecided
returns-then-undecided c =
    states.moves
    (λ v n s. states.renamed _
    (states.widen
    (states.follow (now_m _) (states.renamed _ (c.uncertain-s1.ensures.does _ _ _)
    (λ k. laws.doubt_is _ _ _ _ _ _ _ c.at_most-i.ensures.0 c.about_rule-why.ensures))
    (c.next_step.ensures.does _ _ _) two none none one) same (wide c.requires.1.0) none same)
    (λ k. laws.flip_unknown _ _ _ _ _ _ _ c.entity_of-e.ensures _ c.if-e-gt31.false c.undecided.ensures
    c.if-undecided.true))

pub returns : goal.returns
returns c =
    wholes.part c.set.ensures same same none (wide c.requires.1.1.0) shared shared apart
    (λ v n s k. laws.flip_set _ _ _ _ _ _ _ c.entity_of-e.ensures _ c.if-e-gt31.false c.undecided.ensures _
    c.if-undecided.false c.toggled-value.ensures)
