use mathlib.Core.Path.{refl, ◌∙◌}
use native.Mathlib.Omega.{arith}
use Rattle.engine_fields.proofs.Readable.{about_readable}
use Rattle.engine_state.proofs.Laws.{same, wide}
use Rattle.engine_state.proofs.Laws as states
use Rattle.engine_trigger.proofs.Laws as laws
use borrow.Author.Rules.{rules}
use Rattle.engine_trigger.proofs.admit.Goals as goal

pub returns-then-two_at-eq0 : goal.returns-then-two_at-eq0
returns-then-two_at-eq0 c =
    states.moves
    (λ v n s. states.renamed _ (states.widen (c.carry_out.ensures.does _ _ s) same same same
    (wide c.requires.1.1.1.1.0)) (λ k. laws.admit_yes _ _ _ _ _ _ c.rule_word-notes.ensures
    c.two_at.ensures.0 c.if-two_at-eq0.true ∙ laws.admit_is _ _ _ _ _ _ c.in-Yes.is))

pub uncertain-requires : goal.uncertain-requires
uncertain-requires c = (
  search rules,
  (search rules, about_readable _ _ c.about_rule-why.ensures (record { known = omega arith; is = refl })),
)

pub returns-else-two_at-eq0 : goal.returns-else-two_at-eq0
returns-else-two_at-eq0 c =
    states.moves
    (λ v n s. states.stay (λ k. laws.admit_not _ _ _ _ _ _ c.rule_word-notes.ensures
    c.two_at.ensures.0 c.if-two_at-eq0.false ∙ laws.admit_is _ _ _ _ _ _ c.in-Yes.is)
    (same c.requires.1.0) (same c.requires.1.1.0) (same c.requires.1.1.1.0) (same c.requires.1.1.1.1.0))

pub returns-in-No : goal.returns-in-No
returns-in-No c =
    states.moves (λ v n s. states.stay (λ k. laws.admit_no c.args.f.now c.args.x.now c.args.i c.args.t _ c.in-No.is) (same c.requires.1.0)
    (same c.requires.1.1.0) (same c.requires.1.1.1.0) (same c.requires.1.1.1.1.0))

pub returns-in-Unknown : goal.returns-in-Unknown
returns-in-Unknown c =
    states.moves
    (λ v n s. states.renamed _ (states.widen (c.uncertain.ensures.does _ _ _) (wide c.requires.1.0)
    (wide c.requires.1.1.0) (wide c.requires.1.1.1.0) same)
    (λ k. laws.admit_unknown _ _ _ _ _ c.about_rule-why.ensures
    ∙ laws.admit_is _ _ _ _ _ _ c.in-Unknown.is))
