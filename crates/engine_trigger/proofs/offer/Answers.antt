use Rattle.engine_state.proofs.Laws.{none, two, both, same}
use Rattle.engine_state.proofs.Laws as states
use Rattle.engine_modes.proofs.Laws as modes
use Rattle.engine_modes.proofs.Compose as wholes
use Rattle.engine_modes.proofs.Compose.{apart, lent, shared}
use Rattle.engine_trigger.proofs.Laws as laws
use Rattle.engine_trigger.specs.Triggers.{offer_as_m}
use Rattle.engine_trigger.proofs.offer.Goals as goal

pub admit-requires : goal.admit-requires
admit-requires c = (
  c.requires.0,
  (
    modes.fits_as 5 _ c.log_trigger-s1.ensures.queue c.requires.1.0,
    (
      c.log_trigger-s1.ensures.records.1,
      (
        modes.fits_as 28 _ c.log_trigger-s1.ensures.runs c.requires.1.1.1.0,
        (modes.fits_as 5 _ c.log_trigger-s1.ensures.reasons c.requires.1.1.1.1.0, c.requires.1.1.1.1.1),
      ),
    ),
  ),
)

pub returns-then-any_matches : goal.returns-then-any_matches
unfolding offer_as_m
returns-then-any_matches c =
    wholes.part (wholes.next c.log_trigger-s1.ensures c.admit.ensures two both two two none none two)
    same same same same lent apart shared (λ v n s k. laws.offer_yes _ _ _ _ _ _ _ c.rule_word.ensures
    c.any_matches.ensures _ _ c.if-any_matches.true c.evaluate_all-judged.ensures c.rule_word-then-any_matches.ensures)

pub returns : goal.returns
returns c =
    states.moves
    (λ v n s. states.stay (λ k. laws.offer_no _ _ _ _ _ _ _ c.rule_word.ensures
    c.any_matches.ensures c.if-any_matches.false) (same c.requires.1.0) (same c.requires.1.1.0)
    (same c.requires.1.1.1.0) (same c.requires.1.1.1.1.0))
