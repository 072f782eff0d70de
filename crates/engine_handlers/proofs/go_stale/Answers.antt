use Rattle.engine_state.proofs.Laws.{none, same}
use Rattle.engine_state.proofs.Laws as states
use Rattle.engine_handlers.proofs.Laws as laws
use Rattle.engine_modes.proofs.Compose as wholes
use Rattle.engine_modes.proofs.Compose.{apart, lent, shared}
use Rattle.engine_handlers.proofs.go_stale.Goals as goal

pub returns-then-e-gt31 : goal.returns-then-e-gt31
returns-then-e-gt31 c =
    states.moves (λ v n s. states.stay (λ k. laws.stale_none _ _ _ _ _ c.entity_of-e.ensures c.if-e-gt31.true)
    (same c.requires.0) (same c.requires.1) none none)

pub returns-then-versions-e : goal.returns-then-versions-e
returns-then-versions-e c =
    states.moves
    (λ v n s. states.stay (λ k. laws.stale_old _ _ _ _ _ c.entity_of-e.ensures c.if-e-gt31.false
    c.if-versions-e.true) (same c.requires.0) (same c.requires.1) none none)

pub returns-then-values-e : goal.returns-then-values-e
returns-then-values-e c =
    states.moves
    (λ v n s. states.stay (λ k. laws.stale_known _ _ _ _ _ c.entity_of-e.ensures c.if-e-gt31.false c.if-versions-e.false
    c.if-values-e.true) (same c.requires.0) (same c.requires.1) none none)

pub returns : goal.returns
returns c =
    wholes.part c.expire.ensures same same none none shared lent apart
    (λ v n s k. laws.stale_goes _ _ _ _ _ c.entity_of-e.ensures c.if-e-gt31.false c.if-versions-e.false c.if-values-e.false)
