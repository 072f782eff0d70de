use mathlib.Core.Path.{ap}
use native.Mathlib.Omega.{arith}
use Rattle.engine_state.proofs.Laws.{none, one, two, both}
use Rattle.engine_modes.proofs.Laws as modes
use Rattle.engine_modes.proofs.Compose as wholes
use Rattle.engine_trigger.proofs.Laws as laws
use Rattle.engine_trigger.specs.Runs.{finish_run_m, finish_m}
use borrow.Author.Rules.{rules}
use Rattle.engine_trigger.proofs.finish.Goals as goal

pub log_rule-s2-requires : goal.log_rule-s2-requires
log_rule-s2-requires c = modes.fits_as 13 _ (ap (λ s. s.records) c.with_active-s1.ensures) c.requires.1.1.0

pub release-requires : goal.release-requires
release-requires c = (
  omega (
    arith,
    c.requires,
    ap (λ s. s.items) c.with_active-s1.ensures,
    ap (λ s. s.queue_start) c.with_active-s1.ensures,
    c.log_rule-s2.ensures.queue,
  ),
  omega (arith, c.requires, ap (λ s. s.live_runs) c.with_active-s1.ensures, c.log_rule-s2.ensures.runs),
)

pub returns : goal.returns
unfolding finish_m finish_run_m
returns c =
    laws.ran (finish_run_m _) c.run_at-run.ensures c.requires.0
    (wholes.next
    (wholes.next (laws.removed _ _ _ c.requires.1.1.1 (search rules) _ _ c.take_run.ensures
    c.with_active-s1.ensures c.requires.0) c.log_rule-s2.ensures none two one none none none none)
    c.release.ensures two one both none none none none)
