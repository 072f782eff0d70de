use Prim.Native.Nat.{◌+◌}
use mathlib.Core.Path.{ap, ◌∙◌}
use native.Mathlib.Omega.{arith}
use Rattle.engine_state.proofs.Laws.{none, one, two, both}
use Rattle.engine_modes.proofs.Laws as laws
use Rattle.engine_modes.proofs.Compose as wholes
use Rattle.engine_modes.specs.Modes.{stop_start_m}
use borrow.Author.Rules.{rules}
use Rattle.engine_modes.proofs.stop_and_start.Goals as goal

pub log_rule-s2-requires : goal.log_rule-s2-requires
log_rule-s2-requires c = laws.fits_as 13 _ (ap (λ s. s.records) c.with_active-s1.ensures) c.requires.1.1.0

pub begin_now-requires : goal.begin_now-requires
begin_now-requires c = (
  c.requires.0,
  (
    laws.fits_as 5 _ (c.log_rule-s2.ensures.queue ∙ ap (λ s. s.queue_start + s.items) c.with_active-s1.ensures)
        c.requires.1.0,
    (
      c.log_rule-s2.ensures.records.1,
      omega (
        arith,
        c.requires,
        ap (λ s. s.live_runs) c.with_active-s1.ensures,
        c.log_rule-s2.ensures.runs,
        c.drop_runs-left.ensures.room,
      ),
    ),
  ),
)

pub returns : goal.returns
unfolding stop_start_m
returns c =
    wholes.next (wholes.next (laws.dropped _ _ _ c.requires.1.1.1 (search rules) _ _ _ c.drop_runs-left.ensures
    c.with_active-s1.ensures) c.log_rule-s2.ensures none two one none none none none) c.begin_now.ensures
    two both both none none none two
