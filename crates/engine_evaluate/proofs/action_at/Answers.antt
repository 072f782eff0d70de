use Rattle.engine_evaluate.specs.Actions.{action_m}
use Rattle.engine_evaluate.proofs.action_at.Goals as goal

pub returns : goal.returns
unfolding action_m
returns c =
    rw (
      ← c.byte_at-kind.ensures.0,
      ← c.after-p.ensures,
      ← c.four_at.ensures,
      ← c.four_at-2.ensures,
      ← c.effect_at-effect.ensures,
      ← c.after_effect.ensures,
    )
