use Prim.Native.Nat.{◌+◌}
use mathlib.Core.Path.{ap, ◌∙◌}
use Rattle.engine_table.proofs.Laws as laws
use Rattle.engine_table.proofs.notes_word.Goals as goal

pub returns-then-source-gt4294967287 : goal.returns-then-source-gt4294967287
returns-then-source-gt4294967287 c = laws.cap_far _ _ c.source_at-source.ensures c.if-source-gt4294967287.true

pub returns : goal.returns
returns c =
    c.capped.ensures
    ∙ ap (λ p. Rattle.engine_fields.specs.Fields.cap (p + 8)) c.source_at-source.ensures
