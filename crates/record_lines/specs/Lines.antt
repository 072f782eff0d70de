-- The line of a record of `simulate`, with its place among the records and its newline: what a reader of the program's
-- output sees.
use Rattle.std.specs.Prelude.{ℕ, ◌∷◌, ◌++◌}
use Rattle.std.proofs.Math.Option.{Option, none, some}
use Rattle.texts.specs.Texts.{Text, text, decimal}
use Rattle.model_spec.specs.Model.{Source}
use Rattle.reasons.specs.Reasons.{placed}
use Rattle.engine_spec.specs.Records.{kind_name, detail, Change, Trace}
use Rattle.show.specs.Lines.{newline, quoted, dash}

-- a text between quotes, or `-`
unfoldable pub quoted_if : Option Text → Text
quoted_if none = dash
quoted_if (some t) = quoted t

-- LINE:COLUMN, or `-`
unfoldable pub placed_if : Option Source → Text
placed_if none = dash
placed_if (some s) = placed s.line s.column

-- ENTITY BEFORE AFTER, or three times `-`
unfoldable pub changed : Option Change → Text
changed none = text "- - -"
changed (some c) = quoted c.entity ++ (32 ∷ (quoted c.before ++ (32 ∷ quoted c.after)))

unfoldable pub record_line : (place : ℕ) → Trace → Text
record_line k t =
    text "record "
    ++ (decimal k
    ++ (32 ∷ (decimal t.at
    ++ (32 ∷ (kind_name t.kind
    ++ (32 ∷ (quoted_if t.automation
    ++ (32 ∷ (placed_if t.source
    ++ (32 ∷ (changed t.change
    ++ (32 ∷ (quoted (detail t.kind)
    ++ newline)))))))))))))

-- opens the file, for proofs by computation
unfoldable pub all_lines : Unit {0}
unfolding quoted_if placed_if changed record_line
all_lines = tt
