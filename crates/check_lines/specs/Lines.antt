-- The lines of `check`, with their newlines: what a reader of the programs' output sees. The line of a violation and of a
-- reason comes in two forms: with bare texts (`showcheck`), and with quoted texts and the message (`showfullcheck`).
use Rattle.std.specs.Prelude.{ℕ, [], ◌∷◌, ◌++◌}
use Rattle.texts.specs.Texts.{Text, text, decimal}
use Rattle.checker_spec.specs.Judge.{message}
use Rattle.checker_spec.specs.Check.{Violation, Status, status_name}
use Rattle.show.specs.Lines.{newline, quoted}
use Rattle.simulate_lines.specs.Lines.{text_line}
use Rattle.record_lines.specs.Lines.{placed_if}

unfoldable pub status_line : Status → Text
status_line s = text "status " ++ (status_name s ++ newline)

-- ---- a violation

-- ` SECOND INDEX `
unfoldable pub moment : (second index : ℕ) → Text
moment s i = 32 ∷ (decimal s ++ (32 ∷ (decimal i ++ (32 ∷ []))))

unfoldable pub bare_violated : Violation → Text
bare_violated v = text "violated " ++ (v.invariant ++ (moment v.at v.index ++ (placed_if v.source ++ newline)))

unfoldable pub full_violated : Violation → Text
full_violated v =
    text "violated "
    ++ (quoted v.invariant
    ++ (moment v.at v.index
    ++ (placed_if v.source
    ++ (32 ∷ (quoted (message v.failure) ++ newline)))))

-- ---- a word and a reason: `unknown TEXT`

unfoldable pub bare_reason : (word : Text) → Text → Text
bare_reason w t = w ++ (32 ∷ (t ++ newline))

abbrev pub full_reason : (word : Text) → Text → Text
full_reason = text_line

-- opens the file, for proofs by computation
unfoldable pub all_lines : Unit {0}
unfolding status_line moment bare_violated full_violated bare_reason
all_lines = tt
