-- A few texts and lines, computed.
use mathlib.Core.Path.{◌≡◌, refl}
use mathlib.Core.List.{[], ◌∷◌, ◌++◌}
use Rattle.texts.specs.Lists.{all_lists}
use Rattle.texts.specs.Texts.{text, decimal, all_texts}
use Rattle.reasons.specs.Reasons.{placed}
use Rattle.std.specs.Prelude.{Some, None}
use Rattle.show.specs.Lines.{newline, quoted, source, accepted_line, refused_line, model_line, all_lines}

-- a, a quote, a backslash, b
quoted_both : quoted (97 ∷ 34 ∷ 92 ∷ 98 ∷ []) ≡ 34 ∷ 97 ∷ 92 ∷ 34 ∷ 92 ∷ 92 ∷ 98 ∷ 34 ∷ []
unfolding all_lines all_lists
quoted_both = refl

largest : decimal 18446744073709551615 ≡ text "18446744073709551615"
unfolding all_texts
largest = refl

some_source : source (Some (7, 3)) ≡ text "7:3"
unfolding all_lines all_texts placed
some_source = refl

no_source : source None ≡ text "-"
unfolding all_lines
no_source = refl

lines : accepted_line ++ (refused_line 30 ++ model_line 0)
    ≡ text "accepted" ++ (newline ++ (text "refused 30" ++ (newline ++ (text "model 0" ++ newline))))
unfolding all_lines all_texts
lines = refl
