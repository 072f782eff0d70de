-- A gap as words, by the definition.
use Rattle.std.specs.Prelude.{ℕ, List, [], ◌∷◌}

unfoldable pub gap_words : ℕ → List ℕ
gap_words g = g ∷ []
