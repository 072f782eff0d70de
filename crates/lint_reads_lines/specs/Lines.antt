-- The lines of `lint` on what is read and written, with their newlines: what a reader of the program's output sees.
use Rattle.std.specs.Prelude.{List, ◌∷◌, ◌++◌}
use Rattle.texts.specs.Texts.{Text}
use Rattle.show.specs.Lines.{newline, quoted}
use Rattle.lint_words.specs.Lines.{quoted_list}

-- the word is `reads` or `writes`
unfoldable pub touched_line : (word id : Text) → (entities : List Text) → Text
touched_line w id l = w ++ (32 ∷ (quoted id ++ (32 ∷ (quoted_list l ++ newline))))
