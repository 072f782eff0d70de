-- What the code takes the lines from: the file's texts by place.
use Rattle.std.specs.Prelude.{ℕ, List, [], get_or}
use Rattle.layout.specs.Table.{text_count_word}
use Rattle.texts.specs.Texts.{Text}
use Rattle.texts.specs.Places.{texts_from}

-- the texts of the file f: the table x has their number in its word 9
unfoldable pub texts_of : (f x : List ℕ) → List Text
texts_of f x = texts_from f 6 (get_or x text_count_word 0)

-- the text at a place
abbrev pub text_of : (f x : List ℕ) → (place : ℕ) → Text
text_of f x k = get_or (texts_of f x) k []
