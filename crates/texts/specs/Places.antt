-- Texts in a file, by position and by place: a length byte, and as many bytes.
use Rattle.std.specs.Prelude.{ℕ, zero, suc, ◌+◌, List, [], ◌∷◌, Result, Ok, Err, get_or, take, drop}
use Rattle.texts.specs.Texts.{Text}

-- the text whose length byte stands at a position; no text past the end
unfoldable pub text_at : List ℕ → ℕ → Text
text_at f at = take (get_or f at 0) (drop (at + 1) f)

-- the position of the text n behind the one at a position
unfoldable pub start_from : List ℕ → ℕ → ℕ → ℕ
start_from f at zero = at
start_from f at (suc n) = start_from f (at + 1 + get_or f at 0) n

-- n texts from a position on
unfoldable pub texts_from : List ℕ → ℕ → ℕ → List Text
texts_from f at zero = []
texts_from f at (suc n) = text_at f at ∷ texts_from f (at + 1 + get_or f at 0) n

-- the byte at an index of a text, or how far past its end the index is
unfoldable pub seek : Text → ℕ → Result ℕ ℕ
seek [] i = Err i
seek (x ∷ t) zero = Ok x
seek (x ∷ t) (suc i) = seek t i

-- opens the file, for proofs by computation
unfoldable pub all_places : Unit {0}
unfolding text_at start_from texts_from seek
all_places = tt
