-- A reason: a kind and its texts. Its rendering, over the bytes of a model file.
use Rattle.std.specs.Prelude.{ℕ, ◌+◌, List, ◌∷◌, ◌++◌, eqb, length, if◌then◌else◌}
use Rattle.reasons.specs.declared.Reason.{Reason}
use Rattle.texts.specs.Lists.{flat}
use Rattle.texts.specs.Texts.{Text, decimal}
use Rattle.texts.specs.Places.{text_at}
use Rattle.reasons.specs.Kinds.{Kind, kinds, kind_of, source_note_kind}

-- a text as it stands in a file
abbrev pub packed : Text → List ℕ
packed t = length t ∷ t

-- the fixed words of a kind; none for a number past the last kind
unfoldable pub words : ℕ → Text
words kind = (kind_of kind).words

-- the words of all kinds as the code has them, one behind the other
unfoldable pub words_file : List ℕ
words_file = flat (λ (k : Kind). packed k.words) kinds

-- LINE:COLUMN
unfoldable pub placed : ℕ → ℕ → Text
placed line column = decimal line ++ (58 ∷ decimal column)

-- the texts and words of a reason
unfoldable pub body : List ℕ → Reason → Text
body f r = text_at f r.first ++ (words r.kind ++ text_at f r.second)

-- `LINE:COLUMN` goes in front of the only kind with numbers
unfoldable pub render : List ℕ → Reason → Text
render f r = if eqb r.kind source_note_kind then placed r.line r.column ++ body f r else body f r
