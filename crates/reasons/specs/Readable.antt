-- Reasons that can be read: each word is the position of a text of the file f, or is fixed by the kind.
use Rattle.std.specs.Prelude.{ℕ, ◌+◌, ◌*◌, ◌<◌, ◌≡◌, Bool, true, false, List, [], ◌∷◌, length, get_or}
use Rattle.texts.specs.Places.{start_from}
use Rattle.reasons.specs.declared.Reason.{Reason}
use Rattle.reasons.specs.Kinds.{kinds, kind_of}

-- how many texts a file has: the count ahead of them
unfoldable pub text_count : (file : List ℕ) → ℕ
text_count f = get_or f 4 0 + 256 * get_or f 5 0

-- p is where one of the texts stands
pub record TextAt (f : List ℕ) (p : ℕ) : Type 0 where
  pub place : ℕ
  pub among : place < text_count f
  pub is : p ≡ start_from f 6 place

-- a field for a text: its position, or the mark for none
abbrev pub TextIf : (has : Bool) → (f : List ℕ) → ℕ → Type 0
TextIf true f p = TextAt f p
TextIf false f p = p ≡ 4294967295

-- a field for a number: 0 if the kind has none
abbrev pub NumberIf : (has : Bool) → ℕ → Type 0
NumberIf true n = Unit {0}
NumberIf false n = n ≡ 0

pub record Readable (f : List ℕ) (r : Reason) : Type 0 where
  pub known : r.kind < length kinds
  pub first : TextIf (kind_of r.kind).first f r.first
  pub second : TextIf (kind_of r.kind).second f r.second
  pub line : NumberIf (kind_of r.kind).source r.line
  pub column : NumberIf (kind_of r.kind).source r.column

abbrev pub AllReadable : (f : List ℕ) → List Reason → Type 0
AllReadable f [] = Unit {0}
AllReadable f (r ∷ l) = Readable f r × AllReadable f l

-- a file of bytes that has a text, as every accepted file does
pub record HasText (f : List ℕ) : Type 0 where
  pub bytes : (i : ℕ) → get_or f i 0 < 256
  pub some : 0 < text_count f
