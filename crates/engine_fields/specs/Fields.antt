-- What is read of the file f and of the table x.
use Rattle.std.specs.Prelude.{ℕ, zero, suc, ◌+◌, ◌*◌, true, false, List, ltb, eqb, get_or, if◌then◌else◌}
use Rattle.layout.specs.Table.{automation_count_word, entity_count_word, id_word}
use Rattle.bounds.specs.Bounds.{at_most}
use Rattle.texts.specs.Places.{start_from}
use Rattle.runs.specs.Runs.{place_word}
use Rattle.reasons.specs.Kinds as kinds
use Rattle.reasons.specs.declared.Reason.{Reason}
use Rattle.reasons.specs.Readable.{text_count}

-- two bytes and four, the lowest first; a byte past the end is 0
unfoldable pub two : List ℕ → ℕ → ℕ
two f at = get_or f at 0 + 256 * get_or f (at + 1) 0

unfoldable pub four : List ℕ → ℕ → ℕ
four f at = two f at + 65536 * two f (at + 2)

-- a position in a word: at most the largest
unfoldable pub cap : ℕ → ℕ
cap p = if ltb 4294967295 p then 4294967295 else p

-- a place in an action list, in a word: positions stay below 32768
unfoldable pub list_word : (position left : ℕ) → ℕ
list_word p n = if ltb 32767 p then place_word (record { position = 32767; left = n })
    else place_word (record { position = p; left = n })

-- ---- the table

abbrev pub name : List ℕ → (e : ℕ) → ℕ
name x e = get_or x (16 + e) 0

abbrev pub stale : List ℕ → (e : ℕ) → ℕ
stale x e = get_or x (48 + e) 0

-- a word of an automation
abbrev pub word : List ℕ → (i k : ℕ) → ℕ
word x i k = get_or x (80 + i * 8 + k) 0

-- the entities that are looked at, and the automations
unfoldable pub entities : List ℕ → ℕ
entities x = at_most (get_or x entity_count_word 0) 32

unfoldable pub rules : List ℕ → ℕ
rules x = at_most (get_or x automation_count_word 0) 32

-- the first of `left` entities from e on that has this name, or 32
unfoldable pub entity_from : List ℕ → (id left e : ℕ) → ℕ
entity_from x id zero e = 32
entity_from x id (suc left) e = elim (eqb (name x e) id) [ true ↦ e | false ↦ entity_from x id left (e + 1) ]

unfoldable pub entity_of : List ℕ → (id : ℕ) → ℕ
entity_of x id = entity_from x id (entities x) 0

-- ---- reasons

-- where the text at a place stands; a place past the last text, which no accepted file has, is taken for the first
unfoldable pub text_position : List ℕ → (place : ℕ) → ℕ
text_position f place = if ltb place (text_count f) then cap (start_from f 6 place) else 6

unfoldable pub about_rule : (f x : List ℕ) → (i kind : ℕ) → Reason
about_rule f x i k = record { kind = k; first = text_position f (word x i id_word); second = 4294967295; line = 0; column = 0 }

unfoldable pub alone : (kind : ℕ) → Reason
alone k = record { kind = k; first = 4294967295; second = 4294967295; line = 0; column = 0 }

unfoldable pub note_reason : List ℕ → (place : ℕ) → Reason
note_reason f p = record { kind = kinds.note; first = text_position f p; second = 4294967295; line = 0; column = 0 }
