-- What an answer says that automations read and write, whatever its words are. f is the model file; a section has the
-- positions of its parts in it.
use Rattle.std.specs.Prelude.{ℕ, zero, suc, ◌+◌, Bool, true, false, ◌&&◌, List, [], ◌∷◌, ◌++◌, ltb, leb, eqb, get_or, if◌then◌else◌}
use Rattle.texts.specs.Lists.{keep, each, through}
use Rattle.texts.specs.Texts.{Text, text}
use Rattle.model_parts.specs.declared.Section.{Section}
use Rattle.model_index.specs.declared.Index.{Index}
use Rattle.lint_spec.specs.Reach.{places}
use Rattle.lint_reach.specs.Sets.{members}
use Rattle.lint_entry.specs.declared.Report.{Report}
use Rattle.lint_words.specs.Numbers.{placed_text, name_place, name_of, names_of}
use Rattle.lint_reads_lines.specs.Lines.{touched_line}

-- ---- reads and writes

-- the set of the i-th automation
unfoldable pub set_at : List ℕ → (i : ℕ) → ℕ
set_at l i = if ltb i 32 then get_or l i 0 else 0

unfoldable pub behind : (place : ℕ) → ℕ
behind p = if ltb 65535 p then 65536 else p + 1

-- the lesser of a place and the best so far, if the place is not before `from`
unfoldable pub lesser : (from place best : ℕ) → ℕ
lesser from p b = if leb from p && ltb p b then p else b

-- the least place that is not before `from`; 65,536 if there is none
unfoldable pub least_from : (from : ℕ) → List ℕ → ℕ
least_from from l = through (lesser from) l 65536

-- at most n places from `from` on, ascending and each once: the least, and those behind it
unfoldable pub ascending : (n from : ℕ) → List ℕ → List ℕ
ascending zero from l = []
ascending (suc n) from l =
    elim (ltb 65535 (least_from from l)) [
      | true ↦ []
      | false ↦
          least_from from l ∷ ascending n (behind (least_from from l)) l
    ]

-- the i-th automation reads the k-th undeclared name
unfoldable pub is_read : Report → (i k : ℕ) → Bool
is_read r i k = ltb k r.undeclared && eqb (get_or r.readers k 0) i

unfoldable pub strange_places : Report → (i : ℕ) → List ℕ
strange_places r i = each (λ k. get_or r.names k 0) (keep (is_read r i) (places 64 0))

-- the places of the names that it reads, declared ones first
unfoldable pub read_places : (f : List ℕ) → (entities : Section) → Report → (i : ℕ) → List ℕ
read_places f s r i = each (name_place f s) (members (set_at r.reads i)) ++ strange_places r i

unfoldable pub reads_text : (f : List ℕ) → Index → Report → (i : ℕ) → Text
reads_text f x r i =
    touched_line (text "reads") (name_of f x.rules i)
    (each (placed_text f) (ascending 97 0 (read_places f x.entities r i)))

unfoldable pub writes_text : (f : List ℕ) → Index → Report → (i : ℕ) → Text
writes_text f x r i = touched_line (text "writes") (name_of f x.rules i) (names_of f x.entities (set_at r.writes i))

-- ---- automations by identifier

-- the i-th automation or the one found so far, whose identifier is the first that is not before `from`; 32 is none
unfoldable pub better : (f : List ℕ) → (rules : Section) → (from i found : ℕ) → ℕ
better f s from i found =
    if ltb (name_place f s i) from then found else
    if eqb found 32 then i else
    if ltb (name_place f s i) (name_place f s found) then i else
    found

-- the automation whose identifier is the first that is not before `from`; 32 if there is none
unfoldable pub rule_from : (f : List ℕ) → (rules : Section) → (from : ℕ) → ℕ
rule_from f s from = through (better f s from) (places s.count 0) 32

-- the place behind that identifier
unfoldable pub next_from : (f : List ℕ) → (rules : Section) → (from : ℕ) → ℕ
next_from f s from = if ltb (rule_from f s from) 32 then behind (name_place f s (rule_from f s from)) else 65536

-- what that automation writes, or reads
unfoldable pub touched_text : (f : List ℕ) → Index → Report → (from : ℕ) → (writes : Bool) → Text
touched_text f x r from writes =
    if eqb (rule_from f x.rules from) 32 then [] else
    if writes then writes_text f x r (rule_from f x.rules from) else
    reads_text f x r (rule_from f x.rules from)
