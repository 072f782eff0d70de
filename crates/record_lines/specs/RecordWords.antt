-- What the code takes a record's line from: the words of its kind.
use Rattle.std.specs.Prelude.{ℕ, ◌<◌, ◌≡◌, List, [], ◌++◌, ltb, eqb, length, get_or, if◌then◌else◌}
use Rattle.texts.specs.Texts.{Text, text, decimal}
use Rattle.texts.specs.Places.{text_at, start_from}
use Rattle.reasons.specs.Reasons.{packed}
use Rattle.records.specs.declared.Record.{Record}
use Rattle.records.specs.Records.{recorded}
use Rattle.engine_spec.specs.Truth.{truth_name}
use Rattle.engine_refinement.specs.Meaning.{verdict_of, record_of}
use Rattle.show.specs.Writing.{Written}
use Rattle.simulate_lines.specs.FileTexts.{texts_of}
use Rattle.record_lines.specs.Lines.{record_line}

-- ---- a kind's words, by its number: its name, and what its detail begins with

abbrev pub names_file : List ℕ
names_file =
    packed (text "initial")
    ++ packed (text "external")
    ++ packed (text "action")
    ++ packed (text "stale")
    ++ packed (text "restart")
    ++ packed (text "cancel")
    ++ packed (text "ignored")
    ++ packed (text "ignored")
    ++ packed (text "choose")
    ++ packed (text "horizon")
    ++ packed (text "trigger")
    ++ packed (text "condition")
    ++ packed (text "start")
    ++ packed (text "queued")
    ++ packed (text "complete")
    ++ packed (text "delay")
    ++ packed (text "wait")
    ++ packed (text "timeout")

abbrev pub details_file : List ℕ
details_file =
    packed (text "")
    ++ packed (text "")
    ++ packed (text "")
    ++ packed (text "modeled freshness expired")
    ++ packed (text "cancel all runs; preserve entity state")
    ++ packed (text "restart mode")
    ++ packed (text "single mode already running")
    ++ packed (text "run max reached")
    ++ packed (text "selected branch")
    ++ packed (text "observation boundary")
    ++ packed (text "conditions ")
    ++ packed (text "")
    ++ packed (text "run ")
    ++ packed (text "run ")
    ++ packed (text "run ")
    ++ packed (text "")
    ++ packed (text "timeout ")
    ++ packed (text "continue ")

-- the kinds from 18 on are `unknown`
unfoldable pub name_of : (kind : ℕ) → Text
name_of k = if ltb k 18 then text_at names_file (start_from names_file 0 k) else text "unknown"

unfoldable pub detail_begins : (kind : ℕ) → Text
detail_begins k = text_at details_file (start_from details_file 0 k)

-- the rest of a detail, for the kinds below 18
unfoldable pub detail_ends : (kind number : ℕ) → Text
detail_ends k d =
    if ltb k 10 then [] else
    if ltb k 12 then truth_name (verdict_of d) else
    if eqb k 15 then decimal d ++ text " seconds" else
    if eqb k 17 then (if eqb d 1 then text "true" else text "false") else
    decimal d

-- ---- a record of the record area

-- a record's line is written; whatever records the area a holds, that of the k-th one
pub record RecordPut (f x a : List ℕ) (k : ℕ) (out : List ℕ) (n : ℕ) (out' : List ℕ) (m : ℕ) : Type 0 where
  pub is : (l : List Record) (d : Record) → k < length l → a ≡ recorded (length a) l →
      Written (record_line k (record_of x (texts_of f x) (get_or l k d))) out n out' m
  pub read : Record
  pub written : Written (record_line k (record_of x (texts_of f x) read)) out n out' m
