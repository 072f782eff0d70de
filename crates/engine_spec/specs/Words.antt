-- What stands in the record area, word for word (docs/FORMAT.md): texts as places among the file's texts, automations as
-- numbers.
use Rattle.std.specs.Prelude.{ℕ, ◌/◌, List, [], ◌∷◌, ◌++◌, if◌then◌else◌}
use Rattle.std.proofs.Math.Option.{Option, none, some}
use Rattle.texts.specs.Lists.{each}
use Rattle.texts.specs.Texts.{Text}
use Rattle.model_spec.specs.Answer.{answer, refused}
use Rattle.model_spec.specs.Model.{Source}
use Rattle.model_spec.specs.File.{got, broken, texts}
use Rattle.model_spec.specs.Rewrite.{place_of}
use Rattle.model_spec.specs.Validate.{accepted}
use Rattle.engine_spec.specs.Kleene.{Truth, Yes, No, Unknown}
use Rattle.engine_spec.specs.Records.{Kind, Change, Trace, Areas}
use Rattle.engine_spec.specs.Memory.{Lent, simulate_lent}

unfoldable pub truth_number : Truth → ℕ
truth_number Yes = 0
truth_number No = 1
truth_number Unknown = 2

unfoldable pub kind_number : Kind → ℕ
kind_number Kind.initial = 0
kind_number Kind.external = 1
kind_number Kind.action = 2
kind_number Kind.stale = 3
kind_number Kind.restart = 4
kind_number Kind.cancel = 5
kind_number Kind.single_running = 6
kind_number Kind.max_reached = 7
kind_number Kind.choose = 8
kind_number Kind.horizon = 9
kind_number (Kind.trigger v) = 10
kind_number (Kind.condition v) = 11
kind_number (Kind.start n) = 12
kind_number (Kind.queued n) = 13
kind_number (Kind.complete n) = 14
kind_number (Kind.delay n) = 15
kind_number (Kind.wait n) = 16
kind_number (Kind.timeout b) = 17
kind_number (Kind.unknown r) = 18

unfoldable pub source_words : Option Source → List ℕ
source_words none = 0 ∷ 0 ∷ 0 ∷ []
source_words (some s) = 1 ∷ s.line ∷ s.column ∷ []

-- `ts` are the file's texts, `ids` the automations' identifiers in the file's order
module _ (ts ids : List Text) where
  unfoldable pub detail_number : Kind → ℕ
  detail_number Kind.initial = 0
  detail_number Kind.external = 0
  detail_number Kind.action = 0
  detail_number Kind.stale = 0
  detail_number Kind.restart = 0
  detail_number Kind.cancel = 0
  detail_number Kind.single_running = 0
  detail_number Kind.max_reached = 0
  detail_number Kind.choose = 0
  detail_number Kind.horizon = 0
  detail_number (Kind.trigger v) = truth_number v
  detail_number (Kind.condition v) = truth_number v
  detail_number (Kind.start n) = n
  detail_number (Kind.queued n) = n
  detail_number (Kind.complete n) = n
  detail_number (Kind.delay n) = n
  detail_number (Kind.wait n) = n
  detail_number (Kind.timeout b) = if b then 1 else 0
  detail_number (Kind.unknown r) = place_of r ts

  unfoldable pub automation_words : Option Text → List ℕ
  automation_words none = 0 ∷ 0 ∷ []
  automation_words (some id) = 1 ∷ place_of id ids ∷ []

  unfoldable pub words_of_change : Option Change → List ℕ
  words_of_change none = 0 ∷ 0 ∷ 0 ∷ 0 ∷ []
  words_of_change (some c) = 1 ∷ place_of c.entity ts ∷ place_of c.before ts ∷ place_of c.after ts ∷ []

  -- a record's 13 words
  unfoldable pub trace_words : Trace → List ℕ
  trace_words t =
      (t.at ∷ kind_number t.kind ∷ detail_number t.kind ∷ 0 ∷ [])
      ++ (automation_words t.automation ++ (source_words t.source ++ words_of_change t.change))

-- the texts of a file
unfoldable pub texts_in : (file : List ℕ) → List Text
texts_in file = elim (texts file 4) [ got ts q ↦ ts | broken ↦ [] ]

-- a record's words, by the file whose simulation it is of
unfoldable pub words_in : (file : List ℕ) → Trace → List ℕ
words_in file t = elim (accepted file) [
  | answer m ↦ trace_words (texts_in file) (each (λ r. r.id) m.rules) t
  | refused n ↦ []
]

-- how many words an entry of each area has
abbrev pub entry_words : Areas
entry_words = record { queue = 5; records = 13; runs = 28 }

-- how many entries areas of so many words hold
abbrev pub sizes : (queue records runs : ℕ) → Areas
sizes q a u = record { queue = q / 5; records = a / 13; runs = u / 28 }

-- the lent areas after `simulate`
unfoldable pub simulate_memory : (file : List ℕ) → Lent → Lent
simulate_memory file l = simulate_lent (words_in file) entry_words file l
