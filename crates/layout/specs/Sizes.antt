-- Sizes of the lists that answers hold, as in the code (`src/lib.rt`): how many entries, and how many words.
use Rattle.std.specs.Prelude.{ℕ}

-- the reasons of a simulation, five words each
abbrev pub simulation_reasons : ℕ
simulation_reasons = 300

abbrev pub simulation_reason_words : ℕ
simulation_reason_words = 1500

-- the number of the last one, from 0
abbrev pub last_simulation_reason : ℕ
last_simulation_reason = 299

-- the reasons of a verdict, a check's or a search's
abbrev pub verdict_reasons : ℕ
verdict_reasons = 400

abbrev pub verdict_reason_words : ℕ
verdict_reason_words = 2000

-- the reasons for which a check is incomplete
abbrev pub incomplete_reasons : ℕ
incomplete_reasons = 40

abbrev pub incomplete_reason_words : ℕ
incomplete_reason_words = 200

-- violations, eight numbers each
abbrev pub violation_numbers : ℕ
violation_numbers = 256

-- the events of a model, four words each
abbrev pub event_word_count : ℕ
event_word_count = 400
