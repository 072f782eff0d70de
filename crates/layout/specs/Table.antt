-- Which word of the table is what, as in the code (`src/lib.rt`). Words 16 to 47 are the entities' names, 48 to 79 their
-- times; from 80 on stand the automations, eight words each.
use Rattle.std.specs.Prelude.{ℕ}

-- ---- the first words

abbrev pub entity_count_word : ℕ
entity_count_word = 0

abbrev pub automation_count_word : ℕ
automation_count_word = 1

abbrev pub horizon_word : ℕ
horizon_word = 2

abbrev pub max_steps_word : ℕ
max_steps_word = 3

abbrev pub on_word : ℕ
on_word = 4

abbrev pub off_word : ℕ
off_word = 5

abbrev pub unknown_word : ℕ
unknown_word = 6

abbrev pub unavailable_word : ℕ
unavailable_word = 7

abbrev pub event_count_word : ℕ
event_count_word = 8

abbrev pub text_count_word : ℕ
text_count_word = 9

abbrev pub start_weekday_word : ℕ
start_weekday_word = 10

abbrev pub start_second_word : ℕ
start_second_word = 11

-- ---- the words of an automation

abbrev pub id_word : ℕ
id_word = 0

abbrev pub mode_word : ℕ
mode_word = 1

abbrev pub max_word : ℕ
max_word = 2

abbrev pub triggers_word : ℕ
triggers_word = 3

abbrev pub conditions_word : ℕ
conditions_word = 4

abbrev pub actions_word : ℕ
actions_word = 5

abbrev pub source_word : ℕ
source_word = 6

abbrev pub notes_word : ℕ
notes_word = 7
