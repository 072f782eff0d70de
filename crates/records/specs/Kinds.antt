-- The numbers of the kinds of records, as in the code (`src/lib.rt`).
use Rattle.std.specs.Prelude.{ℕ}

abbrev pub initial_kind : ℕ
initial_kind = 0

abbrev pub external_kind : ℕ
external_kind = 1

abbrev pub action_kind : ℕ
action_kind = 2

abbrev pub stale_kind : ℕ
stale_kind = 3

abbrev pub restart_kind : ℕ
restart_kind = 4

abbrev pub cancel_kind : ℕ
cancel_kind = 5

abbrev pub single_running_kind : ℕ
single_running_kind = 6

abbrev pub max_reached_kind : ℕ
max_reached_kind = 7

abbrev pub choose_kind : ℕ
choose_kind = 8

abbrev pub horizon_kind : ℕ
horizon_kind = 9

abbrev pub trigger_kind : ℕ
trigger_kind = 10

abbrev pub condition_kind : ℕ
condition_kind = 11

abbrev pub start_kind : ℕ
start_kind = 12

abbrev pub queued_kind : ℕ
queued_kind = 13

abbrev pub complete_kind : ℕ
complete_kind = 14

abbrev pub delay_kind : ℕ
delay_kind = 15

abbrev pub wait_kind : ℕ
wait_kind = 16

abbrev pub timeout_kind : ℕ
timeout_kind = 17

abbrev pub unknown_kind : ℕ
unknown_kind = 18
