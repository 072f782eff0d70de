-- Two model files about a door that a lamp unlocks. Inside the cone they agree: the door, the lamp, the automation
-- `lampdoor`, which acts from 22:00 to 06:00 of the night that begins on weekday 0, the event `lamp on` at second 5, one
-- invariant of each kind. Both start on weekday 0, 5 seconds before midnight. Outside the cone nothing agrees: the first
-- has a fan that the lamp switches, the second a radio that turns itself down on the evening of weekday 0. Their texts
-- differ, and so do the places of the texts they share. Without windows and start they are those of examples/cone/kinds.
use Rattle.std.specs.Prelude.{ℕ, List, [], ◌∷◌, ◌++◌}
use Rattle.texts.specs.Texts.{text}
use Rattle.noninterference_example.specs.FileBytes.{
  two,
  four,
  sized,
  never_stale,
  entity,
  event,
  always,
  in_window,
  automation,
  sets,
  delays,
  settings,
  all_parts,
}

-- Invariants of the four kinds. Never `nodoor`: the door is unlocked. Guard `door`: it is unlocked only while the lamp is
-- off. Transition `lamp`: from off to on is forbidden. Response `lampdoor`: when the lamp is on, it is off within 2 seconds.
unfoldable pub invariants : (nodoor door unlocked lamp on off lampdoor : ℕ) → List ℕ
invariants i d u l o f r =
    two 4
    ++ 0 ∷ two i ++ two 1 ++ 0 ∷ two d ++ two u
    ++ 1 ∷ two d ++ two d ++ two u ++ two 1 ++ 0 ∷ two l ++ two f
    ++ 2 ∷ two l ++ two l ++ two f ++ two o
    ++ 3 ∷ two r ++ 0 ∷ two l ++ two o ++ 0 ∷ two l ++ two f ++ four 2

-- ---- windows and starts

-- from 22:00 to 06:00 of the night that begins on weekday 0: 79,200 to 21,600
unfoldable pub at_night : List ℕ
at_night = in_window 1 (96 ∷ 53 ∷ 1 ∷ 0 ∷ []) (96 ∷ 84 ∷ 0 ∷ 0 ∷ [])

-- from 18:00 to midnight on weekday 0: 64,800 to 0
unfoldable pub in_the_evening : List ℕ
in_the_evening = in_window 1 (32 ∷ 253 ∷ 0 ∷ 0 ∷ []) (four 0)

-- second 86,395 of a weekday, 5 seconds before midnight
unfoldable pub before_midnight : (weekday : ℕ) → List ℕ
before_midnight d = four d ++ 123 ∷ 81 ∷ 1 ∷ 0 ∷ []

-- ---- the first file: places cool 0, door 1, fan 2, home 3, lamp 4, lampdoor 5, locked 6, nodoor 7, off 8, on 9,
-- unavailable 10, unknown 11, unlocked 12

unfoldable pub first_texts : List ℕ
first_texts =
    two 13 ++ sized (text "cool") ++ sized (text "door") ++ sized (text "fan") ++ sized (text "home") ++ sized (text "lamp")
    ++ sized (text "lampdoor") ++ sized (text "locked") ++ sized (text "nodoor") ++ sized (text "off") ++ sized (text "on")
    ++ sized (text "unavailable") ++ sized (text "unknown") ++ sized (text "unlocked")

-- with a start
unfoldable pub first_from : List ℕ → List ℕ
first_from start =
    four 1 ++ first_texts ++ two 3
    ++ two 3 ++ entity 1 6 12 6 never_stale ++ entity 2 8 9 8 never_stale ++ entity 4 8 9 8 never_stale
    ++ two 2 ++ event 2 2 9 ++ event 5 4 9
    ++ invariants 7 1 12 4 9 8 5 ++ settings 4 9 10 100
    ++ two 2 ++ automation 0 0 4 9 always 1 (sets 2 5 2 8) 2 ++ automation 5 0 4 9 at_night 1 (sets 7 3 1 12) 6
    ++ start

unfoldable pub first : List ℕ
first = first_from (before_midnight 0)

-- ---- the second file: places apple 0, door 1, lamp 2, lampdoor 3, locked 4, loud 5, nodoor 6, off 7, on 8, other 9,
-- play 10, quiet 11, radio 12, unavailable 13, unknown 14, unlocked 15

unfoldable pub second_texts : List ℕ
second_texts =
    two 16 ++ sized (text "apple") ++ sized (text "door") ++ sized (text "lamp") ++ sized (text "lampdoor")
    ++ sized (text "locked") ++ sized (text "loud") ++ sized (text "nodoor") ++ sized (text "off") ++ sized (text "on")
    ++ sized (text "other") ++ sized (text "play") ++ sized (text "quiet") ++ sized (text "radio")
    ++ sized (text "unavailable") ++ sized (text "unknown") ++ sized (text "unlocked")

unfoldable pub second : List ℕ
second =
    four 1 ++ second_texts ++ two 9
    ++ two 3 ++ entity 1 4 15 4 never_stale ++ entity 2 7 8 7 never_stale ++ entity 12 5 11 11 never_stale
    ++ two 3 ++ event 3 12 5 ++ event 5 2 8 ++ event 7 12 11
    ++ invariants 6 1 15 2 8 7 3 ++ settings 2 8 10 200
    ++ two 2 ++ automation 3 0 2 8 at_night 1 (sets 7 3 1 15) 6
    ++ automation 10 1 12 5 in_the_evening 2 (delays 9 1 1 ++ sets 10 1 12 11) 8
    ++ before_midnight 0

-- opens the file, for proofs by computation
unfoldable pub all_each_kind : Unit {0}
unfolding all_parts invariants at_night in_the_evening before_midnight first_texts first_from first second_texts second
all_each_kind = tt
