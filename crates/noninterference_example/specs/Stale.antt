-- Two model files about a bell that the door rings. Inside the cone they agree: the bell, the door, a sensor whose value
-- goes stale at second 6, the automation `ring`, which toggles the bell, waits until the door is off and toggles it back,
-- the door's events at 1, 3 and 7 and the restart at 8, which ends the second wait. `quiet` says that the bell is never on
-- while the sensor is; `bell` forbids that it goes on. Outside the cone they differ: in the first the door switches a lamp
-- on, in the second the bell toggles it a second later, and there is a blind. Their texts differ, and so do the places of
-- the texts they share. They are those of examples/cone/stale.
use Rattle.std.specs.Prelude.{ℕ, List, ◌∷◌, ◌++◌}
use Rattle.texts.specs.Texts.{text}
use Rattle.noninterference_example.specs.FileBytes.{
  two,
  four,
  sized,
  never_stale,
  entity,
  event,
  restarts,
  always,
  automation,
  sets,
  toggles,
  delays,
  waits,
  settings,
  all_parts,
}

-- Never `quiet`: the bell and the sensor are on. Transition `bell`: from off to on is forbidden.
unfoldable pub invariants : (quiet bell sensor off on : ℕ) → List ℕ
invariants q b s f o =
    two 2
    ++ 0 ∷ two q ++ two 2 ++ 0 ∷ two b ++ two o ++ 0 ∷ two s ++ two o
    ++ 2 ∷ two b ++ two b ++ two f ++ two o

unfoldable pub ring : (id bell door off on : ℕ) → List ℕ
ring i b d f o = automation i 0 d o always 3 (toggles 7 3 b ++ waits 8 3 d f 4 ++ toggles 9 3 b) 6

-- ---- the first file: places bell 0, door 1, glow 2, home 3, lamp 4, off 5, on 6, quiet 7, ring 8, sensor 9,
-- unavailable 10, unknown 11

unfoldable pub first_texts : List ℕ
first_texts =
    two 12 ++ sized (text "bell") ++ sized (text "door") ++ sized (text "glow") ++ sized (text "home") ++ sized (text "lamp")
    ++ sized (text "off") ++ sized (text "on") ++ sized (text "quiet") ++ sized (text "ring") ++ sized (text "sensor")
    ++ sized (text "unavailable") ++ sized (text "unknown")

unfoldable pub first : List ℕ
first =
    four 1 ++ first_texts ++ two 3
    ++ two 4 ++ entity 0 5 6 5 never_stale ++ entity 1 5 6 5 never_stale ++ entity 4 5 6 5 never_stale
    ++ entity 9 5 6 5 (four 5)
    ++ two 5 ++ event 1 1 6 ++ event 2 4 5 ++ event 3 1 5 ++ event 7 1 6 ++ restarts 8
    ++ invariants 7 0 9 5 6 ++ settings 1 6 12 100
    ++ two 2 ++ automation 2 0 1 6 always 1 (sets 2 5 4 6) 2 ++ ring 8 0 1 5 6

-- ---- the second file: places alone 0, bell 1, blind 2, door 3, lamp 4, night 5, off 6, on 7, quiet 8, ring 9, sensor 10,
-- unavailable 11, unknown 12

unfoldable pub second_texts : List ℕ
second_texts =
    two 13 ++ sized (text "alone") ++ sized (text "bell") ++ sized (text "blind") ++ sized (text "door")
    ++ sized (text "lamp") ++ sized (text "night") ++ sized (text "off") ++ sized (text "on") ++ sized (text "quiet")
    ++ sized (text "ring") ++ sized (text "sensor") ++ sized (text "unavailable") ++ sized (text "unknown")

unfoldable pub second : List ℕ
second =
    four 1 ++ second_texts ++ two 0
    ++ two 5 ++ entity 1 6 7 6 never_stale ++ entity 2 6 7 6 never_stale ++ entity 3 6 7 6 never_stale
    ++ entity 4 6 7 7 never_stale ++ entity 10 6 7 6 (four 5)
    ++ two 6 ++ event 1 3 7 ++ event 3 3 6 ++ event 4 2 7 ++ event 7 3 7 ++ restarts 8 ++ event 9 4 6
    ++ invariants 8 1 10 6 7 ++ settings 3 7 12 200
    ++ two 2 ++ ring 9 1 3 6 7 ++ automation 5 1 1 7 always 2 (delays 11 1 1 ++ toggles 12 1 4) 10

-- opens the file, for proofs by computation
unfoldable pub all_stale : Unit {0}
unfolding all_parts invariants ring first_texts first second_texts second
all_stale = tt
