-- Small model files for the examples, byte by byte.
use Rattle.std.specs.Prelude.{ℕ, zero, suc, List, [], ◌∷◌, ◌++◌}
use Rattle.texts.specs.Texts.{text}

-- version 1; the texts `lamp`, `off`, `on`, `unavailable`, `unknown`; the title `lamp`
unfoldable pub head : List ℕ
head =
    1 ∷ 0 ∷ 0 ∷ 0 ∷ 5 ∷ 0 ∷ 4 ∷ text "lamp" ++ 3 ∷ text "off" ++ 2 ∷ text "on" ++ 11 ∷ text "unavailable" ++ 7 ∷ text
    "unknown" ++ 0 ∷ 0 ∷ []

-- one entity: lamp, with off and on, at first off, comfort, never stale
unfoldable pub entities : List ℕ
entities = 1 ∷ 0 ∷ 0 ∷ 0 ∷ 2 ∷ 0 ∷ 1 ∷ 0 ∷ 2 ∷ 0 ∷ 1 ∷ 0 ∷ 1 ∷ 255 ∷ 255 ∷ 255 ∷ 255 ∷ []

-- one event: lamp on, at a second below 256
unfoldable pub event_at : ℕ → List ℕ
event_at t = 1 ∷ 0 ∷ t ∷ 0 ∷ 0 ∷ 0 ∷ 0 ∷ 0 ∷ 0 ∷ 2 ∷ 0 ∷ []

unfoldable pub no_event : List ℕ
no_event = 0 ∷ 0 ∷ []

-- no invariant, an empty alphabet, one gap of 10; horizon 7, 100 steps, search depth 0, 1 case
unfoldable pub settings : List ℕ
settings = 0 ∷ 0 ∷ 0 ∷ 0 ∷ 1 ∷ 0 ∷ 10 ∷ 0 ∷ 0 ∷ 0 ∷ 7 ∷ 0 ∷ 0 ∷ 0 ∷ 100 ∷ 0 ∷ 0 ∷ 0 ∷ 0 ∷ 0 ∷ 0 ∷ 0 ∷ 1 ∷ 0 ∷ 0 ∷ 0 ∷ []

unfoldable pub no_rule : List ℕ
no_rule = 0 ∷ 0 ∷ []

-- eight bytes of a source: line 1, column 1
unfoldable pub source : List ℕ
source = 1 ∷ 0 ∷ 0 ∷ 0 ∷ 1 ∷ 0 ∷ 0 ∷ 0 ∷ []

-- an empty list of actions inside so many choices, each without a branch: its depth is that number
unfoldable pub nested : ℕ → List ℕ
nested zero = 0 ∷ 0 ∷ []
nested (suc d) = 1 ∷ 0 ∷ source ++ 4 ∷ 0 ∷ 0 ∷ nested d

-- one automation: lamp, single, max 1, triggered by any change of lamp, no condition, with these actions
unfoldable pub rule_with : List ℕ → List ℕ
rule_with actions =
    1 ∷ 0 ∷ 0 ∷ 0 ∷ 0 ∷ 1 ∷ 0 ∷ 0 ∷ 0 ∷ 1 ∷ 0 ∷ 0 ∷ 0 ∷ 255 ∷ 255 ∷ 255 ∷ 255 ∷ source ++ 255 ∷ 255 ∷ 0 ∷ 0 ∷ actions ++
    source ++ 0 ∷ 0 ∷ []

unfoldable pub file_with : (events rules : List ℕ) → List ℕ
file_with events rules = head ++ entities ++ events ++ settings ++ rules

-- opens the file, for proofs by computation
unfoldable pub all_files : Unit {0}
unfolding head entities event_at no_event settings no_rule source nested rule_with file_with
all_files = tt
