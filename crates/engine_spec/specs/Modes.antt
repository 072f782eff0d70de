-- The modes and `max`, written from Home Assistant's page on automation modes.
use Rattle.std.specs.Prelude.{ℕ, zero, suc, leb, if◌then◌else◌}
use Rattle.model_spec.specs.Model.{Mode, single, queued, parallel}

-- what becomes of a trigger whose conditions are met
pub data Decision : Type 0 where
  already_running max_reached start stop_and_start wait_in_line : Decision

-- Given how many runs the automation has, executing or queued:
-- single: no new run starts while one is going.
-- restart: the previous run is stopped first, then a new run starts.
-- queued: the new run starts after all previous runs have completed; runs go in the order in which they were queued.
-- parallel: a new, independent run starts beside the previous ones.
-- `max` is the greatest number of runs executing and/or queued, in the modes queued and parallel.
unfoldable pub decide : Mode → (max running : ℕ) → Decision
decide single max zero = start
decide single max (suc n) = already_running
decide Mode.restart max zero = start
decide Mode.restart max (suc n) = stop_and_start
decide queued max zero = if leb max zero then max_reached else start
decide queued max (suc n) = if leb max (suc n) then max_reached else wait_in_line
decide parallel max n = if leb max n then max_reached else start

-- the greatest number of runs, executing or queued
unfoldable pub most : Mode → (max : ℕ) → ℕ
most single max = 1
most Mode.restart max = 1
most queued max = max
most parallel max = max

-- the greatest number of runs executing
unfoldable pub most_executing : Mode → (max : ℕ) → ℕ
most_executing single max = 1
most_executing Mode.restart max = 1
most_executing queued max = 1
most_executing parallel max = max
