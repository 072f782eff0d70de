-- How many entries the lent areas need, so that no accepted model is refused with 41, 42 or 43.
use Rattle.std.specs.Prelude.{◌≤◌}
use Rattle.engine_spec.specs.Records.{Areas}

-- runs: 32 automations of at most 16 runs.
-- queue: the loop takes an item out of at most 20,000; one item puts in at most the next steps of 512 woken runs and of
-- 32 new ones.
-- records: the loop goes on below 10,000; one item adds at most three for each automation; then the horizon's.
pub record Enough (areas : Areas) : Type 0 where
  pub queue : 20543 ≤ areas.queue
  pub records : 10096 ≤ areas.records
  pub runs : 512 ≤ areas.runs
