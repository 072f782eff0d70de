-- The number of live runs beside each automation.
use Rattle.std.specs.Prelude.{ℕ, zero, suc, ◌+◌, ◌-◌, ◌*◌, ◌<◌, ◌≡◌, Bool, true, false, cond, List, [], ◌∷◌, ◌++◌, ltb, eqb, length, get_or, take, drop, set, if◌then◌else◌}
use Rattle.bounds.specs.Bounds.{at_most}
use Rattle.runs.specs.Lists.{tally, keep}
use Rattle.runs.specs.Runs.{run_of, other, Held}
use Rattle.runs.specs.declared.Run.{Run}

-- each automation's number is its count over the runs, those that wait and those that are queued too
pub record Counts (live : List ℕ) (l : List Run) : Type 0 where
  pub wide : length live ≡ 32
  pub each : (i : ℕ) → i < 32 → get_or live i 0 ≡ tally (run_of i) l

-- how many of the first n entries of a run area are the automation's, by the area's words
unfoldable pub count_over : (area : List ℕ) → (n automation : ℕ) → ℕ
count_over r zero a = 0
count_over r (suc k) a = count_over r k a + cond (eqb (get_or r (k * 28) 0) a) 1 0

-- the number stored beside each automation is its count over the run area, which has n entries
pub record Stored (live r : List ℕ) (n : ℕ) : Type 0 where
  pub each : (i : ℕ) → i < 32 → get_or live i 0 ≡ count_over r n i

-- ---- what the functions do to the numbers

-- the number r was read beside the i-th automation
pub record CountOf (i : ℕ) (live : List ℕ) (r : ℕ) : Type 0 where
  pub is : (l : List Run) → Counts live l → r ≡ tally (run_of i) l

-- a run that went in behind n others is counted; one for which there was no room isn't
pub record Entered (n : ℕ) (x : Run) (live live' : List ℕ) (went_in : Bool) : Type 0 where
  pub more : went_in ≡ true → (l : List Run) → length l ≡ n → Counts live l → Counts live' (l ++ x ∷ [])
  pub same : went_in ≡ false → live' ≡ live

-- the run at k went out of an area of n runs
pub record Left (a : List ℕ) (n k : ℕ) (live live' : List ℕ) : Type 0 where
  pub is : (l : List Run) → Held a n l → Counts live l → Counts live' (take k l ++ drop (k + 1) l)

-- the i-th automation's runs went
pub record Emptied (i : ℕ) (live live' : List ℕ) : Type 0 where
  pub is : (l : List Run) → Counts live l → Counts live' (keep (other i) l)

-- all runs went
pub record Forgotten (live live' : List ℕ) : Type 0 where
  pub is : (l : List Run) → Counts live l → Counts live' []

-- ---- one number changed

-- an automation past the last has no number
unfoldable pub renumbered : (automation number : ℕ) → List ℕ → List ℕ
renumbered a v live = if ltb 31 a then live else set live a v

-- one more, where there were n runs
unfoldable pub raised : (automation n : ℕ) → List ℕ → List ℕ
raised a n live = renumbered a (at_most (get_or live a 0) n + 1) live

-- one less
unfoldable pub lowered : (automation : ℕ) → List ℕ → List ℕ
lowered a live = renumbered a (get_or live a 0 - 1) live
