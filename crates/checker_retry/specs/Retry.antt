-- What the check of a case promises: what the definition's check says, whichever part of the areas it was made in.
use Rattle.std.specs.Prelude.{ℕ, ◌≤◌, ◌<◌, ◌≡◌, false, List, length, get_or}
use Rattle.checker_result.specs.Statuses.{is_refused_m}
use Rattle.model_spec.specs.Answer.{Answer, answer, refused}
use Rattle.model_spec.specs.Model.{Event, Model}
use Rattle.model_spec.specs.Validate.{accepted}
use Rattle.model_index.specs.declared.Index.{Index}
use Rattle.model_index.specs.Indexed.{Indexed}
use Rattle.engine_spec.specs.Cells.{initial_cells}
pub use Rattle.engine_spec.specs.Words.{sizes}
use Rattle.engine_refinement.specs.Events.{Among, EventAt}
use Rattle.engine_entry.specs.Prepared.{Prepared, PreparedFrom}
use Rattle.checker_spec.specs.Check.{Check, checked}
use Rattle.checker_result.specs.declared.Status.TheVariants as status
use Rattle.checker_result.specs.declared.CheckResult.{CheckResult}
use Rattle.checker_entry.specs.Contract.{Shows}
use Rattle.checker_entry.specs.Promises.{Sized, RefusedAs}
use Rattle.checker_entry.specs.Pool.{check_pool}

-- the check's answer x, told by the result r
module _ (f : List ℕ) (m : Model) (r : CheckResult) (x : Answer Check) where
  pub data Tells : Type 0 where
    answers : (c : Check) → x ≡ answer c → Shows f r c → Among (check_pool m) c.unknown →
        Among (check_pool m) c.incomplete → Tells
    refuses : (n : ℕ) → 41 ≤ n → n ≤ 43 → x ≡ refused n → RefusedAs n r → Tells

-- with areas of q, a and u words
pub record Cased (f starts : List ℕ) (many : ℕ) (g : Prepared) (v : List ℕ) (n : ℕ) (r : CheckResult)
    (q a u : ℕ) : Type 0 where
  pub sized : Sized r
  pub does : (i : Index) → starts ≡ i.invariants.starts → many ≡ i.invariants.count
      → (m : Model) (acc : accepted f ≡ answer m) (o : Indexed f i m) (bytes : (k : ℕ) → get_or f k 0 < 256)
      (gr : PreparedFrom f i g)
      (d : Event) (vs : List Event)
      → ((j : ℕ) → j < length vs → EventAt f g.table o.ts m v j (get_or vs j d)) →
      n ≡ length vs
      → Tells f m r (checked (sizes q a u) m (initial_cells m.scenario.entities) vs)

-- in a part of these areas, which may be too small
abbrev pub Parted : (f starts : List ℕ) → (many : ℕ) → Prepared → (v : List ℕ) → (n : ℕ) → CheckResult → (q a u : ℕ) → Type 0
Parted f starts many g v n r q a u = is_refused_m r.status ≡ false → Cased f starts many g v n r q a u
