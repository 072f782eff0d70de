-- What the parts of the entry promise.
use Rattle.std.specs.Prelude.{ℕ, ◌≤◌, ◌≡◌, List}
use Rattle.layout.specs.Sizes.{incomplete_reasons, verdict_reasons}
use Rattle.model_spec.specs.Answer.{answer}
use Rattle.model_spec.specs.Model.{Model}
use Rattle.model_spec.specs.Validate.{accepted}
use Rattle.model_index.specs.declared.Index.{Index}
use Rattle.model_index.specs.Indexed.{Indexed}
use Rattle.engine_spec.specs.Memory.{Lent}
use Rattle.engine_entry.specs.Prepared.{Prepared}
use Rattle.engine_entry.specs.Promises.{Ran}
use Rattle.checker_result.specs.declared.Status.TheVariants as status
use Rattle.checker_result.specs.declared.CheckResult.{CheckResult}
use Rattle.checker_entry.specs.Contract.{Checks}
use Rattle.checker_result.specs.Verdicts.{Answered, Verdict}

-- how many reasons the answer has at most
pub record Sized (r : CheckResult) : Type 0 where
  pub few_unknown : r.unknown ≤ verdict_reasons
  pub few_incomplete : r.incomplete ≤ incomplete_reasons

-- a simulation, and the verdict on it unless an area was full
pub record Checked (f starts : List ℕ) (many : ℕ) (g : Prepared) (events : List ℕ) (n : ℕ) (r : CheckResult)
    (q q' a a' u u' : List ℕ) : Type 0 where
  pub sized : Sized r
  pub ran : Ran f g events n r.simulation q q' a a' u u'
  pub done : r.simulation.refused ≡ 0 → Verdict f g.table starts many g.cells a' r
  pub full : (r.simulation.refused ≡ 0 → ⊥) → r.status ≡ status.Refused r.simulation.refused

pub record Whole (f starts : List ℕ) (many : ℕ) (g : Prepared) (events : List ℕ) (n : ℕ) (r : CheckResult)
    (q q' a a' u u' : List ℕ) : Type 0 where
  pub result : CheckResult
  pub checked : Checked f starts many g events n result q q' a a' u u'
  pub answered : Answered result r

-- only the number is there
pub record RefusedAs (n : ℕ) (r : CheckResult) : Type 0 where
  pub status_is : r.status ≡ status.Refused n
  pub number : r.simulation.refused ≡ n

-- the check of the model whose index this is
abbrev pub RunsAs : (f : List ℕ) → Index → CheckResult → (before after : Lent) → Type 0
RunsAs f i r before after = (m : Model) → accepted f ≡ answer m → Indexed f i m → Checks f r before after
