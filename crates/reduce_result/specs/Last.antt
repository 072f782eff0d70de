-- The last check of a reduction, and the file that it writes.
use Rattle.std.specs.Prelude.{ℕ, ◌≤◌, ◌≡◌, List, eqb, length}
use Rattle.layout.specs.Sizes.{event_word_count}
use Rattle.model_spec.specs.Answer.{refused}
use Rattle.model_spec.specs.Validate.{accepted}
use Rattle.model_index.specs.declared.Index.{Index}
use Rattle.model_rewrite.specs.Span.{span_m}
use Rattle.model_rewrite.specs.Written.{file_with, Room, Wrote}
use Rattle.engine_entry.specs.Prepared.{Prepared}
use Rattle.checker_result.specs.declared.CheckResult.{CheckResult}
use Rattle.checker_entry.specs.Promises.{Checked}
use Rattle.reduce.specs.declared.Reduced.{Reduced}
use Rattle.reduce_result.specs.declared.Minimized.{Minimized}
use Rattle.reduce_result.specs.Result.{no_reduction}

-- a place as a word
abbrev pub Placed : (n r : ℕ) → Type 0
Placed n r = n ≤ 65535 → r ≡ n

-- ---- the last check

-- the output has room for the file with the events that are left
pub record Ready (f : List ℕ) (x : Reduced) (o : List ℕ) : Type 0 where
  pub room : Room f (span_m f) x.words x.count o
  pub long : length x.words ≡ event_word_count

-- the answer repeats what was reduced, and the output holds the file with the events that are left
pub record Repeats (f : List ℕ) (target n : ℕ) (x : Reduced) (c : CheckResult) (r : Minimized) (o o' : List ℕ) : Type 0 where
  pub accepted : r.refused ≡ 0
  pub invariant : Placed target r.invariant
  pub original_events : r.original_events ≡ n
  pub attempts : r.attempts ≡ x.attempts
  pub deletion_minimal : r.deletion_minimal ≡ eqb x.reached x.count
  pub events : r.events ≡ x.count
  pub words : r.words ≡ x.words
  pub check : r.check ≡ c
  pub wrote : Wrote (file_with f (span_m f) x.words x.count) r.written o o'

pub record Refused (number : ℕ) (r : Minimized) (o o' : List ℕ) : Type 0 where
  pub answer_is : r ≡ no_reduction number
  pub output : o' ≡ o

pub record Finished (f : List ℕ) (i : Index) (g : Prepared) (target n : ℕ) (x : Reduced) (r : Minimized)
    (q q' a a' u u' o o' : List ℕ) : Type 0 where
  pub check : CheckResult
  pub checks : Checked f i.invariants.starts i.invariants.count g x.words x.count check q q' a a' u u'
  pub done : check.simulation.refused ≡ 0 → Repeats f target n x check r o o'
  pub full : (check.simulation.refused ≡ 0 → ⊥) → Refused check.simulation.refused r o o'
