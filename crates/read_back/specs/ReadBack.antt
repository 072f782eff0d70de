-- The files that `verify` and `minimize` write are read back: each is the model's file with other events, it is accepted,
-- and its check is the one that was told.
use Rattle.std.specs.Prelude.{ℕ, ◌≤◌, ◌≡◌, List, length}
use Rattle.std.proofs.Math.Option.{some}
use Rattle.model_spec.specs.Answer.{answer}
use Rattle.model_spec.specs.Model.{Event, Model, with_events}
use Rattle.model_spec.specs.Validate.{accepted}
use Rattle.engine_spec.specs.Records.{Areas}
use Rattle.checker_spec.specs.Check.{Check, check}
use Rattle.checker_spec.specs.Verify.{Witness, Verification, verify, witness_file}
use Rattle.checker_spec.specs.Minimize.{Minimized, minimize, reduced_file}

-- not too long to be read
abbrev pub Short : (file : List ℕ) → Type 0
Short b = length b ≤ 32768

-- the file is accepted, as the model with these events, and this is its check in the same areas
pub record ReadsBack (areas : Areas) (b : List ℕ) (m : Model) (vs : List Event) (c : Check) : Type 0 where
  pub model : accepted b ≡ answer (with_events vs m)
  pub checks : check areas b ≡ answer c

-- of an accepted model, with areas and an output of these sizes
pub record WrittenFiles (areas : Areas) (output : ℕ) (f : List ℕ) (m : Model) : Type 0 where
  pub witness : (v : Verification) → verify areas output f ≡ answer v → (w : Witness) → v.witness ≡ some w
      → (b : List ℕ) → witness_file f v ≡ some b → Short b → ReadsBack areas b m w.events w.check
  pub reduced : (d : Minimized) → minimize areas output f ≡ answer d
      → Short (reduced_file f d) → ReadsBack areas (reduced_file f d) m d.events d.check
