-- What the entries of this crate answer, by the definitions of crate `model_spec`.
use Rattle.std.specs.Prelude.{ℕ, List}
use Rattle.model_spec.specs.Answer.{Answer, answer, refused}
use Rattle.model_spec.specs.Model.{Model}
use Rattle.model_spec.specs.Validate.{accepted}
use Rattle.model_validate.specs.declared.Validity.{Validity}
use Rattle.model_validate.specs.declared.Validity.TheVariants as validity

-- a model that is accepted, or the scope's number of the refusal
unfoldable pub validity_of : Answer Model → Validity
validity_of (answer m) = validity.Accepted
validity_of (refused n) = validity.Refused n

-- the entry `validate`: 30, 31, then 1 to 19 in the order of Rust's `validate`, or accepted
unfoldable pub validated : (file : List ℕ) → Validity
validated file = validity_of (accepted file)
