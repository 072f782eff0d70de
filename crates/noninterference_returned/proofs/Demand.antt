-- Demand 3 of what `check` and `verify` return, as Returned.antt of specs states it.
use Rattle.noninterference_returned.specs.Returned.{Demand3Returned}
use Rattle.noninterference_returned.proofs.Returned.{check_returned}
use Rattle.noninterference_returned.proofs.Found.{verify_returned}

-- the theorem
pub demand3_returned : Demand3Returned
demand3_returned f f' m m' p p' alike = record {
  checks = check_returned f f' m m' p p' alike;
  searches = verify_returned f f' m m' p p' alike;
}
