-- Without windows the start changes no answer: two accepted files whose models differ in nothing but the start, and whose
-- automations have no window, are answered the same.
use Rattle.std.specs.Prelude.{ℕ, ◌≡◌, true, List}
use Rattle.texts.specs.Lists.{all}
use Rattle.model_spec.specs.Answer.{answer}
use Rattle.model_spec.specs.Model.{Moment, Model}
use Rattle.model_spec.specs.Windows.{windowless_rule, with_start}
use Rattle.model_spec.specs.Validate.{accepted}
use Rattle.engine_spec.specs.Records.{Areas}
use Rattle.engine_spec.specs.Simulate.{simulate, unsupported_of}
use Rattle.checker_spec.specs.Check.{check}
use Rattle.checker_spec.specs.Verify.{short_of_room, verify}
use Rattle.checker_spec.specs.Minimize.{minimize}

-- the second file's model is the first one's, but for its start
pub record OtherStart (file file' : List ℕ) : Type 0 where
  pub m : Model
  pub start : Moment
  pub accepts : accepted file ≡ answer m
  pub accepts' : accepted file' ≡ answer (with_start start m)
  pub no_window : all windowless_rule m.rules ≡ true

pub record Windowless : Type 0 where
  pub lists : (file file' : List ℕ) → OtherStart file file' → unsupported_of file' ≡ unsupported_of file
  pub simulates : (file file' : List ℕ) → OtherStart file file' → (areas : Areas)
      → simulate areas file' ≡ simulate areas file
  pub checks : (file file' : List ℕ) → OtherStart file file' → (areas : Areas) → check areas file' ≡ check areas file
  -- verify and minimize ask first whether the output has room for a file that is longer than theirs
  pub verifies : (file file' : List ℕ) → OtherStart file file' → (areas : Areas) (output output' : ℕ)
      → short_of_room output' file' ≡ short_of_room output file → verify areas output' file' ≡ verify areas output file
  pub minimizes : (file file' : List ℕ) → OtherStart file file' → (areas : Areas) (output output' : ℕ)
      → short_of_room output' file' ≡ short_of_room output file → minimize areas output' file' ≡ minimize areas output file
