-- Without windows no entry's answer depends on the start.
use Prim.Native.Nat.{ℕ}
use mathlib.Core.Path.{◌≡◌, refl}
use mathlib.Core.List.{List}
use Rattle.texts.specs.Lists.{is_empty}
use Rattle.model_spec.specs.Answer.{Answer, answer, ◌>>=◌, ◌and◌, ◌when◌}
use Rattle.model_spec.specs.Model.{Model}
use Rattle.model_spec.specs.Windows.{with_start}
use Rattle.model_spec.specs.Validate.{accepted}
use Rattle.engine_spec.specs.Cells.{Cell, initial_cells}
use Rattle.engine_spec.specs.Unsupported.{unsupported}
use Rattle.engine_spec.specs.Records.{Areas}
use Rattle.engine_spec.specs.Simulate.{simulated, simulate, unsupported_of}
use Rattle.engine_spec.proofs.Windowless.{windowless_simulated}
use Rattle.checker_spec.specs.Check.{checked, check}
use Rattle.checker_spec.specs.Verify.{verified, short_of_room, verify}
use Rattle.checker_spec.specs.Minimize.{minimized, minimize}
use Rattle.checker_spec.specs.Windowless.{OtherStart, Windowless}
use Rattle.checker_spec.proofs.Windowless.{windowless_checked, windowless_verified, windowless_minimized}

-- two files whose models go on alike
through : {A : Type 0} (file file' : List ℕ) (o : OtherStart file file') (f g : Model → Answer A)
    → f (with_start o.start o.m) ≡ g o.m → (accepted file' >>= f) ≡ (accepted file >>= g)
unfolding ◌>>=◌
through file file' o f g e = rw (o.accepts, o.accepts') e

lists : (file file' : List ℕ) → OtherStart file file' → unsupported_of file' ≡ unsupported_of file
unfolding unsupported_of
lists file file' o =
    through file file' o (λ m. answer (unsupported m.rules)) (λ m. answer (unsupported m.rules)) refl

module _ (file file' : List ℕ) (o : OtherStart file file') (areas : Areas) where
  cells : List Cell
  cells = initial_cells o.m.scenario.entities

  simulates : simulate areas file' ≡ simulate areas file
  unfolding simulate cells
  simulates =
      through file file' o (λ m. simulated areas m (initial_cells m.scenario.entities) m.scenario.events)
      (λ m. simulated areas m (initial_cells m.scenario.entities) m.scenario.events)
      (windowless_simulated o.start areas o.m o.no_window cells o.m.scenario.events)

  checks : check areas file' ≡ check areas file
  unfolding check cells
  checks =
      through file file' o (λ m. checked areas m (initial_cells m.scenario.entities) m.scenario.events)
      (λ m. checked areas m (initial_cells m.scenario.entities) m.scenario.events)
      (windowless_checked o.start areas o.m o.no_window cells o.m.scenario.events)

  verifies : (output output' : ℕ) → short_of_room output' file' ≡ short_of_room output file
      → verify areas output' file' ≡ verify areas output file
  unfolding verify cells
  verifies n n' s =
      through file file' o
      (λ m. 20 when is_empty m.scenario.invariants and 44 when short_of_room n' file'
      and verified areas m (initial_cells m.scenario.entities))
      (λ m. 20 when is_empty m.scenario.invariants and 44 when short_of_room n file
      and verified areas m (initial_cells m.scenario.entities))
      (λ i. 20 when is_empty o.m.scenario.invariants and 44 when (s i)
      and windowless_verified o.start areas o.m o.no_window cells i)

  minimizes : (output output' : ℕ) → short_of_room output' file' ≡ short_of_room output file
      → minimize areas output' file' ≡ minimize areas output file
  unfolding minimize cells
  minimizes n n' s =
      through file file' o
      (λ m. 44 when short_of_room n' file'
      and minimized areas m (initial_cells m.scenario.entities) m.scenario.events)
      (λ m. 44 when short_of_room n file
      and minimized areas m (initial_cells m.scenario.entities) m.scenario.events)
      (λ i. 44 when (s i)
      and windowless_minimized o.start areas o.m o.no_window cells o.m.scenario.events i)

pub any_start : Windowless
any_start = record { lists = lists; simulates = simulates; checks = checks; verifies = verifies; minimizes = minimizes }
