-- A simulation is refused with 41 to 43 only.
use Rattle.std.specs.Prelude.{if◌then◌else◌}
use Prim.Native.Nat.{ℕ, ◌≤◌}
use mathlib.Core.Path.{◌≡◌, sym, subst}
use mathlib.Core.Bool.{Bool, true, false}
use mathlib.Core.List.{List}
use mathlib.Core.Option.{Option, none, some}
use native.Mathlib.Omega.{arith}
use lib.Dec.{leb}
use lib.ListN.{length}
use Rattle.model_spec.specs.Answer.{Answer, refused}
use Rattle.model_spec.specs.Model.{Event, Model}
use Rattle.engine_spec.specs.Cells.{Cell}
use Rattle.engine_spec.specs.Records.{Areas, Engine}
use Rattle.engine_spec.specs.Changes.{noted, with_cells, add, append, with_runs, add_run, uncertain, with_queue}
use Rattle.engine_spec.specs.Simulate.{Simulation, ended, outcome, unless_full, simulated}
use Rattle.engine_spec.proofs.Closed.{Closed, ended_closed}
use Rattle.engine_spec.proofs.Distinct.{refused_answer}

abbrev AreaNumber : ℕ → Type 0
AreaNumber n = (41 ≤ n) × (n ≤ 43)

abbrev Known : Option ℕ → Type 0
Known none = Unit {0}
Known (some n) = AreaNumber n

noted_known : (n used size : ℕ) (o : Option ℕ) → AreaNumber n → Known o → Known (noted n used size o)
unfolding noted
noted_known n used size none h k = by (leb size used)
  where
    by : (b : Bool) → Known (if b then some n else none)
    by true = h
    by false = tt
noted_known n used size (some m) h k = k

known_closed : Closed (λ (e : Engine). Known e.overflow)
unfolding with_cells add append with_runs add_run uncertain with_queue
known_closed = record {
  on_cells = λ l e h. h;
  on_add = λ i e h. noted_known 41 (length e.queue) e.areas.queue e.overflow (omega arith, omega arith) h;
  on_append = λ t e h. noted_known 42 (length e.trace) e.areas.records e.overflow (omega arith, omega arith) h;
  on_runs = λ l e h. h;
  on_run = λ r e h. noted_known 43 (length e.runs) e.areas.runs e.overflow (omega arith, omega arith) h;
  on_uncertain = λ t e h. h;
  on_queue = λ l e h. h;
}

pub area_numbers : (areas : Areas) (m : Model) (cells : List Cell) (events : List Event) (n : ℕ) →
    simulated areas m cells events ≡ refused n → AreaNumber n
unfolding simulated unless_full
area_numbers areas m cells events n e =
    by (ended areas m cells events).engine.overflow
    (ended_closed (λ (e : Engine). Known e.overflow) known_closed areas m cells events tt) e
  where
    by : (o : Option ℕ) → Known o → unless_full o (outcome m (ended areas m cells events)) ≡ refused n → AreaNumber n
    by none h e = absurd (refused_answer (sym e))
    by (some k) h e =
        let y : ◌≡◌ {A = Answer Simulation} (refused k) (refused n) = e in
        let z : k ≡ n = cc in
        subst AreaNumber z h
