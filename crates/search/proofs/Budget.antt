-- A check takes at most as many steps as the model allows.
use Prim.Native.Nat.{ℕ, zero, suc, ◌+◌, ◌≤◌}
use mathlib.Core.Path.{◌≡◌, subst}
use mathlib.Core.List.{List, [], ◌∷◌}
use mathlib.Core.Option.{Option, none, some}
use native.Mathlib.Omega.{arith}
use Rattle.texts.specs.Lists.{◌▸◌}
use Rattle.model_spec.specs.Answer.{Answer, answer, refused}
use Rattle.model_spec.specs.Model.{Automation, Event, Model}
use Rattle.model_spec.specs.Validate.{accepted}
use Rattle.engine_spec.specs.Cells.{Cell}
use Rattle.engine_spec.specs.Records.{Areas, Engine}
use Rattle.engine_spec.specs.Reasons.{space_spent, steps_spent}
use Rattle.engine_spec.specs.Changes.{with_queue}
use Rattle.engine_spec.specs.Engine.{Ended, Next, stop, exhausted, take, pop, next_of, process, loop, begun, closed}
use Rattle.engine_spec.specs.Simulate as engine
use Rattle.engine_spec.specs.Simulate.{ended, outcome, unless_full, simulated}
use Rattle.engine_spec.specs.Unsupported.{unsupported}
use Rattle.engine_spec.proofs.Distinct.{answer_eq, refused_answer, bind_inv}
use Rattle.engine_refinement.proofs.Accepted.{accepted_lawful}
use Rattle.checker_spec.specs.Check.{Check, judged, checked}

abbrev Few : ℕ → Ended → Type 0
Few most d = d.steps ≤ most

module _ (rules : List Automation) (horizon : ℕ) where
  loop_steps : (left n : ℕ) (e : Engine) → Few (n + left) (loop rules horizon left n e)
  unfolding loop
  loop_steps zero n e = by (next_of horizon e (pop e.queue))
    where
      by : (x : Next) → Few (n + 0) (elim x [
        | stop ↦ record { engine = e; steps = n; incomplete = [] }
        | exhausted ↦ record { engine = e; steps = n; incomplete = space_spent ∷ [] }
        | take i l ↦ record { engine = e; steps = n; incomplete = steps_spent ∷ [] }
      ])
      by stop = omega arith
      by exhausted = omega arith
      by (take i l) = omega arith
  loop_steps (suc left) n e = by (next_of horizon e (pop e.queue)) (loop_steps left (n + 1))
    where
      by : (x : Next) → ((d : Engine) → Few (n + 1 + left) (loop rules horizon left (n + 1) d))
          → Few (n + suc left) (elim x [
            | stop ↦ record { engine = e; steps = n; incomplete = [] }
            | exhausted ↦ record { engine = e; steps = n; incomplete = space_spent ∷ [] }
            | take i l ↦ loop rules horizon left (n + 1) (e ▸ with_queue l ▸ process i.at rules i.work)
          ])
      by stop h = omega arith
      by exhausted h = omega arith
      by (take i l) h = omega (arith, h (e ▸ with_queue l ▸ process i.at rules i.work))

ended_steps : (areas : Areas) (m : Model) (cells : List Cell) (events : List Event) →
    Few m.scenario.limits.max_steps (ended areas m cells events)
unfolding ended closed
ended_steps areas m cells events =
    omega (
      arith,
      loop_steps m.rules m.scenario.limits.horizon m.scenario.limits.max_steps 0
          (begun areas m.start cells (unsupported m.rules) events),
    )

simulated_steps : (areas : Areas) (m : Model) (cells : List Cell) (events : List Event) (s : engine.Simulation) →
    simulated areas m cells events ≡ answer s → s.steps ≤ m.scenario.limits.max_steps
unfolding simulated
simulated_steps areas m cells events s e = by (ended areas m cells events).engine.overflow e
  where
    by : (o : Option ℕ) → unless_full o (outcome m (ended areas m cells events)) ≡ answer s
        → s.steps ≤ m.scenario.limits.max_steps
    by none p =
        let q : answer (outcome m (ended areas m cells events)) ≡ answer s = unfold unless_full in p in
        subst (λ (x : engine.Simulation). x.steps ≤ m.scenario.limits.max_steps) (answer_eq q)
        (unfold outcome in ended_steps areas m cells events)
    by (some n) p =
        let q : ◌≡◌ {A = Answer engine.Simulation} (refused n) (answer s) = unfold unless_full in p in
        absurd (refused_answer q)

pub few_steps : (f : List ℕ) (m : Model) → accepted f ≡ answer m
    → (areas : Areas) (cells : List Cell) (events : List Event) (c : Check) →
    checked areas m cells events ≡ answer c → c.simulation.steps ≤ 10000
unfolding checked judged
few_steps f m acc areas cells events c e =
    let b = bind_inv (simulated areas m cells events) (λ s. answer (judged m.scenario.invariants cells s)) c e in
    subst (λ (y : Check). y.simulation.steps ≤ 10000) (answer_eq b.1.1)
    (omega (arith, simulated_steps areas m cells events b.0 b.1.0, (accepted_lawful f m acc).few_steps))
