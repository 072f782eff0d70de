-- A model whose automations have no window is checked, searched and reduced the same whatever its start.
use Prim.Native.Nat.{ℕ, zero, suc, ◌+◌}
use mathlib.Core.Path.{◌≡◌, refl, ap, fun_ext}
use mathlib.Core.Bool.{true, false, ◌||◌}
use mathlib.Core.List.{List, []}
use lib.Dec.{ltb, leb, eqb}
use lib.ListN.{length}
use Rattle.texts.specs.Lists.{all}
use Rattle.texts.specs.Texts.{Text}
use Rattle.model_spec.specs.Answer.{Answer, answer, ◌>>=◌}
use Rattle.model_spec.specs.Model.{Moment, Event, Model}
use Rattle.model_spec.specs.Windows.{windowless_rule, with_start}
use Rattle.engine_spec.specs.Cells.{Cell}
use Rattle.engine_spec.specs.Records.{Areas}
use Rattle.engine_spec.specs.Simulate.{Simulation}
use Rattle.engine_spec.proofs.Windowless.{windowless_simulated}
use Rattle.checker_spec.specs.Check.{Check, judged, checked}
use Rattle.checker_spec.specs.Verify.{
  Search,
  Visitor,
  after_case,
  out_of_budget,
  unless_stopped,
  each_gap,
  try_case,
  visit,
  deepen,
  searched,
  verification_of,
  verified,
}
use Rattle.checker_spec.specs.Minimize.{remove, violates, target_of, reduce, minimized}

module _ (o : Moment) (areas : Areas) (m : Model) (w : all windowless_rule m.rules ≡ true) (cells : List Cell) where
  pub windowless_checked : (events : List Event)
      → checked areas (with_start o m) cells events ≡ checked areas m cells events
  unfolding checked
  windowless_checked events =
      ap (λ (x : Answer Simulation). x >>= λ sim. answer (judged m.scenario.invariants cells sim))
      (windowless_simulated o areas m w cells events)

  -- ---- the search

  same_case : try_case areas (with_start o m) cells ≡ try_case areas m cells
  unfolding try_case
  same_case = fun_ext (λ events. fun_ext (λ s.
      ap (λ (x : Answer Check). elim (leb m.scenario.limits.max_cases s.cases || leb 200000 s.total_steps) [
        | true ↦ answer (out_of_budget s)
        | false ↦ x >>= λ c. answer (after_case events c s)
      ]) (windowless_checked events)))

  same_visit : (n : ℕ) → visit areas (with_start o m) cells n ≡ visit areas m cells n
  unfolding visit
  same_visit zero = same_case
  same_visit (suc n) =
      ap {B = Visitor} (λ (go : Visitor) (events : List Event) (s : Search).
      each_gap go events m.scenario.limits.horizon m.scenario.alphabet m.scenario.gaps s) (same_visit n)

  same_deepen : (left d : ℕ) (s : Search) → deepen areas (with_start o m) cells left d s ≡ deepen areas m cells left d s
  unfolding deepen
  same_deepen zero d s = refl
  same_deepen (suc k) d s =
      λ i. unless_stopped (same_visit d i []) s >>= λ next. same_deepen k (d + 1) next i

  pub windowless_verified : verified areas (with_start o m) cells ≡ verified areas m cells
  unfolding verified searched verification_of
  windowless_verified = ap (λ (x : Answer Search). x >>= λ s. answer (verification_of m s)) (same_deepen _ _ _)

  -- ---- the reduction

  same_reduce : (target : Text) (left made i : ℕ) (events : List Event)
      → reduce areas (with_start o m) cells target left made i events ≡ reduce areas m cells target left made i events
  unfolding reduce
  same_reduce target zero made i events = refl
  same_reduce target (suc left) made i events =
      λ j. elim (ltb i (length events)) [
        | false ↦ answer (record { events = events; attempts = made; reached = i })
        | true ↦ windowless_checked (remove i events) j >>= λ c. elim (violates target c) [
          | true ↦ same_reduce target left (made + 1) 0 (remove i events) j
          | false ↦ same_reduce target left (made + 1) (i + 1) events j
        ]
      ]

  pub windowless_minimized : (events : List Event)
      → minimized areas (with_start o m) cells events ≡ minimized areas m cells events
  unfolding minimized
  windowless_minimized events =
      λ j. windowless_checked events j >>= λ c. target_of c >>= λ target.
      same_reduce target 200 0 0 events j >>= λ r. windowless_checked r.events j >>= λ final.
      answer (record {
        events = r.events;
        invariant = target;
        original_events = length events;
        attempts = r.attempts;
        deletion_minimal = eqb r.reached (length r.events);
        check = final;
      })
