-- The answer of a simulation, read off the machine where it halted; and what it begins with: the model's values and events.
-- `simulated_is` joins `ended_is` and the definition's `simulated`.
use Rattle.std.specs.Prelude.{if◌then◌else◌}
use mathlib.Core.Path.{◌≡◌, refl, sym, ap, ◌∙◌, subst}
use mathlib.Core.List.{List, [], ◌∷◌, ◌++◌}
use mathlib.Core.Option.{Option}
use Prim.Native.Nat.{ℕ, zero, suc, ◌+◌, ◌-◌, ◌*◌, ◌≤◌, ◌<◌}
use native.Mathlib.Omega.{arith}
use lib.ListN.{length, get_or}
use lib.Dec.{eqb}
use borrow.Author.Tests.{ne_eqb}
use Rattle.layout.specs.Sizes.{simulation_reasons}
use Rattle.texts.specs.Lists.{each}
use Rattle.texts.specs.Texts.{Text}
use Rattle.model_spec.specs.Answer.{Answer, answer, refused, accept}
use Rattle.model_spec.specs.Model.{Entity, Event, Input, reload, Model}
use Rattle.model_spec.specs.Events.{InputWords}
use Rattle.model_spec.specs.Validate.{check_value, check_input}
use Rattle.engine_spec.specs.Cells.{Cell, initial_cells}
use Rattle.engine_spec.specs.Records.{Work, Run, Areas}
use Rattle.engine_spec.specs.Reasons.{runs_left}
use Rattle.engine_spec.specs.Engine.{Ended, left_over}
use Rattle.engine_spec.specs.Simulate.{Simulation, ended, outcome, unless_full, simulated}
use Rattle.engine_spec.proofs.Lists.{Each}
use Rattle.engine_state.specs.Machine.{Machine}
use Rattle.engine_schedule.specs.Events.{event_m, begun_m}
use Rattle.engine_loop.specs.Loop.{Halt, loop_m, closed_m}
use Rattle.engine_refinement.specs.Meaning.{
  work_of,
  record_of,
  cell_at,
  cells_from,
  cells_of,
  meant_run,
  pool_of,
  Column,
  Tabled,
}
use Rattle.engine_refinement.specs.Events.{Among, GoodWork, EventAt}
use Rattle.engine_refinement.proofs.Evaluate.{Valued, entities_are}
use Rattle.engine_refinement.proofs.Checked.{known_value}
use Rattle.engine_refinement.proofs.Pigeonhole.{at_most}
use Rattle.engine_refinement.proofs.Relation.{Worded, Live}
use Rattle.engine_refinement.proofs.Perform.{declared}
use Rattle.engine_refinement.proofs.Loop.{reasons_of}
use Rattle.engine_refinement.proofs.Simulated.{Beginning, Result, ends, full, ended_is, runs_none, runs_some}
use Rattle.engine_refinement.proofs.Lists as lists

module _ (f x : List ℕ) (ts : List Text) (mo : Model) (tb : Tabled f x ts mo) where
  -- the simulation that a machine shows where it halted
  unfoldable pub shown : Halt → Simulation
  shown p = record {
    trace = each (record_of x ts) p.last.records;
    final_state = each (λ (c : Cell). (c.name, c.value)) (cells_of x ts p.last.values p.last.versions);
    unknown = p.last.reasons;
    incomplete = reasons_of p.stop_reason ++ (if eqb (length p.last.runs) 0 then [] else runs_left ∷ []);
    steps = mo.scenario.limits.max_steps - p.left;
    horizon = mo.scenario.limits.horizon;
  }

  -- each record's words are those of the record that it stands for, the values are places of texts, and reasons are few and
  -- among those that the model can give
  pub record Kept (k : Machine) : Type 0 where
    pub words : Each (Worded x ts mo) k.records
    pub valued : Valued f x ts mo tb k.values
    pub few : length k.reasons ≤ simulation_reasons
    pub among : Among (pool_of mo) k.reasons

  -- an answer, or the number of the area that was full
  pub data Answered (p : Halt) (a : Answer Simulation) : Type 0 where
    shows : p.last.«overflow» ≡ 0 → a ≡ answer (shown p) → p.stop_reason ≤ 2 → Kept p.last → Answered p a
    refuses : (n : ℕ) → (n ≡ 0 → ⊥) → p.last.«overflow» ≡ n → a ≡ refused n → Answered p a

  left_is : (n : ℕ) (rs : List Run) → length rs ≡ n → left_over rs ≡ (if eqb n 0 then [] else runs_left ∷ [])
  left_is zero rs h = runs_none f x ts mo tb rs h
  left_is (suc n) rs h =
      runs_some f x ts mo tb rs (λ e. absurd (omega arith))
      ∙ rw (ne_eqb (suc n) 0 (λ e. absurd (omega arith)))

  shown_is : (p : Halt) (d : Ended) (now : ℕ) → Live f x ts mo tb now 0 p.last d.engine →
      d.steps + p.left ≡ mo.scenario.limits.max_steps →
      d.incomplete ≡ reasons_of p.stop_reason ++ left_over d.engine.runs → outcome mo d ≡ shown p
  unfolding outcome shown
  shown_is p d now l s i =
      let r = left_is (length p.last.runs) d.engine.runs
      (ap length l.runs.is ∙ lists.each_length (meant_run x ts f) p.last.runs) in
      let k : d.steps ≡ mo.scenario.limits.max_steps - p.left = omega arith in
      rw (l.records.is, l.cells.is, ← l.reasons.is, i, r, k)

  result_is : (areas : Areas) (cells : List Cell) (vs : List Event) (p : Halt) →
      Result f x ts mo tb p (ended areas mo cells vs) mo.scenario.limits.max_steps →
      Answered p (simulated areas mo cells vs)
  unfolding simulated unless_full
  result_is areas cells vs p (ends now l s w i) =
      shows l.free
      (ap (λ (y : Option ℕ). unless_full y (outcome mo (ended areas mo cells vs))) l.calm
      ∙ ap answer (shown_is p (ended areas mo cells vs) now l s i))
      w
      (record {
        words = l.records.words;
        valued = l.cells.valued;
        few = omega (
          arith,
          ap length l.reasons.is,
          at_most (ended areas mo cells vs).engine.unknown (pool_of mo) l.reasons.differ l.reasons.among,
          tb.few_reasons,
        );
        among = subst (Among (pool_of mo)) (sym l.reasons.is) l.reasons.among;
      })
  result_is areas cells vs p (full n z h o) =
      refuses n z h.is (ap (λ (y : Option ℕ). unless_full y (outcome mo (ended areas mo cells vs))) o)

  -- a simulation, from its beginning to its answer
  pub simulated_is : (m : Machine) (areas : Areas) (cells : List Cell) → Beginning f x ts mo tb m areas cells →
      (l : List ℕ) (d : Event) (vs : List Event) → ((i : ℕ) → i < length vs → EventAt f x ts mo l i (get_or vs i d)) →
      Answered (closed_m x (loop_m f x (get_or x 3 0) (begun_m x l (length vs) m))) (simulated areas mo cells vs)
  simulated_is m areas cells b l d vs evs = result_is areas cells vs _ (ended_is f x ts mo tb m areas cells b l d vs evs)

  -- ---- what it begins with

  -- the model's own values, with versions 0
  start_from : (vs ns : List ℕ) (es : List Entity) (o : ℕ) →
      ((d : Entity) (e : ℕ) → e < length es → Column x ts (o + e) (get_or es e d)) →
      ((d : Entity) (e : ℕ) → e < length es → (get_or es e d).initial ≡ get_or ts (get_or vs (o + e) 0) []) →
      ((e : ℕ) → get_or ns e 0 ≡ 0) → initial_cells es ≡ cells_from x ts vs ns (length es) o
  unfolding initial_cells each cells_from cell_at
  start_from vs ns [] o c v n = refl
  start_from vs ns (y ∷ es) o c v n =
      let z : o + 0 ≡ o = omega arith in
      let k : Column x ts o y = subst (λ (i : ℕ). Column x ts i y) z (c y 0 (omega arith)) in
      let i : y.initial ≡ get_or ts (get_or vs o 0) [] = v y 0 (omega arith) ∙ ap (λ (j : ℕ). get_or ts (get_or vs j 0) []) z in
      let cell : record { name = y.name; stale_after = y.stale_after; value = y.initial; version = 0 }
      ≡ cell_at x ts vs ns o = rw (k.name_is, k.stale_is, i, n o) in
      ap (λ (a : Cell). a ∷ initial_cells es) cell
      ∙ ap (λ (l : List Cell). cell_at x ts vs ns o ∷ l) (start_from vs ns es (o + 1)
      (λ d e h. let q : o + suc e ≡ o + 1 + e = omega arith in
      subst (λ (j : ℕ). Column x ts j (get_or es e d)) q (c d (suc e) (omega arith)))
      (λ d e h. let q : o + suc e ≡ o + 1 + e = omega arith in
      v d (suc e) (omega arith) ∙ ap (λ (j : ℕ). get_or ts (get_or vs j 0) []) q) n)

  pub start_cells : (vs ns : List ℕ) →
      ((d : Entity) (e : ℕ) → e < length mo.scenario.entities →
      (get_or mo.scenario.entities e d).initial ≡ get_or ts (get_or vs e 0) []) →
      ((e : ℕ) → get_or ns e 0 ≡ 0) → initial_cells mo.scenario.entities ≡ cells_of x ts vs ns
  unfolding cells_of
  start_cells vs ns v n =
      start_from vs ns mo.scenario.entities 0
      (λ d e h. let q : e ≡ 0 + e = omega arith in subst (λ (j : ℕ). Column x ts j (get_or mo.scenario.entities e d)) q
      (tb.columns d e h))
      (λ d e h. let q : e ≡ 0 + e = omega arith in v d e h ∙ ap (λ (j : ℕ). get_or ts (get_or vs j 0) []) q) n
      ∙ ap (λ (j : ℕ). cells_from x ts vs ns j 0) (sym (entities_are f x ts mo tb))

  event_good : (k e v : ℕ) (i : Input) → check_input mo.scenario.entities i ≡ accept → InputWords ts k e v i →
      (work_of x ts (event_m k e v) ≡ Work.external i) × GoodWork f x ts mo (event_m k e v)
  unfolding event_m work_of check_input
  event_good k e v (Input.set a b) c w =
      let z = w.0 in
      let known = known_value mo.scenario.entities (pool_of mo) (get_or ts e []) b
      (subst (λ (t : Text). check_value mo.scenario.entities t b ≡ accept) w.1.0.1 c) in
      rw z (
        ap (λ (t : Text). Work.external (Input.set t (get_or ts v []))) (sym w.1.0.1)
            ∙ ap (λ (t : Text). Work.external (Input.set a t)) (sym w.1.1.1),
        (declared f x ts mo tb e w.1.0.0 known, (w.1.0.0, w.1.1.0)),
      )
  event_good k e v Input.restart c w = rw w (refl, tt)
  event_good k e v reload c w = rw w (refl, tt)

  pub event_at : (l : List ℕ) (i : ℕ) (v : Event) → check_input mo.scenario.entities v.input ≡ accept →
      get_or l (i * 4) 0 ≡ v.at →
      InputWords ts (get_or l (i * 4 + 1) 0) (get_or l (i * 4 + 2) 0) (get_or l (i * 4 + 3) 0) v.input →
      EventAt f x ts mo l i v
  event_at l i v c s w = let g = event_good (get_or l (i * 4 + 1) 0) (get_or l (i * 4 + 2) 0) (get_or l (i * 4 + 3) 0) v.input
      c w in record { second = s; work = g.0; good = g.1 }
