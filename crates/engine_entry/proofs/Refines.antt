-- A simulation by the code is the definition's, from what the simulations of an accepted model share to the answer.
-- `ran` is the simulator's promise: whoever runs one goes on from it.
use Rattle.std.specs.Prelude.{if◌then◌else◌}
use Prim.Native.Nat.{ℕ, ◌+◌, ◌-◌, ◌/◌, ◌≤◌, ◌<◌}
use mathlib.Core.Path.{◌≡◌, refl, sym, ap, subst, ◌∙◌}
use mathlib.Core.Bool.{Bool, true, false, not}
use mathlib.Core.List.{List, [], ◌∷◌, ◌++◌}
use native.Mathlib.Omega.{arith}
use lib.Dec.{eqb}
use lib.ListN.{length, get_or, replicate, length-append, length-replicate}
use borrow.Author.Tests.{eq-eqb, ne_eqb}
use Rattle.layout.specs.Sizes.{simulation_reasons}
use Rattle.bounds.specs.Bounds.{AtMost}
use Rattle.texts.specs.Lists.{each, flat}
use Rattle.texts.specs.Texts.{Text}
use Rattle.model_spec.specs.Answer.{answer, refused}
use Rattle.model_spec.specs.Model.{Event, Model}
use Rattle.model_spec.specs.Validate.{accepted}
use Rattle.model_index.specs.declared.Index.{Index}
use Rattle.model_index.specs.Indexed.{Indexed}
use Rattle.areas.specs.Areas.{area}
use Rattle.areas.proofs.Laws as areas
use Rattle.records.specs.Records.{record_words}
use Rattle.records.specs.declared.Record.{Record}
use Rattle.reasons.specs.Lists.{Holds}
use Rattle.engine_spec.specs.Cells.{Cell, initial_cells}
use Rattle.engine_spec.specs.Records.{Areas}
use Rattle.engine_spec.specs.Reasons.{unsupported_wait, runs_left}
use Rattle.engine_spec.specs.Simulate as engine
use Rattle.engine_spec.specs.Simulate.{simulated}
use Rattle.engine_spec.specs.Unsupported.{unsupported}
use Rattle.engine_spec.proofs.Lists.{Each}
use Rattle.engine_run.specs.Run.{wholly_m, beginning, refusal_m, answer_m, Answers}
use Rattle.engine_run.specs.Run as run
use Rattle.engine_run.specs.declared.Simulation.{Simulation as Run}
use Rattle.engine_loop.specs.Loop.{Halt}
use Rattle.engine_refinement.specs.Meaning.{record_of, cells_of, rule_pool, pool_of, Tabled}
use Rattle.engine_refinement.proofs.Accepted.{accepted_notes}
use Rattle.engine_refinement.proofs.Loop.{reasons_of}
use Rattle.engine_refinement.proofs.Outcome.{Answered, shows, refuses, Kept, shown, simulated_is}
use Rattle.engine_refinement.proofs.Pigeonhole.{Among}
use Rattle.engine_refinement.proofs.Relation.{Worded}
use Rattle.engine_refinement.proofs.Simulated.{EventAt, Beginning}
use Rattle.engine_refinement.proofs.Evaluate.{Valued}
use Rattle.engine_table.proofs.Refines.{model_table}
use Rattle.engine_inputs.proofs.Refines.{start_valued, start_cells_are}
use Rattle.engine_unsupported.specs.Rows.{RulesAt}
use Rattle.engine_unsupported.proofs.Refines.{unsupported_agrees}
use Rattle.engine_entry.specs.Contract.{incomplete_of}
use Rattle.engine_entry.specs.Prepared.{Prepared, PreparedFrom}
use Rattle.engine_entry.specs.Promises.{Ran}
use Rattle.engine_summary.specs.declared.Simulation.{Simulation}
use Rattle.engine_summary.proofs.Laws.{zeros}
use Rattle.engine_entry.proofs.Numbers.{area_numbers}

module _ (f : List ℕ) (i : Index) (m : Model) (acc : accepted f ≡ answer m) (o : Indexed f i m)
    (bytes : (k : ℕ) → get_or f k 0 < 256) (g : Prepared) (gr : PreparedFrom f i g) where
  abbrev x : List ℕ
  x = g.table

  abbrev ts : List Text
  ts = o.ts

  abbrev notes : List Text
  notes = unsupported m.rules

  abbrev cells : List Cell
  cells = initial_cells m.scenario.entities

  pub tb : Tabled f x ts m
  tb = model_table f i x m gr.table o bytes acc

  -- ---- the reasons of the notes

  rules_at : RulesAt f x ts m.rules
  rules_at = record {
    size = tb.size;
    few_texts = tb.few_texts;
    counted = tb.counted;
    placed_text = tb.placed_text;
    automations = tb.automations;
    few_automations = tb.few_automations;
    rows = λ d k h.
        let r = tb.rows d k h in
        record {
          id_in = r.id_in;
          id = r.id;
          triggers = r.triggers;
          conditions = r.conditions;
          actions = r.actions;
          notes = r.notes;
        };
  }

  pub notes_held : Holds f notes g.count g.reasons
  notes_held =
      subst (λ (l : List Text). Holds f l g.count g.reasons) (unsupported_agrees m rules_at (accepted_notes f m acc))
      gr.reasons

  few_notes : g.count ≤ simulation_reasons
  unfolding pool_of
  few_notes = omega (
    arith,
    notes_held.many,
    tb.few_reasons,
    length-append notes (unsupported_wait ∷ flat rule_pool m.rules),
  )

  pub held_as : {count : ℕ} → AtMost g.count simulation_reasons count → Holds f notes count g.reasons
  held_as few = subst (λ (j : ℕ). Holds f notes j g.reasons) (sym (few.same few_notes)) notes_held

  -- after a run the areas of queue and runs are zeros
  module _ {v : List ℕ} {n : ℕ} {s : Simulation} {q q' a a' r r' : List ℕ} (ran_so : Ran f g v n s q q' a a' r r') where
    pub queue_clear : q' ≡ replicate (length q) 0
    queue_clear = ran_so.does.queue notes (held_as ran_so.few)

    pub runs_clear : r' ≡ replicate (length r) 0
    runs_clear = ran_so.does.runs notes (held_as ran_so.few)

  -- ---- the machine at the start

  begins : (sizes : Areas) →
      Beginning f x ts m tb (beginning g.cells sizes.queue sizes.records sizes.runs notes) sizes cells
  begins sizes = record {
    now = refl;
    full = refl;
    made = refl;
    sequences = zeros 32;
    sequences_long = length-replicate {A = ℕ} 32 0;
    cells_are = start_cells_are f x i m acc o tb g.cells gr.cells;
    valued = start_valued f x i m acc o tb g.cells gr.cells;
    versions = λ e. ap (λ (l : List ℕ). get_or l e 0) gr.cells.versions ∙ zeros 32 e;
    versions_long = ap length gr.cells.versions ∙ length-replicate {A = ℕ} 32 0;
    queue = refl;
    records = refl;
    runs = refl;
    reasons = refl;
    queue_size_lem = refl;
    record_size_lem = refl;
    run_size_lem = refl;
  }

  -- ---- a run with the events vs, given as words

  module _ (l : List ℕ) (d : Event) (vs : List Event) (evs : (k : ℕ) → k < length vs → EventAt f x ts m l k (get_or vs k d))
      (s : Run) (q q' a a' r r' u' : List ℕ) where
    abbrev sizes : Areas
    sizes = record { queue = length q / 5; records = length a / 13; runs = length r / 28 }

    abbrev halt : Halt
    halt = wholly_m f x l (length vs) (beginning g.cells (length q / 5) (length a / 13) (length r / 28) notes)

    -- what the run's answer and the record area say of the definition's simulation
    pub record Done (sim : engine.Simulation) : Type 0 where
      pub records : List Record
      pub versions : List ℕ
      pub accepted : s.refused ≡ 0
      pub steps : s.steps ≡ sim.steps
      pub horizon : sim.horizon ≡ m.scenario.limits.horizon
      pub count : s.records ≡ length records
      pub trace : sim.trace ≡ each (record_of x ts) records
      pub area_is : a' ≡ area record_words (length a) records
      pub words : Each (Worded x ts m) records
      pub final : sim.final_state ≡ each (λ (c : Cell). (c.name, c.value)) (cells_of x ts s.values versions)
      pub valued : Valued f x ts m tb s.values
      pub unknown : Holds f sim.unknown s.reasons u'
      pub few : length sim.unknown ≤ simulation_reasons
      pub among : Among (pool_of m) sim.unknown
      pub stop_reason : s.stop_reason ≤ 2
      pub incomplete : incomplete_of s.stop_reason s.runs_left ≡ sim.incomplete

    pub data Outcome : Type 0 where
      done : (sim : engine.Simulation) → simulated sizes m cells vs ≡ answer sim → Done sim → Outcome
      full : (n : ℕ) → 41 ≤ n → n ≤ 43 → simulated sizes m cells vs ≡ refused n → s ≡ refusal_m n →
          a' ≡ replicate (length a) 0 → Outcome

    halted : Answered f x ts m tb halt (simulated sizes m cells vs)
    unfolding wholly_m
    halted = simulated_is f x ts m tb _ sizes cells (begins sizes) l d vs evs

    answer_done : (total : ℕ) (p : Halt) → p.last.«overflow» ≡ 0 →
        answer_m total p ≡ record {
          refused = 0;
          steps = total - p.left;
          records = length p.last.records;
          reasons =
              length p.last.reasons;
          stop_reason = p.stop_reason;
          runs_left = not (eqb (length p.last.runs) 0);
          values = p.last.values;
        }
    unfolding answer_m
    answer_done total p z = rw (eq-eqb p.last.«overflow» 0 z)

    answer_full : (total : ℕ) (p : Halt) → (p.last.«overflow» ≡ 0 → ⊥) → answer_m total p ≡ refusal_m p.last.«overflow»
    unfolding answer_m
    answer_full total p z = rw (ne_eqb p.last.«overflow» 0 z)

    left_as : (n : ℕ) → (if not (eqb n 0) then runs_left ∷ [] else []) ≡ (if eqb n 0 then [] else runs_left ∷ [])
    left_as n = by (eqb n 0)
      where
        by : (b : Bool) → (if not b then runs_left ∷ [] else []) ≡ (if b then [] else runs_left ∷ [])
        by true = refl
        by false = refl

    shown_done : (p : Halt) → Answers f x s a a' u' p → p.last.«overflow» ≡ 0 → p.stop_reason ≤ 2 →
        Kept f x ts m tb p.last → Done (shown f x ts m tb p)
    unfolding shown incomplete_of reasons_of
    shown_done p told z w k =
        let e = told.answer ∙ answer_done (get_or x 3 0) p z in
        record {
          records = p.last.records;
          versions = p.last.versions;
          accepted = ap (λ (y : Run). y.refused) e;
          steps = ap (λ (y : Run). y.steps) e ∙ ap (λ (n : ℕ). n - p.left) tb.steps;
          horizon = refl;
          count = ap (λ (y : Run). y.records) e;
          trace = refl;
          area_is = told.records ∙ rw (eq-eqb p.last.«overflow» 0 z);
          words = k.words;
          final = ap (λ (v : List ℕ). each (λ (c : Cell). (c.name, c.value)) (cells_of x ts v p.last.versions))
              (sym (ap (λ (y : Run). y.values) e));
          valued = subst (Valued f x ts m tb) (sym (ap (λ (y : Run). y.values) e)) k.valued;
          unknown = subst (λ (n : ℕ). Holds f p.last.reasons n u') (sym (ap (λ (y : Run). y.reasons) e))
              told.reasons;
          few = k.few;
          among = k.among;
          stop_reason = omega (arith, w, ap (λ (y : Run). y.stop_reason) e);
          incomplete = ap (λ (y : Run). incomplete_of y.stop_reason y.runs_left) e
              ∙ ap (λ (t : List Text). reasons_of p.stop_reason ++ t) (left_as (length p.last.runs));
        }

    pub ran : {n count : ℕ} → n ≡ length vs → AtMost g.count simulation_reasons count →
        run.Simulates f x l n g.cells count s q q' a a' r r' g.reasons u' → Outcome
    ran {n} {count} many few does = by halted
      where
        told : Answers f x s a a' u' halt
        told = (subst (λ (j : ℕ). run.Simulates f x l j g.cells count s q q' a a' r r' g.reasons u') many does).does
            notes (held_as few)

        by : Answered f x ts m tb halt (simulated sizes m cells vs) → Outcome
        by (shows z e w k) = done _ e (shown_done halt told z w k)
        by (refuses j z h e) =
            let other : halt.last.«overflow» ≡ 0 → ⊥ = λ y. z (sym h ∙ y) in
            let w = area_numbers sizes m cells vs j e in
            full j w.0 w.1 e (told.answer ∙ answer_full (get_or x 3 0) halt other ∙ ap refusal_m h)
            (told.records ∙ rw (ne_eqb halt.last.«overflow» 0 other) (areas.area_none record_words (length a)))
