-- The simulator's promise: what `run_events` answers and leaves in the areas, by the definition's simulation of the model.
-- Whoever runs a simulation goes on from it.
use Prim.Native.Nat.{ℕ, ◌/◌, ◌≤◌, ◌<◌}
use mathlib.Core.Path.{◌≡◌, refl, sym, ap, subst, ◌∙◌}
use mathlib.Core.List.{List}
use native.Mathlib.Omega.{arith}
use lib.ListN.{length, get_or, replicate}
use Rattle.layout.specs.Sizes.{simulation_reasons}
use Rattle.texts.specs.Lists.{each}
use Rattle.texts.specs.Texts.{Text}
use Rattle.areas.specs.Areas.{area}
use Rattle.records.specs.Records.{record_words}
use Rattle.records.specs.declared.Record.{Record}
use Rattle.reasons.specs.Lists.{Holds}
use Rattle.reasons.proofs.Listing.{reported}
use Rattle.model_spec.specs.Answer.{Answer, answer, refused}
use Rattle.model_spec.specs.Model.{Event, Automation, Model}
use Rattle.model_spec.specs.Validate.{accepted}
use Rattle.model_index.specs.declared.Index.{Index}
use Rattle.model_index.specs.Indexed.{Indexed}
use Rattle.engine_spec.specs.Cells.{Cell, initial_cells}
use Rattle.engine_spec.specs.Records.{Trace, Areas}
use Rattle.engine_spec.specs.Simulate as engine
use Rattle.engine_spec.specs.Simulate.{simulated}
use Rattle.engine_spec.specs.Words.{trace_words, texts_in, words_in}
use Rattle.bounds.specs.Bounds.{at_most}
use Rattle.engine_run.specs.Run.{refusal_m}
use Rattle.engine_run.specs.declared.Simulation.{Simulation as Run}
use Rattle.engine_refinement.specs.Meaning.{record_of, cells_of, pool_of, Tabled}
use Rattle.engine_spec.proofs.Lists.{Each}
use Rattle.engine_refinement.proofs.Pool.{has_text}
use Rattle.engine_refinement.proofs.Lists.{each_length}
use Rattle.engine_refinement.proofs.Pigeonhole.{Among}
use Rattle.engine_refinement.proofs.Relation.{Worded}
use Rattle.engine_refinement.proofs.Simulated.{EventAt}
use Rattle.engine_refinement.proofs.Evaluate.{entities_are}
use Rattle.engine_refinement.proofs.Words.{record_area}
use Rattle.engine_summary.specs.declared.Simulation.{Simulation}
use Rattle.engine_entry.specs.Contract.{incomplete_of, values_of, Shows}
use Rattle.engine_entry.specs.Prepared.{Prepared, PreparedFrom}
use Rattle.engine_summary.specs.Summaries.{Firsts}
use Rattle.engine_entry.specs.Promises.{Ran}
use Rattle.engine_entry.proofs.Refines.{tb, Done, Outcome, done, full, ran}
use Rattle.engine_entry.proofs.Final.{values_are}

module _ (f : List ℕ) (i : Index) (m : Model) (acc : accepted f ≡ answer m) (o : Indexed f i m)
    (bytes : (k : ℕ) → get_or f k 0 < 256) (g : Prepared) (gr : PreparedFrom f i g) where
  abbrev x : List ℕ
  x = g.table

  abbrev t : Tabled f x o.ts m
  t = tb f i m acc o bytes g gr

  pub texts_here : texts_in f ≡ o.ts
  unfolding texts_in
  texts_here = rw (o.all_texts.1, texts_in)

  -- ---- the record area, by the definition's records

  abbrev ids : List Text
  ids = each (λ (a : Automation). a.id) m.rules

  words_here : words_in f ≡ trace_words o.ts ids
  unfolding words_in trace_words
  words_here = λ j w. at w j
    where
      at : (w : Trace) → words_in f w ≡ trace_words o.ts ids w
      at w = rw (acc, words_in) (ap (λ (ts : List Text). trace_words ts ids w) texts_here)

  pub records_here : (n : ℕ) (l : List Record) (tr : List Trace) → Each (Worded x o.ts m) l →
      tr ≡ each (record_of x o.ts) l →
      area record_words n l ≡ area (words_in f) n tr
  records_here n l tr w e =
      record_area x o.ts m n l w
      ∙ ap (λ (h : Trace → List ℕ). area h n (each (record_of x o.ts) l)) (sym words_here)
      ∙ ap (area (words_in f) n) (sym e)

  -- ---- a run

  -- with the events vs, given as words
  module _ (v : List ℕ) (d : Event) (vs : List Event)
      (evs : (j : ℕ) → j < length vs → EventAt f x o.ts m v j (get_or vs j d)) {n : ℕ} (many : n ≡ length vs)
      {ans : Simulation} {q q' a a' r r' : List ℕ} (ran_so : Ran f g v n ans q q' a a' r r') where
    abbrev sizes : Areas
    sizes = record { queue = length q / 5; records = length a / 13; runs = length r / 28 }

    abbrev plain : Answer engine.Simulation
    plain = simulated sizes m (initial_cells m.scenario.entities) vs

    -- the answer says what the definition's simulation says, and the record area holds its records
    pub record Told (sim : engine.Simulation) : Type 0 where
      pub shows : Shows f ans sim
      pub records : List Record
      pub count : ans.records ≡ length records
      pub trace : sim.trace ≡ each (record_of x o.ts) records
      pub area_is : a' ≡ area record_words (length a) records
      pub words : Each (Worded x o.ts m) records
      pub few : length sim.unknown ≤ simulation_reasons
      pub among : Among (pool_of m) sim.unknown

    pub data Promise : Type 0 where
      answers : (sim : engine.Simulation) → plain ≡ answer sim → Told sim → Promise
      refuses : (n : ℕ) → 41 ≤ n → n ≤ 43 → plain ≡ refused n → ans.refused ≡ n → a' ≡ replicate (length a) 0 → Promise

    abbrev Said : engine.Simulation → Type 0
    Said sim = Done f i m acc o bytes g gr v d vs evs ran_so.told q q' a a' r r' ran_so.words sim

    many_entities : at_most (get_or x 0 0) 32 ≡ length m.scenario.entities
    many_entities = unfold Rattle.engine_fields.specs.Fields.entities in entities_are f x o.ts m t

    shows_here : (sim : engine.Simulation) → Said sim → Shows f ans sim
    shows_here sim e =
        let s = ran_so.told in
        let y = ran_so.shown.done e.accepted in
        record {
          accepted = y.accepted;
          steps = y.steps ∙ e.steps;
          records = y.records ∙ e.count ∙ sym (ap length e.trace ∙ each_length (record_of x o.ts) e.records);
          horizon = y.horizon ∙ t.horizon ∙ sym e.horizon;
          values =
              values_are f x o.ts m t s.values e.versions e.valued ans.values
              (subst (λ (j : ℕ). Firsts s.values j ans.values) many_entities y.values)
              ∙ ap (λ (ts : List Text). values_of ts (each (λ (c : Cell). (c.name, c.value))
              (cells_of x o.ts s.values e.versions))) (sym texts_here)
              ∙ ap (values_of (texts_in f)) (sym e.final);
          unknown =
              reported (has_text f x o.ts m t)
              (subst (λ (u : List ℕ). Holds f sim.unknown ans.unknown u) (sym y.reasons)
              (subst (λ (j : ℕ). Holds f sim.unknown j ran_so.words) (sym y.unknown) e.unknown));
          stop_reason = omega (arith, y.stop_reason, e.stop_reason);
          incomplete = ap (λ (w : ℕ). incomplete_of w ans.runs_left) y.stop_reason
              ∙ ap (incomplete_of s.stop_reason) y.runs_left ∙ e.incomplete;
        }

    refused_as : (n : ℕ) → 41 ≤ n → ran_so.told ≡ refusal_m n → ans.refused ≡ n
    refused_as n lo is =
        let no : ran_so.told.refused ≡ n = ap (λ (y : Run). y.refused) is ∙ unfold refusal_m in refl in
        ran_so.shown.full (λ y. absurd (omega (arith, no, y))) ∙ no

    pub promise : Promise
    promise = by (ran f i m acc o bytes g gr v d vs evs ran_so.told q q' a a' r r' ran_so.words many ran_so.few
        ran_so.does)
      where
        by : Outcome f i m acc o bytes g gr v d vs evs ran_so.told q q' a a' r r' ran_so.words → Promise
        by (done sim e y) =
            answers sim e (record {
              shows = shows_here sim y;
              records = y.records;
              count =
                  (ran_so.shown.done y.accepted).records ∙ y.count;
              trace = y.trace;
              area_is = y.area_is;
              words =
                  y.words;
              few = y.few;
              among = y.among;
            })
        by (full n lo hi e is z) = refuses n lo hi e (refused_as n lo is) z
