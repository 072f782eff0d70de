-- The entries, put together from their parts.
use Prim.Native.Nat.{ℕ, ◌/◌, ◌<◌}
use mathlib.Core.Path.{◌≡◌, refl, sym, ap, subst, ◌∙◌}
use mathlib.Core.List.{List}
use native.Mathlib.Omega.{arith}
use lib.ListN.{length, get_or}
use Rattle.model_spec.specs.Answer.{Answer, answer, refused, ◌>>=◌}
use Rattle.model_spec.specs.Model.{Event, Input, Model}
use Rattle.model_spec.specs.Validate.{accepted}
use Rattle.model_index.specs.declared.File.{File}
use Rattle.model_index.specs.declared.Index.{Index}
use Rattle.model_index.specs.declared.Status.TheVariants as status
use Rattle.model_index.specs.Indexed as indexed
use Rattle.model_index.specs.Indexed.{Indexed}
use Rattle.model_validate.proofs.Refines.{accept_read, accept_refused}
use Rattle.model_validate.proofs.Refusals.{Refuses, Refusal, refusal_numbers}
use mathlib.Core.Logic.{inl, inr}
use Rattle.engine_spec.specs.Cells.{initial_cells}
use Rattle.engine_spec.specs.Memory.{Lent, entries, zeros, all_zeros, lent_after, simulate_lent}
use Rattle.engine_spec.specs.Records.{Areas}
use Rattle.engine_spec.specs.Simulate as engine
use Rattle.engine_spec.specs.Simulate.{simulated, simulate, unsupported_of}
use Rattle.engine_spec.specs.Unsupported.{unsupported}
use Rattle.engine_spec.specs.Words.{words_in, entry_words, simulate_memory}
use Rattle.engine_spec.proofs.Memory.{refusals}
use Rattle.bounds.specs.Bounds.{at_most}
use Rattle.reasons.proofs.Listing.{reported}
use Rattle.engine_refinement.specs.Meaning.{Tabled}
use Rattle.engine_refinement.proofs.Accepted.{accepted_lawful}
use Rattle.engine_refinement.proofs.Numbers.{most_is}
use Rattle.engine_refinement.proofs.Pool.{has_text}
use Rattle.engine_refinement.proofs.Simulated.{EventAt}
use Rattle.engine_table.proofs.Laws as table
use Rattle.engine_inputs.specs.Inputs.{EventsOf}
use Rattle.engine_inputs.proofs.Refines.{event_here}
use Rattle.engine_entry.specs.declared.Notes.{Notes}
use Rattle.engine_summary.specs.declared.Simulation.{Simulation}
use Rattle.engine_summary.specs.Summary.{no_simulation}
use Rattle.engine_entry.specs.Contract.{no_notes, NotesSay, Shows, Says, lent, Simulates}
use Rattle.engine_entry.specs.Prepared.{Prepared, PreparedFrom}
use Rattle.engine_summary.specs.Summaries.{Answered}
use Rattle.engine_entry.specs.Promises.{Ran, RunsAs}
use Rattle.engine_entry.proofs.Refines.{tb, notes_held, queue_clear, runs_clear}
use Rattle.engine_entry.proofs.RunEvents.{records_here, Promise, answers, refuses, promise}

-- ---- unsupported

module _ (f : List ℕ) (x : File) (says : indexed.Says f x (accepted f)) where
  pub notes_read : ((k : ℕ) → get_or f k 0 < 256) → x.status ≡ status.Read → (g : Prepared) → PreparedFrom f x.index g →
      NotesSay f (record { refused = 0; count = g.count; reasons = g.reasons }) (unsupported_of f)
  notes_read bytes e g gr =
      let a = accept_read f x says e in
      subst (NotesSay f (record { refused = 0; count = g.count; reasons = g.reasons })) (sym (law a.0 a.1.0)) (
        refl,
        reported (has_text f g.table a.1.1.ts a.0 (tb f x.index a.0 a.1.0 a.1.1 bytes g gr))
            (notes_held f x.index a.0 a.1.0 a.1.1 bytes g gr),
      )
    where
      law : (m : Model) → accepted f ≡ answer m → unsupported_of f ≡ answer (unsupported m.rules)
      law m z = unfold unsupported_of ◌>>=◌ in rw z

  pub notes_refused : {n : ℕ} → x.status ≡ status.Refused n → {r : Notes} → r ≡ no_notes n → NotesSay f r (unsupported_of f)
  notes_refused {n} e {r} h = subst (NotesSay f r) (sym (law (accept_refused f x says e))) h
    where
      law : accepted f ≡ refused n → unsupported_of f ≡ refused n
      law z = unfold unsupported_of ◌>>=◌ in rw z

-- ---- a model's simulation

module _ (f : List ℕ) (i : Index) (m : Model) (acc : accepted f ≡ answer m) (o : Indexed f i m)
    (bytes : (k : ℕ) → get_or f k 0 < 256) (g : Prepared) (gr : PreparedFrom f i g) where
  abbrev x : List ℕ
  x = g.table

  abbrev t : Tabled f x o.ts m
  t = tb f i m acc o bytes g gr

  abbrev events : List Event
  events = m.scenario.events

  simulate_law : (areas : Areas) → simulate areas f ≡ simulated areas m (initial_cells m.scenario.entities) events
  unfolding simulate ◌>>=◌
  simulate_law areas = rw acc

  pub events_count : at_most (get_or x 8 0) 100 ≡ length events
  events_count =
      let e : get_or x 8 0 ≡ length events = gr.table.words 8 (omega arith) ∙ table.table_head f i 8 (omega arith)
      ∙ table.head_high f i 8 (omega arith) (λ z. absurd (omega arith)) (λ z. absurd (omega arith)) (omega arith)
      (λ z. absurd (omega arith)) (λ z. absurd (omega arith)) ∙ table.count_8 i 8 refl ∙ o.events.counts in
      most_is (get_or x 8 0) 100 (omega (arith, e, (accepted_lawful f m acc).few_events)) ∙ e

  -- ---- the answer

  abbrev none_such : Event
  none_such = record { at = 0; input = Input.restart }

  module _ {v : List ℕ} (ev : EventsOf f i v) {n : ℕ} (many : n ≡ at_most (get_or x 8 0) 100)
      {fin ans : Simulation} {q q' a a' r r' : List ℕ} (ran : Ran f g v n fin q q' a a' r r') (told : Answered fin ans) where
    abbrev sizes : Areas
    sizes = record { queue = length q / 5; records = length a / 13; runs = length r / 28 }

    evs : (j : ℕ) → j < length events → EventAt f x o.ts m v j (get_or events j none_such)
    evs j h = event_here f x i m acc o t v ev none_such j h

    abbrev after : Answer engine.Simulation → Lent
    after y = lent_after (words_in f) (λ (b : engine.Simulation). b.trace) y (lent q a r)

    runs_as : Simulates f ans (lent q a r) (lent q' a' r')
    unfolding simulate_memory simulate_lent entries all_zeros zeros lent_after
    runs_as = by (promise f i m acc o bytes g gr v none_such events evs (many ∙ events_count) ran)
      where
        by : Promise f i m acc o bytes g gr v none_such events evs (many ∙ events_count) ran →
            Simulates f ans (lent q a r) (lent q' a' r')
        by (answers sim e k) = record {
          says = subst (Says f ans) (sym (simulate_law sizes ∙ e))
              (subst (λ (y : Simulation). Shows f y sim) (sym (told.done k.shows.accepted)) k.shows);
          memory = rw (
            queue_clear f i m acc o bytes g gr ran,
            runs_clear f i m acc o bytes g gr ran,
            k.area_is,
            records_here f i m acc o bytes g gr (length a) k.records sim.trace k.words k.trace,
          )
              (sym (ap after (simulate_law sizes ∙ e)));
        }
        by (refuses n lo hi e is z) = record {
          says = subst (Says f ans) (sym (simulate_law sizes ∙ e))
              (told.full (λ y. absurd (omega (arith, is, lo, y))) ∙ ap no_simulation is);
          memory = rw (queue_clear f i m acc o bytes g gr ran, runs_clear f i m acc o bytes g gr ran, z)
              (sym (ap after (simulate_law sizes ∙ e) ∙ (refusals (words_in f) (λ (b : engine.Simulation). b.trace)
              (lent q a r)).areas n lo hi));
        }

-- ---- the entry

pub run_is : (f : List ℕ) (i : Index) → ((k : ℕ) → get_or f k 0 < 256) → (g : Prepared) → PreparedFrom f i g → {v : List ℕ} →
    EventsOf f i v →
    {n : ℕ} → n ≡ at_most (get_or g.table 8 0) 100 → {s ans : Simulation} {q q' a a' r r' : List ℕ} →
    Ran f g v n s q q' a a' r r' → Answered s ans →
    RunsAs f i ans (lent q a r) (lent q' a' r')
run_is f i bytes g gr ev many ran told m acc o = runs_as f i m acc o bytes g gr ev many ran told

module _ (f : List ℕ) (x : File) (says : indexed.Says f x (accepted f)) where
  pub simulate_read : x.status ≡ status.Read → {s : Simulation} {before after : Lent} → RunsAs f x.index s before after →
      Simulates f s before after
  simulate_read e h = let a = accept_read f x says e in h a.0 a.1.0 a.1.1

  -- memory is as it came
  pub simulate_refused : {n : ℕ} → x.status ≡ status.Refused n → {s : Simulation} → s ≡ no_simulation n → (before : Lent) →
      Simulates f s before before
  unfolding simulate_memory simulate_lent
  simulate_refused {n} e {s} is before =
      let acc = accept_refused f x says e in
      record {
        says = subst (Says f s) (sym (law acc (entries entry_words before))) is;
        memory = sym
            (ap (λ (y : Answer engine.Simulation). lent_after (words_in f) (λ (b : engine.Simulation). b.trace) y before)
            (law acc (entries entry_words before)) ∙ kept (subst (Refuses Refusal) acc (refusal_numbers f)));
      }
    where
      law : accepted f ≡ refused n → (areas : Areas) → simulate areas f ≡ refused n
      law z areas = unfold simulate ◌>>=◌ in rw z

      kept : Refusal n → lent_after (words_in f) (λ (b : engine.Simulation). b.trace) (refused n) before ≡ before
      kept (inl h) = (refusals (words_in f) (λ (b : engine.Simulation). b.trace) before).between n (omega arith)
          (omega arith)
      kept (inr (inl h)) = (refusals (words_in f) (λ (b : engine.Simulation). b.trace) before).below n (omega arith)
      kept (inr (inr h)) = (refusals (words_in f) (λ (b : engine.Simulation). b.trace) before).above n (omega arith)
