-- The entry, put together from its parts.
use Prim.Native.Nat.{ℕ, ◌/◌, ◌<◌}
use mathlib.Core.Path.{◌≡◌, sym, ap, subst, ◌∙◌}
use mathlib.Core.List.{List}
use mathlib.Core.Logic.{inl, inr}
use native.Mathlib.Omega.{arith}
use lib.ListN.{length, get_or}
use Rattle.model_spec.specs.Answer.{Answer, answer, refused, ◌>>=◌}
use Rattle.model_spec.specs.Model.{Event, Input, Model}
use Rattle.model_spec.specs.Validate.{accepted}
use Rattle.model_index.specs.declared.File.{File}
use Rattle.model_index.specs.declared.Index.{Index}
use Rattle.model_index.specs.declared.Status.TheVariants as status
use Rattle.model_index.specs.Indexed as indexed
use Rattle.model_index.specs.Indexed.{Indexed}
use Rattle.model_validate.proofs.Refines.{accept_read, accept_refused}
use Rattle.model_validate.proofs.Refusals.{Refuses, Refusal, refusal_numbers}
use Rattle.engine_spec.specs.Cells.{initial_cells}
use Rattle.engine_spec.specs.Memory.{Lent, entries, zeros, all_zeros, lent_after}
use Rattle.engine_spec.specs.Records.{Areas}
use Rattle.engine_spec.specs.Words.{words_in, entry_words}
use Rattle.engine_spec.proofs.Memory.{refusals}
use Rattle.bounds.specs.Bounds.{at_most}
use Rattle.engine_refinement.specs.Meaning.{Tabled}
use Rattle.engine_refinement.specs.Events.{EventAt}
use Rattle.engine_inputs.specs.Inputs.{EventsOf}
use Rattle.engine_inputs.proofs.Refines.{event_here}
use Rattle.engine_entry.specs.Contract.{lent}
use Rattle.engine_entry.specs.Prepared.{Prepared, PreparedFrom}
use Rattle.engine_entry.proofs.Refines.{tb, queue_clear, runs_clear}
use Rattle.engine_entry.proofs.Entry.{events_count}
use Rattle.checker_spec.specs.Check as check
use Rattle.checker_spec.specs.Check.{checked}
use Rattle.checker_result.specs.declared.CheckResult.{CheckResult}
use Rattle.checker_result.specs.Result.{no_check}
use Rattle.checker_entry.specs.Contract.{Says, check_memory, Checks}
use Rattle.checker_entry.specs.Promises.{Checked, Whole, RunsAs}
use Rattle.checker_entry.proofs.Refines.{Promise, answers, refuses, promise, whole_shows, whole_refused}

module _ (f : List ℕ) (i : Index) (m : Model) (acc : accepted f ≡ answer m) (o : Indexed f i m)
    (bytes : (k : ℕ) → get_or f k 0 < 256) (g : Prepared) (gr : PreparedFrom f i g) where
  abbrev x : List ℕ
  x = g.table

  abbrev t : Tabled f x o.ts m
  t = tb f i m acc o bytes g gr

  abbrev events : List Event
  events = m.scenario.events

  abbrev none_such : Event
  none_such = record { at = 0; input = Input.restart }

  check_law : (areas : Areas) → check.check areas f ≡ checked areas m (initial_cells m.scenario.entities) events
  unfolding check.check ◌>>=◌
  check_law areas = rw acc

  module _ {v : List ℕ} (ev : EventsOf f i v) {n : ℕ} (many : n ≡ at_most (get_or x 8 0) 100)
      {r : CheckResult} {q q' a a' u u' : List ℕ} (wh : Whole f i.invariants.starts i.invariants.count
      g v n r q q' a a' u u') where
    abbrev ch : Checked f i.invariants.starts i.invariants.count g v n wh.result q q' a a' u u'
    ch = wh.checked

    abbrev sizes : Areas
    sizes = record { queue = length q / 5; records = length a / 13; runs = length u / 28 }

    evs : (j : ℕ) → j < length events → EventAt f x o.ts m v j (get_or events j none_such)
    evs j h = event_here f x i m acc o t v ev none_such j h

    abbrev after : Answer check.Check → Lent
    after y = lent_after (words_in f) (λ (b : check.Check). b.simulation.trace) y (lent q a u)

    all_events : n ≡ length events
    all_events = many ∙ events_count f i m acc o bytes g gr

    runs_as : Checks f r (lent q a u) (lent q' a' u')
    unfolding check_memory entries all_zeros zeros lent_after
    runs_as = by (promise f i m acc o bytes g gr v none_such events evs all_events ch)
      where
        by : Promise f i m acc o bytes g gr v none_such events evs all_events ch → Checks f r (lent q a u) (lent q' a' u')
        by (answers c e k z) = record {
          says = subst (Says f r) (sym (check_law sizes ∙ e)) (whole_shows wh c k);
          memory = rw (queue_clear f i m acc o bytes g gr ch.ran, runs_clear f i m acc o bytes g gr ch.ran, z)
              (sym (ap after (check_law sizes ∙ e)));
        }
        by (refuses k lo hi e is z) = record {
          says = subst (Says f r) (sym (check_law sizes ∙ e)) (whole_refused wh k lo is);
          memory = rw (queue_clear f i m acc o bytes g gr ch.ran, runs_clear f i m acc o bytes g gr ch.ran, z)
              (sym (ap after (check_law sizes ∙ e) ∙ (refusals (words_in f) (λ (b : check.Check). b.simulation.trace)
              (lent q a u)).areas k lo hi));
        }

-- ---- the entry

pub run_is : (f : List ℕ) (i : Index) → ((k : ℕ) → get_or f k 0 < 256) → (g : Prepared) → PreparedFrom f i g → {v : List ℕ} →
    EventsOf f i v →
    {n : ℕ} → n ≡ at_most (get_or g.table 8 0) 100 → {r : CheckResult} {q q' a a' u u' : List ℕ} →
    Whole f i.invariants.starts i.invariants.count g v n r q q' a a' u u' →
    RunsAs f i r (lent q a u) (lent q' a' u')
run_is f i bytes g gr ev many wh m acc o = runs_as f i m acc o bytes g gr ev many wh

module _ (f : List ℕ) (x : File) (says : indexed.Says f x (accepted f)) where
  pub check_read : x.status ≡ status.Read → {r : CheckResult} {before after : Lent} → RunsAs f x.index r before after →
      Checks f r before after
  check_read e h = let a = accept_read f x says e in h a.0 a.1.0 a.1.1

  -- memory is as it came
  pub check_refused : {n : ℕ} → x.status ≡ status.Refused n → {r : CheckResult} → r ≡ no_check n → (before : Lent) →
      Checks f r before before
  unfolding check_memory
  check_refused {n} e {r} is before =
      let acc = accept_refused f x says e in
      record {
        says = subst (Says f r) (sym (law acc (entries entry_words before))) is;
        memory = sym
            (ap (λ (y : Answer check.Check). lent_after (words_in f) (λ (b : check.Check). b.simulation.trace) y before)
            (law acc (entries entry_words before)) ∙ kept (subst (Refuses Refusal) acc (refusal_numbers f)));
      }
    where
      law : accepted f ≡ refused n → (areas : Areas) → check.check areas f ≡ refused n
      law z areas = unfold check.check ◌>>=◌ in rw z

      kept : Refusal n → lent_after (words_in f) (λ (b : check.Check). b.simulation.trace) (refused n) before ≡ before
      kept (inl h) = (refusals (words_in f) (λ (b : check.Check). b.simulation.trace) before).between n (omega arith)
          (omega arith)
      kept (inr (inl h)) = (refusals (words_in f) (λ (b : check.Check). b.simulation.trace) before).below n (omega arith)
      kept (inr (inr h)) = (refusals (words_in f) (λ (b : check.Check). b.simulation.trace) before).above n (omega arith)
