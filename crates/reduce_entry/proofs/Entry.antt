-- The entry, put together from its parts.
use Prim.Native.Nat.{ℕ, ◌+◌, ◌≤◌, ◌<◌}
use mathlib.Core.Path.{◌≡◌, sym, ap, subst, ◌∙◌}
use mathlib.Core.List.{List}
use mathlib.Core.Logic.{inl, inr, ◌⊎◌}
use native.Mathlib.Omega.{arith}
use lib.ListN.{length, get_or}
use borrow.Author.Tests.{lt-ltb, le-ltb}
use Rattle.model_spec.specs.Answer.{Answer, answer, refused, ◌>>=◌, ◌and◌, ◌when◌}
use Rattle.model_spec.specs.Model.{Model}
use Rattle.model_spec.specs.Validate.{accepted}
use Rattle.model_index.specs.declared.File.{File}
use Rattle.model_index.specs.declared.Index.{Index}
use Rattle.model_index.specs.declared.Status.TheVariants as status
use Rattle.model_index.specs.Indexed as indexed
use Rattle.model_index.specs.Indexed.{Indexed}
use Rattle.model_validate.proofs.Refines.{accept_read, accept_refused}
use Rattle.model_validate.proofs.Refusals.{Refuses, Refusal, refusal_numbers}
use Rattle.engine_spec.specs.Cells.{initial_cells}
use Rattle.engine_spec.specs.Memory.{Lent, entries, zeros, all_zeros, lent_after}
use Rattle.engine_spec.specs.Records.{Areas}
use Rattle.engine_spec.specs.Words.{words_in, entry_words}
use Rattle.engine_spec.proofs.Memory.{refusals}
use Rattle.bounds.specs.Bounds.{at_most}
use Rattle.engine_inputs.specs.declared.Events.{Events}
use Rattle.engine_inputs.specs.Inputs.{EventsOf}
use Rattle.engine_refinement.proofs.Accepted.{accepted_lawful}
use Rattle.engine_entry.specs.Contract.{lent}
use Rattle.engine_entry.specs.Prepared.{Prepared, PreparedFrom}
use Rattle.engine_entry.proofs.Refines.{tb}
use Rattle.engine_entry.proofs.Entry.{events_count}
use Rattle.checker_spec.specs.Minimize.{minimized, minimize}
use Rattle.checker_spec.specs.Minimize as checker
use Rattle.checker_spec.specs.Verify.{short_of_room}
use Rattle.reduce.specs.Events.{Left}
use Rattle.reduce.specs.Promises.{sizes}
use Rattle.reduce.proofs.Words.{own_left}
use Rattle.reduce_result.specs.declared.Minimized.{Minimized}
use Rattle.reduce_result.specs.Result.{no_reduction}
use Rattle.reduce_entry.specs.Contract.{Says, last_trace, output_after, Minimizes}
use Rattle.reduce_entry.specs.Promises.{Outcome, answers, refuses, Accepted, Given, ReducesAll, RunsAs}
use Rattle.reduce_entry.proofs.File.{small_file}

abbrev after : (file : List ℕ) → Answer checker.Minimized → Lent → Lent
after f x l = lent_after (words_in f) last_trace x l

-- ---- an accepted model

pub small : {f : List ℕ} {i : Index} → Accepted f i → length f ≤ 32768
small a = small_file _ a.m a.is_model

module _ (f : List ℕ) (i : Index) (m : Model) (acc : accepted f ≡ answer m) where
  short_law : (areas : Areas) (n : ℕ) → n < length f + 45 → minimize areas n f ≡ refused 44
  unfolding minimize short_of_room ◌>>=◌ ◌and◌ ◌when◌
  short_law areas n h = rw (acc, lt-ltb n (length f + 45) h)

  long_law : (areas : Areas) (n : ℕ) → length f + 45 ≤ n →
      minimize areas n f ≡ minimized areas m (initial_cells m.scenario.entities) m.scenario.events
  unfolding minimize short_of_room ◌>>=◌ ◌and◌ ◌when◌
  long_law areas n h = rw (acc, le-ltb n (length f + 45) h)

  own : (ix : Indexed f i m) → ((k : ℕ) → get_or f k 0 < 256) → (g : Prepared) → PreparedFrom f i g → {e : Events}
      → EventsOf f i e.words →
      {n : ℕ} → n ≡ at_most (get_or g.table 8 0) 100 → Left m ix.ts e.words n m.scenario.events
  own ix bytes g gr {e = e} ev many =
      own_left f g.table i m acc ix (tb f i m acc ix bytes g gr) e.words ev _
      (many ∙ events_count f i m acc ix bytes g gr)

-- the output is too short
pub run_short : (f : List ℕ) (i : Index) {r : Minimized} → r ≡ no_reduction 44 → (before : Lent) (o : List ℕ)
    → length o < length f + 45 →
    RunsAs f i r before before o o
unfolding output_after
run_short f i {r} is before o h m acc ix =
    let law = short_law f i m acc (entries entry_words before) (length o) h in
    record {
      says = subst (Says f r) (sym law) is;
      memory = sym (ap (λ (x : Answer checker.Minimized). after f x before) law
          ∙ (refusals (words_in f) last_trace before).above 44 (omega arith));
      output = sym (ap (λ (x : Answer checker.Minimized). output_after f x o) law);
    }

module _ {f : List ℕ} {i : Index} (bytes : (k : ℕ) → get_or f k 0 < 256) {g : Prepared} (gr : PreparedFrom f i g) {e : Events}
    (ev : EventsOf f i e.words) {n : ℕ} (many : n ≡ at_most (get_or g.table 8 0) 100) {o : List ℕ}
    (long : length f + 45 ≤ length o) where
  -- what the first check asks for
  pub given : Accepted f i → Given f i g e n o
  given a =
      let left = own f i a.m a.is_model a.index bytes g gr {e = e} ev many in
      record {
        model = a;
        prepared = gr;
        begun = record {
          few = omega (arith, left.many, (accepted_lawful f a.m a.is_model).few_events);
          long = ev.long;
        };
        left = left;
        room = omega (arith, long);
      }

  pub run_is : {r : Minimized} {q q' a a' u u' o' : List ℕ} → ReducesAll f i g e n r q q' a a' u u' o o' →
      RunsAs f i r (lent q a u) (lent q' a' u') o o'
  unfolding entries all_zeros zeros lent_after output_after
  run_is {r} {q} {q'} {a} {a'} {u} {u'} {o'} red m acc ix = by
      (red m acc ix gr m.scenario.events (own f i m acc ix bytes g gr {e = e} ev many))
    where
      law : minimize (sizes (length q) (length a) (length u)) (length o) f
          ≡ minimized (sizes (length q) (length a) (length u)) m (initial_cells m.scenario.entities)
          m.scenario.events
      law = long_law f i m acc (sizes (length q) (length a) (length u)) (length o) long

      cleared : (k : ℕ) → ((k ≡ 21) ⊎ ((41 ≤ k) × (k ≤ 43))) → after f (refused k) (lent q a u) ≡ all_zeros (lent q a u)
      cleared k (inl h) = ap (λ (j : ℕ). after f (refused j) (lent q a u)) h
          ∙ (refusals (words_in f) last_trace (lent q a u)).at_21
      cleared k (inr h) = (refusals (words_in f) last_trace (lent q a u)).areas k h.0 h.1

      by : Outcome f (minimized (sizes (length q) (length a) (length u)) m (initial_cells m.scenario.entities)
          m.scenario.events) r (length q) (length a) (length u) q' a' u' o o' →
          Minimizes f r (lent q a u) (lent q' a' u') o o'
      by (answers d y s eq ea eu w) = record {
        says = subst (Says f r) (sym (law ∙ y)) s;
        memory = rw (eq, ea, eu) (sym (ap (λ (x : Answer checker.Minimized). after f x (lent q a u)) (law ∙ y)));
        output = w ∙ sym (ap (λ (x : Answer checker.Minimized). output_after f x o) (law ∙ y));
      }
      by (refuses k h y is eq ea eu w) = record {
        says = subst (Says f r) (sym (law ∙ y)) is;
        memory = rw (eq, ea, eu) (sym (ap (λ (x : Answer checker.Minimized). after f x (lent q a u)) (law ∙ y)
            ∙ cleared k h));
        output = w ∙ sym (ap (λ (x : Answer checker.Minimized). output_after f x o) (law ∙ y));
      }

-- ---- the entry

module _ (f : List ℕ) (x : File) (says : indexed.Says f x (accepted f)) where
  pub model_of : x.status ≡ status.Read → Accepted f x.index
  model_of e = let a = accept_read f x says e in record { m = a.0; is_model = a.1.0; index = a.1.1 }

  pub minimize_read : x.status ≡ status.Read → {r : Minimized} {before after : Lent} {o o' : List ℕ}
      → RunsAs f x.index r before after o o' →
      Minimizes f r before after o o'
  minimize_read e h = let a = accept_read f x says e in h a.0 a.1.0 a.1.1

  -- memory and output are as they came
  pub minimize_refused : {n : ℕ} → x.status ≡ status.Refused n → {r : Minimized} → r ≡ no_reduction n
      → (before : Lent) (o : List ℕ) →
      Minimizes f r before before o o
  unfolding output_after
  minimize_refused {n} e {r} is before o =
      let acc = accept_refused f x says e in
      let y = law acc (entries entry_words before) (length o) in
      record {
        says = subst (Says f r) (sym y) is;
        memory = sym (ap (λ (x : Answer checker.Minimized). after f x before) y
            ∙ kept (subst (Refuses Refusal) acc (refusal_numbers f)));
        output = sym (ap (λ (x : Answer checker.Minimized). output_after f x o) y);
      }
    where
      law : accepted f ≡ refused n → (areas : Areas) (k : ℕ) → minimize areas k f ≡ refused n
      law z areas k = unfold minimize ◌>>=◌ in rw z

      kept : Refusal n → after f (refused n) before ≡ before
      kept (inl h) = (refusals (words_in f) last_trace before).between n (omega arith) (omega arith)
      kept (inr (inl h)) = (refusals (words_in f) last_trace before).below n (omega arith)
      kept (inr (inr h)) = (refusals (words_in f) last_trace before).above n (omega arith)
