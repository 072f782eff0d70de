-- The entry, put together from its parts.
use Prim.Native.Nat.{ℕ, suc, ◌+◌, ◌-◌, ◌≤◌, ◌<◌}
use mathlib.Core.Path.{◌≡◌, refl, sym, ap, subst, ◌∙◌}
use mathlib.Core.Bool.{true, false}
use mathlib.Core.List.{List, [], ◌∷◌}
use mathlib.Core.Logic.{inl, inr}
use native.Mathlib.Omega.{arith}
use lib.ListN.{length, get_or, replicate}
use borrow.Author.Tests.{lt-ltb, le-ltb}
use Rattle.texts.specs.Lists.{is_empty}
use Rattle.model_spec.specs.Answer.{Answer, answer, refused, ◌>>=◌, ◌and◌, ◌when◌}
use Rattle.model_spec.specs.Model.{Invariant, Model}
use Rattle.model_spec.specs.Validate.{accepted}
use Rattle.model_index.specs.declared.File.{File}
use Rattle.model_index.specs.declared.Index.{Index}
use Rattle.model_index.specs.declared.Status.TheVariants as status
use Rattle.model_index.specs.Indexed as indexed
use Rattle.model_index.specs.Indexed.{Indexed}
use Rattle.model_validate.proofs.Refines.{accept_read, accept_refused}
use Rattle.model_validate.proofs.Refusals.{Refuses, Refusal, refusal_numbers}
use Rattle.engine_spec.specs.Memory.{Lent, entries, zeros, all_zeros, lent_after}
use Rattle.engine_spec.specs.Records.{Areas}
use Rattle.engine_spec.specs.Words.{words_in, entry_words}
use Rattle.engine_spec.proofs.Memory.{refusals}
use Rattle.bounds.specs.Bounds.{at_most}
use Rattle.engine_state.specs.declared.Cells.{Cells}
use Rattle.engine_refinement.proofs.Numbers.{most_is}
use Rattle.engine_entry.specs.Prepared.{prepared_of, PreparedFrom}
use Rattle.checker_spec.specs.Verify as verify
use Rattle.checker_spec.specs.Verify.{searched, verified, short_of_room}
use Rattle.search_inputs.proofs.Lawful.{accepted_searchable}
use Rattle.search_cases.specs.declared.Plan.{Plan}
use Rattle.search_cases.specs.declared.Search.{Search}
use Rattle.search_cases.specs.Promises.{limit_m, Plans, Begins}
use Rattle.search.specs.Meaning.{cells_of, sizes, Entire, entire, Setting, Outcome}
use Rattle.search.specs.Promises.{Deepens}
use Rattle.search_answer.specs.declared.Verification.{Verification}
use Rattle.search_answer.specs.Result.{no_verification}
use Rattle.search_entry.specs.Contract.{Says, witness_trace, output_after, Gives, Verifies}
use Rattle.search_entry.specs.Promises.{Reached, Ending, Ends, Accepted, Runs, Admits}
use Rattle.search_entry.proofs.Start.{limits_are, setting, start_of, start_held}

-- ---- the search

module _ {f : List ℕ} {i : Index} (bytes : (k : ℕ) → get_or f k 0 < 256) (p : Plan) {x notes : List ℕ} {c : Cells} {n : ℕ}
    (gr : PreparedFrom f i (prepared_of x c n notes)) (pl : Plans f i c n p)
    {start : Search} {w₀ : List ℕ} (b : Begins f p.shared.notes notes (replicate 4000 0) start w₀)
    {depth : ℕ} (few : depth ≡ at_most (limit_m f i.limits 8) 5) {q a u : ℕ} {o : Search} {w : List ℕ}
    (d : Deepens f (entire p x i.invariants.starts notes) depth start w₀ o w q a u) where
  abbrev all : Entire
  all = entire p x i.invariants.starts notes

  module _ (m : Model) (acc : accepted f ≡ answer m) (ix : Indexed f i m) where
    abbrev here : Setting f all q a u
    here = setting f i m acc ix p pl bytes x notes gr q a u

    depth_is : depth ≡ m.scenario.limits.search_depth
    depth_is =
        let l = (limits_are f i m acc ix).depth in
        few ∙ most_is (limit_m f i.limits 8) 5 (omega (arith, l, (accepted_searchable f m acc).depth)) ∙ l

    searched_is : verify.deepen (sizes q a u) m (cells_of m) (suc depth) 0 (start_of m)
        ≡ searched (sizes q a u) m (cells_of m)
    unfolding searched
    searched_is =
        let e : suc depth ≡ m.scenario.limits.search_depth + 1 = omega (arith, depth_is) in
        ap (λ (n : ℕ). verify.deepen (sizes q a u) m (cells_of m) n 0 (start_of m)) e

    pub reached : Outcome here (searched (sizes q a u) m (cells_of m)) o w
    reached = subst (λ (y : Answer verify.Search). Outcome here y o w) searched_is
        (d.does here (start_of m) (start_held here b))

  pub reach : Accepted f i → {k : ℕ} → length f + 45 ≤ k → length w ≡ 4000 → {q' a' u' : ℕ} → q' ≡ q → a' ≡ a → u' ≡ u
      → Reached f all o w q' a' u' k
  reach y {k} room long {q'} {a'} {u'} eq ea eu =
      subst (λ (j : ℕ). Reached f all o w j a' u' k) (sym eq)
      (subst (λ (j : ℕ). Reached f all o w q j u' k) (sym ea)
      (subst (λ (j : ℕ). Reached f all o w q a j k) (sym eu) (record {
        setting = here y.m y.is_accepted y.indexed;
        area = long;
        ending = searched (sizes q a u) y.m (cells_of y.m);
        outcome = reached y.m y.is_accepted y.indexed;
        room = room;
      })))

  pub run_so : {r : Verification} {after : Lent} {out out' : List ℕ} {q' a' u' : ℕ} → q' ≡ q → a' ≡ a → u' ≡ u
      → Ends f i.limits all o w r q' a' u' after out out' → Runs f i r q a u after out out'
  unfolding verified
  run_so {r} {after} {out} {out'} {q'} {a'} {u'} eq ea eu en₀ = record {
    does = λ m acc ix. en.does (here m acc ix) refl (searched (sizes q a u) m (cells_of m)) (reached m acc ix);
  }
    where
      en : Ends f i.limits all o w r q a u after out out'
      en = subst (λ (k : ℕ). Ends f i.limits all o w r k a u after out out') eq
          (subst (λ (k : ℕ). Ends f i.limits all o w r q' k u after out out') ea
          (subst (λ (k : ℕ). Ends f i.limits all o w r q' a' k after out out') eu en₀))

-- ---- from an ending to the areas

gives : (f : List ℕ) (r : Verification) (v : Answer verify.Verification) (before after : Lent) (o o' : List ℕ) →
    Ending f r v (length before.queue) (length before.records) (length before.runs) after o o'
    → Gives f r v before after o o'
unfolding lent_after zeros all_zeros
gives f r (answer v) before after o o' e = record {
  says = e.says;
  memory = λ j. record { queue = e.queue j; records = e.records j; runs = e.runs j };
  output = e.output;
}
gives f r (refused n) before after o o' e = record {
  says = e.says;
  memory =
      (λ j. record {
        queue = e.queue j;
        records = (e.records ∙ Rattle.areas.proofs.Laws.area_none (words_in f) (length before.records)) j;
        runs = e.runs j;
      })
      ∙ sym ((refusals (words_in f) witness_trace before).areas n e.number.0 e.number.1);
  output = e.output;
}

-- ---- a refusal before the search

early : (f : List ℕ) (before : Lent) (o : List ℕ) (n : ℕ) {r : Verification} → r ≡ no_verification n →
    lent_after (words_in f) witness_trace (refused n) before ≡ before → Gives f r (refused n) before before o o
unfolding output_after
early f before o n e k = record { says = e; memory = sym k; output = refl }

empty_is : (l : List Invariant) → length l ≡ 0 → is_empty l ≡ true
unfolding is_empty
empty_is [] e = refl
empty_is (y ∷ l) e = absurd (omega arith)

some_are : (l : List Invariant) → (length l ≡ 0 → ⊥) → is_empty l ≡ false
unfolding is_empty
some_are [] e = absurd (e refl)
some_are (y ∷ l) e = refl

module _ (f : List ℕ) (areas : Areas) (n : ℕ) (m : Model) (acc : accepted f ≡ answer m) where
  law_20 : is_empty m.scenario.invariants ≡ true → verify.verify areas n f ≡ refused 20
  unfolding verify.verify ◌>>=◌ ◌and◌ ◌when◌
  law_20 e = rw acc (rw e)

  law_44 : is_empty m.scenario.invariants ≡ false → short_of_room n f ≡ true → verify.verify areas n f ≡ refused 44
  unfolding verify.verify ◌>>=◌ ◌and◌ ◌when◌
  law_44 e g = rw acc (rw (e, g))

  law_on : is_empty m.scenario.invariants ≡ false → short_of_room n f ≡ false
      → verify.verify areas n f ≡ verified areas m (cells_of m)
  unfolding verify.verify ◌>>=◌ ◌and◌ ◌when◌
  law_on e g = rw acc (rw (e, g))

module _ {f : List ℕ} {i : Index} {before : Lent} {o : List ℕ} where
  pub admit_20 : {r : Verification} → i.invariants.count ≡ 0 → r ≡ no_verification 20 → Admits f i r before before o o
  admit_20 {r} z e = record {
    does = λ m acc ix.
        subst (λ (v : Answer verify.Verification). Gives f r v before before o o)
        (sym (law_20 f (entries entry_words before) (length o) m acc
        (empty_is m.scenario.invariants (omega (arith, z, ix.invariants.counts)))))
        (early f before o 20 e ((refusals (words_in f) witness_trace before).below 20 (omega arith)));
  }

  pub admit_44 : {r : Verification} → (i.invariants.count ≡ 0 → ⊥) → length o < length f + 45 → r ≡ no_verification 44
      → Admits f i r before before o o
  unfolding short_of_room
  admit_44 {r} z l e = record {
    does = λ m acc ix.
        subst (λ (v : Answer verify.Verification). Gives f r v before before o o)
        (sym (law_44 f (entries entry_words before) (length o) m acc
        (some_are m.scenario.invariants (λ k. z (omega (arith, k, ix.invariants.counts))))
        (lt-ltb (length o) (length f + 45) l)))
        (early f before o 44 e ((refusals (words_in f) witness_trace before).above 44 (omega arith)));
  }

  pub admit_run : {r : Verification} {after : Lent} {o' : List ℕ} → (i.invariants.count ≡ 0 → ⊥)
      → length f + 45 ≤ length o →
      Runs f i r (length before.queue) (length before.records) (length before.runs) after o o'
      → Admits f i r before after o o'
  unfolding short_of_room entries
  admit_run {r} {after} {o'} z l h = record {
    does = λ m acc ix.
        subst (λ (v : Answer verify.Verification). Gives f r v before after o o')
        (sym (law_on f (entries entry_words before) (length o) m acc
        (some_are m.scenario.invariants (λ k. z (omega (arith, k, ix.invariants.counts))))
        (le-ltb (length o) (length f + 45) l)))
        (gives f r (verified (sizes (length before.queue) (length before.records) (length before.runs)) m
        (cells_of m)) before after o o' (h.does m acc ix));
  }

-- ---- the entry

module _ (f : List ℕ) (x : File) (says : indexed.Says f x (accepted f)) where
  pub accepted_so : x.status ≡ status.Read → Accepted f x.index
  accepted_so e = let a = accept_read f x says e in record { m = a.0; is_accepted = a.1.0; indexed = a.1.1 }

  pub verify_read : x.status ≡ status.Read → {r : Verification} {before after : Lent} {o o' : List ℕ}
      → Admits f x.index r before after o o' →
      Verifies f r before after o o'
  verify_read e h = let a = accept_read f x says e in h.does a.0 a.1.0 a.1.1

  -- memory is as it came
  pub verify_refused : {n : ℕ} → x.status ≡ status.Refused n → {r : Verification} → r ≡ no_verification n
      → (before : Lent) (o : List ℕ) →
      Verifies f r before before o o
  verify_refused {n} e {r} is before o =
      let acc = accept_refused f x says e in
      subst (λ (v : Answer verify.Verification). Gives f r v before before o o) (sym (law acc))
      (early f before o n is (kept (subst (Refuses Refusal) acc (refusal_numbers f))))
    where
      law : accepted f ≡ refused n → verify.verify (entries entry_words before) (length o) f ≡ refused n
      law z = unfold verify.verify ◌>>=◌ in rw z

      kept : Refusal n → lent_after (words_in f) witness_trace (refused n) before ≡ before
      kept (inl h) = (refusals (words_in f) witness_trace before).between n (omega arith) (omega arith)
      kept (inr (inl h)) = (refusals (words_in f) witness_trace before).below n (omega arith)
      kept (inr (inr h)) = (refusals (words_in f) witness_trace before).above n (omega arith)
