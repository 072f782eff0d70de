-- The cone of an accepted model by the code is the definition's.
use mathlib.Core.Path.{◌≡◌, refl, sym, ap, ◌∙◌, subst}
use mathlib.Core.List.{List}
use Prim.Native.Nat.{ℕ, zero, suc, ◌+◌, ◌-◌, ◌<◌, ◌≤◌}
use native.Mathlib.Omega.{arith}
use native.Mathlib.Nat.{zero-add}
use lib.ListN.{length, get_or, replicate}
use Rattle.texts.specs.Lists.{keep, each}
use Rattle.texts.specs.Texts.{Text, mem_t, sorted_t}
use Rattle.model_spec.specs.Answer.{Answer, answer, refused, ◌>>=◌}
use Rattle.model_spec.specs.Model.{Model}
use Rattle.model_spec.specs.Rewrite.{place_of}
use Rattle.model_spec.specs.Validate.{accepted}
use Rattle.model_index.specs.declared.Index.{Index}
use Rattle.model_index.specs.declared.File.{File}
use Rattle.model_index.specs.declared.Status.TheVariants as status
use Rattle.model_index.specs.Indexed.{Indexed}
use Rattle.model_index.specs.Indexed.{Says as ReadSays}
use Rattle.model_validate.proofs.Refines.{accept_read, accept_refused}
use Rattle.engine_spec.specs.Words.{texts_in}
use Rattle.engine_spec.proofs.Validated.{accepted_few}
use Rattle.lint_spec.specs.Reach.{places}
use Rattle.lint_spec.specs.Words.{ids_set, names_in}
use Rattle.lint_undeclared.specs.Undeclared.{undeclared_m}
use Rattle.lint_collect.specs.Collect.{fill_m}
use Rattle.lint_refinement.specs.Context.{names_of}
use Rattle.lint_spec.specs.Numbers.{padded, declared_set, undeclared}
use Rattle.lint_refinement.proofs.Columns.{names_are, ids_are, bounds, texts_are, ascends, texts_once}
use Rattle.lint_refinement.proofs.FileFacts.{Stage}
use Rattle.lint_refinement.proofs.FactsHold.{staged}
use Rattle.lint_refinement.proofs.Rules.{names, ids}
use Rattle.lint_refinement.proofs.ById.{fill_padded}
use Rattle.cone_spec.specs.Cone as definition
use Rattle.cone_close.specs.Rounds.{closed_m}
use Rattle.cone_names.specs.declared.ConeNames.{ConeNames}
use Rattle.cone_names.specs.Undeclared.{names_m}
use Rattle.cone_sets.specs.Sets.{named_m}
use Rattle.cone_refinement.proofs.Declared.{accepted_invariants}
use Rattle.cone_refinement.proofs.Closing.{Kept}
use Rattle.cone_refinement.proofs.Start.{shut, kept}
use Rattle.cone_refinement.proofs.Ends.{entities_are, automations_are}
use Rattle.cone_refinement.proofs.Undeclared.{get_d_front, packed_n, strays_are}
use Rattle.cone_entry.specs.declared.ConeResult.{ConeResult}
use Rattle.cone_entry.specs.Contract.{no_cone, stray_places, Shows, Says, Answers}
use Rattle.cone_entry.specs.Promises.{writes_each_m, needs_each_m, model_sets_m, model_names_m, Bounds, Tells}

-- ---- numbers in a row

places_at : (g : ℕ → ℕ) (n i k : ℕ) → k < n → get_or (each g (places n i)) k 0 ≡ g (i + k)
unfolding each places
places_at g zero i k h = absurd (omega arith)
places_at g (suc n) i zero h = let z : i ≡ i + 0 = omega arith in ap g z
places_at g (suc n) i (suc k) h =
    let z : i + 1 + k ≡ i + suc k = omega arith in
    places_at g n (i + 1) k (omega arith) ∙ ap g z

places_many : (g : ℕ → ℕ) (n i : ℕ) → length (each g (places n i)) ≡ n
unfolding each places
places_many g zero i = refl
places_many g (suc n) i = ap suc (places_many g n (i + 1))

filled_at : (g : ℕ → ℕ) (n : ℕ) → n ≤ 32 → (k : ℕ) → k < n → get_or (fill_m g n 0 (replicate 32 0)) k 0 ≡ g k
unfolding padded
filled_at g n f k h =
    ap (λ (l : List ℕ). get_or l k 0) (fill_padded g n f)
    ∙ get_d_front (each g (places n 0)) _ k (omega (arith, places_many g n 0))
    ∙ places_at g n 0 k h
    ∙ ap g (zero-add k)

module _ (s : List ℕ) (i : Index) (m : Model) (acc : accepted s ≡ answer m) (o : Indexed s i m) where
  st : Stage s (names_of s i) i.rules o.ts m
  st = staged s i m acc o

  -- what the definition closes, and the code
  abbrev closed : definition.Cone
  closed = shut st (accepted_invariants s m acc)

  held : Kept st closed.entities closed.automations (model_sets_m s i)
  unfolding model_sets_m writes_each_m needs_each_m names_of
  held =
      subst (λ (n : ℕ). Kept st closed.entities closed.automations
      (closed_m (writes_each_m s i.entities i.rules) (needs_each_m s i.entities i.rules) n
      (named_m s i.entities i.invariants))) (sym o.rules.counts)
      (kept st (accepted_invariants s m acc) (writes_each_m s i.entities i.rules)
      (needs_each_m s i.entities i.rules)
      (λ k b. filled_at _ i.rules.count (bounds s m acc i o).rules k (omega (arith, o.rules.counts)))
      (λ k b. filled_at _ i.rules.count (bounds s m acc i o).rules k (omega (arith, o.rules.counts))))

  cone_is : definition.cone s ≡ answer (definition.cone_of m)
  unfolding definition.cone ◌>>=◌
  cone_is = ap (λ (a : Answer Model). a >>= λ m. answer (definition.cone_of m)) acc

  strays : model_names_m s i ≡ packed_n (stray_places s (definition.cone_of m))
  unfolding model_names_m stray_places definition.cone_of shut names_of
  strays =
      ap (λ (k : ℕ). names_m (undeclared_m s i.entities i.rules k) (model_sets_m s i).automations k)
      o.each_text.counts
      ∙ strays_are st (ascends s i m o) (texts_once s i m o) (accepted_few s m acc).1 closed.entities
      closed.automations (model_sets_m s i) held
      ∙ ap (λ (t : List Text). packed_n
      (each (λ x. place_of x t) (undeclared (names st) (sorted_t closed.entities)))) (sym (texts_are s i m o))
      ∙ ap (λ (t : List Text). packed_n
      (each (λ x. place_of x (texts_in s)) (undeclared t (sorted_t closed.entities)))) (sym (names_are s m acc))

  shows : (r : ConeResult) → Tells s i r → Shows s r (definition.cone_of m)
  unfolding definition.cone_of shut packed_n
  shows r t = record {
    accepted = t.accepted;
    entities = t.entities ∙ sym (entities_are st closed.entities closed.automations (model_sets_m s i) held)
        ∙ ap (λ (n : List Text). declared_set n (sorted_t closed.entities)) (sym (names_are s m acc));
    automations = t.automations ∙ sym (automations_are st closed.entities closed.automations (model_sets_m s i) held)
        ∙ ap (λ (n : List Text). ids_set n (ids st) (keep (λ id. mem_t id closed.automations) (ids st)))
        (sym (names_are s m acc))
        ∙ ap (λ (n : List Text). ids_set (names_in s) n (keep (λ id. mem_t id closed.automations) (ids st)))
        (sym (ids_are s m acc));
    undeclared = t.undeclared ∙ ap (λ (n : ConeNames). n.count) strays;
    names = t.names ∙ ap (λ (n : ConeNames). n.list) strays;
  }

  pub answers : (r : ConeResult) → Tells s i r → Answers s r
  answers r t = subst (Says s r) (sym cone_is) (shows r t)

-- ---- a file that is refused

pub turned_down : (s : List ℕ) (k : ℕ) → accepted s ≡ refused k → (r : ConeResult) → r ≡ no_cone k → Answers s r
unfolding definition.cone ◌>>=◌
turned_down s k e r t = subst (Says s r) (sym (ap (λ (a : Answer Model). a >>= λ m. answer (definition.cone_of m)) e)) t

-- ---- as the code has it

pub accepted_bounds : (s : List ℕ) (x : File) → ReadSays s x (accepted s) → x.status ≡ status.Read → Bounds x.index
accepted_bounds s x f e = let r = accept_read s x f e in bounds s r.0 r.1.0 x.index r.1.1

pub accepted_answers : (s : List ℕ) (x : File) → ReadSays s x (accepted s) → x.status ≡ status.Read → {r : ConeResult}
    → Tells s x.index r → Answers s r
accepted_answers s x f e {r} h = let q = accept_read s x f e in answers s x.index q.0 q.1.0 q.1.1 r h

pub refused_answers : (s : List ℕ) (x : File) → ReadSays s x (accepted s) → {k : ℕ} → x.status ≡ status.Refused k
    → {r : ConeResult} → r ≡ no_cone k → Answers s r
refused_answers s x f {k} e {r} t = turned_down s k (accept_refused s x f e) r t
