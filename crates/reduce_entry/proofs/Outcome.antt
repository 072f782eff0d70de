-- The parts of the entry, by the definition: the reduction with the last check, and the first check.
use Prim.Native.Nat.{ℕ, ◌+◌, ◌-◌, ◌≤◌, ◌<◌}
use mathlib.Core.Path.{◌≡◌, refl, sym, ap, subst, ◌∙◌}
use mathlib.Core.Bool.{Bool, true, false}
use mathlib.Core.List.{List, [], ◌∷◌, ◌++◌}
use mathlib.Core.Logic.{inl, inr}
use native.Mathlib.Omega.{arith}
use lib.Dec.{eqb}
use lib.ListN.{length, get_or, drop, replicate}
use Rattle.layout.specs.Sizes.{event_word_count}
use Rattle.areas.specs.Areas.{Cleared}
use Rattle.checker_result.specs.Statuses.{is_violation_m}
use Rattle.texts.specs.Texts.{Text}
use Rattle.areas.specs.Areas.{area}
use Rattle.model_spec.specs.Answer.{Answer, answer, refused, ◌>>=◌, ◌and◌, ◌when◌}
use Rattle.model_spec.specs.Model.{Event, Input, Model}
use Rattle.model_spec.specs.Rewrite.{place_of, rewritten}
use Rattle.model_spec.specs.Validate.{accepted}
use Rattle.model_index.specs.declared.Index.{Index}
use Rattle.model_index.specs.Indexed.{Indexed}
use Rattle.model_rewrite.specs.Span.{span_m}
use Rattle.model_rewrite.specs.Written.{file_with}
use Rattle.engine_spec.specs.Cells.{Cell, initial_cells}
use Rattle.engine_spec.specs.Records.{Areas}
use Rattle.engine_spec.specs.Words.{texts_in, words_in}
use Rattle.engine_refinement.specs.Meaning.{Tabled}
use Rattle.engine_refinement.specs.Events.{EventAt}
use Rattle.engine_refinement.proofs.Words.{text_place}
use Rattle.engine_inputs.specs.declared.Events.{Events}
use Rattle.engine_entry.specs.Prepared.{Prepared, PreparedFrom}
use Rattle.engine_entry.proofs.Refines.{tb, queue_clear, runs_clear}
use Rattle.engine_entry.proofs.RunEvents.{texts_here}
use Rattle.checker_spec.specs.Check.{Check, checked, Violation}
use Rattle.checker_spec.specs.Check as check
use Rattle.checker_spec.specs.Minimize.{reduce, target_of, minimized, reduced_file}
use Rattle.checker_spec.specs.Minimize as checker
use Rattle.checker_result.specs.declared.CheckResult.{CheckResult}
use Rattle.checker_entry.specs.Contract as shown
use Rattle.checker_entry.specs.Promises.{Checked}
use Rattle.checker_entry.proofs.Refines as promised
use Rattle.checker_entry.proofs.Refines.{Promise, promise}
use Rattle.reduce.specs.declared.Reduced.{Reduced}
use Rattle.model_spec.specs.Events.{event_words}
use Rattle.reduce.specs.Events.{Left}
use Rattle.reduce.specs.Promises.{sizes, from, Ends, Reduces}
use Rattle.reduce.specs.Promises as parts
use Rattle.reduce.proofs.Violations.{none_such, Fair, checked_fair, violation_is, Target, target_is}
use Rattle.reduce.proofs.Words.{left_at}
use Rattle.reduce_result.specs.declared.Minimized.{Minimized}
use Rattle.reduce_result.specs.Result.{no_reduction}
use Rattle.reduce_entry.specs.Contract.{Shows}
use Rattle.reduce_result.specs.Last.{Ready, Repeats, Finished}
use Rattle.reduce_entry.specs.Promises.{Outcome, answers, refuses, reduced_to, Given, Aimed, ReducesTo, ReducesAll}
use Rattle.reduce_entry.proofs.File.{file_is, file_fits}

no_event : Event
no_event = record { at = 0; input = Input.restart }

-- ---- the definition's parts

module _ (areas : Areas) (m : Model) (target : Text) (vs : List Event) where
  abbrev cells : List Cell
  cells = initial_cells m.scenario.entities

  abbrev told : checker.Reduced → Check → checker.Minimized
  told r c = record {
    events = r.events;
    invariant = target;
    original_events = length vs;
    attempts = r.attempts;
    deletion_minimal = eqb r.reached (length r.events);
    check = c;
  }

  not_reduced : (n : ℕ) → reduce areas m cells target 200 0 0 vs ≡ refused n → reduced_to areas m target vs ≡ refused n
  unfolding reduced_to ◌>>=◌
  not_reduced n e = rw e

  not_checked : (n : ℕ) (r : checker.Reduced) → reduce areas m cells target 200 0 0 vs ≡ answer r
      → checked areas m cells r.events ≡ refused n →
      reduced_to areas m target vs ≡ refused n
  unfolding reduced_to ◌>>=◌
  not_checked n r e z = rw (e, z)

  reduced_so : (r : checker.Reduced) (c : Check) → reduce areas m cells target 200 0 0 vs ≡ answer r
      → checked areas m cells r.events ≡ answer c →
      reduced_to areas m target vs ≡ answer (told r c)
  unfolding reduced_to ◌>>=◌
  reduced_so r c e z = rw (e, z)

  not_first : (n : ℕ) → checked areas m cells vs ≡ refused n → minimized areas m cells vs ≡ refused n
  unfolding minimized ◌>>=◌
  not_first n e = rw e

  no_target : (c : Check) (n : ℕ) → checked areas m cells vs ≡ answer c → target_of c ≡ refused n
      → minimized areas m cells vs ≡ refused n
  unfolding minimized ◌>>=◌
  no_target c n e z = rw (e, z)

  to_target : (c : Check) → checked areas m cells vs ≡ answer c → target_of c ≡ answer target
      → minimized areas m cells vs ≡ reduced_to areas m target vs
  unfolding minimized reduced_to ◌>>=◌
  to_target c e z = rw (e, z)

no_violation : (c : Check) → check.is_violation c.status ≡ false → target_of c ≡ refused 21
unfolding target_of ◌and◌ ◌when◌
no_violation c e = rw e

first_of : (c : Check) → check.is_violation c.status ≡ true → 1 ≤ length c.violations
    → target_of c ≡ answer (get_or c.violations 0 none_such).invariant
unfolding target_of ◌and◌ ◌when◌
first_of c e h = rw (e, target_of) (by c.violations h)
  where
    by : (l : List Violation) → 1 ≤ length l →
        (elim l [ [] ↦ refused 21 | v ∷ r ↦ answer v.invariant ]) ≡ answer (get_or l 0 none_such).invariant
    by [] h = absurd (omega arith)
    by (v ∷ r) h = refl

-- ---- areas of the same lengths

abbrev Long : (q r a b u v : List ℕ) → Type 0
Long q r a b u v = (length r ≡ length q) × ((length b ≡ length a) × (length v ≡ length u))

same_sizes : (q r a b u v : List ℕ) → Long q r a b u v
    → sizes (length r) (length b) (length v) ≡ sizes (length q) (length a) (length u)
same_sizes q r a b u v (eq, (ea, eu)) = rw (eq, ea, eu)

-- ---- the reduction, with the last check

-- what the last check asks for
pub ready : {f : List ℕ} {i : Index} {g : Prepared} {target : ℕ} {e : Events} {n : ℕ} {x : Reduced} {q a u : ℕ}
    → Reduces f i g target e n x q a u →
    {o : List ℕ} → Aimed f i g target e n o → x.refused ≡ 0 → Ready f x o
ready {f} {i} {g} {target} {e} {n} {x} {q} {a} {u} red {o} am z =
    by (red.does m acc ix am.given.prepared am.target_in m.scenario.events am.given.left)
  where
    m : Model
    m = am.given.model.m

    acc : accepted f ≡ answer m
    acc = am.given.model.is_model

    ix : Indexed f i m
    ix = am.given.model.index

    by : Ends (sizes q a u) m ix.ts target x (from (sizes q a u) m ix.ts target 0 0 m.scenario.events)
        → Ready f x o
    by (parts.Ends.full lo hi y) = absurd (omega (arith, z))
    by (parts.done d vs left y) = record {
      room = file_fits f i m acc ix x.words x.count vs left o (omega (arith, red.few, red.long))
          (omega (arith, red.few)) am.given.room;
      long = red.long;
    }

module _ {f : List ℕ} {i : Index} {g : Prepared} {target : ℕ} {e : Events} {n : ℕ} {x : Reduced} (q a u : List ℕ)
    (red : Reduces f i g target e n x (length q) (length a) (length u)) where
  -- a check of a candidate was refused
  pub reduction_full : (x.refused ≡ 0 → ⊥) → {r : Minimized} → r ≡ no_reduction x.refused
      → {q₁ q' a₁ a' u₁ u' : List ℕ} → Cleared q₁ q' a₁ a' u₁ u' →
      length q₁ ≡ length q → length a₁ ≡ length a → length u₁ ≡ length u → (o : List ℕ)
      → ReducesTo f i g target e n r q q' a a' u u' o o
  reduction_full z {r} is {q₁} {q'} {a₁} {a'} {u₁} {u'} cl eq ea eu o m acc ix gr inside vs left = by
      (red.does m acc ix gr inside vs left)
    where
      by : Ends (sizes (length q) (length a) (length u)) m ix.ts target x
          (from (sizes (length q) (length a) (length u)) m ix.ts target 0 0 vs) →
          Outcome f (reduced_to (sizes (length q) (length a) (length u)) m (get_or ix.ts target []) vs) r (length q)
          (length a) (length u) q' a' u' o o
      by (parts.Ends.full lo hi y) =
          refuses x.refused (inr (lo, hi))
          (not_reduced (sizes (length q) (length a) (length u)) m (get_or ix.ts target []) vs x.refused y) is
          (cl.queue ∙ ap (λ (k : ℕ). replicate k 0) eq) (cl.records ∙ ap (λ (k : ℕ). replicate k 0) ea)
          (cl.runs ∙ ap (λ (k : ℕ). replicate k 0) eu) refl
      by (parts.done d ws l y) = absurd (z d)

  module _ (bytes : (k : ℕ) → get_or f k 0 < 256) (z : x.refused ≡ 0) {r : Minimized} {q₁ q' a₁ a' u₁ u' o o' : List ℕ}
      (fin : Finished f i g target n x r q₁ q' a₁ a' u₁ u' o o') (long : Long q q₁ a a₁ u u₁) where
    abbrev areas : Areas
    areas = sizes (length q) (length a) (length u)

    module _ (m : Model) (acc : accepted f ≡ answer m) (ix : Indexed f i m) (gr : PreparedFrom f i g)
        (inside : target < length ix.ts) (vs : List Event) (left : Left m ix.ts e.words n vs) where
      queue_is : q' ≡ replicate (length q) 0
      queue_is = queue_clear f i m acc ix bytes g gr fin.checks.ran ∙ ap (λ (k : ℕ). replicate k 0) long.0

      runs_is : u' ≡ replicate (length u) 0
      runs_is = runs_clear f i m acc ix bytes g gr fin.checks.ran ∙ ap (λ (k : ℕ). replicate k 0) long.1.1

      abbrev t : Tabled f g.table ix.ts m
      t = tb f i m acc ix bytes g gr

      abbrev name : Text
      name = get_or ix.ts target []

      here : texts_in f ≡ ix.ts
      here = texts_here f i m acc ix bytes g gr

      module _ (ws : List Event) (kept : Left m ix.ts x.words x.count ws)
          (y : reduce areas m (initial_cells m.scenario.entities) name 200 0 0 vs
          ≡ answer (record { events = ws; attempts = x.attempts; reached = x.reached })) where
        evs : (j : ℕ) → j < length ws → EventAt f g.table ix.ts m x.words j (get_or ws j no_event)
        evs j h = left_at f g.table i m acc ix t x.words x.count ws kept no_event j h

        abbrev final : Check → checker.Minimized
        final c = told areas m name vs (record { events = ws; attempts = x.attempts; reached = x.reached }) c

        invariant_is : (k : ℕ) → (target ≤ 65535 → k ≡ target) → k ≡ place_of name (texts_in f)
        invariant_is k h =
            h (omega (arith, inside, t.few_texts))
            ∙ sym (ap (place_of name) here ∙ text_place f g.table ix.ts m t target inside)

        bytes_are : file_with f (span_m f) x.words x.count ≡ rewritten f ws
        bytes_are = file_is f i m acc ix x.words x.count ws kept

        shows : (c : Check) → shown.Shows f fin.check c → Repeats f target n x fin.check r o o' → Shows f r (final c)
        unfolding reduced_file
        shows c s p = record {
          accepted = p.accepted;
          invariant = invariant_is r.invariant p.invariant;
          original_events = p.original_events ∙ left.many;
          attempts = p.attempts;
          deletion_minimal = p.deletion_minimal ∙ ap (eqb x.reached) kept.many;
          events = p.events ∙ kept.many;
          words = p.words ∙ kept.held ∙ ap (λ (ts : List Text). area (event_words ts) event_word_count ws) (sym here);
          written = p.wrote.is_size ∙ ap length bytes_are;
          check = subst (λ (y : CheckResult). shown.Shows f y c) (sym p.check) s;
        }

        wrote : (c : Check) → Repeats f target n x fin.check r o o'
            → o' ≡ reduced_file f (final c) ++ drop (length (reduced_file f (final c))) o
        unfolding reduced_file
        wrote c p = p.wrote.is_out ∙ ap (λ (b : List ℕ). b ++ drop (length b) o) bytes_are

        checked_here : {b : Answer Check} → checked (sizes (length q₁) (length a₁) (length u₁)) m
            (initial_cells m.scenario.entities) ws ≡ b →
            checked areas m (initial_cells m.scenario.entities) ws ≡ b
        checked_here k = ap (λ (s : Areas). checked s m (initial_cells m.scenario.entities) ws)
            (sym (same_sizes q q₁ a a₁ u u₁ long)) ∙ k

        finished : Outcome f (reduced_to areas m name vs) r (length q) (length a) (length u) q' a' u' o o'
        finished = by (promise f i m acc ix bytes g gr x.words no_event ws evs kept.many fin.checks)
          where
            by : Promise f i m acc ix bytes g gr x.words no_event ws evs kept.many fin.checks →
                Outcome f (reduced_to areas m name vs) r (length q) (length a) (length u) q' a' u' o o'
            by (promised.answers c k s d) =
                let p = fin.done s.simulation.accepted in
                answers (final c) (reduced_so areas m name vs _ c y (checked_here k)) (shows c s p) queue_is
                (d ∙ ap (λ (j : ℕ). area (words_in f) j c.simulation.trace) long.1.0) runs_is (wrote c p)
            by (promised.refuses j lo hi k is d) =
                let no = is.number in
                let p = fin.full (λ s. absurd (omega (arith, no, s))) in
                refuses j (inr (lo, hi)) (not_checked areas m name vs j _ y (checked_here k))
                (p.answer_is ∙ ap no_reduction no) queue_is
                (d ∙ ap (λ (j : ℕ). replicate j 0) long.1.0) runs_is p.output

    pub reduction_done : ReducesTo f i g target e n r q q' a a' u u' o o'
    reduction_done m acc ix gr inside vs left = by (red.does m acc ix gr inside vs left)
      where
        by : Ends areas m ix.ts target x (from areas m ix.ts target 0 0 vs) →
            Outcome f (reduced_to areas m (get_or ix.ts target []) vs) r (length q) (length a) (length u) q' a' u' o o'
        by (parts.Ends.full lo hi y) = absurd (omega (arith, z))
        by (parts.done d ws kept y) = finished m acc ix gr inside vs left ws kept y

-- ---- the first check

module _ {f : List ℕ} (i : Index) {g : Prepared} {e : Events} {n : ℕ}
    (bytes : (k : ℕ) → get_or f k 0 < 256) {c : CheckResult} {q q₁ a a₁ u u₁ : List ℕ}
    (ch : Checked f i.invariants.starts i.invariants.count g e.words n c q q₁ a a₁ u u₁) where
  abbrev first_sizes : Areas
  first_sizes = sizes (length q) (length a) (length u)

  module _ (m : Model) (acc : accepted f ≡ answer m) (ix : Indexed f i m) (gr : PreparedFrom f i g) (vs : List Event)
      (left : Left m ix.ts e.words n vs) where
    abbrev first_table : Tabled f g.table ix.ts m
    first_table = tb f i m acc ix bytes g gr

    first_evs : (j : ℕ) → j < length vs → EventAt f g.table ix.ts m e.words j (get_or vs j no_event)
    first_evs j h = left_at f g.table i m acc ix first_table e.words n vs left no_event j h

    abbrev First : Type 0
    First = Promise f i m acc ix bytes g gr e.words no_event vs first_evs left.many ch

    first : First
    first = promise f i m acc ix bytes g gr e.words no_event vs first_evs left.many ch

    fair : (d : Check) → checked first_sizes m (initial_cells m.scenario.entities) vs ≡ answer d
        → Fair f g.table i m acc ix first_table d
    fair d y = checked_fair f g.table i m acc ix first_table first_sizes vs d y

    violation_here : (d : Check) → checked first_sizes m (initial_cells m.scenario.entities) vs ≡ answer d
        → shown.Shows f c d →
        is_violation_m c.status ≡ check.is_violation d.status
    violation_here d y s = violation_is f g.table i m acc ix first_table (texts_here f i m acc ix bytes g gr) c d s
        (fair d y)

    target_here : (d : Check) (y : checked first_sizes m (initial_cells m.scenario.entities) vs ≡ answer d)
        (s : shown.Shows f c d) →
        check.is_violation d.status ≡ true →
        Target f g.table i m acc ix first_table (texts_here f i m acc ix bytes g gr) c d s (fair d y)
        (get_or d.violations 0 none_such).invariant
    target_here d y s z =
        target_is f g.table i m acc ix first_table (texts_here f i m acc ix bytes g gr) c d s (fair d y)
        ((fair d y).some_violation z)

  pub first_full : (c.simulation.refused ≡ 0 → ⊥) → {r : Minimized} → r ≡ no_reduction c.simulation.refused
      → (o : List ℕ) →
      ReducesAll f i g e n r q q₁ a a₁ u u₁ o o
  first_full z {r} is o m acc ix gr vs left = by (first m acc ix gr vs left)
    where
      by : First m acc ix gr vs left → Outcome f (minimized first_sizes m (initial_cells m.scenario.entities) vs) r
          (length q) (length a) (length u) q₁ a₁ u₁ o o
      by (promised.answers d k s w) = absurd (z s.simulation.accepted)
      by (promised.refuses j lo hi k none w) =
          refuses j (inr (lo, hi)) (not_first first_sizes m [] vs j k) (is ∙ ap no_reduction none.number)
          (queue_clear f i m acc ix bytes g gr ch.ran) w (runs_clear f i m acc ix bytes g gr ch.ran) refl

  module _ (z : c.simulation.refused ≡ 0) {b : Bool} (is_b : b ≡ is_violation_m c.status) where
    -- it isn't a violation
    pub first_other : b ≡ false → {r : Minimized} → r ≡ no_reduction 21 → {q' a' u' : List ℕ} → Cleared q₁ q' a₁ a' u₁ u' →
        length q₁ ≡ length q → length a₁ ≡ length a → length u₁ ≡ length u → (o : List ℕ)
        → ReducesAll f i g e n r q q' a a' u u' o o
    first_other f' {r} is {q'} {a'} {u'} cl eq ea eu o m acc ix gr vs left = by (first m acc ix gr vs left)
      where
        by : First m acc ix gr vs left → Outcome f
            (minimized first_sizes m (initial_cells m.scenario.entities) vs) r (length q) (length a)
            (length u) q' a' u' o o
        by (promised.answers d k s w) =
            refuses 21 (inl refl) (no_target first_sizes m [] vs d 21 k
            (no_violation d (sym (violation_here m acc ix gr vs left d k s) ∙ sym is_b ∙ f'))) is
            (cl.queue ∙ ap (λ (j : ℕ). replicate j 0) eq) (cl.records ∙ ap (λ (j : ℕ). replicate j 0) ea)
            (cl.runs ∙ ap (λ (j : ℕ). replicate j 0) eu) refl
        by (promised.refuses j lo hi k none w) = absurd (omega (arith, none.number))

    module _ (so : b ≡ true) where
      -- what the reduction asks for
      pub aimed : {o : List ℕ} → Given f i g e n o → Aimed f i g (get_or c.violated 0 0) e n o
      aimed {o} gi = by (first m acc ix gr m.scenario.events gi.left)
        where
          m : Model
          m = gi.model.m

          acc : accepted f ≡ answer m
          acc = gi.model.is_model

          ix : Indexed f i m
          ix = gi.model.index

          gr : PreparedFrom f i g
          gr = gi.prepared

          by : First m acc ix gr m.scenario.events gi.left → Aimed f i g (get_or c.violated 0 0) e n o
          by (promised.answers d k s w) =
              let v = sym (violation_here m acc ix gr m.scenario.events gi.left d k s) ∙ sym is_b ∙ so in
              record { given = gi; target_in = (target_here m acc ix gr m.scenario.events gi.left d k s v).inside }
          by (promised.refuses j lo hi k none w) = absurd (omega (arith, none.number))

      pub first_so : {r : Minimized} {q' a' u' o o' : List ℕ}
          → ReducesTo f i g (get_or c.violated 0 0) e n r q₁ q' a₁ a' u₁ u' o o' →
          length q₁ ≡ length q → length a₁ ≡ length a → length u₁ ≡ length u → ReducesAll f i g e n r q q' a a' u u' o o'
      first_so {r} {q'} {a'} {u'} {o} {o'} red eq ea eu m acc ix gr vs left = by (first m acc ix gr vs left)
        where
          by : First m acc ix gr vs left → Outcome f
              (minimized first_sizes m (initial_cells m.scenario.entities) vs) r (length q) (length a)
              (length u) q' a' u' o o'
          by (promised.answers d k s w) =
              let v = sym (violation_here m acc ix gr vs left d k s) ∙ sym is_b ∙ so in
              let t = target_here m acc ix gr vs left d k s v in
              let name = (get_or d.violations 0 none_such).invariant in
              let law : minimized first_sizes m (initial_cells m.scenario.entities) vs
              ≡ reduced_to first_sizes m name vs = to_target first_sizes m name vs d k
              (first_of d v ((fair m acc ix gr vs left d k).some_violation v)) in
              let y = red m acc ix gr t.inside vs left in
              let y' : Outcome f (reduced_to first_sizes m (get_or ix.ts (get_or c.violated 0 0) []) vs) r (length q)
              (length a) (length u) q' a' u' o o' = rw (eq, ea, eu) at y in
              subst (λ (l : Answer checker.Minimized). Outcome f l r (length q) (length a) (length u) q' a' u' o o')
              (ap (λ (l : Text). reduced_to first_sizes m l vs) (sym t.is_text) ∙ sym law) y'
          by (promised.refuses j lo hi k none w) = absurd (omega (arith, none.number))
