-- The witness: its check is the definition's, and its file is the model file with its events.
use Prim.Native.Nat.{ℕ, ◌*◌, ◌≤◌, ◌<◌}
use mathlib.Core.Path.{◌≡◌, refl, sym, ap, subst, ◌∙◌}
use mathlib.Core.List.{List}
use native.Mathlib.Omega.{arith}
use lib.ListN.{length, get_or}
use Rattle.areas.specs.Areas.{area}
use Rattle.areas.proofs.Laws as areas
use Rattle.model_spec.specs.Answer.{Answer, answer, refused}
use Rattle.model_spec.specs.Model.{Input, Event}
use Rattle.model_spec.specs.File.{decode}
use Rattle.model_rewrite.specs.declared.Span.{Span}
use Rattle.model_rewrite.specs.Span.{span_m}
use Rattle.model_rewrite.specs.Written.{file_with, Room, Wrote}
use Rattle.model_spec.specs.Events.{event_words, EventWords}
use Rattle.model_spec.proofs.Events.{event_size}
use Rattle.engine_inputs.proofs.Refines.{Fine, event_words_here}
use Rattle.model_rewrite.proofs.Refines.{asked, told}
use Rattle.model_rewrite.proofs.WithEvents.{few_events}
use Rattle.engine_spec.specs.Words.{words_in}
use Rattle.engine_spec.proofs.Validated.{accepted_decoded}
use Rattle.engine_entry.specs.Contract.{lent}
use Rattle.engine_entry.proofs.Refines.{queue_clear, runs_clear}
use Rattle.checker_spec.specs.Check.{Check, checked}
use Rattle.checker_result.specs.declared.CheckResult.{CheckResult}
use Rattle.checker_entry.specs.Contract as said
use Rattle.checker_entry.specs.Promises.{Checked, Whole}
use Rattle.checker_entry.proofs.Refines.{Promise, answers, refuses, promise, whole_shows}
use Rattle.search_inputs.specs.declared.Placed.{Placed}
use Rattle.search_inputs.proofs.Refines.{fine_here}
use Rattle.search.specs.Meaning.{none_such, cells_of, sizes, Entire, Setting, PlacedAs}
use Rattle.search.proofs.Cases.{events_at}
use Rattle.search_entry.specs.Promises.{Writable, Written, Writes}

module _ {f : List ℕ} {p : Entire} {q a u : ℕ} (x : Setting f p q a u) where
  decoded : decode f ≡ answer x.m
  decoded = accepted_decoded f x.m x.is_accepted

  words_at : (vs : List Event) (placed : Placed) → PlacedAs x.indexed.ts x.m vs placed → (j : ℕ) → j < length vs →
      EventWords x.indexed.ts placed.words j (get_or vs j none_such)
  words_at vs placed ps j h =
      let c = ps.chosen j h in
      event_words_here x.indexed.ts placed.words none_such vs 20 ps.words j h
      (subst (Fine x.indexed.ts) (sym c.is)
      (fine_here f x.index x.m x.is_accepted x.indexed Input.restart c.place c.inside))

module _ {f : List ℕ} {p : Entire} {placed : Placed} {q a u o : ℕ} (h : Writable f p placed q a u o) where
  abbrev x : Setting f p q a u
  x = h.setting

  five : placed.count ≤ 5
  five = omega (arith, h.placed_as.count, h.few)

  pub long : length placed.words ≡ 20
  long =
      ap length h.placed_as.words
      ∙ areas.area_length (event_words x.indexed.ts) 4 (event_size x.indexed.ts) 20 h.events
      (omega (arith, h.few))

  pub check_asks : placed.count * 4 ≤ length placed.words
  check_asks = omega (arith, five, long)

  pub write_asks : {s : Span} → s ≡ span_m f → (out : List ℕ) → length out ≡ o →
      Room f s placed.words placed.count out
  write_asks e out l =
      asked f x.m x.index (decoded x) x.indexed placed.words none_such h.events
      (words_at x h.events placed h.placed_as) e h.placed_as.count out check_asks
      (omega (arith, five)) (omega (arith, few_events f x.m (decoded x) h.events h.few, h.room, l))

pub writes_so : {f : List ℕ} {p : Entire} (placed : Placed) {c : CheckResult} {q q' a a' u u' : List ℕ} →
    Whole f p.starts p.invariants p.prepared placed.words placed.count c q q' a a' u u' → {s : Span} →
    s ≡ span_m f →
    {n : ℕ} {out out' : List ℕ} → Wrote (file_with f s placed.words placed.count) n out out' →
    Writes f p placed (record { events = placed.count; words = placed.words; written = n; check = c }) (length q)
    (length a) (length u) (lent q' a' u') out out'
writes_so {f} {p} placed {c} {q} {q'} {a} {a'} {u} {u'} wh {s} e {n} {out} {out'} wr = record {
  does = λ x vs ps b y. by x vs ps b y
      (promise f x.index x.m x.is_accepted x.indexed x.bytes p.prepared x.prepared_from
      placed.words none_such vs (events_at x vs ps) ps.count (ch x));
}
  where
    ch : (x : Setting f p (length q) (length a) (length u)) →
        Checked f x.index.invariants.starts x.index.invariants.count p.prepared placed.words placed.count
        wh.result q q' a a' u u'
    ch x = rw (x.starts_are, x.invariants_are) at wh.checked

    by : (x : Setting f p (length q) (length a) (length u)) (vs : List Event)
        (ps : PlacedAs x.indexed.ts x.m vs placed) (b : Check) →
        checked (sizes (length q) (length a) (length u)) x.m (cells_of x.m) vs ≡ answer b →
        Promise f x.index x.m x.is_accepted x.indexed x.bytes p.prepared x.prepared_from
        placed.words none_such vs (events_at x vs ps) ps.count (ch x) →
        Written f vs b placed (record { events = placed.count; words = placed.words; written = n; check = c })
        (length q) (length a) (length u) (lent q' a' u') out out'
    by x vs ps b y (answers d z k l) =
        let same : d ≡ b = (let i : answer d ≡ answer b = sym z ∙ y in cc) in
        record {
          events = refl;
          words = refl;
          written = told f x.m x.index (decoded x) x.indexed placed.words none_such vs
              (words_at x vs placed ps) e ps.count wr;
          check = subst (said.Shows f c) same (whole_shows wh d k);
          queue = queue_clear f x.index x.m x.is_accepted x.indexed x.bytes p.prepared x.prepared_from
              wh.checked.ran;
          records = subst (λ (i : Check). a' ≡ area (words_in f) (length a) i.simulation.trace) same l;
          runs = runs_clear f x.index x.m x.is_accepted x.indexed x.bytes p.prepared x.prepared_from
              wh.checked.ran;
        }
    by x vs ps b y (refuses j lo hi z k l) = absurd (no (sym z ∙ y))
      where
        no : ◌≡◌ {A = Answer Check} (refused j) (answer b) → ⊥
        no i = let d : ◌≡◌ {A = ℕ} 0 1 = cc in absurd (omega arith)
