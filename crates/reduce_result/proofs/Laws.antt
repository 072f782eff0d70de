-- Laws for the small functions.
use Prim.Native.Nat.{ℕ}
use mathlib.Core.Path.{◌≡◌, refl, sym, ap, subst, ◌∙◌}
use mathlib.Core.Bool.{false}
use mathlib.Core.List.{List}
use lib.Dec.{eqb}
use lib.ListN.{replicate}
use Rattle.layout.specs.Sizes.{event_word_count}
use Rattle.model_rewrite.specs.declared.Span.{Span}
use Rattle.model_rewrite.specs.Span.{span_m}
use Rattle.model_rewrite.specs.Written.{file_with, Room, Wrote}
use Rattle.model_index.specs.declared.Index.{Index}
use Rattle.engine_entry.specs.Prepared.{Prepared}
use Rattle.checker_result.specs.declared.CheckResult.{CheckResult}
use Rattle.checker_result.specs.Result.{no_check}
use Rattle.checker_entry.specs.Promises.{Whole}
use Rattle.checker_entry.proofs.Refines.{whole_done, whole_full}
use Rattle.reduce.specs.declared.Reduced.{Reduced}
use Rattle.reduce_result.specs.declared.Minimized.{Minimized}
use Rattle.reduce_result.specs.Result.{no_reduction}
use Rattle.reduce_result.specs.Last.{Placed, Finished}

pub refused_is : (n : ℕ) {c : CheckResult} → c ≡ no_check n →
    record {
      refused = n;
      invariant = 0;
      original_events = 0;
      attempts = 0;
      deletion_minimal = false;
      events = 0;
      words = replicate event_word_count 0;
      written = 0;
      check = c;
    } ≡ no_reduction n
unfolding no_reduction
refused_is n e = rw e

-- ---- the last check

-- what the rewriter asks for
pub asked_here : {f l o : List ℕ} {n : ℕ} → Room f (span_m f) l n o → {s : Span} → s ≡ span_m f → Room f s l n o
asked_here {f} {l} {o} {n} r e = subst (λ (s : Span). Room f s l n o) (sym e) r

module _ {f : List ℕ} {i : Index} {g : Prepared} {target n : ℕ} {x : Reduced} {c : CheckResult} {q q' a a' u u' : List ℕ}
    (wh : Whole f i.invariants.starts i.invariants.count g x.words x.count c q q' a a' u u') where
  pub last_full : {r : Minimized} → (c.simulation.refused ≡ 0 → ⊥) → r ≡ no_reduction c.simulation.refused
      → (o : List ℕ) →
      Finished f i g target n x r q q' a a' u u' o o
  last_full z e o =
      let same = whole_full wh z in
      record {
        check = wh.result;
        checks = wh.checked;
        done = λ y. absurd (z (sym same ∙ y));
        full = λ y. record { answer_is = e ∙ ap no_reduction (sym same); output = refl };
      }

  pub last_done : c.simulation.refused ≡ 0 → {s : Span} → s ≡ span_m f → {size : ℕ} {o o' : List ℕ}
      → Wrote (file_with f s x.words x.count) size o o' →
      {p : ℕ} → Placed target p →
      Finished f i g target n x (record {
        refused = 0;
        invariant = p;
        original_events = n;
        attempts = x.attempts;
        deletion_minimal = eqb x.reached x.count;
        events = x.count;
        words = x.words;
        written = size;
        check = c;
      }) q q' a a' u u' o o'
  last_done z e {size} {o} {o'} w h = record {
    check = c;
    checks = whole_done wh z;
    done = λ y. record {
      accepted = refl;
      invariant = h;
      original_events = refl;
      attempts = refl;
      deletion_minimal = refl;
      events = refl;
      words = refl;
      check = refl;
      wrote = subst (λ (s : Span). Wrote (file_with f s x.words x.count) size o o') e w;
    };
    full = λ y. absurd (y z);
  }
