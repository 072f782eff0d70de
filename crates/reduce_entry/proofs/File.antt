-- The file with some of a model's events: the rewriter's bytes are the definition's, and there is room for them.
use Prim.Native.Nat.{ℕ, ◌*◌, ◌≤◌, ◌<◌}
use mathlib.Core.Path.{◌≡◌, refl, ap, ◌∙◌}
use mathlib.Core.List.{List}
use native.Mathlib.Omega.{arith}
use lib.ListN.{length, get_or}
use Rattle.model_spec.specs.Answer.{answer}
use Rattle.model_spec.specs.Events.{EventWords}
use Rattle.model_spec.specs.File.{decode}
use Rattle.model_spec.specs.Model.{Event, Input, Model}
use Rattle.model_spec.specs.Rewrite.{rewritten}
use Rattle.model_spec.specs.Validate.{accepted}
use Rattle.model_index.specs.declared.Index.{Index}
use Rattle.model_index.specs.Indexed.{Indexed}
use Rattle.model_rewrite.specs.Span.{span_m}
use Rattle.model_rewrite.specs.Written.{file_with, Room}
use Rattle.model_rewrite.proofs.Refines.{place_is, texts_found, file_agrees, asked}
use Rattle.model_rewrite.proofs.Opened.{opened}
use Rattle.model_rewrite.proofs.WithEvents.{some_events}
use Rattle.engine_spec.proofs.Validated.{accepted_decoded}
use Rattle.reduce.specs.Events.{Left}
use Rattle.reduce.proofs.Words.{left_words}

none_such : Event
none_such = record { at = 0; input = Input.restart }

pub small_file : (f : List ℕ) (m : Model) → accepted f ≡ answer m → length f ≤ 32768
small_file f m acc = (opened f m (accepted_decoded f m acc)).small

module _ (f : List ℕ) (i : Index) (m : Model) (acc : accepted f ≡ answer m) (x : Indexed f i m) (w : List ℕ) (n : ℕ)
    (vs : List Event) (left : Left m x.ts w n vs) where
  dec : decode f ≡ answer m
  dec = accepted_decoded f m acc

  words_at : (k : ℕ) → k < length vs → EventWords x.ts w k (get_or vs k none_such)
  words_at = left_words f i m acc x (place_is x.ts (texts_found f 4 x.all_texts.1).1) w n vs left none_such

  pub file_is : file_with f (span_m f) w n ≡ rewritten f vs
  file_is = ap (file_with f (span_m f) w) left.many ∙ file_agrees f m i dec x w none_such vs words_at

  pub file_fits : (o : List ℕ) → n * 4 ≤ length w → n < 65536 → length f ≤ length o → Room f (span_m f) w n o
  file_fits o h c r =
      asked f m i dec x w none_such vs words_at {s = span_m f} {n = n} refl left.many o h c
      (omega (arith, some_events f m dec vs left.some))
