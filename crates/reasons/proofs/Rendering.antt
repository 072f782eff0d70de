-- Laws of the rendering: its pieces one behind the other.
use mathlib.Core.Path.{◌≡◌}
use mathlib.Core.List.{List, ◌++◌}
use Prim.Native.Nat.{ℕ, ◌+◌, ◌-◌, ◌<◌}
use native.Mathlib.Omega.{arith}
use lib.ListN.{length, get_or, length-append}
use borrow.Author.Tests.{eq-eqb, ne_eqb}
use Rattle.texts.specs.Texts.{Text, decimal}
use Rattle.texts.specs.Places.{text_at, seek}
use Rattle.std.specs.Prelude.{Ok}
use Rattle.texts.proofs.Laws.{seek_in}
use Rattle.reasons.specs.Kinds.{source_note_kind}
use Rattle.reasons.specs.Reasons.{words, placed, body, render}
use Rattle.reasons.specs.declared.Reason.{Reason}

pub digit_is : (t : Text) (i k b : ℕ) → i < length t → k ≡ length t - 1 - i → b ≡ get_or t (length t - 1 - k) 0 →
    Ok b ≡ seek t i
digit_is t i k b h e g =
    let q : length t - 1 - k ≡ i = omega arith in
    seek_in t i b h (rw q at g)

module _ (f : List ℕ) (r : Reason) where
  pub with_source : r.kind ≡ source_note_kind → render f r ≡ placed r.line r.column ++ body f r
  unfolding render
  with_source e = rw (eq-eqb r.kind source_note_kind e)

  pub without : (r.kind ≡ source_note_kind → ⊥) → render f r ≡ body f r
  unfolding render
  without e = rw (ne_eqb r.kind source_note_kind e)

  pub body_length : (x y z : ℕ) → x ≡ length (text_at f r.first) → y ≡ length (words r.kind) →
      z ≡ length (text_at f r.second) → x + y + z ≡ length (body f r)
  unfolding body
  body_length x y z p q s = simp length-append (omega arith)

  pub source_length : (x y n : ℕ) → r.kind ≡ source_note_kind → x ≡ length (decimal r.line) →
      y ≡ length (decimal r.column) → n ≡ length (body f r) → x + 1 + y + n ≡ length (render f r)
  unfolding placed
  source_length x y n e p q s = rw (with_source e) (simp length-append (omega arith))
