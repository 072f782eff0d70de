-- The reasons that are made of places can be read.
use Prim.Native.Nat.{ℕ, zero, suc, ◌+◌, ◌*◌, ◌≤◌, ◌<◌}
use mathlib.Core.Path.{◌≡◌, refl}
use mathlib.Core.List.{List}
use native.Mathlib.Omega.{arith}
use native.Mathlib.Decide.{dec_lt}
use lib.ListN.{get_or}
use borrow.Author.Tests.{lt-ltb, le-ltb}
use Rattle.texts.specs.Places.{start_from}
use Rattle.reasons.specs.declared.Reason.{Reason}
use Rattle.reasons.specs.Kinds.{OneText, NoText}
use Rattle.reasons.specs.Readable.{text_count, TextAt, Readable, HasText}
use Rattle.reasons.proofs.Cleaning.{one_text, no_text}
use Rattle.engine_fields.specs.Fields.{cap, text_position, about_rule, alone, note_reason}

-- a text stands at most 256 bytes further on for each text before it
pub start_low : (f : List ℕ) → ((i : ℕ) → get_or f i 0 < 256) → (k p n : ℕ) → p ≤ n → start_from f p k ≤ n + 256 * k
unfolding start_from
start_low f b zero p n h = omega arith
start_low f b (suc k) p n h = omega (arith, start_low f b k (p + 1 + get_or f p 0) (n + 256) (omega (arith, b p)))

module _ (f : List ℕ) (h : HasText f) where
  few : text_count f ≤ 65535
  unfolding text_count
  few = omega (arith, h.bytes 4, h.bytes 5)

  pub position_stands : (p : ℕ) → TextAt f (text_position f p)
  unfolding text_position cap start_from
  position_stands p = elim (dec_lt p (text_count f)) [
    | yes g ↦ rw (
      lt-ltb p (text_count f) g,
      le-ltb 4294967295 (start_from f 6 p)
          (omega (arith, start_low f h.bytes p 6 6 (omega arith), few)),
    ) (record { place = p; among = g; is = refl })
    | no g ↦ rw (le-ltb p (text_count f) (omega arith)) (record { place = 0; among = h.some; is = refl })
  ]

-- the reasons that the code makes
module _ {f : List ℕ} {r : Reason} where
  pub about_readable : (x : List ℕ) (i : ℕ) {k : ℕ} → r ≡ about_rule f x i k → OneText k → HasText f → Readable f r
  unfolding about_rule
  about_readable x i e o h = rw e (one_text f o (position_stands f h _))

  pub note_readable : (p : ℕ) → r ≡ note_reason f p → HasText f → Readable f r
  unfolding note_reason
  note_readable p e h = rw e (one_text f (record { known = omega arith; is = refl }) (position_stands f h _))

  pub alone_readable : {k : ℕ} → r ≡ alone k → NoText k → Readable f r
  unfolding alone
  alone_readable e o = rw e (no_text f o)
