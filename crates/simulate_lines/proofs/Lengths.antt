-- No line is longer than the room that is made for it, 4,096 bytes, however its texts are escaped.
use Rattle.std.specs.Prelude.{if◌then◌else◌}
use mathlib.Core.Path.{◌≡◌, refl, ap}
use mathlib.Core.Bool.{Bool, true, false}
use mathlib.Core.Logic.{⊎_elim}
use mathlib.Core.List.{List, [], ◌∷◌, ◌++◌}
use Prim.Native.Nat.{ℕ, ◌+◌, ◌*◌, ◌≤◌, ◌<◌}
use native.Mathlib.Omega.{arith}
use lib.Dec.{eqb}
use lib.ListN.{length, get_or, length-append, length-take, length-drop, get_or-eq_default}
use Rattle.texts.specs.Lists.{flat, all_lists}
use Rattle.texts.specs.Texts.{Text, text, decimal}
use Rattle.texts.specs.Places.{text_at, start_from, texts_from}
use Rattle.texts.proofs.Laws as texts
use Rattle.texts.proofs.Ordering.{lt_or_ge}
use Rattle.reasons.specs.Kinds.{source_note_kind}
use Rattle.reasons.specs.declared.Reason.{Reason}
use Rattle.reasons.specs.Reasons.{words_file, words, placed, body, render}
use Rattle.reasons.proofs.Digits as digits
use Rattle.reasons.proofs.Forms.{starts, start_is}
use Rattle.engine_spec.specs.Reasons.{space_spent, steps_spent, runs_left, all_reasons}
use Rattle.show.specs.Lines.{number_line, newline, quoted}
use Rattle.show.specs.Lines as lines
use Rattle.show.proofs.Laws as show
use Rattle.simulate_lines.specs.Lines.{
  steps_line,
  records_line,
  horizon_line,
  text_line,
  sim_incomplete_line,
  incomplete_of,
  incomplete_lines,
  final_line,
  all_lines,
}
use Rattle.simulate_lines.specs.FileTexts.{texts_of, text_of}

module _ (s t : Text) (m n : ℕ) (a : length s ≤ m) (b : length t ≤ n) where
  pub app : length (s ++ t) ≤ m + n
  app = omega (arith, length-append s t)

  -- with a space between
  pub glue : length (s ++ (32 ∷ t)) ≤ m + n + 1
  glue = omega (arith, length-append s (32 ∷ t))

-- ---- a word and a number, a word and a text

pub number_short : (w : Text) (n : ℕ) → length (number_line w n) ≤ length w + 22
unfolding number_line
number_short w n = omega (
  arith,
  length-append w (32 ∷ (decimal n ++ newline)),
  length-append (decimal n) newline,
  digits.at_most n,
)

-- the three lines before the records
pub numbers_short : (s r h : ℕ) → length (steps_line s ++ (records_line r ++ horizon_line h)) ≤ 4096
numbers_short s r h =
    omega (
      arith,
      length-append (steps_line s) (records_line r ++ horizon_line h),
      length-append (records_line r) (horizon_line h),
      number_short (text "steps") s,
      number_short (text "records") r,
      number_short (text "horizon") h,
    )

text_line_short : (w t : Text) → length (text_line w t) ≤ length w + 2 * length t + 4
unfolding text_line
text_line_short w t = omega (
  arith,
  length-append w (32 ∷ (quoted t ++ newline)),
  length-append (quoted t) newline,
  show.length_quoted t,
)

-- the two lines that say why a simulation is incomplete
pub incomplete_short : (why : ℕ) (waiting : Bool) → length (incomplete_lines (incomplete_of why waiting)) ≤ 4096
unfolding all_lines lines.all_lines all_lists all_reasons
incomplete_short w waiting = go (eqb w 0) (eqb w 1) waiting
  where
    go : (none space waiting : Bool) →
        length (flat sim_incomplete_line
        ((if none then [] else if space then space_spent ∷ [] else steps_spent ∷ []) ++ (if waiting then runs_left ∷ []
        else []))) ≤ 4096
    go true _ true = omega arith
    go true _ false = omega arith
    go false true true = omega arith
    go false true false = omega arith
    go false false true = omega arith
    go false false false = omega arith

-- ---- a reason's words

within : (f : List ℕ) (at : ℕ) → length (text_at f at) ≤ length f
unfolding text_at
within f at = simp (length-take, length-drop) (omega arith)

words_short : (k : ℕ) → length (words k) ≤ 411
unfolding words_file flat
words_short k =
    let e : length words_file ≡ 411 = refl in omega (arith, within words_file (get_or starts k 0), ap length (start_is k))

-- ---- over a file f of bytes

module _ (f : List ℕ) (bytes : (i : ℕ) → get_or f i 0 < 256) (x : List ℕ) where
  text_short : (k : ℕ) → length (text_of f x k) ≤ 255
  unfolding texts_of
  text_short k =
      let n : ℕ = get_or x 9 0 in
      ⊎_elim
      (λ h. omega (
        arith,
        ap length (texts.text_at_place f n k 6 h),
        texts.length_byte f (start_from f 6 k),
        bytes (start_from f 6 k),
      ))
      (λ h.
      let l : length (texts_from f 6 n) ≤ k = omega (arith, texts.texts_many f 6 n) in
      omega (arith, ap length (get_or-eq_default (texts_from f 6 n) [] l)))
      (lt_or_ge k n)

  pub quoted_short : (k : ℕ) → length (quoted (text_of f x k)) ≤ 512
  quoted_short k = omega (arith, show.length_quoted (text_of f x k), text_short k)

  pub final_short : (e v : ℕ) → length (final_line (text_of f x e) (text_of f x v)) ≤ 4096
  unfolding final_line
  final_short e v =
      let t : Text = quoted (text_of f x v) ++ newline in
      let w = app (quoted (text_of f x v)) newline 512 1 (quoted_short v) (omega arith) in
      let l = app (text "final ") (quoted (text_of f x e) ++ (32 ∷ t)) 6 1026 (omega arith)
      (glue (quoted (text_of f x e)) t 512 513 (quoted_short e) w) in
      omega (arith, l)

  -- ---- a reason

  place_short : (at : ℕ) → length (text_at f at) ≤ 255
  place_short at = omega (arith, texts.length_byte f at, bytes at)

  body_short : (r : Reason) → length (body f r) ≤ 921
  unfolding body
  body_short r =
      let w = app (words r.kind) (text_at f r.second) 411 255 (words_short r.kind) (place_short r.second) in
      app (text_at f r.first) (words r.kind ++ text_at f r.second) 255 666 (place_short r.first) w

-- the line of a reason, with a word of at most 11 bytes
module _ (f : List ℕ) (bytes : (i : ℕ) → get_or f i 0 < 256) where
  rendered_short : (r : Reason) → length (render f r) ≤ 1000
  unfolding render placed
  rendered_short r = go (eqb r.kind source_note_kind)
    where
      go : (b : Bool) → length (if b then (decimal r.line ++ (58 ∷ decimal r.column)) ++ body f r else body f r) ≤ 1000
      go true =
          omega (
            arith,
            length-append (decimal r.line ++ (58 ∷ decimal r.column)) (body f r),
            length-append (decimal r.line) (58 ∷ decimal r.column),
            digits.at_most r.line,
            digits.at_most r.column,
            body_short f bytes [] r,
          )
      go false = omega (arith, body_short f bytes [] r)

  pub reason_short : (w : Text) (r : Reason) → length w ≤ 11 → length (text_line w (render f r)) ≤ 4096
  reason_short w r h = omega (arith, text_line_short w (render f r), rendered_short r)
