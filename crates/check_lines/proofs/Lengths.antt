-- No line is longer than the room that is made for it, 4,096 bytes, however its texts are escaped.
use mathlib.Core.List.{List, [], ◌∷◌, ◌++◌}
use mathlib.Core.Option.{Option, none, some}
use Prim.Native.Nat.{ℕ, ◌+◌, ◌≤◌, ◌<◌}
use native.Mathlib.Omega.{arith}
use lib.ListN.{length, get_or, length-append}
use Rattle.texts.specs.Texts.{Text, text, decimal}
use Rattle.texts.specs.Places.{start_from}
use Rattle.texts.proofs.Laws as texts
use Rattle.reasons.specs.declared.Reason.{Reason}
use Rattle.reasons.specs.Reasons.{render, placed}
use Rattle.reasons.proofs.Digits as digits
use Rattle.model_spec.specs.Model.{Source}
use Rattle.bounds.specs.Bounds.{at_most}
use Rattle.checker_spec.specs.Judge.{
  Failure,
  prohibited_state,
  guard_violated,
  forbidden_transition,
  deadline_missed,
  message,
}
use Rattle.show.specs.Lines.{newline, quoted}
use Rattle.show.proofs.Laws as show
use Rattle.simulate_lines.specs.Lines.{text_line}
use Rattle.record_lines.specs.Lines.{placed_if}
use Rattle.check_lines.specs.declared.Violated.{Violated}
use Rattle.check_lines.specs.Lines.{moment, bare_violated, full_violated, bare_reason, full_reason}
use Rattle.check_lines.specs.Numbers.{placed_text, failure_of, source_of, violation_of}

module _ (s t : Text) (m n : ℕ) (a : length s ≤ m) (b : length t ≤ n) where
  app : length (s ++ t) ≤ m + n
  app = omega (arith, length-append s t)

-- ---- the parts of a line

source_short : (s : Option Source) → length (placed_if s) ≤ 41
unfolding placed_if placed
source_short none = omega arith
source_short (some s) = omega (
  arith,
  length-append (decimal s.line) (58 ∷ decimal s.column),
  digits.at_most s.line,
  digits.at_most s.column,
)

message_short : (e : Failure) → length (message e) ≤ 45
unfolding message
message_short prohibited_state = omega arith
message_short guard_violated = omega arith
message_short forbidden_transition = omega arith
message_short (deadline_missed d) = app (text "response deadline ") (decimal d ++ text " missed") 18 27 (omega arith)
    (app (decimal d) (text " missed") 20 7 (digits.at_most d) (omega arith))

moment_short : (s i : ℕ) → length (moment s i) ≤ 43
unfolding moment
moment_short s i = omega (
  arith,
  length-append (decimal s) (32 ∷ (decimal i ++ (32 ∷ []))),
  length-append (decimal i) (32 ∷ []),
  digits.at_most s,
  digits.at_most i,
)

-- ---- the lines, over a file f of bytes

module _ (f : List ℕ) (bytes : (i : ℕ) → get_or f i 0 < 256) where
  text_short : (k : ℕ) → length (placed_text f k) ≤ 255
  unfolding placed_text
  text_short k = omega (arith, texts.length_byte f (start_from f 6 (at_most k 65535)), bytes (start_from f 6 (at_most k 65535)))

  module _ (v : Violated) where
    pub bare_short : length (bare_violated (violation_of f v)) ≤ 4096
    unfolding bare_violated violation_of
    bare_short =
        let s = source_of v.sourced v.line v.column in
        let t₁ : Text = placed_if s ++ newline in
        let t₂ : Text = moment v.second v.index ++ t₁ in
        let t₃ : Text = placed_text f v.place ++ t₂ in
        let l₁ = app (placed_if s) newline 41 1 (source_short s) (omega arith) in
        let l₂ = app (moment v.second v.index) t₁ 43 42 (moment_short v.second v.index) l₁ in
        let l₃ = app (placed_text f v.place) t₂ 255 85 (text_short v.place) l₂ in
        let l = app (text "violated ") t₃ 9 340 (omega arith) l₃ in
        omega (arith, l)

    pub full_short : length (full_violated (violation_of f v)) ≤ 4096
    unfolding full_violated violation_of
    full_short =
        let s = source_of v.sourced v.line v.column in
        let e = failure_of v.failure v.deadline in
        let q : length (quoted (message e)) ≤ 92 = omega (arith, show.length_quoted (message e), message_short e) in
        let i : length (quoted (placed_text f v.place)) ≤ 512 =
        omega (arith, show.length_quoted (placed_text f v.place), text_short v.place) in
        let t₁ : Text = quoted (message e) ++ newline in
        let t₂ : Text = placed_if s ++ (32 ∷ t₁) in
        let t₃ : Text = moment v.second v.index ++ t₂ in
        let t₄ : Text = quoted (placed_text f v.place) ++ t₃ in
        let l₁ = app (quoted (message e)) newline 92 1 q (omega arith) in
        let l₂ = app (placed_if s) (32 ∷ t₁) 41 94 (source_short s) (omega (arith, l₁)) in
        let l₃ = app (moment v.second v.index) t₂ 43 135 (moment_short v.second v.index) l₂ in
        let l₄ = app (quoted (placed_text f v.place)) t₃ 512 178 i l₃ in
        let l = app (text "violated ") t₄ 9 690 (omega arith) l₄ in
        omega (arith, l)

-- a reason is rendered in fewer than 809 bytes (`reasons::rendered_len`)
module _ (f : List ℕ) (r : Reason) (word : Text) (few : length word ≤ 10) (short : length (render f r) < 809) where
  pub bare_reason_short : length (bare_reason word (render f r)) ≤ 4096
  unfolding bare_reason
  bare_reason_short = omega (arith, length-append word (32 ∷ (render f r ++ newline)), length-append (render f r) newline)

  pub full_reason_short : length (full_reason word (render f r)) ≤ 4096
  unfolding text_line
  full_reason_short = omega (
    arith,
    length-append word (32 ∷ (quoted (render f r) ++ newline)),
    length-append (quoted (render f r)) newline,
    show.length_quoted (render f r),
  )
