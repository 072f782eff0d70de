-- The lines, put together from their parts.
use mathlib.Core.Path.{◌≡◌, refl, ap}
use mathlib.Core.Logic.{⊎_elim}
use mathlib.Core.List.{List, [], ◌∷◌, ◌++◌, append_assoc}
use Prim.Native.Nat.{ℕ, zero, suc, ◌+◌, ◌/◌, ◌%◌}
use native.Mathlib.Omega.{arith}
use borrow.Author.Tests.{eq-eqb, ne_eqb}
use lib.ListN.{get_or, drop}
use lib.Seq.{get_or-drop}
use Rattle.texts.specs.Lists.{flat}
use Rattle.texts.specs.Texts.{Text, text, digits, decimal}
use Rattle.texts.specs.Places.{text_at, start_from}
use Rattle.texts.proofs.Ordering.{lt_or_ge}
use Rattle.reasons.specs.declared.Reason.{Reason}
use Rattle.reasons.specs.Reasons.{render, placed}
use Rattle.reasons.proofs.Digits as digits
use Rattle.bounds.specs.Bounds.{at_most}
use Rattle.checker_spec.specs.Judge.{message, deadline_missed}
use Rattle.show.specs.Lines.{newline, escape, quoted, dash, all_lines}
use Rattle.show.proofs.Laws as show
use Rattle.simulate_lines.specs.Lines.{text_line}
use Rattle.record_lines.specs.Lines.{placed_if}
use Rattle.simulate_lines.proofs.Laws.{flat_append}
use Rattle.check_lines.specs.declared.Violated.{Violated}
use Rattle.check_lines.specs.Lines.{moment, bare_violated, full_violated, bare_reason}
use Rattle.check_lines.specs.Numbers.{violated_of, placed_text, failure_of, source_of, violation_of}

-- ---- the numbers of a violation

pub violated_is : (a : List ℕ) (at : ℕ) → record {
  place = get_or a at 0;
  second = get_or a (at + 1) 0;
  index =
      get_or a (at + 2) 0;
  failure = get_or a (at + 3) 0;
  deadline = get_or a (at + 4) 0;
  sourced = get_or a (at + 5) 0;
  line =
      get_or a (at + 6) 0;
  column = get_or a (at + 7) 0;
} ≡ violated_of (drop at a)
unfolding violated_of
violated_is a at =
    let e : at + 0 ≡ at = omega arith in
    rw (
      get_or-drop at a 0 0,
      get_or-drop at a 1 0,
      get_or-drop at a 2 0,
      get_or-drop at a 3 0,
      get_or-drop at a 4 0,
      get_or-drop at a 5 0,
      get_or-drop at a 6 0,
      get_or-drop at a 7 0,
      e,
    )

-- ---- the parts of a violation's line

pub identifier_is : (f : List ℕ) (place q at : ℕ) → q ≡ at_most place 65535 → at ≡ start_from f 6 q →
    text_at f at ≡ placed_text f place
unfolding placed_text
identifier_is f place q at e h = rw (h, e)

pub quoted_is : (f : List ℕ) (place q at : ℕ) → q ≡ at_most place 65535 → at ≡ start_from f 6 q →
    quoted (text_at f at) ≡ quoted (placed_text f place)
quoted_is f place q at e h = ap quoted (identifier_is f place q at e h)

pub moment_is : (s i : ℕ) → 32 ∷ (decimal s ++ (32 ∷ (decimal i ++ (32 ∷ [])))) ≡ moment s i
unfolding moment
moment_is s i = refl

module _ (s line column : ℕ) where
  pub nowhere : s ≡ 0 → dash ≡ placed_if (source_of s line column)
  unfolding placed_if source_of
  nowhere e = rw (eq-eqb s 0 e)

  pub somewhere : (s ≡ 0 → ⊥) → decimal line ++ (58 ∷ decimal column) ≡ placed_if (source_of s line column)
  unfolding placed_if source_of placed
  somewhere d = rw (ne_eqb s 0 d)

-- ---- messages: they have no quotes and no backslashes

plain_cons : (b : ℕ) (t : Text) → (b ≡ 34 → ⊥) → (b ≡ 92 → ⊥) → flat escape t ≡ t → flat escape (b ∷ t) ≡ b ∷ t
unfolding flat
plain_cons b t d e p = rw (← show.other b d e, p)

plain_digits : (f n : ℕ) (t : Text) → flat escape t ≡ t → flat escape (digits f n t) ≡ digits f n t
unfolding digits
plain_digits zero n t p = p
plain_digits (suc f) n t p =
    ⊎_elim
    (λ h. rw (digits.low f n t h) (plain_cons (48 + n) t (λ e. omega arith) (λ e. omega arith) p))
    (λ h. rw (digits.high f n t h) (plain_digits f (n / 10) ((48 + n % 10) ∷ t)
    (plain_cons (48 + n % 10) t (λ e. omega arith) (λ e. omega arith) p)))
    (lt_or_ge n 10)

plain_decimal : (n : ℕ) → flat escape (decimal n) ≡ decimal n
unfolding decimal flat
plain_decimal n = plain_digits 20 n [] refl

begins : flat escape (text "response deadline ") ≡ text "response deadline "
unfolding flat all_lines
begins = refl

ends : flat escape (text " missed") ≡ text " missed"
unfolding flat all_lines
ends = refl

-- three such texts between quotes
plain_between : (a b c : Text) → flat escape a ≡ a → flat escape b ≡ b → flat escape c ≡ c →
    34 ∷ (a ++ (b ++ (c ++ (34 ∷ [])))) ≡ 34 ∷ (flat escape (a ++ (b ++ c)) ++ (34 ∷ []))
plain_between a b c e g h = rw (flat_append escape a (b ++ c), flat_append escape b c, e, g, h) (simp append_assoc)

pub deadline_is : (d : ℕ) → text "\"response deadline " ++ (decimal d ++ text " missed\"")
    ≡ quoted (message (deadline_missed d))
unfolding quoted message
deadline_is d =
    plain_between (text "response deadline ") (decimal d) (text " missed") begins (plain_decimal d) ends

module _ (k d : ℕ) where
  pub prohibited : k ≡ 1 → quoted (text "prohibited state reached") ≡ quoted (message (failure_of k d))
  unfolding failure_of message
  prohibited e = rw e

  pub guarded : k ≡ 2 → quoted (text "action guard violated") ≡ quoted (message (failure_of k d))
  unfolding failure_of message
  guarded e = rw e

  pub forbidden : k ≡ 3 → quoted (text "forbidden transition") ≡ quoted (message (failure_of k d))
  unfolding failure_of message
  forbidden e = rw e

  pub late : (k ≡ 1 → ⊥) → (k ≡ 2 → ⊥) → (k ≡ 3 → ⊥) →
      quoted (message (deadline_missed d)) ≡ quoted (message (failure_of k d))
  unfolding failure_of
  late a b c = rw (ne_eqb k 1 a, ne_eqb k 2 b, ne_eqb k 3 c)

-- ---- the lines

module _ (f : List ℕ) (v : Violated) where
  pub bare_is : text
      "violated " ++ (placed_text f v.place ++ (moment v.second
      v.index ++ (placed_if (source_of v.sourced v.line v.column) ++ newline)))
      ≡ bare_violated (violation_of f v)
  unfolding bare_violated violation_of
  bare_is = refl

  pub full_is : text
      "violated " ++ (quoted (placed_text f v.place) ++ (moment v.second
      v.index ++ (placed_if (source_of v.sourced v.line
      v.column) ++ (32 ∷ (quoted (message (failure_of v.failure v.deadline)) ++ newline)))))
      ≡ full_violated (violation_of f v)
  unfolding full_violated violation_of
  full_is = refl

module _ (w : Text) (f : List ℕ) (q r : Reason) where
  pub bare_reason_is : q ≡ r → w ++ (32 ∷ (render f q ++ newline)) ≡ bare_reason w (render f r)
  unfolding bare_reason
  bare_reason_is e = rw e

  pub full_reason_is : q ≡ r → w ++ (32 ∷ (quoted (render f q) ++ newline)) ≡ text_line w (render f r)
  unfolding text_line
  full_reason_is e = rw e
