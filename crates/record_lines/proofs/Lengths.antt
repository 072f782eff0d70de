-- No record's line is longer than the room that is made for it, 4,096 bytes, however its texts are escaped.
use Rattle.std.specs.Prelude.{if◌then◌else◌, Option, Some, None}
use mathlib.Core.Path.{ap}
use mathlib.Core.Bool.{Bool, true, false}
use mathlib.Core.Logic.{⊎_elim}
use mathlib.Core.List.{List, ◌∷◌, ◌++◌}
use Prim.Native.Nat.{ℕ, ◌+◌, ◌≤◌, ◌<◌}
use native.Mathlib.Omega.{arith}
use lib.Dec.{eqb}
use lib.ListN.{length, get_or}
use Rattle.texts.specs.Texts.{Text, text, decimal}
use Rattle.texts.specs.Places.{all_places}
use Rattle.texts.proofs.Ordering.{lt_or_ge}
use Rattle.reasons.proofs.Digits as digits
use Rattle.records.specs.declared.Source.{Source}
use Rattle.records.specs.declared.Write.{Write}
use Rattle.records.specs.declared.Record.{Record}
use Rattle.engine_spec.specs.Kleene as kleene
use Rattle.engine_spec.specs.Truth.{truth_name}
use Rattle.engine_spec.specs.Records.{kind_name, detail}
use Rattle.engine_refinement.specs.Meaning.{verdict_of, id_at, kind_of, rule_of, where_of, change_of, record_of}
use Rattle.show.specs.Lines.{newline, quoted, source}
use Rattle.show.proofs.Laws as show
use Rattle.simulate_lines.specs.FileTexts.{texts_of, text_of}
use Rattle.record_lines.specs.Lines.{quoted_if, placed_if, changed, record_line}
use Rattle.record_lines.specs.RecordWords.{name_of, detail_begins, detail_ends}
use Rattle.simulate_lines.proofs.Lengths.{app, glue, quoted_short}
use Rattle.record_lines.proofs.Numbers.{each, ◌and◌, name_out, name_is, detail_known, detail_text}

-- ---- a kind's words

name_short : (k : ℕ) → length (name_of k) ≤ 9
unfolding name_of all_places
name_short k =
    ⊎_elim
    (λ h. each (λ (k : ℕ). length (name_of k) ≤ 9) 18 0
    (omega arith and omega arith and omega arith and omega arith and omega arith and omega arith and omega arith and
    omega arith and omega arith and omega arith and omega arith and omega arith and omega arith and omega arith and
    omega arith and omega arith and omega arith and omega arith and tt) k (omega arith) h)
    (λ h. omega (arith, ap length (name_out k h)))
    (lt_or_ge k 18)

begins_short : (k : ℕ) → k < 18 → length (detail_begins k) ≤ 38
unfolding detail_begins all_places
begins_short k h = each (λ (k : ℕ). length (detail_begins k) ≤ 38) 18 0
    (omega arith and omega arith and omega arith and omega arith and omega arith and omega arith and omega arith and
    omega arith and omega arith and omega arith and omega arith and omega arith and omega arith and omega arith and
    omega arith and omega arith and omega arith and omega arith and tt) k (omega arith) h

verdict_short : (v : kleene.Truth) → length (truth_name v) ≤ 28
unfolding truth_name
verdict_short kleene.Yes = omega arith
verdict_short kleene.No = omega arith
verdict_short kleene.Unknown = omega arith

flag_short : (b : Bool) → length (if b then text "true" else text "false") ≤ 28
flag_short true = omega arith
flag_short false = omega arith

ends_short : (d k : ℕ) → k < 18 → length (detail_ends k d) ≤ 28
unfolding detail_ends
ends_short d k h =
    let v = verdict_short (verdict_of d) in
    let n : length (decimal d) ≤ 28 = omega (arith, digits.at_most d) in
    let s : length (decimal d ++ text " seconds") ≤ 28 =
    app (decimal d) (text " seconds") 20 8 (digits.at_most d) (omega arith) in
    each (λ (k : ℕ). length (detail_ends k d) ≤ 28) 18 0
    (omega arith and omega arith and omega arith and omega arith and omega arith and omega arith and omega arith and
    omega arith and omega arith and omega arith and v and v and n and n and n and s and n and flag_short (eqb d 1)
    and tt) k (omega arith) h

-- ---- the parts of a line, over a file f of bytes

module _ (f : List ℕ) (bytes : (i : ℕ) → get_or f i 0 < 256) (x : List ℕ) where
  rule_short : (r : Option ℕ) → length (quoted_if (rule_of x (texts_of f x) r)) ≤ 512
  unfolding quoted_if id_at
  rule_short None = omega arith
  rule_short (Some i) = quoted_short f bytes x _

  where_short : (w : Option Source) → length (placed_if (where_of w)) ≤ 41
  unfolding placed_if source
  where_short None = omega arith
  where_short (Some s) = show.length_source (Some (s.line, s.column))

  change_short : (c : Option Write) → length (changed (change_of x (texts_of f x) c)) ≤ 1538
  unfolding changed
  change_short None = omega arith
  change_short (Some w) = glue (quoted (text_of f x w.entity)) _ 512 1025 (quoted_short f bytes x w.entity)
      (glue (quoted (text_of f x w.before)) _ 512 512 (quoted_short f bytes x w.before) (quoted_short f bytes x w.after))

  detail_short : (k d : ℕ) → length (quoted (detail (kind_of x (texts_of f x) k d))) ≤ 512
  detail_short k d =
      let ts : List Text = texts_of f x in
      ⊎_elim
      (λ h.
      let l = app (detail_begins k) (detail_ends k d) 38 28 (begins_short k h) (ends_short d k h) in
      omega (arith, show.length_quoted (detail (kind_of x ts k d)), ap length (detail_known x ts d k h), l))
      (λ h. omega (arith, ap length (detail_text x ts k d h), quoted_short f bytes x d))
      (lt_or_ge k 18)

  pub record_short : (k : ℕ) (r : Record) → length (record_line k (record_of x (texts_of f x) r)) ≤ 4096
  unfolding record_line record_of
  record_short k r =
      let ts : List Text = texts_of f x in
      let n : length (kind_name (kind_of x ts r.kind r.detail)) ≤ 9 =
      omega (arith, ap length (name_is x ts r.kind r.detail), name_short r.kind) in
      let y = kind_of x ts r.kind r.detail in
      let t₁ : Text = quoted (detail y) ++ newline in
      let t₂ : Text = changed (change_of x ts r.change) ++ (32 ∷ t₁) in
      let t₃ : Text = placed_if (where_of r.source) ++ (32 ∷ t₂) in
      let t₄ : Text = quoted_if (rule_of x ts r.rule) ++ (32 ∷ t₃) in
      let t₅ : Text = kind_name y ++ (32 ∷ t₄) in
      let t₆ : Text = decimal r.second ++ (32 ∷ t₅) in
      let t₇ : Text = decimal k ++ (32 ∷ t₆) in
      let l₁ = app (quoted (detail y)) newline 512 1 (detail_short r.kind r.detail) (omega arith) in
      let l₂ = glue (changed (change_of x ts r.change)) t₁ 1538 513 (change_short r.change) l₁ in
      let l₃ = glue (placed_if (where_of r.source)) t₂ 41 2052 (where_short r.source) l₂ in
      let l₄ = glue (quoted_if (rule_of x ts r.rule)) t₃ 512 2094 (rule_short r.rule) l₃ in
      let l₅ = glue (kind_name y) t₄ 9 2607 n l₄ in
      let l₆ = glue (decimal r.second) t₅ 20 2617 (digits.at_most r.second) l₅ in
      let l₇ = glue (decimal k) t₆ 20 2638 (digits.at_most k) l₆ in
      let l = app (text "record ") t₇ 7 2659 (omega arith) l₇ in
      omega (arith, l)
