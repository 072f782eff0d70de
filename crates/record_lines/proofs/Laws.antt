-- A record's line, put together from its parts.
use mathlib.Core.Path.{◌≡◌, refl, sym, ap, ◌∙◌}
use mathlib.Core.List.{List, [], ◌∷◌, ◌++◌, append_assoc}
use Prim.Native.Nat.{ℕ, ◌+◌, ◌*◌, ◌≤◌, ◌<◌}
use native.Mathlib.Nat.{add-zero}
use native.Mathlib.Omega.{arith}
use borrow.Author.Tests.{ne_eqb, lt-ltb, le-ltb}
use lib.ListN.{length, get_or, get_or-eq_default}
use Rattle.texts.specs.Texts.{Text, text, decimal}
use Rattle.records.specs.declared.Source.{Source}
use Rattle.records.specs.declared.Write.{Write}
use Rattle.std.specs.Prelude.{Option, Some, None}
use Rattle.records.specs.declared.Record.{Record}
use Rattle.engine_spec.specs.Truth.{truth_name}
use Rattle.engine_spec.specs.Records.{detail}
use Rattle.engine_fields.specs.Fields.{word}
use Rattle.engine_refinement.specs.Meaning.{verdict_of, id_at, kind_of, rule_of, where_of, change_of, record_of}
use Rattle.show.specs.Lines.{newline, quoted, dash, source}
use Rattle.record_lines.specs.Lines.{quoted_if, placed_if, changed, record_line}
use Rattle.record_lines.specs.RecordWords.{name_of, detail_ends}
use Rattle.record_lines.proofs.Numbers.{name_is}

-- ---- the parts of a record's line

pub word_past : (x : List ℕ) (k : ℕ) → length x ≤ k → 0 ≡ get_or x k 0
word_past x k h = sym (get_or-eq_default x 0 h)

pub id_is : (x : List ℕ) (i r : ℕ) → r ≡ get_or x (80 + i * 8) 0 → r ≡ word x i 0
id_is x i r e = e ∙ ap (λ (j : ℕ). get_or x j 0) (sym (add-zero (80 + i * 8)))

module _ (x : List ℕ) (ts : List Text) where
  pub no_rule : (r : Option ℕ) → r ≡ None → dash ≡ quoted_if (rule_of x ts r)
  unfolding quoted_if
  no_rule r e = rw e

  pub some_rule : (r : Option ℕ) (i p : ℕ) → r ≡ Some i → p ≡ word x i 0 → quoted (get_or ts p []) ≡ quoted_if (rule_of x ts r)
  unfolding quoted_if id_at
  some_rule r i p e h = rw (e, h)

  pub no_change : (c : Option Write) → c ≡ None → text "- - -" ≡ changed (change_of x ts c)
  unfolding changed
  no_change c e = rw e

  pub some_change : (c : Option Write) (w : Write) → c ≡ Some w →
      quoted (get_or ts w.entity []) ++ (32 ∷ (quoted (get_or ts w.before []) ++ (32 ∷ quoted (get_or ts w.after []))))
      ≡ changed (change_of x ts c)
  unfolding changed
  some_change c w h = rw h

pub nowhere : (s : Option Source) → s ≡ None → dash ≡ placed_if (where_of s)
unfolding placed_if
nowhere s e = rw e

pub somewhere : (s : Option Source) (p : Source) → s ≡ Some p → source (Some (p.line, p.column)) ≡ placed_if (where_of s)
unfolding placed_if source
somewhere s p e = rw e

-- ---- a verdict, a flag, the end of a detail

module _ (d : ℕ) where
  pub yes : d ≡ 0 → text "Yes" ≡ truth_name (verdict_of d)
  unfolding truth_name verdict_of
  yes e = rw e

  pub no : d ≡ 1 → text "No" ≡ truth_name (verdict_of d)
  unfolding truth_name verdict_of
  no e = rw e

  pub neither : (d ≡ 0 → ⊥) → (d ≡ 1 → ⊥) → text "Unknown" ≡ truth_name (verdict_of d)
  unfolding truth_name verdict_of
  neither a b = rw (ne_eqb d 0 a, ne_eqb d 1 b)

  pub on : d ≡ 1 → text "true" ≡ detail_ends 17 d
  unfolding detail_ends
  on e = rw e

  pub off : (d ≡ 1 → ⊥) → text "false" ≡ detail_ends 17 d
  unfolding detail_ends
  off e = rw (ne_eqb d 1 e)

  pub seconds : decimal d ++ text " seconds" ≡ detail_ends 15 d
  unfolding detail_ends
  seconds = refl

  module _ (k : ℕ) where
    pub fixed : k < 10 → [] ≡ detail_ends k d
    unfolding detail_ends
    fixed h = rw (lt-ltb k 10 h)

    pub verdict : 10 ≤ k → k < 12 → truth_name (verdict_of d) ≡ detail_ends k d
    unfolding detail_ends
    verdict g h = rw (le-ltb k 10 g, lt-ltb k 12 h)

    pub delayed : k ≡ 15 → detail_ends 15 d ≡ detail_ends k d
    delayed e = rw e

    pub timed_out : k ≡ 17 → detail_ends 17 d ≡ detail_ends k d
    timed_out e = rw e

    pub number : 12 ≤ k → (k ≡ 15 → ⊥) → (k ≡ 17 → ⊥) → decimal d ≡ detail_ends k d
    unfolding detail_ends
    number h a b = rw (le-ltb k 10 (omega arith), le-ltb k 12 h, ne_eqb k 15 a, ne_eqb k 17 b)

-- ---- a record's line

-- a head of six parts in front of the rest
head_is : (k s : ℕ) (n rest : Text) →
    (text "record " ++ (decimal k ++ (32 ∷ (decimal s ++ (32 ∷ (n ++ (32 ∷ []))))))) ++ rest
    ≡ text "record " ++ (decimal k ++ (32 ∷ (decimal s ++ (32 ∷ (n ++ (32 ∷ rest))))))
head_is k s n rest = simp append_assoc

pub record_is : (x : List ℕ) (ts : List Text) (k : ℕ) (r : Record) →
    (text "record " ++ (decimal k ++ (32 ∷ (decimal r.second ++ (32 ∷ (name_of r.kind ++ (32 ∷ [])))))))
    ++ (quoted_if (rule_of x ts r.rule)
    ++ (32 ∷ (placed_if (where_of r.source)
    ++ (32 ∷ (changed (change_of x ts r.change)
    ++ (32 ∷ (quoted (detail (kind_of x ts r.kind r.detail)) ++ newline)))))))
    ≡ record_line k (record_of x ts r)
unfolding record_line record_of
record_is x ts k r = head_is k r.second (name_of r.kind) _ ∙ rw (name_is x ts r.kind r.detail)
