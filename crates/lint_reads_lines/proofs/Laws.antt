-- The lines on what is read and written, put together from their parts.
use Rattle.std.specs.Prelude.{if◌then◌else◌}
use mathlib.Core.Path.{◌≡◌, refl, sym, ap, ◌∙◌}
use mathlib.Core.Bool.{Bool, true, false}
use mathlib.Core.List.{List, [], ◌∷◌, ◌++◌}
use Prim.Native.Nat.{ℕ, ◌+◌, ◌-◌, ◌≤◌, ◌<◌}
use native.Mathlib.Omega.{arith}
use borrow.Author.Tests.{lt-ltb, le-ltb, le-leb, lt-leb, eq-eqb, ne_eqb}
use lib.Dec.{ltb, eqb}
use lib.ListN.{length, get_or}
use Rattle.texts.specs.Lists.{each, through}
use Rattle.texts.specs.Texts.{Text, text, decimal}
use Rattle.texts.specs.Places.{text_at, start_from}
use Rattle.model_parts.specs.declared.Section.{Section}
use Rattle.model_index.specs.declared.Index.{Index}
use Rattle.lint_spec.specs.Reach.{places}
use Rattle.lint_reach.specs.Sets.{members}
use Rattle.lint_entry.specs.declared.Report.{Report}
use Rattle.show.specs.Lines.{newline, quoted}
use Rattle.lint_words.specs.Lines.{spaced, listed, quoted_list}
use Rattle.lint_words.specs.Numbers.{placed_text, name_place, name_of, names_of}
use Rattle.lint_reads_lines.specs.Lines.{touched_line}
use Rattle.lint_reads_lines.specs.Numbers.{
  set_at,
  behind,
  lesser,
  least_from,
  ascending,
  is_read,
  strange_places,
  read_places,
  reads_text,
  writes_text,
  better,
  rule_from,
  next_from,
  touched_text,
}
use Rattle.lint_words.proofs.Loops.{from_on}
use Rattle.lint_words.proofs.Laws.{each_each, counted}
use Rattle.lint_reads_lines.proofs.Loops.{through_append}

-- ---- the text at a place

pub none_at : (p : ℕ) (t : Text) → 65535 < p → [] ≡ (if ltb 65535 p then [] else t)
none_at p t h = rw (lt-ltb 65535 p h)

pub some_at : (p : ℕ) (t : Text) → p ≤ 65535 → t ≡ (if ltb 65535 p then [] else t)
some_at p t h = rw (le-ltb 65535 p h)

pub quoted_place : (f : List ℕ) (p at : ℕ) → at ≡ start_from f 6 p → quoted (text_at f at) ≡ quoted (placed_text f p)
unfolding placed_text
quoted_place f p at h = rw h

pub reads_listed : (f : List ℕ) (l : List ℕ) (k : ℕ) → k ≡ length l →
    decimal k ++ spaced (each (λ p. quoted (placed_text f p)) l) ≡ quoted_list (each (placed_text f) l)
unfolding quoted_list
reads_listed f l k e = counted (λ p. quoted (placed_text f p)) l k e ∙ ap listed (sym (each_each quoted (placed_text f) l))

-- ---- reads and writes

pub set_in : (l : List ℕ) (i : ℕ) → i < 32 → get_or l i 0 ≡ set_at l i
unfolding set_at
set_in l i h = rw (lt-ltb i 32 h)

pub set_out : (l : List ℕ) (i : ℕ) → 32 ≤ i → 0 ≡ set_at l i
unfolding set_at
set_out l i h = rw (le-ltb i 32 h)

module _ (from p b : ℕ) where
  pub lesser_before : p < from → b ≡ lesser from p b
  unfolding lesser
  lesser_before h = rw (lt-leb from p h)

  pub lesser_less : from ≤ p → p < b → p ≡ lesser from p b
  unfolding lesser
  lesser_less g h = rw (le-leb from p g, lt-ltb p b h)

  pub lesser_more : from ≤ p → b ≤ p → b ≡ lesser from p b
  unfolding lesser
  lesser_more g h = rw (le-leb from p g, le-ltb p b h)

pub behind_last : (p : ℕ) → 65535 < p → 65536 ≡ behind p
unfolding behind
behind_last p h = rw (lt-ltb 65535 p h)

pub behind_next : (p : ℕ) → p ≤ 65535 → p + 1 ≡ behind p
unfolding behind
behind_next p h = rw (le-ltb 65535 p h)

pub counted_none : (p k : ℕ) → 65535 < p → k ≡ (if ltb 65535 p then k else k + 1)
counted_none p k h = rw (lt-ltb 65535 p h)

pub counted_one : (p k : ℕ) → p ≤ 65535 → k + 1 ≡ (if ltb 65535 p then k else k + 1)
counted_one p k h = rw (le-ltb 65535 p h)

module _ (r : Report) (i k : ℕ) where
  pub read_is : (v : ℕ) → v ≡ get_or r.readers k 0 → k < r.undeclared → eqb v i ≡ is_read r i k
  unfolding is_read
  read_is v e h = rw (lt-ltb k r.undeclared h, e)

  pub not_read : r.undeclared ≤ k → false ≡ is_read r i k
  unfolding is_read
  not_read h = rw (le-ltb k r.undeclared h)

pub reads_line_is : (f : List ℕ) (x : Index) (r : Report) (i : ℕ) →
    text "reads " ++ (quoted
    (name_of f x.rules i) ++ (32 ∷ (quoted_list
    (each (placed_text f) (ascending 97 0 (read_places f x.entities r i))) ++ newline))) ≡ reads_text f x r i
unfolding reads_text touched_line
reads_line_is f x r i = refl

pub writes_line_is : (f : List ℕ) (x : Index) (r : Report) (i y : ℕ) → y ≡ set_at r.writes i →
    text "writes " ++ (quoted (name_of f x.rules i) ++ (32 ∷ (quoted_list (names_of f x.entities y) ++ newline)))
    ≡ writes_text f x r i
unfolding writes_text touched_line
writes_line_is f x r i y e = rw e

-- ---- automations by identifier

module _ (f : List ℕ) (s : Section) (from i found p : ℕ) (e : p ≡ name_place f s i) where
  pub better_before : p < from → found ≡ better f s from i found
  unfolding better
  better_before h = rw (← e, lt-ltb p from h)

  pub better_first : from ≤ p → found ≡ 32 → i ≡ better f s from i found
  unfolding better
  better_first g h = rw (← e, le-ltb p from g, eq-eqb found 32 h)

  pub better_less : (q : ℕ) → from ≤ p → (found ≡ 32 → ⊥) → q ≡ name_place f s found → p < q → i ≡ better f s from i found
  unfolding better
  better_less q g h d l = rw (← e, ← d, le-ltb p from g, ne_eqb found 32 h, lt-ltb p q l)

  pub better_more : (q : ℕ) → from ≤ p → (found ≡ 32 → ⊥) → q ≡ name_place f s found → q ≤ p →
      found ≡ better f s from i found
  unfolding better
  better_more q g h d l = rw (← e, ← d, le-ltb p from g, ne_eqb found 32 h, le-ltb p q l)

pub next_is : (f : List ℕ) (s : Section) (from i p q : ℕ) → i ≡ rule_from f s from → i < 32 → p ≡ name_place f s i →
    q ≡ behind p → q ≡ next_from f s from
unfolding next_from
next_is f s from i p q e h g k = rw (← e, lt-ltb i 32 h, ← g) k

pub next_none : (f : List ℕ) (s : Section) (from i : ℕ) → i ≡ rule_from f s from → 32 ≤ i → 65536 ≡ next_from f s from
unfolding next_from
next_none f s from i e h = rw (← e, le-ltb i 32 h)

module _ (f : List ℕ) (x : Index) (r : Report) (from : ℕ) (w : Bool) (i : ℕ) (e : i ≡ rule_from f x.rules from) where
  pub none_touched : i ≡ 32 → [] ≡ touched_text f x r from w
  unfolding touched_text
  none_touched h = rw (← e, eq-eqb i 32 h)

  pub writes_touched : (i ≡ 32 → ⊥) → w ≡ true → writes_text f x r i ≡ touched_text f x r from w
  unfolding touched_text
  writes_touched h g = rw (← e, ne_eqb i 32 h, g)

  pub reads_touched : (i ≡ 32 → ⊥) → w ≡ false → reads_text f x r i ≡ touched_text f x r from w
  unfolding touched_text
  reads_touched h g = rw (← e, ne_eqb i 32 h, g)

-- ---- the loops

pub rules_begin : (f : List ℕ) (s : Section) (from : ℕ) →
    rule_from f s from ≡ through (better f s from) (places (s.count - 0) 0) 32
unfolding rule_from
rules_begin f s from =
    let e : s.count ≡ s.count - 0 = omega arith in
    ap (λ (k : ℕ). through (better f s from) (places k 0) 32) e

pub next_best : (from v : ℕ) (l : List ℕ) (x p q : ℕ) → p ≡ x → q ≡ lesser from p v →
    through (lesser from) l (lesser from x v) ≡ through (lesser from) l q
next_best from v l x p q e h = ap (through (lesser from) l) (sym (h ∙ ap (λ (z : ℕ). lesser from z v) e))

pub strangers_begin : (r : Report) (i from v : ℕ) →
    through (lesser from) (strange_places r i) v ≡ through (lesser from)
    (each (λ j. get_or r.names j 0) (from_on 64 (is_read r i) 0)) v
unfolding strange_places
strangers_begin r i from v = refl

-- the names that an automation reads: the declared ones first
pub reads_are : (f : List ℕ) (s : Section) (r : Report) (i y from best q : ℕ) → y ≡ set_at r.reads i →
    best ≡ least_from from (each (name_place f s) (members y)) → q ≡ through (lesser from) (strange_places r i) best →
    q ≡ least_from from (read_places f s r i)
unfolding least_from read_places
reads_are f s r i y from best q e h g =
    g
    ∙ ap (through (lesser from) (strange_places r i))
    (h ∙ ap (λ (z : ℕ). through (lesser from) (each (name_place f s) (members z)) 65536) e)
    ∙ sym (through_append (lesser from) (each (name_place f s) (members (set_at r.reads i))) (strange_places r i) 65536)
