-- The lines, put together from their parts.
use mathlib.Core.Path.{◌≡◌, refl, sym, ap, ◌∙◌}
use mathlib.Core.List.{List, [], ◌∷◌, ◌++◌, append-nil}
use Prim.Native.Nat.{ℕ, ◌+◌, ◌-◌, ◌*◌, ◌/◌, ◌≤◌, ◌<◌}
use native.Mathlib.Omega.{arith}
use borrow.Author.Tests.{lt-ltb, le-ltb, eq-eqb, ne_eqb}
use lib.Count.{ones}
use lib.ListN.{length, get_or, take, drop, length-drop}
use lib.Seq.{length-take-le}
use Rattle.texts.specs.Lists.{each, flat}
use Rattle.texts.specs.Texts.{Text, text, digits, decimal}
use Rattle.reasons.specs.declared.Reason.{Reason}
use Rattle.reasons.specs.Reasons.{render, placed}
use Rattle.model_spec.specs.Model.{Source}
use Rattle.model_parts.specs.declared.Section.{Section}
use Rattle.model_index.specs.declared.Index.{Index}
use Rattle.lint_spec.specs.Findings.{code_name, message}
use Rattle.lint_reach.specs.Sets.{members}
use Rattle.lint_walk.specs.Raw.{number_m, past}
use Rattle.lint_walk.specs.Walks.{walk_m}
use Rattle.lint_entry.specs.declared.Report.{Report}
use Rattle.std.specs.Prelude.{Some}
use Rattle.show.specs.Lines.{newline, quoted, source}
use Rattle.lint_words.specs.Lines.{spaced, listed, quoted_list}
use Rattle.lint_words.specs.Numbers.{start_at, name_of, names_of, problem_of, certainty_of, tier_of}
use Rattle.lint_lines.specs.Lines.{
  source_list,
  kind_part,
  places_part,
  counts_line,
  finding_line,
  interaction_line,
  component_line,
}
use Rattle.lint_lines.specs.Numbers.{
  source_at,
  rule_source,
  note_reason_of,
  sources_of,
  finding_of,
  finding_text,
  finding_at,
  interaction_of,
  interaction_at,
  component_at,
}
use Rattle.lint_words.proofs.Laws.{each_each, counted, many}

-- ---- sources

pub sources_listed : (f : List ℕ) (s : Section) (x k : ℕ) → k ≡ ones x → x < 4294967296 →
    decimal k ++ spaced (each (λ i. placed (rule_source f s i).line (rule_source f s i).column) (members x))
    ≡ source_list (each (rule_source f s) (members x))
unfolding source_list
sources_listed f s x k e small =
    counted (λ i. placed (rule_source f s i).line (rule_source f s i).column) (members x) k (many x k e small)
    ∙ ap listed (sym (each_each (λ (q : Source). placed q.line q.column) (rule_source f s) (members x)))

pub rule_placed : (f : List ℕ) (s : Section) (i p w line q column : ℕ) → p ≡ start_at s i → w ≡ (walk_m f p).next →
    line ≡ number_m f w → q ≡ past f w 4 → column ≡ number_m f q →
    32 ∷ placed line column ≡ 32 ∷ placed (rule_source f s i).line (rule_source f s i).column
unfolding rule_source source_at
rule_placed f s i p w line q column a b c d e = rw (c, e, d, b, a)

pub placed_is : (line column : ℕ) → source (Some (line, column)) ≡ placed line column
unfolding source
placed_is line column = refl

decimal_1 : decimal 1 ≡ 49 ∷ []
unfolding decimal digits
decimal_1 = refl

decimal_2 : decimal 2 ≡ 50 ∷ []
unfolding decimal digits
decimal_2 = refl

list_one : (a : Source) → 49 ∷ (32 ∷ placed a.line a.column) ≡ source_list (a ∷ [])
unfolding source_list listed spaced each flat
list_one a = rw (decimal_1, append-nil (placed a.line a.column))

list_two : (a b : Source) → 50 ∷ ((32 ∷ placed a.line a.column) ++ (32 ∷ placed b.line b.column))
    ≡ source_list (a ∷ b ∷ [])
unfolding source_list listed spaced each flat
list_two a b = rw (decimal_2, append-nil (placed b.line b.column))

module _ (f : List ℕ) (s : Section) (w : List ℕ) where
  pub cycle_sources : get_or w 0 0 ≡ 5 → source_list (each (rule_source f s) (members (get_or w 4 0)))
      ≡ source_list (sources_of f s w)
  unfolding sources_of
  cycle_sources e = rw (eq-eqb (get_or w 0 0) 5 e)

  pub two_sources : (get_or w 0 0 ≡ 5 → ⊥) → get_or w 0 0 ≡ 8 →
      50 ∷ ((32 ∷ placed (get_or w 5 0) (get_or w 6 0)) ++ (32 ∷ placed (get_or w 7 0) (get_or w 8 0)))
      ≡ source_list (sources_of f s w)
  unfolding sources_of
  two_sources d e = rw (ne_eqb (get_or w 0 0) 5 d, eq-eqb (get_or w 0 0) 8 e)
      (list_two (record { line = get_or w 5 0; column = get_or w 6 0 }) (record { line = get_or w 7 0; column = get_or w 8 0 }))

  pub one_source : (get_or w 0 0 ≡ 5 → ⊥) → (get_or w 0 0 ≡ 8 → ⊥) →
      49 ∷ (32 ∷ placed (get_or w 5 0) (get_or w 6 0)) ≡ source_list (sources_of f s w)
  unfolding sources_of
  one_source d e = rw (ne_eqb (get_or w 0 0) 5 d, ne_eqb (get_or w 0 0) 8 e)
      (list_one (record { line = get_or w 5 0; column = get_or w 6 0 }))

-- ---- lines

pub kind_is : (x c t : Text) → text "finding " ++ (x ++ (32 ∷ (c ++ (32 ∷ (t ++ (32 ∷ [])))))) ≡ kind_part x c t
unfolding kind_part
kind_is x c t = refl

pub places_are : (l : List Text) (s : List Source) →
    text " automations " ++ (quoted_list l ++ (text " sources " ++ (source_list s ++ newline))) ≡ places_part l s
unfolding places_part
places_are l s = refl

pub note_is : (w : List ℕ) → record {
  kind = get_or w 9 0;
  first = get_or w 10 0;
  second = get_or w 11 0;
  line = get_or w 12 0;
  column = get_or w 13 0;
} ≡ note_reason_of w
unfolding note_reason_of
note_is w = refl

pub finding_is : (f : List ℕ) (i : Index) (w : List ℕ) (e : ℕ) (r : Reason) → e ≡ get_or w 3 0 → r ≡ note_reason_of w →
    kind_part (code_name (problem_of (name_of f i.entities (get_or w 3 0)) (render f (note_reason_of w)) (get_or w 0 0)))
    (certainty_of (get_or w 1 0)) (tier_of (get_or w 2 0))
    ++ (quoted (message (problem_of (name_of f i.entities e) (render f r) (get_or w 0 0))) ++ places_part
    (names_of f i.rules (get_or w 4 0)) (sources_of f i.rules w))
    ≡ finding_text f i w
unfolding finding_text finding_line finding_of
finding_is f i w e r g h = rw (g, h)

module _ (f : List ℕ) (i : Index) (a : List ℕ) (k : ℕ) where
  pub no_finding : length a / 14 ≤ k → [] ≡ finding_at f i a k
  unfolding finding_at
  no_finding h = rw (le-ltb k (length a / 14) h)

  pub finding_there : (from end : ℕ) → k < length a / 14 → from ≡ 14 * k → end ≡ from + 14 →
      finding_text f i (take (end - from) (drop from a)) ≡ finding_at f i a k
  unfolding finding_at
  finding_there from end h e g =
      let z : end - from ≡ 14 = omega arith in
      rw (lt-ltb k (length a / 14) h, z, e)

  pub no_interaction : length a / 3 ≤ k → [] ≡ interaction_at f i a k
  unfolding interaction_at
  no_interaction h = rw (le-ltb k (length a / 3) h)

  pub interaction_there : (x y z : ℕ) → k < length a / 3 → x ≡ get_or a (3 * k) 0 → y ≡ get_or a (3 * k + 1) 0 →
      z ≡ get_or a (3 * k + 2) 0 → interaction_line (interaction_of f i x y z) ≡ interaction_at f i a k
  unfolding interaction_at
  interaction_there x y z h p q r = rw (lt-ltb k (length a / 3) h, p, q, r)

pub fourteen : (a : List ℕ) (from end : ℕ) → end ≡ from + 14 → end ≤ length a → 14 ≤ length (take (end - from) (drop from a))
fourteen a from end e h =
    let l : length (drop from a) ≡ length a - from = length-drop from a in
    omega (arith, length-take-le (end - from) (drop from a) (omega arith))

pub interaction_is : (f : List ℕ) (i : Index) (x y z : ℕ) →
    text "interaction " ++ (quoted (name_of f i.rules
    x) ++ (32 ∷ (quoted (name_of f i.rules y) ++ (32 ∷ (quoted (name_of f i.entities z) ++ newline)))))
    ≡ interaction_line (interaction_of f i x y z)
unfolding interaction_line interaction_of
interaction_is f i x y z = refl

pub component_is : (l : List Text) → text "component " ++ (quoted_list l ++ newline) ≡ component_line l
unfolding component_line
component_is l = refl

pub counts_are : (f i c : ℕ) →
    text "findings " ++ (decimal
    f ++ (text " interactions " ++ (decimal i ++ (text " components " ++ (decimal c ++ newline))))) ≡ counts_line f i c
unfolding counts_line
counts_are f i c = refl

module _ (f : List ℕ) (i : Index) (r : Report) (k : ℕ) where
  pub past_components : r.components ≤ k → [] ≡ component_at f i r k
  unfolding component_at
  past_components h = rw (le-ltb k r.components h)

  pub past_cycles : k < r.components → 32 ≤ k → [] ≡ component_at f i r k
  unfolding component_at
  past_cycles g h = rw (lt-ltb k r.components g, le-ltb k 32 h)

  pub component_there : k < r.components → k < 32 →
      component_line (names_of f i.rules (get_or r.cycles k 0)) ≡ component_at f i r k
  unfolding component_at
  component_there g h = rw (lt-ltb k r.components g, lt-ltb k 32 h)
