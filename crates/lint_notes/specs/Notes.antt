-- The notes of each automation as findings, on places.
use Rattle.std.specs.Prelude.{ℕ, zero, suc, ◌+◌, ◌*◌, ◌^◌, ◌≡◌, List, [], ◌∷◌, get_or}
use Rattle.std.specs.Int.Bits.{bit_or}
use Rattle.layout.specs.Sizes.{simulation_reasons}
use Rattle.bounds.specs.Bounds.{AtMost}
use Rattle.model_parts.specs.declared.Section.{Section}
use Rattle.reasons.specs.Readable.{HasText}
use Rattle.reasons.specs.Lists.{listed, Clean}
use Rattle.engine_fields.specs.Fields.{cap, word}
use Rattle.engine_unsupported.specs.Listing.{rule_m}
use Rattle.lint_walk.specs.Raw.{place_m, number_m, past, triggers_m, conditions_m, actions_m}
use Rattle.lint_walk.specs.Walks.{walk_m}
use Rattle.lint_areas.specs.Areas.{Item, finding, Board, pushes}
use Rattle.lint_findings.specs.Entries.{items_numbers_m}

-- the words of the j-th reason's finding
unfoldable pub note_m : (set line column : ℕ) → (reasons : List ℕ) → (j : ℕ) → List ℕ
note_m set line column u j =
    9 ∷ 2 ∷ 5 ∷ 0 ∷ set ∷ line ∷ column ∷ 0 ∷ 0 ∷ get_or u (5 * j) 0 ∷ get_or u (5 * j + 1) 0 ∷ get_or u (5 * j + 2) 0 ∷ get_or u
    (5 * j + 3) 0 ∷ get_or u (5 * j + 4) 0 ∷ []

unfoldable pub note_items : (set line column : ℕ) → (reasons : List ℕ) → (count : ℕ) → List Item
note_items set line column u n = items_numbers_m (λ j. finding (note_m set line column u j) ∷ []) n 0

-- the first row of the table x is the automation at p, whose source stands at q
pub record RowOf (s : List ℕ) (p q : ℕ) (x : List ℕ) : Type 0 where
  pub id : word x 0 0 ≡ place_m s p
  pub triggers : word x 0 3 ≡ cap (triggers_m s p)
  pub conditions : word x 0 4 ≡ cap (conditions_m s p)
  pub actions : word x 0 5 ≡ cap (actions_m s p)
  pub notes : word x 0 7 ≡ cap (past s q 8)

-- the findings of the i-th automation's notes, whose reasons the listing gives, make c of b
pub record RuleNotes (s : List ℕ) (rules : Section) (i : ℕ) (b c : Board) : Type 0 where
  pub row : List ℕ
  pub reasons : List ℕ
  pub many : ℕ
  pub count : ℕ
  pub is_row : RowOf s (get_or rules.starts i 0) (walk_m s (get_or rules.starts i 0)).next row
  pub are_reasons : listed s many reasons ≡ rule_m s row 0 []
  pub clean : HasText s → Clean s many reasons
  pub counts : AtMost many simulation_reasons count
  pub inserted : c ≡ pushes (note_items (bit_or 0 (2 ^ i)) (number_m s (walk_m s (get_or rules.starts i 0)).next)
      (number_m s (past s (walk_m s (get_or rules.starts i 0)).next 4)) reasons count) b

-- the i-th automation stands at p
abbrev pub NotesAt : (s : List ℕ) → (p i : ℕ) → (b c : Board) → Type 0
NotesAt s p i b c = (rules : Section) → p ≡ get_or rules.starts i 0 → RuleNotes s rules i b c

-- those of `left` automations from the i-th on
pub data AllNotes (s : List ℕ) (rules : Section) : (left i : ℕ) → Board → Board → Type 0 where
  no_notes : {i : ℕ} {b : Board} → AllNotes s rules zero i b b
  more_notes : {left i : ℕ} {b c e : Board} → RuleNotes s rules i b c → AllNotes s rules left (i + 1) c e →
      AllNotes s rules (suc left) i b e
