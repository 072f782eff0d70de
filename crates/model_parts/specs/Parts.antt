-- Walks over the parts that stand in a section, and a section: its count, and where its parts start.
use Rattle.std.specs.Prelude.{Some, None, ℕ, zero, suc, ◌+◌, List, ltb, eqb, set, replicate, if◌then◌else◌}
use Rattle.model_spec.specs.File.{got, broken, u8, u16, printable}
use Rattle.model_walk.specs.declared.Piece.TheVariants as piece
use Rattle.model_walk.specs.Walk.{Walk, ◌⨾◌, by, stop, staying, bytes_m, times_m, kind_m, place_m, pieces_m, predicate_m, actions_m}
use Rattle.model_parts.specs.declared.Part.{Part}
use Rattle.model_parts.specs.declared.Part.TheVariants as part
use Rattle.model_parts.specs.declared.Section.{Section}
use Rattle.model_parts.specs.declared.Extent.{Extent}

-- a byte from 32 to 126
abbrev pub letter_m : Walk
letter_m = by u8 (λ b. staying (printable b))

unfoldable pub text_m : Walk
text_m = by u8 (λ n. times_m n letter_m)

module _ (ts : ℕ) where
  unfoldable pub entity_m : Walk
  entity_m = place_m ts ⨾ pieces_m ts piece.Place ⨾ place_m ts ⨾ kind_m 4 ⨾ bytes_m 4

  unfoldable pub input_m : Walk
  input_m = by u8 (λ k. if eqb k 0 then place_m ts ⨾ place_m ts else staying (ltb k 3))

  unfoldable pub event_m : Walk
  event_m = bytes_m 4 ⨾ input_m

  -- what follows an invariant's kind and its identifier
  unfoldable pub condition_m : ℕ → Walk
  condition_m k =
      if eqb k 0 then pieces_m ts piece.Predicate
      else if eqb k 1 then (place_m ts ⨾ place_m ts) ⨾ pieces_m ts piece.Predicate
      else if eqb k 2 then (place_m ts ⨾ place_m ts) ⨾ place_m ts
      else if eqb k 3 then predicate_m ts ⨾ predicate_m ts ⨾ bytes_m 4
      else stop

  unfoldable pub invariant_m : Walk
  invariant_m = by u8 (λ k. place_m ts ⨾ condition_m k)

  unfoldable pub rule_m : Walk
  rule_m = place_m ts ⨾ kind_m 4 ⨾ bytes_m 4 ⨾ pieces_m ts piece.Trigger ⨾ pieces_m ts piece.Predicate ⨾ actions_m ts 18 ⨾ bytes_m 8
      ⨾ pieces_m ts piece.Note

  unfoldable pub part_m : Part → Walk
  part_m part.Text = text_m
  part_m part.Entity = entity_m
  part_m part.Event = event_m
  part_m part.Invariant = invariant_m
  part_m part.Input = input_m
  part_m part.Gap = bytes_m 4
  part_m part.Rule = rule_m

-- ---- a section

-- position p for the i-th part, if there is room
unfoldable pub put : ℕ → ℕ → List ℕ → List ℕ
put i p l = if ltb i 100 then set l i p else l

abbrev pub no_starts : List ℕ
no_starts = replicate 100 0

-- `left` parts more, the first of them the i-th of c
unfoldable pub fill : (left i c : ℕ) → Walk → List ℕ → List ℕ → ℕ → ℕ → Section
fill zero i c k l s p n = record { count = c; starts = l; end = Some (p, n) }
fill (suc left) i c k l s p n = elim (k s p n) [
  | Some (q, m) ↦ fill left (i + 1) c k (put i p l) s q m
  | None ↦ record { count = c; starts = put i p l; end = None }
]

unfoldable pub section_m : Walk → List ℕ → ℕ → ℕ → Section
section_m k s p n = elim (u16 s p) [
  | got c q ↦ fill c 0 c k no_starts s q n
  | broken ↦ record { count = 0; starts = no_starts; end = None }
]

-- a section from its extent and its positions
abbrev pub section : Extent → List ℕ → Section
section x l = record { count = x.count; starts = l; end = x.end }
