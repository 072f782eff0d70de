-- The checks of a section, on places, part by part.
-- `proofs/Refines` has that they say what `Validate` says of the parts that the reader of `File` finds there.
use Rattle.std.specs.Prelude.{ℕ, zero, suc, ◌+◌, ◌*◌, Bool, true, false, ◌||◌, List, ltb, eqb, get_or, if◌then◌else◌}
use Rattle.texts.specs.Texts.{Text}
use Rattle.texts.specs.Places.{text_at, start_from}
use Rattle.model_spec.specs.File.{got, broken, u8, u16, u32}
use Rattle.model_spec.specs.Validate.{day, bad_length}
use Rattle.model_check.specs.declared.Checked.{Checked}
use Rattle.model_check.specs.declared.Checked.TheVariants as checked
use Rattle.model_check.specs.Checks.{
  Declaration,
  Check,
  and_then,
  ◌⨾◌,
  by,
  stay,
  skip_m,
  day_m,
  place_is,
  among,
  value_m,
  pair_m,
  predicate_m,
  predicates_m,
  triggers_m,
}
use Rattle.model_actions.specs.Actions.{actions_m}
use Rattle.model_sections.specs.declared.Part.{Part}
use Rattle.model_sections.specs.declared.Part.TheVariants as part

-- ---- texts

-- the text at a place
abbrev pub text_of : List ℕ → ℕ → Text
text_of s x = text_at s (start_from s 6 x)

-- its length isn't right for an identifier or a value
unfoldable pub bad_place : List ℕ → ℕ → Bool
bad_place s x = bad_length (text_of s x)

-- one of `left` places from p on holds a text of a bad length
unfoldable pub any_bad : (left : ℕ) → List ℕ → ℕ → Bool
any_bad zero s p = false
any_bad (suc left) s p = elim (u16 s p) [
  | got x q ↦ elim (bad_place s x) [ true ↦ true | false ↦ any_bad left s q ]
  | broken ↦ false
]

-- one of `left` places from p on comes again behind it
unfoldable pub doubled : (left : ℕ) → List ℕ → ℕ → Bool
doubled zero s p = false
doubled (suc left) s p = elim (u16 s p) [
  | got x q ↦ elim (among left s q x) [ true ↦ true | false ↦ doubled left s q ]
  | broken ↦ false
]

-- ---- entities

-- the name x or the domain of c places from p on isn't right
unfoldable pub bad_domain : (x c : ℕ) → List ℕ → ℕ → Bool
bad_domain x c s p = bad_place s x || eqb c 0 || ltb 16 c || any_bad c s p || doubled c s p

unfoldable pub stale_bad : ℕ → Bool
stale_bad a = if eqb a 4294967295 then false else ltb day a

-- the tests of an entity, in their order: 5, 6, then 7 and 8; its domain stands at q
unfoldable pub entity_of_m : Declaration → (x c q v a : ℕ) → Check
entity_of_m d x c q v a s p n =
    if stale_bad a then checked.Refused 5
    else if bad_domain x c s q then checked.Refused 6
    else value_m d x v s p n

-- what stands behind an entity's domain
unfoldable pub entity_rest_m : Declaration → (x c q : ℕ) → Check
entity_rest_m d x c q = by u16 (λ v. skip_m 1 ⨾ by u32 (λ a. entity_of_m d x c q v a))

unfoldable pub entity_m : Declaration → Check
entity_m d s p n = elim (u16 s p) [
  | got x o ↦ elim (u16 s o) [
    | got c q ↦ and_then (skip_m (2 * c) s q n) (entity_rest_m d x c q s)
    | broken ↦ checked.Refused 30
  ]
  | broken ↦ checked.Refused 30
]

-- ---- events and the alphabet

unfoldable pub input_m : Declaration → Check
input_m d = by u8 (λ k. if eqb k 0 then pair_m d else stay)

unfoldable pub event_m : Declaration → Check
event_m d = skip_m 4 ⨾ input_m d

-- one of `left` seconds, the j-th on, passes the horizon or is below the one before it
unfoldable pub seconds_bad : (horizon : ℕ) → (starts s : List ℕ) → (left j last : ℕ) → Bool
seconds_bad h starts s zero j last = false
seconds_bad h starts s (suc left) j last = elim (u32 s (get_or starts j 0)) [
  | got t q ↦ elim (ltb h t || ltb t last) [ true ↦ true | false ↦ seconds_bad h starts s left (j + 1) t ]
  | broken ↦ false
]

-- one of `left` gaps, the j-th on, is longer than a day
unfoldable pub gaps_bad : (starts s : List ℕ) → (left j : ℕ) → Bool
gaps_bad starts s zero j = false
gaps_bad starts s (suc left) j = elim (u32 s (get_or starts j 0)) [
  | got t q ↦ elim (ltb day t) [ true ↦ true | false ↦ gaps_bad starts s left (j + 1) ]
  | broken ↦ false
]

-- ---- identifiers

-- the identifier of the part at p is x; an invariant's stands behind its kind
unfoldable pub id_is : Part → List ℕ → ℕ → ℕ → Bool
id_is part.Invariant s p x = elim (u8 s p) [ got k q ↦ place_is s q x | broken ↦ false ]
id_is part.Entity s p x = place_is s p x
id_is part.Event s p x = place_is s p x
id_is part.Input s p x = place_is s p x
id_is part.Rule s p x = place_is s p x

-- one of the parts before the j-th has the identifier x
unfoldable pub seen : Part → (starts s : List ℕ) → (j x : ℕ) → Bool
seen k starts s zero x = false
seen k starts s (suc j) x = elim (id_is k s (get_or starts j 0) x) [ true ↦ true | false ↦ seen k starts s j x ]

-- the identifier x of the j-th part isn't right
unfoldable pub bad_id : Part → (starts : List ℕ) → (j : ℕ) → List ℕ → (x : ℕ) → Bool
bad_id k starts j s x = bad_place s x || seen k starts s j x

-- 14: max, or the number of triggers or conditions
unfoldable pub bad_counts : (max triggers conditions : ℕ) → Bool
bad_counts m t c = eqb m 0 || ltb 16 m || eqb t 0 || ltb 16 t || ltb 32 c

-- ---- invariants
module _ (d : Declaration) where
  -- 11: no predicate, or too many; 51: one is a window
  unfoldable pub conditions_m : Check
  conditions_m s p n = elim (u16 s p) [
    | got c q ↦ if eqb c 0 || ltb 32 c then checked.Refused 11 else predicates_m d 51 s p n
    | broken ↦ checked.Refused 30
  ]

  unfoldable pub guard_m : Check
  guard_m = by u16 (λ x. by u16 (λ v. conditions_m ⨾ value_m d x v))

  unfoldable pub transition_m : Check
  transition_m = by u16 (λ x. by u16 (λ f. by u16 (λ t. value_m d x f ⨾ value_m d x t)))

  unfoldable pub response_m : Check
  response_m = predicate_m d 51 ⨾ predicate_m d 51 ⨾ day_m 12

  -- what follows an invariant's kind and its identifier
  unfoldable pub invariant_of_m : (kind : ℕ) → Check
  invariant_of_m k =
      if eqb k 0 then conditions_m
      else if eqb k 1 then guard_m
      else if eqb k 2 then transition_m
      else response_m

  unfoldable pub invariant_m : (starts : List ℕ) → (j : ℕ) → Check
  invariant_m starts j s p n = elim (u8 s p) [
    | got k o ↦ elim (u16 s o) [
      | got x q ↦ if bad_id part.Invariant starts j s x then checked.Refused 10 else invariant_of_m k s q n
      | broken ↦ checked.Refused 30
    ]
    | broken ↦ checked.Refused 30
  ]

  -- ---- automations

  -- triggers, conditions and actions, whose counts are right
  unfoldable pub lists_m : (triggers : ℕ) → Check
  lists_m t = triggers_m d t ⨾ predicates_m d 0 ⨾ actions_m d 17

  -- what stands from the triggers' count on
  unfoldable pub rule_lists_m : (max : ℕ) → Check
  rule_lists_m m s p n = elim (u16 s p) [
    | got t q ↦ and_then (skip_m (16 * t) s q n) (λ r o. elim (u16 s r) [
      | got c e ↦ if bad_counts m t c then checked.Refused 14 else lists_m t s q n
      | broken ↦ checked.Refused 30
    ])
    | broken ↦ checked.Refused 30
  ]

  -- what follows an automation's identifier
  unfoldable pub rule_of_m : Check
  rule_of_m = skip_m 1 ⨾ by u32 (λ m. rule_lists_m m)

  unfoldable pub rule_m : (starts : List ℕ) → (j : ℕ) → Check
  rule_m starts j s p n = elim (u16 s p) [
    | got x q ↦ if bad_id part.Rule starts j s x then checked.Refused 13 else rule_of_m s q n
    | broken ↦ checked.Refused 30
  ]

  -- ---- sections

  -- the j-th part of a section
  unfoldable pub part_m : Part → (starts : List ℕ) → (j : ℕ) → Check
  part_m part.Entity starts j = entity_m d
  part_m part.Event starts j = event_m d
  part_m part.Input starts j = input_m d
  part_m part.Invariant starts j = invariant_m starts j
  part_m part.Rule starts j = rule_m starts j

  -- `left` parts, the j-th on. Only the actions counted are carried along.
  unfoldable pub parts_m : Part → (starts : List ℕ) → (left j : ℕ) → List ℕ → ℕ → Checked
  parts_m k starts zero j s n = checked.To 0 n
  parts_m k starts (suc left) j s n = and_then (part_m k starts j s (get_or starts j 0) n)
      (λ q m. parts_m k starts left (j + 1) s m)

  abbrev pub section_m : Part → (count : ℕ) → (starts : List ℕ) → Check
  section_m k c starts s p n = parts_m k starts c 0 s n
