-- Checks over a file: what `validate` tests of each part, on places. A check goes over a part of the file, from a position
-- on, with the number of actions so far; it ends at a position with the number of actions after it, or with a refusal.
-- `proofs/Refines` has, for each check, that it says what `Validate` says of the part that the reader of `File` finds there.
use Rattle.std.specs.Prelude.{ℕ, zero, suc, ◌+◌, ◌-◌, Bool, true, false, List, ltb, leb, eqb, length, get_or, if◌then◌else◌}
use Rattle.model_spec.specs.File.{got, broken, Reader, u8, u16, u32}
use Rattle.model_spec.specs.Validate.{day, bad_window}
use Rattle.model_walk.specs.Walk.{predicate_size}
use Rattle.model_parts.specs.declared.Section.{Section}
use Rattle.model_check.specs.declared.Checked.{Checked}
use Rattle.model_check.specs.declared.Checked.TheVariants as checked
use Rattle.model_check.specs.declared.Declared.{Declared}

abbrev pub Check : Type 0
Check = List ℕ → ℕ → ℕ → Checked

unfoldable pub and_then : Checked → (ℕ → ℕ → Checked) → Checked
and_then (checked.To p n) f = f p n
and_then (checked.Refused k) f = checked.Refused k

infixr 25 ◌⨾◌
-- one check, and then the other
unfoldable pub ◌⨾◌ : Check → Check → Check
◌⨾◌ k l s p n = and_then (k s p n) (l s)

-- a number, and then a check that depends on it. The file was read before, so the number is there.
unfoldable pub by : Reader ℕ → (ℕ → Check) → Check
by r f s p n = elim (r s p) [ got x next ↦ f x s next n | broken ↦ checked.Refused 30 ]

unfoldable pub stay : Check
stay s p n = checked.To p n

unfoldable pub refuse : ℕ → Check
refuse k s p n = checked.Refused k

-- the refusal k, if the test holds
unfoldable pub refuse_if : ℕ → Bool → Check
refuse_if k b = if b then refuse k else stay

-- w bytes that aren't looked at
unfoldable pub skip_m : ℕ → Check
skip_m w s p n = if leb (p + w) (length s) then checked.To (p + w) n else checked.Refused 30

unfoldable pub times_m : ℕ → Check → Check
times_m zero k = stay
times_m (suc i) k = k ⨾ times_m i k

-- a number of seconds, at most a day
abbrev pub day_m : (number : ℕ) → Check
day_m k = by u32 (λ x. refuse_if k (ltb day x))

-- ---- places

-- the place at p is x
unfoldable pub place_is : List ℕ → ℕ → ℕ → Bool
place_is s p x = elim (u16 s p) [ got y q ↦ eqb y x | broken ↦ false ]

-- one of `left` places from p on is x
unfoldable pub among : (left : ℕ) → List ℕ → ℕ → ℕ → Bool
among zero s p x = false
among (suc left) s p x = elim (u16 s p) [
  | got y q ↦ elim (eqb y x) [ true ↦ true | false ↦ among left s q x ]
  | broken ↦ false
]

-- one of the places behind a count at p is x
unfoldable pub listed_at : List ℕ → ℕ → ℕ → Bool
listed_at s p x = elim (u16 s p) [ got c q ↦ among c s q x | broken ↦ false ]

-- the number of the first of the positions, from the i-th on and `left` of them, that holds the place x
unfoldable pub first_from : (starts : List ℕ) → (x : ℕ) → List ℕ → (left i : ℕ) → ℕ
first_from starts x s zero i = i
first_from starts x s (suc left) i = elim (place_is s (get_or starts i 0) x)
    [ true ↦ i | false ↦ first_from starts x s left (i + 1) ]

-- the number of the section's first part that begins with the place x, or the count
abbrev pub number_of : Section → (x : ℕ) → List ℕ → ℕ
number_of e x s = first_from e.starts x s e.count 0

-- what a model declares: its entities, of which at most 100 are looked at, and the places of the four fixed texts
pub record Declaration : Type 0 where
  pub count : ℕ
  pub starts : List ℕ
  pub on : ℕ
  pub off : ℕ
  pub unknown : ℕ
  pub unavailable : ℕ

-- the same, of what the code passes on and the positions that it lends
abbrev pub declaration : Declared → (starts : List ℕ) → Declaration
declaration d l = record {
  count = d.count;
  starts = l;
  on = d.on;
  off = d.off;
  unknown = d.unknown;
  unavailable =
      d.unavailable;
}

-- 50: a window's days, start and end
unfoldable pub window_m : Check
window_m = by u8 (λ k. by u32 (λ b. by u32 (λ e. refuse_if 50 (bad_window k b e))))

-- ---- parts, against the entities that the model declares
module _ (d : Declaration) where
  -- the number of the entity whose name is at the place x, or the count
  abbrev pub entity_number : (x : ℕ) → List ℕ → ℕ
  entity_number x s = first_from d.starts x s d.count 0

  -- the i-th entity may have the value v; 7: there is no such entity; 8: the value isn't in its domain
  unfoldable pub entity_value_m : (i v : ℕ) → Check
  entity_value_m i v s p n =
      if leb d.count i then checked.Refused 7
      else if eqb v d.unknown then checked.To p n
      else if eqb v d.unavailable then checked.To p n
      else if listed_at s (get_or d.starts i 0 + 2) v then checked.To p n
      else checked.Refused 8

  unfoldable pub value_m : (x v : ℕ) → Check
  value_m x v s = entity_value_m (entity_number x s) v s

  -- an entity and a value
  unfoldable pub pair_m : Check
  pair_m = by u16 (λ x. by u16 (λ v. value_m x v))

  -- `banned` is the number that a window gets, or 0 where windows may stand
  unfoldable pub predicate_m : (banned : ℕ) → Check
  predicate_m banned = by u8 (λ k.
      if eqb k 0 then pair_m else if eqb k 1 then skip_m (predicate_size k - 1)
      else if eqb banned 0 then window_m else refuse banned)

  unfoldable pub predicates_m : (banned : ℕ) → Check
  predicates_m banned = by u16 (λ c. times_m c (predicate_m banned))

  -- 15: the entity isn't declared
  unfoldable pub declared_m : (x : ℕ) → Check
  declared_m x s = refuse_if 15 (leb d.count (entity_number x s)) s

  -- a value, or none
  unfoldable pub optional_m : (x v : ℕ) → Check
  optional_m x v = if eqb v 65535 then stay else value_m x v

  unfoldable pub trigger_of_m : (x from to : ℕ) → Check
  trigger_of_m x f t = declared_m x ⨾ optional_m x f ⨾ optional_m x t

  -- a trigger with a note isn't checked
  unfoldable pub trigger_m : Check
  trigger_m = by u16
      (λ x. by u16 (λ f. by u16 (λ t. skip_m 8 ⨾ by u16 (λ m. if eqb m 65535 then trigger_of_m x f t else stay))))

  unfoldable pub triggers_m : ℕ → Check
  triggers_m c = times_m c trigger_m
