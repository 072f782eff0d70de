-- Numbers at positions of a file, 0 past its end, and where parts end.
use Rattle.std.specs.Prelude.{ℕ, zero, suc, ◌+◌, ◌*◌, List, leb, eqb, length, if◌then◌else◌}
use Rattle.model_spec.specs.File.{Got, got, broken, u8, u16, u32}
use Rattle.model_walk.specs.Walk.{predicate_size}

-- what was read, or 0
unfoldable pub value_of : Got ℕ → ℕ
value_of (got x next) = x
value_of broken = 0

unfoldable pub byte_m : List ℕ → ℕ → ℕ
byte_m s p = value_of (u8 s p)

unfoldable pub place_m : List ℕ → ℕ → ℕ
place_m s p = value_of (u16 s p)

unfoldable pub number_m : List ℕ → ℕ → ℕ
number_m s p = value_of (u32 s p)

-- the position w bytes on, or the end of the file
unfoldable pub past : List ℕ → ℕ → ℕ → ℕ
past s p w = if leb (p + w) (length s) then p + w else length s

-- n times
unfoldable pub repeat : {A : Type 0} → ℕ → (A → A) → A → A
repeat zero f a = a
repeat (suc n) f a = repeat n f (f a)

unfoldable pub predicate_end : List ℕ → ℕ → ℕ
predicate_end s p = past s p (predicate_size (byte_m s p))

-- behind a count and as many predicates
unfoldable pub predicates_end : List ℕ → ℕ → ℕ
predicates_end s p = repeat (place_m s p) (predicate_end s) (past s p 2)

-- behind what follows the kind k of an effect that holds no list
unfoldable pub simple_end : List ℕ → (k p : ℕ) → ℕ
simple_end s k p =
    if eqb k 0 then past s p 4
    else if eqb k 2 then past s p 4
    else if eqb k 3 then predicate_end s p
    else if eqb k 5 then past s p 21
    else past s p 2

-- the kind of the action at a position
unfoldable pub kind_m : List ℕ → ℕ → ℕ
kind_m s p = byte_m s (past s p 8)

-- the counts of an automation's triggers, conditions and actions
unfoldable pub triggers_m : List ℕ → ℕ → ℕ
triggers_m s p = past s p 7

unfoldable pub conditions_m : List ℕ → ℕ → ℕ
conditions_m s p = past s (past s (triggers_m s p) 2) (16 * place_m s (triggers_m s p))

unfoldable pub actions_m : List ℕ → ℕ → ℕ
actions_m s p = predicates_end s (conditions_m s p)
