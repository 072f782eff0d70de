-- The tests of lint, on places in the file.
use Rattle.std.specs.Prelude.{ℕ, zero, suc, ◌+◌, ◌*◌, Bool, true, false, not, List, ltb, eqb, get_or, if◌then◌else◌}
use Rattle.model_parts.specs.declared.Section.{Section}
use Rattle.lint_reach.specs.Sets.{holds}
use Rattle.lint_walk.specs.declared.Walk.{Walk}
use Rattle.lint_walk.specs.Raw.{byte_m, place_m, number_m, past, predicate_end, kind_m, triggers_m, conditions_m}
use Rattle.lint_conditions.specs.declared.Names.{Names}

-- one of n parts from p on passes the test; `end` says where a part ends
unfoldable pub any_m : (ℕ → Bool) → (end : ℕ → ℕ) → (n p : ℕ) → Bool
any_m f end zero p = false
any_m f end (suc n) p = elim (f p) [ true ↦ true | false ↦ any_m f end n (end p) ]

-- all do
unfoldable pub all_m : (ℕ → Bool) → (end : ℕ → ℕ) → (n p : ℕ) → Bool
all_m f end zero p = true
all_m f end (suc n) p = elim (f p) [ true ↦ all_m f end n (end p) | false ↦ false ]

-- one of n positions from the k-th of a list on does
unfoldable pub any_list_m : (ℕ → Bool) → List ℕ → (n k : ℕ) → Bool
any_list_m f l zero k = false
any_list_m f l (suc n) k = elim (f (get_or l k 0)) [ true ↦ true | false ↦ any_list_m f l n (k + 1) ]

-- ---- predicates
module _ (s : List ℕ) where
  unfoldable pub clash_m : (x v p : ℕ) → Bool
  clash_m x v p = if eqb (byte_m s p) 0 then (if eqb (place_m s (past s p 1)) x then not (eqb (place_m s (past s p 3)) v)
      else false) else false

  unfoldable pub clashes_m : (x v n p : ℕ) → Bool
  clashes_m x v n p = any_m (clash_m x v) (predicate_end s) n p

  unfoldable pub meets_m : (behind p : ℕ) → Bool
  meets_m n p = if eqb (byte_m s p) 0 then clashes_m (place_m s (past s p 1)) (place_m s (past s p 3)) n (predicate_end s p)
      else false

  -- of n predicates from p on
  unfoldable pub contradictory_from : (n p : ℕ) → Bool
  contradictory_from zero p = false
  contradictory_from (suc n) p = elim (meets_m n p) [ true ↦ true | false ↦ contradictory_from n (predicate_end s p) ]

  unfoldable pub contradictory_m : (p : ℕ) → Bool
  contradictory_m p = contradictory_from (place_m s p) (past s p 2)

  -- ---- triggers

  unfoldable pub mismatch_m : (conditions p : ℕ) → Bool
  mismatch_m c p =
      if eqb (place_m s (past s p 14)) 65535
      then (if eqb (place_m s (past s p 4)) 65535 then false
      else clashes_m (place_m s p) (place_m s (past s p 4)) (place_m s c) (past s c 2))
      else false

  unfoldable pub mismatched_m : (p : ℕ) → Bool
  mismatched_m p = all_m (mismatch_m (conditions_m s p)) (λ q. past s q 16) (place_m s (triggers_m s p)) (past s (triggers_m s p) 2)

  unfoldable pub sets_off_m : (star x v p : ℕ) → Bool
  sets_off_m star x v p =
      if eqb (place_m s (past s p 14)) 65535
      then (if eqb (place_m s p) x
      then (if eqb v star then true else if eqb (place_m s (past s p 4)) 65535 then true else eqb (place_m s (past s p 4)) v)
      else false)
      else false

  unfoldable pub leads_m : (star x v p : ℕ) → Bool
  leads_m star x v p = any_m (sets_off_m star x v) (λ q. past s q 16) (place_m s (triggers_m s p)) (past s (triggers_m s p) 2)

  -- ---- actions

  unfoldable pub delays_m : Walk → Bool
  delays_m w = any_list_m (λ p. eqb (kind_m s p) 2) w.list w.count 0

  -- ---- invariants

  unfoldable pub guard_m : (x v p : ℕ) → Bool
  guard_m x v p = if eqb (byte_m s p) 1 then (if eqb (place_m s (past s p 3)) x then eqb (place_m s (past s p 5)) v else false)
      else false

  unfoldable pub guarded_m : Section → (x v : ℕ) → Bool
  guarded_m i x v = any_list_m (guard_m x v) i.starts i.count 0

  unfoldable pub unguarded_m : Names → (x v : ℕ) → Bool
  unguarded_m d x v =
      if eqb v d.star
      then (if guarded_m d.invariants x d.on then not (guarded_m d.invariants x d.off) else true)
      else not (guarded_m d.invariants x v)

  -- ---- entities

  -- behind the domain's count
  unfoldable pub tier_m : (p : ℕ) → ℕ
  tier_m p = byte_m s (past s (past s (past s p 2) 2) (2 * place_m s (past s p 2) + 2))

  unfoldable pub stale_m : (p : ℕ) → Bool
  stale_m p = not (eqb (number_m s (past s (past s (past s p 2) 2) (2 * place_m s (past s p 2) + 3))) 4294967295)

unfoldable pub opposed_m : (star x v y u : ℕ) → Bool
opposed_m star x v y u = if eqb x y then (if eqb v u then eqb v star else true) else false

unfoldable pub greater_m : ℕ → ℕ → ℕ
greater_m a b = if ltb a b then b else a

-- of n entities from the k-th on
unfoldable pub highest_from : List ℕ → Section → (set : ℕ) → (n k : ℕ) → ℕ → ℕ
highest_from s e set zero k best = best
highest_from s e set (suc n) k best = highest_from s e set n (k + 1)
    (if holds set k then greater_m best (tier_m s (get_or e.starts k 0)) else best)

unfoldable pub highest_m : List ℕ → Section → (set : ℕ) → ℕ
highest_m s e set = highest_from s e set e.count 0 0
