-- The cells of an invariant's names say yes for each entity that its predicates name, and values that agree there are read
-- alike.
use Rattle.std.specs.Prelude.{if◌then◌else◌, Option, Some, None}
use Prim.Native.Nat.{ℕ, zero, suc, ◌+◌, ◌-◌, ◌%◌, ◌≤◌, ◌<◌}
use mathlib.Core.Path.{◌≡◌, refl, sym, ap, ◌∙◌}
use mathlib.Core.Bool.{Bool, true, false, false≢true}
use mathlib.Core.List.{List, [], ◌∷◌}
use native.Mathlib.Omega.{arith}
use lib.Dec.{ltb, eqb}
use lib.ListN.{length, get_or, set, replicate, length-set, length-replicate}
use lib.Seq.{get_or-set_same, get_or-set_other}
use borrow.Author.Tests.{eqb-true, ltb-true}
use Rattle.model_walk.proofs.Found.{Case, is_true, is_false, case}
use Rattle.records.specs.declared.Write.{Write}
use Rattle.engine_fields.specs.Fields.{two, name, entities, entity_from, entity_of}
use Rattle.engine_state.specs.Machine.{later, stored_m}
use Rattle.engine_state.specs.declared.Cells.{Cells}
use Rattle.engine_evaluate.specs.Evaluate.{value_m, evaluate_m, size_m, all_from, all_m}
use Rattle.engine_evaluate.specs.declared.Truth.{Truth}
use Rattle.engine_evaluate.proofs.Laws.{one_less, none_left}
use Rattle.checker_judge.specs.Judging.{put_m, after_m, set_m, goal_at}
use Rattle.checker_judge.specs.Names.{has_m, with_m, predicate_m, each_m, list_m, names_m, named_in, touches_m}
use Rattle.checker_judge.specs.Turns.{Agree}

-- ---- cells

set_keeps : (l : List Bool) (i j : ℕ) → get_or l j false ≡ true → get_or (set l i true) j false ≡ true
set_keeps [] i j h = absurd (false≢true h)
set_keeps (b ∷ l) zero zero h = refl
set_keeps (b ∷ l) zero (suc j) h = h
set_keeps (b ∷ l) (suc i) zero h = h
set_keeps (b ∷ l) (suc i) (suc j) h = set_keeps l i j h

with_keeps : (l : List Bool) (i id : ℕ) → has_m l id ≡ true → has_m (with_m i l) id ≡ true
unfolding has_m with_m
with_keeps l i id h = set_keeps l (i % 64) (id % 64) h

with_has : (l : List Bool) (id : ℕ) → length l ≡ 64 → has_m (with_m id l) id ≡ true
unfolding has_m with_m
with_has l id e = get_or-set_same l (id % 64) true false (omega arith)

with_long : (l : List Bool) (id : ℕ) → length l ≡ 64 → length (with_m id l) ≡ 64
unfolding with_m
with_long l id e = length-set l (id % 64) true ∙ e

-- ---- the list of predicates, one by one

pub each_start : (f : List ℕ) (at n p : ℕ) (l : List Bool) → n ≡ two f at → p ≡ later at 2 → list_m f at l ≡ each_m f n p l
unfolding list_m
each_start f at n p l e g = rw (e, g)

pub each_more : (f : List ℕ) (n p q : ℕ) (l k : List Bool) → 0 < n → k ≡ predicate_m f p l → q ≡ later p (size_m f p)
    → each_m f n p l ≡ each_m f (n - 1) q k
unfolding each_m
each_more f n p q l k h e g = ap (λ i. each_m f i p l) (one_less n h) ∙ rw (e, g)

pub each_end : (f : List ℕ) (n p : ℕ) (l : List Bool) → n ≤ 0 → each_m f n p l ≡ l
unfolding each_m
each_end f n p l h = rw (none_left n h)

-- ---- predicates

-- the entity of the predicate at p has its cell
abbrev pub Covered : List ℕ → List Bool → (p : ℕ) → Type 0
Covered f l p = eqb (get_or f p 0) 1 ≡ false → has_m l (two f (p + 1)) ≡ true

-- and so do those of `left` predicates from p on
abbrev pub Covers : List ℕ → List Bool → (left p : ℕ) → Type 0
Covers f l zero p = Unit {0}
Covers f l (suc left) p = Covered f l p × Covers f l left (later p (size_m f p))

module _ (f : List ℕ) where
  predicate_keeps : (p : ℕ) (l : List Bool) (id : ℕ) → has_m l id ≡ true → has_m (predicate_m f p l) id ≡ true
  unfolding predicate_m
  predicate_keeps p l id h = by (eqb (get_or f p 0) 1)
    where
      by : (b : Bool) → has_m (if b then l else with_m (two f (p + 1)) l) id ≡ true
      by true = h
      by false = with_keeps l (two f (p + 1)) id h

  predicate_long : (p : ℕ) (l : List Bool) → length l ≡ 64 → length (predicate_m f p l) ≡ 64
  unfolding predicate_m
  predicate_long p l e = by (eqb (get_or f p 0) 1)
    where
      by : (b : Bool) → length (if b then l else with_m (two f (p + 1)) l) ≡ 64
      by true = e
      by false = with_long l (two f (p + 1)) e

  predicate_covers : (p : ℕ) (l : List Bool) → length l ≡ 64 → Covered f (predicate_m f p l) p
  unfolding predicate_m
  predicate_covers p l e h = rw h (with_has l (two f (p + 1)) e)

  each_keeps : (left p : ℕ) (l : List Bool) (id : ℕ) → has_m l id ≡ true → has_m (each_m f left p l) id ≡ true
  unfolding each_m
  each_keeps zero p l id h = h
  each_keeps (suc left) p l id h =
      each_keeps left (later p (size_m f p)) (predicate_m f p l) id (predicate_keeps p l id h)

  each_covers : (left p : ℕ) (l : List Bool) → length l ≡ 64 → Covers f (each_m f left p l) left p
  unfolding each_m
  each_covers zero p l e = tt
  each_covers (suc left) p l e = (
    (λ h. each_keeps left (later p (size_m f p)) (predicate_m f p l) (two f (p + 1)) (predicate_covers p l e h)),
    each_covers left (later p (size_m f p)) (predicate_m f p l) (predicate_long p l e),
  )

  -- ---- an invariant, by its kind

  abbrev pub CoversList : List Bool → (at : ℕ) → Type 0
  CoversList l at = Covers f l (two f at) (later at 2)

  none_yet : length (replicate 64 false) ≡ 64
  none_yet = length-replicate 64 false

  module _ (at : ℕ) where
    pub never_covers : eqb (get_or f at 0) 0 ≡ true → CoversList (named_in f at) (later at 3)
    unfolding names_m list_m
    never_covers h = rw h (each_covers (two f (later at 3)) (later (later at 3) 2) (replicate 64 false) none_yet)

    module _ (not-never : eqb (get_or f at 0) 0 ≡ false) where
      pub guard_covers : eqb (get_or f at 0) 1 ≡ true → CoversList (named_in f at) (later at 7)
      unfolding names_m list_m
      guard_covers h =
          rw (not-never, h)
          (each_covers (two f (later at 7)) (later (later at 7) 2) (with_m (two f (at + 3)) (replicate 64 false))
          (with_long (replicate 64 false) (two f (at + 3)) none_yet))

      pub guard_has : eqb (get_or f at 0) 1 ≡ true → has_m (named_in f at) (two f (at + 3)) ≡ true
      unfolding names_m list_m
      guard_has h =
          rw (not-never, h)
          (each_keeps (two f (later at 7)) (later (later at 7) 2) (with_m (two f (at + 3)) (replicate 64 false))
          (two f (at + 3))
          (with_has (replicate 64 false) (two f (at + 3)) none_yet))

      module _ (not-guard : eqb (get_or f at 0) 1 ≡ false) where
        pub transition_has : eqb (get_or f at 0) 2 ≡ true → has_m (named_in f at) (two f (at + 3)) ≡ true
        unfolding names_m
        transition_has h = rw (not-never, not-guard, h) (with_has (replicate 64 false) (two f (at + 3)) none_yet)

        pub goal_covered : eqb (get_or f at 0) 2 ≡ false → Covered f (named_in f at) (goal_at f at)
        unfolding names_m
        goal_covered h =
            rw (not-never, not-guard, h)
            (predicate_covers (goal_at f at) (predicate_m f (later at 3) (replicate 64 false))
            (predicate_long (later at 3) (replicate 64 false) none_yet))

        pub cause_covered : eqb (get_or f at 0) 2 ≡ false → Covered f (named_in f at) (later at 3)
        unfolding names_m
        cause_covered h g =
            rw (not-never, not-guard, h)
            (predicate_keeps (goal_at f at) (predicate_m f (later at 3) (replicate 64 false)) (two f (later at 3 + 1))
            (predicate_covers (later at 3) (replicate 64 false) none_yet g))

-- ---- values that agree

module _ (f x : List ℕ) (l : List Bool) (vs ws : List ℕ) (agree : Agree x l vs ws) where
  pub evaluate_same : (p : ℕ) → Covered f l p → evaluate_m f x vs 0 p ≡ evaluate_m f x ws 0 p
  unfolding evaluate_m value_m
  evaluate_same p h = by (case (eqb (get_or f p 0) 1))
    where
      by : Case (eqb (get_or f p 0) 1) → evaluate_m f x vs 0 p ≡ evaluate_m f x ws 0 p
      by (is_true e) = rw e
      by (is_false e) = rw (e, agree.same (two f (p + 1)) (h e))

  each_same : (left p : ℕ) (t : Truth) → Covers f l left p → all_from f x vs 0 left p t ≡ all_from f x ws 0 left p t
  unfolding all_from
  each_same zero p t h = refl
  each_same (suc left) p t h = rw (evaluate_same p h.0) (each_same left (later p (size_m f p)) _ h.1)

  pub all_same : (at : ℕ) → CoversList f l at → all_m f x vs 0 at ≡ all_m f x ws 0 at
  unfolding all_m
  all_same at h = each_same (two f at) (later at 2) _ h

-- ---- changes

named_there : (x : List ℕ) (id left e : ℕ) → entity_from x id left e < 32 → name x (entity_from x id left e) ≡ id
unfolding entity_from
named_there x id zero e h = absurd (omega (arith, h))
named_there x id (suc left) e h = by (case (eqb (name x e) id)) (λ k. named_there x id left (e + 1) k)
  where
    by : Case (eqb (name x e) id)
        → (entity_from x id left (e + 1) < 32 → name x (entity_from x id left (e + 1)) ≡ id)
        → name x (entity_from x id (suc left) e) ≡ id
    by (is_true b) rest = rw (b, entity_from) (eqb-true _ _ b)
    by (is_false b) rest = rw (b, entity_from) (rest (rw (b, entity_from) at h))

-- an entity without a cell isn't one with a cell
pub apart : (l : List Bool) (e id : ℕ) → has_m l e ≡ false → has_m l id ≡ true → e ≡ id → ⊥
apart l e id h g q = false≢true (sym h ∙ ap (has_m l) q ∙ g)

module _ (x : List ℕ) (l : List Bool) where
  elsewhere : (e id : ℕ) → has_m l e ≡ false → has_m l id ≡ true → entity_of x e < 32 → entity_of x id ≡ entity_of x e → ⊥
  unfolding entity_of
  elsewhere e id h g k q =
      apart l e id h g
      (sym (named_there x e (entities x) 0 k) ∙ ap (name x) (sym q) ∙ named_there x id (entities x) 0 (omega (arith, k, q)))

  -- a change of an entity without a cell
  pub agree_over : (c : Cells) (vs : List ℕ) (d : Option Write) → touches_m l d ≡ false → Agree x l c.values vs
      → Agree x l (after_m x d c).values vs
  unfolding after_m put_m touches_m
  agree_over c vs None h g = g
  agree_over c vs (Some d) h g = by (case (ltb (entity_of x d.entity) 32))
    where
      by : Case (ltb (entity_of x d.entity) 32) →
          Agree x l (if ltb (entity_of x d.entity) 32 then stored_m c (entity_of x d.entity) d.after else c).values vs
      by (is_false z) = rw z g
      by (is_true z) = rw z (record {
        long = length-set c.values (entity_of x d.entity) d.after ∙ g.long;
        same = λ id k.
            get_or-set_other c.values (entity_of x d.entity) (entity_of x id) d.after 0
            (elsewhere d.entity id h k (ltb-true _ _ z))
            ∙ g.same id k;
      })

  set_alike : (vs ws : List ℕ) (i j v : ℕ) → length vs ≡ length ws → get_or vs j 0 ≡ get_or ws j 0
      → get_or (set vs i v) j 0 ≡ get_or (set ws i v) j 0
  set_alike [] [] i j v e h = refl
  set_alike [] (w ∷ ws) i j v e h = absurd (omega (arith, e))
  set_alike (u ∷ vs) [] i j v e h = absurd (omega (arith, e))
  set_alike (u ∷ vs) (w ∷ ws) zero zero v e h = refl
  set_alike (u ∷ vs) (w ∷ ws) zero (suc j) v e h = h
  set_alike (u ∷ vs) (w ∷ ws) (suc i) zero v e h = h
  set_alike (u ∷ vs) (w ∷ ws) (suc i) (suc j) v e h = set_alike vs ws i j v (omega (arith, e)) h

  -- the same change on both sides
  pub agree_set : (vs ws : List ℕ) (e v : ℕ) → Agree x l vs ws → Agree x l (set_m vs e v) (set_m ws e v)
  unfolding set_m
  agree_set vs ws e v g = by (ltb e 32)
    where
      by : (b : Bool) → Agree x l (if b then set vs e v else vs) (if b then set ws e v else ws)
      by false = g
      by true = record {
        long = length-set vs e v ∙ g.long ∙ sym (length-set ws e v);
        same = λ id k. set_alike vs ws e (entity_of x id) v g.long (g.same id k);
      }
