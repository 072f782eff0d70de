-- The reasons that a check may give are among a list that the model fixes, of at most 399 texts. Whoever gathers the reasons
-- of many checks needs no more room than that.
use Rattle.std.specs.Prelude.{if◌then◌else◌}
use Prim.Native.Nat.{ℕ, ◌+◌, ◌*◌, ◌≤◌, ◌<◌}
use mathlib.Core.Path.{◌≡◌, sym, subst, ◌∙◌}
use mathlib.Core.Bool.{Bool, true, false}
use mathlib.Core.List.{List, [], ◌∷◌, ◌++◌}
use native.Mathlib.Omega.{arith}
use lib.Dec.{eqb}
use lib.ListN.{length, get_or, length-append}
use Rattle.texts.specs.Lists.{any, flat}
use Rattle.texts.specs.Texts.{Text, text, eq_t, lt_t, mem_t, insert_t, sorted_t}
use Rattle.model_spec.specs.Answer.{answer, refused}
use Rattle.model_spec.specs.Model.{Event, Invariant, never, guard, transition, response, id_of, Model}
use Rattle.model_spec.specs.Validate.{accepted}
use Rattle.model_index.specs.declared.Index.{Index}
use Rattle.model_index.specs.Indexed.{Indexed}
use Rattle.engine_spec.specs.Cells.{Cell}
use Rattle.engine_spec.specs.Reasons.{space_spent, steps_spent, runs_left}
use Rattle.engine_spec.specs.Simulate as engine
use Rattle.engine_spec.proofs.Lists.{eq_t_same}
use Rattle.engine_refinement.specs.Meaning.{pool_of}
use Rattle.engine_refinement.specs.Events.{Among, EventAt}
use Rattle.engine_refinement.proofs.Pool.{mem_left, mem_right, among_to}
use Rattle.engine_refinement.proofs.Simulated.{static_among}
use Rattle.engine_entry.specs.Contract.{incomplete_of}
use Rattle.engine_entry.specs.Prepared.{Prepared, PreparedFrom}
use Rattle.engine_entry.proofs.Refines.{tb}
use Rattle.engine_entry.proofs.RunEvents as simulator
use Rattle.engine_spec.specs.Unsupported.{unsupported}
use Rattle.checker_spec.specs.Check.{judged}
use Rattle.checker_spec.specs.Check as check
use Rattle.checker_spec.specs.Judge.{Memory, reason_if, read_all, unknown_reasons, incomplete_reasons}
use Rattle.checker_result.specs.declared.CheckResult.{CheckResult}
use Rattle.checker_entry.specs.Pool.{invariant_pool, check_pool}
use Rattle.checker_entry.specs.Promises.{Checked}
use Rattle.checker_entry.proofs.Refines as promised

-- ---- the list

three_each : (l : List Invariant) → length (flat invariant_pool l) ≤ 3 * length l
unfolding flat invariant_pool
three_each [] = omega arith
three_each (i ∷ l) = omega (arith, length-append (invariant_pool i) (flat invariant_pool l), three i, three_each l)
  where
    three : (i : Invariant) → length (invariant_pool i) ≤ 3
    three (never id ps) = omega arith
    three (guard id x v ps) = omega arith
    three (transition id x from to) = omega arith
    three (response id p q n) = omega arith

-- ---- lists of texts among others

pub among_both : (p l k : List Text) → Among p l → Among p k → Among p (l ++ k)
among_both p [] k a b = b
among_both p (t ∷ l) k a b = (a.0, among_both p l k a.1 b)

pub mem_first : (t : Text) (l : List Text) → mem_t t (t ∷ l) ≡ true
unfolding mem_t any
mem_first t l = rw (eq_t_same t)

flat_among : (h : Invariant → List Text) → ((i : Invariant) → Among (invariant_pool i) (h i)) → (l : List Invariant) →
    Among (flat invariant_pool l) (flat h l)
unfolding flat
flat_among h k [] = tt
flat_among h k (i ∷ l) =
    let g = invariant_pool i in
    let gs = flat invariant_pool l in
    among_both (g ++ gs) (h i) (flat h l)
    (among_to (h i) g (g ++ gs) (λ t e. mem_left t g gs e) (k i))
    (among_to (flat h l) gs (g ++ gs) (λ t e. mem_right t g gs e) (flat_among h k l))

insert_among : (p : List Text) (t : Text) (l : List Text) → mem_t t p ≡ true → Among p l → Among p (insert_t t l)
unfolding insert_t
insert_among p t [] h a = (h, tt)
insert_among p t (x ∷ l) h a = by (eq_t t x) (lt_t t x) (insert_among p t l h a.1)
  where
    by : (b c : Bool) → Among p (insert_t t l) → Among p (if b then x ∷ l else if c then t ∷ x ∷ l else x ∷ insert_t t l)
    by true c i = a
    by false true i = (h, a)
    by false false i = (a.0, i)

pub sorted_among : (p l : List Text) → Among p l → Among p (sorted_t l)
unfolding sorted_t
sorted_among p [] a = tt
sorted_among p (t ∷ l) a = insert_among p t (sorted_t l) a.0 (sorted_among p l a.1)

-- ---- an invariant's reasons

if_among : (p : List Text) (b : Bool) (t : Text) → mem_t t p ≡ true → Among p (reason_if b t)
unfolding reason_if
if_among p true t h = (h, tt)
if_among p false t h = tt

mem_later : (t u : Text) (l : List Text) → mem_t t l ≡ true → mem_t t (u ∷ l) ≡ true
mem_later t u l h = mem_right t (u ∷ []) l h

unknown_among : (m : Memory) (i : Invariant) → Among (invariant_pool i) (unknown_reasons i m)
unfolding invariant_pool unknown_reasons
unknown_among m (never id ps) = if_among _ m.unknown_predicate _ (mem_first _ _)
unknown_among m (guard id x v ps) = if_among _ m.unknown_predicate _ (mem_first _ _)
unknown_among m (transition id x from to) = tt
unknown_among m (response id p q n) =
    among_both _ (reason_if m.unknown_at_deadline (id ++ text ": unknown response at deadline")) _
    (if_among _ m.unknown_at_deadline _ (mem_first _ _))
    (if_among _ m.unknown_predicate _ (mem_later _ _ _ (mem_first _ _)))

incomplete_among : (m : Memory) (i : Invariant) → Among (invariant_pool i) (incomplete_reasons i m)
unfolding invariant_pool incomplete_reasons id_of
incomplete_among m (never id ps) = if_among _ m.beyond_horizon _ (mem_later _ _ _ (mem_first _ _))
incomplete_among m (guard id x v ps) = if_among _ m.beyond_horizon _ (mem_later _ _ _ (mem_first _ _))
incomplete_among m (transition id x from to) = if_among _ m.beyond_horizon _ (mem_first _ _)
incomplete_among m (response id p q n) =
    if_among _ m.beyond_horizon _ (mem_later _ _ _ (mem_later _ _ _ (mem_first _ _)))

-- ---- a simulation's

abbrev three : List Text
three = space_spent ∷ steps_spent ∷ runs_left ∷ []

stopped_among : (w : ℕ) (b : Bool) → Among three (incomplete_of w b)
unfolding incomplete_of
stopped_among w b =
    among_both three (if eqb w 0 then [] else if eqb w 1 then space_spent ∷ [] else steps_spent ∷ []) _
    (why (eqb w 0) (eqb w 1)) (left b)
  where
    why : (a c : Bool) → Among three (if a then [] else if c then space_spent ∷ [] else steps_spent ∷ [])
    why true c = tt
    why false true = (mem_first _ _, tt)
    why false false = (mem_later _ _ _ (mem_first _ _), tt)

    left : (b : Bool) → Among three (if b then runs_left ∷ [] else [])
    left true = (mem_later _ _ _ (mem_later _ _ _ (mem_first _ _)), tt)
    left false = tt

-- ---- a check's

module _ (m : Model) (cells : List Cell) (sim : engine.Simulation) where
  abbrev is : List Invariant
  is = m.scenario.invariants

  own : (t : Text) → mem_t t (pool_of m) ≡ true → mem_t t (check_pool m) ≡ true
  unfolding check_pool
  own t h = mem_left t (pool_of m) (space_spent ∷ steps_spent ∷ runs_left ∷ flat invariant_pool is) h

  stopping : (t : Text) → mem_t t three ≡ true → mem_t t (check_pool m) ≡ true
  unfolding check_pool
  stopping t h = mem_right t (pool_of m) (three ++ flat invariant_pool is) (mem_left t three (flat invariant_pool is) h)

  told : (t : Text) → mem_t t (flat invariant_pool is) ≡ true → mem_t t (check_pool m) ≡ true
  unfolding check_pool
  told t h = mem_right t (pool_of m) (three ++ flat invariant_pool is) (mem_right t three (flat invariant_pool is) h)

  read_among : (h : Invariant → List Text) → ((i : Invariant) → Among (invariant_pool i) (h i)) →
      Among (check_pool m) (flat h is)
  read_among h k = among_to (flat h is) (flat invariant_pool is) (check_pool m) told (flat_among h k is)

  judged_unknown : Among (pool_of m) sim.unknown → Among (check_pool m) (judged is cells sim).unknown
  unfolding judged
  judged_unknown a =
      sorted_among (check_pool m) _
      (among_both (check_pool m) sim.unknown _
      (among_to sim.unknown (pool_of m) (check_pool m) own a)
      (read_among _ (λ i. unknown_among (read_all i cells sim.trace).memory i)))

  judged_incomplete : Among three sim.incomplete → Among (check_pool m) (judged is cells sim).incomplete
  unfolding judged
  judged_incomplete a =
      sorted_among (check_pool m) _
      (among_both (check_pool m) sim.incomplete _
      (among_to sim.incomplete three (check_pool m) stopping a)
      (read_among _ (λ i. incomplete_among (read_all i cells sim.trace).memory i)))

  -- the notes that a search starts from are among them too
  pub notes_among : Among (check_pool m) (unsupported m.rules)
  notes_among = among_to (unsupported m.rules) (pool_of m) (check_pool m) own (static_among m)

-- ---- of an accepted file

module _ (f : List ℕ) (i : Index) (m : Model) (acc : accepted f ≡ answer m) (o : Indexed f i m)
    (bytes : (k : ℕ) → get_or f k 0 < 256) (g : Prepared) (gr : PreparedFrom f i g) where
  pub few_in_pool : length (check_pool m) ≤ 399
  unfolding check_pool
  few_in_pool =
      let all = length-append (pool_of m) (space_spent ∷ steps_spent ∷ runs_left ∷ flat invariant_pool
      m.scenario.invariants) in
      omega (
        arith,
        all,
        (tb f i m acc o bytes g gr).few_reasons,
        three_each m.scenario.invariants,
        promised.few_invariants f i m acc o bytes g gr,
      )

  module _ (v : List ℕ) (d : Event) (vs : List Event)
      (evs : (j : ℕ) → j < length vs → EventAt f g.table o.ts m v j (get_or vs j d)) {n : ℕ}
      (many : n ≡ length vs) {r : CheckResult} {q q' a a' u u' : List ℕ}
      (ch : Checked f i.invariants.starts i.invariants.count g v n r q q' a a' u u') where
    -- whatever the events: the reasons of the check are among the list
    pub record InPool (c : check.Check) : Type 0 where
      pub unknown : Among (check_pool m) c.unknown
      pub incomplete : Among (check_pool m) c.incomplete

    pub in_pool : (c : check.Check) → promised.plain f i m acc o bytes g gr v d vs evs many ch ≡ answer c → InPool c
    in_pool c e = by (simulator.promise f i m acc o bytes g gr v d vs evs many ch.ran)
      where
        same : {b : check.Check} → promised.plain f i m acc o bytes g gr v d vs evs many ch ≡ answer b → c ≡ b
        same h = let z : answer c ≡ answer _ = sym e ∙ h in cc

        by : simulator.Promise f i m acc o bytes g gr v d vs evs many ch.ran → InPool c
        by (simulator.answers sim h k) =
            let cells = promised.cells f i m acc o bytes g gr in
            let z = same (promised.answer_law f i m acc o bytes g gr v d vs evs many ch sim h) in
            subst InPool (sym z)
            (record {
              unknown = judged_unknown m cells sim k.among;
              incomplete = judged_incomplete m cells sim (subst (Among _) k.shows.incomplete (stopped_among _ _));
            })
        by (simulator.refuses k lo hi h is z) = absurd
            (no (sym e ∙ promised.refuse_law f i m acc o bytes g gr v d vs evs many ch k h))
          where
            no : answer c ≡ refused k → ⊥
            no y = let b : ◌≡◌ {A = ℕ} 0 1 = cc in absurd (omega arith)
