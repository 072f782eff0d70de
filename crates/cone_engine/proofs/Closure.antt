-- The cone of an accepted model: it holds the start, and nothing is left to add (`facts`), so its automations are good for
-- the engine (`cone_good`); and it is the least such pair (`cone_is_least`).
use Rattle.std.specs.Prelude.{if◌then◌else◌}
use Prim.Native.Nat.{ℕ, zero, suc, ◌+◌, ◌≤◌}
use mathlib.Core.Bool.{Bool, true, false, not, ◌&&◌, ◌||◌, true≢false, false≢true}
use mathlib.Core.List.{List, [], ◌∷◌, ◌++◌}
use mathlib.Core.Option.{Option, none, some}
use mathlib.Core.Logic.{◌⊎◌, inl, inr}
use mathlib.Core.Path.{◌≡◌, refl, sym, ap, ◌∙◌, subst}
use native.Mathlib.Omega.{arith}
use lib.ListN.{length}
use Rattle.texts.specs.Lists.{absent, absent_or, listed, any, all, keep, each, flat}
use Rattle.texts.specs.Texts.{Text, eq_t, mem_t}
use Rattle.model_spec.specs.Model.{Automation, Invariant, Model}
use Rattle.lint_spec.specs.Touches
use Rattle.lint_spec.specs.Touches.{
  Action,
  walk,
  actions_of,
  Write,
  written_by,
  toggles,
  predicate_reads,
  effect_reads,
  reads_of,
  writes_of,
  toggles_of,
}
use Rattle.cone_spec.specs.Cone.{
  Cone,
  names,
  needs,
  writes_one,
  passing,
  pick,
  close,
  cone_of,
  Among,
  here,
  later,
  Closed,
  ConeIsLeast,
}
use Rattle.cone_engine.proofs.Base.{
  Case,
  is_true,
  is_false,
  case,
  and_l,
  and_r,
  and_i,
  or_l,
  or_r,
  or_no',
  eq_t_eq,
  eq_t_same,
  Every,
  any_append,
  all_i,
  all_l,
  all_r,
  all_weaken,
  all_both,
  any_not,
  all_flat,
  any_flat,
  all_each,
  any_each,
  all_sorted,
  any_sorted,
  keep_each,
}
use Rattle.engine_spec.proofs.Distinct.{Fresh, accepted_fresh}
use Rattle.cone_engine.proofs.Steps

-- ---- membership

mem_here : (x y : Text) (l : List Text) → x ≡ y → mem_t x (y ∷ l) ≡ true
unfolding mem_t any
mem_here x y l e = or_l (eq_t x y) _ (ap (eq_t x) (sym e) ∙ eq_t_same x)

mem_later : (x y : Text) (l : List Text) → mem_t x l ≡ true → mem_t x (y ∷ l) ≡ true
unfolding mem_t any
mem_later x y l h = or_r (eq_t x y) _ h

pub mem_append : (x : Text) (l m : List Text) → mem_t x (l ++ m) ≡ (mem_t x l || mem_t x m)
unfolding mem_t
mem_append x l m = any_append (eq_t x) l m

pub all_mem : (l : List Text) (p : Text → Bool) → ((x : Text) → mem_t x l ≡ true → p x ≡ true) → all p l ≡ true
unfolding all
all_mem [] p h = refl
all_mem (x ∷ l) p h = and_i (p x) (all p l) (h x (mem_here x x l refl)) (all_mem l p (λ y q. h y (mem_later y x l q)))

mem_all : (l : List Text) (p : Text → Bool) → all p l ≡ true → (x : Text) → mem_t x l ≡ true → p x ≡ true
unfolding all mem_t any
mem_all [] p h x q = absurd (false≢true q)
mem_all (y ∷ l) p h x q = go (case (eq_t x y)) (mem_all l p (and_r (p y) (all p l) h) x)
  where
    go : Case (eq_t x y) → (mem_t x l ≡ true → p x ≡ true) → p x ≡ true
    go (is_true a) ih = ap p (eq_t_eq x y a) ∙ and_l (p y) (all p l) h
    go (is_false a) ih = ih (rw a at q)

mem_keep : (p : Text → Bool) (x : Text) (l : List Text) → mem_t x (keep p l) ≡ (mem_t x l && p x)
unfolding mem_t any keep
mem_keep p x [] = refl
mem_keep p x (y ∷ l) = go (case (p y)) (case (eq_t x y)) (mem_keep p x l)
  where
    go : Case (p y) → Case (eq_t x y) → mem_t x (keep p l) ≡ (mem_t x l && p x)
        → mem_t x (if p y then y ∷ keep p l else keep p l) ≡ ((eq_t x y || mem_t x l) && p x)
    go (is_true a) (is_true b) ih = rw (a, b) (sym (ap p (eq_t_eq x y b) ∙ a))
    go (is_true a) (is_false b) ih = rw (a, b) ih
    go (is_false a) (is_true b) ih =
        rw (a, b) (ih ∙ no (mem_t x l) (ap p (eq_t_eq x y b) ∙ a) ∙ sym (ap p (eq_t_eq x y b) ∙ a))
      where
        no : (c : Bool) → p x ≡ false → c && p x ≡ false
        no true h = h
        no false h = refl
    go (is_false a) (is_false b) ih = rw (a, b) ih

-- ---- members of a list of automations

abbrev ids : List Automation → List Text
ids l = each (λ r. r.id) l

among_id : (r : Automation) (l : List Automation) → Among r l → mem_t r.id (ids l) ≡ true
unfolding each
among_id r [] x' = elim x' [ ]
among_id r (q ∷ l) here = mem_here r.id r.id (ids l) refl
among_id r (q ∷ l) (later a) = mem_later r.id q.id (ids l) (among_id r l a)

no_among : (r : Automation) → Among r [] → ⊥
unfolding mem_t any each
no_among r a = false≢true (among_id r [] a)

id_among : (x : Text) (l : List Automation) → mem_t x (ids l) ≡ true → (q : Automation) × (Among q l × (x ≡ q.id))
unfolding each mem_t any
id_among x [] h = absurd (false≢true h)
id_among x (q ∷ l) h = go (case (eq_t x q.id)) (id_among x l)
  where
    go : Case (eq_t x q.id) → (mem_t x (ids l) ≡ true → (p : Automation) × (Among p l × (x ≡ p.id)))
        → (p : Automation) × (Among p (q ∷ l) × (x ≡ p.id))
    go (is_true a) ih = (q, (here, eq_t_eq x q.id a))
    go (is_false a) ih = let b : (p : Automation) × (Among p l × (x ≡ p.id)) = ih (rw a at h) in
        (b.0, (later b.1.0, b.1.1))

fresh_in : (is : List Text) (l : List Automation) → Fresh is l → (r : Automation) → Among r l → mem_t r.id is ≡ false
unfolding mem_t any
fresh_in is [] f r x'' = elim x'' [ ]
fresh_in is (q ∷ l) f r here = f.0
fresh_in is (q ∷ l) f r (later a) = or_no' (eq_t r.id q.id) (mem_t r.id is) (fresh_in (q.id ∷ is) l f.1 r a)

unique : (is : List Text) (l : List Automation) → Fresh is l → (q r : Automation) → Among q l → Among r l
    → r.id ≡ q.id → q ≡ r
unique is [] f q r x4 _ e = elim x4 [ ]
unique is (x ∷ l) f q r here here e = refl
unique is (x ∷ l) f q r here (later b) e =
    absurd (true≢false (sym (mem_here r.id q.id is e) ∙ fresh_in (q.id ∷ is) l f.1 r b))
unique is (x ∷ l) f q r (later a) here e =
    absurd (true≢false (sym (mem_here q.id r.id is (sym e)) ∙ fresh_in (r.id ∷ is) l f.1 q a))
unique is (x ∷ l) f q r (later a) (later b) e = unique (x.id ∷ is) l f.1 q r a b e

-- ---- one round

-- what the pick leaves
data Picked (es : List Text) (l : List Automation) : Option (Automation × List Automation) → Type 0 where
  no_writer : ((r : Automation) → Among r l → writes_one es r ≡ false) → Picked es l none
  writer : (q : Automation) (rest : List Automation) → Among q l → writes_one es q ≡ true
      → ((r : Automation) → Among r l → (q ≡ r) ⊎ Among r rest) → ((r : Automation) → Among r rest → Among r l)
      → length l ≡ suc (length rest) → Picked es l (some (q, rest))

picked : (es : List Text) (l : List Automation) → Picked es l (pick es l)
unfolding pick
picked es [] = no_writer (λ r a. absurd (no_among r a))
picked es (x ∷ l) = go (case (writes_one es x)) (picked es l)
  where
    split : (r : Automation) → Among r (x ∷ l) → (x ≡ r) ⊎ Among r l
    split r here = inl refl
    split r (later a) = inr a

    rest : {o : Option (Automation × List Automation)} → writes_one es x ≡ false → Picked es l o
        → Picked es (x ∷ l) (passing x o)
    rest w (no_writer h) = unfold passing in (no_writer all_no)
      where
        all_no : (r : Automation) → Among r (x ∷ l) → writes_one es r ≡ false
        all_no r here = w
        all_no r (later a) = h r a
    rest w (writer q m a y s k z) = unfold passing in (writer q (x ∷ m) (later a) y s' k' (ap suc z))
      where
        s' : (r : Automation) → Among r (x ∷ l) → (q ≡ r) ⊎ Among r (x ∷ m)
        s' r here = inr here
        s' r (later b) = by (s r b)
          where
            by : (q ≡ r) ⊎ Among r m → (q ≡ r) ⊎ Among r (x ∷ m)
            by (inl e) = inl e
            by (inr c) = inr (later c)

        k' : (r : Automation) → Among r (x ∷ m) → Among r (x ∷ l)
        k' r here = here
        k' r (later b) = later (k r b)

    go : Case (writes_one es x) → Picked es l (pick es l)
        → Picked es (x ∷ l) (if writes_one es x then some (x, l) else passing x (pick es l))
    go (is_true a) ih = rw a (writer x l here a split (λ r b. later b) refl)
    go (is_false a) ih = rw a (rest a ih)

-- ---- all rounds

abbrev inside_of : List Text → Text → Bool
inside_of es x = mem_t x es

-- what holds of the two sets once nothing is left to add
record Shut (rules : List Automation) (es : List Text) (c : Cone) : Type 0 where
  grows : (x : Text) → mem_t x es ≡ true → mem_t x c.entities ≡ true
  taken : (r : Automation) → Among r rules → mem_t r.id c.automations ≡ true
      → all (inside_of c.entities) (needs r) ≡ true
  left_out : (r : Automation) → Among r rules → mem_t r.id c.automations ≡ false → writes_one c.entities r ≡ false

module _ (rules : List Automation) (fresh : Fresh [] rules) where
  -- before a round: the automations taken in, and those left
  record Before (es : List Text) (ins left : List Automation) : Type 0 where
    ours : (q : Automation) → Among q ins → Among q rules
    fed : (q : Automation) → Among q ins → all (inside_of es) (needs q) ≡ true
    theirs : (q : Automation) → Among q left → Among q rules
    parted : (r : Automation) → Among r rules → Among r ins ⊎ Among r left

  finished : (es : List Text) (ins left : List Automation) → Before es ins left
      → ((r : Automation) → Among r left → writes_one es r ≡ false)
      → Shut rules es (record { entities = es; automations = ids ins })
  finished es ins left b h = record {
    grows = λ x q. q;
    taken = λ r a q. taken_in r a (id_among r.id ins q);
    left_out = λ r a q. apart r q (b.parted r a);
  }
    where
      taken_in : (r : Automation) → Among r rules → (q : Automation) × (Among q ins × (r.id ≡ q.id))
          → all (inside_of es) (needs r) ≡ true
      taken_in r a z = subst (λ (x : Automation). all (inside_of es) (needs x) ≡ true)
          (unique [] rules fresh z.0 r (b.ours z.0 z.1.0) a z.1.1) (b.fed z.0 z.1.0)

      apart : (r : Automation) → mem_t r.id (ids ins) ≡ false → Among r ins ⊎ Among r left → writes_one es r ≡ false
      apart r q (inl a) = absurd (true≢false (sym (among_id r ins a) ∙ q))
      apart r q (inr a) = h r a

  close_shut : (n : ℕ) (es : List Text) (ins left : List Automation) → length left ≤ n → Before es ins left
      → Shut rules es (close n es (ids ins) left)
  unfolding close each
  close_shut zero es ins [] z b = finished es ins [] b (λ r a. absurd (no_among r a))
  close_shut zero es ins (r ∷ l) z b = absurd (omega arith)
  close_shut (suc n) es ins left z b = go (picked es left) (close_shut n)
    where
      IH : Type 0
      IH = (es : List Text) (ins left : List Automation) → length left ≤ n → Before es ins left
          → Shut rules es (close n es (ids ins) left)

      go : {o : Option (Automation × List Automation)} → Picked es left o → IH
          → Shut rules es (elim o [
            | none ↦ record { entities = es; automations = ids ins }
            | some (r, rest) ↦ close n (es ++ needs r) (r.id ∷ ids ins) rest
          ])
      go (no_writer h) ih = finished es ins left b h
      go (writer q rest a w s k l) ih = on (ih (es ++ needs q) (q ∷ ins) rest (omega (arith, l)) after_it)
        where
          up : (x : Text) → mem_t x es ≡ true → mem_t x (es ++ needs q) ≡ true
          up x h = mem_append x es (needs q) ∙ or_l (mem_t x es) (mem_t x (needs q)) h

          new : (x : Text) → mem_t x (needs q) ≡ true → mem_t x (es ++ needs q) ≡ true
          new x h = mem_append x es (needs q) ∙ or_r (mem_t x es) (mem_t x (needs q)) h

          after_it : Before (es ++ needs q) (q ∷ ins) rest
          after_it = record {
            ours = ours';
            fed = fed';
            theirs = λ r c. b.theirs r (k r c);
            parted =
                λ r c. part r (b.parted r c);
          }
            where
              ours' : (r : Automation) → Among r (q ∷ ins) → Among r rules
              ours' r here = b.theirs q a
              ours' r (later c) = b.ours r c

              fed' : (r : Automation) → Among r (q ∷ ins) → all (inside_of (es ++ needs q)) (needs r) ≡ true
              fed' r here = all_mem (needs q) (inside_of (es ++ needs q)) new
              fed' r (later c) = all_weaken (inside_of es) (inside_of (es ++ needs q)) up (needs r) (b.fed r c)

              part : (r : Automation) → Among r ins ⊎ Among r left → Among r (q ∷ ins) ⊎ Among r rest
              part r (inl c) = inl (later c)
              part r (inr c) = by (s r c)
                where
                  by : (q ≡ r) ⊎ Among r rest → Among r (q ∷ ins) ⊎ Among r rest
                  by (inl e) = inl (subst (λ (x : Automation). Among x (q ∷ ins)) e here)
                  by (inr d) = inr d

          on : Shut rules (es ++ needs q) (close n (es ++ needs q) (q.id ∷ ids ins) rest)
              → Shut rules es (close n (es ++ needs q) (q.id ∷ ids ins) rest)
          on h = record { grows = λ x p. h.grows x (up x p); taken = h.taken; left_out = h.left_out }

-- ---- the cone of a model

unfoldable shut_of : Model → Cone
shut_of m = close (length m.rules) (flat names m.scenario.invariants) [] m.rules

pub record Facts (m : Model) : Type 0 where
  pub starts : (i : Invariant) → Among i m.scenario.invariants
      → all (inside_of (cone_of m).entities) (names i) ≡ true
  pub needed : (r : Automation) → Among r m.rules → mem_t r.id (cone_of m).automations ≡ true
      → all (inside_of (cone_of m).entities) (needs r) ≡ true
  pub spared : (r : Automation) → Among r m.rules → mem_t r.id (cone_of m).automations ≡ false
      → any (inside_of (cone_of m).entities) (writes_of r) ≡ false

mem_entity : (m : Model) (x : Text) → mem_t x (cone_of m).entities ≡ mem_t x (shut_of m).entities
unfolding cone_of shut_of mem_t
mem_entity m x = any_sorted (eq_t x) _

mem_rule : (m : Model) (r : Automation) → Among r m.rules
    → mem_t r.id (cone_of m).automations ≡ mem_t r.id (shut_of m).automations
unfolding cone_of shut_of
mem_rule m r a = mem_keep (λ id. mem_t id (shut_of m).automations) r.id (ids m.rules) ∙ rw (among_id r m.rules a)

all_same : (p q : Text → Bool) → ((x : Text) → p x ≡ q x) → (l : List Text) → all p l ≡ all q l
unfolding all
all_same p q h [] = refl
all_same p q h (x ∷ l) = rw (h x, all_same p q h l)

any_same : (p q : Text → Bool) → ((x : Text) → p x ≡ q x) → (l : List Text) → any p l ≡ any q l
unfolding any
any_same p q h [] = refl
any_same p q h (x ∷ l) = rw (h x, any_same p q h l)

mem_flat : (i : Invariant) (l : List Invariant) → Among i l → (x : Text) → mem_t x (names i) ≡ true
    → mem_t x (flat names l) ≡ true
unfolding flat
mem_flat i [] x4 x h = elim x4 [ ]
mem_flat i (j ∷ l) here x h = mem_append x (names i) (flat names l) ∙ or_l (mem_t x (names i)) _ h
mem_flat i (j ∷ l) (later a) x h = mem_append x (names j) (flat names l) ∙ or_r (mem_t x (names j)) _ (mem_flat i l a x h)

pub facts : (m : Model) → Fresh [] m.rules → Facts m
facts m f = record {
  starts = λ i a. all_same _ _ (mem_entity m) (names i)
      ∙ all_mem (names i) (inside_of (shut_of m).entities)
      (λ x h. s.grows x (mem_flat i m.scenario.invariants a x h));
  needed = λ r a h. all_same _ _ (mem_entity m) (needs r) ∙ s.taken r a (sym (mem_rule m r a) ∙ h);
  spared = λ r a h. any_same _ _ (mem_entity m) (writes_of r)
      ∙ (unfold writes_one in (s.left_out r a (sym (mem_rule m r a) ∙ h)));
}
  where
    s : Shut m.rules (flat names m.scenario.invariants) (shut_of m)
    s = unfold shut_of each in
        (close_shut m.rules f (length m.rules) (flat names m.scenario.invariants) [] m.rules (omega arith)
        (record {
          ours = λ q a. absurd (no_among q a);
          fed = λ q a. absurd (no_among q a);
          theirs = λ q a. a;
          parted =
              λ r a. inr a;
        }))

-- ---- the engine's premise

all_keep : {A : Type 0} (p q : A → Bool) (l : List A) → all p (keep q l) ≡ true → all (λ x. not (q x) || p x) l ≡ true
unfolding all keep
all_keep p q [] h = refl
all_keep {A} p q (x ∷ l) h = go (case (q x)) (all_keep p q l)
  where
    go : Case (q x) → (all p (keep q l) ≡ true → all (λ y. not (q y) || p y) l ≡ true)
        → (not (q x) || p x) && all (λ y. not (q y) || p y) l ≡ true
    go (is_true a) ih =
        let k : p x && all p (keep q l) ≡ true = rw a at h in
        and_i _ _ (or_r (not (q x)) (p x) (and_l (p x) _ k)) (ih (and_r (p x) _ k))
    go (is_false a) ih = and_i _ _ (or_l (not (q x)) (p x) (ap not a)) (ih (rw a at h))

module _ (in_e in_a : Text → Bool) where
  -- the parts of what an automation reads and toggles
  abbrev R1 : Automation → List Text
  R1 r = each (λ t. t.entity) (keep (λ t. absent t.note) r.triggers)

  abbrev R2 : Automation → List Text
  R2 r = flat (λ a. effect_reads a.effect) (actions_of r)

  abbrev R3 : Automation → List Text
  R3 r = flat predicate_reads r.conditions

  reads_open : (r : Automation) → all in_e (needs r) ≡ true → all in_e (R1 r ++ R2 r ++ R3 r) ≡ true
  unfolding needs reads_of
  reads_open r h = sym (all_sorted in_e (R1 r ++ R2 r ++ R3 r)) ∙ all_l in_e (reads_of r) (toggles_of r) h

  toggles_open : (r : Automation) → all in_e (needs r) ≡ true
      → all in_e (flat (λ a. toggles a.effect) (actions_of r)) ≡ true
  unfolding needs toggles_of
  toggles_open r h = sym (all_sorted in_e (flat (λ a. toggles a.effect) (actions_of r)))
      ∙ all_r in_e (reads_of r) (toggles_of r) h

  first_two : (r : Automation) → all in_e (needs r) ≡ true → all in_e (R1 r ++ R2 r) ≡ true
  first_two r h = all_l in_e (R1 r ++ R2 r) (R3 r) (reads_open r h)

  head_fine : (r : Automation) → all in_e (needs r) ≡ true → Steps.good_head in_e in_a r ≡ true
  unfolding Steps.good_head
  head_fine r h = and_i _ _ triggers (all_r in_e (R1 r ++ R2 r) (R3 r) (reads_open r h))
    where
      triggers : all (Steps.ok_trigger in_e in_a) r.triggers ≡ true
      triggers = all_weaken (λ t. not (absent t.note) || in_e t.entity) (Steps.ok_trigger in_e in_a)
          (λ t k. unfold Steps.ok_trigger in k) r.triggers
          (all_keep (λ t. in_e t.entity) (λ t. absent t.note) r.triggers
          (sym (all_each in_e (λ t. t.entity) (keep (λ t. absent t.note) r.triggers))
          ∙ all_l in_e (R1 r) (R2 r) (first_two r h)))

  acts_fine : (r : Automation) → all in_e (needs r) ≡ true → Steps.fine_acts in_e in_a true r.actions ≡ true
  unfolding Steps.fine_acts actions_of
  acts_fine r h =
      all_weaken (λ a. all in_e (effect_reads a.effect) && all in_e (toggles a.effect)) (Steps.fine in_e in_a true)
      (λ a k. unfold Steps.fine in k) (walk r.actions)
      (all_both (λ a. all in_e (effect_reads a.effect)) (λ a. all in_e (toggles a.effect)) (walk r.actions)
      (sym (all_flat in_e (λ a. effect_reads a.effect) (walk r.actions)) ∙ all_r in_e (R1 r) (R2 r) (first_two r h))
      (sym (all_flat in_e (λ a. toggles a.effect) (walk r.actions)) ∙ toggles_open r h))

  written : (r : Automation) → any in_e (writes_of r) ≡ false
      → any (λ w. in_e w.entity) (flat (λ a. listed (Touches.write a.source a.effect)) (walk r.actions)) ≡ false
  unfolding writes_of written_by actions_of
  written r h =
      sym (any_each in_e (λ w. w.entity) (flat (λ a. listed (Touches.write a.source a.effect)) (walk r.actions)))
      ∙ sym (any_sorted in_e (each (λ w. w.entity)
      (flat (λ a. listed (Touches.write a.source a.effect)) (walk r.actions)))) ∙ h

  writes_fine : (r : Automation) → any in_e (writes_of r) ≡ false → Steps.fine_acts in_e in_a false r.actions ≡ true
  unfolding Steps.fine_acts
  writes_fine r h =
      all_weaken (λ a. not (any (λ w. in_e w.entity) (listed (Touches.write a.source a.effect))))
      (Steps.fine in_e in_a false) out (walk r.actions)
      (any_not (λ a. any (λ w. in_e w.entity) (listed (Touches.write a.source a.effect))) (walk r.actions)
      (sym (any_flat (λ w. in_e w.entity) (λ a. listed (Touches.write a.source a.effect)) (walk r.actions))
      ∙ written r h))
    where
      out : (a : Action) → not (any (λ w. in_e w.entity) (listed (Touches.write a.source a.effect))) ≡ true
          → Steps.fine in_e in_a false a ≡ true
      out a k = unfold Steps.fine Steps.out_write in (go (Touches.write a.source a.effect) k)
        where
          go : (o : Option Write) → not (any (λ w. in_e w.entity) (listed o)) ≡ true
              → absent_or (λ w. not (in_e w.entity)) o ≡ true
          go none k = unfold absent_or in refl
          go (some w) k = unfold absent_or in (by (in_e w.entity) (unfold listed any in k))
            where
              by : (b : Bool) → not (b || false) ≡ true → not b ≡ true
              by true z = z
              by false z = refl

  pub good_from : (r : Automation) → (in_a r.id ≡ true → all in_e (needs r) ≡ true)
      → (in_a r.id ≡ false → any in_e (writes_of r) ≡ false) → Steps.good_rule in_e in_a r ≡ true
  unfolding Steps.good_rule
  good_from r p q = go (case (in_a r.id))
    where
      go : Case (in_a r.id) → (not (in_a r.id) || Steps.good_head in_e in_a r) && Steps.fine_acts in_e in_a
          (in_a r.id) r.actions ≡ true
      go (is_true a) = rw a (and_i (Steps.good_head in_e in_a r) _ (head_fine r (p a)) (acts_fine r (p a)))
      go (is_false a) = rw a (writes_fine r (q a))

every_among : {A : Type 0} (p : A → Bool) (l : List A) → ((x : A) → Among x l → p x ≡ true) → Every p l
every_among p [] h = tt
every_among p (x ∷ l) h = (h x here, every_among p l (λ y a. h y (later a)))

-- the cone's own tests
abbrev pub in_entities : Model → Text → Bool
in_entities m x = mem_t x (cone_of m).entities

abbrev pub in_automations : Model → Text → Bool
in_automations m id = mem_t id (cone_of m).automations

pub cone_good : (m : Model) → Fresh [] m.rules → Every (Steps.good_rule (in_entities m) (in_automations m)) m.rules
cone_good m f = every_among (Steps.good_rule (in_entities m) (in_automations m)) m.rules
    (λ r a. good_from (in_entities m) (in_automations m) r ((facts m f).needed r a) ((facts m f).spared r a))

pub cone_named : (m : Model) → Fresh [] m.rules → Every (λ i. all (in_entities m) (names i)) m.scenario.invariants
cone_named m f = every_among (λ i. all (in_entities m) (names i)) m.scenario.invariants (facts m f).starts

-- the identifiers are those of the automations inside
keep_among : (p q : Automation → Bool) (l : List Automation) → ((r : Automation) → Among r l → p r ≡ q r)
    → keep p l ≡ keep q l
unfolding keep
keep_among p q [] h = refl
keep_among p q (x ∷ l) h = rw (h x here, keep_among p q l (λ r a. h r (later a)))

pub autos : (m : Model) → (cone_of m).automations ≡ ids (keep (λ r. mem_t r.id (cone_of m).automations) m.rules)
autos m = listed_by m ∙ ap (each (λ r. r.id))
    (keep_among (λ r. mem_t r.id (shut_of m).automations) (λ r. mem_t r.id (cone_of m).automations) m.rules
    (λ r a. sym (mem_rule m r a)))
  where
    listed_by : (m : Model) → (cone_of m).automations ≡ ids
        (keep (λ r. mem_t r.id (shut_of m).automations) m.rules)
    listed_by m = unfold cone_of shut_of in
        (keep_each (λ r. r.id) (λ id. mem_t id (shut_of m).automations)
        (λ r. mem_t r.id (shut_of m).automations) (λ r. refl) m.rules)

-- ---- leastness

any_mem : (es : List Text) (p : Text → Bool) → all p es ≡ true → (l : List Text) → any (inside_of es) l ≡ true
    → any p l ≡ true
unfolding any
any_mem es p h [] k = k
any_mem es p h (x ∷ l) k = go (case (mem_t x es)) (any_mem es p h l)
  where
    go : Case (mem_t x es) → (any (inside_of es) l ≡ true → any p l ≡ true) → p x || any p l ≡ true
    go (is_true a) ih = or_l (p x) (any p l) (mem_all es p h x a)
    go (is_false a) ih = or_r (p x) (any p l) (ih (rw a at k))

all_kept : (p q : Text → Bool) → ((x : Text) → p x ≡ true → q x ≡ true) → (l : List Text) → all q (keep p l) ≡ true
unfolding all keep
all_kept p q h [] = refl
all_kept p q h (x ∷ l) = go (case (p x)) (all_kept p q h l)
  where
    go : Case (p x) → all q (keep p l) ≡ true → all q (if p x then x ∷ keep p l else keep p l) ≡ true
    go (is_true a) ih = rw a (and_i (q x) (all q (keep p l)) (h x a) ih)
    go (is_false a) ih = rw a ih

module _ (m : Model) (entity automation : Text → Bool) (k : Closed m entity automation) where
  close_least : (n : ℕ) (es as' : List Text) (left : List Automation)
      → ((r : Automation) → Among r left → Among r m.rules) → all entity es ≡ true → all automation as' ≡ true
      → (all entity (close n es as' left).entities ≡ true) × (all automation (close n es as' left).automations ≡ true)
  unfolding close
  close_least zero es as' left s x y = (x, y)
  close_least (suc n) es as' left s x y = go (picked es left) (close_least n)
    where
      IH : Type 0
      IH = (es as' : List Text) (left : List Automation) → ((r : Automation) → Among r left → Among r m.rules)
          → all entity es ≡ true → all automation as' ≡ true
          → (all entity (close n es as' left).entities ≡ true)
          × (all automation (close n es as' left).automations ≡ true)

      C : Option (Automation × List Automation) → Cone
      C o = elim o [
        | none ↦ record { entities = es; automations = as' }
        | some (r, rest) ↦ close n (es ++ needs r)
            (r.id ∷ as') rest
      ]

      go : {o : Option (Automation × List Automation)} → Picked es left o → IH
          → (all entity (C o).entities ≡ true) × (all automation (C o).automations ≡ true)
      go (no_writer h) ih = (x, y)
      go (writer q rest a w t u l) ih =
          ih (es ++ needs q) (q.id ∷ as') rest (λ r c. s r (u r c))
          (all_i entity es (needs q) x (k.needed q (s q a) named))
          (unfold all in (and_i (automation q.id) (all automation as') named y))
        where
          named : automation q.id ≡ true
          named = k.writers q (s q a) (any_mem es entity x (writes_of q) (unfold writes_one in w))

  all_start : (l : List Invariant) → ((i : Invariant) → Among i l → Among i m.scenario.invariants)
      → all entity (flat names l) ≡ true
  unfolding flat all
  all_start [] h = refl
  all_start (i ∷ l) h = all_i entity (names i) (flat names l) (k.start i (h i here)) (all_start l (λ j a. h j (later a)))

  cone_least : (all entity (cone_of m).entities ≡ true) × (all automation (cone_of m).automations ≡ true)
  unfolding cone_of shut_of all
  cone_least =
      let c : (all entity (shut_of m).entities ≡ true) × (all automation (shut_of m).automations ≡ true)
      = close_least (length m.rules) (flat names m.scenario.invariants) [] m.rules (λ r a. a)
      (all_start m.scenario.invariants (λ i a. a)) refl in (
        all_sorted entity (shut_of m).entities
            ∙ c.0,
        all_kept (inside_of (shut_of m).automations) automation
            (mem_all (shut_of m).automations automation c.1) (ids m.rules),
      )

cone_closed : (m : Model) → Fresh [] m.rules → Closed m (in_entities m) (in_automations m)
cone_closed m f = record { start = (facts m f).starts; writers = writers'; needed = (facts m f).needed }
  where
    writers' : (r : Automation) → Among r m.rules → any (in_entities m) (writes_of r) ≡ true
        → in_automations m r.id ≡ true
    writers' r a h = go (case (in_automations m r.id))
      where
        go : Case (in_automations m r.id) → in_automations m r.id ≡ true
        go (is_true b) = b
        go (is_false b) = absurd (true≢false (sym h ∙ (facts m f).spared r a b))

-- the theorem that Cone.antt states
pub cone_is_least : ConeIsLeast
cone_is_least file m e = record {
  closed = cone_closed m (accepted_fresh file m e);
  least =
      λ entity automation k. cone_least m entity automation k;
}
