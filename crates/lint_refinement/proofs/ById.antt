-- What each automation reads and writes, found by its identifier, and numbers in a row.
use Rattle.std.specs.Prelude.{if◌then◌else◌}
use mathlib.Core.Path.{◌≡◌, refl, sym, ap, ◌∙◌}
use mathlib.Core.Bool.{Bool, true, false}
use mathlib.Core.List.{List, [], ◌∷◌, ◌++◌, append-nil, append_assoc}
use mathlib.Core.Option.{Option, none, some}
use Prim.Native.Nat.{ℕ, zero, suc, ◌+◌, ◌-◌, ◌^◌, ◌≤◌, ◌<◌}
use native.Mathlib.Omega.{arith}
use lib.Dec.{eqb}
use lib.ListN.{length, get_or, set, take, replicate, length-append}
use lib.Seq.{set-append_seam}
use borrow.Author.Tests.{ne_eqb}
use Rattle.engine_spec.proofs.Bounds.{length_each}
use Rattle.texts.specs.Lists.{keep, find, each, flat}
use Rattle.texts.specs.Texts.{Text, eq_t, lt_t, mem_t}
use Rattle.texts.proofs.Ordering.{eq_refl}
use Rattle.model_spec.specs.Model.{Automation, Model}
use Rattle.model_walk.proofs.Found.{Case, is_true, is_false, case}
use Rattle.model_parts.specs.declared.Section.{Section}
use Rattle.engine_spec.proofs.Lists.{Each}
use Rattle.model_spec.specs.Rewrite.{place_of}
use Rattle.lint_spec.specs.Lint.{Touched, insert, by_id}
use Rattle.lint_spec.specs.Reach.{places}
use Rattle.lint_spec.specs.Touches.{reads_of, writes_of}
use Rattle.lint_spec.specs.Words.{set_of}
use Rattle.lint_reach.specs.Sets.{holds, members}
use Rattle.lint_walk.specs.Walks.{walk_m}
use Rattle.lint_access.specs.Names.{name_at}
use Rattle.lint_access.specs.Sets.{reads_m, writes_m}
use Rattle.lint_access.proofs.Refines.{members_below, reads_inside, writes_inside}
use Rattle.lint_conditions.specs.declared.Names.{Names}
use Rattle.lint_collect.specs.Collect.{fill_m}
use Rattle.lint_spec.specs.Numbers.{
  padded,
  entities_of,
  declared_set,
  undeclared,
  stranger_places,
  stranger_readers,
}
use Rattle.lint_refinement.proofs.Lists.{mem_at}
use Rattle.lint_refinement.proofs.Sets.{once_at, eqb_suc, set_members, places_at}
use Rattle.lint_refinement.proofs.FileFacts.{
  Stage,
  no_rule,
  each_at,
  writes_small,
  reads_small,
  rule_start,
  rule_of,
  rule_at_lem,
  walked_at,
}
use Rattle.lint_refinement.proofs.Undeclared.{places_below}
use Rattle.lint_refinement.proofs.Cycled.{each_each, places_long}
use Rattle.lint_refinement.proofs.Rules.{es, names, ids, names_once, reads_listed, writes_listed}

-- ---- by identifier

module _ (f : Automation → List Text) (id : Text) where
  abbrev has_id : Touched → Bool
  has_id t = eq_t t.automation id

  find_other : (t : Touched) (l : List Touched) → has_id t ≡ false → find has_id (insert t l) ≡ find has_id l
  unfolding find insert
  find_other t [] h = rw h
  find_other t (x ∷ l) h = cases (lt_t t.automation x.automation) (has_id x) (find_other t l h)
    where
      cases : (b c : Bool) → find has_id (insert t l) ≡ find has_id l →
          find has_id (if b then t ∷ x ∷ l else x ∷ insert t l) ≡ find has_id (x ∷ l)
      cases true c ih = rw h
      cases false c ih = rw ih

  find_here : (t : Touched) (l : List Touched) → has_id t ≡ true → find has_id l ≡ none → find has_id (insert t l) ≡ some t
  unfolding find insert
  find_here t [] h e = rw h
  find_here t (x ∷ l) h e = cases (lt_t t.automation x.automation) (case (has_id x)) (λ k. find_here t l h k)
    where
      cases : (b : Bool) → Case (has_id x) → (find has_id l ≡ none → find has_id (insert t l) ≡ some t) →
          find has_id (if b then t ∷ x ∷ l else x ∷ insert t l) ≡ some t
      cases true c ih = rw h
      cases false (is_true c) ih = let z : some x ≡ none = sym (rw c) ∙ e in let q : ◌≡◌ {A = ℕ} 0 1 = cc in
          absurd (omega arith)
      cases false (is_false c) ih = rw c (ih (rw c at e))

  none_here : (rs : List Automation) → ((j : ℕ) → j < length rs → eq_t (get_or rs j no_rule).id id ≡ false) →
      find has_id (by_id f rs) ≡ none
  unfolding find by_id
  none_here [] h = refl
  none_here (r ∷ rs) h = find_other (record { automation = r.id; entities = f r }) (by_id f rs) (h 0 (omega arith))
      ∙ none_here rs (λ j b. h (suc j) (omega arith))

found_by_id : (f : Automation → List Text) (rs : List Automation) →
    ((i j : ℕ) → i < length rs → j < length rs → eq_t (get_or rs i no_rule).id (get_or rs j no_rule).id ≡ eqb i j) →
    (i : ℕ) → i < length rs → entities_of (by_id f rs) (get_or rs i no_rule).id ≡ f (get_or rs i no_rule)
unfolding entities_of by_id
found_by_id f [] o i h = absurd (omega arith)
found_by_id f (r ∷ rs) o zero h =
    let t : Touched = record { automation = r.id; entities = f r } in
    let z = find_here f r.id t (by_id f rs) (eq_refl r.id)
    (none_here f r.id rs (λ j b. o (suc j) 0 (omega arith) (omega arith) ∙ ne_eqb (suc j) 0 (λ e. omega arith))) in
    ap (λ (x : Option Touched). elim x [ none ↦ [] | some t ↦ t.entities ]) z
found_by_id f (r ∷ rs) o (suc i) h =
    let t : Touched = record { automation = r.id; entities = f r } in
    let x = (get_or rs i no_rule).id in
    let z = find_other f x t (by_id f rs) (o 0 (suc i) (omega arith) (omega arith) ∙ ne_eqb 0 (suc i) (λ e. omega arith)) in
    ap (λ (x : Option Touched). elim x [ none ↦ [] | some t ↦ t.entities ]) z
    ∙ found_by_id f rs (λ a b p q. o (suc a) (suc b) (omega arith) (omega arith) ∙ eqb_suc a b) i (omega arith)

-- ---- numbers in a row

filled : (g : ℕ → ℕ) (n k r : ℕ) (l : List ℕ) → length l ≡ k →
    fill_m g n k (l ++ replicate (n + r) 0) ≡ (l ++ each g (places n k)) ++ replicate r 0
unfolding fill_m places each
filled g zero k r l e =
    let z : 0 + r ≡ r = omega arith in
    rw (z, append-nil l)
filled g (suc n) k r l e =
    let z : suc n + r ≡ suc (n + r) = omega arith in
    let y : set (l ++ replicate (suc n + r) 0) k (g k) ≡ (l ++ g k ∷ []) ++ replicate (n + r) 0 =
    ap (λ (m : ℕ). set (l ++ replicate m 0) k (g k)) z ∙ ap (λ (m : ℕ). set (l ++ 0 ∷ replicate (n + r) 0) m (g k)) (sym e)
    ∙ set-append_seam l 0 (replicate (n + r) 0) (g k) ∙ sym (append_assoc l (g k ∷ []) (replicate (n + r) 0)) in
    ap (fill_m g n (k + 1)) y
    ∙ filled g n (k + 1) r (l ++ g k ∷ []) (length-append l (g k ∷ []) ∙ ap (λ (m : ℕ). m + 1) e)
    ∙ ap (λ (m : List ℕ). m ++ replicate r 0) (append_assoc l (g k ∷ []) (each g (places n (k + 1))))

pub fill_padded : (g : ℕ → ℕ) (n : ℕ) → n ≤ 32 → fill_m g n 0 (replicate 32 0) ≡ padded 32 (each g (places n 0))
unfolding padded
fill_padded g n h =
    let z : 32 ≡ n + (32 - n) = omega arith in
    let y : length (each g (places n 0)) ≡ n = length_each g (places n 0) ∙ places_long n 0 in
    ap (λ (m : ℕ). fill_m g n 0 (replicate m 0)) z
    ∙ filled g n 0 (32 - n) [] refl
    ∙ ap (λ (m : ℕ). each g (places n 0) ++ replicate (32 - m) 0) (sym y)

each_from : {B : Type 0} (f : Automation → B) (g : ℕ → B) (l : List Automation) (k : ℕ) →
    ((j : ℕ) → j < length l → f (get_or l j no_rule) ≡ g (k + j)) → each f l ≡ each g (places (length l) k)
unfolding each places
each_from f g [] k h = refl
each_from f g (x ∷ l) k h =
    let z : k + 0 ≡ k = omega arith in
    ap (λ (y : _). y ∷ each f l) (h 0 (omega arith) ∙ ap g z)
    ∙ ap (λ (y : List _). g k ∷ y) (each_from f g l (k + 1)
    (λ j b. let y : k + suc j ≡ k + 1 + j = omega arith in h (suc j) (omega arith) ∙ ap g y))

pub each_numbered : {B : Type 0} (f : Automation → B) (g : ℕ → B) (l : List Automation) →
    ((j : ℕ) → j < length l → f (get_or l j no_rule) ≡ g j) → each f l ≡ each g (places (length l) 0)
each_numbered f g l h = each_from f g l 0 (λ j b. let z : j ≡ 0 + j = omega arith in h j b ∙ ap g z)

taken : (l : List ℕ) (n k : ℕ) (all : List ℕ) → n ≤ length l → ((j : ℕ) → j < n → get_or all (k + j) 0 ≡ get_or l j 0) →
    each (λ i. get_or all i 0) (places n k) ≡ take n l
unfolding each places
taken l zero k all h e = refl
taken [] (suc n) k all h e = absurd (omega arith)
taken (x ∷ l) (suc n) k all h e =
    let z : k + 0 ≡ k = omega arith in
    ap (λ (y : ℕ). y ∷ each (λ i. get_or all i 0) (places n (k + 1)))
    (ap (λ (j : ℕ). get_or all j 0) (sym z) ∙ e 0 (omega arith))
    ∙ ap (λ (y : List ℕ). x ∷ y) (taken l n (k + 1) all (omega arith)
    (λ j b. let y : k + 1 + j ≡ k + suc j = omega arith in ap (λ (i : ℕ). get_or all i 0) y ∙ e (suc j) (omega arith)))

pub first_taken : (l : List ℕ) (n : ℕ) → n ≤ length l → each (λ i. get_or l i 0) (places n 0) ≡ take n l
first_taken l n h = taken l n 0 l h (λ j b. let z : 0 + j ≡ j = omega arith in rw z)

pub every : (P : ℕ → Type 0) (l : List ℕ) → ((j : ℕ) → j < length l → P (get_or l j 0)) → Each P l
every P [] h = tt
every P (x ∷ l) h = (h 0 (omega arith), every P l (λ j b. h (suc j) (omega arith)))

keep_every : (p : Text → Bool) (l : List Text) → ((j : ℕ) → j < length l → p (get_or l j []) ≡ true) → keep p l ≡ l
unfolding keep
keep_every p [] h = refl
keep_every p (x ∷ l) h =
    rw (h 0 (omega arith)) (ap (λ (y : List Text). x ∷ y) (keep_every p l (λ j b. h (suc j) (omega arith))))

pub flat_each : {A B C : Type 0} (f : B → List C) (g : A → B) (l : List A) → flat f (each g l) ≡ flat (λ a. f (g a)) l
unfolding flat each
flat_each f g [] = refl
flat_each f g (x ∷ l) = ap (λ (y : List _). f (g x) ++ y) (flat_each f g l)

flat_same : {B : Type 0} (f g : Automation → List B) (l : List Automation) →
    ((j : ℕ) → j < length l → f (get_or l j no_rule) ≡ g (get_or l j no_rule)) → flat f l ≡ flat g l
unfolding flat
flat_same f g [] h = refl
flat_same f g (x ∷ l) h = ap (λ (y : List _). y ++ flat f l) (h 0 (omega arith))
    ∙ ap (λ (y : List _). g x ++ y) (flat_same f g l (λ j b. h (suc j) (omega arith)))

-- ---- reads and writes

module _ {s : List ℕ} {d : Names} {rs : Section} {ts : List Text} {m : Model} (st : Stage s d rs ts m) where
  pub ids_apart : (i j : ℕ) → i < length m.rules → j < length m.rules →
      eq_t (get_or m.rules i no_rule).id (get_or m.rules j no_rule).id ≡ eqb i j
  ids_apart i j h k =
      let n = length_each (λ r. r.id) m.rules in
      ap (λ (t : Text). eq_t t (get_or m.rules j no_rule).id) (sym (each_at (λ r. r.id) [] no_rule m.rules i h))
      ∙ ap (eq_t (get_or (ids st) i [])) (sym (each_at (λ r. r.id) [] no_rule m.rules j k))
      ∙ once_at (ids st) st.ids i j (omega arith) (omega arith)

  pub touched : (f : Automation → List Text) (i : ℕ) → i < length m.rules →
      entities_of (by_id f m.rules) (rule_of st i).id ≡ f (rule_of st i)
  touched f i h = found_by_id f m.rules ids_apart i h

  -- the set of a list of declared names
  pub set_is : (x : ℕ) → x < 2 ^ 32 → (n : ℕ) → n ≤ length (es st) → members x ≡ keep (holds x) (places n 0) →
      set_of (each (λ t. place_of t (names st)) (each (name_at (es st)) (members x))) ≡ x
  unfolding name_at
  set_is x h n k e =
      let l = length_each (λ e. e.name) (es st) in
      ap set_of (places_at (names st) (names_once st) (members x) (λ j b.
      let y = places_below (holds x) n 0 j (rw (← e) b) in
      let z : get_or (members x) j 0 ≡ get_or (keep (holds x) (places n 0)) j 0 = ap (λ (l : List ℕ). get_or l j 0) e in
      omega arith))
      ∙ set_members x h

  few_entities : d.entities.count ≤ 32
  few_entities = omega (arith, st.grounds.counts, st.grounds.few)

  module _ (i : ℕ) (h : i < length m.rules) where
    abbrev R : ℕ
    R = reads_m s d.entities (rule_start st i) (walk_m s (rule_start st i))

    abbrev W : ℕ
    W = writes_m s d.entities (walk_m s (rule_start st i))

    pub reads_set : declared_set (names st) (reads_of (rule_of st i)) ≡ R
    unfolding declared_set
    reads_set =
        ap (λ (l : List Text). set_of (each (λ t. place_of t (names st)) l)) (reads_listed st i h)
        ∙ set_is R (reads_small s d.entities few_entities (rule_start st i) (walk_m s (rule_start st i))) (length (es st))
        (omega arith)
        (members_below s d.entities ts (es st) st.grounds R
        (reads_inside s d.entities ts (es st) st.grounds (rule_start st i) (walk_m s (rule_start st i))
        (rule_of st i) (rule_at_lem st i h) (walked_at st i h)))

    below_writes : members W ≡ keep (holds W) (places (length (es st)) 0)
    below_writes = members_below s d.entities ts (es st) st.grounds W
        (writes_inside s d.entities ts (es st) st.grounds (rule_start st i) (walk_m s (rule_start st i)) (rule_of st i)
        (rule_at_lem st i h) (walked_at st i h))

    pub writes_set : declared_set (names st) (writes_of (rule_of st i)) ≡ W
    unfolding declared_set name_at
    writes_set =
        let l = length_each (λ e. e.name) (es st) in
        ap (λ (l : List Text). set_of (each (λ t. place_of t (names st)) (keep (λ t. mem_t t (names st)) l)))
        (writes_listed st i h)
        ∙ ap (λ (l : List Text). set_of (each (λ t. place_of t (names st)) l))
        (keep_every (λ t. mem_t t (names st)) (each (name_at (es st)) (members W)) (λ j b.
        let c : j < length (members W) = omega (arith, length_each (name_at (es st)) (members W)) in
        let y = places_below (holds W) (length (es st)) 0 j (rw (← below_writes) c) in
        let z : get_or (members W) j 0 ≡ get_or (keep (holds W) (places (length (es st)) 0)) j 0 =
        ap (λ (l : List ℕ). get_or l j 0) below_writes in
        ap (λ (t : Text). mem_t t (names st)) (each_at (name_at (es st)) [] 0 (members W) j c)
        ∙ mem_at (names st) (get_or (members W) j 0) (omega arith)))
        ∙ set_is W (writes_small s d.entities few_entities (walk_m s (rule_start st i))) (length (es st)) (omega arith)
        below_writes

  -- by identifier, in the file's order
  pub reads_row : each (λ id. declared_set (names st) (entities_of (by_id reads_of m.rules) id)) (ids st)
      ≡ each (λ i. reads_m s d.entities (get_or rs.starts i 0) (walk_m s (get_or rs.starts i 0))) (places rs.count 0)
  reads_row =
      each_each (λ id. declared_set (names st) (entities_of (by_id reads_of m.rules) id)) (λ r. r.id) m.rules
      ∙ each_numbered (λ r. declared_set (names st) (entities_of (by_id reads_of m.rules) r.id))
      (λ i. reads_m s d.entities (get_or rs.starts i 0) (walk_m s (get_or rs.starts i 0))) m.rules
      (λ j h. ap (declared_set (names st)) (touched reads_of j h) ∙ reads_set j h)
      ∙ ap (λ (n : ℕ). each (λ i. reads_m s d.entities (get_or rs.starts i 0) (walk_m s (get_or rs.starts i 0)))
      (places n 0)) (sym st.rules.counts)

  pub writes_row : each (λ id. declared_set (names st) (entities_of (by_id writes_of m.rules) id)) (ids st)
      ≡ each (λ i. writes_m s d.entities (walk_m s (get_or rs.starts i 0))) (places rs.count 0)
  writes_row =
      each_each (λ id. declared_set (names st) (entities_of (by_id writes_of m.rules) id)) (λ r. r.id) m.rules
      ∙ each_numbered (λ r. declared_set (names st) (entities_of (by_id writes_of m.rules) r.id))
      (λ i. writes_m s d.entities (walk_m s (get_or rs.starts i 0))) m.rules
      (λ j h. ap (declared_set (names st)) (touched writes_of j h) ∙ writes_set j h)
      ∙ ap (λ (n : ℕ). each (λ i. writes_m s d.entities (walk_m s (get_or rs.starts i 0))) (places n 0))
      (sym st.rules.counts)

  -- the undeclared names
  pub places_row : stranger_places ts (names st) (ids st) (by_id reads_of m.rules)
      ≡ flat (λ r. each (λ t. place_of t ts) (undeclared (names st) (reads_of r))) m.rules
  unfolding stranger_places
  places_row =
      flat_each (λ id. each (λ t. place_of t ts) (undeclared (names st) (entities_of (by_id reads_of m.rules) id)))
      (λ r. r.id) m.rules
      ∙ flat_same _ (λ r. each (λ t. place_of t ts) (undeclared (names st) (reads_of r))) m.rules
      (λ j h. ap (λ (l : List Text). each (λ t. place_of t ts) (undeclared (names st) l)) (touched reads_of j h))

  pub readers_row : stranger_readers (names st) (ids st) (by_id reads_of m.rules)
      ≡ flat (λ r. each (λ t. place_of r.id (ids st)) (undeclared (names st) (reads_of r))) m.rules
  unfolding stranger_readers
  readers_row =
      flat_each (λ id. each (λ t. place_of id (ids st)) (undeclared (names st) (entities_of (by_id reads_of m.rules) id)))
      (λ r. r.id) m.rules
      ∙ flat_same _ (λ r. each (λ t. place_of r.id (ids st)) (undeclared (names st) (reads_of r))) m.rules
      (λ j h. ap (λ (l : List Text). each (λ t. place_of (rule_of st j).id (ids st)) (undeclared (names st) l))
      (touched reads_of j h))
