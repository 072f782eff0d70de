-- Old files read as before: what the reader found before windows and the model's start came, it finds now, with a start of
-- zeros and no window; and such a model is accepted or refused as it was.
use Rattle.std.specs.Prelude.{if◌then◌else◌}
use Prim.Native.Nat.{ℕ, zero, suc, ◌≤◌}
use mathlib.Core.Path.{◌≡◌, refl, sym, ap, ◌∙◌, subst}
use mathlib.Core.Bool.{Bool, true, false, ◌&&◌, ◌||◌, false≢true}
use mathlib.Core.List.{List, [], ◌∷◌, ◌++◌}
use native.Mathlib.Omega.{arith}
use lib.Dec.{ltb}
use lib.ListN.{length, get_or}
use borrow.Author.Tests.{ltb-false}
use Rattle.texts.proofs.Bool.{and_both, and_left, and_right, or_false}
use Rattle.texts.specs.Lists.{◌▸◌, is_empty, all, each}
use Rattle.texts.specs.Texts.{Text, mem_t}
use Rattle.model_spec.specs.Answer as answers
use Rattle.model_spec.specs.Answer.{answer, refused, Verdict, ◌and◌, ◌when◌, each_accepted}
use Rattle.model_spec.specs.Notes.{notes_of}
use Rattle.model_spec.specs.Model.{
  Entity,
  Moment,
  Predicate,
  state,
  window,
  Actions,
  Invariant,
  never,
  guard,
  transition,
  response,
  id_of,
  Model,
  midnight,
  is_window,
}
use Rattle.model_spec.specs.Windows.{
  no_window,
  windowless_effect,
  windowless_actions,
  windowless_branches,
  windowless_rule,
  windowless_invariant,
  windowless,
}
use Rattle.model_spec.specs.File.{
  Got,
  got,
  broken,
  Reader,
  ◌>>=◌,
  give,
  refuse,
  u16,
  u32,
  times,
  counted,
  kinds,
  flag,
  or_zeros,
  source,
  start,
  mode,
  limits,
  place,
  predicate,
  trigger,
  input,
  invariant,
  branches,
  effect,
  actions_of,
  actions,
  automation,
  head,
  events,
  made,
  model,
  decoded,
  decode,
}
use Rattle.model_spec.specs.Validate.{
  bad_title,
  bad_size,
  bad_limits,
  bad_start,
  bad_alphabet,
  bad_events,
  bad_length,
  day,
  check_value,
  check_predicate,
  check_stated,
  check_entity,
  check_input,
  check_conditions,
  check_invariant,
  check_invariants,
  check_rules,
  validate,
  accepted,
}
use Rattle.model_spec.specs.Old as old

-- ---- two readers, of which the second finds all that the first finds

-- what r finds, r' finds at the same place, and it has the property
abbrev Keeps : {A : Type 0} → (r r' : Reader A) → (A → Type 0) → Type 0
Keeps {A} r r' P = (s : List ℕ) (p : ℕ) (a : A) (q : ℕ) → r s p ≡ got a q → (r' s p ≡ got a q) × P a

-- the same of what r finds up to the end of the file
abbrev KeepsToEnd : {A : Type 0} → (r r' : Reader A) → (A → Type 0) → Type 0
KeepsToEnd {A} r r' P =
    (s : List ℕ) (p : ℕ) (a : A) (q : ℕ) → length s ≤ q → r s p ≡ got a q → (r' s p ≡ got a q) × P a

abbrev any_value : {A : Type 0} → A → Type 0
any_value a = Unit {0}

never_got : {A : Type 0} {a : A} {q : ℕ} → broken ≡ got a q → ⊥
never_got e = let z : ◌≡◌ {A = ℕ} 0 1 = cc in omega arith

got_same : {A : Type 0} {a b : A} {p q : ℕ} → got a p ≡ got b q → a ≡ b
got_same e = cc

got_next : {A : Type 0} {a b : A} {p q : ℕ} → got a p ≡ got b q → p ≡ q
got_next e = cc

k_same : {A : Type 0} (r : Reader A) → Keeps r r any_value
k_same r s p a q e = (e, tt)

k_give : {A : Type 0} (P : A → Type 0) (a : A) → P a → Keeps (give a) (give a) P
unfolding give
k_give P a h s p b q e = (e, subst P (got_same e) h)

k_refuse : {A : Type 0} (r : Reader A) (P : A → Type 0) → Keeps refuse r P
unfolding refuse
k_refuse r P s p a q e = absurd (never_got e)

k_bind : {A B : Type 0} (r r' : Reader A) (k k' : A → Reader B) {P : A → Type 0} {Q : B → Type 0} → Keeps r r' P
    → ((a : A) → P a → Keeps (k a) (k' a) Q) → Keeps (r >>= k) (r' >>= k') Q
unfolding ◌>>=◌
k_bind {A} r r' k k' {P} {Q} f g s p b q e = go (r s p) refl e
  where
    go : (x : Got A) → r s p ≡ x → elim x [ got a next ↦ k a s next | broken ↦ broken ] ≡ got b q
        → (elim (r' s p) [ got a next ↦ k' a s next | broken ↦ broken ] ≡ got b q) × Q b
    go (got a n) d c =
        let y = f s p a n d in
        let z = g a y.1 s n b q c in
        (rw y.0 z.0, z.1)
    go broken d c = absurd (never_got c)

end_bind : {A B : Type 0} (r r' : Reader A) (k k' : A → Reader B) {P : A → Type 0} {Q : B → Type 0} → Keeps r r' P
    → ((a : A) → P a → KeepsToEnd (k a) (k' a) Q) → KeepsToEnd (r >>= k) (r' >>= k') Q
unfolding ◌>>=◌
end_bind {A} r r' k k' {P} {Q} f g s p b q l e = go (r s p) refl e
  where
    go : (x : Got A) → r s p ≡ x → elim x [ got a next ↦ k a s next | broken ↦ broken ] ≡ got b q
        → (elim (r' s p) [ got a next ↦ k' a s next | broken ↦ broken ] ≡ got b q) × Q b
    go (got a n) d c =
        let y = f s p a n d in
        let z = g a y.1 s n b q l c in
        (rw y.0 z.0, z.1)
    go broken d c = absurd (never_got c)

le-ltb : (m n : ℕ) → n ≤ m → ltb m n ≡ false
le-ltb m n h = go (ltb m n) refl
  where
    go : (b : Bool) → ltb m n ≡ b → ltb m n ≡ false
    go true e = absurd (omega (arith, borrow.Author.Tests.ltb-true m n e))
    go false e = e

-- a group of fields that the file ends before
pub zeros_at_end : {A : Type 0} (z : A) (r : Reader A) (s : List ℕ) (p : ℕ) → length s ≤ p → or_zeros z r s p ≡ got z p
unfolding or_zeros
zeros_at_end z r s p h = rw (le-ltb p (length s) h)

end_zeros : {A B : Type 0} (P : B → Type 0) (z : A) (r : Reader A) (f : A → B) → P (f z)
    → KeepsToEnd (give (f z)) (or_zeros z r >>= λ a. give (f a)) P
unfolding give ◌>>=◌
end_zeros {A} {B} P z r f h s p b q l e =
    let o = zeros_at_end z r s p (subst (λ (x : ℕ). length s ≤ x) (sym (got_next e)) l) in (
      ap (λ (x : Got A). ◌▸◌ {B = Got B} x (elim [ got a next ↦ got (f a) next | broken ↦ broken ])) o ∙ e,
      subst P (got_same e) h,
    )

-- ---- lists and kinds

abbrev Passes : {A : Type 0} → (A → Bool) → A → Type 0
Passes t a = t a ≡ true

k_times : {A : Type 0} (r r' : Reader A) (t : A → Bool) → Keeps r r' (Passes t) → (n : ℕ)
    → Keeps (times n r) (times n r') (Passes (all t))
unfolding times all
k_times r r' t f zero = k_give (Passes (all t)) [] refl
k_times r r' t f (suc n) =
    k_bind _ _ _ _ f λ x h. k_bind _ _ _ _ (k_times r r' t f n) λ xs k.
    k_give (Passes (all t)) (x ∷ xs) (and_both (t x) (all t xs) h k)

k_counted : {A : Type 0} (r r' : Reader A) (t : A → Bool) → Keeps r r' (Passes t)
    → Keeps (counted r) (counted r') (Passes (all t))
unfolding counted
k_counted r r' t f = k_bind _ _ _ _ (k_same u16) λ n _. k_times r r' t f n

-- kind by kind; the second list may go on
abbrev Both : {A : Type 0} → (rs rs' : List (Reader A)) → (A → Type 0) → Type 0
Both [] rs' P = Unit {0}
Both (r ∷ rs) [] P = ⊥
Both (r ∷ rs) (r' ∷ rs') P = Keeps r r' P × Both rs rs' P

k_at : {A : Type 0} (P : A → Type 0) (rs rs' : List (Reader A)) → Both rs rs' P → (k : ℕ)
    → Keeps (get_or rs k refuse) (get_or rs' k refuse) P
k_at P [] rs' f k = k_refuse _ P
k_at P (r ∷ rs) [] f k = absurd f
k_at P (r ∷ rs) (r' ∷ rs') f zero = f.0
k_at P (r ∷ rs) (r' ∷ rs') f (suc k) = k_at P rs rs' f.1 k

k_kinds : {A : Type 0} (P : A → Type 0) (rs rs' : List (Reader A)) → Both rs rs' P → Keeps (kinds rs) (kinds rs') P
unfolding kinds
k_kinds P rs rs' f = k_bind _ _ _ _ (k_same _) λ k _. k_at P rs rs' f k

-- ---- the parts

module _ (ts : List Text) where
  k_predicate : Keeps (old.predicate ts) (predicate ts) (Passes no_window)
  unfolding old.predicate predicate no_window is_window
  k_predicate = k_kinds _ _ _ (
    k_bind _ _ _ _ (k_same (place ts)) λ e _. k_bind _ _ _ _ (k_same (place ts)) λ v _. k_give _ _ refl,
    (k_bind _ _ _ _ (k_same (place ts)) λ r _. k_give _ _ refl, tt),
  )

  k_predicates : Keeps (counted (old.predicate ts)) (counted (predicate ts)) (Passes (all no_window))
  k_predicates = k_counted _ _ no_window k_predicate

  k_invariant : Keeps (old.invariant ts) (invariant ts) (Passes windowless_invariant)
  unfolding old.invariant invariant windowless_invariant
  k_invariant = k_kinds _ _ _ (
    k_bind _ _ _ _ (k_same (place ts)) λ i _. k_bind _ _ _ _ k_predicates λ ps h. k_give _ _ h,
    (
      k_bind _ _ _ _ (k_same (place ts)) λ i _.
          k_bind _ _ _ _ (k_same (place ts)) λ x _.
          k_bind _ _ _ _ (k_same (place ts)) λ v _.
          k_bind _ _ _ _ k_predicates λ ps h. k_give _ _ h,
      (
        k_bind _ _ _ _ (k_same (place ts)) λ i _.
            k_bind _ _ _ _ (k_same (place ts)) λ x _.
            k_bind _ _ _ _ (k_same (place ts)) λ f _.
            k_bind _ _ _ _ (k_same (place ts)) λ t _. k_give _ _ refl,
        (
          k_bind _ _ _ _ (k_same (place ts)) λ i _.
              k_bind _ _ _ _ k_predicate λ p h.
              k_bind _ _ _ _ k_predicate λ q k.
              k_bind _ _ _ _ (k_same u32) λ n _. k_give _ _ (and_both (no_window p) (no_window q) h k),
          tt,
        ),
      ),
    ),
  )

  module _ (inner inner' : Reader Actions) (f : Keeps inner inner' (Passes windowless_actions)) where
    k_branches : (n : ℕ) → Keeps (old.branches ts inner n) (branches ts inner' n) (Passes windowless_branches)
    unfolding old.branches branches windowless_branches
    k_branches zero = k_give _ _ refl
    k_branches (suc n) =
        k_bind _ _ _ _ k_predicates λ ps h. k_bind _ _ _ _ f λ as' k. k_bind _ _ _ _ (k_branches n) λ bs g.
        k_give _ _ (and_both (all no_window ps) (windowless_actions as' && windowless_branches bs) h
        (and_both (windowless_actions as') (windowless_branches bs) k g))

    k_effect : Keeps (old.effect ts inner) (effect ts inner') (Passes windowless_effect)
    unfolding old.effect effect windowless_effect
    k_effect = k_kinds _ _ _ (
      k_bind _ _ _ _ (k_same (place ts)) λ e _. k_bind _ _ _ _ (k_same (place ts)) λ v _. k_give _ _ refl,
      (
        k_bind _ _ _ _ (k_same (place ts)) λ e _. k_give _ _ refl,
        (
          k_bind _ _ _ _ (k_same u32) λ n _. k_give _ _ refl,
          (
            k_bind _ _ _ _ k_predicate λ p h. k_give _ _ h,
            (
              k_bind _ _ _ _ (k_same u16) λ n _.
                  k_bind _ _ _ _ (k_branches n) λ bs h.
                  k_bind _ _ _ _ f λ d k.
                  k_give _ _ (and_both (windowless_branches bs) (windowless_actions d) h k),
              (
                k_bind _ _ _ _ (k_same (trigger ts)) λ t _.
                    k_bind _ _ _ _ (k_same u32) λ n _. k_bind _ _ _ _ (k_same flag) λ c _. k_give _ _ refl,
                (k_bind _ _ _ _ (k_same (place ts)) λ r _. k_give _ _ refl, tt),
              ),
            ),
          ),
        ),
      ),
    )

    k_actions_of : (n : ℕ) → Keeps (old.actions_of ts inner n) (actions_of ts inner' n) (Passes windowless_actions)
    unfolding old.actions_of actions_of windowless_actions
    k_actions_of zero = k_give _ _ refl
    k_actions_of (suc n) =
        k_bind _ _ _ _ (k_same source) λ s _. k_bind _ _ _ _ k_effect λ e h. k_bind _ _ _ _ (k_actions_of n) λ r k.
        k_give _ _ (and_both (windowless_effect e) (windowless_actions r) h k)

  k_actions : (left : ℕ) → Keeps (old.actions ts left) (actions ts left) (Passes windowless_actions)
  unfolding old.actions actions
  k_actions zero = k_refuse _ _
  k_actions (suc left) = k_bind _ _ _ _ (k_same u16) λ n _. k_actions_of _ _ (k_actions left) n

  k_automation : Keeps (old.automation ts) (automation ts) (Passes windowless_rule)
  unfolding old.automation automation windowless_rule
  k_automation =
      k_bind _ _ _ _ (k_same (place ts)) λ i _.
      k_bind _ _ _ _ (k_same mode) λ m _.
      k_bind _ _ _ _ (k_same u32) λ x _.
      k_bind _ _ _ _ (k_same (counted (trigger ts))) λ us _.
      k_bind _ _ _ _ k_predicates λ ps h.
      k_bind _ _ _ _ (k_actions 18) λ as' k.
      k_bind _ _ _ _ (k_same source) λ s _.
      k_bind _ _ _ _ (k_same (counted (place ts))) λ ns _.
      k_give _ _ (and_both (all no_window ps) (windowless_actions as') h k)

-- ---- the file

-- an old model: no window, and a start of zeros
pub record Plain (m : Model) : Type 0 where
  pub starts : m.start ≡ midnight
  pub no_windows : windowless m ≡ true

k_model : KeepsToEnd old.model model Plain
unfolding old.model model windowless
k_model =
    end_bind _ _ _ _ (k_same head) λ h _.
    end_bind _ _ _ _ (k_same (events h)) λ evs _.
    end_bind _ _ _ _ (k_counted _ _ windowless_invariant (k_invariant h.texts)) λ is u.
    end_bind _ _ _ _ (k_same (counted (input h.texts))) λ al _.
    end_bind _ _ _ _ (k_same (counted u32)) λ gs _.
    end_bind _ _ _ _ (k_same limits) λ ls _.
    end_bind _ _ _ _ (k_counted _ _ windowless_rule (k_automation h.texts)) λ rs w.
    end_zeros Plain midnight start (made h evs is al gs ls rs)
    (record { starts = refl; no_windows = and_both (all windowless_invariant is) (all windowless_rule rs) u w })

never_answer : {A : Type 0} {n : ℕ} {a : A} → refused n ≡ answer a → ⊥
never_answer e = let z : ◌≡◌ {A = ℕ} 0 1 = cc in omega arith

answer_same : {A : Type 0} {a b : A} → answer a ≡ answer b → a ≡ b
answer_same e = cc

-- what was read is read, to the same model
pub old_reads : (file : List ℕ) (m : Model) → old.decode file ≡ answer m → (decode file ≡ answer m) × Plain m
unfolding old.decode decode decoded
old_reads file m e = by (ltb 32768 (length file)) e
  where
    ended : (n : Model) (q : ℕ) → old.model file 0 ≡ got n q → (a b : Bool) → ltb 64 (length (notes_of n)) ≡ a
        → ltb q (length file) ≡ b → (if a then refused 30 else if b then refused 31 else answer n) ≡ answer m
        → (decoded (model file 0) (length file) ≡ answer m) × Plain m
    ended n q d true b x y c = absurd (never_answer c)
    ended n q d false true x y c = absurd (never_answer c)
    ended n q d false false x y c =
        let k = k_model file 0 n q (ltb-false q (length file) y) d in
        (rw k.0 (rw (x, y) c), subst Plain (answer_same c) k.1)

    found : (g : Got Model) → old.model file 0 ≡ g → decoded g (length file) ≡ answer m
        → (decoded (model file 0) (length file) ≡ answer m) × Plain m
    found (got n q) d c =
        ended n q d (ltb 64 (length (notes_of n))) (ltb q (length file)) refl refl c
    found broken d c = absurd (never_answer c)

    by : (b : Bool) → (if b then refused 30 else decoded (old.model file 0) (length file)) ≡ answer m
        → ((if b then refused 30 else decoded (model file 0) (length file)) ≡ answer m) × Plain m
    by true c = absurd (never_answer c)
    by false c = found (old.model file 0) refl c

-- ---- the checks

module _ (declared : List Entity) where
  same_stated : (p : Predicate) → no_window p ≡ true → check_stated declared p ≡ check_predicate declared p
  unfolding check_stated no_window is_window ◌and◌ ◌when◌
  same_stated (state x v) h = refl
  same_stated (Predicate.unknown r) h = refl
  same_stated (window d b e) h = absurd (false≢true h)

  same_conditions : (ps : List Predicate) → all no_window ps ≡ true
      → each_accepted (check_stated declared) ps ≡ each_accepted (check_predicate declared) ps
  unfolding each_accepted all
  same_conditions [] h = refl
  same_conditions (p ∷ ps) h =
      λ i. same_stated p (and_left (no_window p) (all no_window ps) h) i
      and same_conditions ps (and_right (no_window p) (all no_window ps) h) i

  same_invariant : (i : Invariant) → windowless_invariant i ≡ true
      → check_invariant declared i ≡ old.check_invariant declared i
  unfolding check_invariant old.check_invariant check_conditions old.check_conditions windowless_invariant
  same_invariant (never i ps) h =
      ap (λ (v : Verdict). 11 when (is_empty ps || ltb 32 (length ps)) and v) (same_conditions ps h)
  same_invariant (guard i x w ps) h =
      ap (λ (v : Verdict). (11 when (is_empty ps || ltb 32 (length ps)) and v) and check_value declared x w)
      (same_conditions ps h)
  same_invariant (transition i x f t) h = refl
  same_invariant (response i p q n) h =
      λ j. same_stated p (and_left (no_window p) (no_window q) h) j
      and same_stated q (and_right (no_window p) (no_window q) h) j
      and 12 when ltb day n

  same_invariants : (ids : List Text) (is : List Invariant) → all windowless_invariant is ≡ true
      → check_invariants declared ids is ≡ old.check_invariants declared ids is
  unfolding check_invariants old.check_invariants all
  same_invariants ids [] h = refl
  same_invariants ids (i ∷ is) h =
      λ j. 10 when (bad_length (id_of i) || mem_t (id_of i) ids)
      and same_invariant i (and_left (windowless_invariant i) (all windowless_invariant is) h) j
      and same_invariants (id_of i ∷ ids) is (and_right (windowless_invariant i) (all windowless_invariant is) h) j

-- an old model is accepted or refused as it was
pub old_validates : (m : Model) → Plain m → validate m ≡ old.validate m
unfolding validate old.validate
old_validates m h =
    let s = m.scenario in
    let b : bad_limits s.limits || bad_start m.start ≡ bad_limits s.limits =
    ap (λ (t : Moment). bad_limits s.limits || bad_start t) h.starts
    ∙ (unfold bad_start in (or_false (bad_limits s.limits))) in
    let i = same_invariants s.entities [] s.invariants
    (unfold windowless in
    (and_left (all windowless_invariant s.invariants) (all windowless_rule m.rules) h.no_windows)) in
    λ j.
    1 when bad_title s
    and 2 when bad_size m
    and 3 when (b j)
    and 4 when bad_alphabet s
    and each_accepted (check_entity s.entities) s.entities
    and each_accepted (check_input s.entities) (each (λ e. e.input) s.events ++ s.alphabet)
    and 9 when bad_events s.limits.horizon s.events
    and i j
    and (answers.◌>>=◌ (check_rules s.entities [] m.rules 0) (λ n. answer m))

-- a file that was read is accepted, or refused by the same number, as it was
pub old_accepted : (file : List ℕ) (m : Model) → old.decode file ≡ answer m → accepted file ≡ old.accepted file
unfolding accepted old.accepted
old_accepted file m e =
    let r = old_reads file m e in
    rw (r.0, e) (unfold answers.◌>>=◌ in (old_validates m r.1))
