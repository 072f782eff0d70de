-- The highest tier of a set of entities is that of the definition's list of names.
use Rattle.std.specs.Prelude.{if◌then◌else◌}
use mathlib.Core.Path.{◌≡◌, refl, sym, ap, ◌∙◌, subst}
use mathlib.Core.Bool.{Bool, true, false, ◌||◌, not, or_assoc}
use mathlib.Core.List.{List, [], ◌∷◌, ◌++◌}
use mathlib.Core.Logic.{◌⊎◌, inl, inr, ⊎_elim}
use mathlib.Core.Option.{Option, none, some}
use Prim.Native.Nat.{ℕ, zero, suc, ◌+◌, ◌≤◌, ◌<◌}
use native.Mathlib.Omega.{arith}
use native.Mathlib.Decide.{dec_lt}
use lib.Dec.{eqb}
use lib.ListN.{length, get_or}
use borrow.Author.Tests.{lt-ltb, le-ltb, eq-eqb, eqb-true}
use Rattle.texts.proofs.Bool.{or_false, or_left, or_right}
use Rattle.texts.specs.Lists.{absent, listed, present_and, find, each, flat, through}
use Rattle.texts.specs.Texts.{Text, eq_t, mem_t}
use Rattle.texts.proofs.Ordering.{not_both, eq_is, is_eq, eq_sym}
use Rattle.model_spec.specs.Model.{Tier, observational, comfort, property, access_safety, Entity, Scenario, named}
use Rattle.model_walk.proofs.Found.{Case, is_true, is_false, case}
use Rattle.model_parts.specs.declared.Section.{Section}
use Rattle.model_spec.specs.Rewrite.{place_of}
use Rattle.lint_spec.specs.Findings.{rank, rank_name, greater, tier_of, highest, expires, spelled}
use Rattle.lint_spec.specs.Words.{tier_number}
use Rattle.lint_reach.specs.Sets.{holds}
use Rattle.lint_access.specs.Names.{name_at}
use Rattle.lint_access.proofs.Refines.{Grounds, name_once}
use Rattle.lint_access.proofs.Rising.{mem_cons, mem_none}
use Rattle.lint_conditions.specs.Conditions.{tier_m, stale_m, greater_m, highest_from, highest_m}
use Rattle.lint_conditions.proofs.More.{entity_agrees}
use Rattle.lint_pairs.specs.Pairs.{spelled_m}
use Rattle.lint_refinement.proofs.Lists.{either}

-- ---- the greatest of some numbers

-- M is the greatest R k of those k below n that pass the test, or 0
pub record Top (n : ℕ) (R : ℕ → ℕ) (h : ℕ → Bool) (M : ℕ) : Type 0 where
  pub above : (k : ℕ) → k < n → h k ≡ true → R k ≤ M
  pub reached : (M ≡ 0) ⊎ ((k : ℕ) × ((k < n) × ((h k ≡ true) × (R k ≡ M))))

module _ {n : ℕ} {R : ℕ → ℕ} {h : ℕ → Bool} where
  top_below : (a b : ℕ) → Top n R h a → Top n R h b → a ≤ b
  top_below a b f g = ⊎_elim (λ z. omega arith) (λ k. omega (arith, g.above k.0 k.1.0 k.1.1.0, k.1.1.1))
      f.reached

  pub top_one : (a b : ℕ) → Top n R h a → Top n R h b → a ≡ b
  top_one a b f g = omega (arith, top_below a b f g, top_below b a g f)

pub top_same : {n : ℕ} {R : ℕ → ℕ} (h g : ℕ → Bool) {M : ℕ} → ((k : ℕ) → k < n → h k ≡ g k) → Top n R h M → Top n R g M
top_same h g d t = record {
  above = λ k l e. t.above k l (d k l ∙ e);
  reached = ⊎_elim (λ z. inl z) (λ k. inr (k.0, (k.1.0, (sym (d k.0 k.1.0) ∙ k.1.1.0, k.1.1.1))))
      t.reached;
}

-- one number more
top_more : (n : ℕ) (R : ℕ → ℕ) (h : ℕ → Bool) (i M : ℕ) → i < n → Top n R h M →
    Top n R (λ k. h k || eqb i k) (greater M (R i))
unfolding greater
top_more n R h i M l t = elim (dec_lt M (R i)) [
  | yes b ↦ rw (lt-ltb M (R i) b) (record {
    above = λ k m e. ⊎_elim (λ z. omega (arith, t.above k m z)) (λ z. let w : i ≡ k = eqb-true i k z in rw w (omega arith))
        (either (h k) (eqb i k) e);
    reached = inr (i, (l, (or_right (h i) (eqb i i) (eq-eqb i i refl), refl)));
  })
  | no b ↦ rw (le-ltb M (R i) (omega arith)) (record {
    above = λ k m e. ⊎_elim (λ z. t.above k m z) (λ z. let w : i ≡ k = eqb-true i k z in rw (← w) (omega arith))
        (either (h k) (eqb i k) e);
    reached = ⊎_elim (λ z. inl z) (λ k. inr (k.0, (k.1.0, (or_left (h k.0) (eqb i k.0) k.1.1.0, k.1.1.1))))
        t.reached;
  })
]

-- a test that holds of no number more
top_wide : (n : ℕ) (R : ℕ → ℕ) (h : ℕ → Bool) (M : ℕ) → h n ≡ false → Top n R h M → Top (n + 1) R h M
top_wide n R h M z t = record {
  above = λ k m e. elim (dec_lt k n) [
    | yes b ↦ t.above k b e
    | no b ↦ let w : k ≡ n = omega arith in
        absurd (not_both (ap h w ∙ z) e)
  ];
  reached = ⊎_elim (λ y. inl y) (λ k. let b = k.1.0 in inr (k.0, (omega arith, k.1.1))) t.reached;
}

-- one number more at the end
top_end : (n : ℕ) (R : ℕ → ℕ) (h : ℕ → Bool) (M : ℕ) → h n ≡ true → Top n R h M → Top (n + 1) R h (greater_m M (R n))
unfolding greater_m
top_end n R h M z t = elim (dec_lt M (R n)) [
  | yes b ↦ rw (lt-ltb M (R n) b) (record {
    above = λ k m e. elim (dec_lt k n) [
      | yes c ↦ omega (arith, t.above k c e)
      | no c ↦ let w : k ≡ n = omega arith in
          rw w (omega arith)
    ];
    reached = inr (n, (omega arith, (z, refl)));
  })
  | no b ↦ rw (le-ltb M (R n) (omega arith)) (record {
    above = λ k m e. elim (dec_lt k n) [ yes c ↦ t.above k c e | no c ↦ let w : k ≡ n = omega arith in rw w (omega arith) ];
    reached = ⊎_elim (λ y. inl y) (λ k. let b = k.1.0 in inr (k.0, (omega arith, k.1.1))) t.reached;
  })
]

-- ---- entities by name

pub no_entity : Entity
no_entity = record { name = []; domain = []; initial = []; tier = observational; stale_after = none }

-- the entity with a name stands at a place, or none has it
pub data Looked (es : List Entity) (x : Text) : Type 0 where
  looked_at : (i : ℕ) → i < length es → name_at es i ≡ x → find (named x) es ≡ some (get_or es i no_entity) → Looked es x
  nowhere : ((j : ℕ) → j < length es → eq_t (name_at es j) x ≡ false) → find (named x) es ≡ none → Looked es x

pub look : (es : List Entity) (x : Text) → Looked es x
unfolding find named name_at each
look [] x = nowhere (λ j h. absurd (omega arith)) refl
look (e ∷ es) x = cases (case (eq_t e.name x)) (look es x)
  where
    none_of : eq_t e.name x ≡ false → ((j : ℕ) → j < length es → eq_t (name_at es j) x ≡ false) → (j : ℕ) →
        j < length (e ∷ es) → eq_t (name_at (e ∷ es) j) x ≡ false
    none_of h n zero k = h
    none_of h n (suc j) k = n j (omega arith)

    cases : Case (eq_t e.name x) → Looked es x → Looked (e ∷ es) x
    cases (is_true h) r = looked_at 0 (omega arith) (eq_is e.name x h) (rw (h, find))
    cases (is_false h) (looked_at i l n f) = looked_at (suc i) (omega arith) n (rw (h, find) f)
    cases (is_false h) (nowhere n f) = nowhere (none_of h n) (rw (h, find) f)

rank_small : (t : Tier) → rank t < 4
unfolding rank
rank_small observational = omega arith
rank_small comfort = omega arith
rank_small property = omega arith
rank_small access_safety = omega arith

pub rank_word : (n : ℕ) → n < 4 → tier_number (rank_name n) ≡ n
unfolding tier_number rank_name place_of eq_t
rank_word zero h = refl
rank_word (suc zero) h = refl
rank_word (suc (suc zero)) h = refl
rank_word (suc (suc (suc zero))) h = refl
rank_word (suc (suc (suc (suc n)))) h = absurd (omega arith)

-- the spelling of opposing writes
pub spelled_word : (t : Tier) → spelled_m (rank t) ≡ tier_number (spelled t)
unfolding tier_number spelled spelled_m rank place_of eq_t
spelled_word observational = refl
spelled_word comfort = refl
spelled_word property = refl
spelled_word access_safety = refl

module _ (s : List ℕ) (e : Section) (ts : List Text) (sc : Scenario) (g : Grounds s e ts sc.entities) where
  abbrev es : List Entity
  es = sc.entities

  -- the rank of the k-th entity
  abbrev R : ℕ → ℕ
  R k = tier_m s (get_or e.starts k 0)

  pub entity_at : (i : ℕ) → i < length es → (R i ≡ rank (get_or es i no_entity).tier)
      × (stale_m s (get_or e.starts i 0) ≡ not (absent (get_or es i no_entity).stale_after))
  entity_at i h =
      let r = g.stand no_entity i (omega (arith, g.few)) h in
      entity_agrees ts s (get_or e.starts i 0) (get_or es i no_entity) r.0 r.1

  rank_few : (k : ℕ) → k < length es → R k < 4
  rank_few k h = rw (entity_at k h).0 (rank_small (get_or es k no_entity).tier)

  -- what the definition says of a name that is declared, and of one that isn't
  pub tier_at : (i : ℕ) → i < length es → tier_of sc (name_at es i) ≡ some (get_or es i no_entity).tier
  unfolding tier_of
  tier_at i h = cases (look es (name_at es i))
    where
      cases : Looked es (name_at es i) → elim (find (named (name_at es i)) es) [ none ↦ none | some x ↦ some x.tier ]
          ≡ some (get_or es i no_entity).tier
      cases (looked_at j l n f) =
          let w : j ≡ i = eqb-true j i (sym (name_once s e ts es g j i l h) ∙ is_eq n) in
          rw f (ap (λ (k : ℕ). some (get_or es k no_entity).tier) w)
      cases (nowhere n f) = absurd (not_both (n i h) (is_eq refl))

  tier_none : (x : Text) → find (named x) es ≡ none → tier_of sc x ≡ none
  unfolding tier_of
  tier_none x f = ap (λ (o : Option Entity). elim o [ none ↦ none | some y ↦ some y.tier ]) f

  pub expires_at : (i : ℕ) → i < length es → stale_m s (get_or e.starts i 0) ≡ expires sc (name_at es i)
  unfolding expires present_and
  expires_at i h = cases (look es (name_at es i))
    where
      cases : Looked es (name_at es i) → stale_m s (get_or e.starts i 0)
          ≡ present_and (λ x. not (absent x.stale_after)) (find (named (name_at es i)) es)
      cases (looked_at j l n f) =
          let w : j ≡ i = eqb-true j i (sym (name_once s e ts es g j i l h) ∙ is_eq n) in
          rw f ((entity_at i h).1 ∙ ap (λ (k : ℕ). not (absent (get_or es k no_entity).stale_after)) (sym w))
      cases (nowhere n f) = absurd (not_both (n i h) (is_eq refl))

  pub expires_none : (x : Text) → ((j : ℕ) → j < length es → eq_t (name_at es j) x ≡ false) → expires sc x ≡ false
  unfolding expires present_and
  expires_none x h = cases (look es x)
    where
      cases : Looked es x → present_and (λ x. not (absent x.stale_after)) (find (named x) es) ≡ false
      cases (looked_at j l n f) = absurd (not_both (h j l) (is_eq n))
      cases (nowhere n f) = rw f

  -- ---- the highest tier, of a set and of a list

  set_top : (set n k best : ℕ) → Top k R (holds set) best → Top (k + n) R (holds set) (highest_from s e set n k best)
  unfolding highest_from
  set_top set zero k best t = let z : k + 0 ≡ k = omega arith in rw z t
  set_top set (suc n) k best t =
      let z : k + suc n ≡ k + 1 + n = omega arith in
      rw z (set_top set n (k + 1) (if holds set k then greater_m best (R k) else best) (step (case (holds set k))))
    where
      step : Case (holds set k) → Top (k + 1) R (holds set) (if holds set k then greater_m best (R k) else best)
      step (is_true h) = rw h (top_end k R (holds set) best h t)
      step (is_false h) = rw h (top_wide k R (holds set) best h t)

  none_top : (R : ℕ → ℕ) (h : ℕ → Bool) → Top 0 R h 0
  none_top R h = record { above = λ k l e. absurd (omega arith); reached = inl refl }

  nothing_top : (n : ℕ) → Top n R (λ k. false) 0
  nothing_top n = record { above = λ k l e. absurd (not_both refl e); reached = inl refl }

  highest_top : (set : ℕ) → Top (length es) R (holds set) (highest_m s e set)
  unfolding highest_m
  highest_top set =
      subst (λ (n : ℕ). Top n R (holds set) (highest_from s e set e.count 0 0)) (omega (arith, g.counts))
      (set_top set e.count 0 0 (none_top R (holds set)))

  list_top : (l : List Text) (h : ℕ → Bool) (best : ℕ) → Top (length es) R h best →
      Top (length es) R (λ k. h k || mem_t (name_at es k) l)
      (through (λ t n. greater n (rank t)) (flat (λ x. listed (tier_of sc x)) l) best)
  unfolding through flat listed
  list_top [] h best t = top_same h (λ k. h k || mem_t (name_at es k) [])
      (λ k l. sym (ap (λ (b : Bool). h k || b) (mem_none (name_at es k)) ∙ or_false (h k))) t
  list_top (x ∷ l) h best t = cases (look es x) (λ h best t. list_top l h best t)
    where
      Goal : List Tier → Type 0
      Goal o = Top (length es) R (λ k. h k || mem_t (name_at es k) (x ∷ l))
          (through (λ t n. greater n (rank t)) (o ++ flat (λ x. listed (tier_of sc x)) l) best)

      Rest : Type 0
      Rest = (h : ℕ → Bool) (best : ℕ) → Top (length es) R h best →
          Top (length es) R (λ k. h k || mem_t (name_at es k) l)
          (through (λ t n. greater n (rank t)) (flat (λ x. listed (tier_of sc x)) l) best)

      cases : Looked es x → Rest → Goal (listed (tier_of sc x))
      cases (looked_at i b n f) ih =
          let y : tier_of sc x ≡ some (get_or es i no_entity).tier = ap (tier_of sc) (sym n) ∙ tier_at i b in
          let o : greater best (R i) ≡ greater best (rank (get_or es i no_entity).tier) =
          ap (greater best) (entity_at i b).0 in
          rw y (top_same (λ k. (h k || eqb i k) || mem_t (name_at es k) l) (λ k. h k || mem_t (name_at es k) (x ∷ l))
          (λ k m. or_assoc (h k) (eqb i k) (mem_t (name_at es k) l) ∙ ap (λ (c : Bool). h k || c) (
          ap (λ (c : Bool). c || mem_t (name_at es k) l) (sym
          (eq_sym (name_at es k) x ∙ ap (λ (v : Text). eq_t v (name_at es k)) (sym n) ∙ name_once s e ts es g i k b m))
          ∙ sym (mem_cons (name_at es k) x l)))
          (ih (λ k. h k || eqb i k) (greater best (rank (get_or es i no_entity).tier))
          (subst (Top (length es) R (λ k. h k || eqb i k)) o (top_more (length es) R h i best b t))))
      cases (nowhere n f) ih =
          let y : tier_of sc x ≡ none = tier_none x f in
          rw y (top_same (λ k. h k || mem_t (name_at es k) l) (λ k. h k || mem_t (name_at es k) (x ∷ l))
          (λ k m. ap (λ (c : Bool). h k || c) (ap (λ (c : Bool). c || mem_t (name_at es k) l) (sym (n k m))
          ∙ sym (mem_cons (name_at es k) x l))) (ih h best t))

  -- a set that holds the declared entities of a list has the list's highest tier
  pub highest_is : (set : ℕ) (l : List Text) → ((j : ℕ) → j < length es → holds set j ≡ mem_t (name_at es j) l) →
      highest_m s e set ≡ highest sc l
  unfolding highest
  highest_is set l h =
      top_one (highest_m s e set) (through (λ t n. greater n (rank t)) (flat (λ x. listed (tier_of sc x)) l) 0)
      (top_same (holds set) (λ k. mem_t (name_at es k) l) h (highest_top set))
      (top_same (λ k. false || mem_t (name_at es k) l) (λ k. mem_t (name_at es k) l) (λ k m. refl)
      (list_top l (λ k. false) 0 (nothing_top (length es))))

  top_small : (M : ℕ) (h : ℕ → Bool) → Top (length es) R h M → M < 4
  top_small M h t = ⊎_elim (λ z. omega arith) (λ k. omega (arith, rank_few k.0 k.1.0, k.1.1.1)) t.reached

  -- as a word
  pub highest_word : (set : ℕ) (l : List Text) → ((j : ℕ) → j < length es → holds set j ≡ mem_t (name_at es j) l) →
      highest_m s e set ≡ tier_number (rank_name (highest sc l))
  highest_word set l h = sym (ap (λ (n : ℕ). tier_number (rank_name n)) (sym (highest_is set l h))
      ∙ rank_word (highest_m s e set) (top_small (highest_m s e set) (holds set) (highest_top set)))
