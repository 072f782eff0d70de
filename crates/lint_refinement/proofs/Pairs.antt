-- The items of each pair of automations stand for the definition's opposing writes.
use Rattle.std.specs.Prelude.{if◌then◌else◌}
use mathlib.Core.Path.{◌≡◌, refl, sym, ap, ◌∙◌, subst}
use mathlib.Core.Bool.{Bool, true, false}
use mathlib.Core.List.{List, [], ◌∷◌, ◌++◌, append-nil}
use mathlib.Core.Option.{Option, none, some}
use Prim.Native.Nat.{ℕ, suc, ◌+◌, ◌-◌, ◌^◌, ◌<◌}
use native.Mathlib.Omega.{arith}
use lib.Bits.{bit_or}
use lib.Dec.{eqb, ltb, leb}
use lib.ListN.{length, get_or}
use borrow.Author.Tests.{lt-ltb, le-ltb, lt-leb, eqb-true}
use Rattle.lint_pairs.proofs.Laws.{items_none}
use Rattle.texts.specs.Lists.{listed, each, flat, through}
use Rattle.texts.specs.Texts.{Text, text, eq_t}
use Rattle.texts.proofs.Ordering.{eq_is, eq_sym}
use Rattle.model_spec.specs.Model.{Tier, Automation, Model}
use Rattle.model_walk.proofs.Found.{Case, is_true, is_false, case}
use Rattle.model_parts.specs.declared.Section.{Section}
use Rattle.model_check.specs.Checks.{number_of}
use Rattle.model_check.proofs.Refines.{eqb_sym}
use Rattle.model_spec.specs.Rewrite.{place_of}
use Rattle.lint_spec.specs.Touches.{Action, Write, write, written_by}
use Rattle.lint_spec.specs.Touches as touches
use Rattle.lint_spec.specs.Findings.{
  opposing_writes,
  Finding,
  Entry,
  spelled,
  is_star,
  opposed,
  tier_of,
  opposing,
  pair_entries,
  opposing_entries,
}
use Rattle.lint_spec.specs.Words.{
  set_of,
  code_number,
  certainty_number,
  tier_number,
  source_words,
  sources_of,
  entity_number,
  ids_set,
  finding_words,
  plain,
}
use Rattle.lint_spec.specs.Memory.{neither}
use Rattle.lint_walk.specs.declared.Walk.{Walk}
use Rattle.lint_walk.specs.Raw.{place_m, past, kind_m}
use Rattle.lint_walk.specs.Walks.{walk_m}
use Rattle.lint_walk.proofs.Found.{ActionAt}
use Rattle.lint_conditions.specs.declared.Names.{Names}
use Rattle.lint_conditions.specs.Conditions.{tier_m, opposed_m}
use Rattle.lint_conditions.proofs.More.{opposed_agrees}
use Rattle.lint_areas.specs.Areas.{Item, only_if}
use Rattle.lint_findings.specs.Entries.{items_numbers_m, value_m}
use Rattle.lint_pairs.specs.Pairs.{spelled_m, pair_m, oppose_items, row_items, pair_items}
use Rattle.lint_collect.specs.Collect.{pair_at, later_items, opposing_items}
use Rattle.lint_refinement.proofs.Lists.{flat_flat}
use Rattle.lint_refinement.proofs.Agree.{as_finding, agree_append, agree_if, agree_numbers}
use Rattle.lint_refinement.proofs.Tiers.{entity_at, no_entity, tier_at, spelled_word}
use Rattle.lint_refinement.proofs.Accepted.{FineA}
use Rattle.lint_refinement.proofs.FileFacts.{Stage, no_rule, legal_at, walked_at, id_number, agree_actions}
use Rattle.lint_refinement.proofs.Rules.{
  es,
  names,
  ids,
  Agrees,
  name_number,
  declared_number,
  Valued,
  WriteAt,
  Writes,
  writes,
  others,
  write_at,
}

module _ {s : List ℕ} {d : Names} {rs : Section} {ts : List Text} {m : Model} (st : Stage s d rs ts m) where
  abbrev e : Section
  e = d.entities

  values_equal : (v u : ℕ) (a b : Text) → Valued st v a → Valued st u b → eqb v u ≡ eq_t a b
  unfolding is_star
  values_equal v u a b f g = cases (case (is_star a))
    where
      cases : Case (is_star a) → eqb v u ≡ eq_t a b
      cases (is_true h) =
          let z : v ≡ d.star = eqb-true v d.star (f.stars ∙ h) in
          let y : a ≡ text "*" = eq_is a (text "*") h in
          ap (λ (n : ℕ). eqb n u) z ∙ eqb_sym d.star u ∙ g.stars ∙ eq_sym b (text "*")
          ∙ ap (λ (t : Text). eq_t t b) (sym y)
      cases (is_false h) =
          let w = f.set h in
          g.equals v w.0 ∙ ap (λ (t : Text). eq_t t b) w.1

  module _ (i j : ℕ) (h : i < length m.rules) (k : j < length m.rules) where
    abbrev r : Automation
    r = get_or m.rules i no_rule

    abbrev q : Automation
    q = get_or m.rules j no_rule

    abbrev both_set : ℕ
    both_set = bit_or (bit_or 0 (2 ^ i)) (2 ^ j)

    pair_set : bit_or (bit_or 0 (2 ^ i)) (2 ^ j) ≡ ids_set (names st) (ids st) (r.id ∷ q.id ∷ [])
    unfolding ids_set set_of each through
    pair_set = rw (id_number st i h, id_number st j k)

    module _ (p₁ p₂ : ℕ) (a b : Write) (f : WriteAt st p₁ a) (g : WriteAt st p₂ b) where
      abbrev tier_text : Text
      tier_text = elim (tier_of m.scenario a.entity) [ none ↦ [] | some t ↦ spelled t ]

      abbrev pair_found : Finding
      pair_found = record {
        problem = opposing_writes a.entity;
        automations = r.id ∷ q.id ∷ [];
        sources =
            a.source ∷ b.source ∷ [];
        tier = tier_text;
      }

      tier_is : spelled_m (tier_m s (get_or e.starts f.number 0)) ≡ tier_number tier_text
      tier_is =
          let t : tier_of m.scenario a.entity ≡ some (get_or (es st) f.number no_entity).tier =
          ap (tier_of m.scenario) (sym f.named) ∙ tier_at s e ts m.scenario st.grounds f.number
          f.below in
          ap spelled_m (entity_at s e ts m.scenario st.grounds f.number f.below).0
          ∙ spelled_word (get_or (es st) f.number no_entity).tier
          ∙ ap (λ (o : Option Tier). tier_number (elim o [ none ↦ [] | some t ↦ spelled t ])) (sym t)

      entity_is : f.number ≡ place_of a.entity (names st)
      entity_is = sym (ap (λ (t : Text). place_of t (names st)) (sym f.named) ∙ name_number st f.number f.below)

      pair_words : pair_m s e both_set f.number p₁ p₂
          ≡ finding_words (names st) (ids st) pair_found ++ (0 ∷ 0 ∷ 0 ∷ 0 ∷ 0 ∷ [])
      unfolding pair_m finding_words code_number certainty_number entity_number sources_of source_words
      pair_words =
          rw (pair_set, tier_is, f.source_at.line, f.source_at.column, g.source_at.line, g.source_at.column)
          (ap (λ (n : ℕ). 8 ∷ 1 ∷ tier_number tier_text ∷ n ∷ ids_set (names st) (ids st)
          (r.id ∷ q.id ∷ []) ∷ a.source.line ∷ a.source.column ∷ b.source.line ∷ b.source.column ∷ 0 ∷ 0 ∷ 0 ∷
          0 ∷ 0 ∷ []) entity_is)

      abbrev x : ℕ
      x = place_m s (past s p₁ 9)

      number_is : number_of e x s ≡ f.number
      number_is = ap (λ (k : ℕ). number_of e k s) f.at_entity
          ∙ declared_number st f.x a.entity f.is_in f.is_entity f.number f.below f.named

      entities_equal : eqb x (place_m s (past s p₂ 9)) ≡ eq_t a.entity b.entity
      entities_equal = rw (f.at_entity, g.at_entity, f.is_entity, g.is_entity)
          (sym (st.grounds.same f.x g.x f.is_in g.is_in))

      oppose_items_lem : oppose_items s d both_set p₁ p₂ ≡ only_if
          (opposed_m d.star x (value_m s d.star p₁) (place_m s (past s p₂ 9)) (value_m s d.star p₂))
          (Item.finding (pair_m s e both_set f.number p₁ p₂))
      unfolding oppose_items
      oppose_items_lem =
          rw (le-ltb 1 (kind_m s p₁) f.kind) (rw (le-ltb 1 (kind_m s p₂) g.kind)
          (rw number_is (rw (lt-leb e.count f.number (omega (arith, st.grounds.counts, f.below))))))

      oppose_agrees : Agrees st (opposing m.scenario r q a b) (oppose_items s d both_set p₁ p₂)
      unfolding opposing code_number
      oppose_agrees =
          subst (Agrees st (opposing m.scenario r q a b)) (sym oppose_items_lem)
          (agree_if s (names st) (ids st) (opposed a b) (opposed_m d.star x (value_m s d.star p₁)
          (place_m s (past s p₂ 9)) (value_m s d.star p₂))
          (opposed_agrees d.star x (value_m s d.star p₁) (place_m s (past s p₂ 9)) (value_m s d.star p₂)
          a b entities_equal (values_equal (value_m s d.star p₁) (value_m s d.star p₂) a.value b.value
          f.valued g.valued) f.valued.stars)
          (as_finding (record { reason = 0 ∷ 0 ∷ 0 ∷ 0 ∷ 0 ∷ []; is = pair_words; reasoned = plain refl })))

    first_none : (p₁ p₂ : ℕ) → 1 < kind_m s p₁ → oppose_items s d both_set p₁ p₂ ≡ []
    unfolding oppose_items
    first_none p₁ p₂ b = rw (lt-ltb 1 (kind_m s p₁) b)

    second_none : (p₁ p₂ : ℕ) → 1 < kind_m s p₂ → oppose_items s d both_set p₁ p₂ ≡ []
    unfolding oppose_items
    second_none p₁ p₂ b = cases (ltb 1 (kind_m s p₁)) (lt-ltb 1 (kind_m s p₂) b)
      where
        cases : (c : Bool) → ltb 1 (kind_m s p₂) ≡ true →
            (if c then [] else if ltb 1 (kind_m s p₂) then []
            else if leb d.entities.count (number_of d.entities (place_m s (past s p₁ 9)) s) then []
            else only_if (opposed_m d.star (place_m s (past s p₁ 9)) (value_m s d.star p₁) (place_m s (past s p₂ 9))
            (value_m s d.star p₂))
            (Item.finding (pair_m s d.entities both_set (number_of d.entities (place_m s (past s p₁ 9)) s) p₁ p₂)))
            ≡ []
        cases true z = refl
        cases false z = rw z

    -- a write against an action of the other automation
    against : (p₁ : ℕ) (a : Write) → WriteAt st p₁ a → (p₂ : ℕ) (y : Action) → ActionAt ts s p₂ y → FineA (es st) y →
        Agrees st (flat (opposing m.scenario r q a) (listed (write y.source y.effect)))
        (oppose_items s d both_set p₁ p₂)
    unfolding listed flat
    against p₁ a f p₂ y at fine = cases (write y.source y.effect) (write_at st p₂ y at fine)
      where
        cases : (o : Option Write) → Writes st p₂ o → Agrees st (flat (opposing m.scenario r q a) (listed o))
            (oppose_items s d both_set p₁ p₂)
        cases (some b) (writes g) = subst (λ (l : List Entry). Agrees st l (oppose_items s d both_set p₁ p₂))
            (sym (append-nil (opposing m.scenario r q a b))) (oppose_agrees p₁ p₂ a b f g)
        cases none (others b) = subst (Agrees st []) (sym (second_none p₁ p₂ b)) neither

    abbrev w₂ : Walk
    w₂ = walk_m s (get_or rs.starts j 0)

    row_agrees : (p₁ : ℕ) (a : Write) → WriteAt st p₁ a →
        Agrees st (flat (opposing m.scenario r q a) (written_by q)) (row_items s d both_set w₂ p₁)
    unfolding row_items written_by
    row_agrees p₁ a f =
        subst (λ (l : List Entry). Agrees st l (items_numbers_m (λ k. oppose_items s d both_set p₁ (get_or w₂.list k 0))
        w₂.count 0))
        (sym (flat_flat (opposing m.scenario r q a) (λ a. listed (write a.source a.effect))
        (touches.actions_of q)))
        (agree_actions s (names st) (ids st) ts s (es st) (oppose_items s d both_set p₁)
        (λ y. flat (opposing m.scenario r q a) (listed (write y.source y.effect))) (against p₁ a f) w₂ q
        (walked_at st j k) (legal_at st j k))

    rows_agree : (p₁ : ℕ) (y : Action) → ActionAt ts s p₁ y → FineA (es st) y →
        Agrees st (flat (λ a. flat (opposing m.scenario r q a) (written_by q)) (listed (write y.source y.effect)))
        (row_items s d both_set w₂ p₁)
    unfolding listed flat
    rows_agree p₁ y at fine = cases (write y.source y.effect) (write_at st p₁ y at fine)
      where
        nothing : 1 < kind_m s p₁ → row_items s d both_set w₂ p₁ ≡ []
        nothing b = unfold row_items in items_none (λ k. oppose_items s d both_set p₁ (get_or w₂.list k 0))
            (λ k. first_none p₁ (get_or w₂.list k 0) b) w₂.count 0

        cases : (o : Option Write) → Writes st p₁ o → Agrees st
            (flat (λ a. flat (opposing m.scenario r q a) (written_by q)) (listed o)) (row_items s d both_set w₂ p₁)
        cases (some a) (writes f) = subst (λ (l : List Entry). Agrees st l (row_items s d both_set w₂ p₁))
            (sym (append-nil (flat (opposing m.scenario r q a) (written_by q)))) (row_agrees p₁ a f)
        cases none (others b) = subst (Agrees st []) (sym (nothing b)) neither

    pub pair_agrees : Agrees st (pair_entries m.scenario r q) (pair_at s d rs i (walk_m s (get_or rs.starts i 0)) j)
    unfolding pair_entries pair_at pair_items
    pair_agrees =
        subst (λ (l : List Entry). Agrees st l (items_numbers_m
        (λ k. row_items s d both_set w₂ (get_or (walk_m s (get_or rs.starts i 0)).list k 0))
        (walk_m s (get_or rs.starts i 0)).count 0))
        (sym (ap (flat (λ a. flat (opposing m.scenario r q a) (written_by q))) written_is
        ∙ flat_flat (λ a. flat (opposing m.scenario r q a) (written_by q))
        (λ a. listed (write a.source a.effect)) (touches.actions_of r)))
        (agree_actions s (names st) (ids st) ts s (es st) (row_items s d both_set w₂)
        (λ y. flat (λ a. flat (opposing m.scenario r q a) (written_by q)) (listed (write y.source y.effect)))
        rows_agree (walk_m s (get_or rs.starts i 0)) r (walked_at st i h) (legal_at st i h))
      where
        written_is : written_by r ≡ flat (λ a. listed (write a.source a.effect)) (touches.actions_of r)
        written_is = unfold written_by in refl

  -- ---- each with each later one

  later_agrees : (i : ℕ) → i < length m.rules → (l : List Automation) → length l + (i + 1) ≡ length m.rules →
      ((j : ℕ) → j < length l → get_or l j no_rule ≡ get_or m.rules (i + 1 + j) no_rule) →
      Agrees st (flat (pair_entries m.scenario (get_or m.rules i no_rule)) l) (later_items s d rs i)
  unfolding later_items
  later_agrees i h l n same =
      let z : rs.count - (i + 1) ≡ length l = omega (arith, st.rules.counts) in
      rw z (agree_numbers s (names st) (ids st) (pair_at s d rs i (walk_m s (get_or rs.starts i 0)))
      (pair_entries m.scenario (get_or m.rules i no_rule)) no_rule l (i + 1)
      (λ j b. rw (same j b) (pair_agrees i (i + 1 + j) h (omega arith))))

  from_agrees : (l : List Automation) (k : ℕ) → length l + k ≡ length m.rules →
      ((j : ℕ) → j < length l → get_or l j no_rule ≡ get_or m.rules (k + j) no_rule) →
      Agrees st (opposing_entries m.scenario l) (items_numbers_m (later_items s d rs) (length l) k)
  unfolding opposing_entries items_numbers_m
  from_agrees [] k n same = neither
  from_agrees (r ∷ l) k n same =
      let z : k + 0 ≡ k = omega arith in
      let first : r ≡ get_or m.rules k no_rule = same 0 (omega arith) ∙ ap (λ (i : ℕ). get_or m.rules i no_rule) z in
      let next : (j : ℕ) → j < length l → get_or l j no_rule ≡ get_or m.rules (k + 1 + j) no_rule =
      λ j b. let y : k + suc j ≡ k + 1 + j = omega arith in
      same (suc j) (omega arith) ∙ ap (λ (i : ℕ). get_or m.rules i no_rule) y in
      agree_append s (names st) (ids st)
      (subst (λ (x : Automation). Agrees st (flat (pair_entries m.scenario x) l) (later_items s d rs k)) (sym first)
      (later_agrees k (omega arith) l (omega arith) next))
      (from_agrees l (k + 1) (omega arith) next)

  pub opposing_agrees : Agrees st (opposing_entries m.scenario m.rules) (opposing_items s d rs)
  unfolding opposing_items
  opposing_agrees =
      subst (λ (n : ℕ). Agrees st (opposing_entries m.scenario m.rules) (items_numbers_m (later_items s d rs) n 0))
      (sym st.rules.counts)
      (from_agrees m.rules 0 (omega arith) (λ j b. let z : 0 + j ≡ j = omega arith in rw z))
