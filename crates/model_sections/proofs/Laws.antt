-- The laws that the proofs of this crate's functions cite.
use Rattle.std.specs.Prelude.{Some, None, if◌then◌else◌}
use mathlib.Core.Path.{◌≡◌, refl, sym, ap, ◌∙◌}
use mathlib.Core.List.{List, [], ◌∷◌}
use mathlib.Core.Bool.{Bool, true, false, ◌||◌}
use Prim.Native.Nat.{ℕ, zero, suc, ◌+◌, ◌-◌, ◌*◌, ◌≤◌, ◌<◌}
use native.Mathlib.Numerals.{sub-one}
use native.Mathlib.Omega.{arith}
use lib.ListN.{length, get_or}
use lib.Dec.{ltb, eqb}
use borrow.Author.Tests.{lt-ltb, le-ltb, eq-eqb, ne_eqb}
use Rattle.texts.specs.Lists.{is_empty}
use Rattle.texts.specs.Texts.{Text}
use Rattle.texts.specs.Places.{text_at, start_from}
use Rattle.model_spec.specs.File.{u8, u16, u32}
use Rattle.model_spec.specs.Validate.{bad_length}
use Rattle.model_walk.specs.Walk.{Num, found}
use Rattle.model_walk.proofs.Laws.{is_got, is_broken}
use Rattle.model_check.specs.declared.Checked.{Checked}
use Rattle.model_check.specs.declared.Checked.TheVariants as checked
use Rattle.model_check.specs.Checks.{
  Declaration,
  and_then,
  ◌⨾◌,
  by,
  stay,
  skip_m,
  day_m,
  place_is,
  among,
  value_m,
  pair_m,
  predicate_m,
  predicates_m,
  triggers_m,
}
use Rattle.model_actions.specs.Actions.{actions_m}
use Rattle.model_sections.specs.declared.Part.{Part}
use Rattle.model_sections.specs.declared.Part.TheVariants as part
use Rattle.model_sections.specs.Sections.{
  bad_place,
  any_bad,
  doubled,
  bad_domain,
  stale_bad,
  entity_of_m,
  entity_rest_m,
  entity_m,
  input_m,
  event_m,
  seconds_bad,
  gaps_bad,
  id_is,
  seen,
  bad_id,
  conditions_m,
  guard_m,
  transition_m,
  response_m,
  invariant_of_m,
  invariant_m,
  bad_counts,
  lists_m,
  rule_lists_m,
  rule_of_m,
  rule_m,
  part_m,
  parts_m,
}

-- ---- tests in a row

module _ {a : Bool} (h : a ≡ true) where
  pub or_first : (b : Bool) → (a || b) ≡ true
  or_first b = rw h

pub or_later : {a b : Bool} → a ≡ false → (a || b) ≡ b
or_later h = rw h

pub or_false : {a b : Bool} → a ≡ false → b ≡ false → (a || b) ≡ false
or_false h k = rw (h, k)

-- a test that is no longer in doubt, with the answer that it picks
-- ---- texts

empty_text : (t : Text) → length t ≡ 0 → bad_length t ≡ true
unfolding bad_length is_empty
empty_text [] h = refl
empty_text (x ∷ t) h = absurd (omega arith)

other_text : (t : Text) → (length t ≡ 0 → ⊥) → bad_length t ≡ ltb 100 (length t)
unfolding bad_length is_empty
other_text [] h = absurd (h refl)
other_text (x ∷ t) h = refl

module _ (s : List ℕ) (place : ℕ) {at n : ℕ} (e : at ≡ start_from s 6 place) (f : n ≡ length (text_at s at)) where
  pub place_length : n ≡ length (text_at s (start_from s 6 place))
  place_length = f ∙ ap (λ (p : ℕ). length (text_at s p)) e

  pub place_empty : n ≡ 0 → bad_place s place ≡ true
  unfolding bad_place
  place_empty h = empty_text (text_at s (start_from s 6 place)) (sym place_length ∙ h)

  pub place_other : (n ≡ 0 → ⊥) → bad_place s place ≡ ltb 100 n
  unfolding bad_place
  place_other h = other_text (text_at s (start_from s 6 place)) (λ g. h (place_length ∙ g)) ∙ ap (ltb 100) (sym place_length)

module _ (s : List ℕ) (p : ℕ) {a : Num} (e : found a ≡ u16 s p) where
  pub any_broken : (left : ℕ) → 0 < left → a ≡ None → any_bad left s p ≡ false
  unfolding any_bad
  any_broken zero o h = absurd (omega arith)
  any_broken (suc left) o h = rw (is_broken e h, any_bad)

  pub double_broken : (left : ℕ) → 0 < left → a ≡ None → doubled left s p ≡ false
  unfolding doubled
  double_broken zero o h = absurd (omega arith)
  double_broken (suc left) o h = rw (is_broken e h, doubled)

  module _ {x q : ℕ} (h : a ≡ Some (x, q)) where
    pub any_here : (left : ℕ) → 0 < left → bad_place s x ≡ true → any_bad left s p ≡ true
    unfolding any_bad
    any_here zero o b = absurd (omega arith)
    any_here (suc left) o b = rw (is_got e h, any_bad) (rw (b, any_bad))

    pub any_later : (left : ℕ) → 0 < left → bad_place s x ≡ false → any_bad left s p ≡ any_bad (left - 1) s q
    unfolding any_bad
    any_later zero o b = absurd (omega arith)
    any_later (suc left) o b = rw (sub-one (suc left)) (rw (is_got e h, any_bad) (rw (b, any_bad)))

    pub double_here : (left : ℕ) → 0 < left → among (left - 1) s q x ≡ true → doubled left s p ≡ true
    unfolding doubled
    double_here zero o b = absurd (omega arith)
    double_here (suc left) o b = rw (is_got e h, doubled)
        (rw (ap (λ (i : ℕ). among i s q x) (sym (sub-one (suc left))) ∙ b, doubled))

    pub double_later : (left : ℕ) → 0 < left → among (left - 1) s q x ≡ false → doubled left s p ≡ doubled (left - 1) s q
    unfolding doubled
    double_later zero o b = absurd (omega arith)
    double_later (suc left) o b = rw (sub-one (suc left))
        (rw (is_got e h, doubled) (rw (ap (λ (i : ℕ). among i s q x) (sym (sub-one (suc left))) ∙ b, doubled)))

pub any_end : (s : List ℕ) (p left : ℕ) → left ≤ 0 → any_bad left s p ≡ false
unfolding any_bad
any_end s p zero h = refl
any_end s p (suc left) h = absurd (omega arith)

pub double_end : (s : List ℕ) (p left : ℕ) → left ≤ 0 → doubled left s p ≡ false
unfolding doubled
double_end s p zero h = refl
double_end s p (suc left) h = absurd (omega arith)

-- ---- entities

-- the tests of a domain, by the one that decides
module _ (x c : ℕ) (s : List ℕ) (p : ℕ) where
  pub domain_1 : bad_place s x ≡ true → bad_domain x c s p ≡ true
  unfolding bad_domain
  domain_1 h = rw h

  pub domain_2 : bad_place s x ≡ false → c ≡ 0 → bad_domain x c s p ≡ true
  unfolding bad_domain
  domain_2 a h = rw (a, eq-eqb c 0 h)

  pub domain_3 : bad_place s x ≡ false → (c ≡ 0 → ⊥) → 16 < c → bad_domain x c s p ≡ true
  unfolding bad_domain
  domain_3 a b h = rw (a, ne_eqb c 0 b, lt-ltb 16 c h)

  pub domain_4 : bad_place s x ≡ false → (c ≡ 0 → ⊥) → c ≤ 16 → any_bad c s p ≡ true → bad_domain x c s p ≡ true
  unfolding bad_domain
  domain_4 a b d h = rw (a, ne_eqb c 0 b, le-ltb 16 c d, h)

  pub domain_5 : bad_place s x ≡ false → (c ≡ 0 → ⊥) → c ≤ 16 → any_bad c s p ≡ false → bad_domain x c s p ≡ doubled c s p
  unfolding bad_domain
  domain_5 a b d h = rw (a, ne_eqb c 0 b, le-ltb 16 c d, h)

pub stale_none : (a : ℕ) → a ≡ 4294967295 → stale_bad a ≡ false
unfolding stale_bad
stale_none a h = rw (eq-eqb a 4294967295 h)

pub stale_some : (a : ℕ) → (a ≡ 4294967295 → ⊥) → stale_bad a ≡ ltb 86400 a
unfolding stale_bad
stale_some a h = rw (ne_eqb a 4294967295 h)

module _ (d : Declaration) (s : List ℕ) (p n : ℕ) where
  module _ (x c q v a : ℕ) where
    pub entity_5 : stale_bad a ≡ true → entity_of_m d x c q v a s p n ≡ checked.Refused 5
    unfolding entity_of_m
    entity_5 h = rw h

    pub entity_6 : stale_bad a ≡ false → bad_domain x c s q ≡ true → entity_of_m d x c q v a s p n ≡ checked.Refused 6
    unfolding entity_of_m
    entity_6 h k = rw (h, k)

    pub entity_value : stale_bad a ≡ false → bad_domain x c s q ≡ false → entity_of_m d x c q v a s p n ≡ value_m d x v s p n
    unfolding entity_of_m
    entity_value h k = rw (h, k)

  pub entity_rest_is : (x c q : ℕ) → entity_rest_m d x c q s p n
      ≡ by u16 (λ v. skip_m 1 ⨾ by u32 (λ a. entity_of_m d x c q v a)) s p n
  unfolding entity_rest_m
  entity_rest_is x c q = refl

  module _ {a : Num} (e : found a ≡ u16 s p) where
    pub entity_none : a ≡ None → entity_m d s p n ≡ checked.Refused 30
    unfolding entity_m
    entity_none h = rw (is_broken e h, entity_m)

    module _ {x o : ℕ} (h : a ≡ Some (x, o)) {b : Num} (f : found b ≡ u16 s o) where
      pub entity_no_count : b ≡ None → entity_m d s p n ≡ checked.Refused 30
      unfolding entity_m
      entity_no_count k = rw (is_got e h, entity_m) (rw (is_broken f k, entity_m))

      module _ {c q : ℕ} (k : b ≡ Some (c, q)) where
        pub entity_is : entity_m d s p n ≡ (skip_m (2 * c) ⨾ entity_rest_m d x c q) s q n
        unfolding entity_m ◌⨾◌
        entity_is = rw (is_got e h, entity_m) (rw (is_got f k, entity_m))

  -- ---- events

  pub input_is : input_m d s p n ≡ by u8 (λ k. if eqb k 0 then pair_m d else stay) s p n
  unfolding input_m
  input_is = refl

  pub event_is : event_m d s p n ≡ (skip_m 4 ⨾ input_m d) s p n
  unfolding event_m
  event_is = refl

module _ (h : ℕ) (starts s : List ℕ) where
  pub seconds_end : (left j last : ℕ) → left ≤ 0 → seconds_bad h starts s left j last ≡ false
  unfolding seconds_bad
  seconds_end zero j last o = refl
  seconds_end (suc left) j last o = absurd (omega arith)

  pub seconds_left : {a b : ℕ} (j last : ℕ) → a ≡ b → seconds_bad h starts s a j last ≡ seconds_bad h starts s b j last
  seconds_left j last e = ap (λ (x : ℕ). seconds_bad h starts s x j last) e

  module _ (j last : ℕ) {a : Num} (e : found a ≡ u32 s (get_or starts j 0)) where
    pub seconds_broken : (left : ℕ) → 0 < left → a ≡ None → seconds_bad h starts s left j last ≡ false
    unfolding seconds_bad
    seconds_broken zero o g = absurd (omega arith)
    seconds_broken (suc left) o g = rw (is_broken e g, seconds_bad)

    module _ {t q : ℕ} (g : a ≡ Some (t, q)) where
      pub seconds_late : (left : ℕ) → 0 < left → h < t → seconds_bad h starts s left j last ≡ true
      unfolding seconds_bad
      seconds_late zero o k = absurd (omega arith)
      seconds_late (suc left) o k = rw (is_got e g, seconds_bad) (rw (or_first (lt-ltb h t k) (ltb t last), seconds_bad))

      pub seconds_fall : (left : ℕ) → 0 < left → t ≤ h → t < last → seconds_bad h starts s left j last ≡ true
      unfolding seconds_bad
      seconds_fall zero o k m = absurd (omega arith)
      seconds_fall (suc left) o k m = rw (is_got e g, seconds_bad)
          (rw (or_later {b = ltb t last} (le-ltb h t k) ∙ lt-ltb t last m, seconds_bad))

      pub seconds_next : (left : ℕ) → 0 < left → t ≤ h → last ≤ t →
          seconds_bad h starts s left j last ≡ seconds_bad h starts s (left - 1) (j + 1) t
      unfolding seconds_bad
      seconds_next zero o k m = absurd (omega arith)
      seconds_next (suc left) o k m = rw (sub-one (suc left))
          (rw (is_got e g, seconds_bad) (rw (or_false (le-ltb h t k) (le-ltb t last m), seconds_bad)))

module _ (starts s : List ℕ) where
  pub gaps_end : (left j : ℕ) → left ≤ 0 → gaps_bad starts s left j ≡ false
  unfolding gaps_bad
  gaps_end zero j o = refl
  gaps_end (suc left) j o = absurd (omega arith)

  pub gaps_left : {a b : ℕ} (j : ℕ) → a ≡ b → gaps_bad starts s a j ≡ gaps_bad starts s b j
  gaps_left j e = ap (λ (x : ℕ). gaps_bad starts s x j) e

  module _ (j : ℕ) {a : Num} (e : found a ≡ u32 s (get_or starts j 0)) where
    pub gaps_broken : (left : ℕ) → 0 < left → a ≡ None → gaps_bad starts s left j ≡ false
    unfolding gaps_bad
    gaps_broken zero o g = absurd (omega arith)
    gaps_broken (suc left) o g = rw (is_broken e g, gaps_bad)

    module _ {t q : ℕ} (g : a ≡ Some (t, q)) where
      pub gaps_long : (left : ℕ) → 0 < left → 86400 < t → gaps_bad starts s left j ≡ true
      unfolding gaps_bad
      gaps_long zero o k = absurd (omega arith)
      gaps_long (suc left) o k = rw (is_got e g, gaps_bad) (rw (lt-ltb 86400 t k, gaps_bad))

      pub gaps_next : (left : ℕ) → 0 < left → t ≤ 86400 → gaps_bad starts s left j ≡ gaps_bad starts s (left - 1) (j + 1)
      unfolding gaps_bad
      gaps_next zero o k = absurd (omega arith)
      gaps_next (suc left) o k = rw (sub-one (suc left)) (rw (is_got e g, gaps_bad) (rw (le-ltb 86400 t k, gaps_bad)))

-- ---- identifiers

module _ (s : List ℕ) (p x : ℕ) {k : Part} where
  module _ (h : k ≡ part.Invariant) {a : Num} (e : found a ≡ u8 s p) where
    pub id_broken : a ≡ None → id_is k s p x ≡ false
    unfolding id_is
    id_broken g = rw h (rw (is_broken e g, id_is))

    pub id_behind : {i q : ℕ} → a ≡ Some (i, q) → id_is k s p x ≡ place_is s q x
    unfolding id_is
    id_behind g = rw h (rw (is_got e g, id_is))

  pub id_entity : k ≡ part.Entity → id_is k s p x ≡ place_is s p x
  unfolding id_is
  id_entity h = rw h

  pub id_event : k ≡ part.Event → id_is k s p x ≡ place_is s p x
  unfolding id_is
  id_event h = rw h

  pub id_input : k ≡ part.Input → id_is k s p x ≡ place_is s p x
  unfolding id_is
  id_input h = rw h

  pub id_rule : k ≡ part.Rule → id_is k s p x ≡ place_is s p x
  unfolding id_is
  id_rule h = rw h

module _ (k : Part) (starts s : List ℕ) (x : ℕ) where
  pub seen_none : (j : ℕ) → j ≤ 0 → seen k starts s j x ≡ false
  unfolding seen
  seen_none zero h = refl
  seen_none (suc j) h = absurd (omega arith)

  pub seen_here : (j i : ℕ) → 0 < j → i ≡ j - 1 → id_is k s (get_or starts i 0) x ≡ true → seen k starts s j x ≡ true
  unfolding seen
  seen_here zero i o e h = absurd (omega arith)
  seen_here (suc j) i o e h = let z : i ≡ j = omega arith in
      rw (ap (λ (y : ℕ). id_is k s (get_or starts y 0) x) (sym z) ∙ h, seen)

  pub seen_later : (j i : ℕ) → 0 < j → i ≡ j - 1 → id_is k s (get_or starts i 0) x ≡ false →
      seen k starts s j x ≡ seen k starts s i x
  unfolding seen
  seen_later zero i o e h = absurd (omega arith)
  seen_later (suc j) i o e h = let z : i ≡ j = omega arith in
      rw (ap (λ (y : ℕ). id_is k s (get_or starts y 0) x) (sym z) ∙ h, seen) (ap (λ (y : ℕ). seen k starts s y x) (sym z))

module _ (k : Part) (starts : List ℕ) (j : ℕ) (s : List ℕ) (x : ℕ) where
  pub id_bad : bad_place s x ≡ true → bad_id k starts j s x ≡ true
  unfolding bad_id
  id_bad h = rw h

  pub id_fine : bad_place s x ≡ false → bad_id k starts j s x ≡ seen k starts s j x
  unfolding bad_id
  id_fine h = rw h

-- ---- invariants
module _ (d : Declaration) (s : List ℕ) (p n : ℕ) where
  module _ {a : Num} (e : found a ≡ u16 s p) where
    pub conditions_broken : a ≡ None → conditions_m d s p n ≡ checked.Refused 30
    unfolding conditions_m
    conditions_broken h = rw (is_broken e h, conditions_m)

    module _ {c q : ℕ} (h : a ≡ Some (c, q)) where
      pub conditions_none : c ≡ 0 → conditions_m d s p n ≡ checked.Refused 11
      unfolding conditions_m
      conditions_none k = rw (is_got e h, conditions_m) (rw (eq-eqb c 0 k))

      pub conditions_many : (c ≡ 0 → ⊥) → 32 < c → conditions_m d s p n ≡ checked.Refused 11
      unfolding conditions_m
      conditions_many k m = rw (is_got e h, conditions_m) (rw (ne_eqb c 0 k, lt-ltb 32 c m))

      pub conditions_are : (c ≡ 0 → ⊥) → c ≤ 32 → conditions_m d s p n ≡ predicates_m d 51 s p n
      unfolding conditions_m
      conditions_are k m = rw (is_got e h, conditions_m) (rw (ne_eqb c 0 k, le-ltb 32 c m))

  pub guard_is : guard_m d s p n ≡ by u16 (λ x. by u16 (λ v. conditions_m d ⨾ value_m d x v)) s p n
  unfolding guard_m
  guard_is = refl

  pub transition_is : transition_m d s p n ≡ by u16 (λ x. by u16 (λ f. by u16 (λ t. value_m d x f ⨾ value_m d x t))) s p n
  unfolding transition_m
  transition_is = refl

  pub response_is : response_m d s p n ≡ (predicate_m d 51 ⨾ predicate_m d 51 ⨾ day_m 12) s p n
  unfolding response_m
  response_is = refl

  module _ {k : ℕ} where
    pub invariant_0 : k ≡ 0 → invariant_of_m d k s p n ≡ conditions_m d s p n
    unfolding invariant_of_m
    invariant_0 e = rw e

    pub invariant_1 : k ≡ 1 → invariant_of_m d k s p n ≡ guard_m d s p n
    unfolding invariant_of_m
    invariant_1 e = rw e

    pub invariant_2 : k ≡ 2 → invariant_of_m d k s p n ≡ transition_m d s p n
    unfolding invariant_of_m
    invariant_2 e = rw e

    pub invariant_else : (k ≡ 0 → ⊥) → (k ≡ 1 → ⊥) → (k ≡ 2 → ⊥) → invariant_of_m d k s p n ≡ response_m d s p n
    unfolding invariant_of_m
    invariant_else a b c = rw (ne_eqb _ _ a, ne_eqb _ _ b, ne_eqb _ _ c)

  module _ (starts : List ℕ) (j : ℕ) {a : Num} (e : found a ≡ u8 s p) where
    pub invariant_none : a ≡ None → invariant_m d starts j s p n ≡ checked.Refused 30
    unfolding invariant_m
    invariant_none h = rw (is_broken e h, invariant_m)

    module _ {k o : ℕ} (h : a ≡ Some (k, o)) {b : Num} (f : found b ≡ u16 s o) where
      pub invariant_no_id : b ≡ None → invariant_m d starts j s p n ≡ checked.Refused 30
      unfolding invariant_m
      invariant_no_id g = rw (is_got e h, invariant_m) (rw (is_broken f g, invariant_m))

      module _ {x q : ℕ} (g : b ≡ Some (x, q)) where
        pub invariant_10 : bad_id part.Invariant starts j s x ≡ true → invariant_m d starts j s p n ≡ checked.Refused 10
        unfolding invariant_m
        invariant_10 m = rw (is_got e h, invariant_m) (rw (is_got f g, invariant_m) (rw m))

        pub invariant_is : bad_id part.Invariant starts j s x ≡ false → invariant_m d starts j s p n ≡ invariant_of_m d k s q n
        unfolding invariant_m
        invariant_is m = rw (is_got e h, invariant_m) (rw (is_got f g, invariant_m) (rw m))

  -- ---- automations

  pub lists_are : (t : ℕ) → lists_m d t s p n ≡ (triggers_m d t ⨾ predicates_m d 0 ⨾ actions_m d 17) s p n
  unfolding lists_m
  lists_are t = refl

  module _ (m : ℕ) {a : Num} (e : found a ≡ u16 s p) where
    pub rule_lists_broken : a ≡ None → rule_lists_m d m s p n ≡ checked.Refused 30
    unfolding rule_lists_m
    rule_lists_broken h = rw (is_broken e h, rule_lists_m)

    module _ {t q : ℕ} (h : a ≡ Some (t, q)) {x : Checked} (f : x ≡ skip_m (16 * t) s q n) where
      pub rule_lists_short : {i : ℕ} → x ≡ checked.Refused i → rule_lists_m d m s p n ≡ x
      unfolding rule_lists_m and_then
      rule_lists_short g = rw (is_got e h, rule_lists_m) (rw (sym f ∙ g, and_then) (sym g))

      module _ {r o : ℕ} (g : x ≡ checked.To r o) {b : Num} (u : found b ≡ u16 s r) where
        pub rule_lists_no_count : b ≡ None → rule_lists_m d m s p n ≡ checked.Refused 30
        unfolding rule_lists_m and_then
        rule_lists_no_count v = rw (is_got e h, rule_lists_m) (rw (sym f ∙ g, and_then) (rw (is_broken u v, rule_lists_m)))

        module _ {c w : ℕ} (v : b ≡ Some (c, w)) where
          pub rule_lists_14 : bad_counts m t c ≡ true → rule_lists_m d m s p n ≡ checked.Refused 14
          unfolding rule_lists_m and_then
          rule_lists_14 y = rw (is_got e h, rule_lists_m) (rw (sym f ∙ g, and_then) (rw (is_got u v, rule_lists_m) (rw y)))

          pub rule_lists_are : bad_counts m t c ≡ false → rule_lists_m d m s p n ≡ lists_m d t s q n
          unfolding rule_lists_m and_then
          rule_lists_are y = rw (is_got e h, rule_lists_m) (rw (sym f ∙ g, and_then) (rw (is_got u v, rule_lists_m) (rw y)))

  pub rule_of_is : rule_of_m d s p n ≡ (skip_m 1 ⨾ by u32 (λ m. rule_lists_m d m)) s p n
  unfolding rule_of_m
  rule_of_is = refl

  module _ (starts : List ℕ) (j : ℕ) {a : Num} (e : found a ≡ u16 s p) where
    pub rule_none : a ≡ None → rule_m d starts j s p n ≡ checked.Refused 30
    unfolding rule_m
    rule_none h = rw (is_broken e h, rule_m)

    module _ {x q : ℕ} (h : a ≡ Some (x, q)) where
      pub rule_13 : bad_id part.Rule starts j s x ≡ true → rule_m d starts j s p n ≡ checked.Refused 13
      unfolding rule_m
      rule_13 m = rw (is_got e h, rule_m) (rw m)

      pub rule_is : bad_id part.Rule starts j s x ≡ false → rule_m d starts j s p n ≡ rule_of_m d s q n
      unfolding rule_m
      rule_is m = rw (is_got e h, rule_m) (rw m)

  -- ---- sections

  module _ (starts : List ℕ) (j : ℕ) {k : Part} where
    pub part_entity : k ≡ part.Entity → part_m d k starts j s p n ≡ entity_m d s p n
    unfolding part_m
    part_entity h = rw h

    pub part_event : k ≡ part.Event → part_m d k starts j s p n ≡ event_m d s p n
    unfolding part_m
    part_event h = rw h

    pub part_input : k ≡ part.Input → part_m d k starts j s p n ≡ input_m d s p n
    unfolding part_m
    part_input h = rw h

    pub part_invariant : k ≡ part.Invariant → part_m d k starts j s p n ≡ invariant_m d starts j s p n
    unfolding part_m
    part_invariant h = rw h

    pub part_rule : k ≡ part.Rule → part_m d k starts j s p n ≡ rule_m d starts j s p n
    unfolding part_m
    part_rule h = rw h

module _ (m t c : ℕ) where
  pub counts_1 : m ≡ 0 → bad_counts m t c ≡ true
  unfolding bad_counts
  counts_1 h = rw h

  pub counts_2 : (m ≡ 0 → ⊥) → 16 < m → bad_counts m t c ≡ true
  unfolding bad_counts
  counts_2 a h = rw (ne_eqb m 0 a, lt-ltb 16 m h)

  pub counts_3 : (m ≡ 0 → ⊥) → m ≤ 16 → t ≡ 0 → bad_counts m t c ≡ true
  unfolding bad_counts
  counts_3 a b h = rw (ne_eqb m 0 a, le-ltb 16 m b, eq-eqb t 0 h)

  pub counts_4 : (m ≡ 0 → ⊥) → m ≤ 16 → (t ≡ 0 → ⊥) → 16 < t → bad_counts m t c ≡ true
  unfolding bad_counts
  counts_4 a b d h = rw (ne_eqb m 0 a, le-ltb 16 m b, ne_eqb t 0 d, lt-ltb 16 t h)

  pub counts_5 : (m ≡ 0 → ⊥) → m ≤ 16 → (t ≡ 0 → ⊥) → t ≤ 16 → bad_counts m t c ≡ ltb 32 c
  unfolding bad_counts
  counts_5 a b d h = rw (ne_eqb m 0 a, le-ltb 16 m b, ne_eqb t 0 d, le-ltb 16 t h)

module _ (d : Declaration) (k : Part) (starts s : List ℕ) where
  pub parts_end : (left j n : ℕ) → left ≤ 0 → parts_m d k starts left j s n ≡ checked.To 0 n
  unfolding parts_m
  parts_end zero j n h = refl
  parts_end (suc left) j n h = absurd (omega arith)

  pub parts_left : {a b : ℕ} (j n : ℕ) → a ≡ b → parts_m d k starts a j s n ≡ parts_m d k starts b j s n
  parts_left j n e = ap (λ (x : ℕ). parts_m d k starts x j s n) e

  module _ (j n : ℕ) {x : Checked} (e : x ≡ part_m d k starts j s (get_or starts j 0) n) where
    pub parts_refused : (left : ℕ) {i : ℕ} → 0 < left → x ≡ checked.Refused i → parts_m d k starts left j s n ≡ x
    unfolding parts_m and_then
    parts_refused zero o h = absurd (omega arith)
    parts_refused (suc left) o h = rw (sym e ∙ h, and_then) (sym h)

    pub parts_next : (left : ℕ) {q m : ℕ} → 0 < left → x ≡ checked.To q m →
        parts_m d k starts left j s n ≡ parts_m d k starts (left - 1) (j + 1) s m
    unfolding parts_m and_then
    parts_next zero o h = absurd (omega arith)
    parts_next (suc left) o h = rw (sub-one (suc left)) (rw (sym e ∙ h, and_then))
