-- The checks of a section say what `Validate` says of the parts that the reader finds there.
use Rattle.std.specs.Prelude.{if◌then◌else◌}
use mathlib.Core.Path.{◌≡◌, refl, sym, ap, ◌∙◌, subst}
use mathlib.Core.List.{List, [], ◌∷◌}
use mathlib.Core.Bool.{Bool, true, false, ◌&&◌, ◌||◌, not}
use mathlib.Core.Option.{Option, none, some}
use Prim.Native.Nat.{ℕ, zero, suc, ◌+◌, ◌*◌, ◌≤◌, ◌<◌}
use native.Mathlib.Omega.{arith}
use native.Mathlib.Numerals.{add-one}
use lib.ListN.{length, get_or}
use lib.Dec.{ltb, leb, eqb}
use borrow.Author.Tests.{lt-ltb, le-ltb, le-leb, ne_eqb, leb-true, leb-false}
use Rattle.texts.specs.Lists.{present_and, is_empty, any}
use Rattle.texts.specs.Texts.{Text, eq_t, mem_t}
use Rattle.model_spec.specs.Answer.{Answer, answer, refused, Verdict, accept, ◌>>=◌, ◌and◌, ◌when◌, each_accepted}
use Rattle.model_spec.specs.Model.{
  Entity,
  Predicate,
  Trigger,
  Automation,
  Input,
  reload,
  Event,
  Invariant,
  never,
  guard,
  transition,
  response,
  id_of,
}
use Rattle.model_spec.specs.File.{◌>>=◌ as ◌>>=ᵣ◌}
use Rattle.model_spec.specs.File.{
  got,
  Reader,
  give,
  refuse,
  u8,
  u16,
  u32,
  times,
  counted,
  number?,
  source,
  mode,
  texts,
  place,
  predicate,
  trigger,
  entity,
  input,
  event,
  invariant,
  actions,
  automation,
}
use Rattle.model_spec.specs.Validate.{
  day,
  bad_length,
  doubles,
  ordered,
  bad_entity,
  bad_bounds,
  check_value,
  check_predicate,
  check_stated,
  check_trigger,
  check_input,
  check_entity,
  check_conditions,
  check_invariant,
  check_invariants,
  check_actions,
  check_rule,
  check_rules,
}
use Rattle.model_walk.proofs.Found as found
use Rattle.model_walk.proofs.Found.{
  Case,
  is_true,
  is_false,
  case,
  bound,
  given,
  Wide,
  u16_wide,
  u32_wide,
  kind_wide,
  Counted,
  counted_found,
  Kind,
  kind_found,
  place_found,
  EntityParts,
  entity_found,
}
use Rattle.model_walk.proofs.Refines.{sees_mode}
use Rattle.model_parts.specs.declared.Section.{Section}
use Rattle.model_parts.specs.Stand.{Reads}
use Rattle.model_parts.proofs.Stands.{more}
use Rattle.model_order.proofs.Places.{same_place, texts_ascend, placed_text}
use Rattle.model_index.specs.Indexed.{Holds}
use Rattle.model_check.specs.declared.Checked.{Checked}
use Rattle.model_check.specs.declared.Checked.TheVariants as checked
use Rattle.model_check.specs.Checks.{
  Declaration,
  and_then,
  ◌⨾◌,
  stay,
  skip_m,
  day_m,
  place_is,
  among,
  value_m,
  pair_m,
  predicate_m,
  predicates_m,
  triggers_m,
}
use Rattle.model_actions.specs.Actions.{actions_m}
use Rattle.model_check.proofs.Laws as checks
use Rattle.model_check.proofs.Refines.{after, after_same, and_bind, and_assoc, eqb_sym, or_is, by_got, next_and, skip_wide, skip_then, stays, Grounded, among_agrees, value_agrees, pair_agrees, stated_agrees, predicates_agree, all_stated_agree, triggers_agree, day_agrees}
use Rattle.model_actions.proofs.Refines.{actions_agree}
use Rattle.model_sections.specs.declared.Part.{Part}
use Rattle.model_sections.specs.declared.Part.TheVariants as part
use Rattle.model_sections.specs.Sections.{
  bad_place,
  any_bad,
  doubled,
  bad_domain,
  stale_bad,
  entity_of_m,
  entity_rest_m,
  entity_m,
  input_m,
  event_m,
  seconds_bad,
  gaps_bad,
  id_is,
  seen,
  bad_id,
  conditions_m,
  guard_m,
  transition_m,
  response_m,
  invariant_of_m,
  invariant_m,
  bad_counts,
  lists_m,
  rule_lists_m,
  rule_of_m,
  rule_m,
  part_m,
  parts_m,
}
use Rattle.model_sections.proofs.Laws as laws

-- ---- lists

none_read : {A : Type 0} (r : Reader A) (s : List ℕ) (p : ℕ) {l : List A} {q : ℕ} → times zero r s p ≡ got l q →
    (l ≡ []) × (p ≡ q)
unfolding times give
none_read r s p e = ((cc), (cc))

times_length : {A : Type 0} (r : Reader A) (s : List ℕ) (i p : ℕ) {l : List A} {q : ℕ} → times i r s p ≡ got l q →
    length l ≡ i
times_length r s zero p e = ap length (none_read r s p e).0
times_length r s (suc i) p e = let m = more r s i p e in
    ap length m.both ∙ ap suc (times_length r s i m.after m.are_others)

pub empty_is : {A : Type 0} (l : List A) → is_empty l ≡ eqb (length l) 0
unfolding is_empty
empty_is [] = refl
empty_is (x ∷ l) = sym (ne_eqb (suc (length l)) 0 (λ e. absurd (omega arith)))

-- the tests of an entity, in the code's order and in the definition's
tests : (a b : Bool) (w : Verdict) (p n : ℕ) → (if a then checked.Refused 5 else if b then checked.Refused 6
    else after p (w and answer n)) ≡ after p ((5 when a and 6 when b and w) and answer n)
unfolding ◌when◌ ◌and◌ after
tests true b w p n = refl
tests false true w p n = refl
tests false false w p n = refl

-- a test ahead of a verdict
tested : (k : ℕ) (b : Bool) (v : Verdict) (p n : ℕ) →
    (if b then checked.Refused k else after p (v and answer n)) ≡ after p ((k when b and v) and answer n)
unfolding ◌when◌ ◌and◌ after
tested k true v p n = refl
tested k false v p n = refl

tested_answer : (k : ℕ) (b : Bool) (x : Answer ℕ) (p : ℕ) →
    (if b then checked.Refused k else after p x) ≡ after p (k when b and x)
unfolding ◌when◌ ◌and◌ after
tested_answer k true x p = refl
tested_answer k false x p = refl

-- ---- the texts of a file that was read
module _ (s : List ℕ) (ts : List Text) (all_texts : Reads texts s 4 ts) where
  abbrev T : ℕ → Text
  T x = get_or ts x []

  same : (i j : ℕ) → i < length ts → j < length ts → eq_t (T i) (T j) ≡ eqb i j
  same = same_place ts (texts_ascend s all_texts.1)

  bad_agrees : (x : ℕ) → x < length ts → bad_place s x ≡ bad_length (T x)
  unfolding bad_place
  bad_agrees x h = ap bad_length (placed_text s all_texts.1 x h)

  places_wide : (i p : ℕ) (l : List Text) (q : ℕ) → p ≤ length s → times i (place ts) s p ≡ got l q → Wide (2 * i) s p q
  places_wide zero p l q h e = let z = (none_read (place ts) s p e).1 in record { ends = omega arith; inside = omega arith }
  places_wide (suc i) p l q h e =
      let m = more (place ts) s i p e in
      let w = u16_wide s p (place_found ts m.is_first).is_place in
      let v = places_wide i m.after m.others q (omega (arith, w.ends, w.inside)) m.are_others in
      record { ends = omega (arith, w.ends, v.ends); inside = omega (arith, w.ends, v.inside) }

  any_agrees : (i p : ℕ) (l : List Text) (q : ℕ) → times i (place ts) s p ≡ got l q → any_bad i s p ≡ any bad_length l
  unfolding any_bad any
  any_agrees zero p l q e = rw (none_read (place ts) s p e).0
  any_agrees (suc i) p l q e =
      let m = more (place ts) s i p e in
      let x = place_found ts m.is_first in
      rw (x.is_place, any_bad) (
      or_is (bad_place s x.at) (any_bad i s m.after)
      ∙ ap (λ (b : Bool). bad_place s x.at || b) (any_agrees i m.after m.others q m.are_others)
      ∙ ap (λ (b : Bool). b || any bad_length m.others) (bad_agrees x.at x.is_in ∙ ap bad_length (sym x.is_text))
      ∙ ap (any bad_length) (sym m.both))

  doubles_agree : (i p : ℕ) (l : List Text) (q : ℕ) → times i (place ts) s p ≡ got l q → doubled i s p ≡ doubles l
  unfolding doubled doubles
  doubles_agree zero p l q e = rw (none_read (place ts) s p e).0
  doubles_agree (suc i) p l q e =
      let m = more (place ts) s i p e in
      let x = place_found ts m.is_first in
      rw (x.is_place, doubled) (
      or_is (among i s m.after x.at) (doubled i s m.after)
      ∙ ap (λ (b : Bool). among i s m.after x.at || b) (doubles_agree i m.after m.others q m.are_others)
      ∙ ap (λ (b : Bool). b || doubles m.others) (among_agrees s ts same x.at x.is_in i m.after m.others q
      m.are_others ∙ ap (λ (t : Text). mem_t t m.others) (sym x.is_text))
      ∙ ap doubles (sym m.both))

  -- ---- the parts, over a file whose declarations are known
  module _ (d : Declaration) (es : List Entity) (g : Grounded s d ts es) where
    stale_agrees : (p : ℕ) (o : Option ℕ) (q : ℕ) → number? s p ≡ got o q →
        (a : ℕ) × ((u32 s p ≡ got a q) × (stale_bad a ≡ present_and (ltb day) o))
    unfolding number? stale_bad present_and
    stale_agrees p o q e = let b = bound u32 _ e in let z = given _ _ _ b.rest in (
      b.value,
      (
        b.first ∙ ap (got b.value) z.1,
        cases (eqb b.value 4294967295) b.value
            ∙ ap (present_and (ltb day)) z.0,
      ),
    )
      where
        cases : (c : Bool) (x : ℕ) → (if c then false else ltb day x) ≡ present_and (ltb day) (if c then none else some x)
        cases true x = refl
        cases false x = refl

    domain_agrees : (e : Entity) (p q : ℕ) (f : EntityParts ts s p e q) →
        bad_domain f.name.at f.domain.count s f.domain.start ≡ bad_entity e
    unfolding bad_domain bad_entity
    domain_agrees e p q f =
        let n : f.domain.count ≡ length e.domain =
        sym (times_length (place ts) s f.domain.count f.domain.start f.domain.are_values) in
        rw (
          bad_agrees f.name.at f.name.is_in,
          any_agrees f.domain.count f.domain.start e.domain f.at_initial f.domain.are_values,
          doubles_agree f.domain.count f.domain.start e.domain f.at_initial f.domain.are_values,
        )
        (ap (λ (t : Text). bad_length t || eqb f.domain.count 0 || ltb 16 f.domain.count
        || any bad_length e.domain || doubles e.domain) (sym f.name.is_text)
        ∙ ap (λ (c : ℕ). bad_length e.name || eqb c 0 || ltb 16 c || any bad_length e.domain || doubles e.domain) n
        ∙ ap (λ (b : Bool). bad_length e.name || b || ltb 16 (length e.domain) || any bad_length e.domain
        || doubles e.domain) (sym (empty_is e.domain)))

    entity_tests : (e : Entity) (x v a c q p n : ℕ) → bad_domain x c s q ≡ bad_entity e →
        stale_bad a ≡ present_and (ltb day) e.stale_after →
        value_m d x v s p n ≡ after p (check_value es e.name e.initial and answer n) →
        entity_of_m d x c q v a s p n ≡ after p (check_entity es e and answer n)
    unfolding entity_of_m check_entity
    entity_tests e x v a c q p n h k m =
        rw (h, k, m) (tests (present_and (ltb day) e.stale_after) (bad_entity e) (check_value es e.name e.initial)
        p n)

    entity_reads : (p n : ℕ) {x o c q : ℕ} → u16 s p ≡ got x o → u16 s o ≡ got c q →
        entity_m d s p n ≡ (skip_m (2 * c) ⨾ entity_rest_m d x c q) s q n
    unfolding entity_m ◌⨾◌
    entity_reads p n e f = rw (e, entity_m) (rw (f, entity_m))

    pub entity_agrees : (p n : ℕ) (e : Entity) (q : ℕ) → entity ts s p ≡ got e q →
        entity_m d s p n ≡ after q (check_entity es e and answer n)
    entity_agrees p n e q h =
        let f = entity_found ts h in
        let a = stale_agrees f.at_stale e.stale_after q f.stale in
        let c = f.domain in
        let w = u16_wide s f.at_domain c.is_count in
        let v = places_wide c.count c.start e.domain f.at_initial (omega (arith, w.ends, w.inside))
        c.are_values in
        entity_reads p n f.name.is_place c.is_count
        ∙ checks.to s c.start n (skip_m (2 * c.count)) (entity_rest_m d f.name.at c.count c.start) refl
        (skip_wide s (2 * c.count) c.start n v)
        ∙ laws.entity_rest_is d s f.at_initial n f.name.at c.count c.start
        ∙ by_got s u16 _ f.at_initial n f.initial.is_place
        ∙ skip_then s 1 _ f.at_tier n f.tier_wide
        ∙ by_got s u32 _ f.at_stale n a.1.0
        ∙ entity_tests e f.name.at f.initial.at a.0 c.count c.start q n (domain_agrees e p q f) a.1.1 (
        value_agrees s d ts es g f.name.at f.initial.at f.name.is_in f.initial.is_in q n
        ∙ ap (λ (y : Text). after q (check_value es y (T f.initial.at) and answer n)) (sym f.name.is_text)
        ∙ ap (λ (y : Text). after q (check_value es e.name y and answer n)) (sym f.initial.is_text))

    -- ---- events and the alphabet

    input_kinds : List (Reader Input)
    input_kinds = (place ts >>=ᵣ λ x. place ts >>=ᵣ λ v. give (Input.set x v)) ∷ give Input.restart ∷ give reload ∷ []

    pub input_agrees : (p n : ℕ) (a : Input) (q : ℕ) → input ts s p ≡ got a q →
        input_m d s p n ≡ after q (check_input es a and answer n)
    unfolding input input_kinds check_input
    input_agrees p n a q e = laws.input_is d s p n ∙ by_got s u8 _ p n k.is_kind ∙ cases k.kind k.holds
      where
        k : Kind input_kinds s p a q
        k = kind_found input_kinds e

        same_input : {x y : Input} → x ≡ y → after q (check_input es x and answer n)
            ≡ after q (check_input es y and answer n)
        same_input z = ap (λ (y : Input). after q (check_input es y and answer n)) z

        cases : (i : ℕ) → get_or input_kinds i refuse s k.next ≡ got a q →
            (if eqb i 0 then pair_m d else stay) s k.next n ≡ after q (check_input es a and answer n)
        cases zero h =
            let x = bound (place ts) _ h in
            let v = bound (place ts) _ x.rest in
            let z = given _ _ _ v.rest in
            pair_agrees s d ts es g k.next n x.first (v.first ∙ ap (got v.value) z.1) ∙ same_input z.0
        cases (suc zero) h = let z = given _ _ _ h in stays s k.next n
            ∙ ap (λ (o : ℕ). after o (accept and answer n)) z.1 ∙ same_input z.0
        cases (suc (suc zero)) h = let z = given _ _ _ h in
            stays s k.next n ∙ ap (λ (o : ℕ). after o (accept and answer n)) z.1 ∙ same_input z.0
        cases (suc (suc (suc i))) h = absurd (found.refused s k.next h)

    pub event_agrees : (p n : ℕ) (a : Event) (q : ℕ) → event ts s p ≡ got a q →
        event_m d s p n ≡ after q (check_input es a.input and answer n)
    unfolding event
    event_agrees p n a q e =
        let t = bound u32 _ e in
        let i = bound (input ts) _ t.rest in
        let z = given _ _ _ i.rest in
        laws.event_is d s p n
        ∙ skip_then s 4 (input_m d) p n (u32_wide s p t.first)
        ∙ input_agrees t.next n i.value q (i.first ∙ ap (got i.value) z.1)
        ∙ ap (λ (v : Event). after q (check_input es v.input and answer n)) z.0

    -- ---- sections whose parts are checked one by one

    parts_step : (k : Part) (starts : List ℕ) (left j n q : ℕ) (x : Answer ℕ) (f : ℕ → Answer ℕ) →
        part_m d k starts j s (get_or starts j 0) n ≡ after q x →
        ((m : ℕ) → parts_m d k starts left (j + 1) s m ≡ after 0 (f m)) →
        parts_m d k starts (suc left) j s n ≡ after 0 (x >>= f)
    unfolding parts_m and_then after ◌>>=◌
    parts_step k starts left j n q x f e h = ap (λ (y : Checked). and_then y (λ o m. parts_m d k starts left (j + 1) s m)) e
        ∙ cases x
      where
        cases : (y : Answer ℕ) → and_then (after q y) (λ o m. parts_m d k starts left (j + 1) s m) ≡ after 0 (y >>= f)
        cases (answer m) = h m
        cases (refused i) = refl

    parts_none : (k : Part) (starts : List ℕ) (j n : ℕ) → parts_m d k starts zero j s n ≡ checked.To 0 n
    unfolding parts_m
    parts_none k starts j n = refl

    -- the first of the values that stand from the j-th position on, and the others
    module _ {A : Type 0} (r : Reader A) (starts : List ℕ) (a : A) (l : List A) (j : ℕ)
        (f : (a₀ : A) (i : ℕ) → i < length (a ∷ l) → Reads r s (get_or starts (j + i) 0) (get_or (a ∷ l) i a₀)) where
      first_of : Reads r s (get_or starts j 0) a
      first_of = let z : j + 0 ≡ j = omega arith in subst (λ (i : ℕ). Reads r s (get_or starts i 0) a) z (f a 0 (omega arith))

      others_of : (a₀ : A) (i : ℕ) → i < length l → Reads r s (get_or starts (j + 1 + i) 0) (get_or l i a₀)
      others_of a₀ i g = let y : j + suc i ≡ j + 1 + i = omega arith in
          subst (λ (k : ℕ). Reads r s (get_or starts k 0) (get_or l i a₀)) y (f a₀ (suc i) (omega arith))

    -- a section that holds at most a hundred parts, from the first on
    pub from_start : {A : Type 0} (r : Reader A) (x : Section) (l : List A) → Holds r s x l → length l ≤ 100 →
        (a₀ : A) (i : ℕ) → i < length l → Reads r s (get_or x.starts (0 + i) 0) (get_or l i a₀)
    from_start r x l f o a₀ i g = let z : i ≡ 0 + i = omega arith in
        subst (λ (k : ℕ). Reads r s (get_or x.starts k 0) (get_or l i a₀)) z (f.stand a₀ i (omega arith) g)

    module _ {A : Type 0} (r : Reader A) (c : A → Verdict) (k : Part) (starts : List ℕ)
        (h : (j p n : ℕ) (a : A) (q : ℕ) → r s p ≡ got a q → part_m d k starts j s p n ≡ after q (c a and answer n)) where
      parts_agree : (l : List A) (j n : ℕ) → ((a₀ : A) (i : ℕ) → i < length l →
          Reads r s (get_or starts (j + i) 0) (get_or l i a₀)) →
          parts_m d k starts (length l) j s n ≡ after 0 (each_accepted c l and answer n)
      unfolding each_accepted after ◌and◌
      parts_agree [] j n f = parts_none k starts j n
      parts_agree (a ∷ l) j n f =
          let u = first_of r starts a l j f in
          parts_step k starts (length l) j n u.0 (c a and answer n) (λ m. each_accepted c l and answer m)
          (h j (get_or starts j 0) n a u.0 u.1)
          (λ m. parts_agree l (j + 1) m (others_of r starts a l j f))
          ∙ after_same 0 (and_bind (c a) n (λ m. each_accepted c l and answer m)
          ∙ sym (and_assoc (c a) (each_accepted c l) (answer n)))

    pub section_agrees : {A : Type 0} (r : Reader A) (c : A → Verdict) (k : Part) (x : Section) (l : List A) →
        ((j p n : ℕ) (a : A) (q : ℕ) → r s p ≡ got a q → part_m d k x.starts j s p n ≡ after q (c a and answer n)) →
        Holds r s x l → length l ≤ 100 → (n : ℕ) →
        parts_m d k x.starts x.count 0 s n ≡ after 0 (each_accepted c l and answer n)
    section_agrees r c k x l h f o n = ap (λ (i : ℕ). parts_m d k x.starts i 0 s n) f.counts
        ∙ parts_agree r c k x.starts h l 0 n (from_start r x l f o)

    -- ---- identifiers

    -- the parts before the j-th have these identifiers
    pub Ids : Part → (starts : List ℕ) → (j : ℕ) → List Text → Type 0
    Ids k starts j ids = (x : ℕ) → x < length ts → seen k starts s j x ≡ mem_t (T x) ids

    pub no_ids : (k : Part) (starts : List ℕ) → Ids k starts 0 []
    unfolding Ids seen mem_t any
    no_ids k starts x h = refl

    -- one identifier more, that of the j-th part
    more_ids : (k : Part) (starts : List ℕ) (j y : ℕ) (ids : List Text) → y < length ts →
        ((x : ℕ) → id_is k s (get_or starts j 0) x ≡ eqb y x) → Ids k starts j ids → Ids k starts (j + 1) (T y ∷ ids)
    unfolding Ids seen mem_t any
    more_ids k starts j y ids h e f x o =
        ap (λ (i : ℕ). seen k starts s i x) (add-one j)
        ∙ ap (λ (b : Bool). elim b [ true ↦ true | false ↦ seen k starts s j x ]) (e x)
        ∙ or_is (eqb y x) (seen k starts s j x)
        ∙ ap (λ (b : Bool). eqb y x || b) (f x o)
        ∙ ap (λ (b : Bool). b || any (eq_t (T x)) ids) (eqb_sym y x ∙ sym (same x y o h))

    bad_id_agrees : (k : Part) (starts : List ℕ) (j x : ℕ) (ids : List Text) → x < length ts → Ids k starts j ids →
        bad_id k starts j s x ≡ (bad_length (T x) || mem_t (T x) ids)
    unfolding bad_id Ids
    bad_id_agrees k starts j x ids h f = rw (bad_agrees x h, f x h)

    -- ---- invariants

    conditions_agree : (p n : ℕ) (l : List Predicate) (q : ℕ) → counted (predicate ts) s p ≡ got l q →
        conditions_m d s p n ≡ after q (check_conditions es l and answer n)
    unfolding conditions_m check_conditions
    conditions_agree p n l q e =
        let c = counted_found (predicate ts) e in
        let o : c.count ≡ length l = sym (times_length (predicate ts) s c.count c.start c.are_values) in
        rw (c.is_count, conditions_m) (
        ap (λ (y : Checked). if eqb c.count 0 || ltb 32 c.count then checked.Refused 11 else y)
        (all_stated_agree s d ts es g p n l q e)
        ∙ ap (λ (i : ℕ). if eqb i 0 || ltb 32 i then checked.Refused 11
        else after q (each_accepted (check_stated es) l and answer n)) o
        ∙ ap (λ (b : Bool). if b || ltb 32 (length l) then checked.Refused 11
        else after q (each_accepted (check_stated es) l and answer n)) (sym (empty_is l))
        ∙ tested 11 (is_empty l || ltb 32 (length l)) (each_accepted (check_stated es) l) q n)

    invariant_kinds : List (Reader Invariant)
    invariant_kinds =
        (place ts >>=ᵣ λ i. counted (predicate ts) >>=ᵣ λ ps. give (never i ps))
        ∷ (place ts >>=ᵣ λ i. place ts >>=ᵣ λ x. place ts >>=ᵣ λ v. counted (predicate ts) >>=ᵣ λ ps. give (guard i x v ps))
        ∷ (place ts >>=ᵣ λ i. place ts >>=ᵣ λ x. place ts >>=ᵣ λ f. place ts >>=ᵣ λ t. give (transition i x f t))
        ∷ (place ts >>=ᵣ λ i. predicate ts >>=ᵣ λ p. predicate ts >>=ᵣ λ q. u32 >>=ᵣ λ n. give (response i p q n))
        ∷ []

    -- an invariant: its kind, its identifier, and what its check says of the rest
    record InvariantParts (p : ℕ) (a : Invariant) (q : ℕ) : Type 0 where
      pub kind : ℕ
      pub at_id : ℕ
      pub at_rest : ℕ
      pub is_kind : u8 s p ≡ got kind at_id
      pub id : found.Place ts s at_id (id_of a) at_rest
      pub rest : (n : ℕ) → invariant_of_m d kind s at_rest n ≡ after q (check_invariant es a and answer n)

    guard_agrees : (p n : ℕ) {x v : Text} {l : List Predicate} {o t q : ℕ} → place ts s p ≡ got x o →
        place ts s o ≡ got v t → counted (predicate ts) s t ≡ got l q →
        guard_m d s p n ≡ after q ((check_conditions es l and check_value es x v) and answer n)
    guard_agrees p n {x} {v} {l} {o} {t} {q} a b c =
        let y = place_found ts a in
        let z = place_found ts b in
        laws.guard_is d s p n
        ∙ by_got s u16 _ p n y.is_place
        ∙ by_got s u16 _ o n z.is_place
        ∙ next_and s (conditions_m d) (value_m d y.at z.at) t n q q (check_conditions es l)
        (λ m. check_value es (T y.at) (T z.at) and answer m)
        (conditions_agree t n l q c) (λ m. value_agrees s d ts es g y.at z.at y.is_in z.is_in q m)
        ∙ ap (λ (w : Text). after q (check_conditions es l and (check_value es w (T z.at) and answer n)))
        (sym y.is_text)
        ∙ ap (λ (w : Text). after q (check_conditions es l and (check_value es x w and answer n))) (sym z.is_text)
        ∙ after_same q (sym (and_assoc (check_conditions es l) (check_value es x v) (answer n)))

    transition_agrees : (p n : ℕ) {x f t : Text} {o r q : ℕ} → place ts s p ≡ got x o → place ts s o ≡ got f r →
        place ts s r ≡ got t q → transition_m d s p n ≡ after q ((check_value es x f and check_value es x t) and answer n)
    transition_agrees p n {x} {f} {t} {o} {r} {q} a b c =
        let y = place_found ts a in
        let z = place_found ts b in
        let u = place_found ts c in
        laws.transition_is d s p n
        ∙ by_got s u16 _ p n y.is_place
        ∙ by_got s u16 _ o n z.is_place
        ∙ by_got s u16 _ r n u.is_place
        ∙ next_and s (value_m d y.at z.at) (value_m d y.at u.at) q n q q (check_value es (T y.at) (T z.at))
        (λ m. check_value es (T y.at) (T u.at) and answer m)
        (value_agrees s d ts es g y.at z.at y.is_in z.is_in q n)
        (λ m. value_agrees s d ts es g y.at u.at y.is_in u.is_in q m)
        ∙ ap (λ (w : Text). after q (check_value es w (T z.at) and (check_value es w (T u.at) and answer n)))
        (sym y.is_text)
        ∙ ap (λ (w : Text). after q (check_value es x w and (check_value es x (T u.at) and answer n))) (sym z.is_text)
        ∙ ap (λ (w : Text). after q (check_value es x f and (check_value es x w and answer n))) (sym u.is_text)
        ∙ after_same q (sym (and_assoc (check_value es x f) (check_value es x t) (answer n)))

    response_agrees : (p n : ℕ) {a b : Predicate} {k o r q : ℕ} → predicate ts s p ≡ got a o → predicate ts s o ≡ got b r →
        u32 s r ≡ got k q → response_m d s p n ≡ after q
        ((check_stated es a and check_stated es b and 12 when ltb day k) and answer n)
    response_agrees p n {a} {b} {k} {o} {r} {q} e f h =
        laws.response_is d s p n
        ∙ next_and s (predicate_m d 51) (predicate_m d 51 ⨾ day_m 12) p n o q (check_stated es a)
        (λ m. check_stated es b and (12 when ltb day k and answer m))
        (stated_agrees s d ts es g p n a o e)
        (λ m. next_and s (predicate_m d 51) (day_m 12) o m r q (check_stated es b) (λ i. 12 when ltb day k and answer i)
        (stated_agrees s d ts es g o m b r f) (λ i. day_agrees s d ts es g 12 r i k q h))
        ∙ after_same q
        (sym (and_assoc (check_stated es a) (check_stated es b and 12 when ltb day k) (answer n)
        ∙ ap (λ (w : Answer ℕ). check_stated es a and w) (and_assoc (check_stated es b) (12 when ltb day k) (answer n))))

    invariant_found : (p : ℕ) (a : Invariant) (q : ℕ) → invariant ts s p ≡ got a q → InvariantParts p a q
    unfolding invariant invariant_kinds id_of check_invariant
    invariant_found p a q e = cases k.kind k.is_kind k.holds
      where
        k : Kind invariant_kinds s p a q
        k = kind_found invariant_kinds e

        o : ℕ
        o = k.next

        cases : (i : ℕ) → u8 s p ≡ got i o → get_or invariant_kinds i refuse s o ≡ got a q → InvariantParts p a q
        cases zero b h =
            let i = bound (place ts) _ h in
            let l = bound (counted (predicate ts)) _ i.rest in
            let z = given _ _ _ l.rest in
            subst (λ (y : Invariant). InvariantParts p y q) z.0 (record {
              kind = 0;
              at_id = o;
              at_rest = i.next;
              is_kind = b;
              id = place_found ts i.first;
              rest = λ n. laws.invariant_0 d s i.next n refl
                  ∙ conditions_agree i.next n l.value q (l.first ∙ ap (got l.value) z.1);
            })
        cases (suc zero) b h =
            let i = bound (place ts) _ h in
            let x = bound (place ts) _ i.rest in
            let v = bound (place ts) _ x.rest in
            let l = bound (counted (predicate ts)) _ v.rest in
            let z = given _ _ _ l.rest in
            subst (λ (y : Invariant). InvariantParts p y q) z.0 (record {
              kind = 1;
              at_id = o;
              at_rest = i.next;
              is_kind = b;
              id = place_found ts i.first;
              rest = λ n. laws.invariant_1 d s i.next n refl
                  ∙ guard_agrees i.next n x.first v.first (l.first ∙ ap (got l.value) z.1);
            })
        cases (suc (suc zero)) b h =
            let i = bound (place ts) _ h in
            let x = bound (place ts) _ i.rest in
            let f = bound (place ts) _ x.rest in
            let t = bound (place ts) _ f.rest in
            let z = given _ _ _ t.rest in
            subst (λ (y : Invariant). InvariantParts p y q) z.0 (record {
              kind = 2;
              at_id = o;
              at_rest = i.next;
              is_kind = b;
              id = place_found ts i.first;
              rest = λ n. laws.invariant_2 d s i.next n refl
                  ∙ transition_agrees i.next n x.first f.first (t.first ∙ ap (got t.value) z.1);
            })
        cases (suc (suc (suc zero))) b h =
            let i = bound (place ts) _ h in
            let x = bound (predicate ts) _ i.rest in
            let y = bound (predicate ts) _ x.rest in
            let w = bound u32 _ y.rest in
            let z = given _ _ _ w.rest in
            subst (λ (y : Invariant). InvariantParts p y q) z.0 (record {
              kind = 3;
              at_id = o;
              at_rest = i.next;
              is_kind = b;
              id = place_found ts i.first;
              rest = λ n. laws.invariant_else d s i.next n (λ c. absurd (omega arith)) (λ c. absurd (omega arith))
                  (λ c. absurd (omega arith)) ∙ response_agrees i.next n x.first y.first
                  (w.first ∙ ap (got w.value) z.1);
            })
        cases (suc (suc (suc (suc i)))) b h = absurd (found.refused s o h)

    invariant_reads : (starts : List ℕ) (j p n : ℕ) {k o x q : ℕ} → u8 s p ≡ got k o → u16 s o ≡ got x q →
        invariant_m d starts j s p n ≡ (if bad_id part.Invariant starts j s x then checked.Refused 10
        else invariant_of_m d k s q n)
    unfolding invariant_m
    invariant_reads starts j p n e f = rw (e, invariant_m) (rw (f, invariant_m))

    invariant_id : (p x : ℕ) {k o y q : ℕ} → u8 s p ≡ got k o → u16 s o ≡ got y q → id_is part.Invariant s p x ≡ eqb y x
    unfolding id_is place_is
    invariant_id p x e f = rw (e, id_is) (rw (f, place_is))

    invariant_agrees : (starts : List ℕ) (j p n : ℕ) (a : Invariant) (q : ℕ) (ids : List Text) →
        Ids part.Invariant starts j ids → InvariantParts p a q →
        invariant_m d starts j s p n
        ≡ after q ((10 when (bad_length (id_of a) || mem_t (id_of a) ids) and check_invariant es a) and answer n)
    invariant_agrees starts j p n a q ids f x =
        invariant_reads starts j p n x.is_kind x.id.is_place
        ∙ ap (λ (y : Checked). if bad_id part.Invariant starts j s x.id.at then checked.Refused 10 else y) (x.rest n)
        ∙ ap (λ (b : Bool). if b then checked.Refused 10 else after q (check_invariant es a and answer n))
        (bad_id_agrees part.Invariant starts j x.id.at ids x.id.is_in f
        ∙ ap (λ (t : Text). bad_length t || mem_t t ids) (sym x.id.is_text))
        ∙ tested 10 (bad_length (id_of a) || mem_t (id_of a) ids) (check_invariant es a) q n

    part_invariant : (starts : List ℕ) (j p n : ℕ) → part_m d part.Invariant starts j s p n ≡ invariant_m d starts j s p n
    part_invariant starts j p n = laws.part_invariant d s p n starts j refl

    pub invariants_agree : (starts : List ℕ) (l : List Invariant) (j n : ℕ) (ids : List Text) →
        Ids part.Invariant starts j ids → ((a₀ : Invariant) (i : ℕ) → i < length l →
        Reads (invariant ts) s (get_or starts (j + i) 0) (get_or l i a₀)) →
        parts_m d part.Invariant starts (length l) j s n ≡ after 0 (check_invariants es ids l and answer n)
    unfolding check_invariants after ◌and◌
    invariants_agree starts [] j n ids f r = parts_none part.Invariant starts j n
    invariants_agree starts (a ∷ l) j n ids f r =
        let u = first_of (invariant ts) starts a l j r in
        let x = invariant_found (get_or starts j 0) a u.0 u.1 in
        let v : Verdict = 10 when (bad_length (id_of a) || mem_t (id_of a) ids) and check_invariant es a in
        parts_step part.Invariant starts (length l) j n u.0 (v and answer n)
        (λ m. check_invariants es (id_of a ∷ ids) l and answer m)
        (part_invariant starts j (get_or starts j 0) n ∙ invariant_agrees starts j (get_or starts j 0) n a u.0 ids f x)
        (λ m. invariants_agree starts l (j + 1) m (id_of a ∷ ids)
        (subst (λ (t : Text). Ids part.Invariant starts (j + 1) (t ∷ ids)) (sym x.id.is_text)
        (more_ids part.Invariant starts j x.id.at ids x.id.is_in
        (λ y. invariant_id (get_or starts j 0) y x.is_kind x.id.is_place) f))
        (others_of (invariant ts) starts a l j r))
        ∙ after_same 0 (and_bind v n (λ m. check_invariants es (id_of a ∷ ids) l and answer m)
        ∙ sym (and_assoc v (check_invariants es (id_of a ∷ ids) l) (answer n))
        ∙ ap (λ (w : Verdict). w and answer n) (and_assoc (10 when (bad_length (id_of a) || mem_t (id_of a) ids))
        (check_invariant es a) (check_invariants es (id_of a ∷ ids) l)))

    -- ---- automations

    -- a trigger has 16 bytes
    trigger_wide : (p : ℕ) (a : Trigger) (q : ℕ) → trigger ts s p ≡ got a q → Wide 16 s p q
    trigger_wide p a q e =
        let f = found.trigger_found ts e in
        let a = u16_wide s p f.entity_at.is_place in
        let b = u16_wide s f.at_from f.from_at.is_place in
        let c = u16_wide s f.at_to f.to_at.is_place in
        let h = found.source_wide s f.at_source f.source_at in
        let k = u16_wide s f.at_note f.note_at.is_place in
        record {
          ends = omega (arith, a.ends, b.ends, c.ends, h.ends, k.ends);
          inside =
              omega (arith, a.ends, b.ends, c.ends, h.ends, k.inside);
        }

    triggers_wide : (i p : ℕ) (l : List Trigger) (q : ℕ) → p ≤ length s → times i (trigger ts) s p ≡ got l q →
        Wide (16 * i) s p q
    triggers_wide zero p l q h e = let z = (none_read (trigger ts) s p e).1 in
        record { ends = omega arith; inside = omega arith }
    triggers_wide (suc i) p l q h e =
        let m = more (trigger ts) s i p e in
        let w = trigger_wide p m.first m.after m.is_first in
        let v = triggers_wide i m.after m.others q (omega (arith, w.ends, w.inside)) m.are_others in
        record { ends = omega (arith, w.ends, v.ends); inside = omega (arith, w.ends, v.inside) }

    -- an automation's parts, up to its actions
    record RuleParts (p : ℕ) (a : Automation) : Type 0 where
      pub at_mode : ℕ
      pub at_max : ℕ
      pub at_triggers : ℕ
      pub at_conditions : ℕ
      pub at_actions : ℕ
      pub end : ℕ
      pub id : found.Place ts s p a.id at_mode
      pub mode_wide : Wide 1 s at_mode at_max
      pub max_at : u32 s at_max ≡ got a.max at_triggers
      pub triggers : Counted (trigger ts) s at_triggers a.triggers at_conditions
      pub conditions_at : counted (predicate ts) s at_conditions ≡ got a.conditions at_actions
      pub actions_at : actions ts 18 s at_actions ≡ got a.actions end

    rule_found : (p : ℕ) (a : Automation) (q : ℕ) → automation ts s p ≡ got a q → RuleParts p a
    unfolding automation
    rule_found p a q e =
        let i = bound (place ts) _ e in
        let m = bound mode _ i.rest in
        let x = bound u32 _ m.rest in
        let t = bound (counted (trigger ts)) _ x.rest in
        let c = bound (counted (predicate ts)) _ t.rest in
        let b = bound (actions ts 18) _ c.rest in
        let o = bound source _ b.rest in
        let n = bound (counted (place ts)) _ o.rest in
        let z = given _ _ _ n.rest in
        subst (λ (y : Automation). RuleParts p y) z.0 (record {
          at_mode = i.next;
          at_max = m.next;
          at_triggers = x.next;
          at_conditions = t.next;
          at_actions = c.next;
          end = b.next;
          id = place_found ts i.first;
          mode_wide = kind_wide 4 mode sees_mode m.first;
          max_at = x.first;
          triggers = counted_found (trigger ts) t.first;
          conditions_at = c.first;
          actions_at = b.first;
        })

    -- triggers, conditions and actions
    lists_agree : (n : ℕ) (p : ℕ) (a : Automation) (x : RuleParts p a) →
        lists_m d x.triggers.count s x.triggers.start n ≡
        after x.end (each_accepted (check_trigger es) a.triggers and
        (each_accepted (check_predicate es) a.conditions and check_actions es a.actions 0 n))
    lists_agree n p a x =
        laws.lists_are d s x.triggers.start n x.triggers.count
        ∙ next_and s (triggers_m d x.triggers.count) (predicates_m d 0 ⨾ actions_m d 17) x.triggers.start n
        x.at_conditions x.end (each_accepted (check_trigger es) a.triggers)
        (λ m. each_accepted (check_predicate es) a.conditions and check_actions es a.actions 0 m)
        (triggers_agree s d ts es g x.triggers.count x.triggers.start n a.triggers x.at_conditions
        x.triggers.are_values)
        (λ m. next_and s (predicates_m d 0) (actions_m d 17) x.at_conditions m x.at_actions x.end
        (each_accepted (check_predicate es) a.conditions) (λ i. check_actions es a.actions 0 i)
        (predicates_agree s d ts es g x.at_conditions m a.conditions x.at_actions x.conditions_at)
        (λ i. actions_agree s d ts es g 17 0 refl x.at_actions i a.actions x.end x.actions_at))

    counts_agree : (p : ℕ) (a : Automation) (x : RuleParts p a)
        (c : Counted (predicate ts) s x.at_conditions a.conditions x.at_actions) →
        bad_counts a.max x.triggers.count c.count ≡ bad_bounds a
    unfolding bad_counts bad_bounds
    counts_agree p a x c =
        let t : x.triggers.count ≡ length a.triggers =
        sym (times_length (trigger ts) s x.triggers.count x.triggers.start x.triggers.are_values) in
        let o : c.count ≡ length a.conditions = sym
        (times_length (predicate ts) s c.count c.start c.are_values) in
        ap (λ (i : ℕ). eqb a.max 0 || ltb 16 a.max || eqb i 0 || ltb 16 i || ltb 32 c.count) t
        ∙ ap (λ (i : ℕ). eqb a.max 0 || ltb 16 a.max || eqb (length a.triggers) 0 || ltb 16 (length a.triggers)
        || ltb 32 i) o
        ∙ ap (λ (b : Bool). eqb a.max 0 || ltb 16 a.max || b || ltb 16 (length a.triggers)
        || ltb 32 (length a.conditions)) (sym (empty_is a.triggers))

    rule_lists_read : (m p n : ℕ) {t q r c e : ℕ} → u16 s p ≡ got t q → Wide (16 * t) s q r → u16 s r ≡ got c e →
        rule_lists_m d m s p n ≡ (if bad_counts m t c then checked.Refused 14 else lists_m d t s q n)
    unfolding rule_lists_m and_then
    rule_lists_read m p n {t} {q} {r} a w b = rw (a, rule_lists_m)
        (rw (skip_wide s (16 * t) q n w, and_then) (rw (b, rule_lists_m)))

    rule_lists_agree : (n : ℕ) (p : ℕ) (a : Automation) (x : RuleParts p a) → rule_lists_m d a.max s x.at_triggers n ≡
        after x.end
        (14 when bad_bounds a and (each_accepted (check_trigger es) a.triggers and
        (each_accepted (check_predicate es) a.conditions and check_actions es a.actions 0 n)))
    rule_lists_agree n p a x =
        let c = counted_found (predicate ts) x.conditions_at in
        let w = u16_wide s x.at_triggers x.triggers.is_count in
        rule_lists_read a.max x.at_triggers n x.triggers.is_count
        (triggers_wide x.triggers.count x.triggers.start a.triggers x.at_conditions
        (omega (arith, w.ends, w.inside)) x.triggers.are_values) c.is_count
        ∙ ap (λ (b : Bool). if b then checked.Refused 14 else lists_m d x.triggers.count s x.triggers.start n)
        (counts_agree p a x c)
        ∙ ap (λ (y : Checked). if bad_bounds a then checked.Refused 14 else y) (lists_agree n p a x)
        ∙ tested_answer 14 (bad_bounds a) _ x.end

    rule_reads : (starts : List ℕ) (j p n : ℕ) {x q : ℕ} → u16 s p ≡ got x q →
        rule_m d starts j s p n ≡ (if bad_id part.Rule starts j s x then checked.Refused 13 else rule_of_m d s q n)
    unfolding rule_m
    rule_reads starts j p n e = rw (e, rule_m)

    rule_agrees : (starts : List ℕ) (j p n : ℕ) (a : Automation) (ids : List Text) → Ids part.Rule starts j ids →
        (x : RuleParts p a) → rule_m d starts j s p n ≡ after x.end (check_rule es ids a n)
    unfolding check_rule
    rule_agrees starts j p n a ids f x =
        let rest : Answer ℕ = 14 when bad_bounds a and
        (each_accepted (check_trigger es) a.triggers and
        (each_accepted (check_predicate es) a.conditions and check_actions es a.actions 0 n)) in
        rule_reads starts j p n x.id.is_place
        ∙ ap (λ (y : Checked). if bad_id part.Rule starts j s x.id.at then checked.Refused 13 else y) (
        laws.rule_of_is d s x.at_mode n
        ∙ skip_then s 1 _ x.at_mode n x.mode_wide
        ∙ by_got s u32 _ x.at_max n x.max_at
        ∙ rule_lists_agree n p a x)
        ∙ ap (λ (b : Bool). if b then checked.Refused 13 else after x.end rest)
        (bad_id_agrees part.Rule starts j x.id.at ids x.id.is_in f
        ∙ ap (λ (t : Text). bad_length t || mem_t t ids) (sym x.id.is_text))
        ∙ tested_answer 13 (bad_length a.id || mem_t a.id ids) rest x.end

    rule_id : (p x : ℕ) {y q : ℕ} → u16 s p ≡ got y q → id_is part.Rule s p x ≡ eqb y x
    unfolding id_is place_is
    rule_id p x e = rw (e, place_is)

    pub rules_agree : (starts : List ℕ) (l : List Automation) (j n : ℕ) (ids : List Text) → Ids part.Rule starts j ids →
        ((a₀ : Automation) (i : ℕ) → i < length l → Reads (automation ts) s (get_or starts (j + i) 0) (get_or l i a₀)) →
        parts_m d part.Rule starts (length l) j s n ≡ after 0 (check_rules es ids l n)
    unfolding check_rules after
    rules_agree starts [] j n ids f r = parts_none part.Rule starts j n
    rules_agree starts (a ∷ l) j n ids f r =
        let u = first_of (automation ts) starts a l j r in
        let x = rule_found (get_or starts j 0) a u.0 u.1 in
        parts_step part.Rule starts (length l) j n x.end (check_rule es ids a n) (λ m. check_rules es (a.id ∷ ids) l m)
        (laws.part_rule d s (get_or starts j 0) n starts j refl ∙ rule_agrees starts j (get_or starts j 0) n a ids f x)
        (λ m. rules_agree starts l (j + 1) m (a.id ∷ ids)
        (subst (λ (t : Text). Ids part.Rule starts (j + 1) (t ∷ ids)) (sym x.id.is_text)
        (more_ids part.Rule starts j x.id.at ids x.id.is_in (λ y. rule_id (get_or starts j 0) y x.id.is_place)
        f))
        (others_of (automation ts) starts a l j r))

-- ---- the seconds of the events

-- no second is below the one before it
unfoldable pub ordered_from : ℕ → List Event → Bool
ordered_from last [] = true
ordered_from last (e ∷ l) = leb last e.at && ordered_from e.at l

ordered_is : (a : Event) (l : List Event) → ordered (a ∷ l) ≡ ordered_from a.at l
unfolding ordered ordered_from
ordered_is a [] = refl
ordered_is a (b ∷ l) = ap (λ (x : Bool). leb a.at b.at && x) (ordered_is b l)

pub ordered_all : (l : List Event) → ordered_from 0 l ≡ ordered l
unfolding ordered_from ordered
ordered_all [] = refl
ordered_all (a ∷ l) = rw (le-leb 0 a.at (omega arith)) (sym (ordered_is a l))

less_is : (a b : ℕ) → ltb a b ≡ not (leb b a)
less_is a b = cases (case (leb b a))
  where
    cases : Case (leb b a) → ltb a b ≡ not (leb b a)
    cases (is_true h) = le-ltb a b (leb-true b a h) ∙ ap not (sym h)
    cases (is_false h) = lt-ltb a b (leb-false b a h) ∙ ap not (sym h)

gather : (x y a c : Bool) → (elim (x || not y) [ true ↦ true | false ↦ a || not c ]) ≡ ((x || a) || not (y && c))
gather true y a c = refl
gather false true a c = refl
gather false false true c = refl
gather false false false c = refl

module _ (s : List ℕ) (ts : List Text) (starts : List ℕ) where
  event_second : (p : ℕ) (e : Event) (q : ℕ) → event ts s p ≡ got e q → (o : ℕ) × (u32 s p ≡ got e.at o)
  unfolding event
  event_second p e q h =
      let t = bound u32 _ h in
      let i = bound (input ts) _ t.rest in
      let z = given _ _ _ i.rest in
      (t.next, t.first ∙ ap (λ (y : Event). got y.at t.next) z.0)

  pub seconds_agree : (h : ℕ) (l : List Event) (j last : ℕ) →
      ((a₀ : Event) (i : ℕ) → i < length l → Reads (event ts) s (get_or starts (j + i) 0) (get_or l i a₀)) →
      seconds_bad h starts s (length l) j last ≡ (any (λ e. ltb h e.at) l || not (ordered_from last l))
  unfolding seconds_bad any ordered_from
  seconds_agree h [] j last f = refl
  seconds_agree h (e ∷ l) j last f =
      let z : j + 0 ≡ j = omega arith in
      let r = subst (λ (i : ℕ). Reads (event ts) s (get_or starts i 0) e) z (f e 0 (omega arith)) in
      let t = event_second (get_or starts j 0) e r.0 r.1 in
      let ih = seconds_agree h l (j + 1) e.at (λ a₀ i g. let y : j + suc i ≡ j + 1 + i = omega arith in
      subst (λ (k : ℕ). Reads (event ts) s (get_or starts k 0) (get_or l i a₀)) y (f a₀ (suc i) (omega arith))) in
      rw (t.1, seconds_bad) (
      ap (λ (b : Bool). elim (ltb h e.at || b) [
        | true ↦ true
        | false ↦
            seconds_bad h starts s (length l) (j + 1) e.at
      ]) (less_is e.at last)
      ∙ ap (λ (b : Bool). elim (ltb h e.at || not (leb last e.at)) [ true ↦ true | false ↦ b ]) ih
      ∙ gather (ltb h e.at) (leb last e.at) (any (λ e. ltb h e.at) l) (ordered_from e.at l))

  pub gaps_agree : (l : List ℕ) (j : ℕ) → ((a₀ i : ℕ) → i < length l → Reads u32 s (get_or starts (j + i) 0) (get_or l i a₀)) →
      gaps_bad starts s (length l) j ≡ any (ltb day) l
  unfolding gaps_bad any
  gaps_agree [] j f = refl
  gaps_agree (x ∷ l) j f =
      let z : j + 0 ≡ j = omega arith in
      let r = subst (λ (i : ℕ). Reads u32 s (get_or starts i 0) x) z (f x 0 (omega arith)) in
      rw (r.1, gaps_bad) (
      or_is (ltb day x) (gaps_bad starts s (length l) (j + 1))
      ∙ ap (λ (b : Bool). ltb day x || b) (gaps_agree l (j + 1)
      (λ a₀ i g. let y : j + suc i ≡ j + 1 + i = omega arith in
      subst (λ (k : ℕ). Reads u32 s (get_or starts k 0) (get_or l i a₀)) y (f a₀ (suc i) (omega arith)))))
