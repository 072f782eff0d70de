-- A table whose words are those of an accepted file's model is `Tabled`.
-- `Words` says only what stands where; the bounds and differences come from the file's acceptance.
use mathlib.Core.Path.{◌≡◌, refl, sym, ap, ◌∙◌, subst}
use mathlib.Core.List.{List, [], ◌∷◌}
use mathlib.Core.Bool.{Bool, true, false, ◌||◌}
use mathlib.Core.Option.{none, some}
use Prim.Native.Nat.{ℕ, zero, suc, ◌≤◌, ◌<◌}
use native.Mathlib.Omega.{arith}
use native.Mathlib.Decide.{dec_lt}
use lib.ListN.{length, get_or}
use lib.Dec.{ltb}
use borrow.Author.Tests.{ltb-false, ne_eqb}
use Rattle.layout.specs.Sizes.{simulation_reasons}
use Rattle.texts.specs.Lists.{each, present_and, any}
use Rattle.texts.specs.Texts.{Text, text, eq_t, mem_t}
use Rattle.texts.proofs.Ordering.{eq_no}
use Rattle.model_spec.specs.Answer.{answer, accept}
use Rattle.model_spec.specs.Model.{observational, Entity, Automation, Model, midnight}
use Rattle.model_spec.specs.Notes.{notes_of}
use Rattle.model_spec.specs.File.{
  Head,
  invariant,
  input,
  automation,
  limits,
  or_zeros,
  start,
  Got,
  got,
  broken,
  Reader,
  give,
  u32,
  times,
  counted,
  one_text,
  ascending,
  texts,
  source,
  place,
  predicate,
  trigger,
  entity,
  entities,
  actions,
  head,
  events,
  model,
  decoded,
  decode,
}
use Rattle.model_spec.specs.Validate.{day, check_entity, accepted}
use Rattle.model_walk.proofs.Found.{bound, given, required, counted_found}
use Rattle.model_parts.specs.Stand.{Reads}
use Rattle.model_parts.proofs.Stands.{more}
use Rattle.model_order.specs.Order.{Fixed}
use Rattle.model_order.proofs.Places.{in_order, same_place, texts_ascend, placed_text}
use Rattle.engine_spec.proofs.Lists.{Case, is_true, is_false, case, eq_t_same}
use Rattle.engine_spec.proofs.Distinct.{answer_eq, refused_answer, when_inv, Fresh, accepted_fresh}
use Rattle.reasons.specs.Readable.{text_count}
use Rattle.engine_fields.specs.Fields.{two, name, stale, word}
use Rattle.engine_window.specs.Window.{start_m}
use Rattle.engine_refinement.specs.Meaning.{stale_of, mode_number, pool_of, Row, Column, Tabled}
use Rattle.engine_refinement.proofs.Numbers.{two_is}
use Rattle.engine_spec.proofs.Validated.{accepted_decoded}
use Rattle.engine_spec.proofs.Stated.{accepted_stated}
use Rattle.engine_refinement.proofs.Accepted.{CheckedAt, Lawful, accepted_lawful, accepted_small}
use Rattle.engine_refinement.proofs.Relation.{no_rule}
use Rattle.engine_refinement.proofs.Lists as lists

-- ---- the words

pub record NameWord (x : List ℕ) (ts : List Text) (e : ℕ) (d : Entity) : Type 0 where
  pub name_in : name x e < length ts
  pub name_is : d.name ≡ get_or ts (name x e) []
  pub stale_is : d.stale_after ≡ stale_of (stale x e)

pub record RuleWords (f x : List ℕ) (ts : List Text) (i : ℕ) (r : Automation) : Type 0 where
  pub id_in : word x i 0 < length ts
  pub id : r.id ≡ get_or ts (word x i 0) []
  pub mode : word x i 1 ≡ mode_number r.mode
  pub max : word x i 2 ≡ r.max
  pub triggers : Reads (counted (trigger ts)) f (word x i 3) r.triggers
  pub conditions : Reads (counted (predicate ts)) f (word x i 4) r.conditions
  pub actions : Reads (actions ts 18) f (word x i 5) r.actions
  pub source : Reads source f (word x i 6) r.source
  pub notes : Reads (counted (place ts)) f (word x i 7) r.notes

pub record Words (f x : List ℕ) (ts : List Text) (m : Model) : Type 0 where
  pub bytes : (i : ℕ) → get_or f i 0 < 256
  pub all_texts : Reads texts f 4 ts
  pub texts : get_or x 9 0 ≡ length ts
  pub on : Fixed ts (get_or x 4 0) (text "on")
  pub off : Fixed ts (get_or x 5 0) (text "off")
  pub unknown : Fixed ts (get_or x 6 0) (text "unknown")
  pub unavailable : Fixed ts (get_or x 7 0) (text "unavailable")
  pub entities : get_or x 0 0 ≡ length m.scenario.entities
  pub automations : get_or x 1 0 ≡ length m.rules
  pub horizon : get_or x 2 0 ≡ m.scenario.limits.horizon
  pub steps : get_or x 3 0 ≡ m.scenario.limits.max_steps
  pub start : start_m x ≡ m.start
  pub names : (d : Entity) (e : ℕ) → e < length m.scenario.entities → NameWord x ts e (get_or m.scenario.entities e d)
  pub rules : (d : Automation) (i : ℕ) → i < length m.rules → RuleWords f x ts i (get_or m.rules i d)

-- ---- the texts are at most 65,535

times_long : {A : Type 0} (r : Reader A) (s : List ℕ) (n p : ℕ) (l : List A) (q : ℕ) → times n r s p ≡ got l q → length l ≡ n
unfolding times give
times_long {A} r s zero p l q e = let z : l ≡ [] = cc in ap length z
times_long r s (suc n) p l q e = let m = more r s n p e in
    ap length m.both ∙ ap suc (times_long r s n m.after m.others q m.are_others)

counted_as : (f : List ℕ) (ts : List Text) → Reads texts f 4 ts → text_count f ≡ length ts
unfolding texts text_count two
counted_as f ts r =
    let c = bound (counted one_text) _ r.1 in
    let q = required _ _ _ _ c.rest in
    let k = counted_found one_text c.first in
    omega (
      arith,
      ap length q.1.0,
      times_long one_text f k.count k.start c.value c.next k.are_values,
      two_is f 4 k.is_count,
    )

few_texts : (f : List ℕ) → ((i : ℕ) → get_or f i 0 < 256) → (ts : List Text) → Reads texts f 4 ts → length ts ≤ 65535
unfolding text_count
few_texts f b ts r = omega (arith, counted_as f ts r, b 4, b 5)

in_tail : (t u : Text) (l : List Text) → mem_t t l ≡ true → mem_t t (u ∷ l) ≡ true
unfolding mem_t any
in_tail t u l h = by (eq_t t u)
  where
    by : (b : Bool) → (b || any (eq_t t) l) ≡ true
    by true = refl
    by false = h

in_head : (t : Text) (l : List Text) → mem_t t (t ∷ l) ≡ true
unfolding mem_t any
in_head t l = rw (eq_t_same t)

-- ---- entities that differ

each_in : {A : Type 0} (g : A → Text) (l : List A) (i : ℕ) (d : A) → i < length l → get_or (each g l) i [] ≡ g (get_or l i d)
unfolding each
each_in g [] i d h = absurd (omega arith)
each_in g (y ∷ l) zero d h = refl
each_in g (y ∷ l) (suc i) d h = each_in g l i d (omega arith)

abbrev names_of : List Entity → List Text
names_of l = each (λ (e : Entity). e.name) l

entities_ascend : (ts : List Text) (s : List ℕ) (p : ℕ) (es : List Entity) (q : ℕ) → entities ts s p ≡ got es q →
    ascending (names_of es) ≡ true
unfolding entities
entities_ascend ts s p es q e =
    let c = bound (counted (entity ts)) _ e in
    let r = required _ _ _ _ c.rest in
    subst (λ (l : List Entity). ascending (names_of l) ≡ true) r.1.0 r.0

head_ascend : (s : List ℕ) (p : ℕ) (h : Head) (q : ℕ) → head s p ≡ got h q → ascending (names_of h.entities) ≡ true
unfolding head
head_ascend s p h q e =
    let v = bound u32 _ e in
    let t = bound texts _ v.rest in
    let n = bound (place t.value) _ t.rest in
    let es = bound (entities t.value) _ n.rest in
    let g = given _ _ _ es.rest in
    subst (λ (y : Head). ascending (names_of y.entities) ≡ true) g.0
    (entities_ascend t.value s n.next es.value es.next es.first)

-- the names of a model that was read ascend
names_ascend : (s : List ℕ) (m : Model) (q : ℕ) → model s 0 ≡ got m q → ascending (names_of m.scenario.entities) ≡ true
unfolding model
names_ascend s m q e =
    let h = bound head _ e in
    let a = bound (events h.value) _ h.rest in
    let b = bound (counted (invariant h.value.texts)) _ a.rest in
    let c = bound (counted (input h.value.texts)) _ b.rest in
    let d = bound (counted u32) _ c.rest in
    let l = bound limits _ d.rest in
    let r = bound (counted (automation h.value.texts)) _ l.rest in
    let o = bound (or_zeros midnight start) _ r.rest in
    let g = given _ _ _ o.rest in
    subst (λ (y : Model). ascending (names_of y.scenario.entities) ≡ true) g.0
    (head_ascend s 0 h.value h.next h.first)

decoded_model : (s : List ℕ) (m : Model) → decode s ≡ answer m → (q : ℕ) × (model s 0 ≡ got m q)
unfolding decode decoded
decoded_model s m e = by (case (ltb 32768 (length s)))
  where
    found : (g : Got Model) → model s 0 ≡ g → decoded g (length s) ≡ answer m → (q : ℕ) × (model s 0 ≡ got m q)
    found (got n next) p e = notes (case (ltb 64 (length (notes_of n)))) (case (ltb next (length s)))
      where
        notes : Case (ltb 64 (length (notes_of n))) → Case (ltb next (length s)) → (q : ℕ) × (model s 0 ≡ got m q)
        notes (is_true b) c = absurd (refused_answer (rw b at e))
        notes (is_false b) (is_true c) = absurd (refused_answer (rw (b, c) at e))
        notes (is_false b) (is_false c) = let z : answer n ≡ answer m = rw (b, c) at e in
            (next, p ∙ ap (λ (y : Model). got y next) (answer_eq z))
    found broken p e = absurd (refused_answer e)

    by : Case (ltb 32768 (length s)) → (q : ℕ) × (model s 0 ≡ got m q)
    by (is_true b) = absurd (refused_answer (rw b at e))
    by (is_false b) = found (model s 0) refl (rw b at e)

-- entities with the same name are the same
same_entity : (es : List Entity) → ascending (names_of es) ≡ true → (d : Entity) (i j : ℕ) → i < length es →
    j < length es → (get_or es i d).name ≡ (get_or es j d).name → i ≡ j
same_entity es h d i j a b e = elim (dec_lt i j) [
  | yes k ↦ absurd
      (apart i j k b (each_in (λ (y : Entity). y.name) es i d a ∙ e ∙ sym (each_in (λ (y : Entity). y.name) es j d b)))
  | no k ↦ elim (dec_lt j i) [
    | yes o ↦ absurd
        (apart j i o a (each_in (λ (y : Entity). y.name) es j d b ∙ sym e
        ∙ sym (each_in (λ (y : Entity). y.name) es i d a)))
    | no o ↦ omega arith
  ]
]
  where
    apart : (i j : ℕ) → i < j → j < length es → get_or (names_of es) i [] ≡ get_or (names_of es) j [] → ⊥
    apart i j k b e =
        let p = in_order (names_of es) h i j k (omega (arith, lists.each_length (λ (y : Entity). y.name) es)) in
        let q : eq_t (get_or (names_of es) i []) (get_or (names_of es) i []) ≡ false =
        ap (eq_t (get_or (names_of es) i [])) e ∙ eq_no p in
        let z : true ≡ false = sym (eq_t_same (get_or (names_of es) i [])) ∙ q in
        let y : ◌≡◌ {A = ℕ} 0 1 = cc in
        omega arith

-- ---- automations that differ

not_in : (ids : List Text) (l : List Automation) (d : Automation) (j : ℕ) → Fresh ids l → j < length l → (t : Text) →
    mem_t t ids ≡ true → (get_or l j d).id ≡ t → ⊥
not_in ids [] d j h k t m e = omega arith
not_in ids (r ∷ l) d zero h k t m e = let z : true ≡ false = sym m ∙ ap (λ (y : Text). mem_t y ids) (sym e) ∙ h.0 in
    let y : ◌≡◌ {A = ℕ} 0 1 = cc in omega arith
not_in ids (r ∷ l) d (suc j) h k t m e = not_in (r.id ∷ ids) l d j h.1 (omega arith) t (in_tail t r.id ids m) e

same_id : (ids : List Text) (l : List Automation) (d : Automation) → Fresh ids l → (i j : ℕ) → i < length l →
    j < length l → (get_or l i d).id ≡ (get_or l j d).id → i ≡ j
same_id ids [] d h i j a b e = absurd (omega arith)
same_id ids (r ∷ l) d h zero zero a b e = refl
same_id ids (r ∷ l) d h zero (suc j) a b e =
    absurd (not_in (r.id ∷ ids) l d j h.1 (omega arith) r.id (in_head r.id ids) (sym e))
same_id ids (r ∷ l) d h (suc i) zero a b e =
    absurd (not_in (r.id ∷ ids) l d i h.1 (omega arith) r.id (in_head r.id ids) e)
same_id ids (r ∷ l) d h (suc i) (suc j) a b e = ap suc (same_id (r.id ∷ ids) l d h.1 i j (omega arith) (omega arith) e)

-- ---- the table

soon_is : (es : List Entity) (d : Entity) (w : ℕ) → check_entity es d ≡ accept → d.stale_after ≡ stale_of w →
    (w ≡ 4294967295 → ⊥) → w ≤ 86400
unfolding check_entity stale_of present_and
soon_is es d w e p n =
    let o : d.stale_after ≡ some w = p ∙ rw (ne_eqb w 4294967295 n) in
    let b : present_and (ltb day) d.stale_after ≡ false = when_inv _ _ _ tt e in
    ltb-false 86400 w (sym (ap (present_and (ltb day)) o) ∙ b)

accepted_model : (s : List ℕ) (m : Model) → accepted s ≡ answer m → (q : ℕ) × (model s 0 ≡ got m q)
accepted_model s m e = decoded_model s m (accepted_decoded s m e)

pub tabled : (f x : List ℕ) (ts : List Text) (m : Model) → accepted f ≡ answer m → Words f x ts m → Tabled f x ts m
tabled f x ts m acc w = record {
  size = small.0;
  bytes = w.bytes;
  same = same_place ts (texts_ascend f w.all_texts.1);
  texts = w.texts;
  few_texts = few_texts f w.bytes ts w.all_texts;
  counted = counted_as f ts w.all_texts;
  placed_text = placed_text f w.all_texts.1;
  on = w.on;
  off = w.off;
  unknown = w.unknown;
  unavailable = w.unavailable;
  entities = w.entities;
  few_entities = law.few_entities;
  automations = w.automations;
  few_automations = law.few_automations;
  horizon = w.horizon;
  day = law.day_long;
  steps = w.steps;
  few_steps = law.few_steps;
  start = w.start;
  columns = λ d e h. column d e h;
  rows = λ d i h. row d i h;
  names_differ = λ i j h k e. same_entity m.scenario.entities ascends no_entity i j h k
      ((w.names no_entity i h).name_is ∙ ap (λ (y : ℕ). get_or ts y []) e ∙ sym (w.names no_entity j k).name_is);
  ids_differ = λ i j h k e. same_id [] m.rules no_rule (accepted_fresh f m acc) i j h k
      ((w.rules no_rule i h).id ∙ ap (λ (y : ℕ). get_or ts y []) e ∙ sym (w.rules no_rule j k).id);
  few_reasons = small.1;
  stated = accepted_stated f m acc;
}
  where
    small : (length f ≤ 32768) × (length (pool_of m) ≤ simulation_reasons)
    small = accepted_small f m acc

    law : Lawful m
    law = accepted_lawful f m acc

    no_entity : Entity
    no_entity = record { name = []; domain = []; initial = []; tier = observational; stale_after = none }

    ascends : ascending (names_of m.scenario.entities) ≡ true
    ascends = let q = accepted_model f m acc in names_ascend f m q.0 q.1

    column : (d : Entity) (e : ℕ) → e < length m.scenario.entities → Column x ts e (get_or m.scenario.entities e d)
    column d e h =
        let c = w.names d e h in
        record {
          name_in = c.name_in;
          name_is = c.name_is;
          stale_is = c.stale_is;
          soon = soon_is m.scenario.entities (get_or m.scenario.entities e d) (stale x e)
              (lists.each_get_d (λ (y : Entity). check_entity m.scenario.entities y ≡ accept) m.scenario.entities
              e d h law.entities) c.stale_is;
        }

    row : (d : Automation) (i : ℕ) → i < length m.rules → Row f x ts m.scenario.entities i (get_or m.rules i d)
    row d i h =
        let c = w.rules d i h in
        let k = lists.each_get_d (λ (r : Automation). CheckedAt m.scenario.entities r.actions) m.rules i d h
        law.checked in
        record {
          id_in = c.id_in;
          id = c.id;
          mode = c.mode;
          max = c.max;
          triggers = c.triggers;
          conditions = c.conditions;
          actions = c.actions;
          source = c.source;
          notes = c.notes;
          before = k.before;
          after = k.after;
          checked = k.is;
        }
