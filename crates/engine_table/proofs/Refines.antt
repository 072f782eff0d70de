-- The table of an accepted file is the table of its model: each word is what the definition's reader finds.
use Rattle.std.specs.Prelude.{if◌then◌else◌}
use mathlib.Core.Path.{◌≡◌, refl, sym, ap, ◌∙◌, subst}
use mathlib.Core.List.{List, [], ◌∷◌}
use mathlib.Core.Bool.{true}
use mathlib.Core.Option.{none, some}
use Prim.Native.Nat.{ℕ, zero, suc, ◌+◌, ◌-◌, ◌*◌, ◌/◌, ◌%◌, ◌≤◌, ◌<◌}
use native.Mathlib.Omega.{arith}
use native.Mathlib.Nat.{mul-suc}
use native.Mathlib.Decide.{dec_lt}
use lib.ListN.{length, get_or}
use lib.Dec.{eqb}
use borrow.Author.Tests.{lt-ltb, le-ltb}
use Rattle.texts.specs.Texts.{Text, text, mem_t}
use Rattle.model_spec.specs.Answer.{answer}
use Rattle.model_spec.specs.Model.{
  Predicate,
  Actions,
  Entity,
  Mode,
  single,
  queued,
  parallel,
  Automation,
  Limits,
  Moment,
  Model,
  midnight,
}
use Rattle.model_spec.specs.File.{
  got,
  Reader,
  ◌>>=◌,
  give,
  or_zeros,
  start,
  u8,
  u16,
  u32,
  times,
  counted,
  number?,
  source,
  mode,
  limits,
  texts,
  place,
  predicate,
  trigger,
  entity,
  actions,
  automation,
}
use Rattle.model_spec.specs.Validate.{accepted}
use Rattle.model_walk.proofs.Found as found
use Rattle.model_walk.proofs.Found.{
  bound,
  given,
  Wide,
  u8_wide,
  u16_wide,
  u32_wide,
  kind_wide,
  source_wide,
  counted_found,
  place_found,
  kind_found,
  EntityParts,
  entity_found,
}
use Rattle.model_walk.proofs.Laws.{u8_in, u16_in, u32_in}
use Rattle.model_walk.proofs.Refines.{sees_conditions, sees_actions, sees_mode}
use Rattle.model_walk.specs.Walk.{Walked, seen, capped, piece_m, pieces_m, actions_m}
use Rattle.model_walk.specs.declared.Piece.TheVariants as piece
use Rattle.model_parts.specs.Stand.{Reads}
use Rattle.model_parts.proofs.Stands.{more}
use Rattle.model_order.specs.Order.{place_from, Fixed}
use Rattle.model_order.proofs.Places.{fixed_at, fixed_texts}
use Rattle.model_index.specs.declared.Index.{Index}
use Rattle.model_index.specs.Indexed.{Indexed}
use Rattle.bounds.specs.Bounds.{at_most}
use Rattle.engine_fields.specs.Fields.{two, four, cap, name, stale, word}
use Rattle.bounds.proofs.Laws.{most_yes}
use Rattle.engine_window.specs.Window.{start_m}
use Rattle.engine_refinement.specs.Meaning.{stale_of, mode_number, Tabled}
use Rattle.engine_refinement.proofs.Accepted.{accepted_lawful, accepted_small}
use Rattle.engine_refinement.proofs.Tables.{NameWord, RuleWords, Words, tabled}
use Rattle.engine_refinement.proofs.Numbers.{cap_is}
use Rattle.engine_table.specs.Table.{
  end_of,
  stale_at,
  conditions_at,
  actions_at,
  source_at,
  rule_word,
  count_word,
  fixed_word,
  start_word,
  head_word,
  TableOf,
}
use Rattle.engine_table.proofs.Laws as laws

-- ---- numbers in the file

two_read : (s : List ℕ) (p : ℕ) {v q : ℕ} → u16 s p ≡ got v q → two s p ≡ v
unfolding two
two_read s p {v} {q} e = let w = u16_wide s p e in let g = u16_in s p w.inside in (cc)

four_read : (s : List ℕ) (p : ℕ) {v q : ℕ} → u32 s p ≡ got v q → four s p ≡ v
unfolding four two
four_read s p {v} {q} e =
    let w = u32_wide s p e in
    let g = u32_in s p w.inside in
    let z : p + 2 + 1 ≡ p + 3 = omega arith in
    ap (λ (k : ℕ). get_or s p 0 + 256 * get_or s (p + 1) 0 + 65536 * (get_or s (p + 2) 0 + 256 * get_or s k 0)) z ∙ (cc)

byte_read : (s : List ℕ) (p : ℕ) {v q : ℕ} → u8 s p ≡ got v q → get_or s p 0 ≡ v
byte_read s p {v} {q} e = let w = u8_wide s p e in let g = u8_in s p (omega (arith, w.inside)) in (cc)

past_end : (s : List ℕ) (p : ℕ) → length s ≤ p → get_or s p 0 ≡ 0
past_end [] p h = refl
past_end (b ∷ s) zero h = absurd (omega arith)
past_end (b ∷ s) (suc p) h = past_end s p (omega arith)

cap_least : (p n : ℕ) → n ≤ p → n ≤ 32768 → n ≤ cap p
unfolding cap
cap_least p n h k = elim (dec_lt 4294967295 p) [
  | yes l ↦ rw (lt-ltb 4294967295 p l) (omega arith)
  | no l ↦ rw (le-ltb 4294967295 p (omega arith)) h
]

four_past : (s : List ℕ) (p : ℕ) → length s ≤ p → four s p ≡ 0
unfolding four two
four_past s p h =
    rw (
      past_end s p h,
      past_end s (p + 1) (omega arith),
      past_end s (p + 2) (omega arith),
      past_end s (p + 2 + 1) (omega arith),
    )

-- the weekday and second of a start that is read, or zeros
behind_read : (s : List ℕ) (p q : ℕ) (t : Moment) → length s ≤ 32768 → or_zeros midnight start s p ≡ got t q →
    (four s (cap p + 0) ≡ t.weekday) × (four s (cap p + 4) ≡ t.second)
unfolding or_zeros start
behind_read s p q t size e = elim (dec_lt p (length s)) [
  | yes h ↦ inside h (rw (lt-ltb p (length s) h) at e)
  | no h ↦ outside (omega arith) (rw (le-ltb p (length s) (omega arith)) at e)
]
  where
    inside : p < length s → (u32 >>= λ w. u32 >>= λ s. give (record { weekday = w; second = s })) s p ≡ got t q →
        (four s (cap p + 0) ≡ t.weekday) × (four s (cap p + 4) ≡ t.second)
    inside h e =
        let d = bound u32 _ e in
        let n = bound u32 _ d.rest in
        let z = given _ _ _ n.rest in
        let w = u32_wide s p d.first in
        let c : cap p ≡ p = cap_is p (omega (arith, size, w.inside)) in
        let a : cap p + 0 ≡ p = omega (arith, c) in
        let b : cap p + 4 ≡ d.next = omega (arith, c, w.ends) in (
          ap (four s) a ∙ four_read s p d.first ∙ ap (λ (y : Moment). y.weekday) z.0,
          ap (four s) b ∙ four_read s d.next n.first ∙ ap (λ (y : Moment). y.second) z.0,
        )

    outside : length s ≤ p → got midnight p ≡ got t q →
        (four s (cap p + 0) ≡ t.weekday) × (four s (cap p + 4) ≡ t.second)
    outside h e =
        let z : midnight ≡ t = cc in
        let c : length s ≤ cap p = cap_least p (length s) h (omega (arith, size)) in (
          four_past s (cap p + 0) (omega (arith, c)) ∙ ap (λ (y : Moment). y.weekday) z,
          four_past s (cap p + 4) (omega (arith, c)) ∙ ap (λ (y : Moment). y.second) z,
        )

-- a reader that finds something reads inside the file
near : (s : List ℕ) (p q w : ℕ) → length s ≤ 32768 → Wide w s p q → p ≤ 4294967295
near s p q w h v = omega (arith, v.inside)

-- ---- lists, by their widths

none_read : {A : Type 0} (r : Reader A) (s : List ℕ) (p : ℕ) {l : List A} {q : ℕ} → times zero r s p ≡ got l q → p ≡ q
unfolding times give
none_read r s p e = (cc)

module _ {A : Type 0} (r : Reader A) (w : ℕ) (s : List ℕ) (h : (p : ℕ) (a : A) (q : ℕ) → r s p ≡ got a q → Wide w s p q)
  where
    pub times_wide : (i p : ℕ) (l : List A) (q : ℕ) → p ≤ length s → times i r s p ≡ got l q → Wide (w * i) s p q
    times_wide zero p l q o e = let z = none_read r s p e in record { ends = omega arith; inside = omega arith }
    times_wide (suc i) p l q o e =
        let m = more r s i p e in
        let a = h p m.first m.after m.is_first in
        let b = times_wide i m.after m.others q (omega (arith, a.ends, a.inside)) m.are_others in
        let z = mul-suc w i in
        record { ends = omega (arith, z, a.ends, b.ends); inside = omega (arith, z, a.ends, b.inside) }

-- ---- one number of a file that was read

module _ (s : List ℕ) (size : length s ≤ 32768) where
  -- a place at p
  place_word : (ts : List Text) (p : ℕ) {t : Text} {q : ℕ} (f : found.Place ts s p t q) → two s (cap p) ≡ f.at
  place_word ts p f = let w = u16_wide s p f.is_place in
      ap (two s) (cap_is p (near s p _ 2 size w)) ∙ two_read s p f.is_place

  -- an entity's expiry
  stale_read : (ts : List Text) (p : ℕ) (e : Entity) (q : ℕ) → entity ts s p ≡ got e q →
      e.stale_after ≡ stale_of (stale_at s p)
  unfolding stale_at stale_of number?
  stale_read ts p e q h =
      let f = entity_found ts h in
      let c = f.domain in
      let a = u16_wide s p f.name.is_place in
      let b = u16_wide s f.at_domain c.is_count in
      let v = times_wide (place ts) 2 s (λ p a q g. u16_wide s p (place_found ts g).is_place) c.count c.start
      e.domain f.at_initial (omega (arith, b.ends, b.inside)) c.are_values in
      let i = u16_wide s f.at_initial f.initial.is_place in
      let n = bound u32 _ f.stale in
      let z = given _ _ _ n.rest in
      let y : two s (p + 2) ≡ c.count = ap (two s) (sym a.ends) ∙ two_read s f.at_domain c.is_count in
      let o : p + 7 + 2 * two s (p + 2) ≡ f.at_stale =
      omega (arith, y, a.ends, b.ends, v.ends, i.ends, f.tier_wide.ends) in
      let w : four s (p + 7 + 2 * two s (p + 2)) ≡ n.value = ap (four s) o ∙ four_read s f.at_stale n.first in
      sym z.0 ∙ ap (λ (k : ℕ). if eqb k 4294967295 then none else some k) (sym w)

  -- ---- automations

  mode_kinds : List (Reader Mode)
  mode_kinds = give single ∷ give Mode.restart ∷ give queued ∷ give parallel ∷ []

  mode_read : (p : ℕ) (v : Mode) (q : ℕ) → mode s p ≡ got v q → get_or s p 0 ≡ mode_number v
  unfolding mode mode_kinds mode_number
  mode_read p v q e = byte_read s p k.is_kind ∙ cases k.kind k.holds
    where
      k : found.Kind mode_kinds s p v q
      k = kind_found mode_kinds e

      cases : (i : ℕ) → get_or mode_kinds i Rattle.model_spec.specs.File.refuse s k.next ≡ got v q → i ≡ mode_number v
      cases zero h = ap mode_number (given _ _ _ h).0
      cases (suc zero) h = ap mode_number (given _ _ _ h).0
      cases (suc (suc zero)) h = ap mode_number (given _ _ _ h).0
      cases (suc (suc (suc zero))) h = ap mode_number (given _ _ _ h).0
      cases (suc (suc (suc (suc i)))) h = absurd (found.refused s k.next h)

  trigger_wide : (ts : List Text) (p : ℕ) (a : Rattle.model_spec.specs.Model.Trigger) (q : ℕ) → trigger ts s p ≡ got a q →
      Wide 16 s p q
  trigger_wide ts p a q e =
      let f = found.trigger_found ts e in
      let a = u16_wide s p f.entity_at.is_place in
      let b = u16_wide s f.at_from f.from_at.is_place in
      let c = u16_wide s f.at_to f.to_at.is_place in
      let h = source_wide s f.at_source f.source_at in
      let k = u16_wide s f.at_note f.note_at.is_place in
      record {
        ends = omega (arith, a.ends, b.ends, c.ends, h.ends, k.ends);
        inside =
            omega (arith, a.ends, b.ends, c.ends, h.ends, k.inside);
      }

  record RowParts (ts : List Text) (p : ℕ) (a : Automation) : Type 0 where
    pub at_mode : ℕ
    pub at_max : ℕ
    pub at_triggers : ℕ
    pub at_conditions : ℕ
    pub at_actions : ℕ
    pub at_source : ℕ
    pub at_notes : ℕ
    pub end : ℕ
    pub id : found.Place ts s p a.id at_mode
    pub mode_at : mode s at_mode ≡ got a.mode at_max
    pub max_at : u32 s at_max ≡ got a.max at_triggers
    pub triggers_at : counted (trigger ts) s at_triggers ≡ got a.triggers at_conditions
    pub conditions_read : counted (predicate ts) s at_conditions ≡ got a.conditions at_actions
    pub actions_read : actions ts 18 s at_actions ≡ got a.actions at_source
    pub source_read : source s at_source ≡ got a.source at_notes
    pub notes_at : counted (place ts) s at_notes ≡ got a.notes end

  row_found : (ts : List Text) (p : ℕ) (a : Automation) (q : ℕ) → automation ts s p ≡ got a q → RowParts ts p a
  unfolding automation
  row_found ts p a q e =
      let i = bound (place ts) _ e in
      let m = bound mode _ i.rest in
      let x = bound u32 _ m.rest in
      let t = bound (counted (trigger ts)) _ x.rest in
      let c = bound (counted (predicate ts)) _ t.rest in
      let b = bound (actions ts 18) _ c.rest in
      let o = bound source _ b.rest in
      let n = bound (counted (place ts)) _ o.rest in
      let z = given _ _ _ n.rest in
      subst (λ (y : Automation). RowParts ts p y) z.0 (record {
        at_mode = i.next;
        at_max = m.next;
        at_triggers = x.next;
        at_conditions = t.next;
        at_actions = c.next;
        at_source = b.next;
        at_notes = o.next;
        end = n.next;
        id = place_found ts i.first;
        mode_at = m.first;
        max_at = x.first;
        triggers_at = t.first;
        conditions_read = c.first;
        actions_read = b.first;
        source_read = o.first;
        notes_at = n.first;
      })

  -- where the walks over conditions and actions end
  conditions_end : (ts : List Text) (p : ℕ) {l : List Predicate} {q : ℕ} → counted (predicate ts) s p ≡ got l q →
      q ≡ end_of (pieces_m (length ts) piece.Predicate s p 0) p
  unfolding seen capped piece_m
  conditions_end ts p e = laws.end_to p (sees_conditions ts 0 s p ∙ ap (seen _ 0) e)

  actions_end : (ts : List Text) (p : ℕ) {l : Actions} {q : ℕ} → actions ts 18 s p ≡ got l q →
      q ≡ end_of (actions_m (length ts) 18 s p 0) p
  unfolding seen capped
  actions_end ts p e = laws.end_to p (sees_actions ts 18 0 s p ∙ ap (seen _ 0) e)

  -- where the parts of an automation stand
  record RowAt (ts : List Text) (p : ℕ) (a : Automation) (f : RowParts ts p a) : Type 0 where
    pub mode_is : f.at_mode ≡ p + 2
    pub max_is : f.at_max ≡ p + 3
    pub triggers_is : f.at_triggers ≡ p + 7
    pub conditions_is : f.at_conditions ≡ conditions_at s p
    pub actions_is : f.at_actions ≡ actions_at (length ts) s p
    pub source_is : f.at_source ≡ source_at (length ts) s p
    pub notes_is : f.at_notes ≡ f.at_source + 8
    pub inside : f.at_notes ≤ length s

  row_at : (ts : List Text) (p : ℕ) (a : Automation) (f : RowParts ts p a) → RowAt ts p a f
  unfolding conditions_at actions_at source_at
  row_at ts p a f =
      let i = u16_wide s p f.id.is_place in
      let m = kind_wide 4 mode sees_mode f.mode_at in
      let x = u32_wide s f.at_max f.max_at in
      let c = counted_found (trigger ts) f.triggers_at in
      let w = u16_wide s f.at_triggers c.is_count in
      let v = times_wide (trigger ts) 16 s (trigger_wide ts) c.count c.start a.triggers f.at_conditions
      (omega (arith, w.ends, w.inside)) c.are_values in
      let o = source_wide s f.at_source f.source_read in
      let t : f.at_triggers ≡ p + 7 = omega (arith, i.ends, m.ends, x.ends) in
      let n : two s (p + 7) ≡ c.count = ap (two s) (sym t) ∙ two_read s f.at_triggers c.is_count in
      let cs : f.at_conditions ≡ p + 9 + 16 * two s (p + 7) = omega (arith, n, t, w.ends, v.ends) in
      let as' : f.at_actions ≡ actions_at (length ts) s p =
      conditions_end ts f.at_conditions f.conditions_read
      ∙ ap (λ (k : ℕ). end_of (pieces_m (length ts) piece.Predicate s k 0) k) cs in
      record {
        mode_is = i.ends;
        max_is = omega (arith, i.ends, m.ends);
        triggers_is = t;
        conditions_is = cs;
        actions_is = as';
        source_is = actions_end ts f.at_actions f.actions_read
            ∙ ap (λ (k : ℕ). end_of (actions_m (length ts) 18 s k 0) k) as';
        notes_is = o.ends;
        inside = omega (arith, o.ends, o.inside);
      }

-- ---- the table

module _ (s : List ℕ) (i : Index) (x : List ℕ) (m : Model) (t : TableOf s i x) (o : Indexed s i m)
    (bytes : (k : ℕ) → get_or s k 0 < 256) (ok : accepted s ≡ answer m) where
  abbrev ts : List Text
  ts = o.ts

  abbrev es : List Entity
  es = m.scenario.entities

  size : length s ≤ 32768
  size = (accepted_small s m ok).0

  few : (length es ≤ 32) × (length m.rules ≤ 32)
  few = let l = accepted_lawful s m ok in (l.few_entities, l.few_automations)

  -- ---- the words

  texts_count : i.texts.count ≡ length ts
  texts_count = o.each_text.counts

  rules_count : at_most i.rules.count 32 ≡ length m.rules
  rules_count = sym (most_yes i.rules.count 32 (omega (arith, few.1, o.rules.counts))) ∙ o.rules.counts

  head_is : (k : ℕ) → k < 16 → get_or x k 0 ≡ head_word s i k
  head_is k h = t.words k (omega arith) ∙ laws.table_head s i k h

  fixed_here : (w : Text) → mem_t w ts ≡ true → Fixed ts (place_from i.texts.count 0 w s 6) w
  fixed_here w h = subst (λ (c : ℕ). Fixed ts (place_from c 0 w s 6) w) (sym texts_count) (fixed_at s o.all_texts.1 w h)

  limit_read : (q : ℕ) → limits s i.limits ≡ got m.scenario.limits q →
      (four s (cap i.limits + 0) ≡ m.scenario.limits.horizon)
      × (four s (cap i.limits + 4) ≡ m.scenario.limits.max_steps)
  unfolding limits
  limit_read q e =
      let h = bound u32 _ e in
      let n = bound u32 _ h.rest in
      let d = bound u32 _ n.rest in
      let c = bound u32 _ d.rest in
      let z = given _ _ _ c.rest in
      let w = u32_wide s i.limits h.first in
      let p : cap i.limits ≡ i.limits = cap_is i.limits (omega (arith, size, w.inside)) in
      let a : cap i.limits + 0 ≡ i.limits = omega (arith, p) in
      let b : cap i.limits + 4 ≡ h.next = omega (arith, p, w.ends) in (
        ap (four s) a ∙ four_read s i.limits h.first ∙ ap (λ (l : Limits). l.horizon) z.0,
        ap (four s) b
            ∙ four_read s h.next n.first ∙ ap (λ (l : Limits). l.max_steps) z.0,
      )

  -- the start: behind the automations, or zeros if the file ends there
  start_read : start_m x ≡ m.start
  unfolding or_zeros start start_word head_word end_of
  start_read =
      let p = o.behind_rules in
      let e : end_of i.rules.end 0 ≡ p = ap (λ (w : Walked). end_of w 0) o.rules_end in
      let r = behind_read s p o.start_at.0 m.start size o.start_at.1 in
      let c : (k : ℕ) → start_word s i k ≡ four s (cap p + k) = λ k. ap (λ (n : ℕ). four s (cap n + k)) e in
      (λ j. record {
        weekday = (head_is 10 (omega arith) ∙ c 0 ∙ r.0) j;
        second =
            (head_is 11 (omega arith) ∙ c 4 ∙ r.1) j;
      })

  -- ---- entities

  module _ (d : Entity) (e : ℕ) (h : e < length es) where
    p : ℕ
    p = get_or i.entities.starts e 0

    read : Reads (entity ts) s p (get_or es e d)
    unfolding p
    read = o.entities.stand d e (omega (arith, few.0)) h

    parts : EntityParts ts s p (get_or es e d) read.0
    parts = entity_found ts read.1

    near_p : p ≤ 32768
    near_p = omega (arith, size, (u16_wide s p parts.name.is_place).inside)

    name_at : name x e ≡ parts.name.at
    unfolding p
    name_at =
        let z : 16 + e - 16 ≡ e = omega arith in
        t.words (16 + e) (omega (arith, few.0))
        ∙ laws.table_part s i (16 + e) (omega arith)
        ∙ laws.part_name i.texts.count s i.entities.starts i.rules.starts (16 + e) (omega (arith, few.0))
        {p = cap p} (ap (λ (k : ℕ). cap (get_or i.entities.starts k 0)) (sym z))
        ∙ place_word s size ts p parts.name

    stale_at_e : stale x e ≡ stale_at s p
    unfolding p
    stale_at_e =
        let z : 48 + e - 48 ≡ e = omega arith in
        t.words (48 + e) (omega (arith, few.0))
        ∙ laws.table_part s i (48 + e) (omega arith)
        ∙ laws.part_stale i.texts.count s i.entities.starts i.rules.starts (48 + e) (omega arith)
        (omega (arith, few.0)) {p = cap p} (ap (λ (k : ℕ). cap (get_or i.entities.starts k 0)) (sym z))
        ∙ ap (stale_at s) (cap_is p (omega (arith, near_p)))

    stale_here : (get_or es e d).stale_after ≡ stale_of (stale x e)
    stale_here = stale_read s size ts p (get_or es e d) read.0 read.1 ∙ ap stale_of (sym stale_at_e)

    name_word_here : NameWord x ts e (get_or es e d)
    name_word_here = record {
      name_in = subst (λ (k : ℕ). k < length ts) (sym name_at) parts.name.is_in;
      name_is = parts.name.is_text ∙ ap (λ (k : ℕ). get_or ts k []) (sym name_at);
      stale_is = stale_here;
    }

  -- ---- automations

  module _ (d : Automation) (k : ℕ) (h : k < length m.rules) where
    r : Automation
    r = get_or m.rules k d

    at : ℕ
    at = get_or i.rules.starts k 0

    rule_here : Reads (automation ts) s at r
    unfolding r at
    rule_here = o.rules.stand d k (omega (arith, few.1)) h

    row : RowParts s size ts at r
    row = row_found s size ts at r rule_here.0 rule_here.1

    stands : RowAt s size ts at r row
    stands = row_at s size ts at r row

    near_at : at ≤ 32768
    near_at = omega (arith, size, (u16_wide s at row.id.is_place).inside)

    word_here : (n : ℕ) → n < 8 → word x k n ≡ rule_word (length ts) s at n
    unfolding at
    word_here n g =
        let a : (80 + k * 8 + n - 80) / 8 ≡ k = omega arith in
        let b : (80 + k * 8 + n - 80) % 8 ≡ n = omega arith in
        t.words (80 + k * 8 + n) (omega (arith, h, g, rules_count))
        ∙ laws.table_part s i (80 + k * 8 + n) (omega arith)
        ∙ laws.part_rule i.texts.count s i.entities.starts i.rules.starts (80 + k * 8 + n) (omega arith)
        (omega arith) {p = at}
        (sym (ap (λ (j : ℕ). cap (get_or i.rules.starts j 0)) a ∙ cap_is at (omega (arith, near_at))))
        ∙ ap (λ (c : ℕ). rule_word c s at ((80 + k * 8 + n - 80) % 8)) texts_count
        ∙ ap (rule_word (length ts) s at) b

    -- a position in the file, as a word
    capped_at : (p q : ℕ) → q ≡ p → q ≤ length s → cap p ≡ q
    capped_at p q e g = cap_is p (omega (arith, size, e, g)) ∙ sym e

    actions_inside : (p : ℕ) {a : Actions} {q : ℕ} → actions ts 18 s p ≡ got a q → p ≤ length s
    unfolding actions
    actions_inside p e = let b = bound u16 _ e in omega (arith, (u16_wide s p b.first).inside)

    -- where each part begins
    ends_inside : (row.at_triggers ≤ length s) × ((row.at_conditions ≤ length s)
        × ((row.at_actions ≤ length s) × (row.at_source ≤ length s)))
    ends_inside =
        let c = counted_found (trigger ts) row.triggers_at in
        let a = u16_wide s row.at_triggers c.is_count in
        let v = times_wide (trigger ts) 16 s (trigger_wide s size ts) c.count c.start r.triggers
        row.at_conditions (omega (arith, a.ends, a.inside)) c.are_values in
        let b = counted_found (predicate ts) row.conditions_read in
        let w = u16_wide s row.at_conditions b.is_count in
        let o' = source_wide s row.at_source row.source_read in
        let n = actions_inside row.at_actions row.actions_read in
        (omega (arith, a.inside), (omega (arith, w.inside), (n, omega (arith, o'.inside))))

    id_here : word x k 0 ≡ row.id.at
    id_here = word_here 0 (omega arith) ∙ laws.word_0 (length ts) s at 0 refl ∙ two_read s at row.id.is_place

    row_here : RuleWords s x ts k r
    row_here = record {
      id_in = subst (λ (n : ℕ). n < length ts) (sym id_here) row.id.is_in;
      id = row.id.is_text ∙ ap (λ (n : ℕ). get_or ts n []) (sym id_here);
      mode = word_here 1 (omega arith) ∙ laws.word_1 (length ts) s at 1 refl
          ∙ ap (λ (n : ℕ). get_or s n 0) (sym stands.mode_is)
          ∙ mode_read s size row.at_mode r.mode row.at_max row.mode_at;
      max = word_here 2 (omega arith) ∙ laws.word_2 (length ts) s at 2 refl ∙ ap (four s) (sym stands.max_is)
          ∙ four_read s row.at_max row.max_at;
      triggers = (
        row.at_conditions,
        ap (counted (trigger ts) s)
            (word_here 3 (omega arith) ∙ laws.word_3 (length ts) s at 3 refl
            ∙ capped_at (at + 7) row.at_triggers stands.triggers_is ends_inside.0) ∙ row.triggers_at,
      );
      conditions = (
        row.at_actions,
        ap (counted (predicate ts) s)
            (word_here 4 (omega arith) ∙ laws.word_4 (length ts) s at 4 refl
            ∙ capped_at (conditions_at s at) row.at_conditions stands.conditions_is ends_inside.1.0)
            ∙ row.conditions_read,
      );
      actions = (
        row.at_source,
        ap (actions ts 18 s)
            (word_here 5 (omega arith) ∙ laws.word_5 (length ts) s at 5 refl
            ∙ capped_at (actions_at (length ts) s at) row.at_actions stands.actions_is ends_inside.1.1.0)
            ∙ row.actions_read,
      );
      source = (
        row.at_notes,
        ap (source s) (word_here 6 (omega arith) ∙ laws.word_6 (length ts) s at 6 refl
            ∙ capped_at (source_at (length ts) s at) row.at_source stands.source_is ends_inside.1.1.1)
            ∙ row.source_read,
      );
      notes = (
        row.end,
        ap (counted (place ts) s) (word_here 7 (omega arith)
            ∙ laws.word_else (length ts) s at 7 (λ y. absurd (omega arith)) (λ y. absurd (omega arith))
            (λ y. absurd (omega arith)) (λ y. absurd (omega arith)) (λ y. absurd (omega arith)) (λ y. absurd (omega arith))
            (λ y. absurd (omega arith)) ∙ capped_at (source_at (length ts) s at + 8) row.at_notes
            (stands.notes_is ∙ ap (λ (n : ℕ). n + 8) stands.source_is) stands.inside) ∙ row.notes_at,
      );
    }

  -- ---- the whole table

  -- the table's words are what the reader finds
  pub words : Words s x ts m
  unfolding head_word count_word fixed_word r
  words =
      let e = o.all_texts.1 in
      let f = fixed_texts s e in
      let l = limit_read o.limits_at.0 o.limits_at.1 in
      record {
        bytes = bytes;
        all_texts = o.all_texts;
        texts = head_is 9 (omega arith) ∙ texts_count;
        on = subst (λ (k : ℕ). Fixed ts k (text "on")) (sym (head_is 4 (omega arith))) (fixed_here (text "on") f.on);
        off = subst (λ (k : ℕ). Fixed ts k (text "off")) (sym (head_is 5 (omega arith))) (fixed_here (text "off") f.off);
        unknown = subst (λ (k : ℕ). Fixed ts k (text "unknown")) (sym (head_is 6 (omega arith)))
            (fixed_here (text "unknown") f.unknown);
        unavailable = subst (λ (k : ℕ). Fixed ts k (text "unavailable")) (sym (head_is 7 (omega arith)))
            (fixed_here (text "unavailable") f.unavailable);
        entities = head_is 0 (omega arith) ∙ o.entities.counts;
        automations = head_is 1 (omega arith) ∙ o.rules.counts;
        horizon = head_is 2 (omega arith) ∙ l.0;
        steps = head_is 3 (omega arith) ∙ l.1;
        start = start_read;
        names = name_word_here;
        rules = row_here;
      }

  -- the table of the index is the table of the model
  pub model_table : Tabled s x ts m
  model_table = tabled s x ts m ok words
