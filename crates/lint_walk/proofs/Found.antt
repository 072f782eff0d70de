-- What the reader of `File` found, by position: the numbers that stand in the file, from the start of a part.
use mathlib.Core.Path.{◌≡◌, refl, sym, ap, ◌∙◌, subst}
use mathlib.Core.List.{List, [], ◌∷◌}
use mathlib.Core.Bool.{Bool}
use Prim.Native.Nat.{ℕ, zero, suc, ◌+◌, ◌*◌, ◌-◌, ◌≤◌, ◌<◌}
use native.Mathlib.Omega.{arith}
use native.Mathlib.Nat.{mul-suc}
use lib.ListN.{length, get_or}
use Rattle.texts.specs.Texts.{Text}
use Rattle.model_spec.specs.Model.{
  Source,
  Predicate,
  state,
  window,
  Trigger,
  Effect,
  toggle,
  delay,
  condition,
  choose,
  wait,
  Actions,
  Branches,
  Automation,
}
use Rattle.model_spec.specs.File.{
  got,
  Reader,
  ◌>>=◌,
  give,
  refuse,
  u8,
  u16,
  u32,
  times,
  counted,
  flag,
  source,
  mode,
  place,
  predicate,
  trigger,
  branches,
  effect,
  actions,
  automation,
  effect_kinds,
}
use Rattle.model_walk.proofs.Found.{
  bound,
  given,
  Wide,
  wide_sum,
  u8_wide,
  u16_wide,
  u32_wide,
  source_wide,
  kind_wide,
  counted_found,
  Kind,
  kind_found,
  place_found,
  predicate_wide,
  u8_value,
  Value?,
  trigger_found,
}
use Rattle.model_walk.proofs.Found as found
use Rattle.model_walk.proofs.Refines.{sees_flag, sees_mode}
use Rattle.model_parts.proofs.Stands.{more}
use Rattle.lint_spec.specs.Touches.{Action}
use Rattle.lint_walk.specs.Raw.{
  value_of,
  byte_m,
  place_m,
  number_m,
  past,
  repeat,
  predicate_end,
  predicates_end,
  simple_end,
  kind_m,
  triggers_m,
  conditions_m,
  actions_m,
}
use Rattle.lint_walk.proofs.Laws as laws

-- ---- numbers

module _ (s : List ℕ) where
  pub past_is : {w p q : ℕ} → Wide w s p q → past s p w ≡ q
  past_is {w} {p} h = laws.past_in s p w h.inside ∙ sym h.ends

  module _ (p : ℕ) {v q : ℕ} where
    pub byte_got : u8 s p ≡ got v q → byte_m s p ≡ v
    unfolding value_of
    byte_got e = laws.byte_is s p ∙ ap value_of e

    pub place_got : u16 s p ≡ got v q → place_m s p ≡ v
    unfolding value_of
    place_got e = laws.place_is s p ∙ ap value_of e

    pub number_got : u32 s p ≡ got v q → number_m s p ≡ v
    unfolding value_of
    number_got e = laws.number_is s p ∙ ap value_of e

-- a source: its two numbers
pub record SourceAt (s : List ℕ) (p : ℕ) (x : Source) (q : ℕ) : Type 0 where
  pub line : number_m s p ≡ x.line
  pub column : number_m s (past s p 4) ≡ x.column
  pub wide : Wide 8 s p q

pub source_found : {s : List ℕ} {p : ℕ} {x : Source} {q : ℕ} → source s p ≡ got x q → SourceAt s p x q
unfolding source
source_found {s} {p} {x} {q} e =
    let l = bound u32 _ e in
    let c = bound u32 _ l.rest in
    let g = given _ _ _ c.rest in
    record {
      line = number_got s _ l.first ∙ ap (λ (y : Source). y.line) g.0;
      column = ap (number_m s) (past_is s (u32_wide s p l.first)) ∙ number_got s _ c.first
          ∙ ap (λ (y : Source). y.column) g.0;
      wide = source_wide s p e;
    }

module _ (ts : List Text) (s : List ℕ) where
  -- ---- predicates

  pub data PredicateAt (p : ℕ) (q : ℕ) : Predicate → Type 0 where
    state_at : (x v : ℕ) → byte_m s p ≡ 0 → place_m s (past s p 1) ≡ x → place_m s (past s p 3) ≡ v →
        x < length ts → v < length ts → predicate_end s p ≡ q → PredicateAt p q (state (get_or ts x []) (get_or ts v []))
    note_at : (r : Text) → byte_m s p ≡ 1 → predicate_end s p ≡ q → PredicateAt p q (Predicate.unknown r)
    window_at : (d b e : ℕ) → byte_m s p ≡ 2 → predicate_end s p ≡ q → PredicateAt p q (window d b e)

  predicate_kinds : List (Reader Predicate)
  predicate_kinds =
      (place ts >>= λ e. place ts >>= λ v. give (state e v))
      ∷ (place ts >>= λ r. give (Predicate.unknown r))
      ∷ (u8 >>= λ d. u32 >>= λ b. u32 >>= λ e. give (window d b e))
      ∷ []

  pub predicate_found : {p : ℕ} {a : Predicate} {q : ℕ} → predicate ts s p ≡ got a q → PredicateAt p q a
  unfolding predicate predicate_kinds
  predicate_found {p} {a} {q} e = cases k.kind k.is_kind k.holds
    where
      k : Kind predicate_kinds s p a q
      k = kind_found predicate_kinds e

      o : ℕ
      o = k.next

      ended : predicate_end s p ≡ q
      ended =
          sym (laws.predicate_is s p refl (u8_value s p k.is_kind ∙ sym (byte_got s p k.is_kind)))
          ∙ past_is s (predicate_wide ts e)

      cases : (i : ℕ) → u8 s p ≡ got i o → get_or predicate_kinds i refuse s o ≡ got a q → PredicateAt p q a
      cases zero d h =
          let x = bound (place ts) _ h in
          let v = bound (place ts) _ x.rest in
          let z = given _ _ _ v.rest in
          let f = place_found ts x.first in
          let g = place_found ts (v.first ∙ ap (got v.value) z.1) in
          let w = u8_wide s p d in
          let w₁ = wide_sum w (u16_wide s o f.is_place) in
          subst (λ (b : Predicate). PredicateAt p q b) (ap (λ (t : Text). state t (get_or ts g.at [])) (sym f.is_text)
          ∙ ap (state x.value) (sym g.is_text) ∙ z.0)
          (state_at f.at g.at (byte_got s _ d)
          (ap (place_m s) (past_is s w) ∙ place_got s _ f.is_place)
          (ap (place_m s) (past_is s w₁) ∙ place_got s _ g.is_place)
          f.is_in g.is_in ended)
      cases (suc zero) d h =
          let x = bound (place ts) _ h in
          let z = given _ _ _ x.rest in
          subst (λ (b : Predicate). PredicateAt p q b) z.0 (note_at x.value (byte_got s _ d) ended)
      cases (suc (suc zero)) d h =
          let x = bound u8 _ h in
          let y = bound u32 _ x.rest in
          let v = bound u32 _ y.rest in
          let z = given _ _ _ v.rest in
          subst (λ (b : Predicate). PredicateAt p q b) z.0
          (window_at x.value y.value v.value (byte_got s _ d) ended)
      cases (suc (suc (suc i))) d h = absurd (found.refused s o h)

  pub predicate_ends : {p : ℕ} {a : Predicate} {q : ℕ} → PredicateAt p q a → predicate_end s p ≡ q
  predicate_ends (state_at x v k a b h i e) = e
  predicate_ends (note_at r k e) = e
  predicate_ends (window_at d b c k e) = e

  times_end : {A : Type 0} (r : Reader A) (f : ℕ → ℕ) → ((p : ℕ) (a : A) (q : ℕ) → r s p ≡ got a q → f p ≡ q) →
      (n p : ℕ) (l : List A) (q : ℕ) → times n r s p ≡ got l q → repeat n f p ≡ q
  unfolding times repeat
  times_end r f h zero p l q e = (given _ _ _ e).1
  times_end r f h (suc n) p l q e =
      let m = more r s n p e in
      ap (repeat n f) (h p m.first m.after m.is_first) ∙ times_end r f h n m.after m.others q m.are_others

  pub predicates_end_lem : (p : ℕ) {l : List Predicate} {q : ℕ} → counted (predicate ts) s p ≡ got l q → predicates_end s p ≡ q
  predicates_end_lem p {l} {q} e =
      let c = counted_found (predicate ts) e in
      laws.predicates_is s p
      ∙ laws.same_start (predicate_end s) (sym (place_got s _ c.is_count)) (sym (past_is s (u16_wide s p c.is_count)))
      ∙ times_end (predicate ts) (predicate_end s) (λ p a q d. predicate_ends (predicate_found d)) c.count c.start l q
      c.are_values

  -- ---- triggers

  pub record TriggerAt (p : ℕ) (t : Trigger) (q : ℕ) : Type 0 where
    pub x : ℕ
    pub is_in : x < length ts
    pub at_entity : place_m s p ≡ x
    pub is_entity : t.entity ≡ get_or ts x []
    pub to_at : Value? ts (place_m s (past s p 4)) t.to
    pub note_at : Value? ts (place_m s (past s p 14)) t.note
    pub wide : Wide 16 s p q

  pub trigger_at : {p : ℕ} {t : Trigger} {q : ℕ} → trigger ts s p ≡ got t q → TriggerAt p t q
  trigger_at {p} {t} {q} e =
      let f = trigger_found ts e in
      let w₁ = u16_wide s p f.entity_at.is_place in
      let w₂ = u16_wide s f.at_from f.from_at.is_place in
      let w₃ = u16_wide s f.at_to f.to_at.is_place in
      let w₄ = source_wide s f.at_source f.source_at in
      let w₅ = u16_wide s f.at_note f.note_at.is_place in
      let v₂ : Wide 4 s p f.at_to = wide_sum w₁ w₂ in
      let v₃ : Wide 6 s p f.at_source = wide_sum v₂ w₃ in
      let v₄ : Wide 14 s p f.at_note = wide_sum v₃ w₄ in
      record {
        x = f.entity_at.at;
        is_in = f.entity_at.is_in;
        at_entity = place_got s _ f.entity_at.is_place;
        is_entity = f.entity_at.is_text;
        to_at = subst (λ (n : ℕ). Value? ts n t.to)
            (sym (ap (place_m s) (past_is s v₂) ∙ place_got s _ f.to_at.is_place)) f.to_at.is_value;
        note_at = subst (λ (n : ℕ). Value? ts n t.note)
            (sym (ap (place_m s) (past_is s v₄) ∙ place_got s _ f.note_at.is_place)) f.note_at.is_value;
        wide = wide_sum v₄ w₅;
      }

  times_wide : {A : Type 0} (r : Reader A) (k : ℕ) → ((p : ℕ) (a : A) (q : ℕ) → r s p ≡ got a q → Wide k s p q) →
      (n p : ℕ) (l : List A) (q : ℕ) → p ≤ length s → times n r s p ≡ got l q → Wide (k * n) s p q
  unfolding times
  times_wide r k h zero p l q b e = let z = (given _ _ _ e).1 in record { ends = omega arith; inside = omega arith }
  times_wide r k h (suc n) p l q b e =
      let m = more r s n p e in
      let w = h p m.first m.after m.is_first in
      let v = times_wide r k h n m.after m.others q (omega (arith, w.ends, w.inside)) m.are_others in
      let z : k * suc n ≡ k + k * n = omega (arith, mul-suc k n) in
      rw z (wide_sum w v)

  -- ---- effects: from the position of the action on

  pub data EffectAt (left p q : ℕ) : Effect → Type 0 where
    set_at : (x v : ℕ) → kind_m s p ≡ 0 → place_m s (past s p 9) ≡ x → place_m s (past s p 11) ≡ v → x < length ts →
        v < length ts → simple_end s 0 (past s p 9) ≡ q →
        EffectAt left p q (Effect.set (get_or ts x []) (get_or ts v []))
    toggle_at : (x : ℕ) → kind_m s p ≡ 1 → place_m s (past s p 9) ≡ x → x < length ts → simple_end s 1 (past s p 9) ≡ q →
        EffectAt left p q (toggle (get_or ts x []))
    delay_at : (n : ℕ) → kind_m s p ≡ 2 → simple_end s 2 (past s p 9) ≡ q → EffectAt left p q (delay n)
    condition_at : (a : Predicate) → kind_m s p ≡ 3 → PredicateAt (past s p 9) q a → simple_end s 3 (past s p 9) ≡ q →
        EffectAt left p q (condition a)
    choose_at : (bs : Branches) (d : Actions) (n r : ℕ) → kind_m s p ≡ 4 → u16 s (past s p 9) ≡ got n (past s p 11) →
        branches ts (actions ts left) n s (past s p 11) ≡ got bs r → actions ts left s r ≡ got d q →
        EffectAt left p q (choose bs d)
    wait_at : (t : Trigger) (m : ℕ) (c : Bool) (r : ℕ) → kind_m s p ≡ 5 → TriggerAt (past s p 9) t r →
        simple_end s 5 (past s p 9) ≡ q → EffectAt left p q (wait t m c)
    unknown_at : (n : ℕ) → kind_m s p ≡ 6 → place_m s (past s p 9) ≡ n → n < length ts → simple_end s 6 (past s p 9) ≡ q →
        EffectAt left p q (Effect.unknown (get_or ts n []))

  pub effect_found : (left : ℕ) {p o : ℕ} {f : Effect} {q : ℕ} → Wide 8 s p o → effect ts (actions ts left) s o ≡ got f q →
      EffectAt left p q f
  unfolding effect
  effect_found left {p} {o} {f} {q} w e = cases k.kind k.is_kind k.holds
    where
      k : Kind (effect_kinds ts (actions ts left)) s o f q
      k = kind_found (effect_kinds ts (actions ts left)) e

      n : ℕ
      n = k.next

      kind : (i : ℕ) → u8 s o ≡ got i n → kind_m s p ≡ i
      kind i d = sym (laws.kind_is s p o (sym (past_is s w))) ∙ byte_got s _ d

      w₉ : (i : ℕ) → u8 s o ≡ got i n → Wide 9 s p n
      w₉ i d = wide_sum w (u8_wide s o d)

      nine : (i : ℕ) → u8 s o ≡ got i n → past s p 9 ≡ n
      nine i d = past_is s (w₉ i d)

      same : {a b : Effect} → a ≡ b → EffectAt left p q a → EffectAt left p q b
      same z y = subst (λ (g : Effect). EffectAt left p q g) z y

      cases : (i : ℕ) → u8 s o ≡ got i n → get_or (effect_kinds ts (actions ts left)) i refuse s n ≡ got f q →
          EffectAt left p q f
      cases zero d h =
          let x = bound (place ts) _ h in
          let v = bound (place ts) _ x.rest in
          let z = given _ _ _ v.rest in
          let a = place_found ts x.first in
          let b = place_found ts (v.first ∙ ap (got v.value) z.1) in
          let u₁ = u16_wide s n a.is_place in
          let u₂ = u16_wide s x.next b.is_place in
          same (ap (λ (t : Text). Effect.set t (get_or ts b.at [])) (sym a.is_text)
          ∙ ap (Effect.set x.value) (sym b.is_text) ∙ z.0)
          (set_at a.at b.at (kind 0 d) (ap (place_m s) (nine 0 d) ∙ place_got s _ a.is_place)
          (ap (place_m s) (past_is s (wide_sum (w₉ 0 d) u₁)) ∙ place_got s _ b.is_place) a.is_in b.is_in
          (ap (simple_end s 0) (nine 0 d) ∙ laws.simple_0 s n refl ∙ past_is s (wide_sum u₁ u₂)))
      cases (suc zero) d h =
          let x = bound (place ts) _ h in
          let z = given _ _ _ x.rest in
          let a = place_found ts (x.first ∙ ap (got x.value) z.1) in
          same (ap toggle (sym a.is_text) ∙ z.0)
          (toggle_at a.at (kind 1 d) (ap (place_m s) (nine 1 d) ∙ place_got s _ a.is_place) a.is_in
          (ap (simple_end s 1) (nine 1 d) ∙ laws.simple_else s n (λ y. omega arith) (λ y. omega arith) (λ y. omega arith)
          (λ y. omega arith) ∙ past_is s (u16_wide s n a.is_place)))
      cases (suc (suc zero)) d h =
          let x = bound u32 _ h in
          let z = given _ _ _ x.rest in
          same z.0 (delay_at x.value (kind 2 d) (ap (simple_end s 2) (nine 2 d) ∙ laws.simple_2 s n refl
          ∙ past_is s (u32_wide s n (x.first ∙ ap (got x.value) z.1))))
      cases (suc (suc (suc zero))) d h =
          let x = bound (predicate ts) _ h in
          let z = given _ _ _ x.rest in
          let a = predicate_found (x.first ∙ ap (got x.value) z.1) in
          same z.0
          (condition_at x.value (kind 3 d) (subst (λ (m : ℕ). PredicateAt m q x.value) (sym (nine 3 d)) a)
          (ap (simple_end s 3) (nine 3 d) ∙ laws.simple_3 s n refl ∙ predicate_ends a))
      cases (suc (suc (suc (suc zero)))) d h =
          let c = bound u16 _ h in
          let b = bound (branches ts (actions ts left) c.value) _ c.rest in
          let a = bound (actions ts left) _ b.rest in
          let z = given _ _ _ a.rest in
          let m : past s p 11 ≡ c.next = past_is s (wide_sum (w₉ 4 d) (u16_wide s n c.first)) in
          same z.0
          (choose_at b.value a.value c.value b.next (kind 4 d)
          (ap (u16 s) (nine 4 d) ∙ c.first ∙ ap (got c.value) (sym m))
          (ap (branches ts (actions ts left) c.value s) m ∙ b.first)
          (a.first ∙ ap (got a.value) z.1))
      cases (suc (suc (suc (suc (suc zero))))) d h =
          let t = bound (trigger ts) _ h in
          let m = bound u32 _ t.rest in
          let c = bound flag _ m.rest in
          let z = given _ _ _ c.rest in
          let a = trigger_at t.first in
          let u₂ = u32_wide s t.next m.first in
          let u₃ = kind_wide 2 flag sees_flag (c.first ∙ ap (got c.value) z.1) in
          same z.0
          (wait_at t.value m.value c.value t.next (kind 5 d)
          (subst (λ (y : ℕ). TriggerAt y t.value t.next) (sym (nine 5 d)) a)
          (ap (simple_end s 5) (nine 5 d) ∙ laws.simple_5 s n refl ∙ past_is s (wide_sum (wide_sum a.wide u₂) u₃)))
      cases (suc (suc (suc (suc (suc (suc zero)))))) d h =
          let x = bound (place ts) _ h in
          let z = given _ _ _ x.rest in
          let a = place_found ts (x.first ∙ ap (got x.value) z.1) in
          same (ap Effect.unknown (sym a.is_text) ∙ z.0)
          (unknown_at a.at (kind 6 d) (ap (place_m s) (nine 6 d) ∙ place_got s _ a.is_place) a.is_in
          (ap (simple_end s 6) (nine 6 d) ∙ laws.simple_else s n (λ y. omega arith) (λ y. omega arith) (λ y. omega arith)
          (λ y. omega arith) ∙ past_is s (u16_wide s n a.is_place)))
      cases (suc (suc (suc (suc (suc (suc (suc i))))))) d h = absurd (found.refused s n h)

  -- an action, from its position on
  pub record ActionAt (p : ℕ) (a : Action) : Type 0 where
    pub left : ℕ
    pub is_shallow : left ≤ 18
    pub after : ℕ
    pub end : ℕ
    pub source_at : SourceAt s p a.source after
    pub effect_at : EffectAt left p end a.effect

  -- ---- an automation

  pub record RuleAt (p : ℕ) (r : Automation) : Type 0 where
    pub start : ℕ
    pub triggers : u16 s (triggers_m s p) ≡ got (length r.triggers) start
    pub are_triggers : times (length r.triggers) (trigger ts) s start ≡ got r.triggers (conditions_m s p)
    pub conditions : counted (predicate ts) s (conditions_m s p) ≡ got r.conditions (actions_m s p)
    pub at_source : ℕ
    pub at_notes : ℕ
    pub are_actions : actions ts 18 s (actions_m s p) ≡ got r.actions at_source
    pub source_at : source s at_source ≡ got r.source at_notes
    pub behind_id : ℕ
    pub id_at : place ts s p ≡ got r.id behind_id
    pub end : ℕ
    pub notes_at : counted (place ts) s at_notes ≡ got r.notes end

  times_length : {A : Type 0} (r : Reader A) (n p : ℕ) (l : List A) (q : ℕ) → times n r s p ≡ got l q → length l ≡ n
  unfolding times
  times_length r zero p l q e = ap length (sym (given _ _ _ e).0)
  times_length r (suc n) p l q e = let m = more r s n p e in
      ap length m.both ∙ ap suc (times_length r n m.after m.others q m.are_others)

  pub rule_found : {p : ℕ} {r : Automation} {q : ℕ} → automation ts s p ≡ got r q → RuleAt p r
  unfolding automation
  rule_found {p} {r} {q} e =
      let i = bound (place ts) _ e in
      let m = bound mode _ i.rest in
      let x = bound u32 _ m.rest in
      let t = bound (counted (trigger ts)) _ x.rest in
      let c = bound (counted (predicate ts)) _ t.rest in
      let a = bound (actions ts 18) _ c.rest in
      let o = bound source _ a.rest in
      let n = bound (counted (place ts)) _ o.rest in
      let z = given _ _ _ n.rest in
      let w₁ = u16_wide s p (place_found ts i.first).is_place in
      let w₂ = kind_wide 4 mode sees_mode m.first in
      let w₃ = u32_wide s m.next x.first in
      let w₇ : Wide 7 s p x.next = wide_sum (wide_sum w₁ w₂) w₃ in
      let zt : triggers_m s p ≡ x.next = laws.triggers_is s p ∙ past_is s w₇ in
      let f = counted_found (trigger ts) t.first in
      let wc = u16_wide s x.next f.is_count in
      let wt = times_wide (trigger ts) 16 (λ p a q d. (trigger_at d).wide) f.count f.start t.value t.next
      (omega (arith, wc.ends, wc.inside)) f.are_values in
      let zc : conditions_m s p ≡ t.next =
      sym (laws.conditions_is s p x.next f.count f.start (sym zt) (sym (place_got s _ f.is_count))
      (sym (past_is s wc))) ∙ past_is s wt in
      let za : actions_m s p ≡ c.next = sym (laws.actions_is s p t.next (sym zc)) ∙ predicates_end_lem t.next c.first in
      let ln = times_length (trigger ts) f.count f.start t.value t.next f.are_values in
      subst (λ (y : Automation). RuleAt p y) z.0 (record {
        start = f.start;
        triggers = ap (u16 s) zt ∙ f.is_count ∙ ap (λ (k : ℕ). got k f.start) (sym ln);
        are_triggers = ap (λ (k : ℕ). times k (trigger ts) s f.start) ln ∙ f.are_values ∙ ap (got t.value) (sym zc);
        conditions = ap (counted (predicate ts) s) zc ∙ c.first ∙ ap (got c.value) (sym za);
        at_source = a.next;
        at_notes = o.next;
        are_actions = ap (actions ts 18 s) za ∙ a.first;
        source_at = o.first;
        behind_id = i.next;
        id_at = i.first;
        end = n.next;
        notes_at = n.first;
      })
