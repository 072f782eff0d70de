-- Each test says what the definition says of the part that the reader of `File` finds at its position.
use Rattle.std.specs.Prelude.{if◌then◌else◌}
use mathlib.Core.Path.{◌≡◌, refl, sym, ap, ◌∙◌}
use mathlib.Core.Bool.{Bool, true, false, ◌||◌, ◌&&◌, not}
use mathlib.Core.List.{List, [], ◌∷◌}
use mathlib.Core.Option.{Option, none, some}
use Prim.Native.Nat.{ℕ, zero, suc, ◌-◌, ◌<◌}
use lib.Dec.{eqb}
use lib.ListN.{length, get_or}
use borrow.Author.Tests.{eq-eqb, ne_eqb, eqb-true, eqb-false}
use Rattle.texts.specs.Lists.{absent, present_and, absent_or, any, all}
use Rattle.texts.specs.Texts.{Text, eq_t}
use Rattle.model_spec.specs.Model.{Predicate, state, window, Trigger, Automation}
use Rattle.model_spec.specs.File.{got, Reader, times, counted, predicate, trigger}
use Rattle.model_walk.proofs.Found.{given, u16_wide, Counted, counted_found, Value?}
use Rattle.model_walk.proofs.Found as found
use Rattle.model_parts.proofs.Stands.{more}
use Rattle.lint_spec.specs.Touches.{Write}
use Rattle.lint_spec.specs.Findings.{clash, contradictory, mismatched, is_star, sets_off}
use Rattle.lint_walk.specs.Raw.{place_m, past, predicate_end, triggers_m, conditions_m, actions_m}
use Rattle.lint_walk.proofs.Found.{
  past_is,
  place_got,
  PredicateAt,
  state_at,
  note_at,
  window_at,
  predicate_found,
  predicate_ends,
  TriggerAt,
  trigger_at,
  RuleAt,
}
use Rattle.lint_conditions.specs.Conditions.{
  any_m,
  all_m,
  clash_m,
  clashes_m,
  meets_m,
  contradictory_from,
  contradictory_m,
  mismatch_m,
  mismatched_m,
  sets_off_m,
  leads_m,
}
use Rattle.lint_conditions.proofs.Laws as laws

if_and : (a b : Bool) → (if a then b else false) ≡ (a && b)
if_and true b = refl
if_and false b = refl

pub or_is : (a b : Bool) → (elim a [ true ↦ true | false ↦ b ]) ≡ (a || b)
or_is true b = refl
or_is false b = refl

and_is : (a b : Bool) → (elim a [ true ↦ b | false ↦ false ]) ≡ (a && b)
and_is true b = refl
and_is false b = refl

eqb_sym : (a b : ℕ) → eqb a b ≡ eqb b a
eqb_sym a b = go (eqb a b) refl
  where
    go : (c : Bool) → eqb a b ≡ c → eqb a b ≡ eqb b a
    go true h = h ∙ sym (eq-eqb b a (sym (eqb-true a b h)))
    go false h = h ∙ sym (ne_eqb b a (λ e. eqb-false a b h (sym e)))

any_never : {A : Type 0} (f : A → Bool) → ((a : A) → f a ≡ false) → (l : List A) → any f l ≡ false
unfolding any
any_never f h [] = refl
any_never f h (x ∷ l) = rw (h x) (any_never f h l)

-- ---- lists that were read one after the other
module _ (s : List ℕ) {A : Type 0} (r : Reader A) (f : ℕ → Bool) (end : ℕ → ℕ) (t : A → Bool)
    (h : (p : ℕ) (a : A) (q : ℕ) → r s p ≡ got a q → (f p ≡ t a) × (end p ≡ q)) where
  any_agrees : (n p : ℕ) (l : List A) (q : ℕ) → times n r s p ≡ got l q → any_m f end n p ≡ any t l
  unfolding times any_m any
  any_agrees zero p l q e = ap (any t) (given _ _ _ e).0
  any_agrees (suc n) p l q e =
      let m = more r s n p e in
      let x = h p m.first m.after m.is_first in
      or_is (f p) (any_m f end n (end p))
      ∙ ap (λ (b : Bool). b || any_m f end n (end p)) x.0
      ∙ ap (λ (b : Bool). t m.first || b) (ap (any_m f end n) x.1
      ∙ any_agrees n m.after m.others q m.are_others)
      ∙ ap (any t) (sym m.both)

  all_agrees : (n p : ℕ) (l : List A) (q : ℕ) → times n r s p ≡ got l q → all_m f end n p ≡ all t l
  unfolding times all_m all
  all_agrees zero p l q e = ap (all t) (given _ _ _ e).0
  all_agrees (suc n) p l q e =
      let m = more r s n p e in
      let x = h p m.first m.after m.is_first in
      and_is (f p) (all_m f end n (end p))
      ∙ ap (λ (b : Bool). b && all_m f end n (end p)) x.0
      ∙ ap (λ (b : Bool). t m.first && b) (ap (all_m f end n) x.1
      ∙ all_agrees n m.after m.others q m.are_others)
      ∙ ap (all t) (sym m.both)

module _ (s : List ℕ) (ts : List Text) (same : (i j : ℕ) → i < length ts → j < length ts →
    eq_t (get_or ts i []) (get_or ts j []) ≡ eqb i j) where
  abbrev T : ℕ → Text
  T x = get_or ts x []

  -- ---- predicates

  clash_agrees : (x v p : ℕ) (a : Predicate) (q : ℕ) → x < length ts → v < length ts → PredicateAt ts s p q a →
      clash_m s x v p ≡ clash (state (T x) (T v)) a
  unfolding clash_m clash
  clash_agrees x v p a q h i (state_at y w k d e m n o) =
      rw k (rw d (rw e (
      if_and (eqb y x) (not (eqb w v))
      ∙ ap (λ (b : Bool). b && not (eqb w v)) (eqb_sym y x ∙ sym (same x y h m))
      ∙ ap (λ (b : Bool). eq_t (T x) (T y) && not b) (eqb_sym w v ∙ sym (same v w i n)))))
  clash_agrees x v p a q h i (note_at r k o) = rw k
  clash_agrees x v p a q h i (window_at d b e k o) = rw k

  clashes_agree : (x v n p : ℕ) (l : List Predicate) (q : ℕ) → x < length ts → v < length ts →
      times n (predicate ts) s p ≡ got l q → clashes_m s x v n p ≡ any (clash (state (T x) (T v))) l
  clashes_agree x v n p l q h i e =
      laws.clashes_is s x v n p
      ∙ any_agrees s (predicate ts) (clash_m s x v) (predicate_end s) (clash (state (T x) (T v)))
      (λ o a t d. let f = predicate_found ts s d in (clash_agrees x v o a t h i f, predicate_ends ts s f)) n p l q e

  meets_agrees : (n p : ℕ) (a : Predicate) (o : ℕ) (l : List Predicate) (q : ℕ) → PredicateAt ts s p o a →
      times n (predicate ts) s o ≡ got l q → meets_m s n p ≡ any (clash a) l
  unfolding meets_m clash
  meets_agrees n p a o l q (state_at x v k d e h i w) g =
      rw k (rw d (rw e (ap (clashes_m s x v n) (predicate_ends ts s (state_at x v k d e h i w))
      ∙ clashes_agree x v n o l q h i g)))
  meets_agrees n p a o l q (note_at r k w) g = rw k (sym (any_never (clash (Predicate.unknown r)) (λ b. refl) l))
  meets_agrees n p a o l q (window_at d b e k w) g = rw k (sym (any_never (clash (window d b e)) (λ c. refl) l))

  contra_agrees : (n p : ℕ) (l : List Predicate) (q : ℕ) → times n (predicate ts) s p ≡ got l q →
      contradictory_from s n p ≡ contradictory l
  unfolding times contradictory_from contradictory
  contra_agrees zero p l q e = ap contradictory (given _ _ _ e).0
  contra_agrees (suc n) p l q e =
      let m = more (predicate ts) s n p e in
      let f = predicate_found ts s m.is_first in
      or_is (meets_m s n p) (contradictory_from s n (predicate_end s p))
      ∙ ap (λ (b : Bool). b || contradictory_from s n (predicate_end s p))
      (meets_agrees n p m.first m.after m.others q f m.are_others)
      ∙ ap (λ (b : Bool). any (clash m.first) m.others || b)
      (ap (contradictory_from s n) (predicate_ends ts s f) ∙ contra_agrees n m.after m.others q m.are_others)
      ∙ ap contradictory (sym m.both)

  -- a count, and as many predicates
  pub contradictory_agrees : (p : ℕ) (l : List Predicate) (q : ℕ) → counted (predicate ts) s p ≡ got l q →
      contradictory_m s p ≡ contradictory l
  contradictory_agrees p l q e =
      let c = counted_found (predicate ts) e in
      laws.contra_is s p (sym (place_got s p c.is_count)) (sym (past_is s (u16_wide s p c.is_count)))
      ∙ contra_agrees c.count c.start l q c.are_values

  -- ---- triggers

  mismatch_agrees : (c : ℕ) (ps : List Predicate) (k p : ℕ) (t : Trigger) (q : ℕ) → counted (predicate ts) s c ≡ got ps k →
      TriggerAt ts s p t q → mismatch_m s c p ≡ mismatched ps t
  unfolding mismatch_m mismatched absent present_and
  mismatch_agrees c ps k p t q e f = noted (place_m s (past s p 14)) t.note f.note_at
    where
      n : Counted (predicate ts) s c ps k
      n = counted_found (predicate ts) e

      clashing : (v : ℕ) → v < length ts → clashes_m s (place_m s p) v (place_m s c) (past s c 2)
          ≡ any (clash (state t.entity (T v))) ps
      clashing v h =
          rw (f.at_entity, place_got s c n.is_count, past_is s (u16_wide s c n.is_count), f.is_entity)
          (clashes_agree f.x v n.count n.start ps k f.is_in h n.are_values)

      aimed : (v : ℕ) (o : Option Text) → Value? ts v o →
          (if eqb v 65535 then false else clashes_m s (place_m s p) v (place_m s c) (past s c 2))
          ≡ present_and (λ to. any (clash (state t.entity to)) ps) o
      aimed v none (found.absent h) = rw (eq-eqb v 65535 h)
      aimed v (some y) (found.present h i) = rw (ne_eqb v 65535 h) (clashing v i)

      noted : (m : ℕ) (o : Option Text) → Value? ts m o →
          (if eqb m 65535 then (if eqb (place_m s (past s p 4)) 65535 then false
          else clashes_m s (place_m s p) (place_m s (past s p 4)) (place_m s c) (past s c 2)) else false)
          ≡ (absent o && present_and (λ to. any (clash (state t.entity to)) ps) t.to)
      noted m none (found.absent h) = rw (eq-eqb m 65535 h) (aimed (place_m s (past s p 4)) t.to f.to_at)
      noted m (some y) (found.present h i) = rw (ne_eqb m 65535 h)

  -- all triggers of an automation
  pub mismatched_agrees : (p : ℕ) (r : Automation) → RuleAt ts s p r →
      mismatched_m s p ≡ all (mismatched r.conditions) r.triggers
  mismatched_agrees p r f =
      laws.mismatched_is s p refl refl (sym (place_got s (triggers_m s p) f.triggers))
      (sym (past_is s (u16_wide s (triggers_m s p) f.triggers)))
      ∙ all_agrees s (trigger ts) (mismatch_m s (conditions_m s p)) (λ o. past s o 16) (mismatched r.conditions)
      (λ o a t d. let g = trigger_at ts s d in
      (mismatch_agrees (conditions_m s p) r.conditions (actions_m s p) o a t f.conditions g, past_is s g.wide))
      (length r.triggers) f.start r.triggers (conditions_m s p) f.are_triggers

  -- ---- writes: the place v stands for the value t, a toggle's or a set's; `star` is the place of `*`, or 65,535
  pub record Value (star v : ℕ) (t : Text) : Type 0 where
    pub stars : eqb v star ≡ is_star t
    pub equals : (n : ℕ) → n < length ts → eqb n v ≡ eq_t (T n) t

  sets_agrees : (star x v p : ℕ) (w : Write) (t : Trigger) (q : ℕ) → x < length ts → w.entity ≡ T x →
      Value star v w.value → TriggerAt ts s p t q → sets_off_m s star x v p ≡ sets_off w t
  unfolding sets_off_m sets_off absent absent_or
  sets_agrees star x v p w t q h i val f = noted (place_m s (past s p 14)) t.note f.note_at
    where
      entity_is : eqb (place_m s p) x ≡ eq_t t.entity w.entity
      entity_is = rw (f.at_entity, f.is_entity, i) (sym (same f.x x f.is_in h))

      target : (n : ℕ) (o : Option Text) → Value? ts n o →
          (if eqb n 65535 then true else eqb n v) ≡ absent_or (λ y. eq_t y w.value) o
      target n none (found.absent k) = rw (eq-eqb n 65535 k)
      target n (some y) (found.present k m) = rw (ne_eqb n 65535 k) (val.equals n m)

      if_or : (a b : Bool) → (if a then true else b) ≡ (a || b)
      if_or true b = refl
      if_or false b = refl

      noted : (m : ℕ) (o : Option Text) → Value? ts m o →
          (if eqb m 65535
          then (if eqb (place_m s p) x then (if eqb v star then true else if eqb (place_m s (past s p 4)) 65535 then true
          else eqb (place_m s (past s p 4)) v) else false) else false)
          ≡ (absent o && eq_t t.entity w.entity && (is_star w.value || absent_or (λ y. eq_t y w.value) t.to))
      noted m none (found.absent k) =
          rw (eq-eqb m 65535 k) (
          if_and (eqb (place_m s p) x) (if eqb v star then true else if eqb (place_m s (past s p 4)) 65535 then true
          else eqb (place_m s (past s p 4)) v)
          ∙ ap (λ (b : Bool). b && (if eqb v star then true else if eqb (place_m s (past s p 4)) 65535 then true
          else eqb (place_m s (past s p 4)) v)) entity_is
          ∙ ap (λ (b : Bool). eq_t t.entity w.entity && b) (
          if_or (eqb v star) (if eqb (place_m s (past s p 4)) 65535 then true else eqb (place_m s (past s p 4)) v)
          ∙ ap (λ (b : Bool). b || (if eqb (place_m s (past s p 4)) 65535 then true else eqb (place_m s (past s p 4)) v))
          val.stars
          ∙ ap (λ (b : Bool). is_star w.value || b) (target (place_m s (past s p 4)) t.to f.to_at)))
      noted m (some y) (found.present k n) = rw (ne_eqb m 65535 k)

  -- the write can set off a trigger of the automation at a position
  pub leads_agrees : (star x v p : ℕ) (w : Write) (r : Automation) → x < length ts → w.entity ≡ T x →
      Value star v w.value → RuleAt ts s p r → leads_m s star x v p ≡ any (sets_off w) r.triggers
  leads_agrees star x v p w r h i val f =
      laws.leads_is s star x v p refl (sym (place_got s (triggers_m s p) f.triggers))
      (sym (past_is s (u16_wide s (triggers_m s p) f.triggers)))
      ∙ any_agrees s (trigger ts) (sets_off_m s star x v) (λ o. past s o 16) (sets_off w)
      (λ o a t d. let g = trigger_at ts s d in (sets_agrees star x v o w a t h i val g, past_is s g.wide))
      (length r.triggers) f.start r.triggers (conditions_m s p) f.are_triggers
