-- Each check of actions says what `Validate` says of the part that the reader of `File` finds at its position.
use Rattle.std.specs.Prelude.{if◌then◌else◌}
use mathlib.Core.Path.{◌≡◌, refl, sym, ap, ◌∙◌}
use mathlib.Core.List.{List, [], ◌∷◌}
use mathlib.Core.Bool.{Bool}
use Prim.Native.Nat.{ℕ, zero, suc, ◌+◌, ◌≤◌}
use native.Mathlib.Omega.{arith}
use native.Mathlib.Decide.{dec_lt}
use lib.ListN.{get_or}
use lib.Dec.{ltb, eqb}
use borrow.Author.Tests.{lt-ltb, le-ltb}
use Rattle.texts.specs.Texts.{Text, text}
use Rattle.model_spec.specs.Answer.{Answer, answer, refused, Verdict, ◌>>=◌, ◌and◌, ◌when◌, each_accepted}
use Rattle.model_spec.specs.Model.{
  Source,
  Entity,
  Trigger,
  Effect,
  toggle,
  delay,
  condition,
  choose,
  wait,
  Actions,
  done,
  act,
  Branches,
}
use Rattle.model_spec.specs.File.{◌>>=◌ as ◌>>=ᵣ◌}
use Rattle.model_spec.specs.File.{
  got,
  Reader,
  give,
  refuse,
  u8,
  u16,
  u32,
  counted,
  flag,
  source,
  place,
  predicate,
  trigger,
  branches,
  effect,
  actions_of,
  actions,
}
use Rattle.model_spec.specs.Validate.{
  day,
  counting,
  check_value,
  check_predicate,
  check_trigger,
  check_effect,
  check_actions,
  check_branches,
}
use Rattle.model_walk.proofs.Found.{bound, given, u16_wide, source_wide, kind_wide, Kind, kind_found, place_found}
use Rattle.model_walk.proofs.Found as found
use Rattle.model_walk.proofs.Refines.{sees_flag}
use Rattle.model_check.specs.declared.Checked.TheVariants as checked
use Rattle.model_check.specs.Checks.{
  Check,
  ◌⨾◌,
  by,
  stay,
  refuse_if,
  skip_m,
  times_m,
  Declaration,
  value_m,
  predicates_m,
  trigger_m,
}
use Rattle.model_actions.specs.Actions.{count_m, toggle_m, wait_m, simple_m, branch_m, choice_m, action_m, actions_m}
use Rattle.model_check.proofs.Refines.{
  after,
  after_same,
  accept_and,
  by_got,
  next,
  next_and,
  skip_wide,
  skip_then,
  skips,
  Grounded,
  value_agrees,
  pair_agrees,
  predicate_agrees,
  predicates_agree,
  trigger_agrees,
  day_agrees,
}
use Rattle.model_actions.proofs.Laws as laws

-- ---- verdicts

and_then_bind : (v : Verdict) (x : Answer ℕ) (f : ℕ → Answer ℕ) → ((v and x) >>= f) ≡ (v and (x >>= f))
unfolding ◌>>=◌ ◌and◌
and_then_bind (answer tt) x f = refl
and_then_bind (refused k) x f = refl

bind_bind : (x : Answer ℕ) (f g : ℕ → Answer ℕ) → ((x >>= f) >>= g) ≡ (x >>= λ m. f m >>= g)
unfolding ◌>>=◌
bind_bind (answer m) f g = refl
bind_bind (refused k) f g = refl

-- ---- the parts, over a file whose declarations are known
module _ (s : List ℕ) (d : Declaration) (ts : List Text) (es : List Entity) (g : Grounded s d ts es) where
  -- ---- effects that hold no list

  toggle_agrees : (p n : ℕ) (x : Text) (q : ℕ) → place ts s p ≡ got x q →
      toggle_m d s p n ≡ after q (check_value es x (text "on") and check_value es x (text "off") and answer n)
  toggle_agrees p n x q e =
      let a = place_found ts e in
      let v = a.at in
      laws.toggle_is d s p n
      ∙ by_got s u16 _ p n a.is_place
      ∙ next_and s (value_m d v d.on) (value_m d v d.off) q n q q (check_value es (get_or ts v []) (get_or ts d.on []))
      (λ m. check_value es (get_or ts v []) (get_or ts d.off []) and answer m)
      (value_agrees s d ts es g v d.on a.is_in g.on.is_in q n)
      (λ m. value_agrees s d ts es g v d.off a.is_in g.off.is_in q m)
      ∙ ap (λ (y : Text). after q (check_value es y (get_or ts d.on []) and check_value es y (get_or ts d.off [])
      and answer n)) (sym a.is_text)
      ∙ ap (λ (y : Text). after q (check_value es x y and check_value es x (get_or ts d.off []) and answer n))
      g.on.is_text
      ∙ ap (λ (y : Text). after q (check_value es x (text "on") and check_value es x y and answer n)) g.off.is_text

  wait_agrees : (p n : ℕ) {t : Trigger} {k : ℕ} {c : Bool} {o r q : ℕ} → trigger ts s p ≡ got t o → u32 s o ≡ got k r →
      flag s r ≡ got c q → wait_m d s p n ≡ after q (check_trigger es t and 19 when ltb day k and answer n)
  unfolding after
  wait_agrees p n {t} {k} {c} {o} {r} {q} a b f =
      laws.wait_is d s p n
      ∙ next_and s (trigger_m d) (by u32 (λ x. refuse_if 19 (ltb day x)) ⨾ skip_m 1) p n o q (check_trigger es t)
      (λ m. 19 when ltb day k and answer m)
      (trigger_agrees s d ts es g p n t o a)
      (λ m. next_and s (by u32 (λ x. refuse_if 19 (ltb day x))) (skip_m 1) o m r q (19 when ltb day k) answer
      (day_agrees s d ts es g 19 o m k r b) (λ j. skip_wide s 1 r j (kind_wide 2 flag sees_flag f)))

  -- ---- actions: the reader and the check of an inner list are given
  module _ (inner : Reader Actions) (check : Check) (dep : ℕ)
      (ih : (p n : ℕ) (a : Actions) (q : ℕ) → inner s p ≡ got a q → check s p n ≡ after q (check_actions es a (dep + 1) n))
    where
      branches_agree : (i p n : ℕ) (b : Branches) (q : ℕ) → branches ts inner i s p ≡ got b q →
          times_m i (branch_m d check) s p n ≡ after q (check_branches es b dep n)
      unfolding branches times_m stay after check_branches
      branches_agree zero p n b q e =
          let z = given _ _ _ e in
          ap (λ (x : ℕ). checked.To x n) z.1 ∙ ap (λ (y : Branches). after q (check_branches es y dep n)) z.0
      branches_agree (suc i) p n b q e =
          let c = bound (counted (predicate ts)) _ e in
          let a = bound inner _ c.rest in
          let r = bound (branches ts inner i) _ a.rest in
          let z = given _ _ _ r.rest in
          next s (branch_m d check) (times_m i (branch_m d check)) p n a.next q
          (each_accepted (check_predicate es) c.value and check_actions es a.value (dep + 1) n)
          (λ m. check_branches es r.value dep m)
          (next_and s (predicates_m d 0) check p n c.next a.next (each_accepted (check_predicate es) c.value)
          (λ m. check_actions es a.value (dep + 1) m)
          (predicates_agree s d ts es g p n c.value c.next c.first)
          (λ m. ih c.next m a.value a.next a.first))
          (λ m. branches_agree i a.next m r.value q (r.first ∙ ap (got r.value) z.1))
          ∙ after_same q (and_then_bind (each_accepted (check_predicate es) c.value)
          (check_actions es a.value (dep + 1) n) (λ m. check_branches es r.value dep m))
          ∙ ap (λ (y : Branches). after q (check_branches es y dep n)) z.0

      effect_kinds : List (Reader Effect)
      effect_kinds =
          (place ts >>=ᵣ λ x. place ts >>=ᵣ λ v. give (Effect.set x v))
          ∷ (place ts >>=ᵣ λ x. give (toggle x))
          ∷ (u32 >>=ᵣ λ n. give (delay n))
          ∷ (predicate ts >>=ᵣ λ p. give (condition p))
          ∷ (u16 >>=ᵣ λ n. branches ts inner n >>=ᵣ λ bs. inner >>=ᵣ λ a. give (choose bs a))
          ∷ (trigger ts >>=ᵣ λ t. u32 >>=ᵣ λ n. flag >>=ᵣ λ c. give (wait t n c))
          ∷ (place ts >>=ᵣ λ r. give (Effect.unknown r))
          ∷ []

      effect_agrees : (p n : ℕ) (f : Effect) (q : ℕ) → effect ts inner s p ≡ got f q →
          by u8 (λ k. if eqb k 4 then choice_m d check else simple_m d k) s p n ≡ after q (check_effect es f dep n)
      unfolding effect effect_kinds check_effect
      effect_agrees p n f q e = by_got s u8 _ p n k.is_kind ∙ cases k.kind k.holds
        where
          k : Kind effect_kinds s p f q
          k = kind_found effect_kinds e

          o : ℕ
          o = k.next

          same : {a b : Effect} → a ≡ b → after q (check_effect es a dep n) ≡ after q (check_effect es b dep n)
          same z = ap (λ (y : Effect). after q (check_effect es y dep n)) z

          cases : (i : ℕ) → get_or effect_kinds i refuse s o ≡ got f q →
              (if eqb i 4 then choice_m d check else simple_m d i) s o n ≡ after q (check_effect es f dep n)
          cases zero h =
              let x = bound (place ts) _ h in
              let v = bound (place ts) _ x.rest in
              let z = given _ _ _ v.rest in
              laws.simple_0 d s o n refl ∙ pair_agrees s d ts es g o n x.first (v.first ∙ ap (got v.value) z.1)
              ∙ same z.0
          cases (suc zero) h =
              let x = bound (place ts) _ h in
              let z = given _ _ _ x.rest in
              laws.simple_1 d s o n refl ∙ toggle_agrees o n x.value q (x.first ∙ ap (got x.value) z.1)
              ∙ same z.0
          cases (suc (suc zero)) h =
              let x = bound u32 _ h in
              let z = given _ _ _ x.rest in
              laws.simple_2 d s o n refl ∙ day_agrees s d ts es g 18 o n x.value q (x.first ∙ ap (got x.value) z.1)
              ∙ same z.0
          cases (suc (suc (suc zero))) h =
              let x = bound (predicate ts) _ h in
              let z = given _ _ _ x.rest in
              laws.simple_3 d s o n refl ∙ predicate_agrees s d ts es g o n x.value q
              (x.first ∙ ap (got x.value) z.1) ∙ same z.0
          cases (suc (suc (suc (suc zero)))) h =
              let c = bound u16 _ h in
              let b = bound (branches ts inner c.value) _ c.rest in
              let a = bound inner _ b.rest in
              let z = given _ _ _ a.rest in
              by_got s u16 _ o n c.first
              ∙ next s (times_m c.value (branch_m d check)) check c.next n b.next q
              (check_branches es b.value dep n)
              (λ m. check_actions es a.value (dep + 1) m)
              (branches_agree c.value c.next n b.value b.next b.first)
              (λ m. ih b.next m a.value q (a.first ∙ ap (got a.value) z.1))
              ∙ same z.0
          cases (suc (suc (suc (suc (suc zero))))) h =
              let t = bound (trigger ts) _ h in
              let m = bound u32 _ t.rest in
              let c = bound flag _ m.rest in
              let z = given _ _ _ c.rest in
              laws.simple_5 d s o n refl ∙ wait_agrees o n t.first m.first (c.first ∙ ap (got c.value) z.1)
              ∙ same z.0
          cases (suc (suc (suc (suc (suc (suc zero)))))) h =
              let x = bound (place ts) _ h in
              let z = given _ _ _ x.rest in
              let w = u16_wide s o (place_found ts (x.first ∙ ap (got x.value) z.1)).is_place in
              laws.simple_else d s o n (λ y. absurd (omega arith)) (λ y. absurd (omega arith)) (λ y. absurd (omega arith))
              (λ y. absurd (omega arith)) (λ y. absurd (omega arith))
              ∙ skips s 2 o n w ∙ after_same q (accept_and (answer n)) ∙ same z.0
          cases (suc (suc (suc (suc (suc (suc (suc i))))))) h = absurd (found.refused s o h)

      count_agrees : (p n : ℕ) → count_m s p n ≡ after p (counting (n + 1))
      unfolding count_m counting ◌when◌ ◌and◌ after
      count_agrees p n = elim (dec_lt n 512) [
        | yes h ↦ rw (lt-ltb n 512 h, le-ltb 512 (n + 1) (omega arith))
        | no h ↦ rw (le-ltb n 512 (omega arith), lt-ltb 512 (n + 1) (omega arith))
      ]

      action_agrees : (p n : ℕ) {src : Source} {f : Effect} {o q : ℕ} → source s p ≡ got src o →
          effect ts inner s o ≡ got f q → action_m d check s p n ≡ after q (counting (n + 1) >>= λ m. check_effect es f dep m)
      action_agrees p n {src} {f} {o} {q} a b =
          laws.assoc s p n count_m (skip_m 8) (by u8 (λ k. if eqb k 4 then choice_m d check else simple_m d k))
          ∙ next s count_m (skip_m 8 ⨾ by u8 (λ k. if eqb k 4 then choice_m d check else simple_m d k)) p n p q
          (counting (n + 1))
          (λ m. check_effect es f dep m)
          (count_agrees p n)
          (λ m. skip_then s 8 _ p m (source_wide s p a) ∙ effect_agrees o m f q b)

      -- at a depth at which lists may stand
      module _ (h : dep ≤ 16) where
        shallow : {A : Type 0} (x : Answer A) → (16 when ltb 16 dep and x) ≡ x
        unfolding ◌when◌ ◌and◌
        shallow x = rw (le-ltb 16 dep h)

        list_agrees : (i p n : ℕ) (a : Actions) (q : ℕ) → actions_of ts inner i s p ≡ got a q →
            times_m i (action_m d check) s p n ≡ after q (check_actions es a dep n)
        unfolding actions_of times_m stay after check_actions
        list_agrees zero p n a q e =
            let z = given _ _ _ e in
            ap (λ (x : ℕ). checked.To x n) z.1 ∙ after_same q (sym (shallow (answer n)))
            ∙ ap (λ (y : Actions). after q (check_actions es y dep n)) z.0
        list_agrees (suc i) p n a q e =
            let c = bound source _ e in
            let f = bound (effect ts inner) _ c.rest in
            let r = bound (actions_of ts inner i) _ f.rest in
            let z = given _ _ _ r.rest in
            next s (action_m d check) (times_m i (action_m d check)) p n f.next q
            (counting (n + 1) >>= λ m. check_effect es f.value dep m) (λ m. check_actions es r.value dep m)
            (action_agrees p n c.first f.first)
            (λ m. list_agrees i f.next m r.value q (r.first ∙ ap (got r.value) z.1))
            ∙ after_same q (bind_bind (counting (n + 1)) (λ m. check_effect es f.value dep m)
            (λ m. check_actions es r.value dep m) ∙ sym (shallow _))
            ∙ ap (λ (y : Actions). after q (check_actions es y dep n)) z.0

  -- depth 17 is refused, even when empty
  too_deep : (a : Actions) (n : ℕ) → check_actions es a 17 n ≡ refused 16
  unfolding check_actions ◌when◌ ◌and◌
  too_deep done n = refl
  too_deep (act src f rest) n = refl

  -- a list of actions at depth `dep`: below it lists may stand `left` deep
  pub actions_agree : (left dep : ℕ) → left + dep ≡ 17 → (p n : ℕ) (a : Actions) (q : ℕ) →
      actions ts (suc left) s p ≡ got a q → actions_m d left s p n ≡ after q (check_actions es a dep n)
  unfolding after actions actions_m
  actions_agree zero dep h p n a q e =
      let z : dep ≡ 17 = omega arith in
      laws.actions_none d s p n ∙ ap (after q) (sym (ap (λ (x : ℕ). check_actions es a x n) z ∙ too_deep a n))
  actions_agree (suc left) dep h p n a q e =
      let c = bound u16 (actions_of ts (actions ts (suc left))) e in
      by_got s u16 _ p n c.first
      ∙ list_agrees (actions ts (suc left)) (actions_m d left) dep (actions_agree left (dep + 1) (omega arith)) (omega arith)
      c.value c.next n a q c.rest
