-- The tests over actions, invariants and entities.
use Rattle.std.specs.Prelude.{if◌then◌else◌}
use mathlib.Core.Path.{◌≡◌, refl, sym, ap, ◌∙◌, subst}
use mathlib.Core.Bool.{Bool, true, false, ◌||◌, ◌&&◌, not}
use mathlib.Core.List.{List, [], ◌∷◌}
use mathlib.Core.Option.{Option, none, some}
use Prim.Native.Nat.{ℕ, zero, suc, ◌+◌, ◌*◌, ◌-◌, ◌<◌, ◌≤◌}
use native.Mathlib.Omega.{arith}
use native.Mathlib.Nat.{add-zero, zero-add}
use lib.Dec.{eqb}
use lib.ListN.{length, get_or}
use lib.Seq.{get_or-take}
use Rattle.texts.specs.Lists.{absent, any}
use Rattle.texts.specs.Texts.{Text, eq_t}
use Rattle.model_spec.specs.Model.{
  Tier,
  observational,
  comfort,
  property,
  access_safety,
  Entity,
  Effect,
  toggle,
  delay,
  condition,
  choose,
  wait,
  Automation,
  Invariant,
  never,
  guard,
  transition,
  response,
}
use Rattle.model_spec.specs.File.{
  got,
  Reader,
  ◌>>=◌,
  give,
  refuse,
  u8,
  u32,
  counted,
  times,
  number?,
  tier,
  place,
  predicate,
  entity,
  invariant,
}
use Rattle.model_walk.proofs.Found.{
  bound,
  given,
  Wide,
  wide_sum,
  u8_wide,
  u16_wide,
  counted_found,
  Kind,
  kind_found,
  place_found,
}
use Rattle.model_walk.proofs.Found as found
use Rattle.model_parts.specs.declared.Section.{Section}
use Rattle.model_parts.proofs.Stands.{more}
use Rattle.model_parts.specs.Stand.{Reads, Stand}
use Rattle.lint_spec.specs.Touches.{Action, is_delay, Write}
use Rattle.lint_spec.specs.Touches as touches
use Rattle.lint_spec.specs.Findings.{is_star, guards, opposed, rank}
use Rattle.lint_walk.specs.declared.Walk.{Walk}
use Rattle.lint_walk.specs.Raw.{byte_m, place_m, number_m, past, kind_m}
use Rattle.lint_walk.proofs.Found.{
  past_is,
  byte_got,
  place_got,
  number_got,
  EffectAt,
  set_at,
  toggle_at,
  delay_at,
  condition_at,
  choose_at,
  wait_at,
  unknown_at,
  ActionAt,
}
use Rattle.lint_walk.proofs.Refines.{ActionsAt, no_action, action, Walked}
use Rattle.lint_conditions.specs.Conditions.{any_list_m, delays_m, guard_m, guarded_m, tier_m, stale_m, opposed_m}
use Rattle.lint_conditions.proofs.Laws as laws
use Rattle.lint_conditions.proofs.Refines.{or_is}

-- ---- opposing writes

pub opposed_agrees : (star x v y u : ℕ) (a b : Write) → eqb x y ≡ eq_t a.entity b.entity →
    eqb v u ≡ eq_t a.value b.value → eqb v star ≡ is_star a.value → opposed_m star x v y u ≡ opposed a b
unfolding opposed_m opposed
opposed_agrees star x v y u a b d e f = rw (d, e, f)
    (go (eq_t a.entity b.entity) (eq_t a.value b.value) (is_star a.value))
  where
    go : (p q r : Bool) → (if p then (if q then r else true) else false) ≡ (p && (not q || r))
    go true true r = refl
    go true false r = refl
    go false q r = refl

module _ (ts : List Text) (s : List ℕ) where
  -- ---- delays

  any_actions : (f : ℕ → Bool) (t : Action → Bool) → ((p : ℕ) (a : Action) → ActionAt ts s p a → f p ≡ t a) →
      (l : List ℕ) (k : ℕ) (ps : List ℕ) (acts : List Action) → ((i : ℕ) → i < length ps → get_or l (k + i) 0 ≡ get_or ps i 0) →
      ActionsAt ts s ps acts → any_list_m f l (length ps) k ≡ any t acts
  unfolding any_list_m any
  any_actions f t h l k ps acts m no_action = refl
  any_actions f t h l k ps acts m (action {p} {a} {ps = qs} {l = rest} x y) =
      let n : get_or l k 0 ≡ p = ap (λ (i : ℕ). get_or l i 0) (sym (add-zero k)) ∙ m 0 (omega arith) in
      or_is (f (get_or l k 0)) (any_list_m f l (length qs) (k + 1))
      ∙ ap (λ (b : Bool). b || any_list_m f l (length qs) (k + 1)) (ap f n ∙ h p a x)
      ∙ ap (λ (b : Bool). t a || b) (any_actions f t h l (k + 1) qs rest
      (λ i b. ap (λ (o : ℕ). get_or l o 0) (omega arith) ∙ m (suc i) (omega arith)) y)

  delay_agrees : (p : ℕ) (a : Action) → ActionAt ts s p a → eqb (kind_m s p) 2 ≡ is_delay a.effect
  unfolding is_delay
  delay_agrees p a f = cases a.effect f.effect_at
    where
      cases : (x : Effect) → EffectAt ts s f.left p f.end x → eqb (kind_m s p) 2 ≡ is_delay x
      cases (Effect.set x v) (set_at x' v' k i j m n o) = rw k
      cases (toggle x) (toggle_at x' k i m o) = rw k
      cases (delay x) (delay_at x' k o) = rw k
      cases (condition x) (condition_at x' k i o) = rw k
      cases (choose bs d) (choose_at bs' d' n r k c b t) = rw k
      cases (wait t y z) (wait_at t' y' z' r k i o) = rw k
      cases (Effect.unknown x) (unknown_at x' k i m o) = rw k

  pub delays_agree : (w : Walk) (r : Automation) → Walked ts s w r →
      delays_m s w ≡ any (λ a. is_delay a.effect) (touches.actions_of r)
  delays_agree w r k =
      laws.delays_is s w
      ∙ ap (λ (n : ℕ). any_list_m (λ p. eqb (kind_m s p) 2) w.list n 0) k.filled.many
      ∙ any_actions (λ p. eqb (kind_m s p) 2) (λ a. is_delay a.effect) delay_agrees w.list 0 k.positions
      (touches.actions_of r)
      (λ i h. ap (λ (o : ℕ). get_or w.list o 0) (zero-add i) ∙ sym (get_or-take (length k.positions) w.list i 0 h)
      ∙ ap (λ (l : List ℕ). get_or l i 0) k.filled.front)
      k.are_actions

  -- ---- entities

  tier_kinds : List (Reader Tier)
  tier_kinds = give observational ∷ give comfort ∷ give property ∷ give access_safety ∷ []

  tier_rank : (p : ℕ) (t : Tier) (q : ℕ) → tier s p ≡ got t q → (byte_m s p ≡ rank t) × Wide 1 s p q
  unfolding tier tier_kinds rank
  tier_rank p t q e = cases k.kind k.is_kind k.holds
    where
      k : Kind tier_kinds s p t q
      k = kind_found tier_kinds e

      done : (i : ℕ) (x : Tier) → u8 s p ≡ got i k.next → give x s k.next ≡ got t q → i ≡ rank x →
          (byte_m s p ≡ rank t) × Wide 1 s p q
      done i x d h z =
          let g = given _ _ _ h in
          (byte_got s p d ∙ z ∙ ap rank g.0, subst (Wide 1 s p) g.1 (u8_wide s p d))

      cases : (i : ℕ) → u8 s p ≡ got i k.next → get_or tier_kinds i refuse s k.next ≡ got t q →
          (byte_m s p ≡ rank t) × Wide 1 s p q
      cases zero d h = done 0 observational d h refl
      cases (suc zero) d h = done 1 comfort d h refl
      cases (suc (suc zero)) d h = done 2 property d h refl
      cases (suc (suc (suc zero))) d h = done 3 access_safety d h refl
      cases (suc (suc (suc (suc i)))) d h = absurd (found.refused s k.next h)

  stale_number : (p : ℕ) (o : Option ℕ) (q : ℕ) → number? s p ≡ got o q → not (eqb (number_m s p) 4294967295) ≡ not (absent o)
  unfolding number? absent
  stale_number p o q e =
      let b = bound u32 _ e in
      let g = given _ _ _ b.rest in
      rw (number_got s p b.first) (go (eqb b.value 4294967295) b.value
      ∙ ap (λ (x : Option ℕ). not (absent x)) g.0)
    where
      go : (c : Bool) (n : ℕ) → not c ≡ not (absent (if c then none else some n))
      go true n = refl
      go false n = refl

  -- places that were read take two bytes each
  places_wide : (n p : ℕ) (l : List Text) (q : ℕ) → p ≤ length s → times n (place ts) s p ≡ got l q → Wide (2 * n) s p q
  unfolding times
  places_wide zero p l q b e = let z = (given _ _ _ e).1 in record { ends = omega arith; inside = omega arith }
  places_wide (suc n) p l q b e =
      let m = more (place ts) s n p e in
      let w = u16_wide s p (place_found ts m.is_first).is_place in
      let v = places_wide n m.after m.others q (omega (arith, w.ends, w.inside)) m.are_others in
      let z : 2 * suc n ≡ 2 + 2 * n = omega arith in
      rw z (wide_sum w v)

  pub entity_agrees : (p : ℕ) (e : Entity) (q : ℕ) → entity ts s p ≡ got e q →
      (tier_m s p ≡ rank e.tier) × (stale_m s p ≡ not (absent e.stale_after))
  unfolding entity
  entity_agrees p e q h =
      let x = bound (place ts) _ h in
      let d = bound (counted (place ts)) _ x.rest in
      let i = bound (place ts) _ d.rest in
      let t = bound tier _ i.rest in
      let a = bound number? _ t.rest in
      let g = given _ _ _ a.rest in
      let w₁ = u16_wide s p (place_found ts x.first).is_place in
      let c = counted_found (place ts) d.first in
      let w₂ = u16_wide s x.next c.is_count in
      let w₃ = places_wide c.count c.start d.value d.next (omega (arith, w₂.ends, w₂.inside))
      c.are_values in
      let w₄ = u16_wide s d.next (place_found ts i.first).is_place in
      let r = tier_rank i.next t.value t.next t.first in
      let v₁ : Wide (2 * c.count + 2) s c.start i.next = wide_sum w₃ w₄ in
      let v₂ : Wide (2 * c.count + 3) s c.start t.next = let z : 2 * c.count + 3 ≡ 2 * c.count + 2 + 1 =
      omega arith in rw z (wide_sum v₁ r.1) in (
        sym (laws.tier_is s p (sym (past_is s w₁)) (sym (place_got s x.next c.is_count)) (sym (past_is s w₂)))
            ∙ ap (byte_m s) (past_is s v₁) ∙ r.0 ∙ ap (λ (y : Entity). rank y.tier) g.0,
        sym (laws.stale_at s p (sym (past_is s w₁)) (sym (place_got s x.next c.is_count)) (sym (past_is s w₂))
            refl refl)
            ∙ ap (λ (n : ℕ). not (eqb (number_m s n) 4294967295)) (past_is s v₂)
            ∙ stale_number t.next a.value a.next a.first
            ∙ ap (λ (y : Entity). not (absent y.stale_after)) g.0,
      )

  -- ---- invariants

  invariant_kinds : List (Reader Invariant)
  invariant_kinds =
      (place ts >>= λ id. counted (predicate ts) >>= λ ps. give (never id ps))
      ∷ (place ts >>= λ id. place ts >>= λ e. place ts >>= λ v. counted (predicate ts) >>= λ ps. give (guard id e v ps))
      ∷ (place ts >>= λ id. place ts >>= λ e. place ts >>= λ f. place ts >>= λ t. give (transition id e f t))
      ∷ (place ts >>= λ id. predicate ts >>= λ a. predicate ts >>= λ b. u32 >>= λ n. give (response id a b n))
      ∷ []

  module _ (same : (i j : ℕ) → i < length ts → j < length ts → eq_t (get_or ts i []) (get_or ts j []) ≡ eqb i j) (x v : ℕ)
      (hx : x < length ts) (hv : v < length ts) where
    guard_no : (p k : ℕ) → byte_m s p ≡ k → (k ≡ 1 → ⊥) → guard_m s x v p ≡ false
    guard_no p k d h = laws.guard_other s x v p (sym d) h

    guard_is : (p : ℕ) → byte_m s p ≡ 1 → guard_m s x v p
        ≡ (if eqb (place_m s (past s p 3)) x then eqb (place_m s (past s p 5)) v else false)
    unfolding guard_m
    guard_is p d = rw d

    pub guard_agrees : (p : ℕ) (a : Invariant) (q : ℕ) → invariant ts s p ≡ got a q →
        guard_m s x v p ≡ guards (get_or ts x []) (get_or ts v []) a
    unfolding invariant invariant_kinds guards
    guard_agrees p a q e = cases k.kind k.is_kind k.holds
      where
        k : Kind invariant_kinds s p a q
        k = kind_found invariant_kinds e

        o : ℕ
        o = k.next

        says : (b : Invariant) → b ≡ a → guard_m s x v p ≡ guards (get_or ts x []) (get_or ts v []) b →
            guard_m s x v p ≡ guards (get_or ts x []) (get_or ts v []) a
        says b z g = g ∙ ap (guards (get_or ts x []) (get_or ts v [])) z

        if_and : (c d : Bool) → (if c then d else false) ≡ (c && d)
        if_and true d = refl
        if_and false d = refl

        cases : (i : ℕ) → u8 s p ≡ got i o → get_or invariant_kinds i refuse s o ≡ got a q →
            guard_m s x v p ≡ guards (get_or ts x []) (get_or ts v []) a
        cases zero d h =
            let i = bound (place ts) _ h in
            let c = bound (counted (predicate ts)) _ i.rest in
            says _ (given _ _ _ c.rest).0 (guard_no p 0 (byte_got s p d) (λ z. omega arith))
        cases (suc zero) d h =
            let i = bound (place ts) _ h in
            let y = bound (place ts) _ i.rest in
            let u = bound (place ts) _ y.rest in
            let c = bound (counted (predicate ts)) _ u.rest in
            let f = place_found ts y.first in
            let g = place_found ts u.first in
            let w₁ = u8_wide s p d in
            let w₃ : Wide 3 s p i.next = wide_sum w₁ (u16_wide s o (place_found ts i.first).is_place) in
            let w₅ : Wide 5 s p y.next = wide_sum w₃ (u16_wide s i.next f.is_place) in
            let ye : place_m s (past s p 3) ≡ f.at = ap (place_m s) (past_is s w₃) ∙ place_got s i.next f.is_place in
            let ue : place_m s (past s p 5) ≡ g.at = ap (place_m s) (past_is s w₅) ∙ place_got s y.next g.is_place in
            says _ (given _ _ _ c.rest).0 (
            guard_is p (byte_got s p d)
            ∙ ap (λ (m : ℕ). if eqb m x then eqb (place_m s (past s p 5)) v else false) ye
            ∙ ap (λ (m : ℕ). if eqb f.at x then eqb m v else false) ue
            ∙ if_and (eqb f.at x) (eqb g.at v)
            ∙ ap (λ (b : Bool). b && eqb g.at v) (sym (same f.at x f.is_in hx)
            ∙ ap (λ (t : Text). eq_t t (get_or ts x [])) (sym f.is_text))
            ∙ ap (λ (b : Bool). eq_t y.value (get_or ts x []) && b)
            (sym (same g.at v g.is_in hv) ∙ ap (λ (t : Text). eq_t t (get_or ts v [])) (sym g.is_text)))
        cases (suc (suc zero)) d h =
            let i = bound (place ts) _ h in
            let y = bound (place ts) _ i.rest in
            let u = bound (place ts) _ y.rest in
            let t = bound (place ts) _ u.rest in
            says _ (given _ _ _ t.rest).0 (guard_no p 2 (byte_got s p d) (λ z. omega arith))
        cases (suc (suc (suc zero))) d h =
            let i = bound (place ts) _ h in
            let y = bound (predicate ts) _ i.rest in
            let u = bound (predicate ts) _ y.rest in
            let t = bound u32 _ u.rest in
            says _ (given _ _ _ t.rest).0 (guard_no p 3 (byte_got s p d) (λ z. omega arith))
        cases (suc (suc (suc (suc i)))) d h = absurd (found.refused s o h)

    -- parts that stand at the positions of a section
    any_stand : (f : ℕ → Bool) (t : Invariant → Bool) →
        ((p : ℕ) (a : Invariant) (q : ℕ) → invariant ts s p ≡ got a q → f p ≡ t a) →
        (d : Invariant) (starts : List ℕ) (l : List Invariant) (k : ℕ) →
        ((j : ℕ) → j < length l → Reads (invariant ts) s (get_or starts (k + j) 0) (get_or l j d)) →
        any_list_m f starts (length l) k ≡ any t l
    unfolding any_list_m any
    any_stand f t h d starts [] k m = refl
    any_stand f t h d starts (a ∷ l) k m =
        let r = m 0 (omega arith) in
        let z : get_or starts (k + 0) 0 ≡ get_or starts k 0 = ap (λ (i : ℕ). get_or starts i 0) (add-zero k) in
        or_is (f (get_or starts k 0)) (any_list_m f starts (length l) (k + 1))
        ∙ ap (λ (b : Bool). b || any_list_m f starts (length l) (k + 1))
        (ap f (sym z) ∙ h (get_or starts (k + 0) 0) a r.0 r.1)
        ∙ ap (λ (b : Bool). t a || b) (any_stand f t h d starts l (k + 1) (λ j g.
        let y : k + suc j ≡ k + 1 + j = omega arith in
        subst (λ (i : ℕ). Reads (invariant ts) s (get_or starts i 0) (get_or l j d)) y (m (suc j) (omega arith))))

    -- a guard of the entity and the value stands among the invariants
    pub guarded_agrees : (i : Section) (l : List Invariant) → i.count ≡ length l → length l ≤ 100 →
        Stand (invariant ts) s i.starts l → guarded_m s i x v ≡ any (guards (get_or ts x []) (get_or ts v [])) l
    guarded_agrees i l c few st =
        laws.guarded_is s i x v
        ∙ ap (λ (n : ℕ). any_list_m (guard_m s x v) i.starts n 0) c
        ∙ any_stand (guard_m s x v) (guards (get_or ts x []) (get_or ts v [])) guard_agrees (never [] []) i.starts l 0
        (λ j h. subst (λ (k : ℕ). Reads (invariant ts) s (get_or i.starts k 0) (get_or l j (never [] []))) (sym (zero-add j))
        (st (never [] []) j (omega arith) h))
