-- The sets hold what the definition's lists name: the entities that invariants name, and those that an automation reads or
-- toggles.
use mathlib.Core.Path.{◌≡◌, refl, sym, ap, ◌∙◌, subst}
use mathlib.Core.Bool.{Bool, ◌||◌}
use mathlib.Core.List.{List, [], ◌∷◌}
use Prim.Native.Nat.{ℕ, zero, suc, ◌+◌, ◌<◌, ◌≤◌}
use native.Mathlib.Omega.{arith}
use native.Mathlib.Nat.{add-zero, zero-add}
use lib.ListN.{length, get_or}
use Rattle.texts.specs.Lists.{flat}
use Rattle.texts.specs.Texts.{Text, mem_t, sorted_t}
use Rattle.model_spec.specs.Model.{
  Entity,
  Effect,
  toggle,
  delay,
  condition,
  choose,
  wait,
  Automation,
  Invariant,
  never,
  guard,
  transition,
  response,
}
use Rattle.model_spec.specs.File.{got, Reader, ◌>>=◌, give, refuse, u8, u32, counted, place, predicate, invariant}
use Rattle.model_walk.proofs.Found.{bound, given, Wide, wide_sum, u8_wide, u16_wide, Kind, kind_found, place_found}
use Rattle.model_walk.proofs.Found as found
use Rattle.model_parts.specs.declared.Section.{Section}
use Rattle.model_parts.specs.Stand.{Reads}
use Rattle.model_index.specs.Indexed.{Holds}
use Rattle.lint_spec.specs.Touches.{Action, toggles, predicate_reads, reads_of, toggles_of}
use Rattle.lint_spec.specs.Touches as touches
use Rattle.lint_reach.specs.Sets.{holds}
use Rattle.lint_reach.proofs.Bits.{holds_none}
use Rattle.lint_walk.specs.declared.Walk.{Walk}
use Rattle.lint_walk.specs.Raw.{kind_m}
use Rattle.lint_walk.proofs.Found.{
  past_is,
  byte_got,
  place_got,
  predicate_found,
  predicate_ends,
  EffectAt,
  set_at,
  toggle_at,
  delay_at,
  condition_at,
  choose_at,
  wait_at,
  unknown_at,
  ActionAt,
  RuleAt,
}
use Rattle.lint_walk.proofs.Refines.{Walked}
use Rattle.lint_access.specs.Names.{name_at}
use Rattle.lint_access.specs.Sets.{Adds, over, add_entity_m, add_predicate_m, add_predicates_m, reads_m}
use Rattle.lint_access.proofs.Rising.{mem_append, mem_sorted}
use Rattle.lint_access.proofs.Refines.{
  Grounds,
  Inside,
  mem_n,
  mem_in,
  Puts,
  puts_none,
  puts_then,
  puts_same,
  puts_list,
  stays_out,
  puts_entity,
  predicate_puts,
  predicates_put,
  over_all,
  reads_hold,
  reads_inside,
}
use Rattle.cone_spec.specs.Cone.{names, needs}
use Rattle.cone_sets.specs.Sets.{add_named_m, named_m, add_toggle_m, needs_m}
use Rattle.cone_sets.proofs.Laws as laws

invariant_kinds : List Text → List (Reader Invariant)
invariant_kinds ts =
    (place ts >>= λ id. counted (predicate ts) >>= λ ps. give (never id ps))
    ∷ (place ts >>= λ id. place ts >>= λ e. place ts >>= λ v. counted (predicate ts) >>= λ ps. give (guard id e v ps))
    ∷ (place ts >>= λ id. place ts >>= λ e. place ts >>= λ f. place ts >>= λ t. give (transition id e f t))
    ∷ (place ts >>= λ id. predicate ts >>= λ a. predicate ts >>= λ b. u32 >>= λ n. give (response id a b n))
    ∷ []

module _ (s : List ℕ) (e : Section) (ts : List Text) (es : List Entity) (g : Grounds s e ts es) where
  abbrev P : Adds → List Text → Type 0
  P f l = Puts s e ts es g f l

  -- ---- invariants

  named_puts : (p : ℕ) (a : Invariant) (q : ℕ) → invariant ts s p ≡ got a q → P (add_named_m s e p) (names a)
  unfolding invariant invariant_kinds names
  named_puts p a q b = cases k.kind k.is_kind k.holds
    where
      k : Kind (invariant_kinds ts) s p a q
      k = kind_found (invariant_kinds ts) b

      o : ℕ
      o = k.next

      says : (c : Invariant) → c ≡ a → P (add_named_m s e p) (names c) → P (add_named_m s e p) (names a)
      says c z h = puts_list s e ts es g (add_named_m s e p) (names c) (names a) (ap names z) h

      cases : (i : ℕ) → u8 s p ≡ got i o → get_or (invariant_kinds ts) i refuse s o ≡ got a q → P (add_named_m s e p) (names a)
      cases zero d h =
          let i = bound (place ts) _ h in
          let c = bound (counted (predicate ts)) _ i.rest in
          let w₃ : Wide 3 s p i.next = wide_sum (u8_wide s p d) (u16_wide s o (place_found ts i.first).is_place) in
          says _ (given _ _ _ c.rest).0
          (puts_same s e ts es g (add_predicates_m s e i.next) (add_named_m s e p) _
          (λ set. laws.named_0 s e p set (sym (byte_got s p d)) (sym (past_is s w₃)) refl)
          (predicates_put s e ts es g i.next c.value c.next c.first))
      cases (suc zero) d h =
          let i = bound (place ts) _ h in
          let y = bound (place ts) _ i.rest in
          let u = bound (place ts) _ y.rest in
          let c = bound (counted (predicate ts)) _ u.rest in
          let f = place_found ts y.first in
          let w₃ : Wide 3 s p i.next = wide_sum (u8_wide s p d) (u16_wide s o (place_found ts i.first).is_place) in
          let w₅ : Wide 5 s p y.next = wide_sum w₃ (u16_wide s i.next f.is_place) in
          let w₇ : Wide 7 s p u.next = wide_sum w₅ (u16_wide s y.next (place_found ts u.first).is_place) in
          says _ (given _ _ _ c.rest).0
          (puts_same s e ts es g (λ set. add_predicates_m s e u.next (add_entity_m s e f.at set)) (add_named_m s e p) _
          (λ set. laws.named_1 s e p set (sym (byte_got s p d)) (sym (past_is s w₃)) (λ z. omega arith) refl
          (sym (place_got s i.next f.is_place)) refl (sym (past_is s w₇)))
          (puts_then s e ts es g (add_entity_m s e f.at) (add_predicates_m s e u.next) (y.value ∷ []) _
          (puts_list s e ts es g (add_entity_m s e f.at) _ _ (ap (λ (t : Text). t ∷ []) (sym f.is_text))
          (puts_entity s e ts es g f.at f.is_in))
          (predicates_put s e ts es g u.next c.value c.next c.first)))
      cases (suc (suc zero)) d h =
          let i = bound (place ts) _ h in
          let y = bound (place ts) _ i.rest in
          let u = bound (place ts) _ y.rest in
          let t = bound (place ts) _ u.rest in
          let f = place_found ts y.first in
          let w₃ : Wide 3 s p i.next = wide_sum (u8_wide s p d) (u16_wide s o (place_found ts i.first).is_place) in
          says _ (given _ _ _ t.rest).0
          (puts_same s e ts es g (add_entity_m s e f.at) (add_named_m s e p) _
          (λ set. laws.named_2 s e p set (sym (byte_got s p d)) (sym (past_is s w₃)) (λ z. omega arith) (λ z. omega arith)
          refl (sym (place_got s i.next f.is_place)))
          (puts_list s e ts es g (add_entity_m s e f.at) _ _ (ap (λ (t : Text). t ∷ []) (sym f.is_text))
          (puts_entity s e ts es g f.at f.is_in)))
      cases (suc (suc (suc zero))) d h =
          let i = bound (place ts) _ h in
          let y = bound (predicate ts) _ i.rest in
          let u = bound (predicate ts) _ y.rest in
          let t = bound u32 _ u.rest in
          let a₁ = predicate_found ts s y.first in
          let a₂ = predicate_found ts s u.first in
          let w₃ : Wide 3 s p i.next = wide_sum (u8_wide s p d) (u16_wide s o (place_found ts i.first).is_place) in
          says _ (given _ _ _ t.rest).0
          (puts_same s e ts es g (λ set. add_predicate_m s e y.next (add_predicate_m s e i.next set)) (add_named_m s e p)
          _
          (λ set. laws.named_else s e p set (sym (byte_got s p d)) (sym (past_is s w₃)) (λ z. omega arith)
          (λ z. omega arith)
          (λ z. omega arith) refl (sym (predicate_ends ts s a₁)))
          (puts_then s e ts es g (add_predicate_m s e i.next) (add_predicate_m s e y.next) (predicate_reads y.value)
          (predicate_reads u.value)
          (predicate_puts s e ts es g i.next y.next y.value a₁)
          (predicate_puts s e ts es g y.next u.next u.value a₂)))
      cases (suc (suc (suc (suc i)))) d h = absurd (found.refused s o h)

  -- parts that stand at the positions of a section
  puts_stand : (d : Invariant) (starts : List ℕ) (l : List Invariant) (k : ℕ)
      → ((j : ℕ) → j < length l → Reads (invariant ts) s (get_or starts (k + j) 0) (get_or l j d))
      → P (over (add_named_m s e) starts (length l) k) (flat names l)
  unfolding over flat
  puts_stand d starts [] k m = puts_none s e ts es g
  puts_stand d starts (a ∷ l) k m =
      let r = m 0 (omega arith) in
      let z : get_or starts (k + 0) 0 ≡ get_or starts k 0 = ap (λ (i : ℕ). get_or starts i 0) (add-zero k) in
      let f : P (add_named_m s e (get_or starts k 0)) (names a)
      = subst (λ (p : ℕ). P (add_named_m s e p) (names a)) z (named_puts (get_or starts (k + 0) 0) a r.0 r.1) in
      puts_then s e ts es g (add_named_m s e (get_or starts k 0)) (over (add_named_m s e) starts (length l) (k + 1)) (names a)
      (flat names l) f
      (puts_stand d starts l (k + 1) (λ j b.
      let y : k + suc j ≡ k + 1 + j = omega arith in
      subst (λ (i : ℕ). Reads (invariant ts) s (get_or starts i 0) (get_or l j d)) y (m (suc j) (omega arith))))

  module _ (is : Section) (l : List Invariant) (h : Holds (invariant ts) s is l) (few : length l ≤ 32) where
    named_all : P (over (add_named_m s e) is.starts is.count 0) (flat names l)
    named_all =
        subst (λ (n : ℕ). P (over (add_named_m s e) is.starts n 0) (flat names l)) (sym h.counts)
        (puts_stand (never [] []) is.starts l 0 (λ j b.
        subst (λ (k : ℕ). Reads (invariant ts) s (get_or is.starts k 0) (get_or l j (never [] []))) (sym (zero-add j))
        (h.stand (never [] []) j (omega arith) b)))

    pub named_holds : (j : ℕ) → j < length es → holds (named_m s e is) j ≡ mem_t (name_at es j) (flat names l)
    unfolding Puts named_m
    named_holds j b =
        named_all 0 j
        ∙ ap (λ (x : Bool). x || mem_n s e ts es g j (flat names l)) (holds_none j)
        ∙ mem_in s e ts es g j (flat names l) b

    pub named_inside : Inside s e ts es g (named_m s e is)
    unfolding Inside named_m
    named_inside j b k = stays_out s e ts es g _ _ named_all 0 j b (holds_none j)

  -- ---- automations

  toggle_none : (p k : ℕ) → kind_m s p ≡ k → (k ≡ 1 → ⊥) → P (add_toggle_m s e p) []
  toggle_none p k d h = puts_same s e ts es g (λ set. set) (add_toggle_m s e p) [] (λ set. laws.toggle_no s e p set (sym d) h)
      (puts_none s e ts es g)

  toggle_puts : (p : ℕ) (a : Action) → ActionAt ts s p a → P (add_toggle_m s e p) (toggles a.effect)
  unfolding toggles
  toggle_puts p a f = cases a.effect f.effect_at
    where
      cases : (x : Effect) → EffectAt ts s f.left p f.end x → P (add_toggle_m s e p) (toggles x)
      cases (Effect.set x v) (set_at x' v' k i j m n o) = toggle_none p 0 k (λ z. omega arith)
      cases (toggle x) (toggle_at x' k i m o) =
          puts_same s e ts es g (add_entity_m s e x') (add_toggle_m s e p) _
          (λ set. laws.toggle_yes s e p set (sym k) refl refl (sym i))
          (puts_entity s e ts es g x' m)
      cases (delay x) (delay_at x' k o) = toggle_none p 2 k (λ z. omega arith)
      cases (condition x) (condition_at x' k i o) = toggle_none p 3 k (λ z. omega arith)
      cases (choose bs d) (choose_at bs' d' n r k c b t) = toggle_none p 4 k (λ z. omega arith)
      cases (wait t y z) (wait_at t' y' z' r k i o) = toggle_none p 5 k (λ z. omega arith)
      cases (Effect.unknown x) (unknown_at x' k i m o) = toggle_none p 6 k (λ z. omega arith)

  module _ (p : ℕ) (w : Walk) (r : Automation) (f : RuleAt ts s p r) (k : Walked ts s w r) where
    toggles_all : P (over (add_toggle_m s e) w.list w.count 0) (flat (λ a. toggles a.effect) (touches.actions_of r))
    toggles_all = over_all s e ts es g p w r f k (add_toggle_m s e) (λ a. toggles a.effect) toggle_puts

    pub needs_hold : (j : ℕ) → j < length es → holds (needs_m s e p w) j ≡ mem_t (name_at es j) (needs r)
    unfolding Puts needs_m needs toggles_of
    needs_hold j b =
        let l = flat (λ a. toggles a.effect) (touches.actions_of r) in
        toggles_all (reads_m s e p w) j
        ∙ ap (λ (x : Bool). x || mem_n s e ts es g j l) (reads_hold s e ts es g p w r f k j b)
        ∙ ap (λ (x : Bool). mem_t (name_at es j) (reads_of r) || x)
        (mem_in s e ts es g j l b ∙ sym (mem_sorted (name_at es j) l))
        ∙ sym (mem_append (name_at es j) (reads_of r) (sorted_t l))

    pub needs_inside : Inside s e ts es g (needs_m s e p w)
    unfolding Inside needs_m
    needs_inside j b c = stays_out s e ts es g _ _ toggles_all (reads_m s e p w) j b (reads_in j b c)
      where
        reads_in : Inside s e ts es g (reads_m s e p w)
        reads_in = reads_inside s e ts es g p w r f k
