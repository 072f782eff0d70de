-- The action at a position is the one that the reader `actions_of` finds there, and the next one stands after it.
-- A list that was read at some depth is read the same at every greater one.
use Rattle.std.specs.Prelude.{if◌then◌else◌}
use mathlib.Core.Path.{◌≡◌, refl, sym, ap, ◌∙◌}
use mathlib.Core.List.{List, [], ◌∷◌}
use mathlib.Core.Bool.{Bool, true, false}
use Prim.Native.Nat.{ℕ, zero, suc, ◌+◌, ◌≤◌, ◌<◌}
use native.Mathlib.Omega.{arith}
use lib.ListN.{length, get_or}
use lib.Dec.{eqb}
use Rattle.texts.specs.Texts.{Text}
use Rattle.model_spec.specs.Model.{
  Source,
  Predicate,
  Trigger,
  Effect,
  toggle,
  delay,
  condition,
  choose,
  wait,
  Actions,
  act,
  Branches,
  Model,
}
use Rattle.model_spec.specs.File.{
  got,
  Reader,
  give,
  refuse,
  u8,
  u16,
  u32,
  kinds,
  counted,
  flag,
  source,
  place,
  predicate,
  trigger,
  branches,
  effect,
  actions_of,
  actions,
  effect_kinds,
}
use Rattle.model_spec.specs.Notes.{of_effect}
use Rattle.model_walk.specs.Walk.{Walked, seen, capped, by, actions_m, choice_m, simple_m}
use Rattle.model_walk.proofs.Laws.{bind_got}
use Rattle.model_walk.proofs.Refines.{marks, sees_actions, sees_effect, sees_flag}
use Rattle.model_walk.proofs.Found.{bound, given, u8_wide, u16_wide, u32_wide, kind_wide, Kind, kind_found, place_found}
use Rattle.model_walk.proofs.Found as found
use Rattle.engine_fields.specs.Fields.{two, four}
use Rattle.engine_state.specs.Machine.{later}
use Rattle.engine_evaluate.specs.Evaluate.{size_m, end_m}
use Rattle.engine_evaluate.specs.Actions.{effect_m, after_m, action_m}
use Rattle.engine_evaluate.specs.declared.Effect.{Effect as AEffect}
use Rattle.engine_evaluate.specs.declared.Effect.TheVariants as effects
use Rattle.engine_refinement.specs.Meaning.{Tabled}
use Rattle.engine_refinement.proofs.Numbers.{byte_is, two_is, four_is, later_is, cap_is, source_is}
use Rattle.engine_refinement.proofs.Evaluate as truths

-- ---- depths

module _ (ts : List Text) (f : List ℕ) where
  -- what r finds, s finds too
  abbrev Finds : {A : Type 0} → (r s : Reader A) → Type 0
  Finds {A} r s = (p : ℕ) (a : A) (q : ℕ) → r f p ≡ got a q → s f p ≡ got a q

  module _ (r s : Reader Actions) (h : Finds r s) where
    branches_more : (n : ℕ) → Finds (branches ts r n) (branches ts s n)
    unfolding branches
    branches_more zero p b q e = e
    branches_more (suc n) p b q e =
        let c = bound (counted (predicate ts)) _ e in
        let a = bound r _ c.rest in
        let o = bound (branches ts r n) _ a.rest in
        bind_got (counted (predicate ts)) _ c.first
        ∙ bind_got s _ (h c.next a.value a.next a.first)
        ∙ bind_got (branches ts s n) _ (branches_more n a.next o.value o.next o.first)
        ∙ o.rest

    effect_more : Finds (effect ts r) (effect ts s)
    unfolding effect kinds
    effect_more p b q e = bind_got u8 _ k.is_kind ∙ cases k.kind k.holds
      where
        k : Kind (effect_kinds ts r) f p b q
        k = kind_found (effect_kinds ts r) e

        cases : (i : ℕ) → get_or (effect_kinds ts r) i refuse f k.next ≡ got b q →
            get_or (effect_kinds ts s) i refuse f k.next ≡ got b q
        cases zero g = g
        cases (suc zero) g = g
        cases (suc (suc zero)) g = g
        cases (suc (suc (suc zero))) g = g
        cases (suc (suc (suc (suc zero)))) g =
            let c = bound u16 _ g in
            let o = bound (branches ts r c.value) _ c.rest in
            let a = bound r _ o.rest in
            bind_got u16 _ c.first
            ∙ bind_got (branches ts s c.value) _ (branches_more c.value c.next o.value o.next o.first)
            ∙ bind_got s _ (h o.next a.value a.next a.first)
            ∙ a.rest
        cases (suc (suc (suc (suc (suc zero))))) g = g
        cases (suc (suc (suc (suc (suc (suc zero)))))) g = g
        cases (suc (suc (suc (suc (suc (suc (suc i))))))) g = g

    pub list_more : (n : ℕ) → Finds (actions_of ts r n) (actions_of ts s n)
    unfolding actions_of
    list_more zero p b q e = e
    list_more (suc n) p b q e =
        let c = bound source _ e in
        let a = bound (effect ts r) _ c.rest in
        let o = bound (actions_of ts r n) _ a.rest in
        bind_got source _ c.first
        ∙ bind_got (effect ts s) _ (effect_more c.next a.value a.next a.first)
        ∙ bind_got (actions_of ts s n) _ (list_more n a.next o.value o.next o.first)
        ∙ o.rest

  pub deeper : (d : ℕ) → Finds (actions ts d) (actions ts (suc d))
  unfolding actions
  deeper zero p b q e = absurd (found.refused f p e)
  deeper (suc d) p b q e =
      let c = bound u16 _ e in
      bind_got u16 _ c.first ∙ list_more (actions ts d) (actions ts (suc d)) (deeper d) c.value c.next b q c.rest

-- ---- actions
module _ (f x : List ℕ) (ts : List Text) (mo : Model) (tb : Tabled f x ts mo) where
  abbrev T : ℕ → Text
  T v = get_or ts v []

  -- the effect that the machine reads is the definition's
  pub data Acts (m : AEffect) (g : Effect) : Type 0 where
    sets : (e v : ℕ) → e < length ts → v < length ts → m ≡ effects.Set e v → g ≡ Effect.set (T e) (T v) → Acts m g
    toggles : (e : ℕ) → e < length ts → m ≡ effects.Toggle e → g ≡ toggle (T e) → Acts m g
    delays : (n : ℕ) → m ≡ effects.Delay n → g ≡ delay n → Acts m g
    conditions : (at : ℕ) (p : Predicate) (q : ℕ) → predicate ts f at ≡ got p q → m ≡ effects.Condition at →
        g ≡ condition p → Acts m g
    chooses : (at n p : ℕ) (bs : Branches) (q : ℕ) (d : Actions) (o : ℕ) → u16 f at ≡ got n p →
        branches ts (actions ts 17) n f p ≡ got bs q → actions ts 17 f q ≡ got d o → m ≡ effects.Choose at →
        g ≡ choose bs d → Acts m g
    waits : (at : ℕ) (t : Trigger) (q n : ℕ) (c : Bool) → trigger ts f at ≡ got t q → four f (at + 16) ≡ n →
        eqb (get_or f (at + 20) 0) 1 ≡ c → m ≡ effects.Wait at → g ≡ wait t n c → Acts m g
    unknowns : (r : ℕ) → r < length ts → m ≡ effects.Unknown r → g ≡ Effect.unknown (T r) → Acts m g

  -- with the kind k at p, the effect g is at q, and ends at e
  pub record Effected (k p : ℕ) (g : Effect) (q : ℕ) : Type 0 where
    pub acts : Acts (effect_m f k p) g
    pub ends : q ≤ length f → after_m f x k p ≡ q

  flag_is : (p : ℕ) (b : Bool) (q : ℕ) → flag f p ≡ got b q → eqb (get_or f p 0) 1 ≡ b
  unfolding flag give
  flag_is p b q e = let k = kind_found (give false ∷ give true ∷ []) e in
      cases k.kind (byte_is f p k.is_kind) k.next k.holds
    where
      cases : (i : ℕ) → get_or f p 0 ≡ i → (n : ℕ) → get_or (give false ∷ give true ∷ []) i refuse f n ≡ got b q →
          eqb (get_or f p 0) 1 ≡ b
      cases zero z n h = ap (λ (i : ℕ). eqb i 1) z ∙ (given f n false h).0
      cases (suc zero) z n h = ap (λ (i : ℕ). eqb i 1) z ∙ (given f n true h).0
      cases (suc (suc i)) z n h = absurd (found.refused f n h)

  abbrev inner : Reader Actions
  inner = actions ts 17

  -- where a choice ends
  choice_end : (p o : ℕ) (g : Effect) (q : ℕ) → u8 f p ≡ got 4 o → effect ts inner f p ≡ got g q → q ≤ length f →
      end_m (choice_m (get_or x 9 0) (actions_m (get_or x 9 0) 17) f o 0) o ≡ q
  unfolding end_m seen capped by
  choice_end p o g q k e h =
      ap (λ (n : ℕ). end_m (choice_m n (actions_m n 17) f o 0) o) tb.texts
      ∙ ap (λ (w : Walked). end_m w o)
      (at_kind (sees_effect ts inner (actions_m (length ts) 17) (sees_actions ts 17) 0 f p) ∙ ap (seen (marks of_effect) 0) e)
      ∙ cap_is q (omega (arith, tb.size))
    where
      at_kind : {w : Walked} →
          by u8 (λ i. if eqb i 4 then choice_m (length ts) (actions_m (length ts) 17) else simple_m (length ts) i) f p 0 ≡ w →
          choice_m (length ts) (actions_m (length ts) 17) f o 0 ≡ w
      at_kind h = rw (k, by) at h

  effected : (p o k : ℕ) (g : Effect) (q : ℕ) → u8 f p ≡ got k o → effect ts inner f p ≡ got g q →
      get_or (effect_kinds ts inner) k refuse f o ≡ got g q → Effected k o g q
  unfolding effect_m after_m
  effected p o zero g q k e h =
      let a = bound (place ts) _ h in
      let v = bound (place ts) _ a.rest in
      let z = given _ _ _ v.rest in
      let a₁ = place_found ts a.first in
      let a₂ = place_found ts v.first in
      let w₁ = u16_wide f o a₁.is_place in
      let w₂ = u16_wide f a.next a₂.is_place in
      let y : a.next ≡ o + 2 = w₁.ends in
      record {
        acts = sets a₁.at a₂.at a₁.is_in a₂.is_in
            (rw (two_is f o a₁.is_place, ap (two f) (sym y) ∙ two_is f a.next a₂.is_place))
            (sym z.0 ∙ ap (λ (t : Text). Effect.set t v.value) a₁.is_text
            ∙ ap (Effect.set (T a₁.at)) a₂.is_text);
        ends = λ i. later_is o 4 (omega (arith, tb.size)) ∙ omega (arith, z.1);
      }
  effected p o (suc zero) g q k e h =
      let a = bound (place ts) _ h in
      let z = given _ _ _ a.rest in
      let a₁ = place_found ts a.first in
      let w₁ = u16_wide f o a₁.is_place in
      record {
        acts = toggles a₁.at a₁.is_in (rw (two_is f o a₁.is_place)) (sym z.0 ∙ ap toggle a₁.is_text);
        ends = λ i. later_is o 2 (omega (arith, tb.size)) ∙ omega (arith, z.1);
      }
  effected p o (suc (suc zero)) g q k e h =
      let a = bound u32 _ h in
      let z = given _ _ _ a.rest in
      let w₁ = u32_wide f o a.first in
      record {
        acts = delays a.value (rw (four_is f o a.first)) (sym z.0);
        ends = λ i. later_is o 4 (omega (arith, tb.size)) ∙ omega (arith, z.1);
      }
  effected p o (suc (suc (suc zero))) g q k e h =
      let a = bound (predicate ts) _ h in
      let z = given _ _ _ a.rest in
      let j = truths.ends_at f x ts mo tb o a.value a.next a.first in
      record {
        acts = conditions o a.value a.next a.first refl (sym z.0);
        ends = λ i. later_is o (size_m f o) (omega (arith, tb.size, z.1, j)) ∙ omega (arith, z.1, j);
      }
  effected p o (suc (suc (suc (suc zero)))) g q k e h =
      let c = bound u16 _ h in
      let b = bound (branches ts inner c.value) _ c.rest in
      let a = bound inner _ b.rest in
      let z = given _ _ _ a.rest in
      record {
        acts = chooses o c.value c.next b.value b.next a.value a.next c.first b.first a.first refl
            (sym z.0);
        ends = choice_end p o g q k e;
      }
  effected p o (suc (suc (suc (suc (suc zero))))) g q k e h =
      let t = bound (trigger ts) _ h in
      let m = bound u32 _ t.rest in
      let c = bound flag _ m.rest in
      let z = given _ _ _ c.rest in
      let j = truths.matches_is f x ts mo tb o t.value t.next t.first in
      let w₁ = u32_wide f t.next m.first in
      let w₂ = kind_wide 2 flag sees_flag c.first in
      let y₁ : t.next ≡ o + 16 = j.ends in
      let y₂ : m.next ≡ o + 20 = omega (arith, j.ends) in
      record {
        acts = waits o t.value t.next m.value c.value t.first
            (ap (four f) (sym y₁) ∙ four_is f t.next m.first)
            (ap (λ (i : ℕ). eqb (get_or f i 0) 1) (sym y₂) ∙ flag_is m.next c.value c.next c.first) refl
            (sym z.0);
        ends = λ i. later_is o 21 (omega (arith, tb.size, z.1, j.ends)) ∙ omega (arith, z.1, j.ends);
      }
  effected p o (suc (suc (suc (suc (suc (suc zero)))))) g q k e h =
      let a = bound (place ts) _ h in
      let z = given _ _ _ a.rest in
      let a₁ = place_found ts a.first in
      let w₁ = u16_wide f o a₁.is_place in
      record {
        acts = unknowns a₁.at a₁.is_in (rw (two_is f o a₁.is_place)) (sym z.0 ∙ ap Effect.unknown a₁.is_text);
        ends = λ i. later_is o 2 (omega (arith, tb.size)) ∙ omega (arith, z.1);
      }
  effected p o (suc (suc (suc (suc (suc (suc (suc k))))))) g q i e h = absurd (found.refused f o h)

  -- the first action of a list, and the rest
  pub record First (n p : ℕ) (a : Actions) (q : ℕ) : Type 0 where
    pub src : Source
    pub eff : Effect
    pub rest : Actions
    pub after : ℕ
    pub is : a ≡ act src eff rest
    pub line : (action_m f x p).source.line ≡ src.line
    pub column : (action_m f x p).source.column ≡ src.column
    pub acts : Acts (action_m f x p).effect eff
    pub next : 0 < n → (action_m f x p).next ≡ after
    pub inside : p + 8 < length f
    pub others : actions_of ts inner n f after ≡ got rest q

  starts_in : (n p : ℕ) (a : Actions) (q : ℕ) → 0 < n → actions_of ts inner n f p ≡ got a q → p ≤ length f
  unfolding actions_of
  starts_in zero p a q h e = absurd (omega arith)
  starts_in (suc n) p a q h e = let c = source_is f p (bound source _ e).first in omega (arith, c.inside)

  pub first_is : (n p : ℕ) (a : Actions) (q : ℕ) → actions_of ts inner (suc n) f p ≡ got a q → First n p a q
  unfolding actions_of action_m effect
  first_is n p a q e =
      let c = bound source _ e in
      let g = bound (effect ts inner) _ c.rest in
      let r = bound (actions_of ts inner n) _ g.rest in
      let z = given _ _ _ r.rest in
      let s = source_is f p c.first in
      let k = kind_found (effect_kinds ts inner) g.first in
      let w = u8_wide f c.next k.is_kind in
      let y : c.next ≡ p + 8 = s.ends in
      let b : get_or f (p + 8) 0 ≡ k.kind = ap (λ (i : ℕ). get_or f i 0) (sym y) ∙ byte_is f c.next k.is_kind in
      let l : later p 9 ≡ k.next = later_is p 9 (omega (arith, tb.size, s.ends)) ∙ omega (arith, s.ends) in
      let d = effected c.next k.next k.kind g.value g.next k.is_kind g.first k.holds in
      let o : actions_of ts inner n f g.next ≡ got r.value q = r.first ∙ ap (got r.value) z.1 in
      record {
        src = c.value;
        eff = g.value;
        rest = r.value;
        after = g.next;
        is = sym z.0;
        line = s.line;
        column = s.column;
        acts = rw (b, l) d.acts;
        next = λ h. rw (b, l) (d.ends (starts_in n g.next r.value q h o));
        inside = omega (arith, s.ends);
        others = o;
      }
