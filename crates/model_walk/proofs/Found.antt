-- What a reader found, part by part: from the value that the reader of a part gave back to the numbers that stand in the
-- file.
use Rattle.std.specs.Prelude.{Some, None, if◌then◌else◌}
use mathlib.Core.Path.{◌≡◌, refl, sym, ap, ◌∙◌, subst}
use mathlib.Core.List.{List, [], ◌∷◌}
use mathlib.Core.Bool.{Bool, true, false}
use mathlib.Core.Option.{Option, none, some}
use Prim.Native.Nat.{ℕ, zero, suc, ◌+◌, ◌≤◌, ◌<◌}
use native.Mathlib.Omega.{arith}
use native.Mathlib.Decide.{dec_lt}
use lib.ListN.{length, get_or}
use lib.Dec.{ltb, eqb}
use borrow.Author.Tests.{ltb-true, eqb-true, eqb-false}
use Rattle.texts.specs.Texts.{Text}
use Rattle.model_spec.specs.Model.{Source, Predicate, state, window, Trigger, Entity}
use Rattle.model_spec.specs.File.{
  Got,
  got,
  broken,
  Reader,
  ◌>>=◌,
  give,
  refuse,
  require,
  u8,
  u16,
  u32,
  times,
  counted,
  kinds,
  number?,
  source,
  tier,
  place,
  place?,
  predicate,
  trigger,
  entity,
}
use Rattle.model_walk.specs.Walk.{Walked, seen, capped, predicate_size, kind_m, by, staying, stay, stop}
use Rattle.model_walk.proofs.Refines.{Sees, quiet, sees_tier}
use Rattle.model_walk.proofs.Laws.{same_to, bind_got, bind_broken, u8_in, u8_out, u16_in, u16_out, u32_in, u32_out}

-- a test, with its equation
pub data Case (b : Bool) : Type 0 where
  is_true : b ≡ true → Case b
  is_false : b ≡ false → Case b

pub case : (b : Bool) → Case b
case true = is_true refl
case false = is_false refl

-- ---- the ways to put readers together

pub record Bound {A B : Type 0} (r : Reader A) (k : A → Reader B) (s : List ℕ) (p : ℕ) (b : B) (q : ℕ) : Type 0 where
  pub value : A
  pub next : ℕ
  pub first : r s p ≡ got value next
  pub rest : k value s next ≡ got b q

-- a reader, and then another
pub bound : {A B : Type 0} (r : Reader A) (k : A → Reader B) {s : List ℕ} {p : ℕ} {b : B} {q : ℕ} → (r >>= k) s p ≡ got b q →
    Bound r k s p b q
bound {A} r k {s} {p} {b} {q} e = cases (r s p) refl
  where
    cases : (g : Got A) → r s p ≡ g → Bound r k s p b q
    cases (got a o) d = record { value = a; next = o; first = d; rest = sym (bind_got r k d) ∙ e }
    cases broken d = let z : ◌≡◌ {A = ℕ} 0 1 = cc (bind_broken r k d) in absurd (omega arith)

module _ {A : Type 0} (s : List ℕ) (p : ℕ) (a : A) {b : A} {q : ℕ} where
  pub given : give a s p ≡ got b q → (a ≡ b) × (p ≡ q)
  unfolding give
  given e = ((cc), (cc))

  pub required : (t : Bool) → require t a s p ≡ got b q → (t ≡ true) × ((a ≡ b) × (p ≡ q))
  unfolding require
  required t e = cases t refl
    where
      cases : (x : Bool) → t ≡ x → (t ≡ true) × ((a ≡ b) × (p ≡ q))
      cases true h = let g : got a p ≡ got b q = rw h at e in (h, ((cc), (cc)))
      cases false h = let g : ◌≡◌ {A = Got A} broken (got b q) = rw h at e in let z : ◌≡◌ {A = ℕ} 0 1 = cc in
          absurd (omega arith)

pub refused : {A : Type 0} (s : List ℕ) (p : ℕ) {b : A} {q : ℕ} → refuse s p ≡ got b q → ⊥
unfolding refuse
refused s p e = let z : ◌≡◌ {A = ℕ} 0 1 = cc in omega arith

-- ---- numbers: where they end

-- w bytes stand at p, and q is the position after them
pub record Wide (w : ℕ) (s : List ℕ) (p q : ℕ) : Type 0 where
  pub ends : q ≡ p + w
  pub inside : p + w ≤ length s

pub wide_sum : {v w : ℕ} {s : List ℕ} {p q t : ℕ} → Wide v s p q → Wide w s q t → Wide (v + w) s p t
wide_sum a b = record { ends = omega arith; inside = omega arith }

module _ (w : ℕ) (s : List ℕ) (p : ℕ) (r : Reader ℕ) (x : ℕ) (inside : p + w ≤ length s → r s p ≡ got x (p + w))
    (outside : length s < p + w → r s p ≡ broken) where
  wide_of : {v q : ℕ} → r s p ≡ got v q → Wide w s p q
  wide_of {v} {q} e = elim (dec_lt (length s) (p + w)) [
    | yes h ↦ let g = outside h in let z : ◌≡◌ {A = ℕ} 0 1 = cc in absurd (omega arith)
    | no h ↦ let i : p + w ≤ length s = omega arith in let g = inside i in record { ends = (cc); inside = i }
  ]

module _ (s : List ℕ) (p : ℕ) {v q : ℕ} where
  pub u8_wide : u8 s p ≡ got v q → Wide 1 s p q
  u8_wide e = wide_of 1 s p u8 _ (λ h. u8_in s p (omega arith)) (λ h. u8_out s p (omega arith)) e

  pub u16_wide : u16 s p ≡ got v q → Wide 2 s p q
  u16_wide e = wide_of 2 s p u16 _ (u16_in s p) (u16_out s p) e

  pub u32_wide : u32 s p ≡ got v q → Wide 4 s p q
  u32_wide e = wide_of 4 s p u32 _ (u32_in s p) (u32_out s p) e

pub u8_value : (s : List ℕ) (p : ℕ) {v q : ℕ} → u8 s p ≡ got v q → get_or s p 0 ≡ v
u8_value s p e = let w = u8_wide s p e in let i = u8_in s p (omega (arith, w.inside)) in cc

pub source_wide : (s : List ℕ) (p : ℕ) {v : Source} {q : ℕ} → source s p ≡ got v q → Wide 8 s p q
unfolding source
source_wide s p e =
    let l = bound u32 _ e in
    let c = bound u32 _ l.rest in
    let w = wide_sum (u32_wide s p l.first) (u32_wide s l.next c.first) in
    record { ends = omega (arith, (given _ _ _ c.rest).1); inside = omega arith }

-- ---- lists

-- a count, and as many values
pub record Counted {A : Type 0} (r : Reader A) (s : List ℕ) (p : ℕ) (l : List A) (q : ℕ) : Type 0 where
  pub count : ℕ
  pub start : ℕ
  pub is_count : u16 s p ≡ got count start
  pub are_values : times count r s start ≡ got l q

pub counted_found : {A : Type 0} (r : Reader A) {s : List ℕ} {p : ℕ} {l : List A} {q : ℕ} → counted r s p ≡ got l q →
    Counted r s p l q
unfolding counted
counted_found r e = let b = bound u16 (λ n. times n r) e in
    record { count = b.value; start = b.next; is_count = b.first; are_values = b.rest }

-- ---- kinds

pub record Kind {A : Type 0} (rs : List (Reader A)) (s : List ℕ) (p : ℕ) (a : A) (q : ℕ) : Type 0 where
  pub kind : ℕ
  pub next : ℕ
  pub is_kind : u8 s p ≡ got kind next
  pub holds : get_or rs kind refuse s next ≡ got a q

pub kind_found : {A : Type 0} (rs : List (Reader A)) {s : List ℕ} {p : ℕ} {a : A} {q : ℕ} → kinds rs s p ≡ got a q →
    Kind rs s p a q
unfolding kinds
kind_found rs e = let b = bound u8 (λ k. get_or rs k refuse) e in
    record { kind = b.value; next = b.next; is_kind = b.first; holds = b.rest }

-- a kind that holds nothing
pub kind_wide : {A : Type 0} (limit : ℕ) (r : Reader A) → Sees quiet r (kind_m limit) → {s : List ℕ} {p : ℕ} {a : A} {q : ℕ} →
    r s p ≡ got a q → Wide 1 s p q
unfolding seen by staying stay stop capped
kind_wide limit r f {s} {p} {a} {q} e = cases (u8 s p) refl
  where
    told : kind_m limit s p 0 ≡ Some (q, 0)
    told = f 0 s p ∙ ap (seen quiet 0) e

    ended : (x o : ℕ) (b : Bool) → (if b then stay else stop) s o 0 ≡ Some (q, 0) → o ≡ q
    ended x o true h = (same_to h).0
    ended x o false h = let z : ◌≡◌ {A = ℕ} 0 1 = cc in absurd (omega arith)

    cases : (g : Got ℕ) → u8 s p ≡ g → Wide 1 s p q
    cases (got x o) d = subst (Wide 1 s p) (ended x o (ltb x limit) (rw (d, by) at told)) (u8_wide s p d)
    cases broken d = let g : ◌≡◌ {A = Walked} None (Some (q, 0)) = rw (d, by) at told in let z : ◌≡◌ {A = ℕ} 0 1 = cc in
        absurd (omega arith)

-- ---- places
module _ (ts : List Text) where
  -- the text t stands at the place `at`
  pub record Place (s : List ℕ) (p : ℕ) (t : Text) (q : ℕ) : Type 0 where
    pub at : ℕ
    pub is_place : u16 s p ≡ got at q
    pub is_in : at < length ts
    pub is_text : t ≡ get_or ts at []

  pub place_found : {s : List ℕ} {p : ℕ} {t : Text} {q : ℕ} → place ts s p ≡ got t q → Place s p t q
  unfolding place
  place_found {s} {p} e =
      let b = bound u16 _ e in
      let r = required _ _ _ _ b.rest in
      record {
        at = b.value;
        is_place = b.first ∙ ap (got b.value) r.1.1;
        is_in = ltb-true _ _ r.0;
        is_text = sym r.1.0;
      }

  -- a place, or 65,535 for none
  pub data Value? (at : ℕ) : Option Text → Type 0 where
    absent : at ≡ 65535 → Value? at none
    present : (at ≡ 65535 → ⊥) → at < length ts → Value? at (some (get_or ts at []))

  pub record Place? (s : List ℕ) (p : ℕ) (o : Option Text) (q : ℕ) : Type 0 where
    pub at : ℕ
    pub is_place : u16 s p ≡ got at q
    pub is_value : Value? at o

  pub place?_found : {s : List ℕ} {p : ℕ} {o : Option Text} {q : ℕ} → place? ts s p ≡ got o q → Place? s p o q
  unfolding place?
  place?_found {s} {p} {o} {q} e = cases (case (eqb b.value 65535))
    where
      b : Bound u16 (λ x. if eqb x 65535 then give none else require (ltb x (length ts)) (some (get_or ts x []))) s p o q
      b = bound u16 _ e

      cases : Case (eqb b.value 65535) → Place? s p o q
      cases (is_true h) =
          let g : give none s b.next ≡ got o q = rw h at b.rest in
          let r = given _ _ _ g in
          record {
            at = b.value;
            is_place = b.first ∙ ap (got b.value) r.1;
            is_value = subst (Value? b.value) r.0 (absent (eqb-true _ _ h));
          }
      cases (is_false h) =
          let g : require (ltb b.value (length ts)) (some (get_or ts b.value [])) s b.next ≡ got o q =
          rw h at b.rest in
          let r = required _ _ _ _ g in
          record {
            at = b.value;
            is_place = b.first ∙ ap (got b.value) r.1.1;
            is_value = subst (Value? b.value) r.1.0 (present (eqb-false _ _ h) (ltb-true _ _ r.0));
          }

  -- ---- parts

  pub record EntityParts (s : List ℕ) (p : ℕ) (e : Entity) (q : ℕ) : Type 0 where
    pub at_domain : ℕ
    pub at_initial : ℕ
    pub at_tier : ℕ
    pub at_stale : ℕ
    pub name : Place s p e.name at_domain
    pub domain : Counted (place ts) s at_domain e.domain at_initial
    pub initial : Place s at_initial e.initial at_tier
    pub tier_wide : Wide 1 s at_tier at_stale
    pub stale : number? s at_stale ≡ got e.stale_after q

  pub entity_found : {s : List ℕ} {p : ℕ} {e : Entity} {q : ℕ} → entity ts s p ≡ got e q → EntityParts s p e q
  unfolding entity
  entity_found {s} {p} {e} {q} h =
      let x = bound (place ts) _ h in
      let d = bound (counted (place ts)) _ x.rest in
      let i = bound (place ts) _ d.rest in
      let t = bound tier _ i.rest in
      let a = bound number? _ t.rest in
      let g = given _ _ _ a.rest in
      subst (λ (v : Entity). EntityParts s p v q) g.0 (record {
        at_domain = x.next;
        at_initial = d.next;
        at_tier = i.next;
        at_stale = t.next;
        name = place_found x.first;
        domain = counted_found (place ts) d.first;
        initial = place_found i.first;
        tier_wide = kind_wide 4 tier sees_tier t.first;
        stale = a.first ∙ ap (got a.value) g.1;
      })

  predicate_kinds : List (Reader Predicate)
  predicate_kinds =
      (place ts >>= λ e. place ts >>= λ v. give (state e v))
      ∷ (place ts >>= λ r. give (Predicate.unknown r))
      ∷ (u8 >>= λ d. u32 >>= λ b. u32 >>= λ e. give (window d b e))
      ∷ []

  -- a predicate ends where its size says
  pub predicate_wide : {s : List ℕ} {p : ℕ} {a : Predicate} {q : ℕ} → predicate ts s p ≡ got a q
      → Wide (predicate_size (get_or s p 0)) s p q
  unfolding predicate predicate_kinds predicate_size
  predicate_wide {s} {p} {a} {q} e =
      let k = kind_found predicate_kinds e in
      rw (u8_value s p k.is_kind) (cases k.kind k.next (u8_wide s p k.is_kind) k.holds)
    where
      cases : (i o : ℕ) → Wide 1 s p o → get_or predicate_kinds i refuse s o ≡ got a q → Wide (predicate_size i) s p q
      cases zero o w h =
          let x = bound (place ts) _ h in
          let v = bound (place ts) _ x.rest in
          let z = given _ _ _ v.rest in
          let g = place_found (v.first ∙ ap (got v.value) z.1) in
          wide_sum (wide_sum w (u16_wide s o (place_found x.first).is_place)) (u16_wide s x.next g.is_place)
      cases (suc zero) o w h =
          let x = bound (place ts) _ h in
          let z = given _ _ _ x.rest in
          let g = place_found (x.first ∙ ap (got x.value) z.1) in
          wide_sum w (u16_wide s o g.is_place)
      cases (suc (suc zero)) o w h =
          let d = bound u8 _ h in
          let b = bound u32 _ d.rest in
          let v = bound u32 _ b.rest in
          let z = given _ _ _ v.rest in
          let w₁ = u8_wide s o d.first in
          let w₂ = u32_wide s d.next b.first in
          let w₃ = u32_wide s b.next (v.first ∙ ap (got v.value) z.1) in
          wide_sum w (wide_sum w₁ (wide_sum w₂ w₃))
      cases (suc (suc (suc i))) o w h = absurd (refused s o h)

  pub record TriggerParts (s : List ℕ) (p : ℕ) (t : Trigger) (q : ℕ) : Type 0 where
    pub at_from : ℕ
    pub at_to : ℕ
    pub at_source : ℕ
    pub at_note : ℕ
    pub entity_at : Place s p t.entity at_from
    pub from_at : Place? s at_from t.from at_to
    pub to_at : Place? s at_to t.to at_source
    pub source_at : source s at_source ≡ got t.source at_note
    pub note_at : Place? s at_note t.note q

  pub trigger_found : {s : List ℕ} {p : ℕ} {t : Trigger} {q : ℕ} → trigger ts s p ≡ got t q → TriggerParts s p t q
  unfolding trigger
  trigger_found {s} {p} {t} {q} h =
      let x = bound (place ts) _ h in
      let f = bound (place? ts) _ x.rest in
      let o = bound (place? ts) _ f.rest in
      let c = bound source _ o.rest in
      let n = bound (place? ts) _ c.rest in
      let g = given _ _ _ n.rest in
      subst (λ (v : Trigger). TriggerParts s p v q) g.0 (record {
        at_from = x.next;
        at_to = f.next;
        at_source = o.next;
        at_note = c.next;
        entity_at = place_found x.first;
        from_at = place?_found f.first;
        to_at = place?_found o.first;
        source_at = c.first;
        note_at = place?_found (n.first ∙ ap (got n.value) g.1);
      })
