-- The walks over ordered sections end where the readers of `File` end.
use Rattle.std.specs.Prelude.{Some, None, if◌then◌else◌}
use mathlib.Core.Path.{◌≡◌, refl, sym, ap, ap₂, ◌∙◌, subst}
use mathlib.Core.List.{List, [], ◌∷◌}
use mathlib.Core.Bool.{Bool, true, false, ◌&&◌, ◌||◌}
use Prim.Native.Nat.{ℕ, zero, suc, ◌-◌, ◌<◌}
use native.Mathlib.Omega.{arith}
use lib.ListN.{length, get_or}
use lib.Dec.{ltb}
use borrow.Author.Tests.{ltb-true}
use Rattle.texts.specs.Lists.{any, each}
use Rattle.texts.specs.Texts.{Text, text, eq_t, lt_t, mem_t}
use Rattle.texts.specs.Places.{text_at}
use Rattle.model_spec.specs.Model.{Entity}
use Rattle.model_spec.specs.File.{
  Got,
  got,
  broken,
  Reader,
  ◌>>=◌,
  give,
  require,
  u16,
  times,
  counted,
  one_text,
  ascending,
  has_fixed,
  texts,
  tier,
  number?,
  place,
  entity,
  entities,
}
use Rattle.model_walk.specs.Walk.{Walked, capped, seen, Walk, and_then}
use Rattle.model_walk.proofs.Laws.{bind_got, bind_broken}
use Rattle.model_walk.proofs.Refines.{Sees, quiet}
use Rattle.model_parts.specs.declared.Part.TheVariants as part
use Rattle.model_parts.specs.Parts.{part_m, text_m, entity_m}
use Rattle.model_parts.proofs.Refines.{sees_text, sees_entity}
use Rattle.model_parts.proofs.Stands.{More, more}
use Rattle.model_order.specs.Order.{place_before, before, chain, chained, ascending_m, among, has, texts_m}
use Rattle.model_order.proofs.Laws as laws
use Rattle.model_order.proofs.Places.{Case, is_true, is_false, case, place_order, told}

less_one : (i : ℕ) → suc i - 1 ≡ i
less_one i = omega arith

-- ---- a list of values, judged as a whole

unfoldable pub judge : {A : Type 0} → (List A → Bool) → Got (List A) → Walked
judge t (got l q) = if t l then Some (q, 0) else None
judge t broken = None

module _ {A : Type 0} (r : Reader A) (k : Walk) (e : Sees quiet r k) (key : A → Text) (x : Bool) (s : List ℕ)
    (h : (a b : ℕ) (u v : A) (o q : ℕ) → r s a ≡ got u o → r s b ≡ got v q → before x s a b ≡ lt_t (key u) (key v)) where
  walks_to : (p : ℕ) {v : A} {q : ℕ} → r s p ≡ got v q → k s p 0 ≡ Some (q, 0)
  unfolding capped seen
  walks_to p f = e 0 s p ∙ ap (seen quiet 0) f

  walks_off : (p : ℕ) → r s p ≡ broken → k s p 0 ≡ None
  unfolding capped seen
  walks_off p f = e 0 s p ∙ ap (seen quiet 0) f

  -- one value more
  judged : (i p q : ℕ) (v : A) (t : List A → Bool) → r s p ≡ got v q →
      judge t (times (suc i) r s p) ≡ judge (λ l. t (v ∷ l)) (times i r s q)
  unfolding times give judge
  judged i p q v t f = ap (judge t) (bind_got r _ f) ∙ rest (times i r s q) refl
    where
      rest : (g : Got (List A)) → times i r s q ≡ g →
          judge t ((times i r >>= λ l. give (v ∷ l)) s q) ≡ judge (λ l. t (v ∷ l)) g
      rest (got l o) d = ap (judge t) (bind_got (times i r) _ d)
      rest broken d = ap (judge t) (bind_broken (times i r) _ d)

  never : (i q : ℕ) (t : List A → Bool) → ((l : List A) → t l ≡ false) → judge t (times i r s q) ≡ None
  unfolding judge
  never i q t f = rest (times i r s q)
    where
      rest : (g : Got (List A)) → judge t g ≡ None
      rest (got l o) = rw (f l)
      rest broken = refl

  alike : (t u : List A → Bool) (g : Got (List A)) → ((l : List A) → t l ≡ u l) → judge t g ≡ judge u g
  unfolding judge
  alike t u (got l o) f = rw (f l)
  alike t u broken f = refl

  sees_chain : (i a p : ℕ) (u : A) (o : ℕ) → r s a ≡ got u o →
      chain k i x a s p ≡ judge (λ l. ascending (key u ∷ each key l)) (times i r s p)
  unfolding times chain judge ascending each give and_then
  sees_chain zero a p u o f = refl
  sees_chain (suc i) a p u o f = cases (r s p) refl (λ v q g. sees_chain i p q v q g)
    where
      on_off : (v : A) (q : ℕ) → r s p ≡ got v q → chain k i x p s q
          ≡ judge (λ l. ascending (key v ∷ each key l)) (times i r s q) → Case (lt_t (key u) (key v)) →
          chain k (suc i) x a s p ≡ judge (λ l. ascending (key u ∷ each key l)) (times (suc i) r s p)
      on_off v q g ih (is_true b) =
          laws.chain_on k x s p refl a (walks_to p g) refl (suc i) (omega arith) (h a p u v o q f g ∙ b)
          ∙ ap (λ (c : ℕ). chain k c x p s q) (less_one i)
          ∙ ih
          ∙ alike _ _ (times i r s q) (λ l. rw b)
          ∙ sym (judged i p q v _ g)
      on_off v q g ih (is_false b) =
          laws.chain_off k x s p refl a (walks_to p g) refl (suc i) (omega arith) (h a p u v o q f g ∙ b)
          ∙ sym (never i q _ (λ l. rw b))
          ∙ sym (judged i p q v _ g)

      cases : (g : Got A) → r s p ≡ g → ((v : A) (q : ℕ) → r s p ≡ got v q →
          chain k i x p s q ≡ judge (λ l. ascending (key v ∷ each key l)) (times i r s q)) →
          chain k (suc i) x a s p ≡ judge (λ l. ascending (key u ∷ each key l)) (times (suc i) r s p)
      cases (got v q) g ih = on_off v q g (ih v q g) (case (lt_t (key u) (key v)))
      cases broken g ih = laws.chain_broken k x s p refl a (suc i) (omega arith) (walks_off p g)
          ∙ sym (ap (judge (λ l. ascending (key u ∷ each key l))) (bind_broken r _ g))

  sees_chained : (i p : ℕ) → chained k i x s p ≡ judge (λ l. ascending (each key l)) (times i r s p)
  unfolding times chained judge ascending each give and_then
  sees_chained zero p = refl
  sees_chained (suc i) p = cases (r s p) refl
    where
      cases : (g : Got A) → r s p ≡ g → chained k (suc i) x s p ≡ judge (λ l. ascending (each key l)) (times (suc i) r s p)
      cases (got v q) g =
          laws.chained_to k x s p refl (suc i) (λ z. absurd (omega arith)) (walks_to p g)
          ∙ ap (λ (c : ℕ). chain k c x p s q) (less_one i)
          ∙ sees_chain i p q v q g
          ∙ sym (judged i p q v _ g)
      cases broken g = laws.chained_broken k x s p refl (suc i) (λ z. absurd (omega arith)) (walks_off p g)
          ∙ sym (ap (judge (λ l. ascending (each key l))) (bind_broken r _ g))

-- ---- entities

places_before : (s : List ℕ) (a b : ℕ) {x o y q : ℕ} → u16 s a ≡ got x o → u16 s b ≡ got y q → place_before s a b ≡ ltb x y
unfolding place_before
places_before s a b e f = rw (e, f, place_before)

abbrev Yields : {A : Type 0} → Reader A → (A → Type 0) → Type 0
Yields {A} r P = (s : List ℕ) (p : ℕ) (v : A) (q : ℕ) → r s p ≡ got v q → P v

module _ {B : Type 0} (P : B → Type 0) where
  yields_bind : {A : Type 0} (r : Reader A) (f : A → Reader B) → ((a : A) → Yields (f a) P) → Yields (r >>= f) P
  yields_bind {A} r f h s p v q e = cases (r s p) refl
    where
      cases : (g : Got A) → r s p ≡ g → P v
      cases (got a o) d = h a s o v q (sym (bind_got r f d) ∙ e)
      cases broken d = let z : ◌≡◌ {A = ℕ} 0 1 = cc (bind_broken r f d) in absurd (omega arith)

  yields_give : (b : B) → P b → Yields (give b) P
  unfolding give
  yields_give b h s p v q e = let z : b ≡ v = cc in subst P z h

module _ (ts : List Text) where
  record Named (s : List ℕ) (p : ℕ) (v : Entity) : Type 0 where
    pub at : ℕ
    pub next : ℕ
    pub is_place : u16 s p ≡ got at next
    pub is_in : at < length ts
    pub is_name : v.name ≡ get_or ts at []

  entity_rest : (x : Text) →
      Yields {A = Entity} (counted (place ts) >>= λ d. place ts >>= λ i. tier >>= λ t. number? >>= λ a. give
      (record { name = x; domain = d; initial = i; tier = t; stale_after = a })) (λ v. v.name ≡ x)
  entity_rest x = yields_bind P _ _ λ d. yields_bind P _ _ λ i. yields_bind P _ _ λ t. yields_bind P _ _ λ a. yields_give P _
      refl
    where
      P : Entity → Type 0
      P v = v.name ≡ x

  named : (s : List ℕ) (p : ℕ) {v : Entity} {q : ℕ} → entity ts s p ≡ got v q → Named s p v
  unfolding entity place require
  named s p {v} {q} e = cases (u16 s p) refl
    where
      tested : (x o : ℕ) → u16 s p ≡ got x o → Case (ltb x (length ts)) → Named s p v
      tested x o d (is_true b) = record {
        at = x;
        next = o;
        is_place = d;
        is_in = ltb-true _ _ b;
        is_name =
            entity_rest (get_or ts x []) s o v q (sym (bind_got (place ts) _ (bind_got u16 _ d ∙ rw b)) ∙ e);
      }
      tested x o d (is_false b) = let z : ◌≡◌ {A = ℕ} 0 1 =
          cc (bind_broken {B = Entity} (place ts) (λ x. counted (place ts)
          >>= λ d. place ts >>= λ i. tier >>= λ t. number? >>= λ a. give
          (record { name = x; domain = d; initial = i; tier = t; stale_after = a })) (bind_got u16 _ d ∙ rw b)) in
          absurd (omega arith)

      cases : (g : Got ℕ) → u16 s p ≡ g → Named s p v
      cases (got x o) d = tested x o d (case (ltb x (length ts)))
      cases broken d = let z : ◌≡◌ {A = ℕ} 0 1 =
          cc (bind_broken {B = Entity} (place ts) (λ x. counted (place ts)
          >>= λ d. place ts >>= λ i. tier >>= λ t. number? >>= λ a. give
          (record { name = x; domain = d; initial = i; tier = t; stale_after = a })) (bind_broken u16 _ d)) in
          absurd (omega arith)

  names_before : ascending ts ≡ true → (s : List ℕ) (a b : ℕ) (u v : Entity) (o q : ℕ) → entity ts s a ≡ got u o →
      entity ts s b ≡ got v q → before false s a b ≡ lt_t u.name v.name
  unfolding before
  names_before h s a b u v o q e f =
      let m = named s a e in
      let n = named s b f in
      places_before s a b m.is_place n.is_place
      ∙ sym (place_order ts h m.at n.at m.is_in n.is_in)
      ∙ ap₂ lt_t (sym m.is_name) (sym n.is_name)

  pub sees_entities : ascending ts ≡ true → (s : List ℕ) (p : ℕ) →
      ascending_m (length ts) part.Entity false s p ≡ seen quiet 0 (entities ts s p)
  unfolding ascending_m part_m entities counted ◌>>=◌ require seen capped judge
  sees_entities h s p = cases (u16 s p)
    where
      last : (g : Got (List Entity)) → judge (λ l. ascending (each (λ e. e.name) l)) g
          ≡ seen quiet 0 (((λ _ _. g) >>= λ es. require (ascending (each (λ e. e.name) es)) es) s p)
      last (got l q) = tested (ascending (each (λ e. e.name) l))
        where
          tested : (b : Bool) → (if b then Some (q, 0) else None)
              ≡ seen {A = List Entity} quiet 0 (if b then got l q else broken)
          tested true = refl
          tested false = refl
      last broken = refl

      cases : (g : Got ℕ) → (elim g [ got c q ↦ chained (entity_m (length ts)) c false s q | broken ↦ None ])
          ≡ seen quiet 0
          ((((λ _ _. g) >>= λ c. times c (entity ts)) >>= λ es. require (ascending (each (λ e. e.name) es)) es) s p)
      cases (got c q) = sees_chained (entity ts) (entity_m (length ts)) (sees_entity ts) (λ e. e.name) false s
          (names_before h s) c q ∙ last (times c (entity ts) s q)
      cases broken = refl

-- ---- texts

texts_before : (s : List ℕ) (a b : ℕ) (u v : Text) (o q : ℕ) → one_text s a ≡ got u o → one_text s b ≡ got v q →
    before true s a b ≡ lt_t u v
unfolding before
texts_before s a b u v o q e f =
    let m = told s a e in
    let n = told s b f in
    laws.whole s a b m.is_in n.is_in ∙ ap₂ lt_t (sym m.is_text) (sym n.is_text)

-- a word among the texts
none_read : (s : List ℕ) (p : ℕ) (l : List Text) (next : ℕ) → times 0 one_text s p ≡ got l next → l ≡ []
unfolding times give
none_read s p l next h = cc

text_walks : (s : List ℕ) (p : ℕ) {t : Text} {q : ℕ} → one_text s p ≡ got t q → text_m s p 0 ≡ Some (q, 0)
unfolding capped seen
text_walks s p f = sees_text 0 s p ∙ ap (seen quiet 0) f

mem_more : (w t : Text) (l : List Text) → mem_t w (t ∷ l) ≡ (eq_t w t || mem_t w l)
unfolding mem_t any
mem_more w t l = refl

mem_none : (w : Text) → mem_t w [] ≡ false
unfolding mem_t any
mem_none w = refl

sees_among : (w : Text) (s : List ℕ) (i p : ℕ) (l : List Text) (next : ℕ) → times i one_text s p ≡ got l next →
    among i w s p ≡ mem_t w l
sees_among w s zero p l next h = laws.among_end w s p 0 (omega arith) ∙ sym (mem_none w)
    ∙ ap (mem_t w) (sym (none_read s p l next h))
sees_among w s (suc i) p l next h = here (more one_text s i p h) (case (eq_t w (text_at s p)))
    (λ q x e. sees_among w s i q x next e)
  where
    here : More one_text s i p next l → Case (eq_t w (text_at s p)) →
        ((q : ℕ) (x : List Text) → times i one_text s q ≡ got x next → among i w s q ≡ mem_t w x) →
        among (suc i) w s p ≡ mem_t w l
    here m (is_true b) ih =
        let t = told s p m.is_first in
        laws.among_here w s p refl (text_walks s p m.is_first) refl (suc i) (omega arith) (rw t.is_in b)
        ∙ sym (ap (mem_t w) m.both ∙ mem_more w m.first m.others
        ∙ ap (λ (x : Bool). x || mem_t w m.others) (ap (eq_t w) t.is_text ∙ b))
    here m (is_false b) ih =
        let t = told s p m.is_first in
        laws.among_later w s p refl (text_walks s p m.is_first) refl (suc i) (omega arith) (rw t.is_in b)
        ∙ ap (λ (c : ℕ). among c w s m.after) (less_one i)
        ∙ ih m.after m.others m.are_others
        ∙ sym (ap (mem_t w) m.both ∙ mem_more w m.first m.others
        ∙ ap (λ (x : Bool). x || mem_t w m.others) (ap (eq_t w) t.is_text ∙ b))

each_same : (l : List Text) → each (λ t. t) l ≡ l
unfolding each
each_same [] = refl
each_same (t ∷ l) = ap (λ (x : List Text). t ∷ x) (each_same l)

has_in : (w : Text) (s : List ℕ) (p : ℕ) {c q : ℕ} → u16 s p ≡ got c q → has w s p ≡ among c w s q
unfolding has
has_in w s p e = rw (e, has)

ascending_in : (s : List ℕ) (p : ℕ) {c q : ℕ} → u16 s p ≡ got c q →
    ascending_m 0 part.Text true s p ≡ judge (λ l. ascending (each (λ t. t) l)) (times c one_text s q)
unfolding ascending_m part_m
ascending_in s p {c} {q} e = rw (e, ascending_m) (sees_chained one_text text_m sees_text (λ t. t) true s (texts_before s) c q)

nothing : (a b c d : Bool) (x : Walked) → x ≡ None →
    (if a then if b then if c then if d then x else None else None else None else None)
    ≡ None
nothing true true true true x e = e
nothing true true true false x e = refl
nothing true true false d x e = refl
nothing true false c d x e = refl
nothing false b c d x e = refl

something : (l : List Text) (o : ℕ) (e a b c d : Bool) →
    (if a then if b then if c then if d then (if e then Some (o, 0) else None) else None
    else None else None else None)
    ≡ seen {A = List Text} quiet 0 (if e && (a && b && c && d) then got l o else broken)
unfolding seen capped
something l o true true true true true = refl
something l o true true true true false = refl
something l o true true true false d = refl
something l o true true false c d = refl
something l o true false b c d = refl
something l o false true true true true = refl
something l o false true true true false = refl
something l o false true true false d = refl
something l o false true false c d = refl
something l o false false b c d = refl

module _ (s : List ℕ) (p : ℕ) where
  pub text_count : {c q : ℕ} → u16 s p ≡ got c q → counted one_text s p ≡ times c one_text s q
  unfolding counted
  text_count e = bind_got u16 _ e

  texts_read : {c q : ℕ} {l : List Text} {o : ℕ} → u16 s p ≡ got c q → times c one_text s q ≡ got l o →
      texts_m s p ≡ seen quiet 0 (texts s p)
  unfolding texts texts_m has_fixed require judge
  texts_read {c} {q} {l} {o} e f =
      let m : (w : Text) → has w s p ≡ mem_t w l = λ w. has_in w s p e ∙ sees_among w s c q l o f in
      let a : ascending_m 0 part.Text true s p ≡ (if ascending l then Some (o, 0) else None) =
      ascending_in s p e ∙ ap (judge (λ l. ascending (each (λ t. t) l))) f
      ∙ ap (λ (x : List Text). if ascending x then Some (o, 0) else None) (each_same l) in
      rw (m (text "on"), m (text "off"), m (text "unknown"), m (text "unavailable"), a)
      (something l o (ascending l) (mem_t (text "on") l) (mem_t (text "off") l) (mem_t (text "unknown") l)
      (mem_t (text "unavailable") l)
      ∙ ap (seen quiet 0)
      (sym (bind_got (counted one_text) (λ ts. require (ascending ts && has_fixed ts) ts) (text_count e ∙ f))))

  texts_broken : {c q : ℕ} → u16 s p ≡ got c q → times c one_text s q ≡ broken → texts_m s p ≡ seen quiet 0 (texts s p)
  unfolding texts texts_m judge seen
  texts_broken e f =
      nothing (has (text "on") s p) (has (text "off") s p) (has (text "unknown") s p) (has (text "unavailable") s p) _
      (ascending_in s p e ∙ ap (judge (λ l. ascending (each (λ t. t) l))) f)
      ∙ sym (ap (seen quiet 0) (bind_broken (counted one_text) (λ ts. require (ascending ts && has_fixed ts) ts)
      (text_count e ∙ f)))

  texts_short : u16 s p ≡ broken → texts_m s p ≡ seen quiet 0 (texts s p)
  unfolding texts counted seen has
  texts_short e = laws.no_on s p (rw (e, has)) ∙ sym
      (ap (seen quiet 0) (bind_broken (counted one_text) (λ ts. require (ascending ts && has_fixed ts) ts)
      (bind_broken u16 _ e)))

  pub sees_texts : texts_m s p ≡ seen quiet 0 (texts s p)
  sees_texts = cases (u16 s p) refl
    where
      read : (c q : ℕ) → u16 s p ≡ got c q → (g : Got (List Text)) → times c one_text s q ≡ g →
          texts_m s p ≡ seen quiet 0 (texts s p)
      read c q e (got l o) f = texts_read e f
      read c q e broken f = texts_broken e f

      cases : (g : Got ℕ) → u16 s p ≡ g → texts_m s p ≡ seen quiet 0 (texts s p)
      cases (got c q) e = read c q e (times c one_text s q) refl
      cases broken e = texts_short e
