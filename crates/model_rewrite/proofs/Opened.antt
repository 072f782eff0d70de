-- A file that decodes, part by part: what stands before its events, the events, and what follows them.
use Rattle.std.specs.Prelude.{if◌then◌else◌}
use mathlib.Core.Path.{◌≡◌, refl, sym, ap, ◌∙◌, subst}
use mathlib.Core.List.{List}
use Prim.Native.Nat.{ℕ, ◌≤◌}
use native.Mathlib.Omega.{arith}
use lib.ListN.{length}
use lib.Dec.{ltb}
use borrow.Author.Tests.{ltb-false}
use Rattle.model_spec.specs.Answer.{answer, refused}
use Rattle.model_spec.specs.Notes.{notes_of}
use Rattle.model_spec.specs.Model.{Model, Event, midnight}
use Rattle.model_spec.specs.File
use Rattle.model_spec.specs.File.{
  Got,
  got,
  broken,
  Reader,
  ◌>>=◌,
  give,
  u32,
  counted,
  or_zeros,
  limits,
  texts,
  place,
  input,
  invariant,
  automation,
  Head,
  head,
  events,
  entities,
  model,
  decoded,
  decode,
  made,
}
use Rattle.model_walk.proofs.Found.{Case, is_true, is_false, case, bound, given, u32_wide}

-- what follows the events
unfoldable pub after : Head → List Event → Reader Model
after h evs =
    counted (invariant h.texts) >>= λ is.
    counted (input h.texts) >>= λ al.
    counted u32 >>= λ gs.
    limits >>= λ ls.
    counted (automation h.texts) >>= λ rs.
    or_zeros midnight File.start >>= λ st.
    give (made h evs is al gs ls rs st)

pub model_is : (s : List ℕ) (p : ℕ) → model s p ≡ (head >>= λ h. events h >>= λ evs. after h evs) s p
unfolding model after
model_is s p = refl

pub after_events : (h : Head) (evs : List Event) (s : List ℕ) (p : ℕ) (m : Model) (q : ℕ) → after h evs s p ≡ got m q →
    m.scenario.events ≡ evs
unfolding after
after_events h evs s p m q e =
    let i = bound (counted (invariant h.texts)) _ e in
    let a = bound (counted (input h.texts)) _ i.rest in
    let g = bound (counted u32) _ a.rest in
    let l = bound limits _ g.rest in
    let r = bound (counted (automation h.texts)) _ l.rest in
    let s = bound (or_zeros midnight File.start) _ r.rest in
    ap (λ (x : Model). x.scenario.events) (sym (given _ _ _ s.rest).0)

pub record Opened (f : List ℕ) (m : Model) : Type 0 where
  pub h : Head
  pub start : ℕ
  pub end : ℕ
  pub last : ℕ
  pub is_head : head f 0 ≡ got h start
  pub are_events : events h f start ≡ got m.scenario.events end
  pub is_after : after h m.scenario.events f end ≡ got m last
  pub whole : length f ≤ last
  pub small : length f ≤ 32768
  pub few_notes : length (notes_of m) ≤ 64

never : {A : Type 0} {n : ℕ} {a : A} → refused n ≡ answer a → ⊥
never e = let z : ◌≡◌ {A = ℕ} 0 1 = cc in omega arith

same_model : {a b : Model} → answer a ≡ answer b → a ≡ b
same_model e = cc

parts : (f : List ℕ) (m : Model) (q : ℕ) → model f 0 ≡ got m q → length f ≤ q → length f ≤ 32768 → length (notes_of m) ≤ 64 →
    Opened f m
parts f m q e w s n =
    let x = bound head (λ h. events h >>= λ evs. after h evs) (sym (model_is f 0) ∙ e) in
    let y = bound (events x.value) (λ evs. after x.value evs) x.rest in
    let o = after_events x.value y.value f y.next m q y.rest in
    record {
      h = x.value;
      start = x.next;
      end = y.next;
      last = q;
      is_head = x.first;
      are_events = y.first ∙ ap (λ (l : List Event). got l y.next) (sym o);
      is_after = ap (λ (l : List Event). after x.value l f y.next) o ∙ y.rest;
      whole = w;
      small = s;
      few_notes = n;
    }

pub opened : (f : List ℕ) (m : Model) → decode f ≡ answer m → Opened f m
unfolding decode decoded
opened f m e = by (case (ltb 32768 (length f)))
  where
    ended : (n : Model) (q : ℕ) → model f 0 ≡ got n q → length f ≤ 32768 → length (notes_of n) ≤ 64 →
        Case (ltb q (length f)) →
        (if ltb q (length f) then refused 31 else answer n) ≡ answer m → Opened f m
    ended n q d s b (is_true c) e = absurd (never (rw c at e))
    ended n q d s b (is_false c) e =
        let g : answer n ≡ answer m = rw c at e in
        subst (Opened f) (same_model g) (parts f n q d (ltb-false q (length f) c) s b)

    noted : (n : Model) (q : ℕ) → model f 0 ≡ got n q → length f ≤ 32768 → Case (ltb 64 (length (notes_of n))) →
        decoded (got n q) (length f) ≡ answer m → Opened f m
    noted n q d s (is_true b) e = absurd (never (rw b at e))
    noted n q d s (is_false b) e = ended n q d s (ltb-false 64 (length (notes_of n)) b) (case (ltb q (length f))) (rw b at e)

    found : (g : Got Model) → model f 0 ≡ g → length f ≤ 32768 → decoded g (length f) ≡ answer m → Opened f m
    found (got n q) d s e = noted n q d s (case (ltb 64 (length (notes_of n)))) e
    found broken d s e = absurd (never e)

    by : Case (ltb 32768 (length f)) → Opened f m
    by (is_true b) = absurd (never (rw b at e))
    by (is_false b) = found (model f 0) refl (ltb-false 32768 (length f) b) (rw b at e)

-- ---- the head

pub record Headed (f : List ℕ) (h : Head) (start : ℕ) : Type 0 where
  pub at_title : ℕ
  pub at_entities : ℕ
  pub are_texts : texts f 4 ≡ got h.texts at_title
  pub is_title : place h.texts f at_title ≡ got h.title at_entities
  pub are_entities : entities h.texts f at_entities ≡ got h.entities start

pub headed : (f : List ℕ) (h : Head) (start : ℕ) → head f 0 ≡ got h start → Headed f h start
unfolding head
headed f h start e =
    let v = bound u32 _ e in
    let t = bound texts _ v.rest in
    let n = bound (place t.value) _ t.rest in
    let x = bound (entities t.value) _ n.rest in
    let g = given _ _ _ x.rest in
    let four : v.next ≡ 4 = omega (arith, (u32_wide f 0 v.first).ends) in
    subst (λ (y : Head). Headed f y start) g.0 (record {
      at_title = t.next;
      at_entities = n.next;
      are_texts = ap (texts f) (sym four) ∙ t.first;
      is_title = n.first;
      are_entities = x.first ∙ ap (got x.value) g.1;
    })
