-- The walk over a file says what `decode` says.
use Rattle.std.specs.Prelude.{Some, if◌then◌else◌}
use mathlib.Core.Path.{◌≡◌, refl, sym, ap, ◌∙◌, subst}
use mathlib.Core.List.{List, [], ◌∷◌}
use mathlib.Core.Bool.{Bool, true, false, ◌&&◌}
use Prim.Native.Nat.{ℕ, zero, suc, ◌+◌, ◌≤◌}
use native.Mathlib.Omega.{arith}
use native.Mathlib.Decide.{dec_lt}
use lib.ListN.{length, length-append}
use lib.Dec.{ltb}
use borrow.Author.Tests.{lt-ltb, le-ltb}
use Rattle.texts.specs.Lists.{flat, each}
use Rattle.texts.specs.Texts.{Text}
use Rattle.model_spec.specs.Answer.{Answer, answer, refused}
use Rattle.model_spec.specs.Model.{Model, Entity, midnight}
use Rattle.model_spec.specs.Notes.{of_invariant, of_rule, notes_of}
use Rattle.model_spec.specs.File.{
  Got,
  got,
  broken,
  Reader,
  ◌>>=◌,
  give,
  u16,
  u32,
  times,
  counted,
  or_zeros,
  start,
  limits,
  texts,
  one_text,
  place,
  entity,
  entities,
  event,
  invariant,
  input,
  automation,
  Head,
  head,
  events,
  model,
  decoded,
  decode,
  ascending,
  has_fixed,
  require,
  made,
}
use Rattle.model_walk.specs.Walk.{Walked, capped, seen, Walk, place_m, bytes_m, or_zeros_m}
use Rattle.model_walk.proofs.Laws.{bind_got, bind_broken, u32_in, u32_out}
use Rattle.model_walk.proofs.Refines.{
  Sees,
  bind,
  last,
  quiet,
  marks,
  sees_counted,
  sees_place,
  sees_u32,
  sees_zeros,
  bytes_sum,
}
use Rattle.model_parts.specs.declared.Section.{Section}
use Rattle.model_parts.specs.declared.Part.TheVariants as part
use Rattle.model_parts.specs.Parts.{part_m, section_m, text_m, entity_m, event_m, invariant_m, input_m, rule_m}
use Rattle.model_parts.specs.Stand.{Reads}
use Rattle.model_parts.proofs.Refines.{sees_text, sees_entity, sees_event, sees_invariant, sees_input, sees_rule}
use Rattle.model_parts.proofs.Stands.{more, section_ends, section_counts, section_stands}
use Rattle.model_order.specs.Order.{ascending_m, texts_m}
use Rattle.model_order.proofs.Refines.{sees_texts, sees_entities}
use Rattle.model_index.specs.declared.File.{File}
use Rattle.model_index.specs.declared.Status.TheVariants as status
use Rattle.model_index.specs.declared.Index.{Index}
use Rattle.model_index.specs.Index.{refused_m, on, on_section, given, closed, rest_m, body_m, read_m}
use Rattle.model_index.specs.Indexed.{Holds, Indexed, Says}
use Rattle.model_index.proofs.Laws as laws

-- ---- sections that were read

module _ {A : Type 0} (r : Reader A) (s : List ℕ) where
  times_length : (i p : ℕ) (l : List A) (q : ℕ) → times i r s p ≡ got l q → length l ≡ i
  unfolding times give
  times_length zero p l q h = let z : l ≡ [] = cc in ap length z
  times_length (suc i) p l q h = let m = more r s i p h in
      ap length m.both ∙ ap suc (times_length i m.after m.others q m.are_others)

  pub record Counted (p q : ℕ) (l : List A) : Type 0 where
    pub c : ℕ
    pub o : ℕ
    pub is_count : u16 s p ≡ got c o
    pub are_times : times c r s o ≡ got l q

  split : (p : ℕ) {l : List A} {q : ℕ} → counted r s p ≡ got l q → Counted p q l
  unfolding counted
  split p {l} {q} e = cases (u16 s p) refl
    where
      cases : (g : Got ℕ) → u16 s p ≡ g → Counted p q l
      cases (got c o) d = record { c = c; o = o; is_count = d; are_times = sym (bind_got u16 (λ n. times n r) d) ∙ e }
      cases broken d = let z : ◌≡◌ {A = ℕ} 0 1 = cc (bind_broken u16 (λ n. times n r) d) in absurd (omega arith)

module _ {A : Type 0} (w : A → ℕ) (r : Reader A) (k : Walk) (e : Sees w r k) (s : List ℕ) where
  holds : (p n : ℕ) {l : List A} {q : ℕ} → counted r s p ≡ got l q → Holds r s (section_m k s p (capped n)) l
  holds p n {l} {q} h =
      let x = split r s p h in
      record {
        counts = section_counts k s p (capped n) x.is_count ∙ sym (times_length r s x.c x.o l q x.are_times);
        stand = section_stands w r k e s p n x.is_count l q x.are_times;
      }

-- ---- one reader, and then the others

-- a file is read to the index of the model, or it is refused
abbrev Finds : List ℕ → File → Answer Model → Type 0
Finds s r (answer m) = (r.status ≡ status.Read) × Indexed s r.index m
Finds s r (refused n) = r ≡ refused_m n

module _ (s : List ℕ) (size : ℕ) where
  module _ {A : Type 0} (v : A → ℕ) (n : ℕ) (r : Reader A) (p : ℕ) (k : A → Reader Model) where
    pub on_bind : (w : Walked) → w ≡ seen v n (r s p) → (f : ℕ → ℕ → File) →
        ((a : A) (q : ℕ) → r s p ≡ got a q → Finds s (f q (capped (n + v a))) (decoded (k a s q) size)) →
        Finds s (on w f) (decoded ((r >>= k) s p) size)
    unfolding on seen decoded
    on_bind w e f h = cases (r s p) refl
      where
        cases : (g : Got A) → r s p ≡ g → Finds s (on w f) (decoded ((r >>= k) s p) size)
        cases (got a q) d = subst (λ (x : File). Finds s x (decoded ((r >>= k) s p) size))
            (sym (ap (λ (y : Walked). on y f) (e ∙ ap (seen v n) d)))
            (subst (λ (y : Got Model). Finds s (f q (capped (n + v a))) (decoded y size)) (sym (bind_got r k d)) (h a q d))
        cases broken d = subst (λ (x : File). Finds s x (decoded ((r >>= k) s p) size))
            (sym (ap (λ (y : Walked). on y f) (e ∙ ap (seen v n) d)))
            (subst (λ (y : Got Model). Finds s (refused_m 30) (decoded y size)) (sym (bind_broken r k d)) refl)

  -- a section: its reader is a count and its parts
  pub sec_bind : {A : Type 0} (v : A → ℕ) (u : List A → ℕ) → u [] ≡ 0 → ((x : A) (l : List A) → u (x ∷ l) ≡ v x + u l) →
      (r : Reader A) (j : Walk) → Sees v r j → (n p : ℕ) (k : List A → Reader Model) (f : Section → ℕ → ℕ → File) →
      ((l : List A) (q : ℕ) → (section_m j s p (capped n)).end ≡ Some (q, capped (n + u l)) →
      Holds r s (section_m j s p (capped n)) l → Finds s (f (section_m j s p (capped n)) q (capped (n + u l)))
      (decoded (k l s q) size)) →
      Finds s (on_section (section_m j s p (capped n)) f) (decoded ((counted r >>= k) s p) size)
  unfolding on_section seen
  sec_bind v u z c r j e n p k f h =
      let w = section_ends j s p (capped n) ∙ sees_counted v u z c r j e n s p in
      on_bind u n (counted r) p k (section_m j s p (capped n)).end w (f (section_m j s p (capped n)))
      (λ l q d. h l q (w ∙ ap (seen u n) d) (holds v r j e s p n d))

-- ---- what a text section's reader found

bind_assoc : {A B C : Type 0} (r : Reader A) (f : A → Reader B) (k : B → Reader C) (s : List ℕ) (p : ℕ) →
    ((r >>= f) >>= k) s p ≡ (r >>= λ a. f a >>= k) s p
unfolding ◌>>=◌
bind_assoc {A} r f k s p = cases (r s p)
  where
    cases : (g : Got A) → (((λ _ _. g) >>= f) >>= k) s p ≡ ((λ _ _. g) >>= λ a. f a >>= k) s p
    cases (got a q) = refl
    cases broken = refl

-- a value that passed its test
module _ {A : Type 0} (r : Reader A) (t : A → Bool) (s : List ℕ) (p : ℕ) where
  record Passed (a : A) (q : ℕ) : Type 0 where
    pub read : r s p ≡ got a q
    pub holds : t a ≡ true

  passed : {a : A} {q : ℕ} → (r >>= λ x. require (t x) x) s p ≡ got a q → Passed a q
  unfolding require
  passed {a} {q} e = cases (r s p) refl
    where
      tested : (x : A) (o : ℕ) → r s p ≡ got x o → (b : Bool) → t x ≡ b → (if b then got x o else broken) ≡ got a q →
          Passed a q
      tested x o d true b h = let z : x ≡ a = cc in record { read = d ∙ h; holds = subst (λ (y : A). t y ≡ true) z b }
      tested x o d false b h = let z : ◌≡◌ {A = ℕ} 0 1 = cc in absurd (omega arith)

      cases : (g : Got A) → r s p ≡ g → Passed a q
      cases (got x o) d = tested x o d (t x) refl (sym (bind_got r (λ x. require (t x) x) d) ∙ e)
      cases broken d = let z : ◌≡◌ {A = ℕ} 0 1 = cc (bind_broken r (λ x. require (t x) x) d) in absurd (omega arith)

pub and_true : (a b : Bool) → (a && b) ≡ true → a ≡ true
and_true true b h = refl
and_true false b h = h

texts_passed : (s : List ℕ) (p : ℕ) {ts : List Text} {q : ℕ} → texts s p ≡ got ts q →
    Passed (counted one_text) (λ l. ascending l && has_fixed l) s p ts q
unfolding texts
texts_passed s p e = passed (counted one_text) (λ l. ascending l && has_fixed l) s p e

entities_passed : (ts : List Text) (s : List ℕ) (p : ℕ) {es : List Entity} {q : ℕ} → entities ts s p ≡ got es q →
    Passed (counted (entity ts)) (λ l. ascending (each (λ e. e.name) l)) s p es q
unfolding entities
entities_passed ts s p e = passed (counted (entity ts)) (λ l. ascending (each (λ e. e.name) l)) s p e

sees_limits : Sees quiet limits (bytes_m 16)
unfolding limits
sees_limits n s p =
    bytes_sum 4 12 s p (capped n)
    ∙ bind quiet n n quiet u32 (bytes_m 4) sees_u32 _ (bytes_m 12) (λ h s p.
    bytes_sum 4 8 s p (capped (n + 0))
    ∙ bind quiet n (n + 0) quiet u32 (bytes_m 4) sees_u32 _ (bytes_m 8) (λ m s p.
    bytes_sum 4 4 s p (capped (n + 0 + 0))
    ∙ bind quiet n (n + 0 + 0) quiet u32 (bytes_m 4) sees_u32 _ (bytes_m 4) (λ d.
    last quiet n (n + 0 + 0 + 0) quiet u32 (bytes_m 4) sees_u32 _ (λ c. omega arith)) s p) s p) s p

sees_start : Sees quiet start (bytes_m 8)
unfolding start
sees_start n s p =
    bytes_sum 4 4 s p (capped n)
    ∙ bind quiet n n quiet u32 (bytes_m 4) sees_u32 _ _
    (λ w. last quiet n (n + 0) quiet u32 (bytes_m 4) sees_u32 _ (λ c. omega arith)) s p

-- ---- notes

flat_nil : {A : Type 0} (f : A → List Text) → length (flat f []) ≡ 0
unfolding flat
flat_nil f = refl

flat_more : {A : Type 0} (f : A → List Text) (x : A) (l : List A) →
    length (flat f (x ∷ l)) ≡ length (f x) + length (flat f l)
unfolding flat
flat_more f x l = length-append (f x) (flat f l)

in_model : (m : Model) → length (notes_of m) ≡ length (flat of_invariant m.scenario.invariants) + length
    (flat of_rule m.rules)
unfolding notes_of
in_model m = length-append (flat of_invariant m.scenario.invariants) (flat of_rule m.rules)

capped_test : (n : ℕ) → ltb 64 (capped n) ≡ ltb 64 n
unfolding capped
capped_test n = elim (dec_lt 64 n) [
  | yes h ↦ rw (lt-ltb 64 n h)
  | no h ↦ rw (le-ltb 64 n (omega arith)) (le-ltb 64 n (omega arith))
]

-- the end of the file
ends : (s : List ℕ) (p n : ℕ) (i : Index) (m : Model) → n ≡ length (notes_of m) → Indexed s i m →
    Finds s (closed s p (capped n) i) (decoded (got m p) (length s))
unfolding closed decoded
ends s p n i m e x = rw (capped_test n, e) (cases (ltb 64 (length (notes_of m))) (ltb p (length s)))
  where
    cases : (a b : Bool) → Finds s (if a then refused_m 30 else if b then refused_m 31
        else record { status = status.Read; index = i }) (if a then refused 30 else if b then refused 31 else answer m)
    cases true b = refl
    cases false true = refl
    cases false false = (refl, x)

-- ---- the body

body_with : (c : ℕ) (s : List ℕ) (v : ℕ) (x : Section) (at : ℕ) → x.count ≡ c → body_m s v x at ≡ (
    on (place_m c s at 0) λ p₀ n₀.
    on (ascending_m c part.Entity false s p₀) λ p₁ n₁.
    given (section_m (part_m c part.Entity) s p₀ 0) λ entities.
    on_section (section_m (part_m c part.Event) s p₁ 0) λ events p₂ n₂.
    on_section (section_m (part_m c part.Invariant) s p₂ n₂) λ invariants p₃ n₃.
    on_section (section_m (part_m c part.Input) s p₃ n₃) λ alphabet p₄ n₄.
    on_section (section_m (part_m c part.Gap) s p₄ n₄) λ gaps p₅ n₅.
    on (bytes_m 16 s p₅ n₅) λ p₆ n₆.
    on_section (section_m (part_m c part.Rule) s p₆ n₆) λ rules p₇ n₇.
    on (or_zeros_m (bytes_m 8) s p₇ n₇) λ p₈ n₈.
    closed s p₈ n₈ (record {
      version = v;
      texts = x;
      title = at;
      entities = entities;
      events = events;
      invariants =
          invariants;
      alphabet = alphabet;
      gaps = gaps;
      limits = p₅;
      rules = rules;
    })
    )
unfolding body_m rest_m
body_with c s v x at e = subst (λ (d : ℕ). body_m s v x at ≡ (
    on (place_m d s at 0) λ p₀ n₀.
    on (ascending_m d part.Entity false s p₀) λ p₁ n₁.
    given (section_m (part_m d part.Entity) s p₀ 0) λ entities.
    on_section (section_m (part_m d part.Event) s p₁ 0) λ events p₂ n₂.
    on_section (section_m (part_m d part.Invariant) s p₂ n₂) λ invariants p₃ n₃.
    on_section (section_m (part_m d part.Input) s p₃ n₃) λ alphabet p₄ n₄.
    on_section (section_m (part_m d part.Gap) s p₄ n₄) λ gaps p₅ n₅.
    on (bytes_m 16 s p₅ n₅) λ p₆ n₆.
    on_section (section_m (part_m d part.Rule) s p₆ n₆) λ rules p₇ n₇.
    on (or_zeros_m (bytes_m 8) s p₇ n₇) λ p₈ n₈.
    closed s p₈ n₈ (record {
      version = v;
      texts = x;
      title = at;
      entities = entities;
      events = events;
      invariants =
          invariants;
      alphabet = alphabet;
      gaps = gaps;
      limits = p₅;
      rules = rules;
    })
    )) e refl

-- what follows the head
after : Head → Reader Model
after h =
    events h >>= λ evs.
    counted (invariant h.texts) >>= λ is.
    counted (input h.texts) >>= λ al.
    counted u32 >>= λ gs.
    limits >>= λ ls.
    counted (automation h.texts) >>= λ rs.
    or_zeros midnight start >>= λ st.
    give (made h evs is al gs ls rs st)

module _ (s : List ℕ) (ts : List Text) (v at : ℕ) (x : Section) where
  body_says : ascending ts ≡ true → x.count ≡ length ts → Reads texts s 4 ts → Holds one_text s x ts →
      Finds s (body_m s v x at)
      (decoded ((place ts >>= λ t. entities ts >>= λ es. after
      (record { version = v; texts = ts; title = t; entities = es })) s at) (length s))
  unfolding part_m given capped after events give
  body_says asc e rt ht =
      subst (λ (y : File). Finds s y
      (decoded ((place ts >>= λ t. entities ts >>= λ es. after
      (record { version = v; texts = ts; title = t; entities = es })) s at) (length s)))
      (sym (body_with (length ts) s v x at e)) (
      on_bind s (length s) quiet 0 (place ts) at _ _ (sees_place ts 0 s at) _ λ t p₀ at_title.
      on_bind s (length s) quiet 0 (entities ts) p₀ _ _ (sees_entities ts asc s p₀) _ λ es p₁ are_entities.
      sec_bind s (length s) quiet quiet refl (λ x l. refl) (event ts) (event_m (length ts)) (sees_event ts)
      0 p₁ _ _ λ evs p₂ _ h-events.
      sec_bind s (length s) (marks of_invariant) (marks (flat of_invariant)) (flat_nil of_invariant) (flat_more of_invariant)
      (invariant ts) (invariant_m (length ts)) (sees_invariant ts) (0 + 0) p₂ _ _ λ is p₃ _ h-invariants.
      sec_bind s (length s) quiet quiet refl (λ x l. refl) (input ts) (input_m (length ts)) (sees_input ts)
      (0 + 0 + length (flat of_invariant is)) p₃ _ _ λ al p₄ _ h-alphabet.
      sec_bind s (length s) quiet quiet refl (λ x l. refl) u32 (bytes_m 4) sees_u32
      (0 + 0 + length (flat of_invariant is) + 0) p₄ _ _ λ gs p₅ _ h-gaps.
      on_bind s (length s) quiet (0 + 0 + length (flat of_invariant is) + 0 + 0) limits p₅ _ _
      (sees_limits (0 + 0 + length (flat of_invariant is) + 0 + 0) s p₅) _ λ ls p₆ at-limits.
      sec_bind s (length s) (marks of_rule) (marks (flat of_rule)) (flat_nil of_rule) (flat_more of_rule) (automation ts)
      (rule_m (length ts)) (sees_rule ts) (0 + 0 + length (flat of_invariant is) + 0 + 0 + 0)
      p₆ _ _ λ rs p₇ rules_end h-rules.
      on_bind s (length s) quiet (0 + 0 + length (flat of_invariant is) + 0 + 0 + 0 + length (flat of_rule rs))
      (or_zeros midnight start) p₇ _ _ (sees_zeros quiet midnight start (bytes_m 8) refl sees_start
      (0 + 0 + length (flat of_invariant is) + 0 + 0 + 0 + length (flat of_rule rs)) s p₇) _ λ st p₈ at_start.
      ends s p₈ (0 + 0 + length (flat of_invariant is) + 0 + 0 + 0 + length (flat of_rule rs) + 0) _
      (made (record { version = v; texts = ts; title = t; entities = es }) evs is al gs ls rs st)
      (omega (arith, in_model (made (record { version = v; texts = ts; title = t; entities = es }) evs is al gs ls rs st)))
      (record {
        ts = ts;
        all_texts = rt;
        each_text = ht;
        version = refl;
        title = (p₀, at_title);
        entities = holds quiet (entity ts) (entity_m (length ts)) (sees_entity ts) s p₀ 0
            (entities_passed ts s p₀ are_entities).read;
        names = (entities_passed ts s p₀ are_entities).holds;
        events = h-events;
        invariants = h-invariants;
        alphabet = h-alphabet;
        gaps = h-gaps;
        limits_at = (p₆, at-limits);
        rules = h-rules;
        behind_rules = p₇;
        notes = _;
        rules_end = rules_end;
        start_at = (p₈, at_start);
      }))

-- ---- the whole file

bind_same : {A B : Type 0} (r : Reader A) (f g : A → Reader B) → ((a : A) (s : List ℕ) (p : ℕ) → f a s p ≡ g a s p) →
    (s : List ℕ) (p : ℕ) → (r >>= f) s p ≡ (r >>= g) s p
unfolding ◌>>=◌
bind_same {A} r f g h s p = cases (r s p)
  where
    cases : (x : Got A) → ((λ _ _. x) >>= f) s p ≡ ((λ _ _. x) >>= g) s p
    cases (got a q) = h a s q
    cases broken = refl

-- the head's parts, one after the other
abbrev headed : ℕ → List Text → Text → List Entity → Head
headed v ts t es = record { version = v; texts = ts; title = t; entities = es }

abbrev flat₃ : ℕ → List Text → Text → Reader Model
flat₃ v ts t = entities ts >>= λ es. after (headed v ts t es)

abbrev flat₂ : ℕ → List Text → Reader Model
flat₂ v ts = place ts >>= λ t. flat₃ v ts t

abbrev flat₁ : ℕ → Reader Model
flat₁ v = texts >>= λ ts. flat₂ v ts

abbrev head₃ : ℕ → List Text → Text → Reader Head
head₃ v ts t = entities ts >>= λ es. give (headed v ts t es)

abbrev head₂ : ℕ → List Text → Reader Head
head₂ v ts = place ts >>= λ t. head₃ v ts t

abbrev head₁ : ℕ → Reader Head
head₁ v = texts >>= λ ts. head₂ v ts

given_after : (h : Head) (s : List ℕ) (p : ℕ) → (give h >>= after) s p ≡ after h s p
unfolding ◌>>=◌ give
given_after h s p = refl

model_is : (s : List ℕ) (p : ℕ) → model s p ≡ ((u32 >>= λ v. head₁ v) >>= after) s p
unfolding model head after
model_is s p = refl

model_flat : (s : List ℕ) (p : ℕ) → model s p ≡ (u32 >>= λ v. flat₁ v) s p
model_flat s p =
    model_is s p
    ∙ bind_assoc u32 (λ v. head₁ v) after s p
    ∙ bind_same u32 (λ v. head₁ v >>= after) (λ v. flat₁ v) (λ v s p. bind_assoc texts (λ ts. head₂ v ts) after s p
    ∙ bind_same texts (λ ts. head₂ v ts >>= after) (λ ts. flat₂ v ts)
    (λ ts s p. bind_assoc (place ts) (λ t. head₃ v ts t) after s p
    ∙ bind_same (place ts) (λ t. head₃ v ts t >>= after) (λ t. flat₃ v ts t)
    (λ t s p. bind_assoc (entities ts) (λ es. give (headed v ts t es)) after s p
    ∙ bind_same (entities ts) (λ es. give (headed v ts t es) >>= after) (λ es. after (headed v ts t es))
    (λ es s p. given_after (headed v ts t es) s p) s p) s p) s p) s p

u32_next : (s : List ℕ) {v p : ℕ} → u32 s 0 ≡ got v p → p ≡ 4
u32_next s {v} {p} e = elim (dec_lt (length s) 4) [
  | yes h ↦ let z : ◌≡◌ {A = ℕ} 0 1 = cc (u32_out s 0 h) in absurd (omega arith)
  | no h ↦ cc (u32_in s 0 (omega arith))
]

read_short : (s : List ℕ) → u32 s 0 ≡ broken → length s ≤ 32768 → read_m s ≡ refused_m 30
unfolding read_m
read_short s e h = rw (le-ltb 32768 (length s) h, e, read_m)

read_on : (s : List ℕ) {v p : ℕ} → u32 s 0 ≡ got v p → length s ≤ 32768 →
    read_m s ≡ on (texts_m s p) (λ p₁ n₁. body_m s v (section_m (part_m 0 part.Text) s p 0) p₁)
unfolding read_m given
read_on s e h = rw (le-ltb 32768 (length s) h, e, read_m)

text_holds : (s : List ℕ) (p : ℕ) {ts : List Text} {q : ℕ} → texts s p ≡ got ts q →
    Holds one_text s (section_m (part_m 0 part.Text) s p 0) ts
unfolding part_m capped
text_holds s p e = holds quiet one_text text_m sees_text s p 0 (texts_passed s p e).read

texts_ascend : (s : List ℕ) (p : ℕ) {ts : List Text} {q : ℕ} → texts s p ≡ got ts q → ascending ts ≡ true
texts_ascend s p {ts} e = and_true (ascending ts) (has_fixed ts) (texts_passed s p e).holds

small : (s : List ℕ) → length s ≤ 32768 → Finds s (read_m s) (decoded (model s 0) (length s))
unfolding decoded
small s h = subst (λ (y : Got Model). Finds s (read_m s) (decoded y (length s))) (sym (model_flat s 0)) (cases (u32 s 0) refl)
  where
    cases : (g : Got ℕ) → u32 s 0 ≡ g → Finds s (read_m s) (decoded ((u32 >>= λ v. flat₁ v) s 0) (length s))
    cases (got v p) e =
        subst (λ (y : File). Finds s y (decoded ((u32 >>= λ v. flat₁ v) s 0) (length s))) (sym (read_on s e h))
        (subst (λ (y : Got Model). Finds s (on (texts_m s p) (λ p₁ n₁. body_m s v (section_m (part_m 0 part.Text) s p 0) p₁))
        (decoded y (length s))) (sym (bind_got u32 (λ v. flat₁ v) e))
        (on_bind s (length s) quiet 0 texts p (λ ts. flat₂ v ts) (texts_m s p) (sees_texts s p)
        (λ p₁ n₁. body_m s v (section_m (part_m 0 part.Text) s p 0) p₁)
        (λ ts q d. body_says s ts v q (section_m (part_m 0 part.Text) s p 0) (texts_ascend s p d) (text_holds s p d).counts
        (q, ap (texts s) (sym (u32_next s e)) ∙ d) (text_holds s p d))))
    cases broken e =
        subst (λ (y : File). Finds s y (decoded ((u32 >>= λ v. flat₁ v) s 0) (length s))) (sym (read_short s e h))
        (subst (λ (y : Got Model). Finds s (refused_m 30) (decoded y (length s))) (sym (bind_broken u32 (λ v. flat₁ v) e))
        refl)

whole : (s : List ℕ) → Finds s (read_m s) (decode s)
unfolding decode
whole s = elim (dec_lt 32768 (length s)) [
  | yes h ↦ rw (lt-ltb 32768 (length s) h) (laws.too_long s h)
  | no h ↦ rw (le-ltb 32768 (length s) (omega arith)) (small s (omega arith))
]

pub says : (s : List ℕ) {r : File} → r ≡ read_m s → Says s r (decode s)
says s {r} e = by (decode s) (subst (λ (y : File). Finds s y (decode s)) (sym e) (whole s))
  where
    by : (a : Answer Model) → Finds s r a → Says s r a
    by (answer m) (d, i) = record { whole = e; is_read = d; indexed = i }
    by (refused n) d = d
