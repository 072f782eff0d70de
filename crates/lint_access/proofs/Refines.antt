-- The sets hold the entities that the definition's lists name.
use Rattle.std.specs.Prelude.{if◌then◌else◌}
use mathlib.Core.Path.{◌≡◌, refl, sym, ap, ◌∙◌, subst}
use mathlib.Core.Bool.{Bool, true, false, ◌||◌, ◌&&◌, or_assoc}
use mathlib.Core.List.{List, [], ◌∷◌, ◌++◌, append-nil}
use mathlib.Core.Option.{Option, none, some}
use Prim.Native.Nat.{ℕ, zero, suc, ◌+◌, ◌-◌, ◌<◌, ◌≤◌}
use native.Mathlib.Omega.{arith}
use native.Mathlib.Nat.{add-zero, zero-add}
use lib.Seq.{get_or-take}
use native.Mathlib.Decide.{dec_lt}
use lib.Dec.{eqb, ltb}
use lib.ListN.{length, get_or}
use borrow.Author.Tests.{lt-ltb, le-ltb, eq-eqb, ne_eqb, eqb-true}
use Rattle.texts.proofs.Bool.{or_false}
use Rattle.engine_spec.proofs.Bounds.{length_each}
use Rattle.texts.specs.Lists.{absent, listed, keep, each, flat}
use Rattle.texts.specs.Texts.{Text, eq_t, mem_t, sorted_t}
use mathlib.Core.Logic.{◌⊎◌, inl, inr}
use Rattle.texts.proofs.Ordering.{lt_or_ge, not_both, eq_is, is_eq, eq_no, no_eq, eq_sym}
use Rattle.model_spec.specs.Model.{
  observational,
  Entity,
  Predicate,
  Trigger,
  Effect,
  toggle,
  delay,
  condition,
  choose,
  wait,
  Branches,
  Automation,
}
use Rattle.model_spec.specs.File.{got, Reader, u16, times, counted, predicate, trigger, entity, branches, actions}
use Rattle.model_walk.proofs.Found.{
  Case,
  is_true,
  is_false,
  case,
  bound,
  given,
  u16_wide,
  counted_found,
  Value?,
  entity_found,
}
use Rattle.model_walk.proofs.Found as found
use Rattle.model_parts.specs.declared.Section.{Section}
use Rattle.model_parts.specs.Stand.{Stand}
use Rattle.model_parts.proofs.Stands.{more}
use Rattle.model_check.specs.Checks.{place_is, first_from, number_of}
use Rattle.lint_spec.specs.Reach.{places}
use Rattle.lint_spec.specs.Touches.{
  Action,
  conditions_of,
  write,
  predicate_reads,
  effect_reads,
  written_by,
  reads_of,
  writes_of,
}
use Rattle.lint_spec.specs.Touches as touches
use Rattle.lint_reach.specs.Sets.{holds, members}
use Rattle.lint_reach.proofs.Bits.{holds_with, holds_none, keep_none, keep_append, places_more}
use Rattle.lint_walk.specs.declared.Walk.{Walk}
use Rattle.lint_walk.specs.Raw.{place_m, past, predicate_end, predicates_end, kind_m, triggers_m, conditions_m}
use Rattle.lint_walk.specs.Walks.{list_end}
use Rattle.lint_walk.proofs.Found.{
  past_is,
  place_got,
  PredicateAt,
  state_at,
  note_at,
  window_at,
  predicate_found,
  predicate_ends,
  predicates_end_lem,
  TriggerAt,
  trigger_at,
  EffectAt,
  set_at,
  toggle_at,
  delay_at,
  condition_at,
  choose_at,
  wait_at,
  unknown_at,
  ActionAt,
  RuleAt,
}
use Rattle.lint_walk.proofs.Refines.{Filled, ActionsAt, no_action, action, Walked, list_ends}
use Rattle.lint_access.specs.Names.{name_at}
use Rattle.lint_access.specs.Sets.{
  Adds,
  over,
  along,
  add_entity_m,
  add_predicate_m,
  add_predicates_m,
  add_trigger_m,
  add_triggers_m,
  add_reads_m,
  add_write_m,
  reads_m,
  writes_m,
}
use Rattle.lint_access.proofs.Laws as laws
use Rattle.lint_access.proofs.Rising.{
  Above,
  over_none,
  over_one,
  Rising,
  rise_none,
  rise,
  mem_cons,
  mem_none,
  mem_append,
  rising_sorted,
  mem_sorted,
  unique,
  rising_before,
  above_not,
}

-- what the file declares: its texts ascend, its entities stand where the section says, and their names ascend
pub record Grounds (s : List ℕ) (e : Section) (ts : List Text) (es : List Entity) : Type 0 where
  pub same : (i j : ℕ) → i < length ts → j < length ts → eq_t (get_or ts i []) (get_or ts j []) ≡ eqb i j
  pub counts : e.count ≡ length es
  pub few : length es ≤ 32
  pub stand : Stand (entity ts) s e.starts es
  pub rising : Rising (each (λ e. e.name) es)

no_entity : Entity
no_entity = record { name = []; domain = []; initial = []; tier = observational; stale_after = none }

each_at : {A : Type 0} (f : A → Text) (d : A) (l : List A) (j : ℕ) → j < length l → get_or (each f l) j [] ≡ f (get_or l j d)
unfolding each
each_at f d [] j h = absurd (omega arith)
each_at f d (x ∷ l) zero h = refl
each_at f d (x ∷ l) (suc j) h = each_at f d l j (omega arith)

pub each_append : {A B : Type 0} (f : A → B) (l m : List A) → each f (l ++ m) ≡ each f l ++ each f m
unfolding each
each_append f [] m = refl
each_append f (x ∷ l) m = ap (λ (y : List _). f x ∷ y) (each_append f l m)

-- ---- the number of a name

record Firsts (starts : List ℕ) (x : ℕ) (s : List ℕ) (left i r : ℕ) : Type 0 where
  low : i ≤ r
  high : r ≤ i + left
  ahead : (j : ℕ) → i ≤ j → j < r → place_is s (get_or starts j 0) x ≡ false
  here : r < i + left → place_is s (get_or starts r 0) x ≡ true

firsts : (starts : List ℕ) (x : ℕ) (s : List ℕ) (left i : ℕ) → Firsts starts x s left i (first_from starts x s left i)
unfolding first_from
firsts starts x s zero i = record {
  low = omega arith;
  high = omega arith;
  ahead = λ j h k. absurd (omega arith);
  here =
      λ h. absurd (omega arith);
}
firsts starts x s (suc left) i = cases (case (place_is s (get_or starts i 0) x)) (firsts starts x s left (i + 1))
  where
    cases : Case (place_is s (get_or starts i 0) x) → Firsts starts x s left (i + 1) (first_from starts x s left (i + 1)) →
        Firsts starts x s (suc left) i (first_from starts x s (suc left) i)
    cases (is_true h) f =
        rw (h, first_from) (record {
          low = omega arith;
          high = omega arith;
          ahead = λ j a b. absurd (omega arith);
          here =
              λ b. h;
        })
    cases (is_false h) f = rw (h, first_from) (record {
      low = omega (arith, f.low);
      high = omega (arith, f.high);
      ahead = λ j a b. elim (dec_lt i j) [
        | yes c ↦ f.ahead j (omega arith) b
        | no c ↦ let z : j ≡ i = omega arith in
            rw z h
      ];
      here = λ b. f.here (omega arith);
    })

module _ (s : List ℕ) (e : Section) (ts : List Text) (es : List Entity) (g : Grounds s e ts es) where
  abbrev T : ℕ → Text
  T x = get_or ts x []

  name_is : (x j : ℕ) → x < length ts → j < length es → place_is s (get_or e.starts j 0) x ≡ eq_t (name_at es j) (T x)
  unfolding place_is name_at
  name_is x j h k =
      let r = g.stand no_entity j (omega (arith, g.few)) k in
      let n = (entity_found ts r.1).name in
      rw (n.is_place, place_is) (sym (g.same n.at x n.is_in h)
      ∙ ap (λ (y : Text). eq_t y (T x)) (sym n.is_text ∙ sym (each_at (λ e. e.name) no_entity es j k)))

  -- two entities with one name are one
  pub name_once : (i j : ℕ) → i < length es → j < length es → eq_t (name_at es i) (name_at es j) ≡ eqb i j
  unfolding name_at
  name_once i j h k = elim (dec_lt i j) [
    | yes l ↦ eq_no (rising_before (each (λ e. e.name) es) g.rising i j l (rw (length_each (λ e. e.name) es) k))
        ∙ sym (ne_eqb i j (λ z. omega arith))
    | no l ↦ elim (dec_lt j i) [
      | yes m ↦ no_eq (rising_before (each (λ e. e.name) es) g.rising j i m (rw (length_each (λ e. e.name) es) h))
          ∙ sym (ne_eqb i j (λ z. omega arith))
      | no m ↦ let z : i ≡ j = omega arith in is_eq (ap (λ (n : ℕ). get_or (each (λ e. e.name) es) n []) z)
          ∙ sym (eq-eqb i j z)
    ]
  ]

  -- the number of a declared name, and of one that isn't declared
  pub number_at : (x j : ℕ) → x < length ts → j < length es → name_at es j ≡ T x → number_of e x s ≡ j
  number_at x j h k n = cases (lt_or_ge (number_of e x s) e.count)
    where
      f : Firsts e.starts x s e.count 0 (number_of e x s)
      f = firsts e.starts x s e.count 0

      cases : (number_of e x s < e.count) ⊎ (e.count ≤ number_of e x s) → number_of e x s ≡ j
      cases (inl b) =
          let l : number_of e x s < length es = omega (arith, g.counts) in
          let a : eq_t (name_at es (number_of e x s)) (T x) ≡ true =
          sym (name_is x (number_of e x s) h l) ∙ f.here (omega arith) in
          eqb-true (number_of e x s) j (sym (name_once (number_of e x s) j l k) ∙ ap (eq_t (name_at es (number_of e x s))) n
          ∙ a)
      cases (inr b) =
          absurd (not_both (sym (name_is x j h k) ∙ f.ahead j (omega arith) (omega (arith, g.counts))) (is_eq n))

  pub number_none : (x : ℕ) → x < length ts → ((j : ℕ) → j < length es → eq_t (name_at es j) (T x) ≡ false) →
      e.count ≤ number_of e x s
  number_none x h n = cases (lt_or_ge (number_of e x s) e.count)
    where
      f : Firsts e.starts x s e.count 0 (number_of e x s)
      f = firsts e.starts x s e.count 0

      cases : (number_of e x s < e.count) ⊎ (e.count ≤ number_of e x s) → e.count ≤ number_of e x s
      cases (inl b) =
          let l : number_of e x s < length es = omega (arith, g.counts) in
          absurd (not_both (n (number_of e x s) l) (sym (name_is x (number_of e x s) h l) ∙ f.here (omega arith)))
      cases (inr b) = b

  -- ---- what is added

  -- no place is held past the last entity
  unfoldable pub Inside : ℕ → Type 0
  Inside set = (j : ℕ) → length es ≤ j → j < 32 → holds set j ≡ false

  -- the j-th entity is declared, and its name is among the texts
  unfoldable pub mem_n : ℕ → List Text → Bool
  mem_n j l = ltb j (length es) && mem_t (name_at es j) l

  pub mem_in : (j : ℕ) (l : List Text) → j < length es → mem_n j l ≡ mem_t (name_at es j) l
  unfolding mem_n
  mem_in j l h = rw (lt-ltb j (length es) h)

  pub mem_out : (j : ℕ) (l : List Text) → length es ≤ j → mem_n j l ≡ false
  unfolding mem_n
  mem_out j l h = rw (le-ltb j (length es) h)

  pub mem_n_none : (j : ℕ) → mem_n j [] ≡ false
  unfolding mem_n
  mem_n_none j = rw (mem_none (name_at es j)) (go (ltb j (length es)))
    where
      go : (b : Bool) → (b && false) ≡ false
      go true = refl
      go false = refl

  pub mem_n_append : (j : ℕ) (l m : List Text) → mem_n j (l ++ m) ≡ (mem_n j l || mem_n j m)
  unfolding mem_n
  mem_n_append j l m = rw (mem_append (name_at es j) l m)
      (go (ltb j (length es)) (mem_t (name_at es j) l) (mem_t (name_at es j) m))
    where
      go : (a b c : Bool) → (a && (b || c)) ≡ ((a && b) || (a && c))
      go true b c = refl
      go false b c = refl

  -- the change adds the declared entities among the texts
  unfoldable pub Puts : Adds → List Text → Type 0
  Puts f l = (set j : ℕ) → holds (f set) j ≡ (holds set j || mem_n j l)

  pub puts_none : Puts (λ set. set) []
  unfolding Puts
  puts_none set j = sym (ap (λ (b : Bool). holds set j || b) (mem_n_none j) ∙ or_false (holds set j))

  pub puts_then : (f h : Adds) (l m : List Text) → Puts f l → Puts h m → Puts (λ set. h (f set)) (l ++ m)
  unfolding Puts
  puts_then f h l m p q set j =
      q (f set) j
      ∙ ap (λ (b : Bool). b || mem_n j m) (p set j)
      ∙ or_assoc (holds set j) (mem_n j l) (mem_n j m)
      ∙ ap (λ (b : Bool). holds set j || b) (sym (mem_n_append j l m))

  pub puts_same : (f h : Adds) (l : List Text) → ((set : ℕ) → f set ≡ h set) → Puts f l → Puts h l
  unfolding Puts
  puts_same f h l d p set j = ap (λ (x : ℕ). holds x j) (sym (d set)) ∙ p set j

  pub puts_list : (f : Adds) (l m : List Text) → l ≡ m → Puts f l → Puts f m
  puts_list f l m d p = subst (Puts f) d p

  -- nothing is added past the last entity
  pub stays_out : (f : Adds) (l : List Text) → Puts f l → (set j : ℕ) → length es ≤ j → holds set j ≡ false →
      holds (f set) j ≡ false
  unfolding Puts
  stays_out f l p set j h z = p set j ∙ ap (λ (b : Bool). b || mem_n j l) z ∙ mem_out j l h

  one_name : (x j : ℕ) → mem_t (name_at es j) (T x ∷ []) ≡ eq_t (name_at es j) (T x)
  one_name x j = mem_cons (name_at es j) (T x) [] ∙ ap (λ (b : Bool). eq_t (name_at es j) (T x) || b) (mem_none (name_at es j))
      ∙ or_false (eq_t (name_at es j) (T x))

  pub puts_entity : (x : ℕ) → x < length ts → Puts (add_entity_m s e x) (T x ∷ [])
  unfolding Puts
  puts_entity x h set j = cases (lt_or_ge i e.count) (lt_or_ge j (length es))
    where
      i : ℕ
      i = number_of e x s

      f : Firsts e.starts x s e.count 0 i
      f = firsts e.starts x s e.count 0

      found_here : i < e.count → j < length es → eqb i j ≡ eq_t (name_at es j) (T x)
      found_here b k =
          let a : eq_t (name_at es i) (T x) ≡ true = sym (name_is x i h (omega (arith, g.counts))) ∙ f.here (omega arith) in
          let n : name_at es i ≡ T x = eq_is (name_at es i) (T x) a in
          sym (eq_sym (name_at es j) (T x) ∙ ap (λ (y : Text). eq_t y (name_at es j)) (sym n)
          ∙ name_once i j (omega (arith, g.counts)) k)

      not_here : e.count ≤ i → j < length es → eq_t (name_at es j) (T x) ≡ false
      not_here b k = sym (name_is x j h k) ∙ f.ahead j (omega arith) (omega (arith, g.counts))

      cases : (i < e.count) ⊎ (e.count ≤ i) → (j < length es) ⊎ (length es ≤ j) →
          holds (add_entity_m s e x set) j ≡ (holds set j || mem_n j (T x ∷ []))
      cases (inl b) (inl k) =
          ap (λ (y : ℕ). holds y j) (laws.entity_yes s e x refl set b)
          ∙ holds_with set i j
          ∙ ap (λ (c : Bool). holds set j || c) (found_here b k ∙ sym (mem_in j (T x ∷ []) k ∙ one_name x j))
      cases (inl b) (inr k) =
          ap (λ (y : ℕ). holds y j) (laws.entity_yes s e x refl set b)
          ∙ holds_with set i j
          ∙ ap (λ (c : Bool). holds set j || c) (ne_eqb i j (λ z. omega (arith, g.counts)) ∙ sym (mem_out j (T x ∷ []) k))
      cases (inr b) (inl k) =
          ap (λ (y : ℕ). holds y j) (laws.entity_no s e x refl set b)
          ∙ sym (or_false (holds set j))
          ∙ ap (λ (c : Bool). holds set j || c) (sym (not_here b k) ∙ sym (mem_in j (T x ∷ []) k ∙ one_name x j))
      cases (inr b) (inr k) =
          ap (λ (y : ℕ). holds y j) (laws.entity_no s e x refl set b)
          ∙ sym (or_false (holds set j))
          ∙ ap (λ (c : Bool). holds set j || c) (sym (mem_out j (T x ∷ []) k))

  -- ---- loops

  -- parts that were read one after the other
  puts_along : {A : Type 0} (r : Reader A) (f : ℕ → Adds) (end : ℕ → ℕ) (h : A → List Text) →
      ((p : ℕ) (a : A) (q : ℕ) → r s p ≡ got a q → Puts (f p) (h a) × (end p ≡ q)) →
      (n p : ℕ) (l : List A) (q : ℕ) → times n r s p ≡ got l q → Puts (along f end n p) (flat h l)
  unfolding times along flat
  puts_along r f end h d zero p l q b = puts_list (λ set. set) [] (flat h l) (ap (flat h) (given _ _ _ b).0) puts_none
  puts_along r f end h d (suc n) p l q b =
      let m = more r s n p b in
      let x = d p m.first m.after m.is_first in
      let y = puts_along r f end h d n m.after m.others q m.are_others in
      puts_list _ _ _ (ap (flat h) (sym m.both))
      (puts_same _ _ _ (λ set. ap (λ (o : ℕ). along f end n o (f p set)) (sym x.1))
      (puts_then (f p) (along f end n m.after) (h m.first) (flat h m.others) x.0 y))

  -- ---- predicates

  pub predicate_puts : (p q : ℕ) (a : Predicate) → PredicateAt ts s p q a → Puts (add_predicate_m s e p) (predicate_reads a)
  unfolding predicate_reads
  predicate_puts p q a (state_at x v k i j m n w) =
      puts_same (add_entity_m s e x) (add_predicate_m s e p) (T x ∷ [])
      (λ set. laws.predicate_yes s e p set refl k refl (sym i)) (puts_entity x m)
  predicate_puts p q a (note_at r k w) = puts_same (λ set. set) (add_predicate_m s e p) []
      (λ set. laws.predicate_no s e p set refl (λ z. omega arith)) puts_none
  predicate_puts p q a (window_at d b c k w) =
      puts_same (λ set. set) (add_predicate_m s e p) [] (λ set. laws.predicate_no s e p set refl (λ z. omega arith)) puts_none

  pub predicates_put : (p : ℕ) (l : List Predicate) (q : ℕ) → counted (predicate ts) s p ≡ got l q →
      Puts (add_predicates_m s e p) (flat predicate_reads l)
  predicates_put p l q b =
      let c = counted_found (predicate ts) b in
      let y = puts_along (predicate ts) (add_predicate_m s e) (predicate_end s) predicate_reads
      (λ o a t d. let f = predicate_found ts s d in (predicate_puts o t a f, predicate_ends ts s f)) c.count
      c.start l q c.are_values in
      puts_same _ _ _
      (λ set. sym (laws.predicates_is s e p set ∙ laws.along_start (add_predicate_m s e) (predicate_end s) set
      (sym (place_got s p c.is_count)) (sym (past_is s (u16_wide s p c.is_count))))) y

  -- ---- triggers

  trigger_reads : Trigger → List Text
  trigger_reads t = if absent t.note then t.entity ∷ [] else []

  trigger_puts : (p : ℕ) (t : Trigger) (q : ℕ) → TriggerAt ts s p t q → Puts (add_trigger_m s e p) (trigger_reads t)
  unfolding trigger_reads absent
  trigger_puts p t q f = cases (place_m s (past s p 14)) t.note refl f.note_at
    where
      cases : (n : ℕ) (o : Option Text) → place_m s (past s p 14) ≡ n → Value? ts n o →
          Puts (add_trigger_m s e p) (if absent o then t.entity ∷ [] else [])
      cases n none d (found.absent h) =
          puts_list (add_trigger_m s e p) _ _ (ap (λ (y : Text). y ∷ []) (sym f.is_entity))
          (puts_same (add_entity_m s e f.x) (add_trigger_m s e p) (T f.x ∷ [])
          (λ set. laws.trigger_yes s e p set refl (sym d) h (sym f.at_entity)) (puts_entity f.x f.is_in))
      cases n (some y) d (found.present h k) = puts_same (λ set. set) (add_trigger_m s e p) []
          (λ set. laws.trigger_no s e p set refl (sym d) h) puts_none

  triggers_flat : (l : List Trigger) → flat trigger_reads l ≡ each (λ t. t.entity) (keep (λ t. absent t.note) l)
  unfolding flat each keep trigger_reads
  triggers_flat [] = refl
  triggers_flat (t ∷ l) = cases (absent t.note) (triggers_flat l)
    where
      cases : (b : Bool) → flat trigger_reads l ≡ each (λ t. t.entity) (keep (λ t. absent t.note) l) →
          (if b then t.entity ∷ [] else []) ++ flat trigger_reads l
          ≡ each (λ t. t.entity) (if b then t ∷ keep (λ t. absent t.note) l else keep (λ t. absent t.note) l)
      cases true ih = ap (λ (y : List Text). t.entity ∷ y) ih
      cases false ih = ih

  triggers_put : (p : ℕ) (l : List Trigger) (o q : ℕ) → u16 s p ≡ got (length l) o →
      times (length l) (trigger ts) s o ≡ got l q → Puts (add_triggers_m s e p)
      (each (λ t. t.entity) (keep (λ t. absent t.note) l))
  triggers_put p l o q c b =
      let y = puts_along (trigger ts) (add_trigger_m s e) (λ r. past s r 16) trigger_reads
      (λ i a t d. let f = trigger_at ts s d in (trigger_puts i a t f, past_is s f.wide)) (length l) o l q b in
      puts_list _ _ _ (triggers_flat l)
      (puts_same _ _ _
      (λ set. sym (laws.triggers_is s e p set ∙ laws.along_start (add_trigger_m s e) (λ r. past s r 16) set
      (sym (place_got s p c)) (sym (past_is s (u16_wide s p c))))) y)

  -- ---- actions

  branches_put : (left : ℕ) → left ≤ 18 → (n p : ℕ) (b : Branches) (q : ℕ) → branches ts (actions ts left) n s p ≡ got b q →
      Puts (along (add_predicates_m s e) (λ q. list_end s (predicates_end s q)) n p)
      (flat (flat predicate_reads) (conditions_of b))
  unfolding branches along flat conditions_of
  branches_put left m zero p b q d = puts_list (λ set. set) [] _
      (ap (λ (y : Branches). flat (flat predicate_reads) (conditions_of y)) (given _ _ _ d).0) puts_none
  branches_put left m (suc n) p b q d =
      let c = bound (counted (predicate ts)) _ d in
      let a = bound (actions ts left) _ c.rest in
      let r = bound (branches ts (actions ts left) n) _ a.rest in
      let z = given _ _ _ r.rest in
      let x = predicates_put p c.value c.next c.first in
      let y = branches_put left m n a.next r.value q (r.first ∙ ap (got r.value) z.1) in
      let t : list_end s (predicates_end s p) ≡ a.next =
      ap (list_end s) (predicates_end_lem ts s p c.first)
      ∙ list_ends ts s left c.next a.value a.next m a.first in
      puts_list _ _ _ (ap (λ (y : Branches). flat (flat predicate_reads) (conditions_of y)) z.0)
      (puts_same _ _ _
      (λ set. ap (λ (o : ℕ). along (add_predicates_m s e) (λ q. list_end s (predicates_end s q)) n o
      (add_predicates_m s e p set)) (sym t))
      (puts_then (add_predicates_m s e p) (along (add_predicates_m s e) (λ q. list_end s (predicates_end s q)) n a.next)
      (flat predicate_reads c.value) (flat (flat predicate_reads) (conditions_of r.value)) x y))

  reads_none : (p k : ℕ) → kind_m s p ≡ k → (k ≡ 3 → ⊥) → (k ≡ 4 → ⊥) → (k ≡ 5 → ⊥) → Puts (add_reads_m s e p) []
  reads_none p k d a b c = puts_same (λ set. set) (add_reads_m s e p) [] (λ set. laws.reads_else s e p set (sym d) refl a b c)
      puts_none

  action_puts : (p : ℕ) (a : Action) → ActionAt ts s p a → Puts (add_reads_m s e p) (effect_reads a.effect)
  unfolding effect_reads
  action_puts p a f = cases a.effect f.effect_at
    where
      cases : (x : Effect) → EffectAt ts s f.left p f.end x → Puts (add_reads_m s e p) (effect_reads x)
      cases (Effect.set x v) (set_at x' v' k i j m n o) =
          reads_none p 0 k (λ z. omega arith) (λ z. omega arith) (λ z. omega arith)
      cases (toggle x) (toggle_at x' k i m o) = reads_none p 1 k (λ z. omega arith) (λ z. omega arith) (λ z. omega arith)
      cases (delay x) (delay_at x' k o) = reads_none p 2 k (λ z. omega arith) (λ z. omega arith) (λ z. omega arith)
      cases (condition x) (condition_at x' k i o) = puts_same (add_predicate_m s e (past s p 9)) (add_reads_m s e p) _
          (λ set. laws.reads_3 s e p set (sym k) refl refl) (predicate_puts (past s p 9) f.end x i)
      cases (choose bs d) (choose_at bs' d' n r k c b t) =
          puts_same _ (add_reads_m s e p) _ (λ set. sym (
          laws.branches_is s e (past s p 9) set
          ∙ laws.along_start (add_predicates_m s e) (λ q. list_end s (predicates_end s q)) set
          (sym (place_got s (past s p 9) c)) (sym (past_is s (u16_wide s (past s p 9) c))))
          ∙ laws.reads_4 s e p set (sym k) refl (λ z. omega arith) refl)
          (branches_put f.left f.is_shallow n (past s p 11) bs r b)
      cases (wait t y z) (wait_at t' y' z' r k i o) =
          puts_list (add_reads_m s e p) _ _ (ap (λ (w : Text). w ∷ []) (sym i.is_entity))
          (puts_same (add_entity_m s e i.x) (add_reads_m s e p) (T i.x ∷ [])
          (λ set. laws.reads_5 s e p set (sym k) refl (λ w. omega arith) (λ w. omega arith) refl (sym i.at_entity))
          (puts_entity i.x i.is_in))
      cases (Effect.unknown x) (unknown_at x' k i m o) =
          reads_none p 6 k (λ z. omega arith) (λ z. omega arith) (λ z. omega arith)

  -- what an action writes
  written : Action → List Text
  written a = each (λ w. w.entity) (listed (write a.source a.effect))

  writes_none : (p k : ℕ) → kind_m s p ≡ k → 2 ≤ k → Puts (add_write_m s e p) []
  writes_none p k d h = puts_same (λ set. set) (add_write_m s e p) [] (λ set. laws.write_no s e p set (sym d) h) puts_none

  write_puts : (p : ℕ) (a : Action) → ActionAt ts s p a → Puts (add_write_m s e p) (written a)
  unfolding written write listed each
  write_puts p a f = cases a.effect f.effect_at
    where
      cases : (x : Effect) → EffectAt ts s f.left p f.end x →
          Puts (add_write_m s e p) (each (λ w. w.entity) (listed (write a.source x)))
      cases (Effect.set x v) (set_at x' v' k i j m n o) =
          puts_same (add_entity_m s e x') (add_write_m s e p) (T x' ∷ [])
          (λ set. laws.write_yes s e p set (sym k) (omega arith) refl (sym i)) (puts_entity x' m)
      cases (toggle x) (toggle_at x' k i m o) = puts_same (add_entity_m s e x') (add_write_m s e p) (T x' ∷ [])
          (λ set. laws.write_yes s e p set (sym k) (omega arith) refl (sym i)) (puts_entity x' m)
      cases (delay x) (delay_at x' k o) = writes_none p 2 k (omega arith)
      cases (condition x) (condition_at x' k i o) = writes_none p 3 k (omega arith)
      cases (choose bs d) (choose_at bs' d' n r k c b t) = writes_none p 4 k (omega arith)
      cases (wait t y z) (wait_at t' y' z' r k i o) = writes_none p 5 k (omega arith)
      cases (Effect.unknown x) (unknown_at x' k i m o) = writes_none p 6 k (omega arith)

  -- ---- an automation's actions

  puts_over : (f : ℕ → Adds) (h : Action → List Text) → ((p : ℕ) (a : Action) → ActionAt ts s p a → Puts (f p) (h a)) →
      (l : List ℕ) (k : ℕ) (ps : List ℕ) (acts : List Action) → ((i : ℕ) → i < length ps → get_or l (k + i) 0 ≡ get_or ps i 0) →
      ActionsAt ts s ps acts → Puts (over f l (length ps) k) (flat h acts)
  unfolding over flat
  puts_over f h d l k ps acts m no_action = puts_none
  puts_over f h d l k ps acts m (action {p} {a} {ps = qs} {l = rest} x y) =
      let n : get_or l k 0 ≡ p = ap (λ (i : ℕ). get_or l i 0) (sym (add-zero k)) ∙ m 0 (omega arith) in
      let t = puts_over f h d l (k + 1) qs rest (λ i b. ap (λ (o : ℕ). get_or l o 0) (omega arith) ∙ m (suc i) (omega arith))
      y in
      puts_same _ _ _ (λ set. ap (λ (o : ℕ). over f l (length qs) (k + 1) (f o set)) (sym n))
      (puts_then (f p) (over f l (length qs) (k + 1)) (h a) (flat h rest) (d p a x) t)

  filled_at : (w : Walk) (ps : List ℕ) → Filled w ps → (i : ℕ) → i < length ps → get_or w.list (0 + i) 0 ≡ get_or ps i 0
  filled_at w ps f i h = ap (λ (o : ℕ). get_or w.list o 0) (zero-add i) ∙ sym (get_or-take (length ps) w.list i 0 h)
      ∙ ap (λ (l : List ℕ). get_or l i 0) f.front

  module _ (p : ℕ) (w : Walk) (r : Automation) (f : RuleAt ts s p r) (k : Walked ts s w r) where
    pub over_all : (h : ℕ → Adds) (t : Action → List Text) → ((p : ℕ) (a : Action) → ActionAt ts s p a → Puts (h p) (t a)) →
        Puts (over h w.list w.count 0) (flat t (touches.actions_of r))
    over_all h t d =
        puts_same _ _ _ (λ set. ap (λ (n : ℕ). over h w.list n 0 set) (sym k.filled.many))
        (puts_over h t d w.list 0 k.positions (touches.actions_of r) (filled_at w k.positions k.filled)
        k.are_actions)

    -- an entity is in the set of reads exactly if the definition reads its name
    pub reads_hold : (j : ℕ) → j < length es → holds (reads_m s e p w) j ≡ mem_t (name_at es j) (reads_of r)
    unfolding Puts reads_m reads_of
    reads_hold j h =
        let a = triggers_put (triggers_m s p) r.triggers f.start (conditions_m s p) f.triggers f.are_triggers in
        let b = over_all (add_reads_m s e) (λ a. effect_reads a.effect) action_puts in
        let c = predicates_put (conditions_m s p) r.conditions _ f.conditions in
        let l₁ = each (λ t. t.entity) (keep (λ t. absent t.note) r.triggers) in
        let l₂ = flat (λ a. effect_reads a.effect) (touches.actions_of r) in
        let l₃ = flat predicate_reads r.conditions in
        let d = puts_then (λ set. over (add_reads_m s e) w.list w.count 0 (add_triggers_m s e (triggers_m s p) set))
        (add_predicates_m s e (conditions_m s p)) (l₁ ++ l₂) l₃
        (puts_then (add_triggers_m s e (triggers_m s p)) (over (add_reads_m s e) w.list w.count 0) l₁ l₂ a b) c in
        d 0 j
        ∙ ap (λ (x : Bool). x || mem_n j (l₁ ++ l₂ ++ l₃)) (holds_none j)
        ∙ mem_in j (l₁ ++ l₂ ++ l₃) h
        ∙ sym (mem_sorted (name_at es j) (l₁ ++ l₂ ++ l₃))

    pub reads_inside : Inside (reads_m s e p w)
    unfolding Puts Inside reads_m
    reads_inside j h k =
        let a = triggers_put (triggers_m s p) r.triggers f.start (conditions_m s p) f.triggers f.are_triggers in
        let b = over_all (add_reads_m s e) (λ a. effect_reads a.effect) action_puts in
        let c = predicates_put (conditions_m s p) r.conditions _ f.conditions in
        stays_out _ _ c _ j h (stays_out _ _ b _ j h (stays_out _ _ a 0 j h (holds_none j)))

    flat_writes : (l : List Action) → flat written l
        ≡ each (λ w. w.entity) (flat (λ a. listed (write a.source a.effect)) l)
    unfolding flat written each
    flat_writes [] = refl
    flat_writes (a ∷ l) =
        ap (λ (y : List Text). each (λ w. w.entity) (listed (write a.source a.effect)) ++ y) (flat_writes l)
        ∙ sym (each_append (λ w. w.entity) (listed (write a.source a.effect))
        (flat (λ a. listed (write a.source a.effect)) l))

    pub writes_inside : Inside (writes_m s e w)
    unfolding Puts Inside writes_m
    writes_inside j h k = stays_out _ _ (over_all (add_write_m s e) written write_puts) 0 j h (holds_none j)

    -- likewise for writes
    pub writes_hold : (j : ℕ) → j < length es → holds (writes_m s e w) j ≡ mem_t (name_at es j) (writes_of r)
    unfolding Puts writes_m writes_of written_by
    writes_hold j h =
        over_all (add_write_m s e) written write_puts 0 j
        ∙ ap (λ (x : Bool). x || mem_n j (flat written (touches.actions_of r))) (holds_none j)
        ∙ mem_in j (flat written (touches.actions_of r)) h
        ∙ ap (mem_t (name_at es j)) (flat_writes (touches.actions_of r))
        ∙ sym (mem_sorted (name_at es j) _)

  -- ---- a set as a list of names

  -- each of the texts is declared
  unfoldable pub Declares : List Text → Type 0
  Declares l = (t : Text) → mem_t t l ≡ true → (j : ℕ) × ((j < length es) × (name_at es j ≡ t))

  above_names : (set n i j : ℕ) → j < i → i + n ≤ length es →
      Above (name_at es j) (each (name_at es) (keep (holds set) (places n i)))
  unfolding each keep places name_at
  above_names set zero i j h k = over_none
  above_names set (suc n) i j h k = cases (holds set i) (above_names set n (i + 1) j (omega arith) (omega arith))
    where
      cases : (b : Bool) → Above (name_at es j) (each (name_at es) (keep (holds set) (places n (i + 1)))) →
          Above (name_at es j)
          (each (name_at es) (if b then i ∷ keep (holds set) (places n (i + 1)) else keep (holds set) (places n (i + 1))))
      cases true ih =
          over_one (rising_before (each (λ e. e.name) es) g.rising j i h
          (rw (length_each (λ e. e.name) es) (omega arith))) ih
      cases false ih = ih

  pub rising_names : (set n i : ℕ) → i + n ≤ length es → Rising (each (name_at es) (keep (holds set) (places n i)))
  unfolding each keep places
  rising_names set zero i k = rise_none
  rising_names set (suc n) i k = cases (holds set i) (rising_names set n (i + 1) (omega arith))
    where
      cases : (b : Bool) → Rising (each (name_at es) (keep (holds set) (places n (i + 1)))) →
          Rising (each (name_at es) (if b then i ∷ keep (holds set) (places n (i + 1))
          else keep (holds set) (places n (i + 1))))
      cases true ih = rise (above_names set n (i + 1) i (omega arith) (omega arith)) ih
      cases false ih = ih

  -- the held entities below n are all that are held
  pub members_below : (set : ℕ) → Inside set → members set ≡ keep (holds set) (places (length es) 0)
  unfolding members Inside
  members_below set f =
      let n = length es in
      let d : 32 ≡ n + (32 - n) = omega (arith, g.few) in
      ap (λ (k : ℕ). keep (holds set) (places k 0)) d
      ∙ ap (keep (holds set)) (places_more n (32 - n) 0)
      ∙ keep_append (holds set) (places n 0) (places (32 - n) (0 + n))
      ∙ ap (λ (l : List ℕ). keep (holds set) (places n 0) ++ l)
      (keep_none (holds set) (32 - n) (0 + n) (λ j a b. f j (omega arith) (omega (arith, g.few))))
      ∙ append-nil (keep (holds set) (places n 0))

  -- a name is among those of the held entities exactly if its entity is held
  mem_names : (set n i j : ℕ) → i ≤ j → j < i + n → i + n ≤ length es →
      mem_t (name_at es j) (each (name_at es) (keep (holds set) (places n i))) ≡ holds set j
  unfolding each keep places
  mem_names set zero i j a b c = absurd (omega arith)
  mem_names set (suc n) i j a b c = cases (holds set i) refl (lt_or_ge i j)
      (λ d. mem_names set n (i + 1) j (omega arith) (omega arith) (omega arith))
    where
      rest : List Text
      rest = each (name_at es) (keep (holds set) (places n (i + 1)))

      cases : (x : Bool) → holds set i ≡ x → (i < j) ⊎ (j ≤ i) → (i < j → mem_t (name_at es j) rest ≡ holds set j) →
          mem_t (name_at es j)
          (each (name_at es) (if x then i ∷ keep (holds set) (places n (i + 1)) else keep (holds set) (places n (i + 1))))
          ≡ holds set j
      cases true h (inl d) ih = mem_cons (name_at es j) (name_at es i) rest
          ∙ ap (λ (y : Bool). y || mem_t (name_at es j) rest)
          (name_once j i (omega arith) (omega arith) ∙ ne_eqb j i (λ z. omega arith)) ∙ ih d
      cases true h (inr d) ih =
          let z : j ≡ i = omega arith in
          mem_cons (name_at es j) (name_at es i) rest ∙ ap (λ (y : Bool). y || mem_t (name_at es j) rest)
          (is_eq (ap (name_at es) z)) ∙ sym (ap (holds set) z ∙ h)
      cases false h (inl d) ih = ih d
      cases false h (inr d) ih =
          let z : j ≡ i = omega arith in
          rw z (above_not (above_names set n (i + 1) i (omega arith) (omega arith))) ∙ sym (ap (holds set) z ∙ h)

  -- every text that a set's names have is a declared one's
  mem_some : (set n i : ℕ) (t : Text) → i + n ≤ length es →
      mem_t t (each (name_at es) (keep (holds set) (places n i))) ≡ true → (j : ℕ) × ((j < length es) × (name_at es j ≡ t))
  unfolding each keep places
  mem_some set zero i t k h = absurd (not_both (mem_none t) h)
  mem_some set (suc n) i t k h = cases (holds set i) h (λ d. mem_some set n (i + 1) t (omega arith) d)
    where
      rest : List Text
      rest = each (name_at es) (keep (holds set) (places n (i + 1)))

      Some : Type 0
      Some = (j : ℕ) × ((j < length es) × (name_at es j ≡ t))

      cases : (x : Bool) →
          mem_t t (each (name_at es) (if x then i ∷ keep (holds set) (places n (i + 1))
          else keep (holds set) (places n (i + 1)))) ≡ true → (mem_t t rest ≡ true → Some) → Some
      cases true d ih = pick (eq_t t (name_at es i)) refl
        where
          pick : (y : Bool) → eq_t t (name_at es i) ≡ y → Some
          pick true z = (i, (omega arith, sym (eq_is t (name_at es i) z)))
          pick false z = ih (sym (mem_cons t (name_at es i) rest ∙ ap (λ (y : Bool). y || mem_t t rest) z) ∙ d)
      cases false d ih = ih d

  -- a set that holds the declared entities of a list, all of them declared, is that list, sorted
  pub names_are : (set : ℕ) (l : List Text) → Inside set → Declares l →
      ((j : ℕ) → j < length es → holds set j ≡ mem_t (name_at es j) l) → sorted_t l ≡ each (name_at es) (members set)
  unfolding Declares
  names_are set l f d h =
      unique (sorted_t l) (each (name_at es) (keep (holds set) (places (length es) 0))) (rising_sorted l)
      (rising_names set (length es) 0 (omega arith)) both
      ∙ ap (each (name_at es)) (sym (members_below set f))
    where
      n : ℕ
      n = length es

      yes_yes : (a b : Bool) → (a ≡ true → b ≡ true) → (b ≡ true → a ≡ true) → a ≡ b
      yes_yes true true u v = refl
      yes_yes true false u v = sym (u refl)
      yes_yes false true u v = v refl
      yes_yes false false u v = refl

      at : (t : Text) (j : ℕ) → j < n → name_at es j ≡ t →
          mem_t t l ≡ mem_t t (each (name_at es) (keep (holds set) (places n 0)))
      at t j a b = rw (← b) (sym (h j a) ∙ sym (mem_names set n 0 j (omega arith) (omega arith) (omega arith)))

      both : (t : Text) → mem_t t (sorted_t l) ≡ mem_t t (each (name_at es) (keep (holds set) (places n 0)))
      both t = mem_sorted t l ∙ yes_yes (mem_t t l) (mem_t t (each (name_at es) (keep (holds set) (places n 0))))
          (λ a. let x = d t a in sym (at t x.0 x.1.0 x.1.1) ∙ a)
          (λ a. let x = mem_some set n 0 t (omega arith) a in at t x.0 x.1.0 x.1.1 ∙ a)

  -- the definition's writes, if all are declared
  pub writes_are : (p : ℕ) (w : Walk) (r : Automation) → RuleAt ts s p r → Walked ts s w r →
      Declares (each (λ w. w.entity) (written_by r)) → writes_of r ≡ each (name_at es) (members (writes_m s e w))
  unfolding writes_of
  writes_are p w r f k d = names_are (writes_m s e w) (each (λ w. w.entity) (written_by r)) (writes_inside p w r f k) d
      (λ j h. writes_hold p w r f k j h ∙ mem_sorted (name_at es j) (each (λ w. w.entity) (written_by r)))
