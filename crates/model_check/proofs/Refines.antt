-- Each check says what `Validate` says of the part that the reader of `File` finds at its position.
use Rattle.std.specs.Prelude.{if◌then◌else◌}
use mathlib.Core.Path.{◌≡◌, refl, sym, ap, ◌∙◌, subst}
use mathlib.Core.List.{List, [], ◌∷◌, ◌++◌}
use mathlib.Core.Bool.{Bool, true, false, ◌||◌, not}
use mathlib.Core.Option.{Option, none, some}
use Prim.Native.Nat.{ℕ, zero, suc, ◌+◌, ◌-◌, ◌≤◌, ◌<◌}
use native.Mathlib.Omega.{arith}
use lib.ListN.{length, get_or}
use lib.Dec.{ltb, eqb}
use borrow.Author.Tests.{lt-leb, eq-eqb, ne_eqb, eqb-true, eqb-false}
use Rattle.texts.specs.Lists.{absent, listed, any, find}
use Rattle.texts.specs.Texts.{Text, text, eq_t, mem_t}
use Rattle.model_spec.specs.Answer.{Answer, answer, refused, Verdict, accept, ◌>>=◌, ◌and◌, ◌when◌, each_accepted}
use Rattle.model_spec.specs.Model.{observational, Entity, Predicate, state, window, Trigger, named, is_window}
use Rattle.model_spec.specs.File.{◌>>=◌ as ◌>>=ᵣ◌}
use Rattle.model_spec.specs.File.{refuse as refuse-reader}
use Rattle.model_spec.specs.File.{got, Reader, give, u8, u16, u32, times, counted, place, predicate, trigger, entity}
use Rattle.model_spec.specs.Validate.{day, undecided, bad_window, check_value, check_predicate, check_stated, check_trigger}
use Rattle.model_walk.proofs.Found.{
  Case,
  is_true,
  is_false,
  case,
  bound,
  given,
  Wide,
  u16_wide,
  source_wide,
  counted_found,
  Kind,
  kind_found,
  place_found,
  Value?,
  entity_found,
  TriggerParts,
  trigger_found,
}
use Rattle.model_walk.proofs.Found as found
use Rattle.model_walk.specs.Walk.{predicate_size}
use Rattle.model_parts.specs.Stand.{Reads, Stand}
use Rattle.model_parts.proofs.Stands.{More, more}
use Rattle.model_order.specs.Order.{Fixed}
use Rattle.model_check.specs.declared.Checked.{Checked}
use Rattle.model_check.specs.declared.Checked.TheVariants as checked
use Rattle.model_check.specs.Checks.{
  Check,
  and_then,
  ◌⨾◌,
  by,
  stay,
  refuse,
  refuse_if,
  skip_m,
  times_m,
  place_is,
  among,
  listed_at,
  first_from,
  Declaration,
  entity_number,
  entity_value_m,
  value_m,
  pair_m,
  window_m,
  predicate_m,
  predicates_m,
  declared_m,
  optional_m,
  trigger_of_m,
  trigger_m,
  triggers_m,
}
use Rattle.model_check.proofs.Laws as laws

-- ---- verdicts

-- what a check says where the definition says x of a part that ends at q
unfoldable pub after : ℕ → Answer ℕ → Checked
after q (answer m) = checked.To q m
after q (refused k) = checked.Refused k

pub after_same : (q : ℕ) {x y : Answer ℕ} → x ≡ y → after q x ≡ after q y
after_same q e = ap (after q) e

pub and_bind : (v : Verdict) (n : ℕ) (f : ℕ → Answer ℕ) → ((v and answer n) >>= f) ≡ (v and f n)
unfolding ◌>>=◌ ◌and◌
and_bind (answer tt) n f = refl
and_bind (refused k) n f = refl

pub and_assoc : {A : Type 0} (v w : Verdict) (a : Answer A) → ((v and w) and a) ≡ (v and w and a)
unfolding ◌and◌
and_assoc (answer tt) w a = refl
and_assoc (refused k) w a = refl

pub accept_and : {A : Type 0} (a : Answer A) → (accept and a) ≡ a
unfolding ◌and◌
accept_and a = refl

-- ---- one check after the other

module _ (s : List ℕ) where
  pub by_got : (r : Reader ℕ) (f : ℕ → Check) (p n : ℕ) {v q : ℕ} → r s p ≡ got v q → by r f s p n ≡ f v s q n
  unfolding by
  by_got r f p n e = rw (e, by)

  -- a first part that ends at q, and then a check of what follows
  pub next : (k l : Check) (p n q t : ℕ) (x : Answer ℕ) (f : ℕ → Answer ℕ) → k s p n ≡ after q x →
      ((m : ℕ) → l s q m ≡ after t (f m)) → (k ⨾ l) s p n ≡ after t (x >>= f)
  unfolding ◌⨾◌ and_then after ◌>>=◌
  next k l p n q t x f e h = ap (λ (y : Checked). and_then y (l s)) e ∙ cases x
    where
      cases : (y : Answer ℕ) → and_then (after q y) (l s) ≡ after t (y >>= f)
      cases (answer m) = h m
      cases (refused k) = refl

  -- a verdict that counts nothing, and then a check
  pub next_and : (k l : Check) (p n q t : ℕ) (v : Verdict) (f : ℕ → Answer ℕ) → k s p n ≡ after q (v and answer n) →
      ((m : ℕ) → l s q m ≡ after t (f m)) → (k ⨾ l) s p n ≡ after t (v and f n)
  next_and k l p n q t v f e h = next k l p n q t (v and answer n) f e h ∙ after_same t (and_bind v n f)

  pub skip_wide : (w p n : ℕ) {q : ℕ} → Wide w s p q → skip_m w s p n ≡ checked.To q n
  skip_wide w p n h = laws.skip_in s p n w h.inside ∙ ap (λ (x : ℕ). checked.To x n) (sym h.ends)

  -- bytes that aren't looked at, and then a check
  pub skip_then : (w : ℕ) (l : Check) (p n : ℕ) {q : ℕ} → Wide w s p q → (skip_m w ⨾ l) s p n ≡ l s q n
  skip_then w l p n h = laws.to s p n (skip_m w) l refl (skip_wide w p n h)

  pub refuse_if_is : (k : ℕ) (b : Bool) (p n : ℕ) → refuse_if k b s p n ≡ after p (k when b and answer n)
  unfolding ◌when◌ ◌and◌ after
  refuse_if_is k true p n = laws.refuse_yes s p n k refl
  refuse_if_is k false p n = laws.refuse_no s p n k refl

  pub stays : (p n : ℕ) → stay s p n ≡ after p (accept and answer n)
  unfolding stay after ◌and◌
  stays p n = refl

  pub skips : (w p n : ℕ) {q : ℕ} → Wide w s p q → skip_m w s p n ≡ after q (accept and answer n)
  unfolding after ◌and◌
  skips w p n h = skip_wide w p n h

  -- a list: its members' verdicts, one after the other
  module _ {A : Type 0} (r : Reader A) (c : A → Verdict) (k : Check)
      (h : (p n : ℕ) (a : A) (q : ℕ) → r s p ≡ got a q → k s p n ≡ after q (c a and answer n)) where
    none_agrees : (p n : ℕ) (l : List A) (q : ℕ) → times zero r s p ≡ got l q →
        times_m zero k s p n ≡ after q (each_accepted c l and answer n)
    unfolding times give times_m stay each_accepted after ◌and◌
    none_agrees p n l q e = let z : l ≡ [] = cc in let y : p ≡ q = cc in rw (z, y)

    more_agrees : (i p n : ℕ) (l : List A) (q : ℕ) (m : More r s i p q l) →
        (k ⨾ times_m i k) s p n ≡ after q (c m.first and (each_accepted c m.others and answer n)) →
        times_m (suc i) k s p n ≡ after q (each_accepted c l and answer n)
    unfolding times_m each_accepted
    more_agrees i p n l q m g =
        g
        ∙ after_same q (sym (and_assoc (c m.first) (each_accepted c m.others) (answer n))
        ∙ ap (λ (x : List A). each_accepted c x and answer n) (sym m.both))

    pub times_agrees : (i p n : ℕ) (l : List A) (q : ℕ) → times i r s p ≡ got l q →
        times_m i k s p n ≡ after q (each_accepted c l and answer n)
    times_agrees zero p n l q e = none_agrees p n l q e
    times_agrees (suc i) p n l q e =
        let m = more r s i p e in
        more_agrees i p n l q m (
        next_and k (times_m i k) p n m.after q (c m.first) (λ j. each_accepted c m.others and answer j)
        (h p n m.first m.after m.is_first)
        (λ j. times_agrees i m.after j m.others q m.are_others))

-- ---- what a model declares

-- what the file declares: its texts ascend, its entities stand where `d` says, and the fixed texts too
pub record Grounded (s : List ℕ) (d : Declaration) (ts : List Text) (es : List Entity) : Type 0 where
  pub same : (i j : ℕ) → i < length ts → j < length ts → eq_t (get_or ts i []) (get_or ts j []) ≡ eqb i j
  pub counts : d.count ≡ length es
  pub few : length es ≤ 100
  pub stand : Stand (entity ts) s d.starts es
  pub on : Fixed ts d.on (text "on")
  pub off : Fixed ts d.off (text "off")
  pub unknown : Fixed ts d.unknown (text "unknown")
  pub unavailable : Fixed ts d.unavailable (text "unavailable")

-- ---- values

pub eqb_sym : (a b : ℕ) → eqb a b ≡ eqb b a
eqb_sym a b = cases (case (eqb a b))
  where
    cases : Case (eqb a b) → eqb a b ≡ eqb b a
    cases (is_true h) = h ∙ sym (eq-eqb b a (sym (eqb-true a b h)))
    cases (is_false h) = h ∙ sym (ne_eqb b a (λ e. eqb-false a b h (sym e)))

pub or_is : (a b : Bool) → (elim a [ true ↦ true | false ↦ b ]) ≡ (a || b)
or_is true b = refl
or_is false b = refl

-- where the first entity with a name stands among the positions from the i-th on
data First (x : Text) (l : List Entity) (d : Entity) (found : ℕ) (i : ℕ) : Type 0 where
  here : (j : ℕ) → j < length l → find (named x) l ≡ some (get_or l j d) → found ≡ i + j → First x l d found i
  nowhere : find (named x) l ≡ none → found ≡ i + length l → First x l d found i

module _ (s : List ℕ) (ts : List Text) (same : (i j : ℕ) → i < length ts → j < length ts →
    eq_t (get_or ts i []) (get_or ts j []) ≡ eqb i j) where
  -- the places that were read are those of the texts
  pub among_agrees : (v : ℕ) → v < length ts → (i p : ℕ) (l : List Text) (q : ℕ) → times i (place ts) s p ≡ got l q →
      among i s p v ≡ mem_t (get_or ts v []) l
  unfolding times give among mem_t any
  among_agrees v h zero p l q e = let z : l ≡ [] = cc in rw z
  among_agrees v h (suc i) p l q e =
      let m = more (place ts) s i p e in
      let x = place_found ts m.is_first in
      let t : eq_t (get_or ts v []) m.first ≡ eqb x.at v =
      ap (eq_t (get_or ts v [])) x.is_text ∙ same v x.at h x.is_in ∙ eqb_sym v x.at in
      let rest = among_agrees v h i m.after m.others q m.are_others in
      rw (x.is_place, among) (
      or_is (eqb x.at v) (among i s m.after v)
      ∙ ap (λ (b : Bool). eqb x.at v || b) rest
      ∙ ap (λ (b : Bool). b || any (eq_t (get_or ts v [])) m.others) (sym t)
      ∙ ap (any (eq_t (get_or ts v []))) (sym m.both))

  -- a place at the start of an entity is that of its name
  name_is : (x : ℕ) → x < length ts → (p : ℕ) (e : Entity) → Reads (entity ts) s p e →
      place_is s p x ≡ named (get_or ts x []) e
  unfolding place_is named
  name_is x h p e r =
      let n = (entity_found ts r.1).name in
      rw (n.is_place, place_is) (sym (same n.at x n.is_in h)
      ∙ ap (λ (y : Text). eq_t y (get_or ts x [])) (sym n.is_text))

  first_step : (starts : List ℕ) (x : ℕ) → x < length ts → (d e : Entity) (l : List Entity) (i : ℕ) →
      place_is s (get_or starts i 0) x ≡ named (get_or ts x []) e →
      First (get_or ts x []) l d (first_from starts x s (length l) (i + 1)) (i + 1) →
      First (get_or ts x []) (e ∷ l) d (first_from starts x s (suc (length l)) i) i
  unfolding find first_from
  first_step starts x h d e l i t rest = cases (case (place_is s (get_or starts i 0) x)) rest
    where
      cases : Case (place_is s (get_or starts i 0) x) →
          First (get_or ts x []) l d (first_from starts x s (length l) (i + 1)) (i + 1) →
          First (get_or ts x []) (e ∷ l) d (first_from starts x s (suc (length l)) i) i
      cases (is_true b) r = here 0 (omega arith) (rw (sym t ∙ b)) (rw (b, first_from) (omega arith))
      cases (is_false b) (here j g f o) = here (suc j) (omega arith) (rw (sym t ∙ b) f)
          (rw (b, first_from) (o ∙ (omega arith)))
      cases (is_false b) (nowhere f o) = nowhere (rw (sym t ∙ b) f) (rw (b, first_from) (o ∙ (omega arith)))

  first_agrees : (starts : List ℕ) (x : ℕ) → x < length ts → (d : Entity) (l : List Entity) (i : ℕ) →
      ((j : ℕ) → j < length l → Reads (entity ts) s (get_or starts (i + j) 0) (get_or l j d)) →
      First (get_or ts x []) l d (first_from starts x s (length l) i) i
  unfolding find first_from
  first_agrees starts x h d [] i f = nowhere refl (omega arith)
  first_agrees starts x h d (e ∷ l) i f =
      let z : i + 0 ≡ i = omega arith in
      let r = subst (λ (k : ℕ). Reads (entity ts) s (get_or starts k 0) e) z (f 0 (omega arith)) in
      first_step starts x h d e l i (name_is x h (get_or starts i 0) e r) (first_agrees starts x h d l (i + 1) (λ j g.
      let y : i + suc j ≡ i + 1 + j = omega arith in
      subst (λ (k : ℕ). Reads (entity ts) s (get_or starts k 0) (get_or l j d)) y (f (suc j) (omega arith))))

-- ---- the parts, over a file whose declarations are known
module _ (s : List ℕ) (d : Declaration) (ts : List Text) (es : List Entity) (g : Grounded s d ts es) where
  -- the text at a place
  abbrev T : ℕ → Text
  T x = get_or ts x []

  -- a test of a place against a fixed text
  pub fixed_is : (v x : ℕ) (w : Text) → v < length ts → Fixed ts x w → eq_t (T v) w ≡ eqb v x
  fixed_is v x w h f = ap (eq_t (T v)) (sym f.is_text) ∙ g.same v x h f.is_in

  undecided_is : (v : ℕ) → v < length ts → undecided (T v) ≡ (eqb v d.unknown || eqb v d.unavailable)
  unfolding undecided
  undecided_is v h =
      ap (λ (b : Bool). b || eq_t (T v) (text "unavailable")) (fixed_is v d.unknown (text "unknown") h g.unknown)
      ∙ ap (λ (b : Bool). eqb v d.unknown || b) (fixed_is v d.unavailable (text "unavailable") h g.unavailable)

  -- where the entity with the name at x is
  number_agrees : (x : ℕ) → x < length ts → (e₀ : Entity) → First (T x) es e₀ (entity_number d x s) 0
  number_agrees x h e₀ =
      subst (λ (c : ℕ). First (T x) es e₀ (first_from d.starts x s c 0) 0) (sym g.counts)
      (first_agrees s ts g.same d.starts x h e₀ es 0 (λ j k.
      let z : j ≡ 0 + j = omega arith in
      subst (λ (i : ℕ). Reads (entity ts) s (get_or d.starts i 0) (get_or es j e₀)) z
      (g.stand e₀ j (omega (arith, g.few)) k)))

  -- the values that the i-th entity may have
  domain_agrees : (v : ℕ) → v < length ts → (p : ℕ) (e : Entity) → Reads (entity ts) s p e →
      listed_at s (p + 2) v ≡ mem_t (T v) e.domain
  unfolding listed_at
  domain_agrees v h p e r =
      let f = entity_found ts r.1 in
      let w = u16_wide s p f.name.is_place in
      let c = f.domain.is_count in
      let o : u16 s (p + 2) ≡ got f.domain.count f.domain.start = ap (u16 s) (sym w.ends) ∙ c in
      rw (o, listed_at) (among_agrees s ts g.same v h f.domain.count f.domain.start e.domain f.at_initial
      f.domain.are_values)

  -- the tests of a value, in the code's order and in the definition's
  tests_agree : (a b c : Bool) (p n : ℕ) → (if a then checked.To p n else if b then checked.To p n else if c
      then checked.To p n else checked.Refused 8) ≡ after p (8 when not ((a || b) || c) and answer n)
  unfolding ◌when◌ ◌and◌ after
  tests_agree true b c p n = refl
  tests_agree false true c p n = refl
  tests_agree false false true p n = refl
  tests_agree false false false p n = refl

  check_none : (x v : Text) → find (named x) es ≡ none → check_value es x v ≡ refused 7
  unfolding check_value
  check_none x v f = rw (f, check_value)

  check_some : (x v : Text) {e : Entity} → find (named x) es ≡ some e →
      check_value es x v ≡ 8 when not (undecided v || mem_t v e.domain)
  unfolding check_value
  check_some x v f = rw (f, check_value)

  -- a value of the i-th entity
  entity_value_agrees : (i v p n : ℕ) (e : Entity) → i < length es → v < length ts →
      Reads (entity ts) s (get_or d.starts i 0) e → entity_value_m d i v s p n
      ≡ after p (8 when not (undecided (T v) || mem_t (T v) e.domain) and answer n)
  unfolding entity_value_m
  entity_value_agrees i v p n e h k r =
      rw (lt-leb d.count i (omega (arith, g.counts))) (
      ap (λ (b : Bool). if eqb v d.unknown then checked.To p n else if eqb v d.unavailable then checked.To p n
      else if b then checked.To p n else checked.Refused 8) (domain_agrees v k (get_or d.starts i 0) e r)
      ∙ tests_agree (eqb v d.unknown) (eqb v d.unavailable) (mem_t (T v) e.domain) p n
      ∙ ap (λ (b : Bool). after p (8 when not (b || mem_t (T v) e.domain) and answer n)) (sym (undecided_is v k)))

  pub value_agrees : (x v : ℕ) → x < length ts → v < length ts → (p n : ℕ) →
      value_m d x v s p n ≡ after p (check_value es (T x) (T v) and answer n)
  unfolding ◌and◌ after
  value_agrees x v h k p n = laws.value_is d s p n x v _ refl ∙ cases (number_agrees x h e₀)
    where
      -- any entity
      e₀ : Entity
      e₀ = record { name = []; domain = []; initial = []; tier = observational; stale_after = none }

      cases : First (T x) es e₀ (entity_number d x s) 0 →
          entity_value_m d (entity_number d x s) v s p n ≡ after p (check_value es (T x) (T v) and answer n)
      cases (here j q f o) =
          let z : entity_number d x s ≡ j = omega arith in
          ap (λ (i : ℕ). entity_value_m d i v s p n) z
          ∙ entity_value_agrees j v p n (get_or es j e₀) q k (g.stand e₀ j (omega (arith, g.few)) q)
          ∙ ap (λ (y : Verdict). after p (y and answer n)) (sym (check_some (T x) (T v) f))
      cases (nowhere f o) =
          laws.value_7 d s p n (entity_number d x s) v (omega (arith, g.counts))
          ∙ ap (λ (y : Verdict). after p (y and answer n)) (sym (check_none (T x) (T v) f))

  -- 15
  pub declared_agrees : (x : ℕ) → x < length ts → (p n : ℕ) →
      declared_m d x s p n ≡ after p (15 when absent (find (named (T x)) es) and answer n)
  unfolding absent ◌when◌ ◌and◌ after
  declared_agrees x h p n = cases (number_agrees x h e₀)
    where
      e₀ : Entity
      e₀ = record { name = []; domain = []; initial = []; tier = observational; stale_after = none }

      cases : First (T x) es e₀ (entity_number d x s) 0 →
          declared_m d x s p n ≡ after p (15 when absent (find (named (T x)) es) and answer n)
      cases (here j q f o) = laws.declared_yes d s p n x _ refl (omega (arith, g.counts))
          ∙ ap (λ (y : Option Entity). after p (15 when absent y and answer n)) (sym f)
      cases (nowhere f o) = laws.declared_no d s p n x _ refl (omega (arith, g.counts))
          ∙ ap (λ (y : Option Entity). after p (15 when absent y and answer n)) (sym f)

  -- ---- predicates

  pub pair_agrees : (p n : ℕ) {x v : Text} {q t : ℕ} → place ts s p ≡ got x q → place ts s q ≡ got v t →
      pair_m d s p n ≡ after t (check_value es x v and answer n)
  pair_agrees p n {x} {v} {q} {t} e f =
      let a = place_found ts e in
      let b = place_found ts f in
      laws.pair_is d s p n
      ∙ by_got s u16 _ p n a.is_place
      ∙ by_got s u16 _ q n b.is_place
      ∙ value_agrees a.at b.at a.is_in b.is_in t n
      ∙ ap (λ (y : Text). after t (check_value es y (T b.at) and answer n)) (sym a.is_text)
      ∙ ap (λ (y : Text). after t (check_value es x y and answer n)) (sym b.is_text)

  -- a window, where it may stand and where it is banned
  windows : Reader Predicate
  windows = u8 >>=ᵣ λ k. u32 >>=ᵣ λ b. u32 >>=ᵣ λ e. give (window k b e)

  window_agrees : (p n : ℕ) (a : Predicate) (q : ℕ) → windows s p ≡ got a q →
      window_m s p n ≡ after q (check_predicate es a and answer n)
  unfolding windows check_predicate
  window_agrees p n a q h =
      let k = bound u8 _ h in
      let b = bound u32 _ k.rest in
      let e = bound u32 _ b.rest in
      let z = given _ _ _ e.rest in
      laws.window_is s p n
      ∙ by_got s u8 _ p n k.first
      ∙ by_got s u32 _ k.next n b.first
      ∙ by_got s u32 _ b.next n (e.first ∙ ap (got e.value) z.1)
      ∙ refuse_if_is s 50 (bad_window k.value b.value e.value) q n
      ∙ ap (λ (y : Predicate). after q (check_predicate es y and answer n)) z.0

  banned_agrees : (p n : ℕ) (a : Predicate) (q : ℕ) → windows s p ≡ got a q →
      refuse 51 s p n ≡ after q (check_stated es a and answer n)
  unfolding windows check_stated is_window ◌and◌ ◌when◌ after
  banned_agrees p n a q h =
      let k = bound u8 _ h in
      let b = bound u32 _ k.rest in
      let e = bound u32 _ b.rest in
      let z = given _ _ _ e.rest in
      laws.refused_is s p n 51 ∙ ap (λ (y : Predicate). after q (check_stated es y and answer n)) z.0

  -- a predicate by a check that takes states and notes as `check_predicate` does
  module _ (banned : ℕ) (c : Predicate → Verdict) (on-state : (x v : Text) → c (state x v) ≡ check_value es x v)
      (on-note : (r : Text) → c (Predicate.unknown r) ≡ accept)
      (on-window : (p n : ℕ) (a : Predicate) (q : ℕ) → windows s p ≡ got a q →
      (if eqb banned 0 then window_m else refuse banned) s p n ≡ after q (c a and answer n)) where
    with_agrees : (p n : ℕ) (a : Predicate) (q : ℕ) → predicate ts s p ≡ got a q →
        predicate_m d banned s p n ≡ after q (c a and answer n)
    unfolding predicate windows predicate_size
    with_agrees p n a q e = laws.predicate_is d s p n banned ∙ by_got s u8 _ p n k.is_kind ∙ cases k.kind k.holds
      where
        rs : List (Reader Predicate)
        rs =
            (place ts >>=ᵣ λ x. place ts >>=ᵣ λ v. give (state x v))
            ∷ (place ts >>=ᵣ λ r. give (Predicate.unknown r))
            ∷ (u8 >>=ᵣ λ k. u32 >>=ᵣ λ b. u32 >>=ᵣ λ e. give (window k b e))
            ∷ []

        k : Kind rs s p a q
        k = kind_found rs e

        cases : (i : ℕ) → get_or rs i refuse-reader s k.next ≡ got a q →
            (if eqb i 0 then pair_m d else if eqb i 1 then skip_m (predicate_size i - 1) else if eqb banned 0 then window_m
            else refuse banned) s k.next n ≡ after q (c a and answer n)
        cases zero h =
            let x = bound (place ts) _ h in
            let v = bound (place ts) _ x.rest in
            let z = given _ _ _ v.rest in
            pair_agrees k.next n x.first (v.first ∙ ap (got v.value) z.1)
            ∙ ap (λ (y : Verdict). after q (y and answer n)) (sym (on-state x.value v.value))
            ∙ ap (λ (y : Predicate). after q (c y and answer n)) z.0
        cases (suc zero) h =
            let r = bound (place ts) _ h in
            let z = given _ _ _ r.rest in
            let w = u16_wide s k.next (place_found ts (r.first ∙ ap (got r.value) z.1)).is_place in
            skips s 2 k.next n w
            ∙ ap (λ (y : Verdict). after q (y and answer n)) (sym (on-note r.value))
            ∙ ap (λ (y : Predicate). after q (c y and answer n)) z.0
        cases (suc (suc zero)) h = on-window k.next n a q h
        cases (suc (suc (suc i))) h = absurd (found.refused s k.next h)

  pub predicate_agrees : (p n : ℕ) (a : Predicate) (q : ℕ) → predicate ts s p ≡ got a q →
      predicate_m d 0 s p n ≡ after q (check_predicate es a and answer n)
  unfolding check_predicate
  predicate_agrees = with_agrees 0 (check_predicate es) (λ x v. refl) (λ r. refl) window_agrees

  -- of an invariant
  pub stated_agrees : (p n : ℕ) (a : Predicate) (q : ℕ) → predicate ts s p ≡ got a q →
      predicate_m d 51 s p n ≡ after q (check_stated es a and answer n)
  unfolding check_stated check_predicate is_window ◌and◌ ◌when◌
  stated_agrees = with_agrees 51 (check_stated es) (λ x v. refl) (λ r. refl) banned_agrees

  pub predicates_agree : (p n : ℕ) (l : List Predicate) (q : ℕ) → counted (predicate ts) s p ≡ got l q →
      predicates_m d 0 s p n ≡ after q (each_accepted (check_predicate es) l and answer n)
  predicates_agree p n l q e =
      let c = counted_found (predicate ts) e in
      laws.predicates_is d s p n 0
      ∙ by_got s u16 _ p n c.is_count
      ∙ times_agrees s (predicate ts) (check_predicate es) (predicate_m d 0) predicate_agrees
      c.count c.start n l q c.are_values

  pub all_stated_agree : (p n : ℕ) (l : List Predicate) (q : ℕ) → counted (predicate ts) s p ≡ got l q →
      predicates_m d 51 s p n ≡ after q (each_accepted (check_stated es) l and answer n)
  all_stated_agree p n l q e =
      let c = counted_found (predicate ts) e in
      laws.predicates_is d s p n 51
      ∙ by_got s u16 _ p n c.is_count
      ∙ times_agrees s (predicate ts) (check_stated es) (predicate_m d 51) stated_agrees
      c.count c.start n l q c.are_values

  -- ---- triggers

  optional_agrees : (x v : ℕ) (o : Option Text) → x < length ts → Value? ts v o → (p n : ℕ) →
      optional_m d x v s p n ≡ after p (each_accepted (check_value es (T x)) (listed o) and answer n)
  unfolding listed each_accepted stay after
  optional_agrees x v none h (found.absent e) p n = laws.optional_none d s p n x v e ∙ stays s p n
  optional_agrees x v (some t) h (found.present e k) p n =
      laws.optional_some d s p n x v e
      ∙ value_agrees x v h k p n
      ∙ after_same p
      (sym (and_assoc (check_value es (T x) (T v)) accept (answer n)
      ∙ ap (λ (y : Answer ℕ). check_value es (T x) (T v) and y) (accept_and (answer n))))

  pub accepted_append : {A : Type 0} (f : A → Verdict) (a b : List A) (n : ℕ) →
      (each_accepted f (a ++ b) and answer n) ≡ (each_accepted f a and (each_accepted f b and answer n))
  unfolding each_accepted
  accepted_append f [] b n = sym (accept_and (each_accepted f b and answer n))
  accepted_append f (x ∷ a) b n = and_assoc (f x) (each_accepted f (a ++ b)) (answer n)
      ∙ ap (λ (y : Answer ℕ). f x and y) (accepted_append f a b n)
      ∙ sym (and_assoc (f x) (each_accepted f a) (each_accepted f b and answer n))

  trigger_of_agrees : (x f t : ℕ) (from to : Option Text) → x < length ts → Value? ts f from → Value? ts t to → (p n : ℕ) →
      trigger_of_m d x f t s p n
      ≡ after p ((15 when absent (find (named (T x)) es) and each_accepted (check_value es (T x))
      (listed from ++ listed to)) and answer n)
  trigger_of_agrees x f t from to h a b p n =
      laws.trigger_of_is d s p n x f t
      ∙ next_and s (declared_m d x) (optional_m d x f ⨾ optional_m d x t) p n p p (15 when absent (find (named (T x)) es))
      (λ m. each_accepted (check_value es (T x)) (listed from) and
      (each_accepted (check_value es (T x)) (listed to) and answer m))
      (declared_agrees x h p n)
      (λ m. next_and s (optional_m d x f) (optional_m d x t) p m p p (each_accepted (check_value es (T x)) (listed from))
      (λ k. each_accepted (check_value es (T x)) (listed to) and answer k)
      (optional_agrees x f from h a p m) (λ k. optional_agrees x t to h b p k))
      ∙ after_same p (ap (λ (y : Answer ℕ). 15 when absent (find (named (T x)) es) and y)
      (sym (accepted_append (check_value es (T x)) (listed from) (listed to) n))
      ∙ sym (and_assoc (15 when absent (find (named (T x)) es))
      (each_accepted (check_value es (T x)) (listed from ++ listed to)) (answer n)))

  pub trigger_agrees : (p n : ℕ) (a : Trigger) (q : ℕ) → trigger ts s p ≡ got a q →
      trigger_m d s p n ≡ after q (check_trigger es a and answer n)
  unfolding check_trigger
  trigger_agrees p n a q e =
      laws.trigger_is d s p n
      ∙ by_got s u16 _ p n f.entity_at.is_place
      ∙ by_got s u16 _ f.at_from n f.from_at.is_place
      ∙ by_got s u16 _ f.at_to n f.to_at.is_place
      ∙ skip_then s 8 _ f.at_source n (source_wide s f.at_source f.source_at)
      ∙ by_got s u16 _ f.at_note n f.note_at.is_place
      ∙ cases f.note_at.at a.note f.note_at.is_value
    where
      f : TriggerParts ts s p a q
      f = trigger_found ts e

      x : ℕ
      x = f.entity_at.at

      cases : (m : ℕ) (o : Option Text) → Value? ts m o →
          (if eqb m 65535 then trigger_of_m d x f.from_at.at f.to_at.at else stay) s q n
          ≡ after q ((elim o [
            | some n ↦ accept
            | none ↦ 15 when absent (find (named a.entity) es) and each_accepted
                (check_value es a.entity) (listed a.from ++ listed a.to)
          ]) and answer n)
      cases m none (found.absent h) =
          laws.yes_check _ _ s q n (eq-eqb m 65535 h)
          ∙ trigger_of_agrees x f.from_at.at f.to_at.at a.from a.to f.entity_at.is_in
          f.from_at.is_value f.to_at.is_value q n
          ∙ ap (λ (y : Text). after q
          ((15 when absent (find (named y) es) and each_accepted (check_value es y) (listed a.from ++ listed a.to))
          and answer n)) (sym f.entity_at.is_text)
      cases m (some t) (found.present h k) = laws.no_check _ _ s q n (ne_eqb m 65535 h) ∙ stays s q n

  pub triggers_agree : (c p n : ℕ) (l : List Trigger) (q : ℕ) → times c (trigger ts) s p ≡ got l q →
      triggers_m d c s p n ≡ after q (each_accepted (check_trigger es) l and answer n)
  triggers_agree c p n l q e = laws.triggers_is d s p n c
      ∙ times_agrees s (trigger ts) (check_trigger es) (trigger_m d) trigger_agrees c p n l q e

  -- ---- days

  pub day_agrees : (k p n x q : ℕ) → u32 s p ≡ got x q →
      by u32 (λ y. refuse_if k (ltb day y)) s p n ≡ after q (k when ltb day x and answer n)
  day_agrees k p n x q e = by_got s u32 _ p n e ∙ refuse_if_is s k (ltb day x) q n
