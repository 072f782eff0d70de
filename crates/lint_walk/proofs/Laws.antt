-- The laws that the proofs of walks cite.
use Rattle.std.specs.Prelude.{Some, None}
use mathlib.Core.Path.{◌≡◌, refl, sym, ap, ◌∙◌}
use mathlib.Core.List.{List}
use Prim.Native.Nat.{ℕ, zero, suc, ◌+◌, ◌-◌, ◌*◌, ◌≤◌, ◌<◌}
use native.Mathlib.Numerals.{sub-one}
use native.Mathlib.Omega.{arith}
use lib.ListN.{length, set, replicate}
use borrow.Author.Tests.{lt-ltb, le-ltb, le-leb, lt-leb, eq-eqb, ne_eqb}
use Rattle.model_spec.specs.File.{Got, u8, u16, u32}
use Rattle.model_walk.specs.Walk.{Num, found, predicate_size}
use Rattle.model_walk.proofs.Laws.{is_got, is_broken}
use Rattle.lint_walk.specs.declared.Walk.{Walk}
use Rattle.lint_walk.specs.declared.Cursor.{Cursor}
use Rattle.lint_walk.specs.Raw.{
  value_of,
  byte_m,
  place_m,
  number_m,
  past,
  repeat,
  predicate_end,
  predicates_end,
  simple_end,
  kind_m,
  triggers_m,
  conditions_m,
  actions_m,
}
use Rattle.lint_walk.specs.Walks.{
  walk_of,
  moved_cursor_m,
  moved_m,
  noted_m,
  entered_m,
  simple_m,
  action_m,
  branch_m,
  choice_m,
  list_m,
  fresh,
  walk_m,
  list_end,
}

-- ---- numbers

module _ {x : Num} {g : Got ℕ} (e : found x ≡ g) where
  pub value_got : {v q : ℕ} → x ≡ Some (v, q) → value_of g ≡ v
  unfolding value_of
  value_got h = ap value_of (is_got e h)

  pub value_broken : x ≡ None → value_of g ≡ 0
  unfolding value_of
  value_broken h = ap value_of (is_broken e h)

module _ (s : List ℕ) (p : ℕ) where
  pub byte_is : byte_m s p ≡ value_of (u8 s p)
  unfolding byte_m
  byte_is = refl

  pub place_is : place_m s p ≡ value_of (u16 s p)
  unfolding place_m
  place_is = refl

  pub number_is : number_m s p ≡ value_of (u32 s p)
  unfolding number_m
  number_is = refl

  pub past_in : (w : ℕ) → p + w ≤ length s → past s p w ≡ p + w
  unfolding past
  past_in w h = rw (le-leb (p + w) (length s) h)

  pub past_out : (w : ℕ) → length s < p + w → past s p w ≡ length s
  unfolding past
  past_out w h = rw (lt-leb (p + w) (length s) h)

-- ---- n times

module _ {A : Type 0} (f : A → A) where
  pub repeat_more : (n : ℕ) (a : A) → 0 < n → repeat n f a ≡ repeat (n - 1) f (f a)
  unfolding repeat
  repeat_more zero a h = absurd (omega arith)
  repeat_more (suc n) a h = rw (sub-one (suc n))

  pub repeat_none : (n : ℕ) (a : A) → n ≤ 0 → repeat n f a ≡ a
  unfolding repeat
  repeat_none zero a h = refl
  repeat_none (suc n) a h = absurd (omega arith)

-- ---- where parts end

module _ (s : List ℕ) (p : ℕ) where
  -- a predicate of the kind k has w bytes
  pub predicate_is : {w k : ℕ} → w ≡ predicate_size k → k ≡ byte_m s p → past s p w ≡ predicate_end s p
  unfolding predicate_end
  predicate_is e h = ap (past s p) (e ∙ ap predicate_size h)

  pub predicates_is : predicates_end s p ≡ repeat (place_m s p) (predicate_end s) (past s p 2)
  unfolding predicates_end
  predicates_is = refl

  pub kind_is : (q : ℕ) → q ≡ past s p 8 → byte_m s q ≡ kind_m s p
  unfolding kind_m
  kind_is q e = rw e

  pub triggers_is : triggers_m s p ≡ past s p 7
  unfolding triggers_m
  triggers_is = refl

  pub conditions_is : (q n a : ℕ) → q ≡ triggers_m s p → n ≡ place_m s q → a ≡ past s q 2 → past s a (16 * n) ≡ conditions_m s p
  unfolding conditions_m
  conditions_is q n a e f g = rw (g, f, e)

  pub actions_is : (q : ℕ) → q ≡ conditions_m s p → predicates_end s q ≡ actions_m s p
  unfolding actions_m
  actions_is q e = rw e

  module _ {k : ℕ} where
    pub simple_0 : k ≡ 0 → simple_end s k p ≡ past s p 4
    unfolding simple_end
    simple_0 e = rw e

    pub simple_2 : k ≡ 2 → simple_end s k p ≡ past s p 4
    unfolding simple_end
    simple_2 e = rw e

    pub simple_3 : k ≡ 3 → simple_end s k p ≡ predicate_end s p
    unfolding simple_end
    simple_3 e = rw e

    pub simple_5 : k ≡ 5 → simple_end s k p ≡ past s p 21
    unfolding simple_end
    simple_5 e = rw e

    pub simple_else : (k ≡ 0 → ⊥) → (k ≡ 2 → ⊥) → (k ≡ 3 → ⊥) → (k ≡ 5 → ⊥) → simple_end s k p ≡ past s p 2
    unfolding simple_end
    simple_else a b c d = rw (ne_eqb _ _ a, ne_eqb _ _ b, ne_eqb _ _ c, ne_eqb _ _ d)

-- ---- walks

pub moved_is : (c : Cursor) (p : ℕ) → moved_cursor_m c p ≡ record { count = c.count; next = p }
unfolding moved_cursor_m
moved_is c p = refl

-- with the list that is lent
pub moved_of : (l : List ℕ) (c : Cursor) (p : ℕ) {r : Cursor} → r ≡ moved_cursor_m c p → walk_of l r ≡ moved_m (walk_of l c) p
unfolding moved_cursor_m moved_m
moved_of l c p e = rw e

module _ (w : Walk) where
  pub noted_in : w.count < 512 → noted_m w ≡ record {
    list = set w.list w.count w.next;
    count = w.count + 1;
    next =
        w.next;
  }
  unfolding noted_m
  noted_in h = rw (lt-ltb w.count 512 h)

  pub noted_out : 512 ≤ w.count → noted_m w ≡ w
  unfolding noted_m
  noted_out h = rw (le-ltb w.count 512 h)

module _ (s : List ℕ) (w : Walk) where
  pub entered_is : (v : Walk) (p : ℕ) → v ≡ noted_m w → p ≡ past s w.next 9 → moved_m v p ≡ entered_m s w
  unfolding entered_m
  entered_is v p e f = rw (e, f)

  pub simple_is : (v : Walk) (k q p : ℕ) → k ≡ kind_m s w.next → q ≡ past s w.next 9 → p ≡ simple_end s k q →
      v ≡ noted_m w → moved_m v p ≡ simple_m s w
  unfolding simple_m
  simple_is v k q p e f g h = rw (h, g, f, e)

  pub action_choice : (choice : Walk → Walk) → kind_m s w.next ≡ 4 → action_m s choice w ≡ choice (entered_m s w)
  unfolding action_m
  action_choice choice h = rw (eq-eqb (kind_m s w.next) 4 h)

  pub action_simple : (choice : Walk → Walk) → (kind_m s w.next ≡ 4 → ⊥) → action_m s choice w ≡ simple_m s w
  unfolding action_m
  action_simple choice h = rw (ne_eqb (kind_m s w.next) 4 h)

  pub list_none : list_m 0 s w ≡ w
  unfolding list_m
  list_none = refl

  pub list_more : (left : ℕ) → (left ≡ 0 → ⊥) → list_m left s w
      ≡ repeat (place_m s w.next) (action_m s (choice_m s (list_m (left - 1) s))) (moved_m w (past s w.next 2))
  unfolding list_m
  list_more zero h = absurd (h refl)
  list_more (suc left) h = rw (sub-one (suc left))

  pub list_suc : (left : ℕ) → list_m (suc left) s w ≡ repeat (place_m s w.next) (action_m s (choice_m s (list_m left s)))
      (moved_m w (past s w.next 2))
  unfolding list_m
  list_suc left = refl

  pub choice_is : (inner : Walk → Walk) → choice_m s inner w
      ≡ inner (repeat (place_m s w.next) (branch_m s inner) (moved_m w (past s w.next 2)))
  unfolding choice_m
  choice_is inner = refl

  pub branch_is : (inner : Walk → Walk) → branch_m s inner w ≡ inner (moved_m w (predicates_end s w.next))
  unfolding branch_m
  branch_is inner = refl

pub walk_is : (s : List ℕ) (p : ℕ) {l : List ℕ} {q : ℕ} → l ≡ replicate 512 0 → q ≡ actions_m s p →
    list_m 18 s (record { list = l; count = 0; next = q }) ≡ walk_m s p
unfolding walk_m
walk_is s p d e = rw (d, e)

pub list_end_is : (s : List ℕ) (p : ℕ) (w : Walk) → w ≡ list_m 18 s (fresh p) → w.next ≡ list_end s p
unfolding list_end
list_end_is s p w e = rw e

pub source_is : (s : List ℕ) (p : ℕ) {q : ℕ} → q ≡ actions_m s p → list_end s q ≡ (walk_m s p).next
unfolding list_end walk_m
source_is s p e = rw e

pub same_start : {A : Type 0} (f : A → A) {n m : ℕ} {a b : A} → n ≡ m → a ≡ b → repeat m f b ≡ repeat n f a
same_start f e g = rw (e, g)

-- ---- loops of walks

module _ (s : List ℕ) (w : Walk) {i p : ℕ} {v u : Walk} (e : i ≡ place_m s w.next) (f : p ≡ past s w.next 2)
    (g : v ≡ moved_m w p) where
  pub list_done : (left : ℕ) → (left ≡ 0 → ⊥) → repeat i (action_m s (choice_m s (list_m (left - 1) s))) v ≡ u →
      u ≡ list_m left s w
  list_done left h k = sym (list_more s w left h ∙ rw (← e, ← f, ← g) k)

  pub choice_done : (inner : Walk → Walk) → repeat i (branch_m s inner) v ≡ u → inner u ≡ choice_m s inner w
  choice_done inner k = sym (choice_is s w inner ∙ rw (← e, ← f, ← g) (ap inner k))

pub branch_next : (s : List ℕ) (inner : Walk → Walk) (v : Walk) {u x : Walk} {p : ℕ} → p ≡ predicates_end s v.next →
    u ≡ moved_m v p → x ≡ inner u → branch_m s inner v ≡ x
branch_next s inner v e f g = branch_is s v inner ∙ rw (← e, ← f) (sym g)
