-- The queue before the loop and its next item, by cases.
use Prim.Native.Nat.{ℕ, ◌+◌, ◌-◌, ◌≤◌, ◌<◌}
use mathlib.Core.Path.{◌≡◌, refl, sym, ◌∙◌, ap, subst}
use mathlib.Core.Bool.{false}
use mathlib.Core.List.{List}
use lib.Dec.{ltb, leb}
use lib.ListN.{length, get_or}
use borrow.Author.Tests.{eq-eqb, ne_eqb, lt-ltb, le-ltb, le-leb, lt-leb}
use native.Mathlib.Numerals.{add-one}
use native.Mathlib.Omega.{arith}
use Rattle.std.specs.Prelude.{Option, Some, None}
use Rattle.queue.specs.Queue as queue
use Rattle.queue.specs.declared.Item.{Item}
use Rattle.bounds.specs.Bounds.{at_most}
use Rattle.engine_fields.specs.Fields.{entities}
use Rattle.engine_state.specs.declared.State.{State}
use Rattle.engine_state.specs.Machine.{Machine, Content, entire, machine}
use Rattle.engine_state.specs.Steps.{Held}
use Rattle.engine_update.specs.Update.{expiry_m}
use Rattle.engine_schedule.specs.Next.{Seen, next_after_m, next_m, why_next_m, why_m, Why}
use Rattle.engine_schedule.specs.Events.{add_event_m, add_events_m, expiries_m, add_expiries_m}
use Rattle.engine_schedule.specs.declared.Next.{Next}
use Rattle.engine_schedule.specs.declared.Next.TheVariants.{Stop, Space, Take}

-- ---- what comes next

module _ (x q : List ℕ) (st : State) (t : Option Item) (ens : queue.Next q st.queue_start st.items t) where
  after_is : (y : Option Item) → t ≡ y → (f a b u v n c : List ℕ) (k : Content) → Held f q a b u (entire st v n c) k →
      next_after_m x y (machine (entire st v n c) k) ≡ next_m x (machine (entire st v n c) k)
  unfolding next_m
  after_is y e f a b u v n c k held = ap (λ z. next_after_m x z (machine (entire st v n c) k))
      (sym e ∙ ens.is k.queue (sym held.queue.many) held.queue.is)

  pub seen_nothing : t ≡ None → Seen (next_m x) q st Stop
  unfolding next_after_m
  seen_nothing e = record { is = λ f a b u v n c k held. after_is None e f a b u v n c k held }

  module _ (i : Item) (e : t ≡ Some i) where
    pub seen_records : 10000 ≤ st.records → Seen (next_m x) q st Space
    unfolding next_after_m
    seen_records h =
        record {
          is =
              λ f a b u v n c k held. rw (le-leb 10000 (length k.records)
              (subst (λ i. 10000 ≤ i) held.records.many h)) at
              (after_is (Some i) e f a b u v n c k held);
        }

    module _ (hr : st.records < 10000) where
      few : (f a b u v n c : List ℕ) (k : Content) → Held f q a b u (entire st v n c) k →
          leb 10000 (length k.records) ≡ false
      few f a b u v n c k held = lt-leb 10000 (length k.records) (subst (λ i. i < 10000) held.records.many hr)

      pub seen_items : 20000 < st.items → Seen (next_m x) q st Space
      unfolding next_after_m
      seen_items h =
          record {
            is = λ f a b u v n c k held. rw (
              few f a b u v n c k held,
              lt-ltb 20000 (length k.queue) (subst (λ i. 20000 < i) held.queue.many h),
            ) at
                (after_is (Some i) e f a b u v n c k held);
          }

      module _ (hi : st.items ≤ 20000) where
        short : (f a b u v n c : List ℕ) (k : Content) → Held f q a b u (entire st v n c) k →
            ltb 20000 (length k.queue) ≡ false
        short f a b u v n c k held = le-ltb 20000 (length k.queue) (subst (λ i. i ≤ 20000) held.queue.many hi)

        pub seen_late : get_or x 2 0 < i.second → Seen (next_m x) q st Stop
        unfolding next_after_m
        seen_late h =
            record {
              is = λ f a b u v n c k held. rw (
                few f a b u v n c k held,
                short f a b u v n c k held,
                lt-ltb (get_or x 2 0) i.second h,
              ) at (after_is (Some i) e f a b u v n c k held);
            }

        pub seen_take : i.second ≤ get_or x 2 0 → Seen (next_m x) q st Take
        unfolding next_after_m
        seen_take h =
            record {
              is = λ f a b u v n c k held. rw (
                few f a b u v n c k held,
                short f a b u v n c k held,
                le-ltb (get_or x 2 0) i.second h,
              ) at (after_is (Some i) e f a b u v n c k held);
            }

module _ (x : List ℕ) (left : ℕ) (q : List ℕ) (st : State) where
  pub why_full : (st.«overflow» ≡ 0 → ⊥) → Why x left q st 3
  unfolding why_m
  why_full h = record {
    seen = record { is = λ f a b u v n c k held. rw (ne_eqb st.«overflow» 0 h) };
    more =
        λ e. absurd (omega arith);
  }

  pub why_next : (n g : Next) (r : ℕ) → st.«overflow» ≡ 0 → Seen (next_m x) q st n → n ≡ g → r ≡ why_next_m left g →
      (r ≡ 4 → 0 < left) → Why x left q st r
  unfolding why_m
  why_next n g r z seen e is more = record {
    seen =
        record {
          is = λ f a b u v n c k held. rw (eq-eqb st.«overflow» 0 z)
              (is ∙ ap (why_next_m left) (sym e ∙ seen.is f a b u v n c k held));
        };
    more = more;
  }

pub take_none : (left : ℕ) → left ≡ 0 → 2 ≡ why_next_m left Take
unfolding why_next_m
take_none left e = rw (eq-eqb left 0 e)

pub take_some : (left : ℕ) → (left ≡ 0 → ⊥) → 4 ≡ why_next_m left Take
unfolding why_next_m
take_some left e = rw (ne_eqb left 0 e)

pub stop_is : (left : ℕ) → 0 ≡ why_next_m left Stop
unfolding why_next_m
stop_is left = refl

pub space_is : (left : ℕ) → 1 ≡ why_next_m left Space
unfolding why_next_m
space_is left = refl

-- ---- before and after

pub events_none : (l : List ℕ) (m : Machine) → m ≡ add_events_m l 0 m
unfolding add_events_m
events_none l m = refl

pub events_more : (l : List ℕ) (i : ℕ) (m : Machine) → add_event_m l i (add_events_m l i m) ≡ add_events_m l (i + 1) m
unfolding add_events_m
events_more l i m = rw (add-one i)

pub events_all : (l : List ℕ) (i n : ℕ) (m : Machine) → i ≡ n → add_events_m l i m ≡ add_events_m l n m
events_all l i n m e = ap (λ z. add_events_m l z m) e

pub expiries_none : (x : List ℕ) (m : Machine) → m ≡ expiries_m x 0 m
unfolding expiries_m
expiries_none x m = refl

pub expiries_more : (x : List ℕ) (e : ℕ) (m : Machine) → expiry_m x e (expiries_m x e m) ≡ expiries_m x (e + 1) m
unfolding expiries_m
expiries_more x e m = rw (add-one e)

pub expiries_all : (x : List ℕ) (e n : ℕ) (m : Machine) → e ≡ n → n ≡ at_most (get_or x 0 0) 32 →
    expiries_m x e m ≡ add_expiries_m x m
unfolding add_expiries_m entities
expiries_all x e n m h g = ap (λ z. expiries_m x z m) (h ∙ g)
