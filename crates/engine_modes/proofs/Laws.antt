-- Runs in their area, and what begins, by cases.
use Prim.Native.Nat.{ℕ, ◌*◌, ◌/◌, ◌≤◌}
use mathlib.Core.Path.{◌≡◌, refl, sym, ◌∙◌, ap, subst}
use mathlib.Core.Bool.{Bool, true, false}
use mathlib.Core.List.{List}
use lib.ListN.{length}
use native.Mathlib.Omega.{arith}
use Rattle.areas.specs.Areas.{area}
use Rattle.runs.specs.Lists.{tally, keep}
use Rattle.runs.specs.Runs.{run_words, other, Counted, Dropped}
use Rattle.runs.specs.declared.Run.{Run}
use Rattle.engine_fields.specs.Fields.{word}
use Rattle.engine_state.specs.declared.State.{State}
use Rattle.engine_state.specs.Machine.{Machine, Entire, entire, machine, with_active}
use Rattle.engine_state.specs.Steps.{Running, Lent, kept, goes, Listing, still, Steps, Moves}
use Rattle.engine_state.proofs.Laws as states
use Rattle.engine_modes.specs.Modes.{
  new_run,
  begin_run_m,
  begin_now_m,
  begin_queued_m,
  begin_later_m,
  drop_m,
  decide_m,
  decided_m,
  carry_with_m,
}
use Rattle.engine_modes.specs.declared.Decision.{Decision}

-- ---- changes of the run area

abbrev pub active : ℕ → Entire → Entire
active n st = record {
  now = st.now;
  items = st.items;
  queue_start = st.queue_start;
  records = st.records;
  live_runs = n;
  reasons = st.reasons;
  runs_created = st.runs_created;
  «overflow» = st.«overflow»;
  sequences =
      st.sequences;
  cells = st.cells;
}

-- what fits, fits by another name
pub fits_as : (size l : ℕ) {m n : ℕ} → n ≡ m → m * size ≤ l → n * size ≤ l
fits_as size l e h = subst (λ z. z * size ≤ l) (sym e) h

-- other runs in an area of the same size
pub held_runs : (r b : List ℕ) (m : ℕ) → length b ≡ length r → (n size : ℕ) (l l' : List Run) → Running r m size l →
    n ≡ length l' → b ≡ area run_words (length r) l' → Running b n size l'
held_runs r b m same n size l l' old many is = record {
  room = ap (λ i. i / 28) same ∙ old.room;
  many = many;
  is =
      is ∙ ap (λ i. area run_words i l') (sym same);
}

module _ (st : Entire) (r b : List ℕ) (h : st.live_runs * 28 ≤ length r) (same : length b ≡ length r) where
  dropped_from : (i left : ℕ) → Dropped i r st.live_runs b left →
      Steps (λ c. drop_m i (machine st c)) st (active left st) kept kept (goes r b) still
  unfolding drop_m
  dropped_from i left d = record {
    queue = refl;
    records = refl;
    runs = (same, omega (arith, d.room, same));
    reasons = refl;
    does = λ f q a _ u c held.
        let old = held.runs in
        record {
          content = states.k_runs (keep (other i) c.runs) c;
          held = record {
            queue = held.queue;
            records = held.records;
            runs =
                held_runs r b st.live_runs same left c.run_size c.runs (keep (other i) c.runs) old
                (d.many c.runs (sym old.many, old.is)) (d.is c.runs (sym old.many, old.is));
            reasons =
                held.reasons;
          };
          is = refl;
        };
  }

module _ (st : State) (r b : List ℕ) (h : st.live_runs * 28 ≤ length r) (same : length b ≡ length r) (s : State) where
  pub dropped : (i left : ℕ) → Dropped i r st.live_runs b left → s ≡ with_active left st →
      Moves (drop_m i) st s kept kept (goes r b) still kept kept kept
  dropped i left d e =
      states.moves
      (λ v n c. subst (λ z. Steps (λ k. drop_m i (machine (entire st v n c) k)) (entire st v n c) (entire z v n c) kept kept
      (goes r b) still) (sym e) (dropped_from (entire st v n c) r b h same i left d))

-- ---- what is read of the run area is what the machine holds

module _ {st s : Entire} {Q A : Lent} {r b : List ℕ} {U : Listing} where
  pub with_count : (F : ℕ → Machine → Machine) {p : Run → Bool} {n : ℕ} → Counted p r st.live_runs n →
      Steps (λ c. F n (machine st c)) st s Q A (goes r b) U →
      Steps (λ c. F (tally p c.runs) (machine st c)) st s Q A (goes r b) U
  with_count F {p} counted d = states.knowing (λ c. F (tally p c.runs) (machine st c)) d (λ f q a _ u c held.
      ap (λ z. F z (machine st c)) (counted.is c.runs (sym held.runs.many, held.runs.is)))

-- ---- runs that begin

pub begin_now_is : (f x : List ℕ) (i : ℕ) (r : Run) (m : Machine) →
    r ≡ new_run f x i false m.runs_created m.sequences → begin_run_m i r m ≡ begin_now_m f x i m
unfolding begin_now_m
begin_now_is f x i r m e = ap (λ z. begin_run_m i z m) e

pub begin_later_is : (f x : List ℕ) (i : ℕ) (r : Run) (m : Machine) →
    r ≡ new_run f x i true m.runs_created m.sequences → begin_queued_m i r m ≡ begin_later_m f x i m
unfolding begin_later_m
begin_later_is f x i r m e = ap (λ z. begin_queued_m i z m) e

pub carry_is : (f x : List ℕ) (i n w v : ℕ) (d g : Decision) (m : Machine) → d ≡ g → d ≡ decide_m w v n → w ≡ word x i 1 →
    v ≡ word x i 2 → decided_m f x i g m ≡ carry_with_m f x i n m
unfolding carry_with_m
carry_is f x i n w v d g m e is ew ev = ap (λ z. decided_m f x i z m)
    (sym e ∙ is ∙ ap (λ z. decide_m z v n) ew ∙ ap (λ z. decide_m (word x i 1) z n) ev)
