-- The primitive changes by cases, and how changes are put together.
use Rattle.std.specs.Prelude.{Option, if◌then◌else◌}
use Prim.Native.Nat.{ℕ, suc, ◌+◌, ◌-◌, ◌/◌, ◌*◌, ◌≤◌, ◌<◌}
use mathlib.Core.Path.{◌≡◌, refl, sym, ◌∙◌, ap, subst}
use mathlib.Core.Bool.{Bool, true, false}
use mathlib.Core.List.{List, [], ◌∷◌, ◌++◌, map}
use lib.Dec.{ltb}
use lib.ListN.{length, length-append, get_or, set}
use borrow.Author.Tests.{ltb-true, eq-eqb, ne_eqb, lt-ltb, le-ltb, le-leb, lt-leb}
use native.Mathlib.Nat.{le-div_iff_mul-le}
use native.Mathlib.Omega.{arith}
use native.Mathlib.Numerals.{add-one}
use Rattle.layout.specs.Sizes.{last_simulation_reason, simulation_reason_words}
use Rattle.texts.specs.Texts.{Text, mem_t}
use Rattle.areas.specs.Areas.{area}
use Rattle.std.specs.Prelude.{Option, Some, None, is_some}
use Rattle.queue.specs.Queue.{laid, Inserted}
use Rattle.queue.specs.declared.Item.{Item}
use Rattle.queue.specs.declared.Work.{Work}
use Rattle.records.specs.Records as records
use Rattle.records.specs.declared.Source.{Source}
use Rattle.records.specs.declared.Write.{Write}
use Rattle.records.specs.declared.Record.{Record}
use Rattle.runs.specs.Runs as runs
use Rattle.runs.specs.declared.Run.{Run}
use Rattle.reasons.specs.declared.Reason.{Reason}
use Rattle.reasons.specs.Reasons.{render}
use Rattle.reasons.specs.Readable.{Readable, HasText}
use Rattle.reasons.specs.Lists.{push_t, reasons, listed, Grows}
use Rattle.reasons.proofs.Entries.{length_reasons}
use Rattle.reasons.proofs.Listing.{grown}
use Rattle.engine_state.specs.declared.Cells.{Cells}
use Rattle.engine_state.specs.declared.State.{State}
use Rattle.engine_state.specs.declared.Told.{Told}
use Rattle.engine_state.specs.Machine.{
  Machine,
  Content,
  Entire,
  entire,
  machine,
  more,
  later,
  put_full,
  put_counts,
  put_queue,
  put_records,
  put_runs,
  put_reasons,
  with_queue,
  with_records,
  with_reasons,
  with_full,
  with_run,
  with_cells,
}
use Rattle.engine_state.specs.Changes.{item, entry, add_m, log_m, add_run_m, uncertain_m, set_cells}
use Rattle.engine_state.specs.Steps.{
  Queued,
  Logged,
  Running,
  Held,
  Lent,
  kept,
  goes,
  Listing,
  still,
  told,
  Side,
  SideTold,
  first,
  last,
  file,
  first_told,
  last_told,
  Steps,
  Turns,
  Moves,
}

-- ---- choices

pub more_yes : (x : ℕ) → x < 4294967295 → x + 1 ≡ more x
unfolding more
more_yes x h = rw (lt-ltb x 4294967295 h)

pub more_no : (x : ℕ) → 4294967295 ≤ x → x ≡ more x
unfolding more
more_no x h = rw (le-ltb x 4294967295 h)

pub later_yes : (a b : ℕ) → b ≤ 4294967295 - a → a + b ≡ later a b
unfolding later
later_yes a b h = rw (le-leb b (4294967295 - a) h)

pub later_no : (a b : ℕ) → 4294967295 - a < b → 4294967295 ≡ later a b
unfolding later
later_no a b h = rw (lt-leb b (4294967295 - a) h)

-- what a function does, from what its state with any arrays does
pub moves : {F : Machine → Machine} {st s : State} {Q A R : Lent} {U : Listing} {L N C : Lent} →
    ((v n c : List ℕ) → Turns F (entire st (first L v) (first N n) (first C c)) (entire s (last L v) (last N n) (last C c))
    Q A R U) → Moves F st s Q A R U L N C
moves d = record {
  queue = (d [] [] []).queue;
  records = (d [] [] []).records;
  runs = (d [] [] []).runs;
  reasons =
      (d [] [] []).reasons;
  does = d;
}

pub celled : (c : Cells) (st : Entire) → Turns (set_cells c) st (with_cells c st) kept kept kept still
celled c st = record {
  queue = refl;
  records = refl;
  runs = refl;
  reasons = refl;
  does =
      λ f q a r u k held. record {
        content = k;
        held =
            record { queue = held.queue; records = held.records; runs = held.runs; reasons = held.reasons };
        is = refl;
      };
}

-- ---- parts

pub length_one : {A : Type 0} (l : List A) (x : A) → length (l ++ x ∷ []) ≡ length l + 1
length_one l x = length-append l (x ∷ [])

room_is : (size n len now : ℕ) → 0 < size → now ≡ len → ltb n (len / size) ≡ true → (n + 1) * size ≤ now
room_is size n len now z e t = rw (e, add-one n) ((le-div_iff_mul-le {k = size} z).0 (ltb-true n (len / size) t))

-- a queue's content changed
abbrev pub k_queue : List Item → Content → Content
k_queue l k = record {
  queue_size = k.queue_size;
  record_size = k.record_size;
  run_size = k.run_size;
  queue = l;
  records =
      k.records;
  runs = k.runs;
  reasons = k.reasons;
}

abbrev pub k_records : List Record → Content → Content
k_records l k = record {
  queue_size = k.queue_size;
  record_size = k.record_size;
  run_size = k.run_size;
  queue = k.queue;
  records = l;
  runs = k.runs;
  reasons = k.reasons;
}

abbrev pub k_runs : List Run → Content → Content
k_runs l k = record {
  queue_size = k.queue_size;
  record_size = k.record_size;
  run_size = k.run_size;
  queue = k.queue;
  records =
      k.records;
  runs = l;
  reasons = k.reasons;
}

abbrev pub k_reasons : List Text → Content → Content
k_reasons l k = record {
  queue_size = k.queue_size;
  record_size = k.record_size;
  run_size = k.run_size;
  queue = k.queue;
  records = k.records;
  runs = k.runs;
  reasons = l;
}

-- ---- an item more

module _ (s : ℕ) (w : Work) (m : Machine) where
  add_stuck : (m.«overflow» ≡ 0 → ⊥) → m ≡ add_m s w m
  unfolding add_m
  add_stuck z = rw (ne_eqb m.«overflow» 0 z)

  add_goes : m.«overflow» ≡ 0 → ltb (length m.queue) m.queue_size ≡ true →
      put_queue (m.queue ++ item s w ∷ []) m ≡ add_m s w m
  unfolding add_m
  add_goes z t = rw (eq-eqb m.«overflow» 0 z, t)

  add_full : m.«overflow» ≡ 0 → ltb (length m.queue) m.queue_size ≡ false → put_full 41 m ≡ add_m s w m
  unfolding add_m
  add_full z t = rw (eq-eqb m.«overflow» 0 z, t)

module _ (st : Entire) (q : List ℕ) (s : ℕ) (w : Work) where
  pub stuck : (st.queue_start + st.items) * 5 ≤ length q → (st.«overflow» ≡ 0 → ⊥) →
      Turns (add_m s w) st st (goes q q) kept kept still
  stuck h z = record {
    queue = (refl, h);
    records = refl;
    runs = refl;
    reasons = refl;
    does =
        λ f _ a r u k held. record { content = k; held = held; is = add_stuck s w (machine st k) z };
  }

  module _ (b : List ℕ) (p : Option ℕ) (ins : Inserted q st.queue_start st.items (item s w) b p) (z : st.«overflow» ≡ 0)
      (same : length b ≡ length q) where
    size_is : (size : ℕ) (l : List Item) → Queued q st.queue_start st.items size l → ltb (length l) size ≡ is_some p
    size_is size l h = ap (λ n. ltb n size) (sym h.many) ∙ ap (λ n. ltb st.items n) (sym h.room) ∙ sym ins.room

    pub added : (to : ℕ) → p ≡ Some to → Turns (add_m s w) st (with_queue to (st.items + 1) st) (goes q b) kept kept still
    added to e = record {
      queue = (same, rw same (ins.within to e));
      records = refl;
      runs = refl;
      reasons = refl;
      does = λ f _ a r u k held.
          record {
            content = k_queue (k.queue ++ item s w ∷ []) k;
            held = record {
              queue = more_queued k.queue_size k.queue held.queue;
              records = held.records;
              runs =
                  held.runs;
              reasons = held.reasons;
            };
            is = add_goes s w (machine st k) z (size_is k.queue_size k.queue held.queue ∙ ap is_some e);
          };
    }
      where
        more_queued : (size : ℕ) (l : List Item) → Queued q st.queue_start st.items size l →
            Queued b to (st.items + 1) size (l ++ item s w ∷ [])
        more_queued size l h = record {
          room = ap (λ n. n / 5) same ∙ h.room;
          many =
              ap (λ n. n + 1) h.many ∙ sym (length_one l (item s w));
          is =
              ins.more to e l (sym h.many) h.is ∙ ap (λ n. laid to n (l ++ item s w ∷ [])) (sym same);
        }

    pub add_refused : (st.queue_start + st.items) * 5 ≤ length q → p ≡ None →
        Turns (add_m s w) st (with_full 41 st) (goes q b) kept kept still
    add_refused h e = record {
      queue = (same, omega (arith, h, same));
      records = refl;
      runs = refl;
      reasons = refl;
      does = λ f _ a r u k held.
          record {
            content = k;
            held = record {
              queue = same_queued k.queue_size k.queue held.queue;
              records = held.records;
              runs =
                  held.runs;
              reasons = held.reasons;
            };
            is = add_full s w (machine st k) z (size_is k.queue_size k.queue held.queue ∙ ap is_some e);
          };
    }
      where
        same_queued : (size : ℕ) (l : List Item) → Queued q st.queue_start st.items size l →
            Queued b st.queue_start st.items size l
        same_queued size l h = record {
          room = ap (λ n. n / 5) same ∙ h.room;
          many = h.many;
          is =
              ins.same e ∙ h.is ∙ ap (λ n. laid st.queue_start n l) (sym same);
        }

-- ---- a record more

module _ (t : Told) (v : Option ℕ) (w : Option Source) (x : Option Write) (m : Machine) where
  log_stuck : (m.«overflow» ≡ 0 → ⊥) → m ≡ log_m t v w x m
  unfolding log_m
  log_stuck z = rw (ne_eqb m.«overflow» 0 z)

  log_goes : m.«overflow» ≡ 0 → ltb (length m.records) m.record_size ≡ true →
      put_records (m.records ++ entry m.now t v w x ∷ []) m ≡ log_m t v w x m
  unfolding log_m
  log_goes z e = rw (eq-eqb m.«overflow» 0 z, e)

  log_full : m.«overflow» ≡ 0 → ltb (length m.records) m.record_size ≡ false → put_full 42 m ≡ log_m t v w x m
  unfolding log_m
  log_full z e = rw (eq-eqb m.«overflow» 0 z, e)

module _ (st : Entire) (a : List ℕ) (t : Told) (v : Option ℕ) (w : Option Source) (x : Option Write) where
  pub unlogged : st.records * 13 ≤ length a → (st.«overflow» ≡ 0 → ⊥) →
      Turns (log_m t v w x) st st kept (goes a a) kept still
  unlogged h z = record {
    queue = refl;
    records = (refl, h);
    runs = refl;
    reasons = refl;
    does =
        λ f q _ r u k held. record { content = k; held = held; is = log_stuck t v w x (machine st k) z };
  }

  module _ (b : List ℕ) (p : Bool) (ins : records.Pushed a st.records (entry st.now t v w x) b p)
      (z : st.«overflow» ≡ 0) (same : length b ≡ length a) where
    record_room : (size : ℕ) (l : List Record) → Logged a st.records size l → ltb (length l) size ≡ p
    record_room size l h = ap (λ n. ltb n size) (sym h.many) ∙ ap (λ n. ltb st.records n) (sym h.room)
        ∙ sym ins.room

    pub logged : p ≡ true → Turns (log_m t v w x) st (with_records (st.records + 1) st) kept (goes a b) kept still
    logged e = record {
      queue = refl;
      records = (same, room_is 13 st.records (length a) (length b) (omega arith) same (sym ins.room ∙ e));
      runs = refl;
      reasons = refl;
      does = λ f q _ r u k held.
          record {
            content = k_records (k.records ++ entry st.now t v w x ∷ []) k;
            held = record {
              queue = held.queue;
              records = more_logged k.record_size k.records held.records;
              runs =
                  held.runs;
              reasons = held.reasons;
            };
            is = log_goes t v w x (machine st k) z (record_room k.record_size k.records held.records ∙ e);
          };
    }
      where
        more_logged : (size : ℕ) (l : List Record) → Logged a st.records size l →
            Logged b (st.records + 1) size (l ++ entry st.now t v w x ∷ [])
        more_logged size l h = record {
          room = ap (λ n. n / 13) same ∙ h.room;
          many =
              ap (λ n. n + 1) h.many ∙ sym (length_one l (entry st.now t v w x));
          is =
              ins.more e l (sym h.many) h.is
              ∙ ap (λ n. area records.record_words n (l ++ entry st.now t v w x ∷ []))
              (sym same);
        }

    pub log_refused : st.records * 13 ≤ length a → p ≡ false →
        Turns (log_m t v w x) st (with_full 42 st) kept (goes a b) kept still
    log_refused h e = record {
      queue = refl;
      records = (same, omega (arith, h, same));
      runs = refl;
      reasons = refl;
      does = λ f q _ r u k held.
          record {
            content = k;
            held = record {
              queue = held.queue;
              records = same_logged k.record_size k.records held.records;
              runs =
                  held.runs;
              reasons = held.reasons;
            };
            is = log_full t v w x (machine st k) z (record_room k.record_size k.records held.records ∙ e);
          };
    }
      where
        same_logged : (size : ℕ) (l : List Record) → Logged a st.records size l → Logged b st.records size l
        same_logged size l h = record {
          room = ap (λ n. n / 13) same ∙ h.room;
          many = h.many;
          is =
              ins.same e ∙ h.is ∙ ap (λ n. area records.record_words n l) (sym same);
        }

-- ---- a run more

module _ (i : ℕ) (x : Run) (m : Machine) where
  run_stuck : (m.«overflow» ≡ 0 → ⊥) → m ≡ add_run_m i x m
  unfolding add_run_m
  run_stuck z = rw (ne_eqb m.«overflow» 0 z)

  run_goes : m.«overflow» ≡ 0 → ltb (length m.runs) m.run_size ≡ true →
      put_counts (more m.runs_created) (set m.sequences i (more (get_or m.sequences i 0)))
      (put_runs (m.runs ++ x ∷ []) m) ≡ add_run_m i x m
  unfolding add_run_m
  run_goes z e = rw (eq-eqb m.«overflow» 0 z, e)

  run_full : m.«overflow» ≡ 0 → ltb (length m.runs) m.run_size ≡ false → put_full 43 m ≡ add_run_m i x m
  unfolding add_run_m
  run_full z e = rw (eq-eqb m.«overflow» 0 z, e)

module _ (st : Entire) (r : List ℕ) (i : ℕ) (x : Run) where
  pub unrun : st.live_runs * 28 ≤ length r → (st.«overflow» ≡ 0 → ⊥) →
      Turns (add_run_m i x) st st kept kept (goes r r) still
  unrun h z = record {
    queue = refl;
    records = refl;
    runs = (refl, h);
    reasons = refl;
    does =
        λ f q a _ u k held. record { content = k; held = held; is = run_stuck i x (machine st k) z };
  }

  module _ (b : List ℕ) (p : Bool) (ins : runs.Pushed r st.live_runs x b p) (z : st.«overflow» ≡ 0)
      (same : length b ≡ length r) where
    run_room : (size : ℕ) (l : List Run) → Running r st.live_runs size l → ltb (length l) size ≡ p
    run_room size l h = ap (λ n. ltb n size) (sym h.many) ∙ ap (λ n. ltb st.live_runs n) (sym h.room)
        ∙ sym ins.room

    pub run_added : (made next : ℕ) → made ≡ more st.runs_created → next ≡ more (get_or st.sequences i 0) → p ≡ true →
        Turns (add_run_m i x) st (with_run (st.live_runs + 1) made (set st.sequences i next) st) kept kept (goes r b)
        still
    run_added made next em en e = record {
      queue = refl;
      records = refl;
      runs = (same, room_is 28 st.live_runs (length r) (length b) (omega arith) same (sym ins.room ∙ e));
      reasons = refl;
      does = λ f q a _ u k held.
          record {
            content = k_runs (k.runs ++ x ∷ []) k;
            held = record {
              queue = held.queue;
              records = held.records;
              runs =
                  more_running k.run_size k.runs held.runs;
              reasons = held.reasons;
            };
            is = counts_are (k_runs (k.runs ++ x ∷ []) k)
                ∙ run_goes i x (machine st k) z (run_room k.run_size k.runs held.runs ∙ e);
          };
    }
      where
        more_running : (size : ℕ) (l : List Run) → Running r st.live_runs size l →
            Running b (st.live_runs + 1) size (l ++ x ∷ [])
        more_running size l h = record {
          room = ap (λ n. n / 28) same ∙ h.room;
          many =
              ap (λ n. n + 1) h.many ∙ sym (length_one l x);
          is =
              ins.more e l (sym h.many, h.is) ∙ ap (λ n. area runs.run_words n (l ++ x ∷ [])) (sym same);
        }

        counts_are : (k : Content) → machine (with_run (st.live_runs + 1) made (set st.sequences i next) st) k
            ≡ put_counts (more st.runs_created) (set st.sequences i (more (get_or st.sequences i 0))) (machine st k)
        counts_are k = ap (λ n. put_counts n (set st.sequences i next) (machine st k)) em
            ∙ ap (λ n. put_counts (more st.runs_created) (set st.sequences i n) (machine st k)) en

    pub run_refused : st.live_runs * 28 ≤ length r → p ≡ false →
        Turns (add_run_m i x) st (with_full 43 st) kept kept (goes r b) still
    run_refused h e = record {
      queue = refl;
      records = refl;
      runs = (same, omega (arith, h, same));
      reasons = refl;
      does = λ f q a _ u k held.
          record {
            content = k;
            held = record {
              queue = held.queue;
              records = held.records;
              runs =
                  same_running k.run_size k.runs held.runs;
              reasons = held.reasons;
            };
            is = run_full i x (machine st k) z (run_room k.run_size k.runs held.runs ∙ e);
          };
    }
      where
        same_running : (size : ℕ) (l : List Run) → Running r st.live_runs size l → Running b st.live_runs size l
        same_running size l h = record {
          room = ap (λ n. n / 28) same ∙ h.room;
          many = h.many;
          is =
              ins.same e ∙ h.is ∙ ap (λ n. area runs.run_words n l) (sym same);
        }

-- ---- a reason more

length-map : {A B : Type 0} (f : A → B) (l : List A) → length (map f l) ≡ length l
length-map f [] = refl
length-map f (x ∷ l) = ap suc (length-map f l)

pub listed_length : (f : List ℕ) (n : ℕ) (u : List ℕ) → length (listed f n u) ≡ n
listed_length f n u = length-map (render f) (reasons n u) ∙ length_reasons n u

pub push_length : (t : Text) (l : List Text) → length (push_t t l) ≤ length l + 1
unfolding push_t
push_length t l = by (mem_t t l)
  where
    by : (b : Bool) → length (if b then l else l ++ (t ∷ [])) ≤ length l + 1
    by true = omega arith
    by false = omega (arith, length_one l t)

pub push_fits : (f u : List ℕ) (n : ℕ) (r : Reason) → n ≤ last_simulation_reason → simulation_reason_words ≤ length u →
    length (push_t (render f r) (listed f n u)) * 5 ≤ length u
push_fits f u n r h l = omega (arith, push_length (render f r) (listed f n u), listed_length f n u)

module _ (f u : List ℕ) (x : Reason) (st : Entire) where
  enough_is : (m : Machine) → ltb last_simulation_reason (length m.reasons) ≡ true → m ≡ uncertain_m f x m
  unfolding uncertain_m
  enough_is m e = rw e

  doubted_is : (m : Machine) → ltb last_simulation_reason (length m.reasons) ≡ false →
      put_reasons (push_t (render f x) m.reasons) m ≡ uncertain_m f x m
  unfolding uncertain_m
  doubted_is m e = rw e

  pub enough : st.reasons * 5 ≤ length u → last_simulation_reason < st.reasons →
      Turns (uncertain_m f x) st st kept kept kept (told f u u)
  enough h l = record {
    queue = refl;
    records = refl;
    runs = refl;
    reasons = (refl, h);
    does =
        λ _ q a r _ k held. record {
          content = k;
          held = held;
          is =
              enough_is (machine st k) (ap (λ n. ltb last_simulation_reason n) (sym held.reasons.many)
              ∙ lt-ltb last_simulation_reason st.reasons l);
        };
  }

  pub doubted : (b : List ℕ) (n : ℕ) → st.reasons ≤ last_simulation_reason → simulation_reason_words ≤ length u →
      length b ≡ length u →
      Grows f (Readable f x) (push_t (render f x) (listed f st.reasons u)) st.reasons u n b →
      (HasText f → Readable f x) →
      Turns (uncertain_m f x) st (with_reasons n st) kept kept kept (told f u b)
  doubted b n l room same h t = record {
    queue = refl;
    records = refl;
    runs = refl;
    reasons = (same, omega (arith, push_fits f u st.reasons x l room, h.many, same));
    does = λ _ q a r _ k held.
        record {
          content = k_reasons (push_t (render f x) k.reasons) k;
          held = record {
            queue = held.queue;
            records = held.records;
            runs = held.runs;
            reasons =
                grown f (push_t (render f x)) h t held.reasons;
          };
          is = doubted_is (machine st k) (ap (λ n. ltb last_simulation_reason n) (sym held.reasons.many)
              ∙ le-ltb last_simulation_reason st.reasons l);
        };
  }

-- ---- changes put together

-- an area over two changes
pub data Joined : Lent → Lent → Lent → Type 0 where
  none : Joined kept kept kept
  one : {b c : List ℕ} → Joined (goes b c) kept (goes b c)
  two : {b c : List ℕ} → Joined kept (goes b c) (goes b c)
  both : {b c d : List ℕ} → Joined (goes b c) (goes c d) (goes b d)

pub data JoinedTold : Listing → Listing → Listing → Type 0 where
  none : JoinedTold still still still
  one : {f b c : List ℕ} → JoinedTold (told f b c) still (told f b c)
  two : {f b c : List ℕ} → JoinedTold still (told f b c) (told f b c)
  both : {f b c d : List ℕ} → JoinedTold (told f b c) (told f c d) (told f b d)

side : (size : ℕ) {P Q R : Lent} (l m n : ℕ) → Joined P Q R → Side size P l m → Side size Q m n → Side size R l n
side size l m n none p q = q ∙ p
side size l m n one p q = (p.0, rw q p.1)
side size l m n two p q = q
side size l m n both p q = (q.0 ∙ p.0, q.1)

side_told : {P Q R : Listing} (l m n : ℕ) → JoinedTold P Q R → SideTold P l m → SideTold Q m n → SideTold R l n
side_told l m n none p q = q ∙ p
side_told l m n one p q = (p.0, rw q p.1)
side_told l m n two p q = q
side_told l m n both p q = (q.0 ∙ p.0, q.1)

start : {P Q R : Lent} → Joined P Q R → (x : List ℕ) → first R x ≡ first P (first R x)
start none x = refl
start one x = refl
start two x = refl
start both x = refl

middle : {P Q R : Lent} → Joined P Q R → (x : List ℕ) → last P (first R x) ≡ first Q (last P (first R x))
middle none x = refl
middle one x = refl
middle two x = refl
middle both x = refl

end : {P Q R : Lent} → Joined P Q R → (x : List ℕ) → last Q (last P (first R x)) ≡ last R x
end none x = refl
end one x = refl
end two x = refl
end both x = refl

start_told : {P Q R : Listing} → JoinedTold P Q R → (x : List ℕ) → first_told R x ≡ first_told P (first_told R x)
start_told none x = refl
start_told one x = refl
start_told two x = refl
start_told both x = refl

middle_told : {P Q R : Listing} → JoinedTold P Q R → (x : List ℕ) →
    last_told P (first_told R x) ≡ first_told Q (last_told P (first_told R x))
middle_told none x = refl
middle_told one x = refl
middle_told two x = refl
middle_told both x = refl

end_told : {P Q R : Listing} → JoinedTold P Q R → (x : List ℕ) → last_told Q (last_told P (first_told R x)) ≡ last_told R x
end_told none x = refl
end_told one x = refl
end_told two x = refl
end_told both x = refl

file_start : {P Q R : Listing} → JoinedTold P Q R → (x : List ℕ) → file R x ≡ file P (file R x)
file_start none x = refl
file_start one x = refl
file_start two x = refl
file_start both x = refl

file_middle : {P Q R : Listing} → JoinedTold P Q R → (x : List ℕ) → file P (file R x) ≡ file Q (file R x)
file_middle none x = refl
file_middle one x = refl
file_middle two x = refl
file_middle both x = refl

file_end : {P Q R : Listing} → JoinedTold P Q R → (x : List ℕ) → file Q (file R x) ≡ file R x
file_end none x = refl
file_end one x = refl
file_end two x = refl
file_end both x = refl

moved : {f f' q q' a a' r r' u u' : List ℕ} (st : Entire) (k : Content) → f ≡ f' → q ≡ q' → a ≡ a' → r ≡ r' → u ≡ u' →
    Held f q a r u st k → Held f' q' a' r' u' st k
moved {f} {f'} {q} {q'} {a} {a'} {r} {r'} {u} {u'} st k ef eq ea er eu h =
    subst (λ x. Held f' q' a' r' x st k) eu (subst (λ x. Held f' q' a' x u st k) er
    (subst (λ x. Held f' q' x r u st k) ea (subst (λ x. Held f' x a r u st k) eq
    (subst (λ x. Held x q a r u st k) ef h))))

-- a change and then G
pub follow : {F : Content → Machine} {st mid s : Entire} {Q Q' Q'' A A' A'' R R' R'' : Lent} {U U' U'' : Listing}
    (G : Machine → Machine) →
    Steps F st mid Q A R U → Steps (λ k. G (machine mid k)) mid s Q' A' R' U' →
    Joined Q Q' Q'' → Joined A A' A'' → Joined R R' R'' → JoinedTold U U' U'' → Steps (λ k. G (F k)) st s Q'' A'' R'' U''
follow {F} {st} {mid} {s} {Q} {Q'} {Q''} {A} {A'} {A''} {R} {R'} {R''} {U} {U'} {U''} G d e jq ja jr ju = record {
  queue = side 5 (st.queue_start + st.items) (mid.queue_start + mid.items) (s.queue_start + s.items) jq
      d.queue e.queue;
  records = side 13 st.records mid.records s.records ja d.records e.records;
  runs = side 28 st.live_runs mid.live_runs s.live_runs jr d.runs e.runs;
  reasons = side_told st.reasons mid.reasons s.reasons ju d.reasons e.reasons;
  does = λ f q a r u k held.
      let x = d.does (file U'' f) (first Q'' q) (first A'' a) (first R'' r) (first_told U'' u) k
      (moved st k (file_start ju f) (start jq q) (start ja a) (start jr r) (start_told ju u) held) in
      let y = e.does (file U'' f) (last Q (first Q'' q)) (last A (first A'' a)) (last R (first R'' r))
      (last_told U (first_told U'' u)) x.content (moved mid x.content (file_middle ju f) (middle jq q)
      (middle ja a) (middle jr r) (middle_told ju u) x.held) in
      record {
        content = y.content;
        held = moved s y.content (file_end ju f) (end jq q) (end ja a) (end jr r)
            (end_told ju u) y.held;
        is = y.is ∙ ap G x.is;
      };
}

-- an area that stays as it is
pub data Stays (size n : ℕ) : Lent → Type 0 where
  none : Stays size n kept
  same : {b : List ℕ} → n * size ≤ length b → Stays size n (goes b b)

pub data StaysTold (n : ℕ) : Listing → Type 0 where
  none : StaysTold n still
  same : {f b : List ℕ} → n * 5 ≤ length b → StaysTold n (told f b b)

stays_side : (size n : ℕ) {Q : Lent} → Stays size n Q → Side size Q n n
stays_side size n none = refl
stays_side size n (same h) = (refl, h)

stays_side_told : (n : ℕ) {Q : Listing} → StaysTold n Q → SideTold Q n n
stays_side_told n none = refl
stays_side_told n (same h) = (refl, h)

stays_is : (size n : ℕ) {Q : Lent} → Stays size n Q → (x : List ℕ) → first Q x ≡ last Q x
stays_is size n none x = refl
stays_is size n (same h) x = refl

stays_told_is : (n : ℕ) {Q : Listing} → StaysTold n Q → (x : List ℕ) → first_told Q x ≡ last_told Q x
stays_told_is n none x = refl
stays_told_is n (same h) x = refl

-- nothing changes
pub stay : {F : Content → Machine} {st : Entire} {Q A R : Lent} {U : Listing} → ((k : Content) → machine st k ≡ F k) →
    Stays 5 (st.queue_start + st.items) Q → Stays 13 st.records A → Stays 28 st.live_runs R →
    StaysTold st.reasons U → Steps F st st Q A R U
stay {F} {st} e q a r u = record {
  queue = stays_side 5 (st.queue_start + st.items) q;
  records = stays_side 13 st.records a;
  runs = stays_side 28 st.live_runs r;
  reasons = stays_side_told st.reasons u;
  does = λ f q₀ a₀ r₀ u₀ k held. record {
    content = k;
    held =
        moved st k refl (stays_is 5 (st.queue_start + st.items) q q₀) (stays_is 13 st.records a a₀)
        (stays_is 28 st.live_runs r r₀) (stays_told_is st.reasons u u₀) held;
    is = e k;
  };
}

-- the same change by another name
pub renamed : {F : Content → Machine} {st s : Entire} {Q A R : Lent} {U : Listing} (G : Content → Machine) →
    Steps F st s Q A R U → ((k : Content) → F k ≡ G k) → Steps G st s Q A R U
renamed G d e = record {
  queue = d.queue;
  records = d.records;
  runs = d.runs;
  reasons = d.reasons;
  does =
      λ f q a r u k held. let x = d.does f q a r u k held in
      record { content = x.content; held = x.held; is = x.is ∙ e k };
}

-- a change that knows what the areas hold
pub knowing : {F : Content → Machine} {st s : Entire} {Q A R : Lent} {U : Listing} (G : Content → Machine) →
    Steps F st s Q A R U →
    ((f q a r u : List ℕ) (k : Content) → Held (file U f) (first Q q) (first A a) (first R r) (first_told U u) st k →
    F k ≡ G k) → Steps G st s Q A R U
knowing G d e = record {
  queue = d.queue;
  records = d.records;
  runs = d.runs;
  reasons = d.reasons;
  does =
      λ f q a r u k held. let x = d.does f q a r u k held in
      record { content = x.content; held = x.held; is = x.is ∙ e f q a r u k held };
}

-- ---- areas lent for nothing

pub data Wide (size n : ℕ) : Lent → Lent → Type 0 where
  none : Wide size n kept kept
  same : {b c : List ℕ} → Wide size n (goes b c) (goes b c)
  wide : {b : List ℕ} → n * size ≤ length b → Wide size n kept (goes b b)

pub data WideTold (n : ℕ) : Listing → Listing → Type 0 where
  none : WideTold n still still
  same : {f b c : List ℕ} → WideTold n (told f b c) (told f b c)
  wide : {f b : List ℕ} → n * 5 ≤ length b → WideTold n still (told f b b)

wide_side : (size m n : ℕ) {P Q : Lent} → Wide size m P Q → Side size P m n → Side size Q m n
wide_side size m n none s = s
wide_side size m n same s = s
wide_side size m n (wide h) s = (refl, rw s h)

wide_side_told : (m n : ℕ) {P Q : Listing} → WideTold m P Q → SideTold P m n → SideTold Q m n
wide_side_told m n none s = s
wide_side_told m n same s = s
wide_side_told m n (wide h) s = (refl, rw s h)

wide_first : (size n : ℕ) {P Q : Lent} → Wide size n P Q → (x : List ℕ) → first Q x ≡ first P (first Q x)
wide_first size n none x = refl
wide_first size n same x = refl
wide_first size n (wide h) x = refl

wide_last : (size n : ℕ) {P Q : Lent} → Wide size n P Q → (x : List ℕ) → last P (first Q x) ≡ last Q x
wide_last size n none x = refl
wide_last size n same x = refl
wide_last size n (wide h) x = refl

wide_first_told : (n : ℕ) {P Q : Listing} → WideTold n P Q → (x : List ℕ) → first_told Q x ≡ first_told P (first_told Q x)
wide_first_told n none x = refl
wide_first_told n same x = refl
wide_first_told n (wide h) x = refl

wide_last_told : (n : ℕ) {P Q : Listing} → WideTold n P Q → (x : List ℕ) → last_told P (first_told Q x) ≡ last_told Q x
wide_last_told n none x = refl
wide_last_told n same x = refl
wide_last_told n (wide h) x = refl

wide_file : (n : ℕ) {P Q : Listing} → WideTold n P Q → (x : List ℕ) → file Q x ≡ file P (file Q x)
wide_file n none x = refl
wide_file n same x = refl
wide_file n (wide h) x = refl

pub widen : {F : Content → Machine} {st s : Entire} {Q A R Q' A' R' : Lent} {U U' : Listing} → Steps F st s Q A R U →
    Wide 5 (st.queue_start + st.items) Q Q' → Wide 13 st.records A A' → Wide 28 st.live_runs R R' →
    WideTold st.reasons U U' → Steps F st s Q' A' R' U'
widen {F} {st} {s} {Q} {A} {R} {Q'} {A'} {R'} {U} {U'} d wq wa wr wu = record {
  queue = wide_side 5 (st.queue_start + st.items) (s.queue_start + s.items) wq d.queue;
  records = wide_side 13 st.records s.records wa d.records;
  runs = wide_side 28 st.live_runs s.live_runs wr d.runs;
  reasons = wide_side_told st.reasons s.reasons wu d.reasons;
  does = λ f q a r u k held.
      let x = d.does (file U' f) (first Q' q) (first A' a) (first R' r) (first_told U' u) k
      (moved st k (wide_file st.reasons wu f) (wide_first 5 (st.queue_start + st.items) wq q)
      (wide_first 13 st.records wa a) (wide_first 28 st.live_runs wr r) (wide_first_told st.reasons wu u)
      held) in
      record {
        content = x.content;
        held = moved s x.content (sym (wide_file st.reasons wu f))
            (wide_last 5 (st.queue_start + st.items) wq q) (wide_last 13 st.records wa a)
            (wide_last 28 st.live_runs wr r) (wide_last_told st.reasons wu u) x.held;
        is = x.is;
      };
}
