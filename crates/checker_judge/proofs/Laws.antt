-- The values after a record; the reading of the records from an index on: its end, a record that fails, one that doesn't.
use Rattle.std.specs.Prelude.{if◌then◌else◌, Option, Some, None}
use Prim.Native.Nat.{ℕ, zero, suc, ◌+◌, ◌-◌, ◌≤◌, ◌<◌}
use mathlib.Core.Path.{◌≡◌, refl, sym, ap, ◌∙◌, subst}
use mathlib.Core.Bool.{Bool, true, false, not, false≢true}
use mathlib.Core.List.{List, ◌∷◌}
use native.Mathlib.Omega.{arith}
use native.Mathlib.Numerals.{add-one}
use lib.Dec.{ltb}
use borrow.Author.Tests.{ltb-true, ltb-false}
use lib.ListN.{length, get_or, set, drop, drop_of_length-le}
use lib.Seq.{drop-cons}
use Rattle.model_walk.proofs.Found.{Case, is_true, is_false, case}
use Rattle.records.specs.Records.{recorded, GotChange, Got}
use Rattle.records.specs.declared.Write.{Write}
use Rattle.records.specs.declared.Record.{Record}
use Rattle.engine_fields.specs.Fields.{cap, entity_of}
use Rattle.engine_state.specs.Machine.{stored_m}
use Rattle.engine_state.specs.declared.Cells.{Cells}
use Rattle.checker_response.specs.declared.Failure.{Failure}
use Rattle.checker_response.specs.declared.Memory.{Memory}
use Rattle.checker_response.specs.declared.Shown.{Shown}
use Rattle.checker_judge.specs.declared.Reading.{Reading}
use Rattle.checker_response.specs.Response.{failed_m}
use Rattle.checker_judge.specs.Judging.{
  nothing_m,
  put_m,
  after_m,
  entity_m,
  value_m,
  set_m,
  read_m,
  Turn,
  turned_m,
  turn_m,
  unfailed_m,
  reading_m,
  judge_m,
  Judges,
}
use Rattle.checker_judge.specs.Names.{named_in, touches_m, pending_m, Untouched, Quiet, AllQuiet, Skips}
use Rattle.checker_judge.specs.Turns.{Agree, nothing_new, Fresh, Follows, Turned}
use Rattle.checker_judge.proofs.Named.{agree_over, agree_set}
use Rattle.checker_judge.proofs.Quiet.{unchanged, read_same, read_unchanged, fresh_after}

-- ---- one record

-- the values after a change need only the values before it
after_values : (x : List ℕ) (d : Option Write) (c : Cells) → (after_m x d c).values ≡ set_m c.values (entity_m x d) (value_m d)
unfolding after_m put_m entity_m value_m set_m
after_values x None c = refl
after_values x (Some d) c = cases (ltb (entity_of x d.entity) 32)
  where
    cases : (y : Bool) →
        (if y then stored_m c (entity_of x d.entity) d.after else c).values
        ≡ (if y then set c.values (entity_of x d.entity) d.after else c.values)
    cases true = refl
    cases false = refl

-- two lists of values with the same change
pub agree : (vs ws present after : List ℕ) (e v : ℕ) → vs ≡ ws → present ≡ set_m ws e v → after ≡ set_m vs e v
    → after ≡ present
agree vs ws present after e v alike put put-too = put-too ∙ ap (λ (us : List ℕ). set_m us e v) alike ∙ sym put

module _ (f x : List ℕ) (at : ℕ) (vs : List ℕ) (m : Memory) where
  -- a record that is read
  pub turns : (a : List ℕ) (k : ℕ) (r : Record) → Got a k r → (present after : List ℕ) (e v : ℕ) (s : Shown)
      → after ≡ present → after ≡ set_m vs e v → e ≡ entity_m x r.change → v ≡ value_m r.change
      → s ≡ read_m f x at vs present r m →
      Turned f x at vs m a k
      (record { failure = s.failure; index = k; second = r.second; source = r.source; memory = s.memory }) after
  unfolding turn_m
  turns a k r got present after e v s alike put he hv hs = record {
    is = λ c l d w h o.
        let values : (after_m x r.change c).values ≡ set_m c.values e v =
        after_values x r.change c ∙ rw (he, hv) refl in
        let agree : Agree x (named_in f at) (after_m x r.change c).values after =
        rw (values, put) (agree_set x (named_in f at) c.values vs e v w) in
        let read : read_m f x at c.values (after_m x r.change c).values r m ≡ s =
        read_same f x at c.values vs (after_m x r.change c).values present r m w (rw alike at agree) ∙ sym hs in
        rw (← (got.is l d h o), read) (record {
          reading = refl;
          agree = agree;
          fresh = λ y. rw (hs, alike) (fresh_after f x at vs present r m (rw hs at y));
        });
  }

  -- one that is passed over shows nothing new
  over_shows : Fresh f x at vs m → pending_m m.wait ≡ false → (c : Cells) → Agree x (named_in f at) c.values vs
      → (r : Record) → touches_m (named_in f at) r.change ≡ false
      → read_m f x at c.values (after_m x r.change c).values r m ≡ nothing_new m
  over_shows fresh idle c w r quiet =
      read_unchanged f x at c.values (after_m x r.change c).values r m quiet
      ∙ read_same f x at c.values vs (after_m x r.change c).values vs (unchanged r) m w
      (agree_over x (named_in f at) c vs r.change quiet w)
      ∙ fresh.still idle (unchanged r) refl

-- ---- all records

no_record : Record
no_record = record { second = 0; kind = 0; detail = 0; number = 0; rule = None; source = None; change = None }

-- the reading goes on behind a record that shows nothing new
reads_over : (f x : List ℕ) (p : ℕ) (c : Cells) (m : Memory) (k : ℕ) (r : Record) (l : List Record)
    → read_m f x p c.values (after_m x r.change c).values r m ≡ nothing_new m
    → reading_m f x p c m k (r ∷ l) ≡ reading_m f x p (after_m x r.change c) m (k + 1) l
unfolding reading_m turn_m failed_m
reads_over f x p c m k r l e =
    let present = after_m x r.change c in
    ap
    (λ (s : Shown). elim (failed_m s.failure) [
      | true ↦ (turned_m k r present s).reading
      | false ↦ reading_m f x p present s.memory (k + 1) l
    ])
    e

-- at the index k: some cells that agree with the values vs, from which the rest is read
pub record Rest (f x : List ℕ) (at : ℕ) (cells : Cells) (l : List Record) (p : ℕ) (vs : List ℕ) (m : Memory) (k : ℕ)
    : Type 0 where
  pub current : Cells
  pub valued : Agree x (named_in f p) current.values vs
  pub fresh : 0 < k → Fresh f x p vs m
  pub is : judge_m f x at cells l ≡ reading_m f x p current m k (drop k l)

-- what the reading of a whole area says, at the index k, from any cells with the values us
abbrev pub From : (f x : List ℕ) (at : ℕ) (us a : List ℕ) (n p : ℕ) (vs : List ℕ) (m : Memory) (k : ℕ) → Type 0
From f x at us a n p vs m k =
    (cells : Cells) → cells.values ≡ us → (l : List Record) → length l ≡ n → a ≡ recorded (length a) l
    → Rest f x at cells l p vs m k

module _ (f x : List ℕ) (at : ℕ) (us a : List ℕ) (n p : ℕ) where
  pub starts : (m : Memory) → p ≡ cap at → m ≡ nothing_m → From f x at us a n p us m 0
  unfolding judge_m
  starts m e g cells w l h o = record {
    current = cells;
    valued = record { long = ap length w; same = λ id _. ap (λ (vs : List ℕ). get_or vs (entity_of x id) 0) w };
    fresh = λ z. absurd (omega (arith, z));
    is = rw (e, g);
  }

  split : (l : List Record) → length l ≡ n → (k : ℕ) → k < n → drop k l ≡ get_or l k no_record ∷ drop (k + 1) l
  split l g k h = rw (add-one k) (drop-cons l k no_record (omega arith))

  module _ (vs : List ℕ) (m : Memory) where
    -- a record is passed over
    passes : (k : ℕ) → From f x at us a n p vs m k → k < n → 0 < k → pending_m m.wait ≡ false
        → Untouched (named_in f p) a k → From f x at us a n p vs m (k + 1)
    passes k inv h z idle quiet cells w l g o =
        let rest = inv cells w l g o in
        let r = get_or l k no_record in
        let untouched : touches_m (named_in f p) r.change ≡ false = quiet.is l no_record (omega arith) o in
        record {
          current = after_m x r.change rest.current;
          valued = agree_over x (named_in f p) rest.current vs r.change untouched rest.valued;
          fresh = λ _. rest.fresh z;
          is =
              rest.is
              ∙ ap (reading_m f x p rest.current m k) (split l g k h)
              ∙ reads_over f x p rest.current m k r (drop (k + 1) l)
              (over_shows f x p vs m (rest.fresh z) idle rest.current rest.valued r untouched);
        }

    -- all up to r are
    pub skips : (named : List Bool) → named ≡ named_in f p → (k r : ℕ) → From f x at us a n p vs m k
        → Skips named m.wait a n k r → From f x at us a n p vs m r
    skips named is-named k r inv s =
        let z : k + (r - k) ≡ r = omega (arith, s.quiet.onward) in
        subst (From f x at us a n p vs m) z (by (r - k) (omega (arith, s.quiet.onward)))
      where
        by : (d : ℕ) → k + d ≤ r → From f x at us a n p vs m (k + d)
        by zero h = let z : k ≡ k + 0 = omega arith in subst (From f x at us a n p vs m) z inv
        by (suc d) h =
            let some : k < r = omega arith in
            let z : k + d + 1 ≡ k + suc d = omega arith in
            let untouched = s.quiet.untouched (k + d) (omega arith) (omega arith) in
            subst (From f x at us a n p vs m) z
            (passes (k + d) (by d (omega arith)) (omega (arith, s.quiet.among some)) (omega (arith, s.later_ones some))
            (s.idle some) (subst (λ (b : List Bool). Untouched b a (k + d)) is-named untouched))

    module _ (k : ℕ) (inv : From f x at us a n p vs m k) where
      pub ends : (cells : Cells) → cells.values ≡ us → (r : Reading) → n ≤ k → r ≡ unfailed_m m → Judges f x at cells a n r
      unfolding reading_m
      ends cells w r h e = record {
        is = λ l g o. let y : length l ≤ k = omega arith in e ∙ sym ((inv cells w l g o).is ∙ rw (drop_of_length-le l y));
      }

      module _ (r : Reading) (after : List ℕ) (h : k < n) (is : Turned f x p vs m a k r after) (b : Bool) (e : Option Failure)
          (told : e ≡ r.failure) (test : b ≡ failed_m e) where
        tests : b ≡ failed_m r.failure
        tests = test ∙ ap failed_m told

        module _ (cells : Cells) (w : cells.values ≡ us) (l : List Record) (g : length l ≡ n)
            (o : a ≡ recorded (length a) l) where
          rest : Rest f x at cells l p vs m k
          rest = inv cells w l g o

          turn : Turn
          turn = turn_m f x p rest.current m k (get_or l k no_record)

          follows : Follows f x p turn r after
          unfolding turn
          follows = is.is rest.current l no_record rest.valued (omega arith) o

          failed : failed_m turn.reading.failure ≡ b
          failed = ap (λ (y : Reading). failed_m y.failure) (sym follows.reading) ∙ sym tests

        pub fails : (cells : Cells) → cells.values ≡ us → b ≡ true → Judges f x at cells a n r
        unfolding reading_m turn
        fails cells w y = record {
          is = λ l g o.
              sym ((rest cells w l g o).is ∙ rw (split l g k h, failed cells w l g o ∙ y, reading_m)
              (sym (follows cells w l g o).reading));
        }

        pub goes : b ≡ false → From f x at us a n p after r.memory (k + 1)
        unfolding reading_m turn
        goes y cells w l g o =
            let t = turn cells w l g o in
            let now = follows cells w l g o in
            record {
              current = t.cells;
              valued = now.agree;
              fresh = λ _. now.fresh (sym tests ∙ y);
              is =
                  (rest cells w l g o).is
                  ∙ rw (split l g k h, failed cells w l g o ∙ y, reading_m)
                  (ap (λ (u : Reading). reading_m f x p t.cells u.memory (k + 1) (drop (k + 1) l))
                  (sym now.reading));
            }

-- ---- the next record to be read

module _ (named : List Bool) (a : List ℕ) (n k : ℕ) where
  pub none_quiet : (r : ℕ) → k ≡ r → AllQuiet named a n k r
  none_quiet r e = record {
    onward = omega arith;
    among = λ h. absurd (omega (arith, h, e));
    untouched = λ j h g. absurd (omega (arith, h, g, e));
  }

  pub one_more : (j : ℕ) → AllQuiet named a n k j → {yes : Bool} → Quiet named a n j yes → yes ≡ true
      → AllQuiet named a n k (j + 1)
  one_more j s q y = record {
    onward = omega (arith, s.onward);
    among = λ _. omega (arith, q.among y);
    untouched = λ i h g. cases i h (omega (arith, g)) (case (ltb i j));
  }
    where
      cases : (i : ℕ) → k ≤ i → i ≤ j → Case (ltb i j) → Untouched named a i
      cases i h g (is_true c) = s.untouched i h (ltb-true i j c)
      cases i h g (is_false c) =
          let e : j ≡ i = omega (arith, ltb-false i j c) in
          subst (Untouched named a) e (q.untouched y)

  pub skips_none : (wait : Option ℕ) (r : ℕ) → k ≡ r → Skips named wait a n k r
  skips_none wait r e = record {
    quiet = none_quiet r e;
    later_ones = λ h. absurd (omega (arith, h, e));
    idle = λ h. absurd (omega (arith, h, e));
  }

-- a record's answer
pub quiet_is : (named : List Bool) (a : List ℕ) (n k : ℕ) (change : Option Write) → k < n → GotChange a k change
    → {touched yes : Bool} → touched ≡ touches_m named change → yes ≡ not touched → Quiet named a n k yes
quiet_is named a n k change h got {touched} {yes} e g = record {
  among = λ _. h;
  untouched = λ y. record {
    is = λ l d i o. ap (touches_m named) (sym (got.is l d i o)) ∙ sym e ∙ not-true touched (sym g ∙ y);
  };
}
  where
    not-true : (b : Bool) → not b ≡ true → b ≡ false
    not-true true z = absurd (false≢true z)
    not-true false z = refl

pub not_quiet : (named : List Bool) (a : List ℕ) (n k : ℕ) → Quiet named a n k false
not_quiet named a n k = record { among = λ y. absurd (false≢true y); untouched = λ y. absurd (false≢true y) }
