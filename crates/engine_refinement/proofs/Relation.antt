-- When a machine stands for an engine: either nothing is full and every part corresponds, or both say which area was full.
-- The primitive changes keep that.
use Rattle.std.specs.Prelude.{if◌then◌else◌, Option as Maybe, Some, None}
use mathlib.Core.Path.{◌≡◌, refl, sym, ap, ◌∙◌, subst}
use mathlib.Core.List.{List, [], ◌∷◌, ◌++◌}
use mathlib.Core.Bool.{Bool, true, false, ◌&&◌, not}
use mathlib.Core.Option.{Option, none, some}
use Prim.Native.Nat.{ℕ, suc, ◌+◌, ◌≤◌, ◌<◌}
use native.Mathlib.Omega.{arith}
use native.Mathlib.Numerals.{add-one}
use lib.ListN.{length, get_or, set, take, drop, length-set, length-append}
use lib.Seq.{get_or-set_same, get_or-set_other}
use lib.Dec.{ltb, eqb}
use borrow.Author.Tests.{le-ltb, eq-eqb, ne_eqb, eqb-true, eqb-false, ltb-true, ltb-false, le-leb, lt-leb}
use Rattle.layout.specs.Sizes.{last_simulation_reason}
use Rattle.texts.specs.Lists.{keep, tally, each}
use Rattle.texts.specs.Texts.{Text, eq_t, mem_t}
use Rattle.model_spec.specs.Model.{Trigger, single, done, Automation, Model}
use Rattle.model_spec.specs.File.{got, trigger}
use Rattle.queue.specs.declared.Item.{Item as QItem}
use Rattle.queue.specs.declared.Work.{Work as QWork}
use Rattle.records.specs.declared.Source.{Source as RecordSource}
use Rattle.records.specs.declared.Write.{Write}
use Rattle.records.specs.declared.Record.{Record}
use Rattle.records.specs.Records.{record_words}
use Rattle.runs.specs.Runs.{is_run, in_line, run_of, other}
use Rattle.runs.specs.Lists as places
use Rattle.runs.specs.declared.Wait.{Wait}
use Rattle.runs.specs.declared.Run.{Run as ARun}
use Rattle.reasons.specs.declared.Reason.{Reason}
use Rattle.reasons.specs.Reasons.{render}
use Rattle.reasons.specs.Lists.{push_t}
use Rattle.engine_spec.specs.Cells.{Cell}
use Rattle.engine_spec.specs.Records.{Key, Run, Item, Trace, Areas, Engine}
use Rattle.engine_spec.specs.Words.{trace_words}
use Rattle.engine_spec.specs.Changes.{noted, with_cells, add, append, with_runs, add_run, uncertain}
use Rattle.engine_spec.specs.Engine.{same_run, of_rule, other_run, of_other_rule, queued_for, in_place}
use Rattle.engine_spec.proofs.Lists.{Each, tally_end, eq_t_same}
use Rattle.engine_spec.proofs.Runs.{InOrder, Later, order_keep, order_each, order_end, kept_key, once}
use Rattle.model_walk.proofs.Found.{Case, is_true, is_false, case}
use Rattle.engine_fields.specs.Fields.{word}
use Rattle.engine_state.specs.declared.Cells.{Cells}
use Rattle.engine_state.specs.declared.Told.{Told}
use Rattle.engine_state.specs.Machine.{
  Machine,
  more,
  put_full,
  put_counts,
  put_cells,
  put_queue,
  put_records,
  put_runs,
  put_reasons,
}
use Rattle.engine_state.specs.Changes.{item, entry, add_m, log_m, add_run_m, uncertain_m}
use Rattle.engine_trigger.specs.Runs.{no_run}
use Rattle.engine_refinement.specs.Meaning.{
  id_at,
  key_of,
  cells_of,
  item_of,
  Placed,
  record_of,
  meant_run,
  pool_of,
  Tabled,
}
use Rattle.engine_refinement.specs.Events.{Among, GoodWork}
use Rattle.engine_refinement.proofs.Numbers.{more_is}
use Rattle.engine_refinement.proofs.Evaluate.{Valued}
use Rattle.engine_refinement.proofs.Stack.{Places}
use Rattle.engine_refinement.proofs.Full.{Stuck}
use Rattle.engine_refinement.proofs.Pigeonhole.{Differ, at_most, differ_end}
use Rattle.engine_refinement.proofs.Lists as lists

-- the laws of the primitive changes, by cases
module _ (m : Machine) (z : m.«overflow» ≡ 0) where
  add_goes : (s : ℕ) (w : QWork) → ltb (length m.queue) m.queue_size ≡ true →
      add_m s w m ≡ put_queue (m.queue ++ item s w ∷ []) m
  unfolding add_m
  add_goes s w t = rw (eq-eqb m.«overflow» 0 z, t)

  add_full : (s : ℕ) (w : QWork) → ltb (length m.queue) m.queue_size ≡ false → add_m s w m ≡ put_full 41 m
  unfolding add_m
  add_full s w t = rw (eq-eqb m.«overflow» 0 z, t)

  log_goes : (t : Told) (u : Maybe ℕ) (w : Maybe RecordSource) (c : Maybe Write) → ltb (length m.records) m.record_size ≡ true →
      log_m t u w c m ≡ put_records (m.records ++ entry m.now t u w c ∷ []) m
  unfolding log_m
  log_goes t u w c e = rw (eq-eqb m.«overflow» 0 z, e)

  log_full : (t : Told) (u : Maybe ℕ) (w : Maybe RecordSource) (c : Maybe Write) → ltb (length m.records) m.record_size ≡ false →
      log_m t u w c m ≡ put_full 42 m
  unfolding log_m
  log_full t u w c e = rw (eq-eqb m.«overflow» 0 z, e)

  run_goes : (i : ℕ) (r : ARun) → ltb (length m.runs) m.run_size ≡ true →
      add_run_m i r m ≡ put_counts (more m.runs_created) (set m.sequences i (more (get_or m.sequences i 0)))
      (put_runs (m.runs ++ r ∷ []) m)
  unfolding add_run_m
  run_goes i r e = rw (eq-eqb m.«overflow» 0 z, e)

  run_full : (i : ℕ) (r : ARun) → ltb (length m.runs) m.run_size ≡ false → add_run_m i r m ≡ put_full 43 m
  unfolding add_run_m
  run_full i r e = rw (eq-eqb m.«overflow» 0 z, e)

-- what is noted of an area with room, and of one without
noted_room : (n used size : ℕ) (o : Option ℕ) → o ≡ none → used < size → noted n used size o ≡ none
unfolding noted
noted_room n used size o e h = rw (e, noted) (rw (lt-leb size used h))

noted_full : (n used size : ℕ) (o : Option ℕ) → o ≡ none → size ≤ used → noted n used size o ≡ some n
unfolding noted
noted_full n used size o e h = rw (e, noted) (rw (le-leb size used h))

unfoldable pub no_rule : Automation
no_rule = record {
  id = [];
  mode = single;
  max = 0;
  triggers = [];
  conditions = [];
  actions = done;
  source =
      record { line = 0; column = 0 };
  notes = [];
}

-- the record's words are those of the record that it stands for, and its change names texts
module _ (x : List ℕ) (ts : List Text) (mo : Model) where
  pub record Worded (r : Record) : Type 0 where
    pub words : record_words r ≡ trace_words ts (each (λ (a : Automation). a.id) mo.rules) (record_of x ts r)
    pub placed : Placed ts r.change

module _ (f x : List ℕ) (ts : List Text) (mo : Model) (tb : Tabled f x ts mo) where
  abbrev T : ℕ → Text
  T v = get_or ts v []

  abbrev entities : ℕ
  entities = length mo.scenario.entities

  abbrev rules : ℕ
  rules = length mo.rules

  -- ---- the parts

  pub record Queued (l : List QItem) (q : List Item) : Type 0 where
    pub is : q ≡ each (item_of x ts) l
    pub good : Each (λ (i : QItem). GoodWork f x ts mo i.work) l

  pub record Recorded (l : List Record) (tr : List Trace) : Type 0 where
    pub is : tr ≡ each (record_of x ts) l
    pub words : Each (Worded x ts mo) l

  abbrev pub GoodPhase : Maybe Wait → Type 0
  GoodPhase None = Unit {0}
  GoodPhase (Some w) = (t : Trigger) × ((q : ℕ) × (trigger ts f w.trigger ≡ got t q))

  pub record GoodRun (sequences : List ℕ) (r : ARun) : Type 0 where
    pub rule : r.automation < rules
    pub old : r.sequence < get_or sequences r.automation 0
    pub places : Places f x ts mo tb r.depth r.places
    pub phase : GoodPhase r.phase

  pub record Running (sequences : List ℕ) (l : List ARun) (rs : List Run) : Type 0 where
    pub is : rs ≡ each (meant_run x ts f) l
    pub good : Each (GoodRun sequences) l
    pub order : InOrder rs

  pub record Celled (values versions : List ℕ) (cs : List Cell) : Type 0 where
    pub is : cs ≡ cells_of x ts values versions
    pub valued : Valued f x ts mo tb values
    pub long : length versions ≡ 32

  pub record Reasoned (l us : List Text) : Type 0 where
    pub is : l ≡ us
    pub differ : Differ us
    pub among : Among (pool_of mo) us

  pub record Made (n : ℕ) (sequences : List ℕ) (made : List Text) : Type 0 where
    pub count : n ≡ length made
    pub long : length sequences ≡ 32
    pub each_rule : (i : ℕ) → i < rules → get_or sequences i 0 ≡ tally (eq_t (id_at x ts i)) made

  -- the counters can grow by `room` more before they would stop at the largest word
  pub record Low (room made : ℕ) (versions : List ℕ) : Type 0 where
    pub made_low : made + room ≤ 4294967295
    pub version_low : (e : ℕ) → get_or versions e 0 + room ≤ 4294967295

  pub record Sized (queue_size_lem record_size_lem run_size_lem : ℕ) (areas : Areas) : Type 0 where
    pub queue : queue_size_lem ≡ areas.queue
    pub records_are : record_size_lem ≡ areas.records
    pub runs : run_size_lem ≡ areas.runs

  -- nothing is full, the machine's parts are the engine's, and its counters have room
  pub record Live (now room : ℕ) (m : Machine) (e : Engine) : Type 0 where
    pub time : m.now ≡ now
    pub soon : now ≤ 86400
    pub free : m.«overflow» ≡ 0
    pub calm : e.overflow ≡ none
    pub queue : Queued m.queue e.queue
    pub records : Recorded m.records e.trace
    pub runs : Running m.sequences m.runs e.runs
    pub cells : Celled m.values m.versions e.cells
    pub reasons : Reasoned m.reasons e.unknown
    pub made : Made m.runs_created m.sequences e.made
    pub low : Low room m.runs_created m.versions
    pub sizes : Sized m.queue_size m.record_size m.run_size e.areas
    pub start : e.start ≡ mo.start

  pub data Sim (now room : ℕ) (m : Machine) (e : Engine) : Type 0 where
    live : Live now room m e → Sim now room m e
    dead : (n : ℕ) → (n ≡ 0 → ⊥) → Stuck n m → e.overflow ≡ some n → Sim now room m e

  -- one step, and then another: a full machine stays full
  pub follow : {now s t : ℕ} {m : Machine} {e : Engine} (F : Machine → Machine) (G : Engine → Engine) → Sim now s m e →
      (Live now s m e → Sim now t (F m) (G e)) →
      ((n : ℕ) → (n ≡ 0 → ⊥) → Stuck n m → Stuck n (F m)) →
      ((n : ℕ) → e.overflow ≡ some n → (G e).overflow ≡ some n) → Sim now t (F m) (G e)
  follow F G (live l) g a b = g l
  follow F G (dead n z p o) g a b = dead n z (a n z p) (b n o)

  pub weaker : {now s t : ℕ} {m : Machine} {e : Engine} → t ≤ s → Live now s m e → Live now t m e
  weaker h l = record {
    time = l.time;
    soon = l.soon;
    free = l.free;
    calm = l.calm;
    queue = l.queue;
    records =
        l.records;
    runs = l.runs;
    cells = l.cells;
    reasons = l.reasons;
    made = l.made;
    low =
        record { made_low = omega (arith, l.low.made_low); version_low = λ e. omega (arith, l.low.version_low e) };
    sizes =
        l.sizes;
    start = l.start;
  }

  -- ---- an item more

  pub add_is : {now s : ℕ} {m : Machine} {e : Engine} → Live now s m e → (t : ℕ) (w : QWork) → GoodWork f x ts mo w →
      Sim now s (add_m t w m) (add (item_of x ts (item t w)) e)
  unfolding add
  add_is {now} {s} {m} {e} l t w g = cases (case (ltb (length m.queue) m.queue_size))
    where
      used : length e.queue ≡ length m.queue
      used = ap length l.queue.is ∙ lists.each_length (item_of x ts) m.queue

      cases : Case (ltb (length m.queue) m.queue_size) → Sim now s (add_m t w m) (add (item_of x ts (item t w)) e)
      cases (is_true b) =
          subst (λ (k : Machine). Sim now s k (add (item_of x ts (item t w)) e)) (sym (add_goes m l.free t w b))
          (live (record {
            time = l.time;
            soon = l.soon;
            free = l.free;
            calm = noted_room 41 (length e.queue) e.areas.queue e.overflow l.calm
                (omega (arith, ltb-true (length m.queue) m.queue_size b, used, l.sizes.queue));
            queue = record {
              is = ap (λ (q : List Item). q ++ item_of x ts (item t w) ∷ []) l.queue.is
                  ∙ sym (lists.each_one (item_of x ts) m.queue (item t w));
              good =
                  lists.each_more (λ (i : QItem). GoodWork f x ts mo i.work) m.queue (item t w) l.queue.good g;
            };
            records = l.records;
            runs = l.runs;
            cells = l.cells;
            reasons = l.reasons;
            made = l.made;
            low = l.low;
            sizes = l.sizes;
            start = l.start;
          }))
      cases (is_false b) =
          dead 41 (λ o. absurd (omega arith)) (record {
            is =
                ap (λ (k : Machine). k.«overflow») (add_full m l.free t w b);
          }) (noted_full 41 (length
          e.queue) e.areas.queue e.overflow l.calm (omega
          (arith, ltb-false (length m.queue) m.queue_size b, used, l.sizes.queue)))

  -- ---- a record more

  pub log_is : {now s : ℕ} {m : Machine} {e : Engine} → Live now s m e →
      (t : Told) (u : Maybe ℕ) (w : Maybe RecordSource) (c : Maybe Write) (r : Trace) → record_of x ts (entry now t u w c) ≡ r →
      Worded x ts mo (entry now t u w c) → Sim now s (log_m t u w c m) (append r e)
  unfolding append
  log_is {now} {s} {m} {e} l t u w c r q v = cases (case (ltb (length m.records) m.record_size))
    where
      used : length e.trace ≡ length m.records
      used = ap length l.records.is ∙ lists.each_length (record_of x ts) m.records

      new_words : Worded x ts mo (entry m.now t u w c)
      new_words = subst (λ (n : ℕ). Worded x ts mo (entry n t u w c)) (sym l.time) v

      cases : Case (ltb (length m.records) m.record_size) → Sim now s (log_m t u w c m) (append r e)
      cases (is_true b) =
          subst (λ (k : Machine). Sim now s k (append r e)) (sym (log_goes m l.free t u w c b)) (live (record {
            time = l.time;
            soon = l.soon;
            free = l.free;
            calm = noted_room 42 (length e.trace) e.areas.records e.overflow l.calm
                (omega (arith, ltb-true (length m.records) m.record_size b, used, l.sizes.records_are));
            queue = l.queue;
            records = record {
              is = ap (λ (k : List Trace). k ++ r ∷ []) l.records.is
                  ∙ ap (λ (y : Trace). each (record_of x ts) m.records ++ y ∷ [])
                  (sym q ∙ ap (λ (n : ℕ). record_of x ts (entry n t u w c)) (sym l.time))
                  ∙ sym (lists.each_one (record_of x ts) m.records (entry m.now t u w c));
              words = lists.each_more (Worded x ts mo) m.records (entry m.now t u w c) l.records.words new_words;
            };
            runs = l.runs;
            cells = l.cells;
            reasons = l.reasons;
            made = l.made;
            low = l.low;
            sizes = l.sizes;
            start = l.start;
          }))
      cases (is_false b) =
          dead 42 (λ o. absurd (omega arith)) (record {
            is =
                ap (λ (k : Machine). k.«overflow») (log_full m l.free t u w c b);
          }) (noted_full 42 (length
          e.trace) e.areas.records e.overflow l.calm (omega
          (arith, ltb-false (length m.records) m.record_size b, used, l.sizes.records_are)))

  -- ---- other cells, other runs

  pub cells_are : {now s t : ℕ} {m : Machine} {e : Engine} → Live now s m e → (c : Cells) (cs : List Cell) →
      Celled c.values c.versions cs → Low t m.runs_created c.versions →
      Live now t (put_cells c m) (with_cells cs e)
  unfolding with_cells
  cells_are l c cs g h = record {
    time = l.time;
    soon = l.soon;
    free = l.free;
    calm = l.calm;
    queue = l.queue;
    records =
        l.records;
    runs = l.runs;
    cells = g;
    reasons = l.reasons;
    made = l.made;
    low = h;
    sizes = l.sizes;
    start =
        l.start;
  }

  pub runs_are : {now s : ℕ} {m : Machine} {e : Engine} → Live now s m e → (k : List ARun) (rs : List Run) →
      Running m.sequences k rs → Live now s (put_runs k m) (with_runs rs e)
  unfolding with_runs
  runs_are l k rs g = record {
    time = l.time;
    soon = l.soon;
    free = l.free;
    calm = l.calm;
    queue = l.queue;
    records =
        l.records;
    runs = g;
    cells = l.cells;
    reasons = l.reasons;
    made = l.made;
    low = l.low;
    sizes = l.sizes;
    start =
        l.start;
  }

  -- ---- automations by number and by identifier

  pub id_in : (i : ℕ) → i < rules → word x i 0 < length ts
  id_in i h = (tb.rows no_rule i h).id_in

  pub same_rule : (i j : ℕ) → i < rules → j < rules → eq_t (id_at x ts i) (id_at x ts j) ≡ eqb i j
  unfolding id_at
  same_rule i j h k = tb.same (word x i 0) (word x j 0) (id_in i h) (id_in j k) ∙ cases (case (eqb i j))
    where
      cases : Case (eqb i j) → eqb (word x i 0) (word x j 0) ≡ eqb i j
      cases (is_true b) = eq-eqb (word x i 0) (word x j 0) (ap (λ (n : ℕ). word x n 0) (eqb-true i j b)) ∙ sym b
      cases (is_false b) = ne_eqb (word x i 0) (word x j 0) (λ e. eqb-false i j b (tb.ids_differ i j h k e)) ∙ sym b

  module _ (sequences : List ℕ) where
    pub run_test : (a n : ℕ) → a < rules → (r : ARun) → GoodRun sequences r →
        same_run (key_of x ts a n) (meant_run x ts f r) ≡ is_run a n r
    unfolding same_run is_run meant_run key_of
    run_test a n h r g = ap (λ (b : Bool). b && eqb r.sequence n) (same_rule r.automation a g.rule h)

    pub rule_test : (a : ℕ) → a < rules → (r : ARun) → GoodRun sequences r →
        of_rule (id_at x ts a) (meant_run x ts f r) ≡ run_of a r
    unfolding of_rule run_of meant_run key_of
    rule_test a h r g = same_rule r.automation a g.rule h

    pub line_test : (a : ℕ) → a < rules → (r : ARun) → GoodRun sequences r →
        queued_for (id_at x ts a) (meant_run x ts f r) ≡ in_line a r
    unfolding queued_for of_rule in_line meant_run key_of
    line_test a h r g = ap (λ (b : Bool). b && r.queued) (same_rule r.automation a g.rule h)

    pub other_test : (a : ℕ) → a < rules → (r : ARun) → GoodRun sequences r →
        of_other_rule (id_at x ts a) (meant_run x ts f r) ≡ other a r
    unfolding of_other_rule other
    other_test a h r g = ap not (rule_test a h r g)

    pub own_test : (a n : ℕ) → a < rules → (r : ARun) → GoodRun sequences r → r.automation ≡ a → r.sequence ≡ n →
        same_run (key_of x ts a n) (meant_run x ts f r) ≡ true
    unfolding is_run
    own_test a n h r g e o = run_test a n h r g ∙ rw (eq-eqb r.automation a e, eq-eqb r.sequence n o)

    -- a run in its place
    module _ (l : List ARun) (rs : List Run) (g : Running sequences l rs) (k : ℕ) (h : k < length l) where
      abbrev old : ARun
      old = get_or l k no_run

      old_good : GoodRun sequences old
      old_good = lists.each_get_d (GoodRun sequences) l k no_run h g.good

      module _ (r : ARun) (ok : GoodRun sequences r) (a : old.automation ≡ r.automation) (n : old.sequence ≡ r.sequence)
        where
          abbrev key : Key
          key = key_of x ts r.automation r.sequence

          hit : same_run key (get_or rs k (meant_run x ts f no_run)) ≡ true
          hit =
              ap (λ (y : List Run). same_run key (get_or y k (meant_run x ts f no_run))) g.is
              ∙ ap (same_run key) (lists.each_at (meant_run x ts f) l k no_run)
              ∙ own_test r.automation r.sequence ok.rule old old_good a n

          long : k < length rs
          long = omega (arith, h, ap length g.is ∙ lists.each_length (meant_run x ts f) l)

          pub stored : Running sequences (set l k r) (each (in_place (meant_run x ts f r)) rs)
          unfolding in_place meant_run
          stored = record {
            is = lists.set_one (same_run key) (meant_run x ts f r) rs k (meant_run x ts f no_run) long hit (once key rs g.order)
                ∙ ap (λ (y : List Run). set y k (meant_run x ts f r)) g.is ∙ sym (lists.each_set (meant_run x ts f) l k r);
            good = lists.each_put (GoodRun sequences) l k r g.good ok;
            order = order_each (in_place (meant_run x ts f r)) (kept_key (meant_run x ts f r)) rs g.order;
          }

          -- the same, by place
          pub placed : Running sequences (set l k r) (set rs k (meant_run x ts f r))
          unfolding in_place meant_run
          placed =
              subst (Running sequences (set l k r))
              (lists.set_one (same_run key) (meant_run x ts f r) rs k (meant_run x ts f no_run) long hit (once key rs g.order))
              stored

          pub removed : Running sequences (take k l ++ drop (k + 1) l) (keep (other_run key) rs)
          unfolding other_run
          removed = rw add-one (record {
            is = lists.out_one (same_run key) rs k (meant_run x ts f no_run) long hit (once key rs g.order)
                ∙ ap (λ (y : List Run). take k y ++ drop (suc k) y) g.is ∙ sym (lists.each_out (meant_run x ts f) l k);
            good = lists.each_less (GoodRun sequences) l k g.good;
            order = order_keep (other_run key) rs g.order;
          })

    -- the automation's runs out
    pub dropped : (l : List ARun) (rs : List Run) → Running sequences l rs → (a : ℕ) → a < rules →
        Running sequences (places.keep (other a) l) (keep (of_other_rule (id_at x ts a)) rs)
    dropped l rs g a h = record {
      is = ap (keep (of_other_rule (id_at x ts a))) g.is
          ∙ lists.kept (meant_run x ts f) (other a) (of_other_rule (id_at x ts a)) l
          (lists.each_imp (GoodRun sequences) _ (other_test a h) l g.good);
      good = lists.each_kept (GoodRun sequences) (other a) l g.good;
      order = order_keep (of_other_rule (id_at x ts a)) rs g.order;
    }

    pub count_is : (l : List ARun) (rs : List Run) → Running sequences l rs → (a : ℕ) → a < rules →
        tally (of_rule (id_at x ts a)) rs ≡ places.tally (run_of a) l
    count_is l rs g a h =
        ap (tally (of_rule (id_at x ts a))) g.is
        ∙ lists.tallied (meant_run x ts f) (run_of a) (of_rule (id_at x ts a)) l
        (lists.each_imp (GoodRun sequences) _ (rule_test a h) l g.good)

  -- ---- a run more

  tally_most : (p : Text → Bool) (l : List Text) → tally p l ≤ length l
  unfolding tally
  tally_most p [] = omega arith
  tally_most p (t ∷ l) = cases (p t) (tally_most p l)
    where
      cases : (b : Bool) → tally p l ≤ length l → (if b then 1 else 0) + tally p l ≤ suc (length l)
      cases true h = omega arith
      cases false h = omega arith

  each_over : {A B : Type 0} (g : A → B) (P : B → Type 0) (l : List A) → Each (λ (a : A). P (g a)) l → Each P (each g l)
  unfolding each
  each_over g P [] h = tt
  each_over g P (a ∷ l) h = (h.0, each_over g P l h.1)

  -- the automation of an identifier
  rule_of_id : (a i : ℕ) → a < rules → i < rules → id_at x ts a ≡ id_at x ts i → a ≡ i
  rule_of_id a i h k e =
      eqb-true a i (sym (same_rule a i h k) ∙ ap (λ (t : Text). eq_t t (id_at x ts i)) e ∙ eq_t_same (id_at x ts i))

  -- a new run of the i-th automation
  pub record NewRun (sequences : List ℕ) (i : ℕ) (r : ARun) : Type 0 where
    pub automation : r.automation ≡ i
    pub sequence : r.sequence ≡ get_or sequences i 0
    pub places : Places f x ts mo tb r.depth r.places
    pub phase : r.phase ≡ None

  module _ (sequences : List ℕ) (i n : ℕ) (h : i < rules) (made : List Text) (g : Made n sequences made)
      (low : get_or sequences i 0 < 4294967295) where
    abbrev after : List ℕ
    after = set sequences i (more (get_or sequences i 0))

    at_i : get_or after i 0 ≡ get_or sequences i 0 + 1
    at_i =
        get_or-set_same sequences i (more (get_or sequences i 0)) 0 (omega (arith, g.long, tb.few_automations))
        ∙ more_is (get_or sequences i 0) low

    at_other : (j : ℕ) → (j ≡ i → ⊥) → get_or after j 0 ≡ get_or sequences j 0
    at_other j d = get_or-set_other sequences i j (more (get_or sequences i 0)) 0 (λ e. d e)

    grown : (j : ℕ) → get_or sequences j 0 ≤ get_or after j 0
    grown j = cases (case (eqb j i))
      where
        cases : Case (eqb j i) → get_or sequences j 0 ≤ get_or after j 0
        cases (is_true b) = let e : j ≡ i = eqb-true j i b in rw (e, at_i) (omega arith)
        cases (is_false b) = rw (at_other j (eqb-false j i b)) (omega arith)

    still_good : (r : ARun) → GoodRun sequences r → GoodRun after r
    still_good r o = record {
      rule = o.rule;
      old = omega (arith, o.old, grown r.automation);
      places = o.places;
      phase =
          o.phase;
    }

    going : (p : Maybe Wait) → p ≡ None → GoodPhase p
    going p e = rw e tt

    new_good : (r : ARun) → NewRun sequences i r → GoodRun after r
    new_good r o = record {
      rule = rw o.automation h;
      old = rw (o.automation, o.sequence, at_i) (omega arith);
      places =
          o.places;
      phase = going r.phase o.phase;
    }

    pub more_running : (l : List ARun) (rs : List Run) → Running sequences l rs → (r : ARun) → NewRun sequences i r →
        Running after (l ++ r ∷ []) (rs ++ meant_run x ts f r ∷ [])
    unfolding meant_run key_of
    more_running l rs o r w = record {
      is = ap (λ (y : List Run). y ++ meant_run x ts f r ∷ []) o.is ∙ sym (lists.each_one (meant_run x ts f) l r);
      good = lists.each_more (GoodRun after) l r (lists.each_imp (GoodRun sequences) (GoodRun after) still_good l o.good)
          (new_good r w);
      order = order_end rs (meant_run x ts f r) o.order
          (subst (Each (λ (y : Run). Later y (meant_run x ts f r))) (sym o.is)
          (each_over (meant_run x ts f) (λ (y : Run). Later y (meant_run x ts f r)) l
          (lists.each_imp (GoodRun sequences) _ earlier l o.good)));
    }
      where
        earlier : (y : ARun) → GoodRun sequences y → Later (meant_run x ts f y) (meant_run x ts f r)
        earlier y p e =
            let z : y.automation ≡ i = rule_of_id y.automation i p.rule h (e ∙ ap (id_at x ts) w.automation) in
            let s : y.sequence < get_or sequences i 0 = subst (λ (j : ℕ). y.sequence < get_or sequences j 0) z p.old in
            omega (arith, w.sequence)

    pub more_made : n < 4294967295 → Made (more n) after (made ++ id_at x ts i ∷ [])
    more_made o = record {
      count = more_is n o ∙ omega (arith, g.count, length-append made (id_at x ts i ∷ []));
      long = length-set sequences i (more (get_or sequences i 0)) ∙ g.long;
      each_rule = λ j k. counted j k (case (eqb j i)) ∙ sym (tally_end (eq_t (id_at x ts j)) made (id_at x ts i));
    }
      where
        counted : (j : ℕ) → j < rules → Case (eqb j i) →
            get_or after j 0 ≡ tally (eq_t (id_at x ts j)) made + (if eq_t (id_at x ts j) (id_at x ts i) then 1 else 0)
        counted j k (is_true b) = let e : j ≡ i = eqb-true j i b in
            rw (same_rule j i k h ∙ b) (ap (λ (y : ℕ). get_or after y 0) e ∙ at_i
            ∙ ap (λ (y : ℕ). y + 1) (ap (λ (y : ℕ). get_or sequences y 0) (sym e) ∙ g.each_rule j k))
        counted j k (is_false b) =
            rw (same_rule j i k h ∙ b) (at_other j (eqb-false j i b) ∙ g.each_rule j k ∙ (omega arith))

  pub add_run_is : {now s : ℕ} {m : Machine} {e : Engine} → Live now (suc s) m e → (i : ℕ) → i < rules → (r : ARun) →
      NewRun m.sequences i r → Sim now s (add_run_m i r m) (add_run (meant_run x ts f r) e)
  unfolding add_run meant_run key_of
  add_run_is {now} {s} {m} {e} l i h r w = cases (case (ltb (length m.runs) m.run_size))
    where
      used : length e.runs ≡ length m.runs
      used = ap length l.runs.is ∙ lists.each_length (meant_run x ts f) m.runs

      made_low : m.runs_created < 4294967295
      made_low = omega (arith, l.low.made_low)

      seq_low : get_or m.sequences i 0 < 4294967295
      seq_low = omega (arith, made_low, l.made.each_rule i h, l.made.count, tally_most (eq_t (id_at x ts i)) e.made)

      cases : Case (ltb (length m.runs) m.run_size) → Sim now s (add_run_m i r m) (add_run (meant_run x ts f r) e)
      cases (is_true b) =
          subst (λ (k : Machine). Sim now s k (add_run (meant_run x ts f r) e)) (sym (run_goes m l.free i r b))
          (live (record {
            time = l.time;
            soon = l.soon;
            free = l.free;
            calm = noted_room 43 (length e.runs) e.areas.runs e.overflow l.calm
                (omega (arith, ltb-true (length m.runs) m.run_size b, used, l.sizes.runs));
            queue = l.queue;
            records = l.records;
            runs = more_running m.sequences i m.runs_created h e.made l.made seq_low m.runs e.runs
                l.runs r w;
            cells = l.cells;
            reasons = l.reasons;
            made = subst (λ (t : Text). Made (more m.runs_created)
                (set m.sequences i (more (get_or m.sequences i 0))) (e.made ++ t ∷ []))
                (ap (id_at x ts) (sym w.automation)) (more_made m.sequences i m.runs_created h e.made l.made
                seq_low made_low);
            low = record {
              made_low = omega (arith, l.low.made_low, more_is m.runs_created made_low);
              version_low =
                  λ e. omega (arith, l.low.version_low e);
            };
            sizes = l.sizes;
            start = l.start;
          }))
      cases (is_false b) =
          dead 43 (λ o. absurd (omega arith)) (record {
            is =
                ap (λ (k : Machine). k.«overflow») (run_full m l.free i r b);
          }) (noted_full 43 (length
          e.runs) e.areas.runs e.overflow l.calm (omega
          (arith, ltb-false (length m.runs) m.run_size b, used, l.sizes.runs)))

  -- ---- a reason more

  reason_old : (m : Machine) (r : Reason) → mem_t (render f r) m.reasons ≡ true → uncertain_m f r m ≡ m
  unfolding uncertain_m push_t
  reason_old m r b = rw b (same (ltb last_simulation_reason (length m.reasons)))
    where
      same : (c : Bool) → (if c then m else m) ≡ m
      same true = refl
      same false = refl

  reason_new : (m : Machine) (r : Reason) → mem_t (render f r) m.reasons ≡ false →
      length m.reasons ≤ last_simulation_reason →
      uncertain_m f r m ≡ put_reasons (m.reasons ++ render f r ∷ []) m
  unfolding uncertain_m push_t
  reason_new m r b h = rw (le-ltb last_simulation_reason (length m.reasons) h, b)

  pub uncertain_is : {now s : ℕ} {m : Machine} {e : Engine} → Live now s m e → (r : Reason) (t : Text) →
      render f r ≡ t → mem_t t (pool_of mo) ≡ true → Live now s (uncertain_m f r m) (uncertain t e)
  unfolding uncertain
  uncertain_is {now} {s} {m} {e} l r t q p = cases (case (mem_t t e.unknown))
    where
      with_reasons : (k us : List Text) → Reasoned k us →
          Live now s (put_reasons k m)
          (record {
            cells = e.cells;
            queue = e.queue;
            runs = e.runs;
            made = e.made;
            trace = e.trace;
            unknown = us;
            overflow = e.overflow;
            areas = e.areas;
            start = e.start;
          })
      with_reasons k us g = record {
        time = l.time;
        soon = l.soon;
        free = l.free;
        calm = l.calm;
        queue = l.queue;
        records = l.records;
        runs = l.runs;
        cells = l.cells;
        reasons = g;
        made = l.made;
        low = l.low;
        sizes =
            l.sizes;
        start = l.start;
      }

      same : mem_t (render f r) m.reasons ≡ mem_t t e.unknown
      same = ap (λ (y : Text). mem_t y m.reasons) q ∙ ap (mem_t t) l.reasons.is

      cases : Case (mem_t t e.unknown) → Live now s (uncertain_m f r m) (uncertain t e)
      cases (is_true b) = rw (reason_old m r (same ∙ b), b) (with_reasons m.reasons e.unknown l.reasons)
      cases (is_false b) =
          let few = at_most (t ∷ e.unknown) (pool_of mo) (b, l.reasons.differ) (p, l.reasons.among) in
          let long = ap length l.reasons.is in
          rw (reason_new m r (same ∙ b) (omega (arith, few, long, tb.few_reasons)), b)
          (with_reasons (m.reasons ++ render f r ∷ []) (e.unknown ++ t ∷ []) (record {
            is = ap (λ (y : Text). m.reasons ++ y ∷ []) q ∙ ap (λ (y : List Text). y ++ t ∷ []) l.reasons.is;
            differ = differ_end t e.unknown l.reasons.differ b;
            among = lists.each_more (λ (y : Text). mem_t y (pool_of mo) ≡ true) e.unknown t l.reasons.among p;
          }))
