-- Records of each kind, and the write of an entity's value: the machine's are the definition's.
-- A write raises the version, notes the expiry, is recorded, and puts the change into the queue.
use mathlib.Core.Path.{◌≡◌, sym, ap, ◌∙◌, subst}
use mathlib.Core.List.{List, []}
use mathlib.Core.Option.{Option, none, some}
use Prim.Native.Nat.{ℕ, zero, suc, ◌+◌, ◌≤◌, ◌<◌}
use native.Mathlib.Omega.{arith}
use native.Mathlib.Decide.{dec_lt}
use lib.ListN.{length, get_or, set, length-set}
use lib.Seq.{get_or-set_same, get_or-set_other}
use lib.Dec.{eqb}
use borrow.Author.Tests.{le-ltb, eqb-true, eqb-false}
use Rattle.texts.specs.Lists.{find, through}
use Rattle.texts.specs.Texts.{Text, eq_t}
use Rattle.model_spec.specs.Model.{Source, observational, Entity, Model}
use Rattle.queue.specs.declared.Work.TheVariants as queue
use Rattle.std.specs.Prelude.{Some, None}
use Rattle.runs.specs.declared.Run.{Run as ARun}
use Rattle.runs.specs.declared.Source.{Source as ASource}
use Rattle.engine_spec.specs.Cells.{Cell, cell_of, value_of, put}
use Rattle.engine_spec.specs.Records.{Work, Kind, Change, Engine}
use Rattle.engine_spec.specs.Changes.{with_cells, add, adds}
use Rattle.engine_spec.specs.Engine.{at_once, next_step, log, log_rule, log_action, expiry, expiry_of, change_of, update}
use Rattle.engine_spec.proofs.Lists.{none_some}
use Rattle.engine_spec.proofs.Closed.{c_adds, c_log}
use Rattle.model_walk.proofs.Found.{Case, is_true, is_false, case}
use Rattle.engine_fields.specs.Fields.{name, stale, entities, entity_of}
use Rattle.engine_state.specs.declared.Move.{Move}
use Rattle.engine_state.specs.declared.Setting.{Setting}
use Rattle.engine_state.specs.Machine.{Machine, later, more, put_cells, raised_m, stored_m}
use Rattle.engine_state.specs.Changes.{saying, add_m, log_m, log_rule_m, log_action_m, log_plain_m, log_write_m, next_step_m}
use Rattle.engine_update.specs.Update.{cells, move, expiry_m, changed_m, write_m, update_at_m, update_m}
use Rattle.engine_refinement.specs.Meaning.{
  id_at,
  key_of,
  work_of,
  item_of,
  record_of,
  rule_of,
  where_of,
  source_of,
  stale_of,
  cell_at,
  cells_from,
  cells_of,
  meant_run,
  Tabled,
}
use Rattle.engine_refinement.proofs.Numbers.{later_is, more_is}
use Rattle.engine_refinement.proofs.Evaluate.{
  Sought,
  here,
  nowhere,
  cell_is,
  cell_named,
  name_in,
  put_is,
  entities_are,
  Moved,
}
use Rattle.engine_refinement.proofs.Full.{s_changed, s_log_write}
use Rattle.engine_refinement.proofs.Overflow.{overflow_stays}
use Rattle.engine_refinement.proofs.Relation.{Celled, Low, Live, Sim, live, follow, add_is, log_is, cells_are}
use Rattle.engine_refinement.proofs.Words.{Tells, GoodRule, worded}

no_entity : Entity
no_entity = record { name = []; domain = []; initial = []; tier = observational; stale_after = none }

-- the overflow is n
abbrev pub Over : ℕ → Engine → Type 0
Over n e = e.overflow ≡ some n

module _ (f x : List ℕ) (ts : List Text) (mo : Model) (tb : Tabled f x ts mo) where
  abbrev T : ℕ → Text
  T v = get_or ts v []

  abbrev many : ℕ
  many = length mo.scenario.entities

  abbrev L : ℕ → ℕ → Machine → Engine → Type 0
  L = Live f x ts mo tb

  abbrev S : ℕ → ℕ → Machine → Engine → Type 0
  S = Sim f x ts mo tb

  -- ---- records

  abbrev Says : ℕ → ℕ → Kind → Type 0
  Says = Tells f x ts mo tb

  module _ {now s : ℕ} {m : Machine} {e : Engine} (l : L now s m e) where
    pub log_rule_is : (k d a : ℕ) (K : Kind) → Says k d K → a < length mo.rules →
        S now s (log_rule_m k d a m) (log_rule now K (id_at x ts a) e)
    unfolding log_rule_m log_rule log record_of
    log_rule_is k d a K h g =
        log_is f x ts mo tb l (saying k d) (Some a) None None _
        (ap (λ (y : Kind). record { at = now; kind = y; automation = some (id_at x ts a); source = none; change = none })
        h.is)
        (worded f x ts mo tb now k d (Some a) None None K h g tt)

    pub log_plain_is : (k : ℕ) (K : Kind) → Says k 0 K → S now s (log_plain_m k m) (log now K none none none e)
    unfolding log_plain_m log record_of
    log_plain_is k K h =
        log_is f x ts mo tb l (saying k 0) None None None _
        (ap (λ (y : Kind). record { at = now; kind = y; automation = none; source = none; change = none }) h.is)
        (worded f x ts mo tb now k 0 None None None K h tt tt)

    pub log_action_is : (k d : ℕ) (src : ASource) (r : ARun) (K : Kind) → Says k d K →
        r.automation < length mo.rules →
        S now s (log_action_m k d src r m) (log_action now K (source_of src) (meant_run x ts f r) e)
    unfolding log_action_m log_action log record_of meant_run key_of
    log_action_is k d src r K h g =
        log_is f x ts mo tb l (saying k d) (Some r.automation) (Some (record { line = src.line; column = src.column })) None _
        (ap (λ (y : Kind). record {
          at = now;
          kind = y;
          automation = some (id_at x ts r.automation);
          source =
              some (source_of src);
          change = none;
        }) h.is)
        (worded f x ts mo tb now k d (Some r.automation) (Some (record { line = src.line; column = src.column })) None K h g tt)

    pub log_at_is : (k d a line column : ℕ) (K : Kind) → Says k d K → a < length mo.rules →
        S now s (log_m (saying k d) (Some a) (Some (record { line = line; column = column })) None m)
        (log now K (some (id_at x ts a)) (some (record { line = line; column = column })) none e)
    unfolding log record_of
    log_at_is k d a line column K h g =
        log_is f x ts mo tb l (saying k d) (Some a) (Some (record { line = line; column = column })) None _
        (ap (λ (y : Kind). record {
          at = now;
          kind = y;
          automation = some (id_at x ts a);
          source =
              some (record { line = line; column = column });
          change = none;
        }) h.is)
        (worded f x ts mo tb now k d (Some a) (Some (record { line = line; column = column })) None K h g tt)

    pub log_write_is : (w : Setting) (v : Move) (K : Kind) → Says w.kind 0 K → GoodRule f x ts mo tb w.rule →
        Moved f x ts mo tb v →
        S now s (log_write_m w v m)
        (log now K (rule_of x ts w.rule) (where_of w.source)
        (some (record { entity = T v.entity; before = T v.from; after = T v.to })) e)
    unfolding log_write_m log record_of
    log_write_is w v K h g i =
        log_is f x ts mo tb l (saying w.kind 0) w.rule w.source (Some (record { entity = v.entity; before = v.from; after = v.to })) _
        (ap (λ (y : Kind). record {
          at = now;
          kind = y;
          automation = rule_of x ts w.rule;
          source = where_of w.source;
          change = some (record { entity = T v.entity; before = T v.from; after = T v.to });
        }) h.is)
        (worded f x ts mo tb now w.kind 0 w.rule w.source (Some (record { entity = v.entity; before = v.from; after = v.to })) K h g
        (i.entity_in, (i.from_in, i.to_in)))

  -- ---- the queue

  module _ {now s : ℕ} {m : Machine} {e : Engine} (l : L now s m e) where
    -- the run goes on at a second
    pub next_is : (r : ARun) (t : ℕ) → r.automation < length mo.rules →
        S now s (next_step_m r t m) (add (record { at = t; work = Work.resume (key_of x ts r.automation r.sequence) })
        e)
    unfolding next_step_m item_of work_of
    next_is r t h = add_is f x ts mo tb l t (queue.Resume r.automation r.sequence) h

    pub now_is : (r : ARun) → r.automation < length mo.rules →
        S now s (next_step_m r m.now m) (add (next_step now (meant_run x ts f r)) e)
    unfolding next_step at_once meant_run
    now_is r h =
        subst (λ (t : ℕ). S now s (next_step_m r t m) (add (next_step now (meant_run x ts f r)) e)) (sym l.time)
        (next_is r now h)

    pub changed_is : (v : Move) → Moved f x ts mo tb v →
        S now s (changed_m v m) (adds (change_of now (T v.entity) (T v.from) (T v.to)) e)
    unfolding changed_m change_of adds through at_once item_of work_of
    changed_is v h = cases (case (eqb v.from v.to))
      where
        same : eq_t (T v.from) (T v.to) ≡ eqb v.from v.to
        same = tb.same v.from v.to h.from_in h.to_in

        added : S now s (add_m m.now (queue.Changed v.entity v.from v.to) m)
            (add (at_once now (Work.changed (T v.entity) (T v.from) (T v.to))) e)
        added =
            subst
            (λ (t : ℕ). S now s (add_m t (queue.Changed v.entity v.from v.to) m)
            (add (at_once now (Work.changed (T v.entity) (T v.from) (T v.to))) e))
            (sym l.time)
            (add_is f x ts mo tb l now (queue.Changed v.entity v.from v.to) (h.entity_in, (h.from_in, h.to_in)))

        cases : Case (eqb v.from v.to) →
            S now s (changed_m v m) (adds (change_of now (T v.entity) (T v.from) (T v.to)) e)
        cases (is_true b) = rw (b, same ∙ b) (live l)
        cases (is_false b) = rw (b, same ∙ b) added

    -- the expiry of the j-th entity's value
    pub expiry_is : (j : ℕ) → j < many →
        S now s (expiry_m x j m) (adds (expiry now (cell_at x ts m.values m.versions j)) e)
    unfolding expiry_m expiry cell_at stale_of adds through item_of work_of
    expiry_is j h = cases (case (eqb (stale x j) 4294967295))
      where
        added : (stale x j ≡ 4294967295 → ⊥) →
            S now s (add_m (later (later m.now (stale x j)) 1) (queue.Stale (name x j) (get_or m.versions j 0)) m)
            (add (record { at = now + stale x j + 1; work = Work.stale (T (name x j)) (get_or m.versions j 0) }) e)
        added d =
            let c = (tb.columns no_entity j h).soon d in
            let y : later (later m.now (stale x j)) 1 ≡ now + stale x j + 1 =
            ap (λ (t : ℕ). later (later t (stale x j)) 1) l.time
            ∙ ap (λ (t : ℕ). later t 1) (later_is now (stale x j) (omega (arith, l.soon)))
            ∙ later_is (now + stale x j) 1 (omega (arith, l.soon)) in
            subst
            (λ (t : ℕ). S now s (add_m t (queue.Stale (name x j) (get_or m.versions j 0)) m)
            (add (record { at = now + stale x j + 1; work = Work.stale (T (name x j)) (get_or m.versions j 0) }) e))
            (sym y)
            (add_is f x ts mo tb l (now + stale x j + 1) (queue.Stale (name x j) (get_or m.versions j 0))
            (name_in f x ts mo tb j h))

        cases : Case (eqb (stale x j) 4294967295) →
            S now s (expiry_m x j m) (adds (expiry now (cell_at x ts m.values m.versions j)) e)
        cases (is_true b) = rw (b, expiry) (live l)
        cases (is_false b) = rw (b, expiry) (added (eqb-false _ _ b))

  -- ---- the entity of a name

  -- a declared entity has a cell
  missing : (vs ns : List ℕ) (j : ℕ) → j < many → (left e : ℕ) → e ≤ j → j < e + left → e + left ≤ many →
      cell_of (T (name x j)) (cells_from x ts vs ns left e) ≡ none → ⊥
  unfolding cell_of find cells_from
  missing vs ns j h zero e a b c o = omega arith
  missing vs ns j h (suc left) e a b c o =
      cases (case (eqb (name x e) (name x j))) (λ d. missing vs ns j h left (e + 1) d (omega arith) (omega arith))
    where
      named : Case (eqb (name x e) (name x j)) → Unit {0}
      named y = tt

      cases : Case (eqb (name x e) (name x j)) →
          (e + 1 ≤ j → cell_of (T (name x j)) (cells_from x ts vs ns left (e + 1)) ≡ none → ⊥) → ⊥
      cases (is_true y) ih =
          none_some (sym (rw (cell_named f x ts mo tb vs ns (name x j) e (name_in f x ts mo tb j h) (omega arith) ∙ y) at o))
      cases (is_false y) ih =
          let d : e ≡ j → ⊥ = λ q. eqb-false _ _ y (ap (λ (i : ℕ). name x i) q) in
          ih (elim (dec_lt e j) [ yes k ↦ omega arith | no k ↦ absurd (d (omega arith)) ])
          (rw (cell_named f x ts mo tb vs ns (name x j) e (name_in f x ts mo tb j h) (omega arith) ∙ y) at o)

  pub record Found (vs ns : List ℕ) (j : ℕ) : Type 0 where
    pub number : entity_of x (name x j) ≡ j
    pub cell : cell_of (T (name x j)) (cells_of x ts vs ns) ≡ some (cell_at x ts vs ns j)

  pub entity_found : (vs ns : List ℕ) (j : ℕ) → j < many → Found vs ns j
  unfolding cells_of
  entity_found vs ns j h = cases (cell_is f x ts mo tb vs ns (name x j) (name_in f x ts mo tb j h))
    where
      cases : Sought f x ts mo tb (name x j) vs ns (entity_of x (name x j)) (cells_of x ts vs ns) → Found vs ns j
      cases (here i g o n c) = let z : i ≡ j = tb.names_differ i j g h n in
          record { number = o ∙ z; cell = c ∙ ap (λ (y : ℕ). some (cell_at x ts vs ns y)) z }
      cases (nowhere o c) =
          absurd
          (missing vs ns j h (entities x) 0 (omega arith) (omega (arith, entities_are f x ts mo tb))
          (omega (arith, entities_are f x ts mo tb)) c)

  pub value_is : (vs ns : List ℕ) (cs : List Cell) → Celled f x ts mo tb vs ns cs → (j : ℕ) → j < many →
      value_of (T (name x j)) cs ≡ T (get_or vs j 0)
  unfolding value_of cell_at
  value_is vs ns cs g j h = rw (ap (cell_of (T (name x j))) g.is ∙ (entity_found vs ns j h).cell, value_of)

  -- the cells after a write of the j-th entity
  pub stored_is : (vs ns : List ℕ) (cs : List Cell) → Celled f x ts mo tb vs ns cs → (j v k n : ℕ) → j < many →
      v < length ts → n ≡ get_or ns j 0 + k →
      Celled f x ts mo tb (set vs j v) (set ns j n) (put (T (name x j)) (T v) k cs)
  stored_is vs ns cs g j v k n h i e = record {
    is = ap (put (T (name x j)) (T v) k) g.is ∙ put_is f x ts mo tb vs ns j v k h
        (omega (arith, g.valued.long, tb.few_entities)) (omega (arith, g.long, tb.few_entities))
        ∙ ap (λ (y : ℕ). cells_of x ts (set vs j v) (set ns j y)) (sym e);
    valued = record { long = length-set vs j v ∙ g.valued.long; in_texts = λ o p. set_in o p (case (eqb o j)) };
    long = length-set ns j n ∙ g.long;
  }
    where
      set_in : (o : ℕ) → o < many → Case (eqb o j) → get_or (set vs j v) o 0 < length ts
      set_in o p (is_true b) = let q : o ≡ j = eqb-true o j b in
          rw (q, get_or-set_same vs j v 0 (omega (arith, g.valued.long, tb.few_entities))) i
      set_in o p (is_false b) = rw (get_or-set_other vs j o v 0 (λ y. eqb-false o j b y)) (g.valued.in_texts o p)

  -- ---- a write

  -- a version raised by one
  raised_low : {s made : ℕ} {ns : List ℕ} (j : ℕ) → j < length ns → Low f x ts mo tb (suc s) made ns →
      Low f x ts mo tb s made (set ns j (more (get_or ns j 0)))
  raised_low {s} {made} {ns} j h g = record {
    made_low = omega (arith, g.made_low);
    version_low = λ e. low e (case (eqb e j));
  }
    where
      low : (e : ℕ) → Case (eqb e j) → get_or (set ns j (more (get_or ns j 0))) e 0 + s ≤ 4294967295
      low e (is_true b) = let q : e ≡ j = eqb-true e j b in
          rw (q, get_or-set_same ns j (more (get_or ns j 0)) 0 h, more_is (get_or ns j 0) (omega (arith, g.version_low j)))
          (omega (arith, g.version_low j))
      low e (is_false b) =
          rw (get_or-set_other ns j e (more (get_or ns j 0)) 0 (λ y. eqb-false e j b y)) (omega (arith, g.version_low e))

  module _ {now s : ℕ} {m : Machine} {e : Engine} (l : L now (suc s) m e) (w : Setting) (j : ℕ) (h : j < many)
      (q : name x j ≡ w.entity) (i : w.value < length ts) (K : Kind) (kind : Says w.kind 0 K)
      (rule : GoodRule f x ts mo tb w.rule) where
    abbrev old : ℕ
    old = get_or m.values j 0

    abbrev X : Text
    X = T w.entity

    abbrev mv : Move
    mv = move w.entity old w.value

    entity_in : w.entity < length ts
    entity_in = subst (λ (n : ℕ). n < length ts) q (name_in f x ts mo tb j h)

    moved : Moved f x ts mo tb mv
    moved = record { entity_in = entity_in; from_in = l.cells.valued.in_texts j h; to_in = i }

    abbrev cs : List Cell
    cs = put X (T w.value) 1 e.cells

    version : more (get_or m.versions j 0) ≡ get_or m.versions j 0 + 1
    version = more_is (get_or m.versions j 0) (omega (arith, l.low.version_low j))

    celled : Celled f x ts mo tb (set m.values j w.value) (set m.versions j (more (get_or m.versions j 0))) cs
    celled =
        subst
        (λ (n : ℕ). Celled f x ts mo tb (set m.values j w.value) (set m.versions j (more (get_or m.versions j 0)))
        (put (T n) (T w.value) 1 e.cells)) q
        (stored_is m.values m.versions e.cells l.cells j w.value 1 (more (get_or m.versions j 0))
        h i version)

    written : L now s (put_cells (raised_m (stored_m (cells m) j w.value) j) m) (with_cells cs e)
    written =
        cells_are f x ts mo tb l (raised_m (stored_m (cells m) j w.value) j) cs celled
        (raised_low j (omega (arith, l.cells.long, tb.few_entities)) l.low)

    cell : cell_of X cs ≡ some (cell_at x ts (set m.values j w.value)
        (set m.versions j (more (get_or m.versions j 0))) j)
    cell =
        ap (λ (n : ℕ). cell_of (T n) cs) (sym q)
        ∙ ap (cell_of (T (name x j))) celled.is
        ∙ (entity_found (set m.values j w.value) (set m.versions j (more (get_or m.versions j 0))) j h).cell

    expiring : S now s (expiry_m x j (put_cells (raised_m (stored_m (cells m) j w.value) j) m))
        (adds (expiry_of now (cell_of X cs)) (with_cells cs e))
    unfolding expiry_of
    expiring =
        subst
        (λ (o : Option Cell). S now s (expiry_m x j (put_cells (raised_m (stored_m (cells m) j w.value) j) m))
        (adds (expiry_of now o) (with_cells cs e)))
        (sym cell) (expiry_is written j h)

    abbrev change : Text → Option Change
    change t = some (record { entity = X; before = t; after = T w.value })

    abbrev id : Option Text
    id = rule_of x ts w.rule

    abbrev src : Option Source
    src = where_of w.source

    recorded : S now s (log_write_m w mv (expiry_m x j (put_cells (raised_m (stored_m (cells m) j w.value) j) m)))
        (log now K id src (change (T old)) (adds (expiry_of now (cell_of X cs)) (with_cells cs e)))
    recorded = follow f x ts mo tb (log_write_m w mv) (log now K id src (change (T old))) expiring
        (λ k. log_write_is k w mv K kind rule moved) (λ n z p. s_log_write n z w mv _ p)
        (λ n o. c_log (Over n) (overflow_stays n) now K id src (change (T old)) _ o)

    done : S now s (changed_m mv (log_write_m w mv (expiry_m x j (put_cells (raised_m (stored_m (cells m) j w.value) j) m))))
        (adds (change_of now X (T old) (T w.value))
        (log now K id src (change (T old)) (adds (expiry_of now (cell_of X cs)) (with_cells cs e))))
    done =
        follow f x ts mo tb (changed_m mv) (adds (change_of now X (T old) (T w.value))) recorded
        (λ k. changed_is k mv moved) (λ n z p. s_changed n z mv _ p)
        (λ n o. c_adds (Over n) (overflow_stays n) (change_of now X (T old) (T w.value)) _ o)

    pub update_is : S now s (update_m x w m) (update now (T w.entity) (T w.value) (rule_of x ts w.rule)
        (where_of w.source) K e)
    unfolding update_m update_at_m write_m update
    update_is =
        let z : entity_of x w.entity ≡ j = ap (entity_of x) (sym q) ∙ (entity_found m.values m.versions j h).number in
        let v : value_of X e.cells ≡ T old = ap (λ (n : ℕ). value_of (T n) e.cells) (sym q)
        ∙ value_is m.values m.versions e.cells l.cells j h in
        rw (z, le-ltb 31 j (omega (arith, tb.few_entities)), v) done
