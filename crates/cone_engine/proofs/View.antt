-- What two engines have in common inside the cone (`Like`): cells, queue, runs without their number over all runs, runs
-- made, and records. The parts and the primitive changes of the engine keep it.
use Rattle.std.specs.Prelude.{if◌then◌else◌}
use Prim.Native.Nat.{ℕ, ◌+◌}
use mathlib.Core.Path.{◌≡◌, refl, sym, ap, ◌∙◌, subst}
use mathlib.Core.Bool.{Bool, true, false, ◌||◌, true≢false}
use mathlib.Core.List.{List, [], ◌∷◌, ◌++◌}
use mathlib.Core.Option.{Option, none, some}
use Rattle.texts.specs.Lists.{present_and, all, keep, find, tally, each, flat, through}
use Rattle.texts.specs.Texts.{Text, eq_t}
use Rattle.model_spec.specs.Model.{Source, Moment, Predicate, state, window, Input, reload, Automation}
use Rattle.engine_spec.specs.Cells.{Cell, is_cell, cell_of, value_of, overwrite, put}
use Rattle.engine_spec.specs.Truth.{moment_after, evaluate, evaluate_all}
use Rattle.engine_spec.specs.Records.{Key, Run, Work, Item, Kind, Trace, Engine}
use Rattle.engine_spec.specs.Changes.{with_cells, add, append, with_runs, add_run, uncertain, with_queue, adds}
use Rattle.engine_spec.specs.Engine.{
  same_run,
  moment,
  of_rule,
  in_place,
  awaits,
  woken,
  at_once,
  next_step,
  log,
  expiry,
  expiry_of,
  change_of,
}
use Rattle.lint_spec.specs.Touches.{predicate_reads}
use Rattle.cone_engine.proofs.Base.{
  Case,
  is_true,
  is_false,
  case,
  and_l,
  if_hom,
  if_both,
  eq_t_eq,
  some_eq,
  none_some,
  append_none,
  append_assoc,
  keep_nil,
  keep_append,
  keep_end_out,
  keep_swap,
  keep_idle,
  find_keep,
  tally_keep,
  Every,
  found_is,
  keep_each,
  tally_each,
  opt,
  find_each,
  each_append,
  each_each,
  each_keep,
  each_idle,
  every_yes,
  all_l,
  all_r,
}

-- the first record and the last
unfoldable pub boundary : Kind → Bool
boundary Kind.initial = true
boundary Kind.external = false
boundary Kind.action = false
boundary Kind.stale = false
boundary Kind.restart = false
boundary Kind.cancel = false
boundary Kind.single_running = false
boundary Kind.max_reached = false
boundary Kind.choose = false
boundary Kind.horizon = true
boundary (Kind.trigger v) = false
boundary (Kind.condition v) = false
boundary (Kind.start n) = false
boundary (Kind.queued n) = false
boundary (Kind.complete n) = false
boundary (Kind.delay n) = false
boundary (Kind.wait n) = false
boundary (Kind.timeout b) = false
boundary (Kind.unknown r) = false

-- a run but for Rust's number
unfoldable pub bare : Run → Run
bare r = record { key = r.key; number = 0; actions = r.actions; waiting = r.waiting; queued = r.queued }

abbrev pub renum : ℕ → Run → Run
renum n r = record { key = r.key; number = n; actions = r.actions; waiting = r.waiting; queued = r.queued }

renum_eq : (r r' : Run) → bare r ≡ bare r' → renum r'.number r ≡ r'
unfolding bare
renum_eq r r' p = λ i. record {
  key = (p i).key;
  number = r'.number;
  actions = (p i).actions;
  waiting =
      (p i).waiting;
  queued = (p i).queued;
}

-- the same run is found in two engines, but for its number
pub data Found : Option Run → Option Run → Type 0 where
  neither : Found none none
  both : (r : Run) (n : ℕ) → Found (some r) (some (renum n r))

paired : (o o' : Option Run) → opt bare o ≡ opt bare o' → Found o o'
unfolding opt
paired none none e = neither
paired none (some r) e = absurd (none_some e)
paired (some r) none e = absurd (none_some (sym e))
paired (some r) (some r') e = subst (λ (x : Run). Found (some r) (some x)) (renum_eq r r' (some_eq e)) (both r r'.number)

module _ (in_e in_a : Text → Bool) where
  unfoldable pub cone_cell : Cell → Bool
  cone_cell c = in_e c.name

  unfoldable pub cone_input : Input → Bool
  cone_input (Input.set x v) = in_e x
  cone_input Input.restart = true
  cone_input reload = true

  unfoldable pub cone_work : Work → Bool
  cone_work (Work.external i) = cone_input i
  cone_work (Work.changed x from to) = in_e x
  cone_work (Work.resume k) = in_a k.rule
  cone_work (Work.timeout k) = in_a k.rule
  cone_work (Work.stale x n) = in_e x

  unfoldable pub cone_item : Item → Bool
  cone_item i = cone_work i.work

  unfoldable pub cone_run : Run → Bool
  cone_run r = in_a r.key.rule

  unfoldable pub cone_trace : Trace → Bool
  cone_trace t = boundary t.kind || present_and (λ c. in_e c.entity) t.change

  unfoldable pub cone_rule : Automation → Bool
  cone_rule r = in_a r.id

  unfoldable pub bares : List Run → List Run
  bares l = each bare (keep cone_run l)

  -- ---- cells

  pub cell_of_in : (x : Text) → in_e x ≡ true → (l : List Cell) → cell_of x (keep cone_cell l) ≡ cell_of x l
  unfolding cell_of is_cell cone_cell
  cell_of_in x h l = find_keep (is_cell x) cone_cell (λ c q. ap in_e (eq_t_eq c.name x q) ∙ h) l

  pub cell_name : (x : Text) (l : List Cell) (c : Cell) → cell_of x l ≡ some c → c.name ≡ x
  unfolding cell_of is_cell
  cell_name x l c e = eq_t_eq c.name x (found_is (is_cell x) l c e)

  pub put_keep : (x v : Text) (k : ℕ) (l : List Cell) → keep cone_cell (put x v k l) ≡ put x v k (keep cone_cell l)
  unfolding put overwrite cone_cell
  put_keep x v k l = each_keep (overwrite x v k) cone_cell (λ c. if_both cone_cell (is_cell x c) refl refl) l

  pub put_out : (x v : Text) (k : ℕ) → in_e x ≡ false → (l : List Cell) → keep cone_cell (put x v k l) ≡ keep cone_cell l
  unfolding put overwrite cone_cell is_cell
  put_out x v k h l = put_keep x v k l
      ∙ each_idle (overwrite x v k) cone_cell (λ c. true) (λ c q g. go c q (case (is_cell x c))) l (every_yes l)
    where
      go : (c : Cell) → in_e c.name ≡ true → Case (is_cell x c) → overwrite x v k c ≡ c
      go c q (is_true a) = absurd (true≢false (sym q ∙ ap in_e (eq_t_eq c.name x a) ∙ h))
      go c q (is_false a) = rw a

  module _ (l l' : List Cell) (s : keep cone_cell l ≡ keep cone_cell l') where
    pub same_cell : (x : Text) → in_e x ≡ true → cell_of x l ≡ cell_of x l'
    same_cell x h = sym (cell_of_in x h l) ∙ ap (cell_of x) s ∙ cell_of_in x h l'

    pub same_value : (x : Text) → in_e x ≡ true → value_of x l ≡ value_of x l'
    unfolding value_of
    same_value x h = rw (same_cell x h, value_of)

    pub same_put : (x v : Text) (k : ℕ) → keep cone_cell (put x v k l) ≡ keep cone_cell (put x v k l')
    same_put x v k = put_keep x v k l ∙ ap (put x v k) s ∙ sym (put_keep x v k l')

    pub same_truth : (t : Moment) (p : Predicate) → all in_e (predicate_reads p) ≡ true → evaluate t p l ≡ evaluate t p l'
    unfolding evaluate predicate_reads all
    same_truth t (state x v) h = rw (same_cell x (and_l (in_e x) true h), evaluate)
    same_truth t (Predicate.unknown r) h = refl
    same_truth t (window d b e) h = refl

    pub same_truths : (t : Moment) (ps : List Predicate) → all in_e (flat predicate_reads ps) ≡ true
        → evaluate_all t ps l ≡ evaluate_all t ps l'
    unfolding evaluate_all flat
    same_truths t [] h = refl
    same_truths t (p ∷ ps) h = rw (
      same_truth t p
          (all_l in_e (predicate_reads p) (flat predicate_reads ps) h),
      same_truths t ps
          (all_r in_e (predicate_reads p) (flat predicate_reads ps) h),
    )

  -- ---- items

  pub expiry_in : (now : ℕ) (c : Cell) → cone_cell c ≡ true → keep cone_item (expiry now c) ≡ expiry now c
  unfolding expiry keep cone_item cone_work cone_cell
  expiry_in now c h = go c.stale_after
    where
      go : (o : Option ℕ) → keep cone_item
          (elim o [ none ↦ [] | some ttl ↦ record { at = now + ttl + 1; work = Work.stale c.name c.version } ∷ [] ])
          ≡ elim o [ none ↦ [] | some ttl ↦ record { at = now + ttl + 1; work = Work.stale c.name c.version } ∷ [] ]
      go none = refl
      go (some t) = rw h

  pub expiry_out : (now : ℕ) (c : Cell) → cone_cell c ≡ false → keep cone_item (expiry now c) ≡ []
  unfolding expiry keep cone_item cone_work cone_cell
  expiry_out now c h = go c.stale_after
    where
      go : (o : Option ℕ) → keep cone_item
          (elim o [
            | none ↦ []
            | some ttl ↦ record {
              at = now + ttl + 1;
              work =
                  Work.stale c.name c.version;
            } ∷ []
          ]) ≡ []
      go none = refl
      go (some t) = rw h

  pub expiry_of_out : (now : ℕ) (x : Text) → in_e x ≡ false → (l : List Cell)
      → keep cone_item (expiry_of now (cell_of x l)) ≡ []
  unfolding cone_cell
  expiry_of_out now x h l = go (cell_of x l) (cell_name x l)
    where
      go : (o : Option Cell) → ((c : Cell) → o ≡ some c → c.name ≡ x) → keep cone_item (expiry_of now o) ≡ []
      go none k = unfold expiry_of in (keep_nil cone_item)
      go (some c) k = unfold expiry_of in (expiry_out now c (ap in_e (k c refl) ∙ h))

  pub change_out : (now : ℕ) (x from to : Text) → in_e x ≡ false → keep cone_item (change_of now x from to) ≡ []
  unfolding change_of keep cone_item cone_work at_once
  change_out now x from to h = if_both (keep cone_item) (eq_t from to) refl (rw h)

  -- ---- runs

  pub run_rule : (k : Key) (r : Run) → same_run k r ≡ true → r.key.rule ≡ k.rule
  unfolding same_run
  run_rule k r q = eq_t_eq r.key.rule k.rule (and_l (eq_t r.key.rule k.rule) _ q)

  pub is_run_in : (k : Key) → in_a k.rule ≡ true → (r : Run) → same_run k r ≡ true → cone_run r ≡ true
  unfolding cone_run
  is_run_in k h r q = ap in_a (run_rule k r q) ∙ h

  pub is_run_out : (k : Key) → in_a k.rule ≡ false → (r : Run) → cone_run r ≡ true → same_run k r ≡ false
  unfolding cone_run
  is_run_out k h r q = go (case (same_run k r))
    where
      go : Case (same_run k r) → same_run k r ≡ false
      go (is_true a) = absurd (true≢false (sym q ∙ ap in_a (run_rule k r a) ∙ h))
      go (is_false a) = a

  pub of_rule_in : (id : Text) → in_a id ≡ true → (r : Run) → of_rule id r ≡ true → cone_run r ≡ true
  unfolding of_rule cone_run
  of_rule_in id h r q = ap in_a (eq_t_eq r.key.rule id q) ∙ h

  pub of_rule_out : (id : Text) → in_a id ≡ false → (r : Run) → cone_run r ≡ true → of_rule id r ≡ false
  unfolding of_rule cone_run
  of_rule_out id h r q = go (case (of_rule id r))
    where
      go : Case (of_rule id r) → of_rule id r ≡ false
      go (is_true a) = absurd (true≢false (sym q ∙ ap in_a (eq_t_eq r.key.rule id a) ∙ h))
      go (is_false a) = a

  find_bares : (q : Run → Bool) → ((x : Run) → q x ≡ true → cone_run x ≡ true) → ((x : Run) → q (bare x) ≡ q x)
      → (l : List Run) → find q (bares l) ≡ opt bare (find q l)
  unfolding bares
  find_bares q h k l = find_each bare q q k (keep cone_run l) ∙ ap (opt bare) (find_keep q cone_run h l)

  pub tally_bares : (q : Run → Bool) → ((x : Run) → q x ≡ true → cone_run x ≡ true) → ((x : Run) → q (bare x) ≡ q x)
      → (l : List Run) → tally q (bares l) ≡ tally q l
  unfolding bares
  tally_bares q h k l = tally_each bare q q k (keep cone_run l) ∙ tally_keep q cone_run h l

  pub bares_keep : (q : Run → Bool) → ((x : Run) → q (bare x) ≡ q x) → (l : List Run) → bares (keep q l) ≡ keep q (bares l)
  unfolding bares
  bares_keep q k l = ap (each bare) (keep_swap cone_run q l) ∙ sym (keep_each bare q q k (keep cone_run l))

  pub bares_drop : (q : Run → Bool) → ((x : Run) → cone_run x ≡ true → q x ≡ true) → (l : List Run)
      → bares (keep q l) ≡ bares l
  unfolding bares
  bares_drop q h l = ap (each bare) (keep_idle cone_run q l h)

  pub bares_each : (f f' : Run → Run) → ((x : Run) → cone_run (f x) ≡ cone_run x)
      → ((x : Run) → f' (bare x) ≡ bare (f x)) → (l : List Run) → bares (each f l) ≡ each f' (bares l)
  unfolding bares
  bares_each f f' h k l =
      ap (each bare) (each_keep f cone_run h l)
      ∙ each_each f bare (λ x. bare (f x)) (λ x. refl) (keep cone_run l)
      ∙ sym (each_each bare f' (λ x. bare (f x)) k (keep cone_run l))

  pub bares_idle : (f : Run → Run) (g : Run → Bool) → ((x : Run) → cone_run (f x) ≡ cone_run x)
      → ((x : Run) → cone_run x ≡ true → g x ≡ true → f x ≡ x)
      → (l : List Run) → Every g l → bares (each f l) ≡ bares l
  unfolding bares
  bares_idle f g h k l e = ap (each bare) (each_keep f cone_run h l ∙ each_idle f cone_run g k l e)

  pub bares_append : (l m : List Run) → bares (l ++ m) ≡ bares l ++ bares m
  unfolding bares
  bares_append l m = ap (each bare) (keep_append cone_run l m) ∙ each_append bare (keep cone_run l) (keep cone_run m)

  pub find_pair : (q : Run → Bool) → ((x : Run) → q x ≡ true → cone_run x ≡ true) → ((x : Run) → q (bare x) ≡ q x)
      → (l l' : List Run) → bares l ≡ bares l' → Found (find q l) (find q l')
  find_pair q h k l l' e = paired (find q l) (find q l') (sym (find_bares q h k l) ∙ ap (find q) e ∙ find_bares q h k l')

  in_place_rule : (r x : Run) → cone_run (in_place r x) ≡ cone_run x
  unfolding in_place cone_run
  in_place_rule r x = go (case (same_run r.key x))
    where
      go : Case (same_run r.key x) → in_a (if same_run r.key x then r else x).key.rule ≡ in_a x.key.rule
      go (is_true a) = rw a (ap in_a (sym (run_rule r.key x a)))
      go (is_false a) = rw a

  pub bares_place : (r : Run) (l : List Run) → bares (each (in_place r) l) ≡ each (in_place (bare r)) (bares l)
  bares_place r l = bares_each (in_place r) (in_place (bare r)) (in_place_rule r)
      (λ x. unfold in_place same_run bare in (sym (if_hom bare (same_run r.key x) refl refl))) l

  pub bares_place_out : (r : Run) → cone_run r ≡ false → (l : List Run) → bares (each (in_place r) l) ≡ bares l
  unfolding cone_run
  bares_place_out r h l = bares_idle (in_place r) (λ x. true) (in_place_rule r)
      (λ x q g. unfold in_place in (rw (is_run_out r.key h x q))) l (every_yes l)

  woken_rule : (x from to : Text) (r : Run) → cone_run (woken x from to r) ≡ cone_run r
  unfolding woken cone_run
  woken_rule x from to r = if_both cone_run (awaits x from to r) refl refl

  pub bares_woken : (x from to : Text) (l : List Run) → bares (each (woken x from to) l) ≡ each (woken x from to) (bares l)
  bares_woken x from to l =
      bares_each (woken x from to) (woken x from to) (woken_rule x from to)
      (λ r. unfold woken awaits bare in (sym (if_hom bare (awaits x from to r) refl refl))) l

  pub bares_woken_out : (x from to : Text) (g : Run → Bool)
      → ((r : Run) → cone_run r ≡ true → g r ≡ true → awaits x from to r ≡ false)
      → (l : List Run) → Every g l → bares (each (woken x from to) l) ≡ bares l
  bares_woken_out x from to g h l e =
      bares_idle (woken x from to) g (woken_rule x from to) (λ r q k. unfold woken in (rw (h r q k))) l e

  pub steps_keep : (now : ℕ) (x from to : Text) (l : List Run)
      → keep cone_item (each (next_step now) (keep (awaits x from to) l)) ≡ each (next_step now)
      (keep (awaits x from to) (bares l))
  unfolding bares next_step at_once cone_item cone_work cone_run awaits bare
  steps_keep now x from to l =
      keep_each (next_step now) cone_item cone_run (λ r. refl) (keep (awaits x from to) l)
      ∙ ap (each (next_step now)) (keep_swap cone_run (awaits x from to) l)
      ∙ sym (each_each bare (next_step now) (next_step now) (λ r. refl) (keep (awaits x from to) (keep cone_run l)))
      ∙ ap (each (next_step now)) (sym (keep_each bare (awaits x from to) (awaits x from to) (λ r. refl) (keep cone_run l)))

  -- ---- two engines that are alike in the cone

  pub record Like (e c : Engine) : Type 0 where
    pub of_cells : keep cone_cell e.cells ≡ keep cone_cell c.cells
    pub of_queue : keep cone_item e.queue ≡ keep cone_item c.queue
    pub of_runs : bares e.runs ≡ bares c.runs
    pub of_made : keep in_a e.made ≡ keep in_a c.made
    pub of_trace : keep cone_trace e.trace ≡ keep cone_trace c.trace
    pub of_start : e.start ≡ c.start

  pub like_truth : (now : ℕ) {e c : Engine} → Like e c → (p : Predicate) → all in_e (predicate_reads p) ≡ true
      → evaluate (moment now e) p e.cells ≡ evaluate (moment now c) p c.cells
  like_truth now {e} {c} h p k =
      same_truth e.cells c.cells h.of_cells (moment now e) p k
      ∙ ap (λ (o : Moment). evaluate (moment_after o now) p c.cells) h.of_start

  pub like_truths : (now : ℕ) {e c : Engine} → Like e c → (ps : List Predicate) → all in_e (flat predicate_reads ps) ≡ true
      → evaluate_all (moment now e) ps e.cells ≡ evaluate_all (moment now c) ps c.cells
  like_truths now {e} {c} h ps k =
      same_truths e.cells c.cells h.of_cells (moment now e) ps k
      ∙ ap (λ (o : Moment). evaluate_all (moment_after o now) ps c.cells) h.of_start

  pub like_refl : {e : Engine} → Like e e
  like_refl = record { of_cells = refl; of_queue = refl; of_runs = refl; of_made = refl; of_trace = refl; of_start = refl }

  pub like_sym : {e c : Engine} → Like e c → Like c e
  like_sym h = record {
    of_cells = sym h.of_cells;
    of_queue = sym h.of_queue;
    of_runs =
        sym h.of_runs;
    of_made = sym h.of_made;
    of_trace = sym h.of_trace;
    of_start = sym h.of_start;
  }

  pub like_trans : {e c d : Engine} → Like e c → Like c d → Like e d
  like_trans h k = record {
    of_cells = h.of_cells ∙ k.of_cells;
    of_queue = h.of_queue ∙ k.of_queue;
    of_runs = h.of_runs ∙ k.of_runs;
    of_made = h.of_made ∙ k.of_made;
    of_trace = h.of_trace ∙ k.of_trace;
    of_start = h.of_start ∙ k.of_start;
  }

  -- from a to e, from b to c
  pub like_square : {a b e c : Engine} → Like a e → Like b c → Like e c → Like a b
  like_square p q h = like_trans p (like_trans h (like_sym q))

  pub like_if : (b : Bool) {x y u w : Engine} → Like x u → Like y w → Like (if b then x else y) (if b then u else w)
  like_if true p q = p
  like_if false p q = q

  pub like_if_out : (b : Bool) {x y u : Engine} → Like x u → Like y u → Like (if b then x else y) u
  like_if_out true p q = p
  like_if_out false p q = q

  module _ {e c : Engine} (h : Like e c) where
    pub l_with_cells : (l l' : List Cell) → keep cone_cell l ≡ keep cone_cell l' → Like (with_cells l e) (with_cells l' c)
    unfolding with_cells
    l_with_cells l l' p = record {
      of_cells = p;
      of_queue = h.of_queue;
      of_runs = h.of_runs;
      of_made =
          h.of_made;
      of_trace = h.of_trace;
      of_start = h.of_start;
    }

    pub l_with_queue : (l l' : List Item) → keep cone_item l ≡ keep cone_item l' → Like (with_queue l e) (with_queue l' c)
    unfolding with_queue
    l_with_queue l l' p = record {
      of_cells = h.of_cells;
      of_queue = p;
      of_runs = h.of_runs;
      of_made =
          h.of_made;
      of_trace = h.of_trace;
      of_start = h.of_start;
    }

    pub l_with_runs : (l l' : List Run) → bares l ≡ bares l' → Like (with_runs l e) (with_runs l' c)
    unfolding with_runs
    l_with_runs l l' p = record {
      of_cells = h.of_cells;
      of_queue = h.of_queue;
      of_runs = p;
      of_made =
          h.of_made;
      of_trace = h.of_trace;
      of_start = h.of_start;
    }

    pub l_add : (i : Item) → Like (add i e) (add i c)
    unfolding add
    l_add i = record {
      of_cells = h.of_cells;
      of_queue = keep_append cone_item e.queue (i ∷ [])
          ∙ ap {B = List Item} (λ t. t ++ keep cone_item (i ∷ [])) h.of_queue
          ∙ sym (keep_append cone_item c.queue (i ∷ []));
      of_runs = h.of_runs;
      of_made = h.of_made;
      of_trace = h.of_trace;
      of_start = h.of_start;
    }

    pub l_append : (t t' : Trace) → t ≡ t' → Like (append t e) (append t' c)
    unfolding append
    l_append t t' p = record {
      of_cells = h.of_cells;
      of_queue = h.of_queue;
      of_runs = h.of_runs;
      of_made = h.of_made;
      of_trace =
          keep_append cone_trace e.trace (t ∷ [])
          ∙ (λ i. h.of_trace i ++ keep cone_trace (p i ∷ []))
          ∙ sym (keep_append cone_trace c.trace (t' ∷ []));
      of_start = h.of_start;
    }

    pub l_add_run : (r : Run) (n : ℕ) → Like (add_run r e) (add_run (renum n r) c)
    unfolding add_run
    l_add_run r n = record {
      of_cells = h.of_cells;
      of_queue = h.of_queue;
      of_runs =
          bares_append e.runs (r ∷ [])
          ∙ (λ i. h.of_runs i ++ one i)
          ∙ sym (bares_append c.runs (renum n r ∷ []));
      of_made = keep_append in_a e.made (r.key.rule ∷ [])
          ∙ ap {B = List Text} (λ t. t ++ keep in_a (r.key.rule ∷ [])) h.of_made
          ∙ sym (keep_append in_a c.made (r.key.rule ∷ []));
      of_trace = h.of_trace;
      of_start = h.of_start;
    }
      where
        one : bares (r ∷ []) ≡ bares (renum n r ∷ [])
        one = unfold bares keep cone_run in (go (in_a r.key.rule))
          where
            go : (b : Bool) → each bare (if b then r ∷ [] else []) ≡ each bare (if b then renum n r ∷ [] else [])
            go true = unfold each bare in refl
            go false = refl

    pub l_uncertain : (t t' : Text) → Like (uncertain t e) (uncertain t' c)
    unfolding uncertain
    l_uncertain t t' = record {
      of_cells = h.of_cells;
      of_queue = h.of_queue;
      of_runs = h.of_runs;
      of_made =
          h.of_made;
      of_trace = h.of_trace;
      of_start = h.of_start;
    }

  module _ (e : Engine) where
    pub o_with_cells : (l : List Cell) → keep cone_cell l ≡ keep cone_cell e.cells → Like (with_cells l e) e
    unfolding with_cells
    o_with_cells l p = record {
      of_cells = p;
      of_queue = refl;
      of_runs = refl;
      of_made = refl;
      of_trace = refl;
      of_start = refl;
    }

    pub o_with_queue : (l : List Item) → keep cone_item l ≡ keep cone_item e.queue → Like (with_queue l e) e
    unfolding with_queue
    o_with_queue l p = record {
      of_cells = refl;
      of_queue = p;
      of_runs = refl;
      of_made = refl;
      of_trace = refl;
      of_start = refl;
    }

    pub o_with_runs : (l : List Run) → bares l ≡ bares e.runs → Like (with_runs l e) e
    unfolding with_runs
    o_with_runs l p = record {
      of_cells = refl;
      of_queue = refl;
      of_runs = p;
      of_made = refl;
      of_trace = refl;
      of_start = refl;
    }

    pub o_add : (i : Item) → cone_item i ≡ false → Like (add i e) e
    unfolding add
    o_add i p = record {
      of_cells = refl;
      of_queue = keep_end_out cone_item e.queue i p;
      of_runs = refl;
      of_made =
          refl;
      of_trace = refl;
      of_start = refl;
    }

    pub o_append : (t : Trace) → cone_trace t ≡ false → Like (append t e) e
    unfolding append
    o_append t p = record {
      of_cells = refl;
      of_queue = refl;
      of_runs = refl;
      of_made = refl;
      of_trace =
          keep_end_out cone_trace e.trace t p;
      of_start = refl;
    }

    pub o_log : (now : ℕ) (k : Kind) (id : Option Text) (s : Option Source) → boundary k ≡ false
        → Like (log now k id s none e) e
    unfolding log cone_trace present_and
    o_log now k id s p = o_append (record { at = now; kind = k; automation = id; source = s; change = none }) (rw p)

    pub o_add_run : (r : Run) → cone_run r ≡ false → Like (add_run r e) e
    unfolding add_run cone_run
    o_add_run r p = record {
      of_cells = refl;
      of_queue = refl;
      of_runs = unfold bares in (ap (each bare) (keep_end_out cone_run e.runs r p));
      of_made = keep_end_out in_a e.made r.key.rule p;
      of_trace = refl;
      of_start = refl;
    }

    pub o_uncertain : (t : Text) → Like (uncertain t e) e
    unfolding uncertain
    o_uncertain t = record {
      of_cells = refl;
      of_queue = refl;
      of_runs = refl;
      of_made = refl;
      of_trace = refl;
      of_start = refl;
    }

  -- items that are added one by one
  queue_adds : (l : List Item) (e : Engine) → (adds l e).queue ≡ e.queue ++ l
  unfolding adds through add
  queue_adds [] e = sym (append_none e.queue)
  queue_adds (i ∷ l) e = queue_adds l (add i e) ∙ append_assoc e.queue (i ∷ []) l

  adds_else : (l : List Item) (e : Engine) → Like (with_queue e.queue (adds l e)) e
  unfolding adds through with_queue
  adds_else [] e = like_refl
  adds_else (i ∷ l) e = go (adds_else l (add i e))
    where
      go : Like (with_queue (add i e).queue (adds l (add i e))) (add i e)
          → Like (with_queue e.queue (adds l (add i e))) e
      go k = unfold add in (record {
        of_cells = k.of_cells;
        of_queue = refl;
        of_runs = k.of_runs;
        of_made =
            k.of_made;
        of_trace = k.of_trace;
        of_start = k.of_start;
      })

  pub l_adds : (e c : Engine) → Like e c → (l l' : List Item) → keep cone_item l ≡ keep cone_item l'
      → Like (adds l e) (adds l' c)
  unfolding with_queue
  l_adds e c h l l' p =
      let a : Like (with_queue e.queue (adds l e)) e = adds_else l e in
      let b : Like (with_queue c.queue (adds l' c)) c = adds_else l' c in
      record {
        of_cells = a.of_cells ∙ h.of_cells ∙ sym b.of_cells;
        of_queue =
            ap (keep cone_item) (queue_adds l e) ∙ keep_append cone_item e.queue l
            ∙ (λ i. h.of_queue i ++ p i)
            ∙ sym (ap (keep cone_item) (queue_adds l' c) ∙ keep_append cone_item c.queue l');
        of_runs = a.of_runs ∙ h.of_runs ∙ sym b.of_runs;
        of_made = a.of_made ∙ h.of_made ∙ sym b.of_made;
        of_trace = a.of_trace ∙ h.of_trace ∙ sym b.of_trace;
        of_start = a.of_start ∙ h.of_start ∙ sym b.of_start;
      }

  pub o_adds : (e : Engine) (l : List Item) → keep cone_item l ≡ [] → Like (adds l e) e
  unfolding adds through
  o_adds e l p = l_adds e e like_refl l [] (p ∙ sym (keep_nil cone_item))
