-- The reduction by the code is the definition's: one attempt, and the loop.
use Prim.Native.Nat.{ℕ, zero, suc, ◌+◌, ◌-◌, ◌≤◌, ◌<◌}
use mathlib.Core.Path.{◌≡◌, refl, sym, ap, subst, ◌∙◌}
use mathlib.Core.Bool.{Bool, true, false}
use mathlib.Core.List.{List, []}
use native.Mathlib.Omega.{arith}
use lib.Dec.{eqb}
use lib.ListN.{length, get_or}
use borrow.Author.Tests.{lt-ltb, le-ltb, eqb-true, eqb-false}
use Rattle.layout.specs.Sizes.{event_word_count}
use Rattle.texts.specs.Texts.{Text}
use Rattle.model_spec.specs.Answer.{Answer, answer, refused, ◌>>=◌}
use Rattle.model_spec.specs.Model.{Event, Input, Model}
use Rattle.model_spec.specs.Validate.{accepted}
use Rattle.model_index.specs.declared.Index.{Index}
use Rattle.model_index.specs.Indexed.{Indexed}
use Rattle.engine_spec.specs.Cells.{Cell, initial_cells}
use Rattle.engine_spec.specs.Records.{Areas}
use Rattle.engine_spec.proofs.Lists.{Case, is_true, is_false, case}
use Rattle.engine_refinement.specs.Meaning.{Tabled}
use Rattle.engine_refinement.specs.Events.{EventAt}
use Rattle.engine_inputs.specs.declared.Events.{Events}
use Rattle.engine_entry.specs.Prepared.{Prepared, PreparedFrom}
use Rattle.engine_entry.proofs.Refines.{tb}
use Rattle.engine_entry.proofs.RunEvents.{texts_here}
use Rattle.checker_spec.specs.Check.{Check, checked}
use Rattle.checker_spec.specs.Minimize.{remove, violates, reduce}
use Rattle.checker_spec.specs.Minimize as minimize
use Rattle.checker_result.specs.declared.CheckResult.{CheckResult}
use Rattle.checker_retry.specs.Retry.{Tells, answers, refuses, Cased}
use Rattle.reduce.specs.declared.Reduced.{Reduced}
use Rattle.reduce.specs.Events.{Left}
use Rattle.reduce.specs.Promises.{
  Without,
  violates_m,
  Stops,
  refusal,
  spent,
  passed,
  GoesOn,
  sizes,
  from,
  Goes,
  going,
  Ends,
  done,
  Open,
  Tried,
  Attempted,
  Begun,
  Reduces,
}
use Rattle.reduce.specs.Promises as parts
use Rattle.reduce.proofs.Words.{left_without, left_at}
use Rattle.reduce.proofs.Violations.{checked_fair, violates_is}

-- ---- the definition's turns

module _ (areas : Areas) (m : Model) (cells : List Cell) (target : Text) (vs : List Event) (made i : ℕ) where
  abbrev ended : Answer minimize.Reduced
  ended = answer (record { events = vs; attempts = made; reached = i })

  spent_is : reduce areas m cells target 0 made i vs ≡ ended
  unfolding reduce
  spent_is = refl

  passed_is : (left : ℕ) → length vs ≤ i → reduce areas m cells target left made i vs ≡ ended
  unfolding reduce
  passed_is zero h = refl
  passed_is (suc left) h = rw (le-ltb i (length vs) h, reduce)

  module _ (left : ℕ) (h : i < length vs) where
    turn_refused : (n : ℕ) → checked areas m cells (remove i vs) ≡ refused n
        → reduce areas m cells target (suc left) made i vs ≡ refused n
    unfolding reduce ◌>>=◌
    turn_refused n e = rw (lt-ltb i (length vs) h, reduce) (rw e)

    -- what follows the check
    abbrev next : Bool → Answer minimize.Reduced
    next b = elim b [
      | true ↦ reduce areas m cells target left (made + 1) 0 (remove i vs)
      | false ↦ reduce areas m cells target left (made + 1) (i + 1) vs
    ]

    turn_kept : (c : Check) → checked areas m cells (remove i vs) ≡ answer c → violates target c ≡ true →
        reduce areas m cells target (suc left) made i vs ≡ reduce areas m cells target left (made + 1) 0 (remove i vs)
    unfolding reduce ◌>>=◌
    turn_kept c e v = rw (lt-ltb i (length vs) h, reduce) (rw e (ap next v))

    turn_passed : (c : Check) → checked areas m cells (remove i vs) ≡ answer c → violates target c ≡ false →
        reduce areas m cells target (suc left) made i vs ≡ reduce areas m cells target left (made + 1) (i + 1) vs
    unfolding reduce ◌>>=◌
    turn_passed c e v = rw (lt-ltb i (length vs) h, reduce) (rw e (ap next v))

-- ---- one attempt

none_such : Event
none_such = record { at = 0; input = Input.restart }

module _ {f starts : List ℕ} {many : ℕ} {g : Prepared} (target : ℕ) (r : Reduced) (open-so : Open r)
    (bytes : (k : ℕ) → get_or f k 0 < 256) {w : List ℕ}
    (without : Without r.words r.count r.reached w) {c : CheckResult} {q a u : ℕ}
    (ch : Cased f starts many g w (r.count - 1) c q a u) where
  abbrev areas : Areas
  areas = sizes q a u

  -- the definition's turn that this attempt is
  module _ (i : Index) (es : starts ≡ i.invariants.starts) (em : many ≡ i.invariants.count) (m : Model)
      (acc : accepted f ≡ answer m) (o : Indexed f i m) (gr : PreparedFrom f i g)
      (inside : target < length o.ts) (vs : List Event) (left : Left m o.ts r.words r.count vs) where
    abbrev x : List ℕ
    x = g.table

    abbrev t : Tabled f x o.ts m
    t = tb f i m acc o bytes g gr

    abbrev cells : List Cell
    cells = initial_cells m.scenario.entities

    abbrev name : Text
    name = get_or o.ts target []

    abbrev rest : List Event
    rest = remove r.reached vs

    here : r.reached < length vs
    here = omega (arith, left.many, open-so.inside)

    left_rest : Left m o.ts w (r.count - 1) rest
    left_rest = left_without o.ts m r.words r.count r.reached open-so.inside open-so.few
        w without vs left

    evs : (j : ℕ) → j < length rest → EventAt f x o.ts m w j (get_or rest j none_such)
    evs j h = left_at f x i m acc o t w (r.count - 1) rest left_rest none_such j h

    abbrev Promised : Type 0
    Promised = Tells f m c (checked areas m cells rest)

    promised : Promised
    promised = ch.does i es em m acc o bytes gr none_such rest evs left_rest.many

    abbrev before : Answer minimize.Reduced
    before = from areas m o.ts target r.attempts r.reached vs

    -- attempts left
    one_less : 200 - r.attempts ≡ suc (200 - (r.attempts + 1))
    one_less = omega (arith, open-so.attempts)

    begins : before ≡ reduce areas m cells name (suc (200 - (r.attempts + 1))) r.attempts r.reached vs
    begins = ap (λ (n : ℕ). reduce areas m cells name n r.attempts r.reached vs) one_less

    goes_full : (c.simulation.refused ≡ 0 → ⊥) → (e : Reduced) → e.refused ≡ c.simulation.refused
        → Goes areas m o.ts target e before
    goes_full z e s = by promised
      where
        by : Promised → Goes areas m o.ts target e before
        by (answers k y shows ku ki) = absurd (z shows.simulation.accepted)
        by (refuses n lo hi y is) =
            let no : e.refused ≡ n = s ∙ is.number in
            parts.Goes.full (omega (arith, no)) (omega (arith, no))
            (begins ∙ turn_refused areas m cells name vs r.attempts r.reached (200 - (r.attempts + 1)) here n y
            ∙ ap refused (sym no))

    module _ (z : c.simulation.refused ≡ 0) (b : Bool)
        (is_b : b ≡ violates_m c.status c.violations c.violated target) where
      verdict : (k : Check) → checked areas m cells rest ≡ answer k → Rattle.checker_entry.specs.Contract.Shows f c k
          → violates name k ≡ b
      verdict k y shows = sym (is_b ∙ violates_is f x i m acc o t (texts_here f i m acc o bytes g gr) c k shows
          (checked_fair f x i m acc o t areas rest k y) target inside)

      goes_kept : b ≡ true → Goes areas m o.ts target
          (record { refused = 0; count = r.count - 1; words = w; attempts = r.attempts + 1; reached = 0 }) before
      goes_kept e = by promised
        where
          by : Promised → Goes areas m o.ts target
              (record { refused = 0; count = r.count - 1; words = w; attempts = r.attempts + 1; reached = 0 }) before
          by (answers k y shows ku ki) =
              going refl rest left_rest
              (begins ∙ turn_kept areas m cells name vs r.attempts r.reached (200 - (r.attempts + 1)) here k y
              (verdict k y shows ∙ e))
          by (refuses n lo hi y is) = absurd (omega (arith, is.number))

      goes_passed : b ≡ false → Goes areas m o.ts target
          (record {
            refused = 0;
            count = r.count;
            words = r.words;
            attempts = r.attempts + 1;
            reached = r.reached + 1;
          }) before
      goes_passed e = by promised
        where
          by : Promised → Goes areas m o.ts target
              (record {
                refused = 0;
                count = r.count;
                words = r.words;
                attempts = r.attempts + 1;
                reached = r.reached + 1;
              }) before
          by (answers k y shows ku ki) =
              going refl vs left
              (begins ∙ turn_passed areas m cells name vs r.attempts r.reached (200 - (r.attempts + 1)) here k y
              (verdict k y shows ∙ e))
          by (refuses n lo hi y is) = absurd (omega (arith, is.number))

  pub attempted : {b : Bool} → b ≡ violates_m c.status c.violations c.violated target → {e : Reduced} →
      Tried r w c.simulation.refused b e → Attempted f starts many g target r e q a u
  attempted {b} is_b {e} t = by (case (eqb c.simulation.refused 0)) (case b)
    where
      by : Case (eqb c.simulation.refused 0) → Case b → Attempted f starts many g target r e q a u
      by (is_false z) k =
          let n = eqb-false c.simulation.refused 0 z in
          subst (λ (y : Reduced). Attempted f starts many g target r y q a u) (sym (t.full n))
          (record {
            attempts = refl;
            few = omega arith;
            long = open-so.long;
            does = λ i es em m acc o gr inside vs left. goes_full i es em m acc o gr inside vs left n _ refl;
          })
      by (is_true z) (is_true k) =
          let n = eqb-true c.simulation.refused 0 z in
          subst (λ (y : Reduced). Attempted f starts many g target r y q a u) (sym (t.kept n k))
          (record {
            attempts = refl;
            few = omega arith;
            long = without.long;
            does = λ i es em m acc o gr inside vs left. goes_kept i es em m acc o gr inside vs left n b is_b k;
          })
      by (is_true z) (is_false k) =
          let n = eqb-true c.simulation.refused 0 z in
          subst (λ (y : Reduced). Attempted f starts many g target r y q a u) (sym (t.passed n k))
          (record {
            attempts = refl;
            few = omega arith;
            long = open-so.long;
            does = λ i es em m acc o gr inside vs left. goes_passed i es em m acc o gr inside vs left n b is_b k;
          })

-- ---- the loop, begun with the first n events in the words s, and areas q, a and u

pub record Looped (f starts : List ℕ) (many : ℕ) (g : Prepared) (target : ℕ) (s : List ℕ) (n : ℕ) (r : Reduced) (more : Bool)
    (q q' a a' u u' : List ℕ) : Type 0 where
  pub goes : GoesOn r more
  pub attempts : r.attempts ≤ 200
  pub few : r.count ≤ 100
  pub long : length r.words ≡ event_word_count
  pub queue : length q' ≡ length q
  pub records : length a' ≡ length a
  pub runs : length u' ≡ length u
  pub does : (i : Index) → starts ≡ i.invariants.starts → many ≡ i.invariants.count
      → (m : Model) → accepted f ≡ answer m → (o : Indexed f i m) → PreparedFrom f i g → target < length o.ts
      → (vs : List Event) →
      Left m o.ts s n vs →
      Goes (sizes (length q) (length a) (length u)) m o.ts target r
      (from (sizes (length q) (length a) (length u)) m o.ts target 0 0 vs)

next_goes : (areas : Areas) (m : Model) (ts : List Text) (target : ℕ) (r r' : Reduced) (vs : List Event) → r.refused ≡ 0 →
    Goes areas m ts target r (from areas m ts target 0 0 vs) →
    ((ws : List Event) → Left m ts r.words r.count ws
    → Goes areas m ts target r' (from areas m ts target r.attempts r.reached ws)) →
    Goes areas m ts target r' (from areas m ts target 0 0 vs)
next_goes areas m ts target r r' vs z (parts.Goes.full lo hi y) k = absurd (omega (arith, z))
next_goes areas m ts target r r' vs z (going d ws left y) k = subst (Goes areas m ts target r') (sym y) (k ws left)

ends : (areas : Areas) (m : Model) (ts : List Text) (target : ℕ) (r : Reduced) (x : Answer minimize.Reduced)
    → r.attempts ≤ 200 → Stops r →
    Goes areas m ts target r x → Ends areas m ts target r x
ends areas m ts target r x h s (parts.Goes.full lo hi y) = parts.Ends.full lo hi y
ends areas m ts target r x h (refusal z) (going d vs left y) = absurd (z d)
ends areas m ts target r x h (spent k) (going d vs left y) =
    let cells = initial_cells m.scenario.entities in
    let o : 200 - r.attempts ≡ 0 = omega arith in
    done d vs left (y ∙ ap (λ (j : ℕ). reduce areas m cells (get_or ts target []) j r.attempts r.reached vs) o
    ∙ spent_is areas m cells (get_or ts target []) vs r.attempts r.reached)
ends areas m ts target r x h (passed k p) (going d vs left y) =
    done d vs left (y ∙ passed_is areas m (initial_cells m.scenario.entities) (get_or ts target []) vs r.attempts
    r.reached (200 - r.attempts) (omega (arith, left.many)))

module _ {f starts : List ℕ} {many : ℕ} {g : Prepared} {target : ℕ} {n : ℕ} {q a u : List ℕ} where
  pub loop_start : {e : Events} → Begun e n → {b : Bool}
      → GoesOn (record { refused = 0; count = n; words = e.words; attempts = 0; reached = 0 }) b →
      Looped f starts many g target e.words n (record {
        refused = 0;
        count = n;
        words = e.words;
        attempts = 0;
        reached = 0;
      }) b q q a a u u
  loop_start y k = record {
    goes = k;
    attempts = omega arith;
    few = y.few;
    long = y.long;
    queue = refl;
    records = refl;
    runs = refl;
    does = λ i es em m acc o gr inside vs left. going refl vs left refl;
  }

  module _ {s : List ℕ} {r : Reduced} {b : Bool} {q' a' u' : List ℕ}
      (l : Looped f starts many g target s n r b q q' a a' u u') where
    pub loop_open : b ≡ true → Open r
    loop_open z =
        let k = l.goes.more z in
        record { inside = k.inside; few = l.few; attempts = k.attempts; long = l.long }

    pub loop_step : b ≡ true → {r' : Reduced} {b' : Bool}
        → Attempted f starts many g target r r' (length q') (length a') (length u') → GoesOn r' b' →
        {q'' a'' u'' : List ℕ} → length q'' ≡ length q' → length a'' ≡ length a' → length u'' ≡ length u' →
        Looped f starts many g target s n r' b' q q'' a a'' u u''
    loop_step z {r'} {b'} k t eq ea eu =
        let y = l.goes.more z in
        let k' : Attempted f starts many g target r r' (length q) (length a) (length u) =
        rw (l.queue, l.records, l.runs) at k in
        record {
          goes = t;
          attempts = omega (arith, k.attempts, y.attempts);
          few = omega (arith, k.few, l.few);
          long = k.long;
          queue = eq ∙ l.queue;
          records = ea ∙ l.records;
          runs = eu ∙ l.runs;
          does = λ i es em m acc o gr inside vs left.
              next_goes (sizes (length q) (length a) (length u)) m o.ts target r r' vs y.accepted
              (l.does i es em m acc o gr inside vs left) (λ ws left-ws. k'.does i es em m acc o gr inside ws left-ws);
        }

pub loop_end : {f : List ℕ} {i : Index} {g : Prepared} {target n : ℕ} {e : Events} {r : Reduced} {b : Bool}
    {q q' a a' u u' : List ℕ}
    → Looped f i.invariants.starts i.invariants.count g target e.words n r b q q' a a' u u' → b ≡ false →
    Reduces f i g target e n r (length q) (length a) (length u)
loop_end {i = i} {target = target} {r = r} {q = q} {a = a} {u = u} l z = record {
  few = l.few;
  long = l.long;
  does = λ m acc o gr inside vs left.
      ends (sizes (length q) (length a) (length u)) m o.ts target r
      (from (sizes (length q) (length a) (length u)) m o.ts target 0 0 vs) l.attempts (l.goes.stop z)
      (l.does i refl refl m acc o gr inside vs left);
}
