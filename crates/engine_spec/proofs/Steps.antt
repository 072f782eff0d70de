-- Runs' keys, how many steps and timeouts of a run a queue holds, and what keeps an automation's runs in line.
use Prim.Native.Nat.{ℕ, zero, suc, ◌+◌, ◌≤◌}
use mathlib.Core.Path.{◌≡◌, refl, sym, ap, ◌∙◌, subst}
use mathlib.Core.Bool.{Bool, true, false, not, ◌&&◌, true≢false}
use mathlib.Core.List.{List, [], ◌∷◌, ◌++◌, append-nil, append_assoc}
use mathlib.Core.Option.{some}
use native.Mathlib.Omega.{arith}
use lib.Dec.{leb, eqb}
use Rattle.texts.specs.Lists.{find, tally, through}
use Rattle.texts.specs.Texts.{Text, eq_t}
use Rattle.model_spec.specs.Model.{Mode, single, queued, parallel}
use Rattle.engine_spec.specs.Modes.{
  Decision,
  already_running,
  max_reached,
  start,
  stop_and_start,
  wait_in_line,
  decide,
}
use Rattle.engine_spec.specs.Records.{Key, Run, Item, Engine}
use Rattle.engine_spec.specs.Changes.{add, adds}
use Rattle.engine_spec.specs.Engine.{same_run, of_rule, of_other_rule}
use Rattle.engine_spec.specs.Page.{same_key, steps, times_out, steps_in, steps_at, timeouts_at, InLine, waits_in_line}
use Rattle.engine_spec.proofs.Lists.{
  Case,
  is_true,
  is_false,
  case,
  if_prop,
  eq_t_eq,
  some_eq,
  one,
  tally_append,
  tally_end,
  some_pass,
  Each,
  each_weak,
  each_both,
  each_end,
  each_found,
  tally_none,
}
use Rattle.engine_spec.proofs.Runs.{keys_eq, own_key, Later, later_differs, InOrder}

-- a run of one automation isn't of another
pub other_stays : (id other : Text) → eq_t other id ≡ false → (x : Run) → of_rule id x ≡ true → of_other_rule other x ≡ true
unfolding of_rule of_other_rule
other_stays id other t x o = by (case (eq_t x.key.rule other))
  where
    by : Case (eq_t x.key.rule other) → not (eq_t x.key.rule other) ≡ true
    by (is_true b) = absurd (true≢false (sym o ∙ (ap (λ (y : Text). eq_t y id) (eq_t_eq _ _ b) ∙ t)))
    by (is_false b) = rw b

-- ---- keys

-- another run's key is another key
pub keys_differ : (k : Key) (x : Run) → same_run k x ≡ false → same_key k x.key ≡ false
keys_differ k x h = by (case (same_key k x.key))
  where
    by : Case (same_key k x.key) → same_key k x.key ≡ false
    by (is_false b) = b
    by (is_true b) =
        absurd (true≢false (sym (subst (λ (j : Key). same_run j x ≡ true) (sym (keys_eq k x.key b)) (own_key x)) ∙ h))

-- a run that is found is the only one with its key
pub only_found : (q : Run → Bool) (l : List Run) (r : Run) → InOrder l → find q l ≡ some r
    → Each (λ x. same_run r.key x ≡ true → x ≡ r) l
unfolding find
only_found q [] r o e = tt
only_found q (y ∷ l) r o e = go (case (q y)) (λ d. only_found q l r o.1 d)
  where
    go : Case (q y) → (find q l ≡ some r → Each (λ x. same_run r.key x ≡ true → x ≡ r) l)
        → Each (λ x. same_run r.key x ≡ true → x ≡ r) (y ∷ l)
    go (is_true a) f =
        let same : y ≡ r = some_eq (simp a at e) in
        let own : same_run r.key y ≡ true = subst (λ (z : Run). same_run z.key y ≡ true) same (own_key y) in (
          λ _. same,
          each_weak (Later y) _ (λ x g b. absurd (true≢false (sym b ∙ later_differs r.key y x own g))) l o.0,
        )
    go (is_false a) f =
        let d : find q l ≡ some r = simp a at e in (
          λ b. absurd (true≢false (sym (own_key r) ∙
              later_differs r.key y r b (each_found (Later y) q l r o.0 d))),
          f d,
        )

-- among runs in order, those that pass a test and have the key of one of them: itself, if it passes
pub once_at : (q : Run → Bool) (l : List Run) → InOrder l → Each (λ x. tally (λ y. q y && same_run x.key y) l ≡ one (q x)) l
unfolding tally
once_at q [] o = tt
once_at q (y ∷ l) o = (
  omega (
    arith,
    ap (λ (b : Bool). one (q y && b)) (own_key y),
    one_true (q y),
    tally_none (Later y) (λ z. q z && same_run y.key z)
        (λ z g. no_and (q z) (later_differs y.key y z (own_key y) g)) l o.0,
  ),
  each_both (Later y) (λ x. tally (λ z. q z && same_run x.key z) l ≡ one (q x)) _
      (λ x g t. omega (arith, t, ap one (no_and (q y) (before x g (case (same_run x.key y)))))) l o.0
      (once_at q l o.1),
)
  where
    one_true : (b : Bool) → one (b && true) ≡ one b
    one_true true = refl
    one_true false = refl

    no_and : (b : Bool) {c : Bool} → c ≡ false → b && c ≡ false
    no_and true h = h
    no_and false h = refl

    before : (x : Run) → Later y x → Case (same_run x.key y) → same_run x.key y ≡ false
    before x g (is_false b) = b
    before x g (is_true b) = absurd (true≢false (sym (own_key x) ∙ later_differs x.key y x b g))

-- whose key was queued is queued
pub still_queued : (l : List Run) → InOrder l → Each (λ x. waits_in_line l x.key ≡ true → x.queued ≡ true) l
unfolding waits_in_line same_run same_key
still_queued l o =
    each_weak _ _ (λ x n h. by x n (some_pass (λ r. r.queued && same_run x.key r) l h) (case x.queued)) l
    (once_at (λ r. r.queued) l o)
  where
    by : (x : Run) → tally (λ r. r.queued && same_run x.key r) l ≡ one x.queued
        → 1 ≤ tally (λ r. r.queued && same_run x.key r) l → Case x.queued → x.queued ≡ true
    by x n h (is_true b) = b
    by x n h (is_false b) = absurd (omega (arith, n, h, ap one b))

-- ---- one more item

pub steps_end : (k : Key) (q : List Item) (i : Item) → steps_in k (q ++ i ∷ []) ≡ steps_in k q + one (steps k i.work)
unfolding steps_in
steps_end k q i = tally_end (λ i. steps k i.work) q i

pub steps_at_end : (t : ℕ) (k : Key) (q : List Item) (i : Item)
    → steps_at t k (q ++ i ∷ []) ≡ steps_at t k q + one (eqb i.at t && steps k i.work)
unfolding steps_at
steps_at_end t k q i = tally_end (λ i. eqb i.at t && steps k i.work) q i

pub timeouts_end : (t : ℕ) (k : Key) (q : List Item) (i : Item)
    → timeouts_at t k (q ++ i ∷ []) ≡ timeouts_at t k q + one (eqb i.at t && times_out k i.work)
unfolding timeouts_at
timeouts_end t k q i = tally_end (λ i. eqb i.at t && times_out k i.work) q i

-- ---- more items

pub steps_more : (k : Key) (q m : List Item) → steps_in k (q ++ m) ≡ steps_in k q + steps_in k m
unfolding steps_in
steps_more k q m = tally_append (λ i. steps k i.work) q m

pub steps_at_more : (t : ℕ) (k : Key) (q m : List Item) → steps_at t k (q ++ m) ≡ steps_at t k q + steps_at t k m
unfolding steps_at
steps_at_more t k q m = tally_append (λ i. eqb i.at t && steps k i.work) q m

pub timeouts_more : (t : ℕ) (k : Key) (q m : List Item) → timeouts_at t k (q ++ m) ≡ timeouts_at t k q + timeouts_at t k m
unfolding timeouts_at
timeouts_more t k q m = tally_append (λ i. eqb i.at t && times_out k i.work) q m

-- so many items more, in the engine
pub more : (P : List Run → List Text → List Item → Type 0) (l : List Item) (e : Engine)
    → P e.runs e.made (e.queue ++ l) → P (adds l e).runs (adds l e).made (adds l e).queue
unfolding adds through add
more P [] e h = subst (P e.runs e.made) (append-nil e.queue) h
more P (i ∷ l) e h = more P l (add i e) (subst (P e.runs e.made) (sym (append_assoc e.queue (i ∷ []) l)) h)

-- ---- the runs of an automation in line

-- what a decision asks of an automation with n runs: a run is queued behind others and in mode queued only, where a run
-- starts only alone
abbrev pub Suits : Decision → Mode → ℕ → Type 0
Suits already_running m n = Unit {0}
Suits max_reached m n = Unit {0}
Suits start single n = Unit {0}
Suits start Mode.restart n = Unit {0}
Suits start queued n = n ≡ 0
Suits start parallel n = Unit {0}
Suits stop_and_start m n = Unit {0}
Suits wait_in_line single n = ⊥
Suits wait_in_line Mode.restart n = ⊥
Suits wait_in_line queued n = 1 ≤ n
Suits wait_in_line parallel n = ⊥

pub decide_suits : (m : Mode) (max n : ℕ) → Suits (decide m max n) m n
unfolding decide
decide_suits single max zero = tt
decide_suits single max (suc n) = tt
decide_suits Mode.restart max zero = tt
decide_suits Mode.restart max (suc n) = tt
decide_suits queued max zero = if_prop (λ (d : Decision). Suits d queued zero) (leb max zero) (λ _. tt) (λ _. refl)
decide_suits queued max (suc n) =
    if_prop (λ (d : Decision). Suits d queued (suc n)) (leb max (suc n)) (λ _. tt) (λ _. omega arith)
decide_suits parallel max n = if_prop (λ (d : Decision). Suits d parallel n) (leb max n) (λ _. tt) (λ _. tt)

pub line_none : (m : Mode) → InLine m []
line_none single = tt
line_none Mode.restart = tt
line_none queued = tt
line_none parallel = tt

pub line_alone : (m : Mode) (x : Run) → x.queued ≡ false → InLine m (x ∷ [])
line_alone single x q = (q, tt)
line_alone Mode.restart x q = (q, tt)
line_alone queued x q = (q, tt)
line_alone parallel x q = (q, tt)

-- a run starts beside those there are
pub line_start : (m : Mode) (n : ℕ) (l : List Run) (x : Run) → x.queued ≡ false → Suits start m n → (n ≡ 0 → l ≡ [])
    → InLine m l → InLine m (l ++ x ∷ [])
line_start single n l x q u z k = each_end (λ r. r.queued ≡ false) l x k q
line_start Mode.restart n l x q u z k = each_end (λ r. r.queued ≡ false) l x k q
line_start queued n l x q u z k = subst (λ (y : List Run). InLine queued (y ++ x ∷ [])) (sym (z u)) (q, tt)
line_start parallel n l x q u z k = each_end (λ r. r.queued ≡ false) l x k q

-- a run is queued behind them
pub line_join : (m : Mode) (n : ℕ) (l : List Run) (x : Run) → x.queued ≡ true → Suits wait_in_line m n → (l ≡ [] → n ≡ 0)
    → InLine m l → InLine m (l ++ x ∷ [])
line_join single n l x q u z k = absurd u
line_join Mode.restart n l x q u z k = absurd u
line_join queued n [] x q u z k = absurd (omega (arith, z refl))
line_join queued n (y ∷ l) x q u z k = (k.0, each_end (λ r. r.queued ≡ true) l x k.1 q)
line_join parallel n l x q u z k = absurd u
