-- The definition's loops over gaps, inputs and depths are walks, one step after another.
use Prim.Native.Nat.{ℕ, zero, suc, ◌+◌, ◌*◌, ◌/◌, ◌%◌, ◌<◌}
use mathlib.Core.Path.{◌≡◌, refl, sym, ap, ◌∙◌}
use mathlib.Core.Bool.{Bool, true, false}
use mathlib.Core.List.{List, [], ◌∷◌, ◌++◌}
use native.Mathlib.Omega.{arith}
use native.Mathlib.Nat.{zero-mul, suc-mul, add-div_left, add-mod_left, div-eq_of_lt, mod-eq_of_lt}
use lib.Dec.{ltb}
use lib.ListN.{length, get_or}
use borrow.Author.Tests.{le-ltb}
use Rattle.model_spec.specs.Answer.{Answer, answer, refused, ◌>>=◌}
use Rattle.model_spec.specs.Model.{Input, Event, Model}
use Rattle.engine_spec.specs.Records.{Areas}
use Rattle.engine_spec.proofs.Lists.{Case, is_true, is_false, case}
use Rattle.checker_spec.specs.Verify.{Search, last_at, unless_stopped, each_input, each_gap, visit, deepen}
use Rattle.search.specs.Meaning.{cells_of, walked, guarded, next_event, step}

abbrev Steps : Type 0
Steps = ℕ → Search → Answer Search

-- ---- walks

pub bind_assoc : (x : Answer Search) (g h : Search → Answer Search) → ((x >>= g) >>= h) ≡ (x >>= λ s. g s >>= h)
unfolding ◌>>=◌
bind_assoc (answer s) g h = refl
bind_assoc (refused n) g h = refl

bind_same : (x : Answer Search) (g h : Search → Answer Search) → ((s : Search) → g s ≡ h s) → (x >>= g) ≡ (x >>= h)
unfolding ◌>>=◌
bind_same (answer s) g h e = e s
bind_same (refused n) g h e = refl

bind_none : (x : Answer Search) → (x >>= answer) ≡ x
unfolding ◌>>=◌
bind_none (answer s) = refl
bind_none (refused n) = refl

-- the same steps, the same walk
pub walk_same : (g h : Steps) (k : ℕ) → ((j : ℕ) → j < k → (s : Search) → g j s ≡ h j s) → (s : Search)
    → walked g k s ≡ walked h k s
unfolding walked
walk_same g h zero e s = refl
walk_same g h (suc k) e s =
    ap (λ (x : Answer Search). x >>= g k) (walk_same g h k (λ j o. e j (omega arith)) s)
    ∙ bind_same (walked h k s) (g k) (h k) (e k (omega arith))

-- a walk in two parts
walk_split : (g : Steps) (a b : ℕ) (s : Search) → walked g (a + b) s ≡ (walked g a s >>= walked (λ j. g (a + j)) b)
unfolding walked
walk_split g a zero s =
    let e : a + 0 ≡ a = omega arith in
    ap (λ (n : ℕ). walked g n s) e ∙ sym (bind_none (walked g a s))
walk_split g a (suc b) s =
    let e : a + suc b ≡ suc (a + b) = omega arith in
    ap (λ (n : ℕ). walked g n s) e
    ∙ ap (λ (x : Answer Search). x >>= g (a + b)) (walk_split g a b s)
    ∙ bind_assoc (walked g a s) (walked (λ j. g (a + j)) b) (g (a + b))

-- its first step, and the others
walk_one : (g : Steps) (s : Search) → walked g 1 s ≡ g 0 s
unfolding walked ◌>>=◌
walk_one g s = refl

walk_first : (g : Steps) (k : ℕ) (s : Search) → walked g (suc k) s ≡ (g 0 s >>= walked (λ j. g (suc j)) k)
walk_first g k s =
    let e : suc k ≡ 1 + k = omega arith in
    ap (λ (n : ℕ). walked g n s) e
    ∙ walk_split g 1 k s
    ∙ ap (λ (x : Answer Search). x >>= walked (λ j. g (1 + j)) k) (walk_one g s)
    ∙ bind_same (g 0 s) (walked (λ j. g (1 + j)) k) (walked (λ j. g (suc j)) k)
    (walk_same (λ j. g (1 + j)) (λ j. g (suc j)) k (λ j o z. let i : 1 + j ≡ suc j = omega arith in ap (λ (n : ℕ). g n z) i))

-- ---- the last second

pub last_end : (vs : List Event) (e : Event) → last_at (vs ++ e ∷ []) ≡ e.at
unfolding last_at
last_end [] e = refl
last_end (v ∷ []) e = refl
last_end (v ∷ w ∷ vs) e = last_end (w ∷ vs) e

-- ---- inputs, gaps, depths

module _ (areas : Areas) (m : Model) where
  abbrev horizon : ℕ
  horizon = m.scenario.limits.horizon

  pub guarded_late : (n : ℕ) (vs : List Event) (s : Search) → ltb horizon (last_at vs) ≡ true
      → guarded areas m n vs s ≡ answer s
  unfolding guarded
  guarded_late n vs s h = by s.stopped h
    where
      by : (b : Bool) → ltb horizon (last_at vs) ≡ true →
          (elim b [
            | true ↦ answer s
            | false ↦ elim
                (ltb horizon (last_at vs)) [ true ↦ answer s | false ↦ visit areas m (cells_of m) n vs s ]
          ]) ≡ answer s
      by true h = refl
      by false h = rw h

  pub guarded_stopped : (n : ℕ) (vs : List Event) (s : Search) → s.stopped ≡ true → guarded areas m n vs s ≡ answer s
  unfolding guarded
  guarded_stopped n vs s h = by s.stopped h
    where
      by : (b : Bool) → b ≡ true →
          ◌≡◌ {A = Answer Search}
          (elim b [
            | true ↦ answer s
            | false ↦ elim
                (ltb horizon (last_at vs)) [ true ↦ answer s | false ↦ visit areas m (cells_of m) n vs s ]
          ])
          (answer s)
      by b h = rw h

  pub guarded_in : (n : ℕ) (vs : List Event) (s : Search) → ltb horizon (last_at vs) ≡ false →
      guarded areas m n vs s ≡ unless_stopped (visit areas m (cells_of m) n vs) s
  unfolding guarded unless_stopped
  guarded_in n vs s h = by s.stopped h
    where
      by : (b : Bool) → ltb horizon (last_at vs) ≡ false →
          ◌≡◌ {A = Answer Search}
          (elim b [
            | true ↦ answer s
            | false ↦ elim
                (ltb horizon (last_at vs)) [ true ↦ answer s | false ↦ visit areas m (cells_of m) n vs s ]
          ])
          (elim b [ true ↦ answer s | false ↦ visit areas m (cells_of m) n vs s ])
      by true h = refl
      by false h = rw h

  abbrev event : (at : ℕ) → List Input → (j : ℕ) → Event
  event at is j = record { at = at; input = get_or is j Input.restart }

  -- the inputs at one second
  module _ (n : ℕ) (vs : List Event) (at : ℕ) where
    abbrev go : List Input → Steps
    go is j = guarded areas m n (vs ++ event at is j ∷ [])

    late : (is : List Input) (k : ℕ) (s : Search) → ltb horizon at ≡ true → walked (go is) k s ≡ answer s
    unfolding walked ◌>>=◌
    late is zero s h = refl
    late is (suc k) s h =
        ap (λ (x : Answer Search). x >>= go is k) (late is k s h)
        ∙ guarded_late n (vs ++ event at is k ∷ []) s (ap (ltb horizon) (last_end vs (event at is k)) ∙ h)

    in_time : (is : List Input) (s : Search) → ltb horizon at ≡ false →
        each_input (visit areas m (cells_of m) n) vs at is s ≡ walked (go is) (length is) s
    unfolding each_input walked
    in_time [] s h = refl
    in_time (i ∷ is) s h =
        bind_two (unless_stopped (visit areas m (cells_of m) n (vs ++ event at (i ∷ is) 0 ∷ [])) s) (go (i ∷ is) 0 s)
        (each_input (visit areas m (cells_of m) n) vs at is) (walked (go is) (length is))
        (sym (guarded_in n (vs ++ event at (i ∷ is) 0 ∷ []) s (ap (ltb horizon) (last_end vs (event at (i ∷ is) 0)) ∙ h)))
        (λ z. in_time is z h)
        ∙ sym (walk_first (go (i ∷ is)) (length is) s)
      where
        bind_two : (x y : Answer Search) (g h : Search → Answer Search) → x ≡ y → ((s : Search) → g s ≡ h s)
            → (x >>= g) ≡ (y >>= h)
        bind_two x y g h e f = ap (λ (z : Answer Search). z >>= g) e ∙ bind_same y g h f

    inputs_walk : (is : List Input) (s : Search) →
        (elim (ltb horizon at) [ true ↦ answer s | false ↦ each_input (visit areas m (cells_of m) n) vs at is s ])
        ≡ walked (go is) (length is) s
    inputs_walk is s = by (case (ltb horizon at))
      where
        by : Case (ltb horizon at) →
            (elim (ltb horizon at) [ true ↦ answer s | false ↦ each_input (visit areas m (cells_of m) n) vs at is s ])
            ≡ walked (go is) (length is) s
        by (is_true h) = rw h (sym (late is (length is) s h))
        by (is_false h) = rw h (in_time is s h)

  -- all gaps: as many steps as there are pairs
  module _ (n : ℕ) (vs : List Event) (is : List Input) (some : 0 < length is) where
    abbrev paired : List ℕ → Steps
    paired gs k = guarded areas m n (vs ++ event (last_at vs + get_or gs (k / length is) 0) is (k % length is) ∷ [])

    first_gap : (g : ℕ) (gs : List ℕ) (j : ℕ) → j < length is → (s : Search) →
        go n vs (last_at vs + g) is j s ≡ paired (g ∷ gs) j s
    first_gap g gs j h s = rw (div-eq_of_lt h, mod-eq_of_lt h)

    next_gap : (g : ℕ) (gs : List ℕ) (j : ℕ) (s : Search) → paired (g ∷ gs) (length is + j) s ≡ paired gs j s
    next_gap g gs j s =
        let d : (length is + j) / length is ≡ suc (j / length is) = add-div_left j some ∙ omega arith in
        rw (d, add-mod_left (length is) j)

    gaps_walk : (gs : List ℕ) (s : Search) →
        each_gap (visit areas m (cells_of m) n) vs horizon is gs s ≡ walked (paired gs) (length gs * length is) s
    unfolding each_gap walked
    gaps_walk [] s = let e : 0 * length is ≡ 0 = zero-mul (length is) in sym (ap (λ (k : ℕ). walked (paired []) k s) e)
    gaps_walk (g ∷ gs) s =
        let e : suc (length gs) * length is
        ≡ length is + length gs * length is = omega (arith, suc-mul (length gs) (length is)) in
        ap (λ (x : Answer Search). x >>= each_gap (visit areas m (cells_of m) n) vs horizon is gs)
        (inputs_walk n vs (last_at vs + g) is s)
        ∙ bind_same (walked (go n vs (last_at vs + g) is) (length is) s)
        (each_gap (visit areas m (cells_of m) n) vs horizon is gs)
        (walked (λ j. paired (g ∷ gs) (length is + j)) (length gs * length is))
        (λ z. gaps_walk gs z ∙ sym (walk_same (λ j. paired (g ∷ gs) (length is + j)) (paired gs) (length gs * length is)
        (λ j o y. next_gap g gs j y) z))
        ∙ ap (λ (x : Answer Search). x >>= walked (λ j. paired (g ∷ gs) (length is + j)) (length gs * length is))
        (walk_same (go n vs (last_at vs + g) is) (paired (g ∷ gs)) (length is) (λ j o y. first_gap g gs j o y) s)
        ∙ sym (walk_split (paired (g ∷ gs)) (length is) (length gs * length is) s)
        ∙ sym (ap (λ (k : ℕ). walked (paired (g ∷ gs)) k s) e)

  -- no input: nothing to do
  no_inputs : (n : ℕ) (vs : List Event) (gs : List ℕ) (s : Search) →
      each_gap (visit areas m (cells_of m) n) vs horizon [] gs s ≡ answer s
  unfolding each_gap each_input ◌>>=◌
  no_inputs n vs [] s = refl
  no_inputs n vs (g ∷ gs) s = by (ltb horizon (last_at vs + g)) (no_inputs n vs gs s)
    where
      by : (b : Bool) → each_gap (visit areas m (cells_of m) n) vs horizon [] gs s ≡ answer s →
          ((elim b [ true ↦ answer s | false ↦ answer s ]) >>= each_gap (visit areas m (cells_of m) n) vs horizon [] gs)
          ≡ answer s
      by true h = h
      by false h = h

  pub visit_walk : (n : ℕ) (vs : List Event) (s : Search) →
      visit areas m (cells_of m) (suc n) vs s
      ≡ walked (step areas m n vs) (length m.scenario.gaps * length m.scenario.alphabet) s
  unfolding visit step next_event
  visit_walk n vs s = by m.scenario.alphabet refl
    where
      by : (is : List Input) → m.scenario.alphabet ≡ is →
          each_gap (visit areas m (cells_of m) n) vs horizon m.scenario.alphabet m.scenario.gaps s
          ≡ walked (step areas m n vs) (length m.scenario.gaps * length m.scenario.alphabet) s
      by [] e =
          let z : length m.scenario.gaps * length m.scenario.alphabet
          ≡ 0 = ap (λ (l : List Input). length m.scenario.gaps * length l) e ∙ omega arith in
          ap (λ (l : List Input). each_gap (visit areas m (cells_of m) n) vs horizon l m.scenario.gaps s) e
          ∙ no_inputs n vs m.scenario.gaps s
          ∙ sym (ap (λ (k : ℕ). walked (step areas m n vs) k s) z ∙ unfold walked in refl)
      by (i ∷ is) e = gaps_walk n vs m.scenario.alphabet (rw e (omega arith)) m.scenario.gaps s

  pub deepen_walk : (k d : ℕ) (s : Search) →
      deepen areas m (cells_of m) k d s ≡ walked (λ j. guarded areas m (d + j) []) k s
  unfolding deepen walked last_at
  deepen_walk zero d s = refl
  deepen_walk (suc k) d s =
      let z : d + 0 ≡ d = omega arith in
      let g : Steps = λ j. guarded areas m (d + j) [] in
      ap (λ (x : Answer Search). x >>= deepen areas m (cells_of m) k (d + 1))
      (sym (ap (λ (i : ℕ). guarded areas m i [] s) z ∙ guarded_in d [] s (le-ltb horizon 0 (omega arith))))
      ∙ bind_same (g 0 s) (deepen areas m (cells_of m) k (d + 1)) (walked (λ j. g (suc j)) k)
      (λ y. deepen_walk k (d + 1) y ∙ walk_same (λ j. guarded areas m (d + 1 + j) []) (λ j. g (suc j)) k
      (λ j o x. ap (λ (i : ℕ). guarded areas m i [] x) (omega arith)) y)
      ∙ sym (walk_first g k s)
