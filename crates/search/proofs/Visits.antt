-- Visits of the code's search are the definition's: the events placed, the walk over the pairs, the depths.
use Prim.Native.Nat.{ℕ, suc, ◌+◌, ◌-◌, ◌*◌, ◌/◌, ◌%◌, ◌≤◌, ◌<◌}
use mathlib.Core.Path.{◌≡◌, refl, sym, ap, subst, ◌∙◌}
use mathlib.Core.Bool.{true, false}
use mathlib.Core.List.{List, [], ◌∷◌, ◌++◌}
use native.Mathlib.Omega.{arith}
use native.Mathlib.Decide.{dec_lt}
use native.Mathlib.Numerals.{add-one}
use lib.Dec.{ltb}
use lib.ListN.{length, get_or, replicate, length-append, get_or-append}
use lib.Seq.{get_or-append-add}
use borrow.Author.Tests.{lt-ltb, le-ltb, ne_eqb}
use Rattle.texts.specs.Texts.{Text}
use Rattle.areas.specs.Areas.{area, written}
use Rattle.areas.proofs.Laws as areas
use Rattle.model_spec.specs.Answer.{Answer, answer, refused, ◌>>=◌}
use Rattle.model_spec.specs.Model.{Input, reload, Event, Model}
use Rattle.engine_spec.specs.Records.{Areas}
use Rattle.engine_fields.specs.Fields.{cap}
use Rattle.engine_refinement.proofs.Numbers.{cap_is}
use Rattle.checker_spec.specs.Verify as verify
use Rattle.checker_spec.specs.Verify.{last_at, unless_stopped}
use Rattle.search_inputs.specs.declared.Placed.{Placed}
use Rattle.model_spec.specs.Events.{input_words, event_words}
use Rattle.model_spec.proofs.Events.{input_size, event_size}
use Rattle.search_inputs.specs.GapWords.{gap_words}
use Rattle.search_inputs.specs.Inputs.{last_m, placing}
use Rattle.search_inputs.proofs.Refines.{gap_size}
use Rattle.search_cases.specs.declared.Search.{Search}
use Rattle.search_cases.specs.Promises.{next_at, Nexts}
use Rattle.search.specs.Meaning.{
  none_such,
  cells_of,
  sizes,
  Entire,
  Setting,
  Chosen,
  PlacedAs,
  Held,
  Refused,
  Outcome,
  walked,
  guarded,
  next_event,
  step,
}
use Rattle.search.specs.Promises.{Tries, Visits, Walks, Depths, Deepens}
use Rattle.search_cases.proofs.Laws.{gap_below, input_below}
use Rattle.search.proofs.Walk.{walk_same, guarded_late, guarded_stopped, guarded_in, visit_walk, deepen_walk}

-- ---- the events placed

last_nth : (v : Event) (vs : List Event) (d : Event) → last_at (v ∷ vs) ≡ (get_or (v ∷ vs) (length vs) d).at
unfolding last_at
last_nth v [] d = refl
last_nth v (w ∷ vs) d = last_nth w vs d

three_words : (ts : List Text) (i : Input) →
    get_or (input_words ts i) 0 0 ∷ get_or (input_words ts i) 1 0 ∷ get_or (input_words ts i) 2 0 ∷ [] ≡ input_words ts i
unfolding input_words
three_words ts (Input.set a b) = refl
three_words ts Input.restart = refl
three_words ts reload = refl

pub none_placed : (ts : List Text) (m : Model) → PlacedAs ts m [] (record { count = 0; words = replicate 20 0 })
none_placed ts m = record {
  count = refl;
  words = sym (areas.area_none (event_words ts) 20);
  chosen = λ j h. absurd (omega arith);
}

module _ {f : List ℕ} {p : Entire} {q a u : ℕ} (x : Setting f p q a u) where
  abbrev m : Model
  m = x.m

  abbrev ts : List Text
  ts = x.indexed.ts

  abbrev is : List Input
  is = m.scenario.alphabet

  abbrev gs : List ℕ
  gs = m.scenario.gaps

  last_is : (vs : List Event) (placed : Placed) → PlacedAs ts m vs placed → last_m placed ≡ last_at vs
  unfolding last_m last_at event_words
  last_is [] placed ps = rw ps.count
  last_is (v ∷ vs) placed ps =
      let n : placed.count ≡ suc (length vs) = ps.count in
      let k : (placed.count - 1) * 4 ≡ length vs * 4 + 0 = omega arith in
      rw (ne_eqb placed.count 0 (λ z. absurd (omega arith)))
      (ap (get_or placed.words _) refl ∙ ap (λ (i : ℕ). get_or placed.words i 0) k
      ∙ ap (λ (l : List ℕ). get_or l (length vs * 4 + 0) 0) ps.words
      ∙ areas.word_is (event_words ts) 4 (event_size ts) 20 (v ∷ vs) (length vs) 0 none_such (omega arith) (omega arith)
      ∙ sym (last_nth v vs none_such))

  module _ (vs : List Event) (placed : Placed) (ps : PlacedAs ts m vs placed) (room : placed.count < 5) (k : ℕ)
      (h : k < p.gaps.count * p.alphabet.count) (soon : last_m placed ≤ p.horizon) where
    pairs : k < length gs * length is
    pairs = subst (λ (n : ℕ). k < n * length is) x.gaps (subst (λ (n : ℕ). k < p.gaps.count * n) x.inputs h)

    at_gap : k / length is < length gs
    at_gap = gap_below k (length gs) (length is) pairs

    at_input : k % length is < length is
    at_input = input_below k (length gs) (length is) pairs

    gap_is : get_or p.gaps.seconds (k / length is) 0 ≡ get_or gs (k / length is) 0
    unfolding gap_words
    gap_is =
        let e : k / length is ≡ k / length is * 1 + 0 = omega arith in
        ap (λ (l : List ℕ). get_or l (k / length is) 0) x.seconds
        ∙ ap (λ (n : ℕ). get_or (area gap_words 4 gs) n 0) e
        ∙ areas.word_is gap_words 1 gap_size 4 gs (k / length is) 0 0 at_gap (omega arith)

    second_is : next_at p.gaps p.alphabet placed k ≡ (next_event (sizes q a u) m vs k).at
    unfolding next_at next_event
    second_is =
        let e = last_is vs placed ps in
        let l : last_m placed + get_or gs (k / length is) 0 ≤ 4294967295 = omega
        (arith, soon, x.horizon, x.day_long, x.short (k / length is) at_gap) in
        ap (λ (n : ℕ). cap (last_m placed + get_or p.gaps.seconds (k / n) 0)) x.inputs
        ∙ ap (λ (n : ℕ). cap (last_m placed + n)) gap_is
        ∙ cap_is (last_m placed + get_or gs (k / length is) 0) l
        ∙ ap (λ (n : ℕ). n + get_or gs (k / length is) 0) e

    input_word_is : (j i : ℕ) → j < length is → i < 3
        → get_or p.alphabet.words (j * 3 + i) 0 ≡ get_or (input_words ts (get_or is j Input.restart)) i 0
    input_word_is j i g o =
        ap (λ (l : List ℕ). get_or l (j * 3 + i) 0) x.words
        ∙ areas.word_is (input_words ts) 3 (input_size ts) 36 is j i Input.restart g o

    placing_is : placing (next_at p.gaps p.alphabet placed k) p.alphabet (k % p.alphabet.count)
        ≡ event_words ts (next_event (sizes q a u) m vs k)
    unfolding placing event_words next_event
    placing_is =
        let j = k % length is in
        let z : j * 3 ≡ j * 3 + 0 = omega arith in
        let w : (i : ℕ) → i < 3 → get_or p.alphabet.words (j * 3 + i) 0
        ≡ get_or (input_words ts (get_or is j Input.restart)) i 0 = λ i o. input_word_is j i at_input o in
        ap (λ (n : ℕ). placing (next_at p.gaps p.alphabet placed k) p.alphabet (k % n)) x.inputs
        ∙ ap (λ (n : ℕ). n ∷ get_or p.alphabet.words (j * 3) 0 ∷ get_or p.alphabet.words (j * 3 + 1) 0
        ∷ get_or p.alphabet.words (j * 3 + 2) 0 ∷ []) second_is
        ∙ ap (λ (n : ℕ). (next_event (sizes q a u) m vs k).at ∷ n ∷ get_or p.alphabet.words (j * 3 + 1) 0
        ∷ get_or p.alphabet.words (j * 3 + 2) 0 ∷ []) (ap (λ (n : ℕ). get_or p.alphabet.words n 0) z ∙ w 0 (omega arith))
        ∙ ap (λ (n : ℕ). (next_event (sizes q a u) m vs k).at ∷ get_or (input_words ts (get_or is j Input.restart)) 0 0 ∷ n
        ∷ get_or p.alphabet.words (j * 3 + 2) 0 ∷ []) (w 1 (omega arith))
        ∙ ap (λ (n : ℕ). (next_event (sizes q a u) m vs k).at ∷ get_or (input_words ts (get_or is j Input.restart)) 0 0
        ∷ get_or (input_words ts (get_or is j Input.restart)) 1 0 ∷ n ∷ []) (w 2 (omega arith))
        ∙ ap (λ (l : List ℕ). (next_event (sizes q a u) m vs k).at ∷ l) (three_words ts (get_or is j Input.restart))

    abbrev more : List Event
    more = vs ++ next_event (sizes q a u) m vs k ∷ []

    chosen_next : (j : ℕ) → j < length more → Chosen is (get_or more j none_such).input
    unfolding next_event
    chosen_next j o = elim (dec_lt j (length vs)) [
      | yes l ↦ subst (λ (e : Event). Chosen is e.input)
          (sym (get_or-append vs (next_event (sizes q a u) m vs k ∷ []) none_such j l)) (ps.chosen j l)
      | no l ↦
          let n = length-append vs (next_event (sizes q a u) m vs k ∷ []) in
          let e : length vs + 0 ≡ j = omega (arith, o, n, l) in
          subst (λ (i : ℕ). Chosen is (get_or more i none_such).input) e
          (subst (λ (y : Event). Chosen is y.input)
          (sym (get_or-append-add vs (next_event (sizes q a u) m vs k ∷ []) 0 none_such))
          (record { place = k % length is; inside = at_input; is = refl }))
    ]

    pub placed_next : (next : Placed) → Nexts p.gaps p.alphabet placed k next → PlacedAs ts m more next
    placed_next next g = record {
      count = g.count ∙ omega (arith, ps.count, length-append vs (next_event (sizes q a u) m vs k ∷ []));
      words =
          g.words
          ∙ ap (λ (l : List ℕ). written l (placed.count * 4)
          (placing (next_at p.gaps p.alphabet placed k) p.alphabet (k % p.alphabet.count))) ps.words
          ∙ ap (λ (l : List ℕ). written (area (event_words ts) 20 vs) (placed.count * 4) l) placing_is
          ∙ areas.push_is (event_words ts) 4 (event_size ts) 20 vs (next_event (sizes q a u) m vs k) placed.count
          (sym ps.count) (omega arith);
      chosen = chosen_next;
    }

  -- ---- a visit that does nothing, and one that is a case

  module _ (n : ℕ) (vs : List Event) (s : verify.Search) {o : Search} {w : List ℕ} (h : Held x s o w) where
    abbrev visited : Answer verify.Search
    visited = guarded (sizes q a u) m n vs s

    pub stopped_does : o.stopped ≡ true → Outcome x visited o w
    stopped_does e =
        subst (λ (y : Answer verify.Search). Outcome x y o w)
        (sym (guarded_stopped (sizes q a u) m n vs s (sym h.stopped ∙ e))) h

    going : o.stopped ≡ false → s.stopped ≡ false
    going e = sym h.stopped ∙ e

    pub late_does : (placed : Placed) → PlacedAs ts m vs placed → o.stopped ≡ false → p.horizon < last_m placed
        → Outcome x visited o w
    late_does placed ps e l =
        let g : ltb m.scenario.limits.horizon (last_at vs)
        ≡ true = lt-ltb m.scenario.limits.horizon (last_at vs) (omega (arith, l, x.horizon, last_is vs placed ps)) in
        subst (λ (y : Answer verify.Search). Outcome x y o w) (sym (guarded_late (sizes q a u) m n vs s g)) h

    in_time : (placed : Placed) → PlacedAs ts m vs placed → o.stopped ≡ false → last_m placed ≤ p.horizon →
        visited ≡ verify.visit (sizes q a u) m (cells_of m) n vs s
    unfolding unless_stopped
    in_time placed ps e l =
        let z = going e in
        guarded_in (sizes q a u) m n vs s (le-ltb m.scenario.limits.horizon (last_at vs)
        (omega (arith, l, x.horizon, last_is vs placed ps)))
        ∙ rw z

visit_none : (areas : Areas) (m : Model) (vs : List Event) (s : verify.Search) →
    verify.visit areas m (cells_of m) 0 vs s ≡ verify.try_case areas m (cells_of m) vs s
unfolding verify.visit
visit_none areas m vs s = refl

never : {A : Type 0} (o : Search) → o.stopped ≡ false → o.stopped ≡ true → A
never o e g = let z : true ≡ false = sym g ∙ e in let y : ◌≡◌ {A = ℕ} 0 1 = cc in absurd (omega arith)

module _ {f : List ℕ} {p : Entire} where
  pub stays_so : {n : ℕ} {placed : Placed} {o : Search} {w : List ℕ} {q a u : ℕ} → o.stopped ≡ true
      → Visits f p n placed o w o w q a u
  stays_so {n} {placed} {o} e = record {
    stays = λ y. (refl, refl);
    does = λ x vs ps s h. stopped_does x n vs s h e;
  }

  pub late_so : {n : ℕ} {placed : Placed} {o : Search} {w : List ℕ} {q a u : ℕ} → o.stopped ≡ false
      → p.horizon < last_m placed → Visits f p n placed o w o w q a u
  late_so {n} {placed} {o} e l = record {
    stays = λ y. (refl, refl);
    does = λ x vs ps s h. late_does x n vs s h placed ps e l;
  }

  pub case_so : {n : ℕ} {placed : Placed} {o : Search} {w : List ℕ} {r : Search} {w' : List ℕ} {q a u : ℕ}
      → o.stopped ≡ false → last_m placed ≤ p.horizon → n ≡ 0 →
      Tries f p placed o w r w' q a u → Visits f p n placed o w r w' q a u
  case_so {n} {placed} {o} {w} {r} {w'} {q} {a} {u} e l z t = record {
    stays = λ y. never o e y;
    does = λ x vs ps s h. subst (λ (y : Answer verify.Search). Outcome x y r w')
        (sym (in_time x n vs s h placed ps e l
        ∙ ap (λ (i : ℕ). verify.visit (sizes q a u) x.m (cells_of x.m) i vs s) z
        ∙ visit_none (sizes q a u) x.m vs s)) (t.does x vs ps s h);
  }

  -- ---- the walk

  pub walk_start : {n : ℕ} {placed : Placed} {o : Search} {w : List ℕ} {q a u : ℕ} → Walks f p n placed o w 0 o w q a u
  unfolding walked
  walk_start = record { does = λ x vs ps s h. h }

  module _ {n : ℕ} {placed : Placed} {o : Search} {w : List ℕ} {k : ℕ} {t : Search} {w₁ : List ℕ} {q a u : ℕ} where
    pub walk_next : k < p.gaps.count * p.alphabet.count → last_m placed ≤ p.horizon → placed.count < 5
        → {next : Placed} → Nexts p.gaps p.alphabet placed k next →
        Walks f p n placed o w k t w₁ q a u → {r : Search} {w₂ : List ℕ} {q' a' u' : ℕ} → q' ≡ q → a' ≡ a → u' ≡ u →
        Visits f p n next t w₁ r w₂ q' a' u' → Walks f p n placed o w (k + 1) r w₂ q a u
    unfolding walked step ◌>>=◌
    walk_next less soon room {next} g walks {r} {w₂} {q'} {a'} {u'} eq ea eu v₀ = record {
      does = λ x vs ps s h.
          subst (λ (i : ℕ). Outcome x (walked (step (sizes q a u) x.m n vs) i s) r w₂) (sym (add-one k))
          (by x vs ps (walked (step (sizes q a u) x.m n vs) k s) (walks.does x vs ps s h));
    }
      where
        v : Visits f p n next t w₁ r w₂ q a u
        v = subst (λ (i : ℕ). Visits f p n next t w₁ r w₂ i a u) eq
            (subst (λ (i : ℕ). Visits f p n next t w₁ r w₂ q' i u) ea
            (subst (λ (i : ℕ). Visits f p n next t w₁ r w₂ q' a' i) eu v₀))

        by : (x : Setting f p q a u) (vs : List Event) → PlacedAs x.indexed.ts x.m vs placed
            → (y : Answer verify.Search) →
            Outcome x y t w₁ → Outcome x (y >>= step (sizes q a u) x.m n vs k) r w₂
        by x vs ps (answer z) held = v.does x (vs ++ next_event (sizes q a u) x.m vs k ∷ [])
            (placed_next x vs placed ps room k less soon next g) z held
        by x vs ps (refused j) y = subst (Refused x j) (sym (v.stays y.stopped).0) y

    pub walk_end : (l : ℕ) → (l ≡ 0 → ⊥) → n ≡ l - 1 → o.stopped ≡ false → last_m placed ≤ p.horizon
        → p.gaps.count * p.alphabet.count ≤ k → k ≤ p.gaps.count * p.alphabet.count →
        Walks f p n placed o w k t w₁ q a u → Visits f p l placed o w t w₁ q a u
    walk_end l some e open-so soon low high walks = record {
      stays = λ y. never o open-so y;
      does = λ x vs ps s h.
          let more : l ≡ suc n = omega arith in
          let all : length x.m.scenario.gaps * length x.m.scenario.alphabet
          ≡ k = sym (ap (λ (i : ℕ). p.gaps.count * i) x.inputs
          ∙ ap (λ (i : ℕ). i * length x.m.scenario.alphabet) x.gaps) ∙ omega (arith, low, high) in
          subst (λ (y : Answer verify.Search). Outcome x y t w₁)
          (sym (in_time x l vs s h placed ps open-so soon
          ∙ ap (λ (i : ℕ). verify.visit (sizes q a u) x.m (cells_of x.m) i vs s) more
          ∙ visit_walk (sizes q a u) x.m n vs s
          ∙ ap (λ (i : ℕ). walked (step (sizes q a u) x.m n vs) i s) all))
          (walks.does x vs ps s h);
    }

  -- ---- the depths

  pub depth_start : {o : Search} {w : List ℕ} {q a u : ℕ} → Depths f p 0 o w o w q a u
  unfolding walked
  depth_start = record { does = λ x s h. h }

  module _ {d : ℕ} {o : Search} {w : List ℕ} {t : Search} {w₁ : List ℕ} {q a u : ℕ} where
    pub depth_next : Depths f p d o w t w₁ q a u → {r : Search} {w₂ : List ℕ} {q' a' u' : ℕ} → q' ≡ q → a' ≡ a → u' ≡ u →
        Visits f p d (record { count = 0; words = replicate 20 0 }) t w₁ r w₂ q' a' u' → Depths f p (d + 1) o w r w₂ q a u
    unfolding walked ◌>>=◌
    depth_next depths {r} {w₂} {q'} {a'} {u'} eq ea eu v₀ = record {
      does = λ x s h.
          subst (λ (i : ℕ). Outcome x (walked (λ d. guarded (sizes q a u) x.m d []) i s) r w₂) (sym (add-one d))
          (by x (walked (λ d. guarded (sizes q a u) x.m d []) d s) (depths.does x s h));
    }
      where
        v : Visits f p d (record { count = 0; words = replicate 20 0 }) t w₁ r w₂ q a u
        v = subst (λ (i : ℕ). Visits f p d (record { count = 0; words = replicate 20 0 }) t w₁ r w₂ i a u) eq
            (subst (λ (i : ℕ). Visits f p d (record { count = 0; words = replicate 20 0 }) t w₁ r w₂ q' i u) ea
            (subst (λ (i : ℕ). Visits f p d (record { count = 0; words = replicate 20 0 }) t w₁ r w₂ q' a' i) eu v₀))

        by : (x : Setting f p q a u) (y : Answer verify.Search) → Outcome x y t w₁
            → Outcome x (y >>= guarded (sizes q a u) x.m d []) r w₂
        by x (answer z) held = v.does x [] (none_placed x.indexed.ts x.m) z held
        by x (refused j) y = subst (Refused x j) (sym (v.stays y.stopped).0) y

    pub depth_end : (depth : ℕ) → depth < d → d ≤ depth + 1 → Depths f p d o w t w₁ q a u → Deepens f p depth o w t w₁ q a u
    depth_end depth low high depths = record {
      does = λ x s h.
          let e : d ≡ suc depth = omega arith in
          subst (λ (y : Answer verify.Search). Outcome x y t w₁)
          (ap (λ (i : ℕ). walked (λ d. guarded (sizes q a u) x.m d []) i s) e
          ∙ walk_same (λ d. guarded (sizes q a u) x.m d []) (λ j. guarded (sizes q a u) x.m (0 + j) [])
          (suc depth) (λ j l y. let z : j ≡ 0 + j = omega arith in ap (λ (i : ℕ). guarded (sizes q a u) x.m i [] y) z) s
          ∙ sym (deepen_walk (sizes q a u) x.m (suc depth) 0 s))
          (depths.does x s h);
    }
