-- A run's places stand at lists of actions: a step takes the first action off the topmost list, a choice puts a list on top.
-- There are never more than 17: the j-th list was accepted at a depth of at least j.
use mathlib.Core.Path.{◌≡◌, refl, sym, ap, ◌∙◌, subst}
use mathlib.Core.List.{List}
use Prim.Native.Nat.{ℕ, zero, suc, ◌+◌, ◌-◌, ◌*◌, ◌/◌, ◌%◌, ◌≤◌, ◌<◌}
use native.Mathlib.Omega.{arith}
use native.Mathlib.Decide.{dec_lt}
use lib.ListN.{length, get_or, set, length-set}
use lib.Seq.{get_or-set_same, get_or-set_other}
use borrow.Author.Tests.{le-ltb, ne_eqb}
use Rattle.texts.specs.Texts.{Text}
use Rattle.model_spec.specs.Model.{Source, Entity, Effect, Actions, done, act, Model}
use Rattle.model_spec.specs.File.{got, Reader, u16, actions_of, actions}
use Rattle.model_walk.proofs.Found.{bound, given, u16_wide}
use Rattle.runs.specs.Runs.{place_word, place_in}
use Rattle.runs.specs.declared.Run.{Run}
use Rattle.runs.specs.declared.Place.{Place}
use Rattle.engine_spec.specs.Engine.{◌then◌}
use Rattle.engine_fields.specs.Fields.{two, list_word}
use Rattle.engine_state.specs.Machine.{later}
use Rattle.engine_evaluate.specs.Actions.{action_m, put_places, list_m, word_m, top_m, next_m, stepped_m}
use Rattle.engine_refinement.specs.Meaning.{found_actions, list_of, actions_at, pool_of, Tabled}
use Rattle.engine_refinement.proofs.Numbers.{two_is, two_small, later_is}
use Rattle.engine_refinement.proofs.Checked.{Pass, PassE, pass_depth, pass_act}
use Rattle.engine_refinement.proofs.Effects.{Acts, First, first_is}

-- a place in a word
pub word_place : (p n : ℕ) → p ≤ 32767 → n < 65536 → place_in (list_word p n) ≡ record { position = p; left = n }
unfolding place_in list_word place_word
word_place p n h k =
    let a : (p * 65536 + n) / 65536 ≡ p = omega arith in
    let b : (p * 65536 + n) % 65536 ≡ n = omega arith in
    rw (le-ltb 32767 p h, a, b)

left_small : (w : ℕ) → (place_in w).left < 65536
unfolding place_in
left_small w = omega arith

module _ (f x : List ℕ) (ts : List Text) (mo : Model) (tb : Tabled f x ts mo) where
  abbrev es : List Entity
  es = mo.scenario.entities

  abbrev pl : List Text
  pl = pool_of mo

  abbrev inner : Reader Actions
  inner = actions ts 17

  -- actions are left at the j-th place, which is the word w
  pub record PlaceAt (j w : ℕ) : Type 0 where
    pub list : Actions
    pub end : ℕ
    pub deep : ℕ
    pub some_left : 0 < (place_in w).left
    pub reads : actions_of ts inner (place_in w).left f (place_in w).position ≡ got list end
    pub below : j ≤ deep
    pub pass : Pass es pl deep list

  pub record Places (depth : ℕ) (places : List ℕ) : Type 0 where
    pub long : length places ≡ 17
    pub low : depth ≤ 17
    pub at : (j : ℕ) → j < depth → PlaceAt j (get_or places j 0)

  same_below : (d : ℕ) (l m : List ℕ) → ((j : ℕ) → j < d → get_or l j 0 ≡ get_or m j 0) →
      actions_at x ts f d l ≡ actions_at x ts f d m
  unfolding actions_at
  same_below zero l m h = refl
  same_below (suc d) l m h =
      ap (λ (w : ℕ). list_of x ts f (place_in w) then actions_at x ts f d l) (h d (omega arith))
      ∙ ap (λ (a : Actions). list_of x ts f (place_in (get_or m d 0)) then a) (same_below d l m (λ j k. h j (omega arith)))

  set_below : (d : ℕ) (l : List ℕ) (v : ℕ) → actions_at x ts f d (set l d v) ≡ actions_at x ts f d l
  set_below d l v = same_below d (set l d v) l (λ j h. get_or-set_other l d j v 0 (λ e. absurd (omega arith)))

  at_top : (k : ℕ) (l : List ℕ) (w : ℕ) (a : Actions) (q : ℕ) → get_or l k 0 ≡ w →
      actions_of ts inner (place_in w).left f (place_in w).position ≡ got a q →
      actions_at x ts f (suc k) l ≡ (a then actions_at x ts f k l)
  unfolding actions_at list_of found_actions
  at_top k l w a q e h =
      ap (λ (b : Actions). b then actions_at x ts f k l)
      (ap (λ (v : ℕ). found_actions (actions_of ts inner (place_in v).left f (place_in v).position)) e ∙ ap found_actions h)

  -- the places below stay, and one comes on top
  put_on : (k : ℕ) (l : List ℕ) (w : ℕ) → Places k l → k ≤ 16 → PlaceAt k w → Places (suc k) (set l k w)
  put_on k l w g h p = record {
    long = length-set l k w ∙ g.long;
    low = omega arith;
    at = λ j i. elim (dec_lt j k) [
      | yes o ↦ rw (get_or-set_other l k j w 0 (λ e. absurd (omega arith))) (g.at j o)
      | no o ↦ let z : j ≡ k = omega arith in rw (z, get_or-set_same l k w 0 (omega (arith, g.long))) p
    ];
  }

  take_off : (k : ℕ) (l : List ℕ) (w : ℕ) → Places (suc k) l → Places k (set l k w)
  take_off k l w g = record {
    long = length-set l k w ∙ g.long;
    low = omega (arith, g.low);
    at = λ j i. rw (get_or-set_other l k j w 0 (λ e. absurd (omega arith))) (g.at j (omega arith));
  }

  place_at : (k p n : ℕ) (a : Actions) (q d : ℕ) → p ≤ 32767 → n < 65536 → 0 < n → actions_of ts inner n f p ≡ got a q →
      k ≤ d → Pass es pl d a → PlaceAt k (list_word p n)
  place_at k p n a q d h i s r b t =
      let z = word_place p n h i in
      record { list = a; end = q; deep = d; some_left = rw z s; reads = rw z r; below = b; pass = t }

  at_word : (k : ℕ) (l : List ℕ) (p n : ℕ) (a : Actions) (q : ℕ) → k < length l → p ≤ 32767 → n < 65536 →
      actions_of ts inner n f p ≡ got a q →
      actions_at x ts f (suc k) (set l k (list_word p n)) ≡ (a then actions_at x ts f k l)
  at_word k l p n a q o h i r =
      at_top k (set l k (list_word p n)) (list_word p n) a q (get_or-set_same l k (list_word p n) 0 o) (rw (word_place p n h i) r)
      ∙ ap (λ (b : Actions). a then b) (set_below k l (list_word p n))

  -- ---- a step

  pub record Stepped (r : Run) : Type 0 where
    pub src : Source
    pub eff : Effect
    pub rest : Actions
    pub deep : ℕ
    pub depth : ℕ
    pub places : List ℕ
    pub is : actions_at x ts f r.depth r.places ≡ act src eff rest
    pub line : (action_m f x (top_m r).position).source.line ≡ src.line
    pub column : (action_m f x (top_m r).position).source.column ≡ src.column
    pub acts : Acts f x ts mo tb (action_m f x (top_m r).position).effect eff
    pub pass : PassE es pl deep eff
    pub after : stepped_m r (action_m f x (top_m r).position).next ≡ put_places depth places r
    pub low : depth ≤ deep + 1
    pub good : Places depth places
    pub rest_is : actions_at x ts f depth places ≡ rest

  module _ (r : Run) (k : ℕ) (z : r.depth ≡ suc k) (g : Places r.depth r.places) where
    abbrev w : ℕ
    w = get_or r.places k 0

    minus : r.depth - 1 ≡ k
    minus = omega arith

    top_is : top_m r ≡ place_in w
    unfolding top_m word_m
    top_is = rw (ne_eqb r.depth 0 (λ e. absurd (omega arith)), le-ltb 17 r.depth g.low, minus)

    g' : Places (suc k) r.places
    g' = subst (λ (d : ℕ). Places d r.places) z g

    stepped_is : (next : ℕ) → stepped_m r next ≡ next_m r next (place_in w).left
    unfolding stepped_m
    stepped_is next = rw (ne_eqb r.depth 0 (λ e. absurd (omega arith)), le-ltb 17 r.depth g.low, minus)

    last_off : (next : ℕ) → (place_in w).left ≡ 1 → stepped_m r next ≡ put_places k (set r.places k 0) r
    unfolding next_m
    last_off next e = stepped_is next ∙ rw (e, minus)

    one_off : (next n : ℕ) → (place_in w).left ≡ suc (suc n) →
        stepped_m r next ≡ put_places (suc k) (set r.places k (list_word next (suc n))) r
    unfolding next_m
    one_off next n e =
        let y : suc (suc n) - 1 ≡ suc n = omega arith in
        stepped_is next ∙ rw (e, le-ltb (suc (suc n)) 2 (omega arith), minus, y, z)

    then_act : (s : Source) (e : Effect) (a b : Actions) → (act s e a then b) ≡ act s e (a then b)
    unfolding ◌then◌
    then_act s e a b = refl

    done_then : (a b : Actions) → a ≡ done → (a then b) ≡ b
    unfolding ◌then◌
    done_then a b e = rw e

    no_more : (p : ℕ) (a : Actions) (q : ℕ) → actions_of ts inner 0 f p ≡ got a q → a ≡ done
    unfolding actions_of
    no_more p a q e = sym (given _ _ _ e).0

    module _ (p : PlaceAt k w) (n : ℕ) (e : (place_in w).left ≡ suc n)
        (h : First f x ts mo tb n (place_in w).position p.list p.end) where
      abbrev low_rest : Actions
      low_rest = actions_at x ts f k r.places

      passes : PassE es pl p.deep h.eff × Pass es pl p.deep h.rest
      passes = pass_act es pl p.deep h.src h.eff h.rest (subst (Pass es pl p.deep) h.is p.pass)

      whole_is : actions_at x ts f r.depth r.places ≡ act h.src h.eff (h.rest then low_rest)
      whole_is =
          ap (λ (d : ℕ). actions_at x ts f d r.places) z
          ∙ at_top k r.places w p.list p.end refl p.reads
          ∙ ap (λ (a : Actions). a then low_rest) h.is
          ∙ then_act h.src h.eff h.rest low_rest

      -- with the depth and the places afterwards
      step_to : (depth : ℕ) (places : List ℕ) →
          stepped_m r (action_m f x (place_in w).position).next ≡ put_places depth places r → depth ≤ suc k →
          Places depth places → actions_at x ts f depth places ≡ (h.rest then low_rest) → Stepped r
      step_to depth places a l o i = record {
        src = h.src;
        eff = h.eff;
        rest = h.rest then low_rest;
        deep = p.deep;
        depth = depth;
        places = places;
        is = whole_is;
        line = ap (λ (y : Place). (action_m f x y.position).source.line) top_is ∙ h.line;
        column = ap (λ (y : Place). (action_m f x y.position).source.column) top_is ∙ h.column;
        acts = rw top_is h.acts;
        pass = passes.0;
        after = ap (λ (y : Place). stepped_m r (action_m f x y.position).next) top_is ∙ a;
        low = omega (arith, p.below);
        good = o;
        rest_is = i;
      }

      step_case : (m : ℕ) → n ≡ m → Stepped r
      step_case zero y =
          step_to k (set r.places k 0) (last_off _ (e ∙ ap suc y)) (omega arith) (take_off k r.places 0 g')
          (set_below k r.places 0
          ∙ sym (done_then h.rest low_rest (no_more h.after h.rest p.end (rw y at h.others))))
      step_case (suc m) y =
          let o : actions_of ts inner (suc m) f h.after ≡ got h.rest p.end = rw y at h.others in
          let i = (first_is f x ts mo tb m h.after h.rest p.end o).inside in
          let c : suc m < 65536 = omega (arith, y, e, small) in
          step_to (suc k) (set r.places k (list_word h.after (suc m)))
          (one_off _ m (e ∙ ap suc y) ∙ ap (λ (j : ℕ). put_places (suc k) (set r.places k (list_word j (suc m))) r)
          (h.next (omega arith)))
          (omega arith)
          (put_on k r.places (list_word h.after (suc m)) below_top
          (omega (arith, pass_depth es pl p.deep p.list p.pass, p.below))
          (place_at k h.after (suc m) h.rest p.end p.deep (omega (arith, i, tb.size)) c (omega arith) o
          p.below passes.1))
          (at_word k r.places h.after (suc m) h.rest p.end (omega (arith, g.long, g.low))
          (omega (arith, i, tb.size)) c o)
        where
          small : (place_in w).left < 65536
          small = left_small w

          below_top : Places k r.places
          below_top = record { long = g.long; low = omega (arith, g.low); at = λ j i. g.at j (omega arith) }

    pub stepped : Stepped r
    stepped =
        let p = g.at k (omega arith) in
        let n = (place_in w).left - 1 in
        let e : (place_in w).left ≡ suc n = omega (arith, p.some_left) in
        step_case p n e (first_is f x ts mo tb n (place_in w).position p.list p.end (rw e at p.reads)) n refl

  -- ---- a list on top

  pub record Pushed (r : Run) (at : ℕ) (a : Actions) : Type 0 where
    pub depth : ℕ
    pub places : List ℕ
    pub is : list_m f r at ≡ put_places depth places r
    pub good : Places depth places
    pub all : actions_at x ts f depth places ≡ (a then actions_at x ts f r.depth r.places)

  list_none : (r : Run) (at : ℕ) → two f at ≡ 0 → list_m f r at ≡ put_places r.depth r.places r
  unfolding list_m
  list_none r at e = rw e

  list_some : (r : Run) (at n p : ℕ) → two f at ≡ suc n → later at 2 ≡ p → r.depth ≤ 16 →
      list_m f r at ≡ put_places (suc r.depth) (set r.places r.depth (list_word p (suc n))) r
  unfolding list_m
  list_some r at n p e l h =
      let y : r.depth + 1 ≡ suc r.depth = omega arith in
      rw (e, ne_eqb (suc n) 0 (λ o. absurd (omega arith)), le-ltb 16 r.depth h, l, y)

  no_list : (p : ℕ) (a b : Actions) (q : ℕ) → actions_of ts inner 0 f p ≡ got a q → (a then b) ≡ b
  unfolding actions_of ◌then◌
  no_list p a b q e = rw (← (given _ _ _ e).0)

  pub pushed : (r : Run) (at : ℕ) (a : Actions) (q d : ℕ) → Places r.depth r.places →
      actions ts 18 f at ≡ got a q → Pass es pl d a → r.depth ≤ d → Pushed r at a
  unfolding actions
  pushed r at a q d g e t h = let c = bound u16 _ e in cases c.value c.next c.first c.rest
    where
      low : r.depth ≤ 16
      low = omega (arith, pass_depth es pl d a t)

      cases : (n p : ℕ) → u16 f at ≡ got n p → actions_of ts inner n f p ≡ got a q → Pushed r at a
      cases zero p c o = record {
        depth = r.depth;
        places = r.places;
        is = list_none r at (two_is f at c);
        good = g;
        all = sym (no_list p a (actions_at x ts f r.depth r.places) q o);
      }
      cases (suc n) p c o =
          let w = u16_wide f at c in
          let i = (first_is f x ts mo tb n p a q o).inside in
          let m : suc n < 65536 = omega (arith, two_is f at c, two_small f tb.bytes at) in
          record {
            depth = suc r.depth;
            places = set r.places r.depth (list_word p (suc n));
            is = list_some r at n p (two_is f at c) (later_is at 2 (omega (arith, tb.size)) ∙ sym w.ends) low;
            good = put_on r.depth r.places (list_word p (suc n)) g low
                (place_at r.depth p (suc n) a q d (omega (arith, i, tb.size)) m (omega arith) o h t);
            all = at_word r.depth r.places p (suc n) a q (omega (arith, g.long, low)) (omega (arith, i, tb.size))
                m o;
          }
