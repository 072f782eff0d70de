-- What a case, a visit and the whole search promise: what the definition's search answers from the same point.
use Rattle.std.specs.Prelude.{ℕ, suc, ◌-◌, ◌≡◌, true, List, []}
use Rattle.model_spec.specs.Model.{Event}
use Rattle.checker_spec.specs.Verify as verify
use Rattle.search_inputs.specs.declared.Placed.{Placed}
use Rattle.search_cases.specs.declared.Search.{Search}
use Rattle.search.specs.Meaning.{Entire, cells_of, sizes, Setting, PlacedAs, Held, Outcome, walked, guarded, step}

module _ (f : List ℕ) (p : Entire) where
  pub record Tries (placed : Placed) (o : Search) (w : List ℕ) (r : Search) (w' : List ℕ) (q a u : ℕ) : Type 0 where
    pub does : (x : Setting f p q a u) (vs : List Event) → PlacedAs x.indexed.ts x.m vs placed
        → (s : verify.Search) → Held x s o w →
        Outcome x (verify.try_case (sizes q a u) x.m (cells_of x.m) vs s) r w'

  pub record Visits (n : ℕ) (placed : Placed) (o : Search) (w : List ℕ) (r : Search) (w' : List ℕ) (q a u : ℕ) : Type 0 where
    pub stays : o.stopped ≡ true → (r ≡ o) × (w' ≡ w)
    pub does : (x : Setting f p q a u) (vs : List Event) → PlacedAs x.indexed.ts x.m vs placed
        → (s : verify.Search) → Held x s o w →
        Outcome x (guarded (sizes q a u) x.m n vs s) r w'

  -- the visits behind the first k pairs
  pub record Walks (n : ℕ) (placed : Placed) (o : Search) (w : List ℕ) (k : ℕ) (r : Search) (w' : List ℕ)
      (q a u : ℕ) : Type 0 where
    pub does : (x : Setting f p q a u) (vs : List Event) → PlacedAs x.indexed.ts x.m vs placed
        → (s : verify.Search) → Held x s o w →
        Outcome x (walked (step (sizes q a u) x.m n vs) k s) r w'

  -- the first k depths
  pub record Depths (k : ℕ) (o : Search) (w : List ℕ) (r : Search) (w' : List ℕ) (q a u : ℕ) : Type 0 where
    pub does : (x : Setting f p q a u) (s : verify.Search) → Held x s o w →
        Outcome x (walked (λ d. guarded (sizes q a u) x.m d []) k s) r w'

  pub record Deepens (depth : ℕ) (o : Search) (w : List ℕ) (r : Search) (w' : List ℕ) (q a u : ℕ) : Type 0 where
    pub does : (x : Setting f p q a u) (s : verify.Search) → Held x s o w →
        Outcome x (verify.deepen (sizes q a u) x.m (cells_of x.m) (suc depth) 0 s) r w'
