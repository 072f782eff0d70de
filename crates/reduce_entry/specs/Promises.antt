-- What the parts of the entry promise.
use Rattle.std.specs.Prelude.{ℕ, ◌+◌, ◌≤◌, ◌<◌, ◌≡◌, List, [], ◌++◌, ◌⊎◌, eqb, length, get_or, drop, replicate}
use Rattle.texts.specs.Texts.{Text}
use Rattle.areas.specs.Areas.{area}
use Rattle.model_spec.specs.Answer.{Answer, answer, refused, ◌>>=◌}
use Rattle.model_spec.specs.Model.{Event, Model}
use Rattle.model_spec.specs.Validate.{accepted}
use Rattle.model_index.specs.declared.Index.{Index}
use Rattle.model_index.specs.Indexed.{Indexed}
use Rattle.engine_spec.specs.Cells.{initial_cells}
use Rattle.engine_spec.specs.Memory.{Lent}
use Rattle.engine_spec.specs.Records.{Areas}
use Rattle.engine_spec.specs.Words.{words_in}
use Rattle.engine_inputs.specs.declared.Events.{Events}
use Rattle.engine_entry.specs.Prepared.{Prepared, PreparedFrom}
use Rattle.checker_spec.specs.Check.{checked}
use Rattle.checker_spec.specs.Minimize.{reduce, minimized, reduced_file}
use Rattle.checker_spec.specs.Minimize as checker
use Rattle.reduce.specs.Events.{Left}
use Rattle.reduce.specs.Promises.{Begun, sizes}
use Rattle.reduce_result.specs.declared.Minimized.{Minimized}
use Rattle.reduce_result.specs.Result.{no_reduction}
use Rattle.reduce_entry.specs.Contract.{Shows, last_trace, Minimizes}

-- ---- by the definition

-- the definition's answer x is told, and so are the areas, of so many words, and the output
pub data Outcome (f : List ℕ) (x : Answer checker.Minimized) (r : Minimized) (nq na nu : ℕ)
    (q' a' u' o o' : List ℕ) : Type 0 where
  answers : (d : checker.Minimized) → x ≡ answer d → Shows f r d → q' ≡ replicate nq 0
      → a' ≡ area (words_in f) na (last_trace d) →
      u' ≡ replicate nu 0 → o' ≡ reduced_file f d ++ drop (length (reduced_file f d)) o
      → Outcome f x r nq na nu q' a' u' o o'
  refuses : (n : ℕ) → ((n ≡ 21) ⊎ ((41 ≤ n) × (n ≤ 43))) → x ≡ refused n → r ≡ no_reduction n → q' ≡ replicate nq 0
      → a' ≡ replicate na 0 →
      u' ≡ replicate nu 0 → o' ≡ o → Outcome f x r nq na nu q' a' u' o o'

-- the definition's reduction to a target, with the last check
unfoldable pub reduced_to : Areas → Model → (target : Text) → List Event → Answer checker.Minimized
reduced_to areas m target vs = do
  r ← reduce areas m (initial_cells m.scenario.entities) target 200 0 0 vs
  final ← checked areas m (initial_cells m.scenario.entities) r.events
  answer (record {
    events = r.events;
    invariant = target;
    original_events = length vs;
    attempts = r.attempts;
    deletion_minimal = eqb r.reached (length r.events);
    check = final;
  })

-- the model of an index
pub record Accepted (f : List ℕ) (i : Index) : Type 0 where
  pub m : Model
  pub is_model : accepted f ≡ answer m
  pub index : Indexed f i m

-- its events, and room for a file
pub record Given (f : List ℕ) (i : Index) (g : Prepared) (e : Events) (n : ℕ) (o : List ℕ) : Type 0 where
  pub model : Accepted f i
  pub prepared : PreparedFrom f i g
  pub begun : Begun e n
  pub left : Left model.m model.index.ts e.words n model.m.scenario.events
  pub room : length f ≤ length o

pub record Aimed (f : List ℕ) (i : Index) (g : Prepared) (target : ℕ) (e : Events) (n : ℕ) (o : List ℕ) : Type 0 where
  pub given : Given f i g e n o
  pub target_in : target < length given.model.index.ts

abbrev pub ReducesTo : (f : List ℕ) (i : Index) (g : Prepared) (target : ℕ) (e : Events) (n : ℕ) (r : Minimized)
    (q q' a a' u u' o o' : List ℕ) → Type 0
ReducesTo f i g target e n r q q' a a' u u' o o' = (m : Model) → accepted f ≡ answer m → (x : Indexed f i m)
    → PreparedFrom f i g → target < length x.ts → (vs : List Event) →
    Left m x.ts e.words n vs →
    Outcome f (reduced_to (sizes (length q) (length a) (length u)) m (get_or x.ts target []) vs) r (length q)
    (length a) (length u) q' a' u' o o'

abbrev pub ReducesAll : (f : List ℕ) (i : Index) (g : Prepared) (e : Events) (n : ℕ) (r : Minimized)
    (q q' a a' u u' o o' : List ℕ) → Type 0
ReducesAll f i g e n r q q' a a' u u' o o' = (m : Model) → accepted f ≡ answer m → (x : Indexed f i m) → PreparedFrom f i g
    → (vs : List Event) →
    Left m x.ts e.words n vs →
    Outcome f (minimized (sizes (length q) (length a) (length u)) m (initial_cells m.scenario.entities) vs) r
    (length q) (length a) (length u) q' a' u' o o'

-- the reduction of the model whose index this is
abbrev pub RunsAs : (f : List ℕ) → Index → Minimized → (before after : Lent) → (o o' : List ℕ) → Type 0
RunsAs f i r before after o o' = (m : Model) → accepted f ≡ answer m → Indexed f i m → Minimizes f r before after o o'
