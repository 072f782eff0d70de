-- What the parts of the reduction promise, by the definition of crate `checker_spec`.
use Rattle.std.specs.Prelude.{ℕ, zero, suc, ◌+◌, ◌-◌, ◌*◌, ◌≤◌, ◌<◌, ◌≡◌, Bool, true, false, ◌&&◌, ◌||◌, List, [], eqb, length, get_or}
use Rattle.layout.specs.Sizes.{event_word_count}
use Rattle.checker_result.specs.Statuses.{is_violation_m}
use Rattle.bounds.specs.Bounds.{at_most}
use Rattle.texts.specs.Texts.{Text}
use Rattle.areas.specs.Areas.{closed}
use Rattle.model_spec.specs.Answer.{Answer, answer, refused}
use Rattle.model_spec.specs.Model.{Event, Model}
use Rattle.model_spec.specs.Validate.{accepted}
use Rattle.model_index.specs.declared.Index.{Index}
use Rattle.model_index.specs.Indexed.{Indexed}
use Rattle.engine_spec.specs.Cells.{initial_cells}
pub use Rattle.engine_spec.specs.Words.{sizes}
use Rattle.engine_spec.specs.Records.{Areas}
use Rattle.engine_inputs.specs.declared.Events.{Events}
use Rattle.engine_entry.specs.Prepared.{Prepared, PreparedFrom}
use Rattle.checker_spec.specs.Minimize.{reduce}
use Rattle.checker_spec.specs.Minimize as minimize
use Rattle.checker_result.specs.declared.Status.{Status}
use Rattle.checker_result.specs.declared.Status.TheVariants as status
use Rattle.reduce.specs.declared.Reduced.{Reduced}
use Rattle.reduce.specs.Events.{Left}

-- ---- the events without one

pub record Without (words : List ℕ) (count place : ℕ) (r : List ℕ) : Type 0 where
  pub is : r ≡ closed words (place * 4) 4 (count * 4)
  pub long : length r ≡ event_word_count

-- ---- whether a check violates the target, a place among the texts

-- one of the first n violations, eight numbers each, is of the target
unfoldable pub among : List ℕ → (n target : ℕ) → Bool
among l zero t = false
among l (suc n) t = among l n t || eqb (get_or l (n * 8) 0) t

unfoldable pub violates_m : Status → (violations : ℕ) → (violated : List ℕ) → (target : ℕ) → Bool
violates_m s n l t = is_violation_m s && among l (at_most n 32) t

-- ---- when the reduction stops

pub data Stops (r : Reduced) : Type 0 where
  refusal : (r.refused ≡ 0 → ⊥) → Stops r
  spent : 200 ≤ r.attempts → Stops r
  passed : r.refused ≡ 0 → r.count ≤ r.reached → Stops r

pub record Tries (r : Reduced) : Type 0 where
  pub accepted : r.refused ≡ 0
  pub attempts : r.attempts < 200
  pub inside : r.reached < r.count

pub record GoesOn (r : Reduced) (b : Bool) : Type 0 where
  pub more : b ≡ true → Tries r
  pub stop : b ≡ false → Stops r

-- ---- by the definition

module _ (areas : Areas) (m : Model) (ts : List Text) (target : ℕ) where
  -- the definition's reduction from the place i on, so many attempts made
  abbrev pub from : (made i : ℕ) → List Event → Answer minimize.Reduced
  from made i vs = reduce areas m (initial_cells m.scenario.entities) (get_or ts target []) (200 - made) made i vs

  -- r is on the way to the definition's answer, or says why there is none
  pub data Goes (r : Reduced) (a : Answer minimize.Reduced) : Type 0 where
    full : 41 ≤ r.refused → r.refused ≤ 43 → a ≡ refused r.refused → Goes r a
    going : r.refused ≡ 0 → (vs : List Event) → Left m ts r.words r.count vs
        → a ≡ from r.attempts r.reached vs →
        Goes r a

  -- r says what the definition answers
  pub data Ends (r : Reduced) (a : Answer minimize.Reduced) : Type 0 where
    full : 41 ≤ r.refused → r.refused ≤ 43 → a ≡ refused r.refused → Ends r a
    done : r.refused ≡ 0 → (vs : List Event) → Left m ts r.words r.count vs →
        a ≡ answer (record { events = vs; attempts = r.attempts; reached = r.reached }) → Ends r a

-- before an attempt
pub record Open (r : Reduced) : Type 0 where
  pub inside : r.reached < r.count
  pub few : r.count ≤ 100
  pub attempts : r.attempts < 200
  pub long : length r.words ≡ event_word_count

-- after it: it was refused, the events w are kept, or the place is passed
pub record Tried (r : Reduced) (w : List ℕ) (number : ℕ) (stays : Bool) (e : Reduced) : Type 0 where
  pub full : (number ≡ 0 → ⊥) →
      e ≡ record { refused = number; count = r.count; words = r.words; attempts = r.attempts + 1; reached = r.reached }
  pub kept : number ≡ 0 → stays ≡ true →
      e ≡ record { refused = 0; count = r.count - 1; words = w; attempts = r.attempts + 1; reached = 0 }
  pub passed : number ≡ 0 → stays ≡ false →
      e ≡ record { refused = 0; count = r.count; words = r.words; attempts = r.attempts + 1; reached = r.reached + 1 }

-- q, a and u are how many words the areas have; so many invariants are at their positions
pub record Attempted (f starts : List ℕ) (many : ℕ) (g : Prepared) (target : ℕ) (r e : Reduced) (q a u : ℕ) : Type 0 where
  pub attempts : e.attempts ≡ r.attempts + 1
  pub few : e.count ≤ r.count
  pub long : length e.words ≡ event_word_count
  pub does : (i : Index) → starts ≡ i.invariants.starts → many ≡ i.invariants.count
      → (m : Model) → accepted f ≡ answer m → (o : Indexed f i m) → PreparedFrom f i g → target < length o.ts
      → (vs : List Event) →
      Left m o.ts r.words r.count vs →
      Goes (sizes q a u) m o.ts target e (from (sizes q a u) m o.ts target r.attempts r.reached vs)

-- before the reduction
pub record Begun (e : Events) (n : ℕ) : Type 0 where
  pub few : n ≤ 100
  pub long : length e.words ≡ event_word_count

-- after it
pub record Reduces (f : List ℕ) (i : Index) (g : Prepared) (target : ℕ) (e : Events) (n : ℕ) (r : Reduced)
    (q a u : ℕ) : Type 0 where
  pub few : r.count ≤ 100
  pub long : length r.words ≡ event_word_count
  pub does : (m : Model) → accepted f ≡ answer m → (o : Indexed f i m) → PreparedFrom f i g → target < length o.ts
      → (vs : List Event) →
      Left m o.ts e.words n vs → Ends (sizes q a u) m o.ts target r (from (sizes q a u) m o.ts target 0 0 vs)
