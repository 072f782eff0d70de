-- An accepted file's automations have distinct identifiers, and a simulation of it keeps to the modes from its start
-- to its end: the invariant of Modes for each automation of the file.
use Prim.Native.Nat.{ℕ}
use mathlib.Core.Path.{◌≡◌, sym, ap, ◌∙◌, subst}
use mathlib.Core.Bool.{false, ◌||◌, true≢false}
use mathlib.Core.List.{List, [], ◌∷◌, Memᴰ}
use Rattle.texts.specs.Lists.{any}
use Rattle.texts.specs.Texts.{Text, eq_t, mem_t}
use Rattle.model_spec.specs.Answer.{answer}
use Rattle.model_spec.specs.Model.{Entity, Automation, Event, Model}
use Rattle.model_spec.specs.Validate.{bad_length, check_rule, check_rules, accepted}
use Rattle.engine_spec.specs.Cells.{Cell}
use Rattle.engine_spec.specs.Records.{Areas}
use Rattle.engine_spec.specs.Unsupported.{unsupported}
use Rattle.engine_spec.specs.Engine.{begun, loop}
use Rattle.engine_spec.specs.Simulate.{ended}
use Rattle.engine_spec.proofs.Lists.{eq_t_same, or_no, Each, each_weak}
use Rattle.engine_spec.proofs.Validated.{accepted_passed}
pub use Rattle.engine_spec.proofs.Validated.{answer_eq, refused_answer, bind_inv, and_inv, when_inv, or_no'}
use Rattle.engine_spec.proofs.Keeps.{known_in, Only, Within, closed_keeps}
use Rattle.engine_spec.proofs.Modes.{at_start, loop_reaches, reached_keeps}

-- ---- identifiers

-- none is among those before it
abbrev pub Fresh : List Text → List Automation → Type 0
Fresh ids [] = Unit {0}
Fresh ids (r ∷ rs) = (mem_t r.id ids ≡ false) × Fresh (r.id ∷ ids) rs

rules_fresh : (es : List Entity) (ids : List Text) (rs : List Automation) (n k : ℕ)
    → check_rules es ids rs n ≡ answer k → Fresh ids rs
unfolding check_rules check_rule
rules_fresh es ids [] n k e = tt
rules_fresh es ids (r ∷ rs) n k e =
    let b : (a : ℕ) × ((check_rule es ids r n ≡ answer a) × (check_rules es (r.id ∷ ids) rs a ≡ answer k)) =
    bind_inv (check_rule es ids r n) (check_rules es (r.id ∷ ids) rs) k e in (
      or_no' (bad_length r.id) (mem_t r.id ids)
          (when_inv 13 (bad_length r.id || mem_t r.id ids) _ b.0 b.1.0),
      rules_fresh es (r.id ∷ ids) rs b.0 k b.1.1,
    )

pub accepted_fresh : (file : List ℕ) (m : Model) → accepted file ≡ answer m → Fresh [] m.rules
accepted_fresh file m e =
    let p = accepted_passed file m e in
    rules_fresh m.scenario.entities [] m.rules 0 p.actions p.rules

-- those after the identifiers have none of them
fresh_each : (ids : List Text) (l : List Automation) → Fresh ids l → Each (λ r. mem_t r.id ids ≡ false) l
fresh_each ids [] f = tt
fresh_each ids (r ∷ l) f = (
  f.0,
  each_weak (λ (s : Automation). mem_t s.id (r.id ∷ ids) ≡ false) (λ s. mem_t s.id ids ≡ false)
      (λ s h. less s.id h) l (fresh_each (r.id ∷ ids) l f.1),
)
  where
    less : (t : Text) → mem_t t (r.id ∷ ids) ≡ false → mem_t t ids ≡ false
    less t h = unfold mem_t any in (or_no' (eq_t t r.id) (any (eq_t t) ids) h)

pub each_at : {A : Type 0} (P : A → Type 0) {a : A} {l : List A} → Each P l → Memᴰ a l → P a
each_at P h (Memᴰ.head e) = subst P (sym e) h.0
each_at P h (Memᴰ.tail m) = each_at P h.1 m

apart : (ids : List Text) (l : List Automation) (r : Automation) → Fresh (r.id ∷ ids) l
    → Each (λ s. eq_t s.id r.id ≡ false) l
apart ids l r f =
    each_weak (λ (s : Automation). mem_t s.id (r.id ∷ ids) ≡ false) (λ s. eq_t s.id r.id ≡ false)
    (λ s h. first s.id h) l (fresh_each (r.id ∷ ids) l f)
  where
    first : (t : Text) → mem_t t (r.id ∷ ids) ≡ false → eq_t t r.id ≡ false
    first t h = unfold mem_t any in (or_no (eq_t t r.id) (any (eq_t t) ids) h)

not_same : (s t : Text) → eq_t s t ≡ false → s ≡ t → ⊥
not_same s t h e = true≢false (sym (eq_t_same s) ∙ (ap (eq_t s) e ∙ h))

pub only_one : {a : Automation} (ids : List Text) {l : List Automation} → Fresh ids l → Memᴰ a l → Only a l
only_one {a} ids f (Memᴰ.head {x = r} {xs = l} e) = (
  λ _. sym e,
  each_weak (λ (s : Automation). eq_t s.id r.id ≡ false) (λ s. s.id ≡ a.id → s ≡ a)
      (λ s h i. absurd (not_same s.id r.id h (i ∙ ap (λ (z : Automation). z.id) e))) l (apart ids l r f.1),
)
only_one {a} ids f (Memᴰ.tail {x = r} {xs = l} m) = (
  λ i. absurd (not_same a.id r.id
      (each_at (λ (s : Automation). eq_t s.id r.id ≡ false) (apart ids l r f.1) m) (sym i)),
  only_one
      (r.id ∷ ids) f.1 m,
)

pub accepted_only : (file : List ℕ) (m : Model) → accepted file ≡ answer m → {a : Automation} → Memᴰ a m.rules
    → Only a m.rules
accepted_only file m e = only_one [] (accepted_fresh file m e)

-- ---- the simulation of an accepted file ends within the modes' bounds, wherever it starts and whatever the events

pub ended_within : (file : List ℕ) (m : Model) → accepted file ≡ answer m → {a : Automation} → Memᴰ a m.rules
    → (areas : Areas) (cells : List Cell) (events : List Event) → Within a (ended areas m cells events).engine.runs
unfolding ended
ended_within file m e {a} i areas cells events =
    let limits = m.scenario.limits in
    let s = begun areas m.start cells (unsupported m.rules) events in
    (closed_keeps (known_in m.rules) a limits.horizon (loop m.rules limits.horizon limits.max_steps 0 s)
    (reached_keeps a m.rules (accepted_only file m e i)
    (loop_reaches m.rules limits.horizon limits.max_steps 0 s
    (at_start areas m.start cells (unsupported m.rules) events)))).within
