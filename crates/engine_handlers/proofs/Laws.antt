-- The other work, by cases.
use Prim.Native.Nat.{ℕ, ◌-◌, ◌*◌, ◌/◌, ◌≤◌, ◌<◌}
use mathlib.Core.Path.{◌≡◌, refl, sym, ◌∙◌, ap, subst}
use mathlib.Core.Bool.{true, false}
use mathlib.Core.List.{List, []}
use lib.ListN.{length, get_or, replicate}
use borrow.Author.Tests.{eq-eqb, ne_eqb, lt-ltb, le-ltb}
use native.Mathlib.Omega.{arith}
use Rattle.areas.specs.Areas.{area, cleared}
use Rattle.areas.proofs.Laws as areas
use Rattle.runs.specs.Runs.{run_words}
use Rattle.runs.specs.declared.Run.{Run}
use Rattle.runs.specs.declared.Wait.{Wait}
use Rattle.std.specs.Prelude.{Some, None}
use Rattle.runs.proofs.Laws as runs
use Rattle.engine_fields.specs.Fields.{name, entity_of}
use Rattle.engine_state.specs.declared.State.{State}
use Rattle.engine_state.specs.Machine.{Machine, entire, machine, with_active, stored_m}
use Rattle.engine_state.specs.Steps.{kept, goes, still, Steps}
use Rattle.engine_state.proofs.Laws as states
use Rattle.engine_update.specs.Update.{cells}
use Rattle.engine_handlers.specs.Handlers.{
  over_on_m,
  over_end_m,
  wait_over_m,
  time_phase_m,
  time_run_m,
  expire_to_m,
  expire_m,
  stale_at_m,
  go_stale_m,
  no_runs_m,
}

module _ (k : ℕ) (r : Run) (w : Wait) (m : Machine) where
  pub over_early : (w.deadline ≡ m.now → ⊥) → m ≡ wait_over_m k r w m
  unfolding wait_over_m
  over_early h = rw (ne_eqb w.deadline m.now h)

  pub over_goes : w.deadline ≡ m.now → w.continue_on_timeout ≡ true → over_on_m k r w m ≡ wait_over_m k r w m
  unfolding wait_over_m
  over_goes h e = rw (eq-eqb w.deadline m.now h, e)

  pub over_ends : w.deadline ≡ m.now → w.continue_on_timeout ≡ false → over_end_m k r w m ≡ wait_over_m k r w m
  unfolding wait_over_m
  over_ends h e = rw (eq-eqb w.deadline m.now h, e)

  pub time_wait : r.phase ≡ Some w → wait_over_m k r w m ≡ time_run_m k r m
  unfolding time_run_m time_phase_m
  time_wait e = sym (ap (λ p. time_phase_m k r p m) e)

pub time_going : (k : ℕ) (r : Run) (m : Machine) → r.phase ≡ None → m ≡ time_run_m k r m
unfolding time_run_m time_phase_m
time_going k r m e = sym (ap (λ p. time_phase_m k r p m) e)

pub expire_is : (x : List ℕ) (e n : ℕ) (m : Machine) → n ≡ name x e →
    expire_to_m n (get_or m.values e 0) (get_or x 6 0) (stored_m (cells m) e (get_or x 6 0)) m ≡ expire_m x e m
unfolding expire_m
expire_is x e n m en = ap (λ z. expire_to_m z (get_or m.values e 0) (get_or x 6 0) (stored_m (cells m) e (get_or x 6 0)) m) en

module _ (x : List ℕ) (e v i : ℕ) (m : Machine) (is : i ≡ entity_of x e) where
  pub stale_none : 31 < i → m ≡ go_stale_m x e v m
  unfolding go_stale_m stale_at_m
  stale_none h = rw (← is, lt-ltb 31 i h)

  module _ (h : i ≤ 31) where
    pub stale_old : (get_or m.versions i 0 ≡ v → ⊥) → m ≡ go_stale_m x e v m
    unfolding go_stale_m stale_at_m
    stale_old g = rw (← is, le-ltb 31 i h, ne_eqb (get_or m.versions i 0) v g)

    pub stale_known : get_or m.versions i 0 ≡ v → get_or m.values i 0 ≡ get_or x 6 0 → m ≡ go_stale_m x e v m
    unfolding go_stale_m stale_at_m
    stale_known g u = rw (
      ← is,
      le-ltb 31 i h,
      eq-eqb (get_or m.versions i 0) v g,
      eq-eqb (get_or m.values i 0) (get_or x 6 0) u,
    )

    pub stale_goes : get_or m.versions i 0 ≡ v → (get_or m.values i 0 ≡ get_or x 6 0 → ⊥) → expire_m x i m ≡ go_stale_m x e v m
    unfolding go_stale_m stale_at_m
    stale_goes g u = rw (
      ← is,
      le-ltb 31 i h,
      eq-eqb (get_or m.versions i 0) v g,
      ne_eqb (get_or m.values i 0) (get_or x 6 0) u,
    )

-- an area from which all its runs were cleared is zeros
pub none_of_runs : (a b : List ℕ) (n : ℕ) (l : List Run) → length l ≡ n → a ≡ area run_words (length a) l → n * 28 ≤ length a
    → b ≡ cleared a 0 (n * 28) → b ≡ replicate (length a) 0
none_of_runs a b n l e is h c =
    let z : length a - 0 ≡ length a = omega arith in
    c ∙ ap (λ y. cleared y 0 (n * 28)) is
    ∙ ap (λ i. cleared (area run_words i l) 0 (n * 28)) (sym z)
    ∙ areas.none_left run_words 28 runs.sized 0 (length a) n l e (omega arith)

pub no_runs : (st s : State) (r b : List ℕ) → st.live_runs * 28 ≤ length r → b ≡ cleared r 0 (st.live_runs * 28)
    → s ≡ with_active 0 st → length b ≡ length r → {v n c : List ℕ} →
    Steps (λ k. no_runs_m (machine (entire st v n c) k)) (entire st v n c) (entire s v n c) kept kept (goes r b) still
no_runs st s r b h e g same {v} {n} {c = l} =
    subst (λ z. Steps (λ c. no_runs_m (machine (entire st v n l) c)) (entire st v n l) (entire z v n l) kept kept (goes r b)
    still)
    (sym g) (record {
      queue = refl;
      records = refl;
      runs = (same, omega arith);
      reasons = refl;
      does = λ f q a _ u c held.
          let zeros = none_of_runs r b st.live_runs c.runs (sym held.runs.many) held.runs.is h e in
          record {
            content = states.k_runs [] c;
            held = record {
              queue = held.queue;
              records = held.records;
              runs = record {
                room = ap (λ i. i / 28) same ∙ held.runs.room;
                many = refl;
                is = zeros ∙ ap (λ i. replicate i 0) (sym same) ∙ sym (areas.area_none run_words (length b));
              };
              reasons = held.reasons;
            };
            is = refl;
          };
    })
