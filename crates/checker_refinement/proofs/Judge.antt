-- All records: the reading on places is Judge's reading of the texts.
use mathlib.Core.Path.{◌≡◌, refl, sym, ap, ◌∙◌}
use mathlib.Core.Bool.{true, false}
use mathlib.Core.List.{List, [], ◌∷◌}
use mathlib.Core.Option.{none, some}
use Prim.Native.Nat.{ℕ, ◌+◌, ◌<◌}
use native.Mathlib.Omega.{arith}
use lib.ListN.{length, get_or, set}
use borrow.Author.Tests.{lt-ltb}
use Rattle.texts.specs.Lists.{find, each}
use Rattle.texts.specs.Texts.{Text}
use Rattle.model_spec.specs.Model.{Invariant, Model}
use Rattle.model_spec.specs.Windows.{windowless_invariant}
use Rattle.model_spec.specs.File.{got, invariant, kinds, u8}
use Rattle.model_walk.proofs.Found.{Case, is_true, is_false, case, bound, u8_wide}
use Rattle.model_parts.specs.Stand.{Reads}
use Rattle.records.specs.declared.Write.{Write}
use Rattle.std.specs.Prelude.{Option, Some, None}
use Rattle.records.specs.declared.Record.{Record}
use Rattle.engine_spec.specs.Cells.{Cell, is_cell, cell_of, overwrite, put}
use Rattle.engine_spec.proofs.Lists.{none_some, Each}
use Rattle.engine_fields.specs.Fields.{entity_of}
use Rattle.engine_state.specs.declared.Cells.{Cells}
use Rattle.engine_refinement.specs.Meaning.{Placed, where_of, cells_of, change_of, record_of, Tabled}
use Rattle.engine_refinement.proofs.Numbers.{cap_is}
use Rattle.engine_refinement.proofs.Evaluate.{Valued, Sought, here, nowhere, cell_is}
use Rattle.engine_refinement.proofs.Relation.{Celled}
use Rattle.engine_refinement.proofs.Update.{stored_is}
use Rattle.checker_spec.specs.Judge.{after, read, reading, read_all}
use Rattle.checker_spec.specs.Judge as judge
use Rattle.checker_response.specs.Response.{failed_m}
use Rattle.checker_judge.specs.Judging.{nothing_m, put_m, after_m, read_m, turned_m, turn_m, reading_m, judge_m}
use Rattle.checker_response.specs.declared.Failure.{Failure}
use Rattle.checker_response.specs.declared.Failure.TheVariants.{
  ProhibitedState,
  GuardViolated,
  ForbiddenTransition,
  DeadlineMissed,
}
use Rattle.checker_response.specs.declared.Memory.{Memory}
use Rattle.checker_response.specs.declared.Shown.{Shown}
use Rattle.checker_judge.specs.declared.Reading.{Reading}
use Rattle.checker_refinement.specs.Meaning.{failure_of, memory_of, shown_of, failing_of, reading_of}
use Rattle.checker_refinement.proofs.Record.{read_is}

-- records whose places are those of texts
abbrev pub Traced : List Text → List Record → Type 0
Traced ts l = Each (λ (r : Record). Placed ts r.change) l

-- a write of a name that no cell has changes nothing
put_nowhere : (t v : Text) (k : ℕ) (l : List Cell) → cell_of t l ≡ none → put t v k l ≡ l
unfolding cell_of find put each overwrite
put_nowhere t v k [] e = refl
put_nowhere t v k (c ∷ l) e = cases (case (is_cell t c)) (put_nowhere t v k l)
  where
    cases : Case (is_cell t c) → (cell_of t l ≡ none → put t v k l ≡ l) → put t v k (c ∷ l) ≡ c ∷ l
    cases (is_true b) ih = absurd (none_some (sym (rw b at e)))
    cases (is_false b) ih = rw b (ap (λ (m : List Cell). c ∷ m) (ih (rw b at e)))

module _ (f x : List ℕ) (ts : List Text) (mo : Model) (tb : Tabled f x ts mo) where
  abbrev T : ℕ → Text
  T v = get_or ts v []

  abbrev C : List ℕ → List ℕ → List Cell → Type 0
  C = Celled f x ts mo tb

  -- ---- the values after a record, with some versions

  record After (c : Cells) (l : List Cell) : Type 0 where
    versions : List ℕ
    are : C c.values versions l

  put_after : (c : Cells) (ns : List ℕ) (cs : List Cell) → C c.values ns cs → (e v : ℕ) → e < length ts →
      v < length ts → After (put_m x c e v) (put (T e) (T v) 0 cs)
  unfolding put_m
  put_after c ns cs g e v h i = cases (cell_is f x ts mo tb c.values ns e h)
    where
      cases : Sought f x ts mo tb e c.values ns (entity_of x e) (cells_of x ts c.values ns) →
          After (put_m x c e v) (put (T e) (T v) 0 cs)
      cases (here j k o n d) =
          rw (o, lt-ltb j 32 (omega (arith, tb.few_entities)), ← n)
          (record {
            versions = set ns j (get_or ns j 0 + 0);
            are =
                stored_is f x ts mo tb c.values ns cs g j v 0 (get_or ns j 0 + 0) k i refl;
          })
      cases (nowhere o d) =
          rw (o, put_nowhere (T e) (T v) 0 cs (ap (cell_of (T e)) g.is ∙ d)) (record { versions = ns; are = g })

  after_is : (c : Cells) (ns : List ℕ) (cs : List Cell) → C c.values ns cs → (r : Record) → Placed ts r.change →
      After (after_m x r.change c) (after (record_of x ts r) cs)
  unfolding after record_of after_m
  after_is c ns cs g r p = cases r.change p
    where
      cases : (d : Option Write) → Placed ts d → After (after_m x d c)
          (elim (change_of x ts d) [ none ↦ cs | some w ↦ put w.entity w.after 0 cs ])
      cases None p = record { versions = ns; are = g }
      cases (Some d) p = put_after c ns cs g d.entity d.after p.0 p.1.1

  -- ---- a record, and those behind it

  module _ (at k : ℕ) (r : Record) (c : Cells) (i : Invariant) (cs : List Cell) (l : List Record) where
    -- Judge's answer, by what the record shows
    abbrev told : judge.Shown → judge.Reading
    told s = elim s.failure [
      | some e ↦ record {
        failing = some (record { index = k; at = r.second; source = where_of r.source; failure = e });
        memory = s.memory;
      }
      | none ↦ reading i (k + 1) cs s.memory (each (record_of x ts) l)
    ]

    step : (s : Shown) →
        reading_of (reading_m f x at c s.memory (k + 1) l)
        ≡ reading i (k + 1) cs (memory_of s.memory) (each (record_of x ts) l) →
        reading_of (elim (failed_m s.failure) [
          | true ↦ (turned_m k r c s).reading
          | false ↦
              reading_m f x at c s.memory (k + 1) l
        ])
        ≡ told (shown_of s)
    unfolding reading_of failing_of failed_m shown_of
    step s ih = cases s.failure
      where
        cases : (y : Option Failure) →
            reading_of (elim (failed_m y) [
              | true ↦ record {
                failure = y;
                index = k;
                second = r.second;
                source = r.source;
                memory = s.memory;
              }
              | false ↦ reading_m f x at c s.memory (k + 1) l
            ])
            ≡ told (record { failure = failure_of y; memory = memory_of s.memory })
        cases None = ih
        cases (Some ProhibitedState) = refl
        cases (Some GuardViolated) = refl
        cases (Some ForbiddenTransition) = refl
        cases (Some (DeadlineMissed d)) = refl

  module _ (at : ℕ) (i : Invariant) (q : ℕ) (stands : invariant ts f at ≡ got i q) (w : windowless_invariant i ≡ true) where
    reading_is : (l : List Record) → Traced ts l → (k : ℕ) (c : Cells) (m : Memory) (ns : List ℕ) (cs : List Cell) →
        C c.values ns cs →
        reading_of (reading_m f x at c m k l) ≡ reading i k cs (memory_of m) (each (record_of x ts) l)
    unfolding reading_m reading each reading_of failing_of turn_m record_of
    reading_is [] h k c m ns cs g = refl
    reading_is (r ∷ l) h k c m ns cs g =
        let d = after_m x r.change c in
        let a = after_is c ns cs g r h.0 in
        let s = read_m f x at c.values d.values r m in
        let e : shown_of s ≡ read i cs (after (record_of x ts r) cs) (record_of x ts r) (memory_of m) =
        read_is f x ts mo tb at c.values ns d.values a.versions g.valued a.are.valued r h.0
        m i q stands w
        ∙ ap (λ (z : List Cell). read i z (cells_of x ts d.values a.versions) (record_of x ts r) (memory_of m))
        (sym g.is) ∙ ap (λ (z : List Cell). read i cs z (record_of x ts r) (memory_of m)) (sym a.are.is) in
        step at k r d i (after (record_of x ts r) cs) l s
        (reading_is l h.1 (k + 1) d s.memory a.versions (after (record_of x ts r) cs) a.are)
        ∙ ap (told at k r d i (after (record_of x ts r) cs) l) e

  -- the invariant at a position, over records whose places are those of texts, from values that are places of texts
  pub judge_is : (at : ℕ) (i : Invariant) → Reads (invariant ts) f at i → windowless_invariant i ≡ true →
      (c : Cells) (ns : List ℕ) →
      Valued f x ts mo tb c.values → length ns ≡ 32 → (l : List Record) → Traced ts l →
      reading_of (judge_m f x at c l) ≡ read_all i (cells_of x ts c.values ns) (each (record_of x ts) l)
  unfolding judge_m read_all memory_of invariant kinds
  judge_is at i (q, e) w c ns ok long l h =
      let b = bound u8 _ e in
      let v = u8_wide f at b.first in
      rw (cap_is at (omega (arith, tb.size)))
      (reading_is at i q e w l h 0 c nothing_m ns (cells_of x ts c.values ns)
      (record { is = refl; valued = ok; long = long }))
