-- Laws for the functions of the entries.
use Prim.Native.Nat.{ℕ}
use mathlib.Core.Path.{◌≡◌, sym, subst}
use mathlib.Core.List.{List}
use lib.ListN.{length, get_or}
use Rattle.layout.specs.Sizes.{simulation_reasons}
use Rattle.bounds.specs.Bounds.{AtMost, at_most}
use Rattle.engine_run.specs.Run as run
use Rattle.engine_run.specs.declared.Simulation.{Simulation as Run}
use Rattle.engine_summary.specs.declared.Simulation.{Simulation}
use Rattle.engine_spec.specs.Memory.{Lent}
use Rattle.engine_entry.specs.Contract.{Simulates}
use Rattle.engine_entry.specs.Prepared.{Prepared}
use Rattle.engine_summary.specs.Summaries.{ShownAs}
use Rattle.engine_entry.specs.Promises.{Ran}

-- ---- the answer

pub simulates_as : {f : List ℕ} {r s : Simulation} {before after : Lent} → r ≡ s → Simulates f s before after →
    Simulates f r before after
simulates_as {f} {r} {s} {before} {after} e h = subst (λ (y : Simulation). Simulates f y before after) (sym e) h

-- ---- a run

pub ran_so : {f : List ℕ} {g : Prepared} {events : List ℕ} {n count : ℕ} {s : Run} {q q' a a' r r' u : List ℕ} →
    AtMost g.count simulation_reasons count →
    run.Simulates f g.table events n g.cells count s q q' a a' r r' g.reasons u → length u ≡ length g.reasons →
    {k : ℕ} → k ≡ at_most (get_or g.table 0 0) 32 →
    {ans : Simulation} → ShownAs s k (get_or g.table 2 0) u ans → Ran f g events n ans q q' a a' r r'
ran_so {f} {g} {events} {n} {count} {s} {q} {q'} {a} {a'} {r} {r'} {u} few does long e {ans} shown = record {
  told = s;
  words = u;
  count = count;
  few = few;
  does = does;
  long = long;
  shown = subst (λ (j : ℕ). ShownAs s j (get_or g.table 2 0) u ans) e shown;
}
