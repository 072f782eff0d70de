use Prim.Native.Nat.{◌-◌}
use Rattle.lint_areas.proofs.Laws.{next}
use Rattle.lint_collect.proofs.entries.Goals as goal

pub returns : goal.returns
returns c =
    record {
      components = c.find_components-found.ensures;
      inserted =
          next _ _ _ (next _ _ _ c.rules_entries-p.ensures (c.opposing_entries-q.ensures _))
          (c.cycle_entries-out.ensures _);
    }
