use mathlib.Core.Path.{ap, ◌∙◌}
use Rattle.engine_state.specs.Machine.{later}
use Rattle.checker_judge.proofs.after_predicate.Goals as goal

pub returns : goal.returns
returns c =
    c.after.ensures
    ∙ ap (later _) c.predicate_size.ensures
