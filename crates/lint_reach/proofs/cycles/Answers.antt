use Rattle.lint_reach.proofs.ComponentLaws as parts
use Rattle.lint_reach.proofs.Equals as equals
use Rattle.lint_reach.proofs.cycles.Goals as goal

pub gather-requires : goal.gather-requires
gather-requires c = (c.requires.0, c.close-reach.ensures.full)

pub returns : goal.returns
returns c =
    record {
      few = c.gather.ensures.1;
      long = c.gather.ensures.2;
      small =
          parts.components_small _ _ c.requires.0 c.gather.ensures.0;
      are =
          λ sq f. equals.cycles_are _ _ _ _ f c.close-reach.ensures c.gather.result c.requires.0
          c.gather.ensures.0;
    }
