-- Sections, and what tests need of a model, where the positions are lent.
use Rattle.std.specs.Prelude.{ℕ, List}
use Rattle.model_parts.specs.declared.Section.{Section}
use Rattle.model_parts.specs.declared.Extent.{Extent}
use Rattle.model_parts.specs.Parts.{section}
use Rattle.lint_conditions.specs.declared.Given.{Given}
use Rattle.lint_conditions.specs.declared.Names.{Names}

-- the section that has these positions
abbrev pub section_of : List ℕ → Extent → Section
section_of l x = section x l

-- with the positions of entities and of invariants
abbrev pub names_by : (entities invariants : List ℕ) → Given → Names
names_by e i g = record {
  entities = section_of e g.entities;
  invariants = section_of i g.invariants;
  on = g.on;
  off =
      g.off;
  star = g.star;
}
