-- Declared entities by number.
use Rattle.std.specs.Prelude.{ℕ, List, [], get_or}
use Rattle.texts.specs.Lists.{each}
use Rattle.texts.specs.Texts.{Text}
use Rattle.model_spec.specs.Model.{Entity}

-- the name of the j-th declared entity
unfoldable pub name_at : List Entity → ℕ → Text
name_at es j = get_or (each (λ e. e.name) es) j []
