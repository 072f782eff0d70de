-- What a read of a batch answers.
use Rattle.std.specs.Prelude.{ℕ, ◌≤◌, List, length}
use Rattle.replay.specs.declared.Next.{Next}
use Rattle.replay.specs.declared.Next.TheVariants.{Model, End, Broken}

-- a model that was read stands in the area
abbrev pub Within : Next → List ℕ → Type 0
Within (Model size) a = size ≤ length a
Within End a = Unit {0}
Within Broken a = Unit {0}
