-- The two areas and the counts of their entries, and entries put in one after the other.
use Rattle.std.specs.Prelude.{ℕ, ◌+◌, ◌*◌, ◌/◌, Bool, List, [], ◌∷◌, ltb, eqb, length, if◌then◌else◌}
use Rattle.areas.specs.Areas.{written}
use Rattle.lint_areas.specs.declared.Out.{Out}

-- an entry as its words
pub data Item : Type 0 where
  finding : List ℕ → Item
  interaction : List ℕ → Item

pub record Board : Type 0 where
  pub findings : List ℕ
  pub interactions : List ℕ
  pub out : Out

abbrev pub board : List ℕ → List ℕ → Out → Board
board f i o = record { findings = f; interactions = i; out = o }

unfoldable pub more_findings : Out → Out
more_findings o = record { findings = o.findings + 1; interactions = o.interactions; refusal = 0 }

unfoldable pub more_interactions : Out → Out
more_interactions o = record { findings = o.findings; interactions = o.interactions + 1; refusal = 0 }

unfoldable pub refused : ℕ → Out → Out
refused n o = record { findings = o.findings; interactions = o.interactions; refusal = n }

-- an entry more, if nothing was refused before; 45: no place for a finding, 46: none for an interaction
unfoldable pub push : Item → Board → Board
push (finding w) b =
    if eqb b.out.refusal 0
    then (if ltb b.out.findings (length b.findings / 14)
    then board (written b.findings (b.out.findings * 14) w) b.interactions (more_findings b.out)
    else board b.findings b.interactions (refused 45 b.out))
    else b
push (interaction w) b =
    if eqb b.out.refusal 0
    then (if ltb b.out.interactions (length b.interactions / 3)
    then board b.findings (written b.interactions (b.out.interactions * 3) w) (more_interactions b.out)
    else board b.findings b.interactions (refused 46 b.out))
    else b

-- the entries, one after the other
unfoldable pub pushes : List Item → Board → Board
pushes [] b = b
pushes (x ∷ l) b = pushes l (push x b)

-- the entry, if the test holds
unfoldable pub only_if : Bool → Item → List Item
only_if b x = if b then x ∷ [] else []
