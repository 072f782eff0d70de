-- Where the events section of a file stands: a walk over the sections up to it.
use Rattle.std.specs.Prelude.{Some, None, ℕ, List}
use Rattle.model_walk.specs.Walk.{Walked, place_m}
use Rattle.model_parts.specs.declared.Section.{Section}
use Rattle.model_parts.specs.declared.Part.TheVariants as part
use Rattle.model_parts.specs.Parts.{part_m, section_m}
use Rattle.model_rewrite.specs.declared.Span.{Span}

-- of a file whose rules are broken
abbrev pub nowhere : Span
nowhere = record { start = 0; end = 0 }

-- go on behind a walk
unfoldable pub behind : Walked → (ℕ → Span) → Span
behind (Some (p, n)) f = f p
behind None f = nowhere

-- from the title on
unfoldable pub body_m : List ℕ → (texts : ℕ) → ℕ → Span
body_m s ts at =
    behind (place_m ts s at 0) λ p.
    behind (section_m (part_m ts part.Entity) s p 0).end λ start.
    behind (section_m (part_m ts part.Event) s start 0).end λ end.
    record { start = start; end = end }

unfoldable pub span_m : List ℕ → Span
span_m s = let x : Section = section_m (part_m 0 part.Text) s 4 0 in behind x.end (body_m s x.count)
