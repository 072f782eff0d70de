use Prim.Native.Nat.{ℕ, ◌-◌}
use Rattle.texts.specs.Lists.{each}
use Rattle.show.specs.Lines.{quoted}
use Rattle.lint_words.specs.Lines.{spaced}
use Rattle.lint_words.specs.Numbers.{placed_text}
use Rattle.lint_words.proofs.Loops as words
use Rattle.lint_reads_lines.specs.Numbers.{ascending, read_places}
use Rattle.lint_reads_lines.proofs.put_reads.Given as goal

abbrev pub invariant-loop : goal.invariant-loop
invariant-loop l =
    words.Part (spaced (each (λ (p : ℕ). quoted (placed_text l.f p)) (ascending 97 0 (read_places l.f l.entities l.r l.i))))
    (spaced (each (λ (p : ℕ). quoted (placed_text l.f p)) (ascending (97 - l.counter) l.from (read_places l.f l.entities l.r l.i)))) l.initial.out l.initial.m l.out l.m
