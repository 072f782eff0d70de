use Rattle.layout.specs.Sizes.{simulation_reason_words}
use Rattle.bounds.proofs.Laws as bounds
use Rattle.lint_notes.proofs.Laws as laws
use Rattle.lint_notes.proofs.rule_notes.Goals as goal

pub returns : goal.returns
returns c =
    λ k.
    let notes = c.rule_notes.ensures in
    laws.rule_is _ _ _ _ c.source_at-source.ensures c.put_row.ensures
    (laws.none_listed c.args.s.now simulation_reason_words) notes.is
    (λ t. notes.clean t (laws.none_clean _ simulation_reason_words))
    (bounds.smaller c.min-count.ensures) c.number_at-line.ensures
    c.past.ensures
    c.number_at-column.ensures c.with.ensures (c.note_findings.ensures k)
