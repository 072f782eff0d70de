use Rattle.lint_reads_lines.proofs.Laws as laws
use Rattle.lint_reads_lines.proofs.better.Goals as goal

pub returns-then-place-from : goal.returns-then-place-from
returns-then-place-from c = laws.better_before _ _ _ _ _ _ c.name_place-place.ensures c.if-place-from.true

pub returns-then-found-eq32 : goal.returns-then-found-eq32
returns-then-found-eq32 c = laws.better_first _ _ _ _ _ _ c.name_place-place.ensures c.if-place-from.false c.if-found-eq32.true

pub returns-then-place-name_place : goal.returns-then-place-name_place
returns-then-place-name_place c =
    laws.better_less _ _ _ _ _ _ c.name_place-place.ensures _ c.if-place-from.false c.if-found-eq32.false
    c.name_place.ensures c.if-place-name_place.true

pub returns : goal.returns
returns c =
    laws.better_more _ _ _ _ _ _ c.name_place-place.ensures _ c.if-place-from.false c.if-found-eq32.false
    c.name_place.ensures c.if-place-name_place.false
