use Rattle.checker_collect.proofs.Laws as laws
use Rattle.checker_collect.proofs.judge_one.Goals as goal

pub insert_told-unknown-requires : goal.insert_told-unknown-requires
insert_told-unknown-requires c = laws.told_room _ _ _ _ c.requires.1.1.0

pub insert_told-incomplete-requires : goal.insert_told-incomplete-requires
insert_told-incomplete-requires c = laws.lack_room _ _ _ _ _ c.incomplete_reasons-lack.ensures c.requires.1.1.1

pub returns : goal.returns
returns c =
    laws.gathers_one c.judge-r.result c.judge-r.ensures c.capped.ensures c.two_at-id.ensures.0
    c.push_violation-violations.ensures c.unknown_reasons-doubt.ensures c.insert_told-unknown.ensures
    c.incomplete_reasons-lack.ensures c.insert_told-incomplete.ensures c.push_violation-violations.auto.v
    c.insert_told-unknown.auto.a c.insert_told-incomplete.auto.a
