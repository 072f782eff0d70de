use borrow.Author.Rules.{rules}
use mathlib.Core.Path.{◌≡◌, ◌∙◌}
use lib.ListN.{length}
use Rattle.runs.proofs.Laws as laws
use Rattle.runs.proofs.write_run.Goals as goal

pub returns : goal.returns
returns c =
    let a = c.args in
    let lp : length a.r.places ≡ 17 = search rules in
    laws.write_is a.a.now c.put.new.a c.put-2.new.a c.put-3.new.a a.at
    c.from.result c.phase_words-phase.result a.r (search rules) lp (c.from.ensures ∙ laws.flag_is a.r.queued)
    c.phase_words-phase.ensures c.put.ensures c.put-2.ensures c.put-3.ensures
