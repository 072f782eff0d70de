use borrow.Author.Rules.{rules}
use Rattle.records.proofs.Laws as laws
use Rattle.records.proofs.write_record.Goals as goal

pub returns : goal.returns
returns c =
    let a = c.args in laws.write_is a.a.now c.put.new.a c.put-2.new.a c.put-3.new.a
    c.put-4.new.a a.at c.rule_words-uw.result c.where_words-sw.result
    c.change_words-cw.result a.r (search rules) c.rule_words-uw.ensures c.where_words-sw.ensures
    c.change_words-cw.ensures c.put.ensures c.put-2.ensures c.put-3.ensures
    c.put-4.ensures
