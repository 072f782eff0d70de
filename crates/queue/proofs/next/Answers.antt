use borrow.Author.Rules.{rules}
use Rattle.queue.proofs.Laws as laws
use Rattle.queue.proofs.next.Goals as goal

pub returns-clause-item : goal.returns-clause-item
returns-clause-item c =
    let a = c.args in record {
      is = λ l ln rep. laws.next_then a.a.now a.first a.n l ln rep c.requires _ c.then.ensures.variant c.then.ensures.some (λ i p. search rules);
    }
