use Rattle.bounds.proofs.Laws as bounds
use Rattle.reduce.proofs.Laws as laws
use Rattle.reduce.proofs.violates.Goals as goal

pub returns-then-is_violation : goal.returns-then-is_violation
returns-then-is_violation c =
    laws.is_so _ _ _ _ c.is_violation.ensures c.if-is_violation.true (bounds.smaller c.min-n.ensures).is
    c.named.ensures

pub returns : goal.returns
returns c = laws.not_so _ _ _ _ c.is_violation.ensures c.if-is_violation.false
