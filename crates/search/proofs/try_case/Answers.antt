use native.Mathlib.Omega.{arith}
use Rattle.search.proofs.Cases as cases
use Rattle.search.proofs.try_case.Goals as goal

pub returns-then-p-o : goal.returns-then-p-o
returns-then-p-o c =
    record {
      does = λ x vs ps s h. cases.spent_held x vs s h (cases.test_cases x vs s h c.if-p-o.true)
          c.spent.ensures;
    }

pub returns-then-o-ge200000 : goal.returns-then-o-ge200000
returns-then-o-ge200000 c =
    record {
      does = λ x vs ps s h. cases.spent_held x vs s h (cases.test_steps x vs s h c.if-o-ge200000.true)
          c.spent-then-o-ge200000.ensures;
    }

pub returns-then-number-ne0 : goal.returns-then-number-ne0
returns-then-number-ne0 c =
    record {
      does = λ x vs ps s h. cases.refused_held c.check_case-c.ensures x vs ps s h c.if-p-o.false
          c.if-o-ge200000.false c.refusal_of-number.ensures c.if-number-ne0.true c.refused_case.ensures;
    }

pub found_case-requires : goal.found_case-requires
found_case-requires c = (omega (arith, c.if-p-o.false, c.requires.fitted.cases), c.if-o-ge200000.false)

pub returns-then-is_violation : goal.returns-then-is_violation
returns-then-is_violation c =
    record {
      does = λ x vs ps s h. cases.found_held c.check_case-c.ensures x vs ps s h c.if-p-o.false c.if-o-ge200000.false
          c.refusal_of-number.ensures c.if-number-ne0.false c.is_violation.ensures c.if-is_violation.true
          (omega (arith, c.requires.events)) c.found_case.ensures;
    }

pub gather-count-requires : goal.gather-count-requires
gather-count-requires c = c.requires.fitted.area

pub other_case-requires : goal.other_case-requires
other_case-requires c = (omega (arith, c.if-p-o.false, c.requires.fitted.cases), c.if-o-ge200000.false)

pub returns : goal.returns
returns c =
    record {
      does = λ x vs ps s h. cases.other_held c.check_case-c.ensures x vs ps s h c.if-p-o.false c.if-o-ge200000.false
          c.refusal_of-number.ensures c.if-number-ne0.false c.is_violation.ensures c.if-is_violation.false c.gather-count.ensures
          c.other_case.ensures;
    }
