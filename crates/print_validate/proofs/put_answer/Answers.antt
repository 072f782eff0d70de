use Rattle.show.proofs.Laws as laws
use Rattle.print_validate.proofs.Laws as cases
use Rattle.print_validate.proofs.put_answer.Goals as goal

pub returns-in-Accepted : goal.returns-in-Accepted
returns-in-Accepted c = laws.is (cases.when_accepted _ (cc)) c.put_accepted.ensures

pub returns-in-Refused : goal.returns-in-Refused
returns-in-Refused c = laws.is (cases.when_refused _ _ (cc)) c.put_refused.ensures
