use Rattle.show.proofs.Laws as show
use Rattle.print_check.proofs.Laws as laws
use Rattle.print_check.proofs.put_status.Goals as goal

pub returns-in-Refused : goal.returns-in-Refused
returns-in-Refused c = show.is (laws.refused c.args.status _ (cc)) c.put_refused.ensures

pub returns-in-Unknown : goal.returns-in-Unknown
returns-in-Unknown c = show.is (laws.unknown c.args.status (cc)) c.put.ensures

pub returns-in-Violation : goal.returns-in-Violation
returns-in-Violation c = show.is (laws.violation c.args.status (cc)) c.put-in-Violation.ensures

pub returns-in-Incomplete : goal.returns-in-Incomplete
returns-in-Incomplete c = show.is (laws.incomplete c.args.status (cc)) c.put-in-Incomplete.ensures

pub returns-in-NoViolationInTrace : goal.returns-in-NoViolationInTrace
returns-in-NoViolationInTrace c = show.is (laws.no_violation c.args.status (cc)) c.put-in-NoViolationInTrace.ensures
