use Rattle.show.proofs.Laws as show
use Rattle.print_verify.proofs.Laws as laws
use Rattle.print_verify.proofs.put_found.Goals as goal

pub returns-in-Refused : goal.returns-in-Refused
returns-in-Refused c = show.is (laws.refused c.args.status _ (cc)) c.put_refused.ensures

pub returns-in-NoCounterexampleWithinBounds : goal.returns-in-NoCounterexampleWithinBounds
returns-in-NoCounterexampleWithinBounds c = show.is (laws.none_found c.args.status (cc)) c.put.ensures

pub returns-in-Counterexample : goal.returns-in-Counterexample
returns-in-Counterexample c = show.is (laws.found_one c.args.status (cc)) c.put-in-Counterexample.ensures

pub returns-in-Inconclusive : goal.returns-in-Inconclusive
returns-in-Inconclusive c = show.is (laws.unclear c.args.status (cc)) c.put-in-Inconclusive.ensures
