use Rattle.queue.specs.Queue.{item_at}
use Rattle.queue.proofs.item_at.Goals as goal

pub returns : goal.returns
unfolding item_at
returns c = rw c.work_of.ensures
