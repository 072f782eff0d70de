use borrow.Author.Rules.{rules}
use Rattle.show.proofs.Laws as show
use Rattle.check_lines.proofs.Laws as laws
use Rattle.check_lines.proofs.put_message.Goals as goal

pub returns-in-1 : goal.returns-in-1
returns-in-1 c =
    show.is (laws.prohibited _ _ c.in-1.is)
    c.put_quoted.ensures

pub returns-in-2 : goal.returns-in-2
returns-in-2 c =
    show.is (laws.guarded _ _ c.in-2.is)
    c.put_quoted-in-2.ensures

pub returns-in-3 : goal.returns-in-3
returns-in-3 c =
    show.is (laws.forbidden _ _ c.in-3.is)
    c.put_quoted-in-3.ensures

pub returns-in_default : goal.returns-in_default
returns-in_default c = show.is (laws.late _ _ (search rules) (search rules) (search rules)) c.put_deadline.ensures
