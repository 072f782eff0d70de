use borrow.Author.Rules.{rules}
use mathlib.Core.Path.{◌≡◌}
use lib.ListN.{get_or}
use Rattle.reasons.proofs.Forms as forms
use Rattle.reasons.proofs.words_start.Goals as goal

pub returns : goal.returns
returns c =
    let r : c.unwrap_or.result ≡ get_or forms.starts c.args.kind 0 = search rules in
    rw r (forms.start_is c.args.kind)
