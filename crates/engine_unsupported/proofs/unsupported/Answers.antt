use borrow.Author.Rules.{rules}
use mathlib.Core.Path.{refl, sym, ◌∙◌}
use Rattle.engine_unsupported.proofs.Laws as laws
use Rattle.reasons.proofs.Listing as listing
use Rattle.reasons.proofs.Cleaning.{clean_zeros}
use Rattle.engine_unsupported.proofs.unsupported.Goals as goal

pub loop-i-init : goal.loop-i-init
loop-i-init c = ((refl, (c.at_most-rules.ensures.1, λ t. clean_zeros _ c.requires.1)), laws.rules_start _ _ _ _ c.at_most-rules.ensures.0)

pub loop-i-preserved : goal.loop-i-preserved
loop-i-preserved c = (
  (
    search rules,
    (c.loop-i.invariant.0.1.0, λ t. c.rule_notes-k.ensures.clean t (c.loop-i.invariant.0.1.1 t)),
  ),
  c.loop-i.invariant.1 ∙ laws.rules_more _ _ _ _ _ _ c.loop-i-test.true c.rule_notes-k.ensures.is,
)

pub returns : goal.returns
returns c =
    let l = c.loop-i in
    let e = sym (l.invariant.1 ∙ laws.rules_end _ _ _ _ _ c.loop-i-test.false) in
    record { many = listing.count_is _ _ _ e; texts = e; clean = l.invariant.0.1.1 }
