use mathlib.Core.Path.{sym}
use Rattle.model_sections.proofs.Laws as laws
use Rattle.model_sections.proofs.bad_counts.Goals as goal

pub returns-then-max-eq0 : goal.returns-then-max-eq0
returns-then-max-eq0 c = sym (laws.counts_1 _ _ _ c.if-max-eq0.true)

pub returns-then-max-gt16 : goal.returns-then-max-gt16
returns-then-max-gt16 c = sym (laws.counts_2 _ _ _ c.if-max-eq0.false c.if-max-gt16.true)

pub returns-then-triggers-eq0 : goal.returns-then-triggers-eq0
returns-then-triggers-eq0 c = sym (laws.counts_3 _ _ _ c.if-max-eq0.false c.if-max-gt16.false c.if-triggers-eq0.true)

pub returns-then-triggers-gt16 : goal.returns-then-triggers-gt16
returns-then-triggers-gt16 c = sym (laws.counts_4 _ _ _ c.if-max-eq0.false c.if-max-gt16.false c.if-triggers-eq0.false c.if-triggers-gt16.true)

pub returns : goal.returns
returns c = sym (laws.counts_5 _ _ _ c.if-max-eq0.false c.if-max-gt16.false c.if-triggers-eq0.false c.if-triggers-gt16.false)
