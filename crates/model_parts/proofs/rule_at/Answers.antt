use mathlib.Core.Path.{sym, ◌∙◌}
use Rattle.model_parts.proofs.Laws as laws
use Rattle.model_walk.proofs.Laws as walks
use Rattle.model_parts.proofs.rule_at.Goals as goal

pub returns-in_err-p0 : goal.returns-in_err-p0
returns-in_err-p0 c = c.from_residual.ensures ∙ sym (laws.rule_is _ _ _ _ ∙ walks.broke _ _ _ _ _ c.place_at.ensures c.in_err-p0.was)

pub returns-in_err-p1 : goal.returns-in_err-p1
returns-in_err-p1 c =
    c.from_residual-in_err-p1.ensures ∙ sym (laws.rule_is _ _ _ _ ∙ walks.to _ _ _ _ _ c.place_at.ensures c.in_ok-p0.was
    ∙ walks.broke _ _ _ _ _ c.kind_at.ensures c.in_err-p1.was)

pub returns-in_err-p2 : goal.returns-in_err-p2
returns-in_err-p2 c =
    c.from_residual-in_err-p2.ensures ∙ sym (laws.rule_is _ _ _ _ ∙ walks.to _ _ _ _ _ c.place_at.ensures c.in_ok-p0.was
    ∙ walks.to _ _ _ _ _ c.kind_at.ensures c.in_ok-p1.was
    ∙ walks.broke _ _ _ _ _ c.bytes_at.ensures c.in_err-p2.was)

pub returns-in_err-p3 : goal.returns-in_err-p3
returns-in_err-p3 c =
    c.from_residual-in_err-p3.ensures ∙ sym (laws.rule_is _ _ _ _ ∙ walks.to _ _ _ _ _ c.place_at.ensures c.in_ok-p0.was
    ∙ walks.to _ _ _ _ _ c.kind_at.ensures c.in_ok-p1.was
    ∙ walks.to _ _ _ _ _ c.bytes_at.ensures c.in_ok-p2.was
    ∙ walks.broke _ _ _ _ _ c.pieces_at.ensures c.in_err-p3.was)

pub returns-in_err-p4 : goal.returns-in_err-p4
returns-in_err-p4 c =
    c.from_residual-in_err-p4.ensures ∙ sym (laws.rule_is _ _ _ _ ∙ walks.to _ _ _ _ _ c.place_at.ensures c.in_ok-p0.was
    ∙ walks.to _ _ _ _ _ c.kind_at.ensures c.in_ok-p1.was
    ∙ walks.to _ _ _ _ _ c.bytes_at.ensures c.in_ok-p2.was
    ∙ walks.to _ _ _ _ _ c.pieces_at.ensures c.in_ok-p3.was
    ∙ walks.broke _ _ _ _ _ c.pieces_at-2.ensures c.in_err-p4.was)

pub returns-in_err-p5 : goal.returns-in_err-p5
returns-in_err-p5 c =
    c.from_residual-in_err-p5.ensures ∙ sym (laws.rule_is _ _ _ _ ∙ walks.to _ _ _ _ _ c.place_at.ensures c.in_ok-p0.was
    ∙ walks.to _ _ _ _ _ c.kind_at.ensures c.in_ok-p1.was
    ∙ walks.to _ _ _ _ _ c.bytes_at.ensures c.in_ok-p2.was
    ∙ walks.to _ _ _ _ _ c.pieces_at.ensures c.in_ok-p3.was
    ∙ walks.to _ _ _ _ _ c.pieces_at-2.ensures c.in_ok-p4.was
    ∙ walks.broke _ _ _ _ _ c.actions_at.ensures c.in_err-p5.was)

pub returns-in_err-p6 : goal.returns-in_err-p6
returns-in_err-p6 c =
    c.from_residual-in_err-p6.ensures ∙ sym (laws.rule_is _ _ _ _ ∙ walks.to _ _ _ _ _ c.place_at.ensures c.in_ok-p0.was
    ∙ walks.to _ _ _ _ _ c.kind_at.ensures c.in_ok-p1.was
    ∙ walks.to _ _ _ _ _ c.bytes_at.ensures c.in_ok-p2.was
    ∙ walks.to _ _ _ _ _ c.pieces_at.ensures c.in_ok-p3.was
    ∙ walks.to _ _ _ _ _ c.pieces_at-2.ensures c.in_ok-p4.was
    ∙ walks.to _ _ _ _ _ c.actions_at.ensures c.in_ok-p5.was
    ∙ walks.broke _ _ _ _ _ c.bytes_at-2.ensures c.in_err-p6.was)

pub returns : goal.returns
returns c =
    c.pieces_at-3.ensures ∙ sym (laws.rule_is _ _ _ _ ∙ walks.to _ _ _ _ _ c.place_at.ensures c.in_ok-p0.was
    ∙ walks.to _ _ _ _ _ c.kind_at.ensures c.in_ok-p1.was
    ∙ walks.to _ _ _ _ _ c.bytes_at.ensures c.in_ok-p2.was
    ∙ walks.to _ _ _ _ _ c.pieces_at.ensures c.in_ok-p3.was
    ∙ walks.to _ _ _ _ _ c.pieces_at-2.ensures c.in_ok-p4.was
    ∙ walks.to _ _ _ _ _ c.actions_at.ensures c.in_ok-p5.was
    ∙ walks.to _ _ _ _ _ c.bytes_at-2.ensures c.in_ok-p6.was)
