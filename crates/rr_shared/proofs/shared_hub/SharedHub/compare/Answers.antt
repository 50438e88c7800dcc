use Rattle.std.proofs.Common.{◌∙◌, ap, rules, subst, sym}
use Rattle.rr_protocol.specs.AnswerRule.{ReceivesOnce}
use Rattle.rr_shared.specs.Histories.{without_callers}
use Rattle.rr_shared.specs.Laws.{HasReceived}
use Rattle.rr_shared.proofs.Laws.{received_once}
use Rattle.rr_shared.proofs.shared_hub.SharedHub.compare.Goals as goal

-- the seats stay as they were
pub invariant_of-one : goal.invariant_of-one
invariant_of-one g c =
    (search rules, subst (λ seen. ReceivesOnce (without_callers seen.entries)) (sym c.compare.ensures.same.0) c.one.invariant.1)

pub invariant_of-other : goal.invariant_of-other
invariant_of-other g c =
    (search rules, subst (λ seen. ReceivesOnce (without_callers seen.entries)) (sym c.compare.ensures.same.1) c.other.invariant.1)

-- they are two callers
pub returns-clause-differ : goal.returns-clause-differ
returns-clause-differ g c same =
    c.compare.ensures.differ (ap (λ seat. seat.0) c.one.view_is ∙ same ∙ sym (ap (λ seat. seat.0) c.other.view_is))

-- one history tells of both
pub returns-clause-once : goal.returns-clause-once
returns-clause-once g c k has also =
    let one = c.one.inside.seen in
    let other = c.other.inside.seen in
    c.compare.ensures.differ
    (received_once k (one.caller, one.entries) (other.caller, other.entries) c.compare.ensures.begins c.one.invariant.1 c.other.invariant.1
    (subst (λ seen. HasReceived k (seen.caller, seen.entries)) c.compare.ensures.same.0 has)
    (subst (λ seen. HasReceived k (seen.caller, seen.entries)) c.compare.ensures.same.1 also))
