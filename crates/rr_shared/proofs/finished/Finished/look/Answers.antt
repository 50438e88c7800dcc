use Rattle.std.proofs.Common.{ap, ◌∙◌, rules, subst, sym}
use Rattle.rr_protocol.specs.AnswerRule.{ReceivesOnce}
use Rattle.rr_log.specs.Entries.{entries_of}
use Rattle.rr_shared.specs.Histories.{without_callers}
use Rattle.rr_shared.proofs.Laws.{no_more}
use Rattle.rr_shared.proofs.finished.Finished.look.Goals as goal

-- the whole log is what it was
pub invariant_of-self : goal.invariant_of-self
invariant_of-self g c =
    let again = ap (λ pen. pen.entries) c.catch_up.ensures.pen ∙ ap (λ inside. inside.desk) c.self-inside.view_is in
    (search rules, subst (λ calls. ReceivesOnce (without_callers calls)) (sym again) c.self.invariant.1)

-- and the seat has seen it
pub invariant_of-seat : goal.invariant_of-seat
invariant_of-seat g c =
    let all = ap (λ b. b.entries) c.catch_up.ensures.seen ∙ ap (λ inside. inside.desk) c.self-inside.view_is in
    (search rules, subst (λ calls. ReceivesOnce (without_callers calls)) (sym all) c.self.invariant.1)

pub returns-clause-own : goal.returns-clause-own
returns-clause-own g c =
    ap (λ b. entries_of b.caller b.entries) c.catch_up.ensures.seen ∙ no_more _ _ _ c.catch_up.ensures.follows
    ∙ ap (λ s. entries_of s.0 s.1) c.seat.view_is
