use Rattle.rr_slots.specs.declared.family.Family.TheVariants.{Typed}
use Rattle.rr_laws.proofs.AnswerRuleHolds.{keeps_answer_rule}
use Rattle.rr_run.specs.Numbers.{IsZero, follow_strategy}
use Rattle.rr_locked.proofs.book.Book.history.Goals as goal

pub returns-clause-legal : goal.returns-clause-legal
returns-clause-legal g c = (c.self.inside.runner, rw (c.as_slice.ensures.value, ← c.self.view_is) c.self.invariant.legal)

pub returns-clause-answer_rule : goal.returns-clause-answer_rule
returns-clause-answer_rule g c =
    rw (c.as_slice.ensures.value, ← c.self.view_is)
    (keeps_answer_rule follow_strategy IsZero IsZero Typed c.self.inside.limits c.self.inside.node_id.0 c.self.invariant.makes_hub c.self.inside.history.items c.self.inside.runner c.self.invariant.legal)
