use Rattle.std.proofs.Common.{◌≡◌, ap, ◌∙◌, rules}
use Rattle.rr_laws.proofs.AnswerRuleHolds.{keeps_answer_rule}
use Rattle.rr_shared.specs.Histories.{without_callers}
use Rattle.rr_shared.proofs.Going.{goes_on, made_call, may_copy}
use Rattle.rr_shared.proofs.desk.Desk.apply.Goals as goal

-- the log goes on by the call
pub invariant_of-self : goal.invariant_of-self
invariant_of-self g c = (
  ap (λ w. w.log_id) c.append.ensures.pen ∙ c.requires,
  goes_on g.K.BackpressureFn.action g.T.Default.is_default g.H.Default.is_default g.B.Body.family g.N.Naming.limits g.N.Naming.node_id
      c.seat.inside.seen.caller c.self.inside.pen.entries c.append.new.pen.entries c.of.result c.self.inside.runner c.apply-reply.new.self
      c.args.command c.apply-reply.result
      (ap (λ w. w.entries) c.append.ensures.pen)
      (c.of.ensures ∙ ap (λ command. (command, c.apply-reply.result)) c.of-asked.ensures)
      c.self.invariant.1 c.apply-reply.ensures.step,
  c.self.invariant.2,
)

pub returns-clause-call : goal.returns-clause-call
returns-clause-call g c =
    let others = c.append.ensures.follows in
    let was = c.seat.inside.seen in
    let now = c.append.new.seen in
    let caller : was.caller ≡ c.args.seat.now.0 = ap (λ p. p.0) c.seat.view_is in
    let seen : was.entries ≡ c.args.seat.now.1 = ap (λ p. p.1) c.seat.view_is in
    let same : now.caller ≡ was.caller = ap (λ b. b.caller) c.append.ensures.seen in
    let longer =
    made_call was.caller was.entries others.0 c.self.inside.pen.entries c.append.new.pen.entries now.entries c.of.result
    (c.args.command, c.apply-reply.result) others.1 (ap (λ w. w.entries) c.append.ensures.pen) (ap (λ b. b.entries) c.append.ensures.seen)
    (c.of.ensures ∙ ap (λ command. (command, c.apply-reply.result)) c.of-asked.ensures) in
    rw (← caller, ← seen) (others.0, (λ i. (same i, longer i)), others.2)

-- the seat has then seen the whole log
pub returns-clause-legal : goal.returns-clause-legal
returns-clause-legal g c = (
  c.apply-reply.new.self,
  goes_on g.K.BackpressureFn.action g.T.Default.is_default g.H.Default.is_default g.B.Body.family g.N.Naming.limits g.N.Naming.node_id
      c.seat.inside.seen.caller c.self.inside.pen.entries c.append.new.seen.entries c.of.result c.self.inside.runner c.apply-reply.new.self
      c.args.command c.apply-reply.result
      (ap (λ b. b.entries) c.append.ensures.seen ∙ ap (λ w. w.entries) c.append.ensures.pen)
      (c.of.ensures ∙ ap (λ command. (command, c.apply-reply.result)) c.of-asked.ensures)
      c.self.invariant.1 c.apply-reply.ensures.step,
)

pub returns-clause-memory : goal.returns-clause-memory
returns-clause-memory g c = λ none. may_copy g.B.Body.family c.self.inside.runner c.args.command (c.apply-reply.ensures.memory none)

-- a legal history receives no response twice
pub invariant_of-seat : goal.invariant_of-seat
invariant_of-seat g c =
    let legal = returns-clause-legal g c in (
      search rules,
      (keeps_answer_rule g.K.BackpressureFn.action g.T.Default.is_default g.H.Default.is_default g.B.Body.family g.N.Naming.limits
          g.N.Naming.node_id c.self.invariant.2 (without_callers c.append.new.seen.entries) legal.0 legal.1).once,
    )
