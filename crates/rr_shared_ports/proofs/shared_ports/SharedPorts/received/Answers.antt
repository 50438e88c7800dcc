use Rattle.std.proofs.Common.{◌∙◌}
use Rattle.rr_shared_ports.proofs.Words.{[], refl, sym, subst, ap, FnOnceReturnsAtMut, Option, Result, IsReceived, ReceivesFree, makes_call, steps_from}
use Rattle.rr_shared_ports.proofs.shared_ports.SharedPorts.received.Goals as goal

-- what is received is claimed
pub granted_some-answer-requires-clause-receives : goal.granted_some-answer-requires-clause-receives
granted_some-answer-requires-clause-receives g c κs within =
    let is = ap (λ k. k.state) c.look.ensures.same ∙ c.desk.invariant.1 in
    let made : FnOnceReturnsAtMut g.F.FnOnce c.args.f c.desk.inside.ports c.f-answer.result c.f-answer.new.arg2 = record { shown = _; shows = refl; left = _; met = c.f-answer.ensures; leaves = refl } in
    subst (λ s. ReceivesFree g.B.Handle.number g.B.Handle.kind g.H.Ports.steps g.H.Ports.is_free g.H.Ports.names s c.f-answer.result c.f-answer.new.arg2) (sym is) (c.requires.receives c.desk.inside.ports c.f-answer.result c.f-answer.new.arg2 made)

-- and a step
pub noted-requires-clause-steps : goal.noted-requires-clause-steps
noted-requires-clause-steps g c κs within =
    let made : FnOnceReturnsAtMut g.F.FnOnce c.args.f c.desk.inside.ports c.f-answer.result c.f-answer.new.arg2 = record { shown = _; shows = refl; left = _; met = c.f-answer.ensures; leaves = refl } in
    steps_from g.H.Ports.steps (g.H.Ports.empty g.N.Naming.limits g.N.Naming.node_id) c.desk.inside.pen.entries c.desk.inside.ports c.f-answer.new.arg2 [] c.desk.invariant.3 (c.requires.receives c.desk.inside.ports c.f-answer.result c.f-answer.new.arg2 made).0

-- what is noted is the call
pub returns : goal.returns
returns g c =
    let made : FnOnceReturnsAtMut g.F.FnOnce c.args.f c.desk.inside.ports c.f-answer.result c.f-answer.new.arg2 = record { shown = _; shows = refl; left = _; met = c.f-answer.ensures; leaves = refl } in
    let Call : g.row.H.Denot → g.row.H.Denot → Type 0 = λ before after. (received : Result (Option g.row.B.Denot) g.row.E.Denot) × FnOnceReturnsAtMut g.F.FnOnce c.args.f before received after × IsReceived g.B.Handle.number received c.granted_some-answer.result in
    makes_call (g.H.Ports.empty g.N.Naming.limits g.N.Naming.node_id) Call c.desk.inside.pen.entries c.desk.inside.ports c.f-answer.new.arg2 c.args.seat.now c.noted.new.seat c.noted.ensures.noted c.desk.invariant.3 (c.f-answer.result, made, c.granted_some-answer.ensures.received)
