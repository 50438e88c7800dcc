use Rattle.std.proofs.Common.{◌∷◌, ◌∙◌}
use Rattle.rr_shared_ports.proofs.Words.{[], refl, sym, subst, ap, Result, IsMade, Takes, TurnsFree, makes_call, steps_from}
use Rattle.rr_shared_ports.proofs.shared_ports.SharedPorts.turned.Goals as goal

-- the claim is exchanged or given back
pub exchanged_if-answer-requires-clause-turns : goal.exchanged_if-answer-requires-clause-turns
exchanged_if-answer-requires-clause-turns g c κs within =
    let is = ap (λ k. k.state) c.look.ensures.same ∙ c.desk.invariant.1 in
    let number = c.claimed.invariant.1 ∙ c.claimed.view_is in
    let made : Takes g.F.FnOnce g.A.Handle.number c.args.f c.args.claimed c.desk.inside.ports c.f-answer.result c.f-answer.new.arg3 = (c.claimed.inside.handle, _, _, c.f-answer.ensures, c.claimed.view_is, refl, refl) in
    subst (λ n. TurnsFree g.B.Handle.number g.B.Handle.kind g.H.Ports.steps g.H.Ports.names n c.look.new.self.state c.f-answer.result c.f-answer.new.arg3) (sym number) (subst (λ s. TurnsFree g.B.Handle.number g.B.Handle.kind g.H.Ports.steps g.H.Ports.names c.args.claimed s c.f-answer.result c.f-answer.new.arg3) (sym is) (c.requires.exchanges c.desk.inside.ports c.f-answer.result c.f-answer.new.arg3 made))

-- and a step
pub noted-requires-clause-steps : goal.noted-requires-clause-steps
noted-requires-clause-steps g c κs within =
    let made : Takes g.F.FnOnce g.A.Handle.number c.args.f c.args.claimed c.desk.inside.ports c.f-answer.result c.f-answer.new.arg3 = (c.claimed.inside.handle, _, _, c.f-answer.ensures, c.claimed.view_is, refl, refl) in
    steps_from g.H.Ports.steps (g.H.Ports.empty g.N.Naming.limits g.N.Naming.node_id) c.desk.inside.pen.entries c.desk.inside.ports c.f-answer.new.arg3 (c.args.claimed ∷ []) c.desk.invariant.3 (c.requires.exchanges c.desk.inside.ports c.f-answer.result c.f-answer.new.arg3 made).0

-- what is noted is the call
pub returns : goal.returns
returns g c =
    let made : Takes g.F.FnOnce g.A.Handle.number c.args.f c.args.claimed c.desk.inside.ports c.f-answer.result c.f-answer.new.arg3 = (c.claimed.inside.handle, _, _, c.f-answer.ensures, c.claimed.view_is, refl, refl) in
    let Call : g.row.H.Denot → g.row.H.Denot → Type 0 = λ before after. (made : Result g.row.B.Denot g.row.E.Denot) × Takes g.F.FnOnce g.A.Handle.number c.args.f c.args.claimed before made after × IsMade g.B.Handle.number made c.exchanged_if-answer.result in
    makes_call (g.H.Ports.empty g.N.Naming.limits g.N.Naming.node_id) Call c.desk.inside.pen.entries c.desk.inside.ports c.f-answer.new.arg3 c.args.seat.now c.noted.new.seat c.noted.ensures.noted c.desk.invariant.3 (c.f-answer.result, made, c.exchanged_if-answer.ensures.made)
