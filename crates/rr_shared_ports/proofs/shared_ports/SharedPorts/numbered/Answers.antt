use Rattle.std.proofs.Common.{◌∙◌}
use Rattle.rr_shared_ports.proofs.Words.{[], refl, sym, subst, ap, inl, FnOnceReturnsAtMut, Tells, makes_call, steps_from}
use Rattle.rr_shared_ports.proofs.shared_ports.SharedPorts.numbered.Goals as goal

-- all claims are kept
pub kept-requires : goal.kept-requires
kept-requires g c =
    let is = ap (λ k. k.state) c.look.ensures.same ∙ c.desk.invariant.1 in
    let made : FnOnceReturnsAtMut g.F.FnOnce c.args.f c.desk.inside.ports c.f-answer.result c.f-answer.new.arg2 = record { shown = _; shows = refl; left = _; met = c.f-answer.ensures; leaves = refl } in
    record { keeps = subst (λ s. g.H.Ports.steps [] s c.f-answer.new.arg2) (sym is) (c.requires.keeps c.desk.inside.ports c.f-answer.result c.f-answer.new.arg2 made) }

-- and a step
pub noted-requires-2-clause-steps : goal.noted-requires-2-clause-steps
noted-requires-2-clause-steps g c κs within =
    let made : FnOnceReturnsAtMut g.F.FnOnce c.args.f c.desk.inside.ports c.f-answer.result c.f-answer.new.arg2 = record { shown = _; shows = refl; left = _; met = c.f-answer.ensures; leaves = refl } in
    steps_from g.H.Ports.steps (g.H.Ports.empty g.N.Naming.limits g.N.Naming.node_id) c.desk.inside.pen.entries c.desk.inside.ports c.f-answer.new.arg2 [] c.desk.invariant.3 (c.requires.keeps c.desk.inside.ports c.f-answer.result c.f-answer.new.arg2 made)

-- what is noted is the call
pub returns : goal.returns
returns g c =
    let made : FnOnceReturnsAtMut g.F.FnOnce c.args.f c.desk.inside.ports c.f-answer.result c.f-answer.new.arg2 = record { shown = _; shows = refl; left = _; met = c.f-answer.ensures; leaves = refl } in
    let Call : g.row.H.Denot → g.row.H.Denot → Type 0 = Tells g.H.Ports.numbers (λ answer before after. FnOnceReturnsAtMut g.F.FnOnce c.args.f before answer after) c.told.result in
    makes_call (g.H.Ports.empty g.N.Naming.limits g.N.Naming.node_id) Call c.desk.inside.pen.entries c.desk.inside.ports c.f-answer.new.arg2 c.args.seat.now c.noted-2.new.seat c.noted-2.ensures.noted c.desk.invariant.3 (inl (c.f-answer.result, c.told.ensures, made))
