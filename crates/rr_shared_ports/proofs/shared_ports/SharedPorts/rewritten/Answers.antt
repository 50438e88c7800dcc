use Rattle.std.proofs.Common.{◌∙◌, ◌∷◌}
use Rattle.rr_shared_ports.proofs.Words.{[], refl, sym, subst, ap, FnOnceReturnsAtMut, makes_call, steps_from}
use Rattle.rr_shared_ports.proofs.shared_ports.SharedPorts.rewritten.Goals as goal

-- the call keeps what is known of all numbers but the claimed one
pub renewed-requires-clause-keeps : goal.renewed-requires-clause-keeps
renewed-requires-clause-keeps g c =
    let is = ap (λ k. k.state) c.look.ensures.same ∙ c.desk.invariant.1 in
    let number = c.claimed.invariant.1 ∙ c.claimed.view_is in
    let made : FnOnceReturnsAtMut g.F.FnOnce c.args.f c.desk.inside.ports c.f-answer.result c.f-answer.new.arg2 = record { shown = _; shows = refl; left = _; met = c.f-answer.ensures; leaves = refl } in
    subst (λ n. g.H.Ports.steps (n ∷ []) c.look.new.self.state c.f-answer.new.arg2) (sym number) (subst (λ s. g.H.Ports.steps (c.args.claimed.now ∷ []) s c.f-answer.new.arg2) (sym is) (c.requires.rewrites c.desk.inside.ports c.f-answer.result c.f-answer.new.arg2 made).0)

-- and that names what it named
pub renewed-requires-clause-names : goal.renewed-requires-clause-names
renewed-requires-clause-names g c =
    let number = c.claimed.invariant.1 ∙ c.claimed.view_is in
    let made : FnOnceReturnsAtMut g.F.FnOnce c.args.f c.desk.inside.ports c.f-answer.result c.f-answer.new.arg2 = record { shown = _; shows = refl; left = _; met = c.f-answer.ensures; leaves = refl } in
    subst (λ k. g.H.Ports.names c.f-answer.new.arg2 c.claimed.inside.claim.number k) (sym c.claimed.invariant.2) (subst (λ n. g.H.Ports.names c.f-answer.new.arg2 n g.A.Handle.kind) (sym number) (c.requires.rewrites c.desk.inside.ports c.f-answer.result c.f-answer.new.arg2 made).1)

-- and a step
pub noted-requires-clause-steps : goal.noted-requires-clause-steps
noted-requires-clause-steps g c κs within =
    let made : FnOnceReturnsAtMut g.F.FnOnce c.args.f c.desk.inside.ports c.f-answer.result c.f-answer.new.arg2 = record { shown = _; shows = refl; left = _; met = c.f-answer.ensures; leaves = refl } in
    steps_from g.H.Ports.steps (g.H.Ports.empty g.N.Naming.limits g.N.Naming.node_id) c.desk.inside.pen.entries c.desk.inside.ports c.f-answer.new.arg2 (c.args.claimed.now ∷ []) c.desk.invariant.3 (c.requires.rewrites c.desk.inside.ports c.f-answer.result c.f-answer.new.arg2 made).0

-- what is noted is the call
pub returns : goal.returns
returns g c =
    let made : FnOnceReturnsAtMut g.F.FnOnce c.args.f c.desk.inside.ports c.f-answer.result c.f-answer.new.arg2 = record { shown = _; shows = refl; left = _; met = c.f-answer.ensures; leaves = refl } in
    let Call : g.row.H.Denot → g.row.H.Denot → Type 0 = λ before after. FnOnceReturnsAtMut g.F.FnOnce c.args.f before c.f-answer.result after in
    makes_call (g.H.Ports.empty g.N.Naming.limits g.N.Naming.node_id) Call c.desk.inside.pen.entries c.desk.inside.ports c.f-answer.new.arg2 c.args.seat.now c.noted.new.seat c.noted.ensures.noted c.desk.invariant.3 made
