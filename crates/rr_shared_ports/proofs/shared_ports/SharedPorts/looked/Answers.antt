use Rattle.std.proofs.Common.{◌≡◌}
use Rattle.rr_shared_ports.proofs.Words.{refl, FnOnceReturnsAt, makes_call}
use Rattle.rr_shared_ports.proofs.shared_ports.SharedPorts.looked.Goals as goal

-- what is noted is the call
pub returns : goal.returns
returns g c =
    let Call : g.row.H.Denot → g.row.H.Denot → Type 0 = λ before after. (after ≡ before) × FnOnceReturnsAt g.F.FnOnce c.args.f before c.f-answer.result in
    let looks : FnOnceReturnsAt g.F.FnOnce c.args.f c.desk.inside.ports c.f-answer.result = (_, c.f-answer.ensures, refl) in
    makes_call (g.H.Ports.empty g.N.Naming.limits g.N.Naming.node_id) Call c.desk.inside.pen.entries c.desk.inside.ports c.desk.inside.ports c.args.seat.now c.noted.new.seat c.noted.ensures.noted c.desk.invariant.3 (refl, looks)
