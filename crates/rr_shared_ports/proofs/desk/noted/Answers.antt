use Rattle.std.proofs.Common.{◌∙◌}
use Rattle.rr_shared_ports.proofs.Words.{ℕ, List, ap, subst, sym, IsHistory, EndsIn, ends_in, history_grows}
use Rattle.rr_shared_ports.proofs.desk.noted.Goals as goal

-- the history goes on by the step
pub returns-clause-history : goal.returns-clause-history
returns-clause-history g c =
    let start = g.H.Ports.empty g.N.Naming.limits g.N.Naming.node_id in
    let entries : List (ℕ × g.row.H.Denot) = c.args.pen.now.entries in
    subst (λ calls. IsHistory g.H.Ports.steps start calls) (sym (ap (λ pen. pen.entries) c.append.ensures.pen))
    (history_grows g.H.Ports.steps start entries c.seat.inside.seen.caller c.args.ports.now c.requires.history c.requires.steps)

-- and so does what the seat has seen
pub invariant_of-seat : goal.invariant_of-seat
invariant_of-seat g c =
    let start = g.H.Ports.empty g.N.Naming.limits g.N.Naming.node_id in
    let history : IsHistory g.H.Ports.steps start c.append.new.pen.entries = returns-clause-history g c in
    (ap (λ seen. seen.log_id) c.append.ensures.seen ∙ c.requires.log, subst (λ calls. IsHistory g.H.Ports.steps start calls) (sym (ap (λ seen. seen.entries) c.append.ensures.seen)) history)

-- it leads to the hub's state
pub returns-clause-ends : goal.returns-clause-ends
returns-clause-ends g c =
    let entries : List (ℕ × g.row.H.Denot) = c.args.pen.now.entries in
    subst (λ calls. EndsIn c.args.ports.now calls) (sym (ap (λ pen. pen.entries) c.append.ensures.pen)) (ends_in entries c.seat.inside.seen.caller c.args.ports.now)
