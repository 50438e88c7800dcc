use Rattle.std.proofs.Common.{sym, ◌∙◌}
use Rattle.rr_ports.specs.Facts.{Has}
use Rattle.rr_ports.proofs.Fillings.{request_being_written}
use Rattle.rr_ports.proofs.WriteLaws.{requests, written}
use Rattle.rr_bytes.proofs.Copying.{request_completed}
use Rattle.rr_bytes.proofs.slices.writes.complete_request.Goals as goal

pub returns-clause-completes : goal.returns-clause-completes
returns-clause-completes g c =
    let m = request_being_written c.args.core.now c.args.id.now c.requires in
    let elements = c.complete_request.ensures.0 in
    let asked = rw (m.1) at c.complete_request.ensures.1 in
    rw (m.1) (
      elements,
      sym asked,
      c.complete_request.ensures.2 ∙ request_completed c.args.core.now c.args.id.now elements m.0 m.1,
    )

pub returns-clause-kind : goal.returns-clause-kind
unfolding Has
returns-clause-kind g c =
    (written c.args.core.now c.complete_request.new.self c.args.id.now requests c.requires c.complete_request.ensures.0 c.complete_request.ensures.2).kind
