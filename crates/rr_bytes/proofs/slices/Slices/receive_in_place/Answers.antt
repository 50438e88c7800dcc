use Rattle.rr_bytes.proofs.Placing.{received_kind}
use Rattle.rr_bytes.proofs.slices.Slices.receive_in_place.Goals as goal

pub returns-clause-kind : goal.returns-clause-kind
returns-clause-kind g c =
    received_kind g.K.BackpressureFn.action g.T.Default.is_default g.H.Default.is_default c.args.self.now c.receive-received.new.self c.args.id.now.number
    (rw c.self.view_is at c.reached.ensures.reached) c.receive-received.result c.receive-received.ensures
