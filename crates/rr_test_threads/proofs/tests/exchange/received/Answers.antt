use Rattle.rr_protocol.specs.State.{empty_hub}
use Rattle.rr_shared_ports.proofs.Readings.{received_answers}
use Rattle.rr_test_threads.proofs.tests.exchange.received.Goals as goal

-- the client reads its own receive as it made it
pub returns : goal.returns
returns g c =
    received_answers g.K.BackpressureFn.action g.QH.Default.is_default g.PH.Default.is_default g.N.Naming.limits (empty_hub g.N.Naming.limits g.N.Naming.node_id)
    c.args.pending.now c.receive-received.result c.args.seat.now c.receive-received.new.seat c.receive-received.ensures c.legal.ensures.calls c.legal.ensures.answer_rule
