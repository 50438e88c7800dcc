use Rattle.rr_store.specs.Opened.{opened}
use Rattle.rr_releasing.proofs.steps.Released.{released}
use Rattle.rr_releasing.proofs.received.take_received_at.Goals as goal

pub returns : goal.returns
returns g c =
    let both = released (opened c.args.store.now) c.requires.core c.args.number _ (opened c.end_taken-sender.new.store)
    c.end_taken-sender.ensures.gone (opened c.leave_client_of_sender_if_unused.new.store) c.leave_client_of_sender_if_unused.ensures.view
    c.leave_client_of_sender_if_unused.ensures.sound in
    record { core = both.0; view = both.1; elements = c.end_taken-sender.ensures.elements; asked = c.end_taken-sender.ensures.asked }
