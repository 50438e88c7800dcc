use Rattle.rr_store.specs.Opened.{opened}
use Rattle.rr_releasing.proofs.steps.Released.{released}
use Rattle.rr_releasing.proofs.pending.release_pending_at.Goals as goal

pub returns : goal.returns
returns g c =
    let both = released (opened c.args.store.now) c.requires.core c.args.number _ (opened c.end_pending-sender.new.store)
    c.end_pending-sender.ensures.gone (opened c.leave_client_of_sender_if_unused.new.store) c.leave_client_of_sender_if_unused.ensures.view
    c.leave_client_of_sender_if_unused.ensures.sound in
    record { core = both.0; view = both.1 }
