use Rattle.rr_store.specs.Opened.{opened}
use Rattle.rr_releasing.proofs.steps.Released.{released}
use Rattle.rr_releasing.proofs.response_loan.release_response_loan_at.Goals as goal

pub returns : goal.returns
returns g c =
    let both = released (opened c.args.store.now) c.requires.core c.args.number _ (opened c.end_response-sender.new.store)
    c.end_response-sender.ensures.gone (opened c.leave_server_of_sender_if_unused.new.store) c.leave_server_of_sender_if_unused.ensures.view
    c.leave_server_of_sender_if_unused.ensures.sound in
    record { core = both.0; view = both.1 }
