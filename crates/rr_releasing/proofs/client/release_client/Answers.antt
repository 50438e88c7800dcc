use Rattle.rr_store.specs.Opened.{opened}
use Rattle.rr_store.proofs.base.senders.Ports.{asked_within}
use Rattle.rr_releasing.proofs.steps.Valueless.{client_core, client_view}
use Rattle.rr_releasing.proofs.client.release_client.Goals as goal

pub leave_client_if_unused-requires-clause-index : goal.leave_client_if_unused-requires-clause-index
leave_client_if_unused-requires-clause-index g c = asked_within _ _ _ c.end_client_value-index.ensures.named

pub returns-clause-core : goal.returns-clause-core
returns-clause-core g c =
    client_core (opened c.args.store.now) c.requires.core c.args.client c.requires.kind (opened c.end_client_value-index.new.store)
    c.end_client_value-index.ensures.gone _ c.end_client_value-index.ensures.named (opened c.leave_client_if_unused.new.store)
    c.leave_client_if_unused.ensures.view c.leave_client_if_unused.ensures.sound

pub returns-clause-view : goal.returns-clause-view
returns-clause-view g c =
    client_view (opened c.args.store.now) c.requires.core c.args.client c.requires.kind (opened c.end_client_value-index.new.store)
    c.end_client_value-index.ensures.gone _ c.end_client_value-index.ensures.named (opened c.leave_client_if_unused.new.store)
    c.leave_client_if_unused.ensures.view
