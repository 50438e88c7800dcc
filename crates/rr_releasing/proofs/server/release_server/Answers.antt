use Rattle.rr_store.specs.Opened.{opened}
use Rattle.rr_store.proofs.base.senders.Ports.{asked_within}
use Rattle.rr_releasing.proofs.steps.Valueless.{server_core, server_view}
use Rattle.rr_releasing.proofs.server.release_server.Goals as goal

pub leave_server_if_unused-requires-clause-index : goal.leave_server_if_unused-requires-clause-index
leave_server_if_unused-requires-clause-index g c = asked_within _ _ _ c.end_server_value-index.ensures.named

pub returns-clause-core : goal.returns-clause-core
returns-clause-core g c =
    server_core (opened c.args.store.now) c.requires.core c.args.server c.requires.kind (opened c.end_server_value-index.new.store)
    c.end_server_value-index.ensures.gone _ c.end_server_value-index.ensures.named (opened c.leave_server_if_unused.new.store)
    c.leave_server_if_unused.ensures.view c.leave_server_if_unused.ensures.sound

pub returns-clause-view : goal.returns-clause-view
returns-clause-view g c =
    server_view (opened c.args.store.now) c.requires.core c.args.server c.requires.kind (opened c.end_server_value-index.new.store)
    c.end_server_value-index.ensures.gone _ c.end_server_value-index.ensures.named (opened c.leave_server_if_unused.new.store)
    c.leave_server_if_unused.ensures.view
