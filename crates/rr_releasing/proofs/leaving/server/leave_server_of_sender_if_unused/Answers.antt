use Rattle.rr_store.specs.Opened.{opened}
use Rattle.rr_releasing.proofs.steps.UnusedServer.{sender_asked, value_then}
use Rattle.rr_releasing.proofs.leaving.server.leave_server_of_sender_if_unused.Goals as goal

pub has_value-requires : goal.has_value-requires
has_value-requires g c = sender_asked (opened c.args.store.now) c.requires.sound c.args.sender c.requires.port

pub returns-else-not-has_value-clause-view : goal.returns-else-not-has_value-clause-view
returns-else-not-has_value-clause-view g c =
    value_then (opened c.args.store.now) c.requires.sound c.args.sender c.requires.port _ c.has_value.ensures
    c.if-not-has_value.false
