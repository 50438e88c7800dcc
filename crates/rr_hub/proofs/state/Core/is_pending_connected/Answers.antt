use Rattle.rr_hub.proofs.queries.Pending.{marks_asked, told_then}
use Rattle.rr_hub.proofs.state.Core.is_pending_connected.Goals as goal

pub is_answerable-requires-clause-sender : goal.is_answerable-requires-clause-sender
is_answerable-requires-clause-sender g c =
    (marks_asked c.self.invariant c.self.view_is c.args.id.now c.look_up-entry.ensures c.requires).sender

pub is_answerable-requires-clause-start : goal.is_answerable-requires-clause-start
is_answerable-requires-clause-start g c =
    (marks_asked c.self.invariant c.self.view_is c.args.id.now c.look_up-entry.ensures c.requires).start

pub is_answerable-requires-clause-marks : goal.is_answerable-requires-clause-marks
is_answerable-requires-clause-marks g c =
    (marks_asked c.self.invariant c.self.view_is c.args.id.now c.look_up-entry.ensures c.requires).marks

pub returns : goal.returns
returns g c = told_then c.self.invariant c.self.view_is c.args.id.now c.look_up-entry.ensures c.requires _ c.is_answerable.ensures
