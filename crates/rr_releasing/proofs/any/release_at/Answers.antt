use Rattle.std.proofs.Common.{refl}
use Rattle.rr_store.specs.Clearing.{is_pending_response}
use Rattle.rr_store.specs.Releasing.{is_active_request, is_loaned_request, is_loaned_response, is_received_response}
use Rattle.rr_store.specs.Opened.{opened}
use Rattle.rr_releasing.proofs.steps.Any.{asked, either}
use Rattle.rr_releasing.proofs.any.release_at.Goals as goal

pub release_request_at-requires-clause-kind : goal.release_request_at-requires-clause-kind
release_request_at-requires-clause-kind g c =
    either (opened c.args.store.now) c.args.number c.args.place c.at.result c.at.ensures is_loaned_request c.in-RequestMutUninit.is refl
    refl

pub release_pending_at-requires-clause-kind : goal.release_pending_at-requires-clause-kind
release_pending_at-requires-clause-kind g c =
    asked (opened c.args.store.now) c.args.number c.args.place c.at.result c.at.ensures is_pending_response c.in-PendingResponse.is refl

pub release_active_at-requires-clause-kind : goal.release_active_at-requires-clause-kind
release_active_at-requires-clause-kind g c =
    asked (opened c.args.store.now) c.args.number c.args.place c.at.result c.at.ensures is_active_request c.in-ActiveRequest.is refl

pub release_response_loan_at-requires-clause-kind : goal.release_response_loan_at-requires-clause-kind
release_response_loan_at-requires-clause-kind g c =
    either (opened c.args.store.now) c.args.number c.args.place c.at.result c.at.ensures is_loaned_response c.in-ResponseMutUninit.is
    refl refl

pub release_received_at-requires-clause-kind : goal.release_received_at-requires-clause-kind
release_received_at-requires-clause-kind g c =
    asked (opened c.args.store.now) c.args.number c.args.place c.at.result c.at.ensures is_received_response c.in-Response.is refl
