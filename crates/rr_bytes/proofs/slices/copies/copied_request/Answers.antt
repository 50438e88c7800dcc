use Rattle.std.proofs.Common.{◌≡◌, length, Ok, Some, ◌∙◌}
use Rattle.rr_protocol.specs.declared.kind.Kind.TheVariants as kind
use Rattle.rr_protocol.specs.Queries.{kind_at}
use Rattle.rr_ports.specs.Facts.{Has}
use Rattle.rr_ports.proofs.LoanLaws.{loan_names}
use Rattle.rr_ports.proofs.WriteLaws.{requests, written}
use Rattle.rr_bytes.proofs.Copying.{asks_request, loaned_request, request_completed}
use Rattle.rr_bytes.proofs.slices.copies.copied_request.Goals.{In_ok-request}
use Rattle.rr_bytes.proofs.slices.copies.copied_request.Goals as goal

-- the request that was loaned is being written
being_written : (g : _) (c : In_ok-request g) → kind_at c.loan_request.new.self c.in_ok-request.request ≡ Some kind.RequestMutUninit
unfolding Has
being_written g c =
    loan_names g.H.Default.is_default c.args.core.now c.loan_request.new.self c.args.client (length c.args.elements.now) (Ok c.in_ok-request.request)
    c.in_ok-request.ensures.loans c.in_ok-request.ensures.unnamed

pub copy_request-requires-clause-kind : goal.copy_request-requires-clause-kind
copy_request-requires-clause-kind g c = being_written g (goal.at.copy_request-requires-clause-kind g c).In_ok-request

pub copy_request-requires-clause-len : goal.copy_request-requires-clause-len
copy_request-requires-clause-len g c =
    asks_request g.H.Default.is_default c.args.core.now c.loan_request.new.self c.args.client (length c.args.elements.now) c.in_ok-request.request c.in_ok-request.ensures.loans

pub returns-clause-copies : goal.returns-clause-copies
returns-clause-copies g c =
    let l = loaned_request g.H.Default.is_default c.args.core.now c.loan_request.new.self c.args.client (length c.args.elements.now) c.in_ok-request.request
    c.in_ok-request.ensures.loans in (
      c.loan_request.new.self,
      c.in_ok-request.ensures.loans,
      c.copy_request.ensures ∙ request_completed c.loan_request.new.self c.in_ok-request.request c.args.elements.now l.0 l.1,
    )

pub returns-clause-kind : goal.returns-clause-kind
unfolding Has
returns-clause-kind g c =
    (written c.loan_request.new.self c.copy_request.new.self c.in_ok-request.request requests
    (being_written g (goal.at.returns-clause-kind g c).In_ok-request) c.args.elements.now c.copy_request.ensures).kind
