use Rattle.std.proofs.Common.{◌≡◌, length, Ok, Some, ◌∙◌}
use Rattle.rr_protocol.specs.declared.kind.Kind.TheVariants as kind
use Rattle.rr_protocol.specs.Queries.{kind_at}
use Rattle.rr_ports.specs.Facts.{Has}
use Rattle.rr_ports.proofs.LoanLaws.{response_loan_names}
use Rattle.rr_ports.proofs.WriteLaws.{responses, written}
use Rattle.rr_bytes.proofs.Copying.{asks_response, loaned_response, response_completed}
use Rattle.rr_bytes.proofs.slices.copies.copied_response.Goals.{In_ok-response}
use Rattle.rr_bytes.proofs.slices.copies.copied_response.Goals as goal

-- the response that was loaned is being written
being_written : (g : _) (c : In_ok-response g) → kind_at c.loan_response.new.self c.in_ok-response.response ≡ Some kind.ResponseMutUninit
unfolding Has
being_written g c =
    response_loan_names g.H.Default.is_default c.args.core.now c.loan_response.new.self c.args.active.now (length c.args.elements.now) (Ok c.in_ok-response.response)
    c.in_ok-response.ensures.loans c.in_ok-response.ensures.unnamed

pub copy_response-requires-clause-kind : goal.copy_response-requires-clause-kind
copy_response-requires-clause-kind g c = being_written g (goal.at.copy_response-requires-clause-kind g c).In_ok-response

pub copy_response-requires-clause-len : goal.copy_response-requires-clause-len
copy_response-requires-clause-len g c =
    asks_response g.H.Default.is_default c.args.core.now c.loan_response.new.self c.args.active.now (length c.args.elements.now) c.in_ok-response.response c.in_ok-response.ensures.loans

pub returns-clause-copies : goal.returns-clause-copies
returns-clause-copies g c =
    let l = loaned_response g.H.Default.is_default c.args.core.now c.loan_response.new.self c.args.active.now (length c.args.elements.now) c.in_ok-response.response
    c.in_ok-response.ensures.loans in (
      c.loan_response.new.self,
      c.in_ok-response.ensures.loans,
      c.copy_response.ensures ∙ response_completed c.loan_response.new.self c.in_ok-response.response c.args.elements.now l.0 l.1,
    )

pub returns-clause-kind : goal.returns-clause-kind
unfolding Has
returns-clause-kind g c =
    (written c.loan_response.new.self c.copy_response.new.self c.in_ok-response.response responses
    (being_written g (goal.at.returns-clause-kind g c).In_ok-response) c.args.elements.now c.copy_response.ensures).kind
