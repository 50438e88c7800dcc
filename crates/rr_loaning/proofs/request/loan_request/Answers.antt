use Rattle.std.proofs.Common.{◌≡◌, ◌<◌, ◌+◌, ◌^◌, length, ap, ◌∙◌}
use Rattle.std.specs.Prelude.{◌==◌}
use Rattle.rr_laws.proofs.Memory.{request_finds_memory}
use Rattle.rr_store.specs.Asked.{CanInsert}
use Rattle.rr_store.specs.Opened.{opened}
use Rattle.rr_store.specs.Parts.{ClientPart}
use Rattle.rr_store.specs.Ports.{client_part}
use Rattle.rr_loaning.proofs.laws.Opened.{loaned_by}
use Rattle.rr_store.proofs.base.lists.Seen.{kept_at, kept_rising, kept_some, seen_at, seen_found}
use Rattle.rr_loaning.proofs.steps.Request.{client_asked, order_asked, refused, not_memory, sender_asked, out_of_memory, limit_asked, client_counts, sender_still, loans_still_fit, add_asked, loans, core_then}
use Rattle.rr_loaning.proofs.request.loan_request.Goals.{After-count_request_loan}
use Rattle.rr_loaning.proofs.request.loan_request.Goals as goal

pub index_of-index-requires-clause-rising : goal.index_of-index-requires-clause-rising
index_of-index-requires-clause-rising g c =
    kept_rising client_part c.args.store.now.clients.ports (λ (x : ClientPart _). x.port.id) (order_asked (opened c.args.store.now)
    c.requires.core c.args.client c.requires.kind)

pub index_of-index-requires-clause-present : goal.index_of-index-requires-clause-present
index_of-index-requires-clause-present g c =
    kept_some client_part c.args.store.now.clients.ports (λ (x : ClientPart _). x.port.id == c.args.client) (client_asked (opened
    c.args.store.now) c.requires.core c.args.client c.requires.kind)

pub request_loan_limit-requires-clause-sender : goal.request_loan_limit-requires-clause-sender
request_loan_limit-requires-clause-sender g c =
    kept_at client_part c.args.store.now.clients.ports c.index_of-index.result (λ (x : ClientPart _). x.sender < length
    c.args.store.now.clients.senders) (limit_asked (opened c.args.store.now) c.requires.core c.args.client c.requires.kind _ (seen_found
    client_part c.args.store.now.clients.ports (λ (x : ClientPart _). x.port.id == c.args.client) _ c.index_of-index.ensures))

pub returns-in-Some-clause-loans : goal.returns-in-Some-clause-loans
returns-in-Some-clause-loans g c =
    refused (opened c.args.store.now) c.requires.core c.args.client c.requires.kind _ (seen_found client_part
    c.args.store.now.clients.ports (λ (x : ClientPart _). x.port.id == c.args.client) _ c.index_of-index.ensures) _ _
    c.request_loan_limit.ensures
    g.QH.Default.is_default c.in-Some.refusal c.in-Some.is

pub returns-in-Some-clause-unreduced : goal.returns-in-Some-clause-unreduced
returns-in-Some-clause-unreduced g c pool same =
    not_memory (opened c.args.store.now) c.requires.core c.args.client c.requires.kind _ (seen_found client_part
    c.args.store.now.clients.ports (λ (x : ClientPart _). x.port.id == c.args.client) _ c.index_of-index.ensures) _ _
    c.request_loan_limit.ensures
    c.in-Some.refusal c.in-Some.is (let is : c.in-Some.refusal ≡ _ = cc in is)

pub loan-requires-clause-sender : goal.loan-requires-clause-sender
loan-requires-clause-sender g c =
    sender_asked (opened c.args.store.now) c.requires.core c.args.client c.requires.kind _ (seen_found client_part
    c.args.store.now.clients.ports (λ (x : ClientPart _). x.port.id == c.args.client) _ c.index_of-index.ensures) _ _
    c.request_loan_limit.ensures
    c.in_default.is _ (seen_at client_part c.args.store.now.clients.ports c.index_of-index.result (λ (x : ClientPart _).
    c.sender_of_port-sender.result ≡ x.sender) c.sender_of_port-sender.ensures)

pub count_request_loan-requires-clause-client : goal.count_request_loan-requires-clause-client
count_request_loan-requires-clause-client g c =
    kept_at client_part c.loan.new.self.ports c.index_of-index.result (λ (x : ClientPart _). x.loans_made + 1 < 2 ^ 64) (client_counts
    (opened c.args.store.now) c.requires.core c.args.client c.requires.kind _ (seen_found client_part c.args.store.now.clients.ports
    (λ (x : ClientPart _). x.port.id == c.args.client) _ c.index_of-index.ensures) _ _
    c.request_loan_limit.ensures
    c.in_default.is _ (seen_at client_part c.args.store.now.clients.ports c.index_of-index.result (λ (x : ClientPart _).
    c.sender_of_port-sender.result ≡ x.sender) c.sender_of_port-sender.ensures) _ c.new_request_details-details.ensures _ c.in-Ok.place _
    c.in-Ok.ensures.row
    c.in-Ok.ensures.free c.in-Ok.ensures.unused (ap (λ s. opened (record c.args.store.now { clients = s })) c.in-Ok.ensures.ok))

pub count_request_loan-requires-clause-sender : goal.count_request_loan-requires-clause-sender
count_request_loan-requires-clause-sender g c =
    sender_still (opened c.args.store.now) c.requires.core c.args.client c.requires.kind _ (seen_found client_part
    c.args.store.now.clients.ports (λ (x : ClientPart _). x.port.id == c.args.client) _ c.index_of-index.ensures) _ _
    c.request_loan_limit.ensures
    c.in_default.is _ (seen_at client_part c.args.store.now.clients.ports c.index_of-index.result (λ (x : ClientPart _).
    c.sender_of_port-sender.result ≡ x.sender) c.sender_of_port-sender.ensures) _ c.new_request_details-details.ensures _ c.in-Ok.place _
    c.in-Ok.ensures.row
    c.in-Ok.ensures.free c.in-Ok.ensures.unused (ap (λ s. opened (record c.args.store.now { clients = s })) c.in-Ok.ensures.ok)

pub count_request_loan-requires-clause-fits : goal.count_request_loan-requires-clause-fits
count_request_loan-requires-clause-fits g c =
    loans_still_fit (opened c.args.store.now) c.requires.core c.args.client c.requires.kind _ (seen_found client_part
    c.args.store.now.clients.ports (λ (x : ClientPart _). x.port.id == c.args.client) _ c.index_of-index.ensures) _ _
    c.request_loan_limit.ensures
    c.in_default.is _ (seen_at client_part c.args.store.now.clients.ports c.index_of-index.result (λ (x : ClientPart _).
    c.sender_of_port-sender.result ≡ x.sender) c.sender_of_port-sender.ensures) _ c.new_request_details-details.ensures _ c.in-Ok.place _
    c.in-Ok.ensures.row
    c.in-Ok.ensures.free c.in-Ok.ensures.unused (ap (λ s. opened (record c.args.store.now { clients = s })) c.in-Ok.ensures.ok)

-- the handle can be put there
addable : (g : _) (c : After-count_request_loan g)
    → CanInsert c.args.store.now.table c.args.store.now.next c.in-Ok.place × (c.args.store.now.next + 1 < 2 ^ 64)
addable g c =
    add_asked (opened c.args.store.now) c.requires.core c.args.client c.requires.kind _ (seen_found client_part
    c.args.store.now.clients.ports (λ (x : ClientPart _). x.port.id == c.args.client) _ c.index_of-index.ensures) _ _
    c.request_loan_limit.ensures
    c.in_default.is _ (seen_at client_part c.args.store.now.clients.ports c.index_of-index.result (λ (x : ClientPart _).
    c.sender_of_port-sender.result ≡ x.sender) c.sender_of_port-sender.ensures) _ c.new_request_details-details.ensures _ c.in-Ok.place _
    c.in-Ok.ensures.row
    c.in-Ok.ensures.free c.in-Ok.ensures.unused (ap (λ s. opened (record c.args.store.now { clients = s })) c.in-Ok.ensures.ok) _
    (loaned_by (record c.args.store.now { clients = c.loan.new.self }) c.index_of-index.result c.sender_of_port-sender.result
    c.count_request_loan.new.self c.count_request_loan.ensures)

pub add-number-requires-clause-vacant : goal.add-number-requires-clause-vacant
add-number-requires-clause-vacant g c = (addable g (goal.at.add-number-requires-clause-vacant g c).After-count_request_loan).0

pub add-number-requires-clause-number : goal.add-number-requires-clause-number
add-number-requires-clause-number g c = (addable g (goal.at.add-number-requires-clause-number g c).After-count_request_loan).1

pub returns-in-Ok-clause-core : goal.returns-in-Ok-clause-core
returns-in-Ok-clause-core g c =
    core_then (opened c.args.store.now) c.requires.core c.args.client c.requires.kind _ (seen_found client_part
    c.args.store.now.clients.ports (λ (x : ClientPart _). x.port.id == c.args.client) _ c.index_of-index.ensures) _ _
    c.request_loan_limit.ensures
    c.in_default.is _ (seen_at client_part c.args.store.now.clients.ports c.index_of-index.result (λ (x : ClientPart _).
    c.sender_of_port-sender.result ≡ x.sender) c.sender_of_port-sender.ensures) _ c.new_request_details-details.ensures _ c.in-Ok.place _
    c.in-Ok.ensures.row
    c.in-Ok.ensures.free c.in-Ok.ensures.unused (ap (λ s. opened (record c.args.store.now { clients = s })) c.in-Ok.ensures.ok) _
    (loaned_by (record c.args.store.now { clients = c.loan.new.self }) c.index_of-index.result c.sender_of_port-sender.result
    c.count_request_loan.new.self c.count_request_loan.ensures) c.in-Ok.ensures.full c.requires.number _
    c.add-number.ensures.number _ c.add-number.ensures.added g.QH.Default.is_default c.default.ensures

pub returns-in-Ok-clause-loans : goal.returns-in-Ok-clause-loans
returns-in-Ok-clause-loans g c =
    loans (opened c.args.store.now) c.requires.core c.args.client c.requires.kind _ (seen_found client_part
    c.args.store.now.clients.ports (λ (x : ClientPart _). x.port.id == c.args.client) _ c.index_of-index.ensures) _ _
    c.request_loan_limit.ensures
    c.in_default.is _ (seen_at client_part c.args.store.now.clients.ports c.index_of-index.result (λ (x : ClientPart _).
    c.sender_of_port-sender.result ≡ x.sender) c.sender_of_port-sender.ensures) _ c.new_request_details-details.ensures _ c.in-Ok.place _
    c.in-Ok.ensures.row
    c.in-Ok.ensures.free c.in-Ok.ensures.unused (ap (λ s. opened (record c.args.store.now { clients = s })) c.in-Ok.ensures.ok) _
    (loaned_by (record c.args.store.now { clients = c.loan.new.self }) c.index_of-index.result c.sender_of_port-sender.result
    c.count_request_loan.new.self c.count_request_loan.ensures) c.in-Ok.ensures.full c.requires.number _
    (c.new.ensures ∙ c.add-number.ensures.number) _ c.add-number.ensures.added g.QH.Default.is_default c.default.ensures

pub returns-in-Err-clause-core : goal.returns-in-Err-clause-core
returns-in-Err-clause-core g c = rw (ap (λ s. opened (record c.args.store.now { clients = s })) c.in-Err.ensures.err) c.requires.core

pub returns-in-Err-clause-loans : goal.returns-in-Err-clause-loans
returns-in-Err-clause-loans g c =
    out_of_memory (opened c.args.store.now) c.requires.core c.args.client c.requires.kind _ (seen_found client_part
    c.args.store.now.clients.ports (λ (x : ClientPart _). x.port.id == c.args.client) _ c.index_of-index.ensures) _ _
    c.request_loan_limit.ensures c.in_default.is _ (seen_at client_part c.args.store.now.clients.ports c.index_of-index.result
    (λ (x : ClientPart _). c.sender_of_port-sender.result ≡ x.sender) c.sender_of_port-sender.ensures) g.QH.Default.is_default
    c.in-Err.field-0 _
    c.in-Err.ensures.full c.in-Err.ensures.no_room (ap (λ s. opened (record c.args.store.now { clients = s })) c.in-Err.ensures.err)

pub returns-in-Err-clause-unreduced : goal.returns-in-Err-clause-unreduced
returns-in-Err-clause-unreduced g c pool same =
    request_finds_memory (_) (c.requires.core.reached) g.QH.Default.is_default c.args.client c.args.len _ pool
    (returns-in-Err-clause-loans g c)
