use Rattle.std.proofs.Common.{◌≡◌, ◌<◌, ◌+◌, ◌^◌, length, sym, ◌∙◌, arith, ap}
use Rattle.std.specs.Prelude.{◌==◌}
use Rattle.rr_laws.proofs.Memory.{response_finds_memory}
use Rattle.rr_store.specs.Asked.{CanInsert}
use Rattle.rr_store.specs.Opened.{opened}
use Rattle.rr_store.specs.Parts.{ServerPart}
use Rattle.rr_store.specs.Ports.{server_part}
use Rattle.rr_store.proofs.base.lists.Seen.{kept_at, kept_rising, kept_some, seen_at, seen_found}
use Rattle.rr_loaning.proofs.steps.Response.{is_active, server_asked, order_asked, loans_fit, sender_asked, slot_asked, refused, not_memory, own_asked, out_of_memory, limit_asked, sender_still, loans_still_fit, still_there, add_asked, loans_told, core_then}
use Rattle.rr_loaning.proofs.response.loan_response_at.Goals.{After-set_at}
use Rattle.rr_loaning.proofs.response.loan_response_at.Goals as goal

pub unreachable-requires : goal.unreachable-requires
unreachable-requires g c =
    is_active (opened c.args.store.now) c.requires.core c.args.number c.args.place c.at-active.result c.at-active.ensures c.requires.kind
    (sym
    c.active.ensures ∙ c.in-None.is)

pub index_of-index-requires-clause-rising : goal.index_of-index-requires-clause-rising
index_of-index-requires-clause-rising g c =
    kept_rising server_part c.args.store.now.servers.ports (λ (x : ServerPart _). x.port.id) (order_asked (opened c.args.store.now)
    c.requires.core c.args.number c.args.place c.at-active.result c.at-active.ensures c.requires.kind _ _
    (sym c.active.ensures ∙ c.in-Some.is))

pub index_of-index-requires-clause-present : goal.index_of-index-requires-clause-present
index_of-index-requires-clause-present g c =
    kept_some server_part c.args.store.now.servers.ports (λ (x : ServerPart _). x.port.id == c.in-Some.found.0) (server_asked (opened
    c.args.store.now) c.requires.core c.args.number c.args.place c.at-active.result c.at-active.ensures c.requires.kind _ _
    (sym c.active.ensures ∙ c.in-Some.is))

pub response_loan_limit-requires-clause-sender : goal.response_loan_limit-requires-clause-sender
response_loan_limit-requires-clause-sender g c =
    kept_at server_part c.args.store.now.servers.ports c.index_of-index.result (λ (x : ServerPart _). x.sender < length
    c.args.store.now.servers.senders) (limit_asked (opened c.args.store.now) c.requires.core c.args.number c.args.place c.at-active.result c.at-active.ensures
    c.requires.kind _ _
    (sym c.active.ensures ∙ c.in-Some.is) _ (seen_found server_part c.args.store.now.servers.ports (λ (x : ServerPart _).
    x.port.id == c.in-Some.found.0) _ c.index_of-index.ensures))

pub returns-in-Some-response_loan_limit-clause-loans : goal.returns-in-Some-response_loan_limit-clause-loans
returns-in-Some-response_loan_limit-clause-loans g c =
    refused (opened c.args.store.now) c.requires.core c.args.number c.args.place c.at-active.result c.at-active.ensures c.requires.kind _
    _ (sym
    c.active.ensures ∙ c.in-Some.is) _ (seen_found server_part c.args.store.now.servers.ports (λ (x : ServerPart _).
    x.port.id == c.in-Some.found.0) _ c.index_of-index.ensures) _ _ c.response_loan_limit.ensures g.PH.Default.is_default
    c.in-Some-response_loan_limit.refusal c.in-Some-response_loan_limit.is

pub returns-in-Some-response_loan_limit-clause-unreduced : goal.returns-in-Some-response_loan_limit-clause-unreduced
returns-in-Some-response_loan_limit-clause-unreduced g c pool same =
    not_memory (opened c.args.store.now) c.requires.core c.args.number c.args.place c.at-active.result c.at-active.ensures
    c.requires.kind _ _ (sym
    c.active.ensures ∙ c.in-Some.is) _ (seen_found server_part c.args.store.now.servers.ports (λ (x : ServerPart _).
    x.port.id == c.in-Some.found.0) _ c.index_of-index.ensures) _ _ c.response_loan_limit.ensures
    c.in-Some-response_loan_limit.refusal c.in-Some-response_loan_limit.is (let is : c.in-Some-response_loan_limit.refusal ≡ _ = cc in is)

pub new_response_details-details-requires-clause-sender : goal.new_response_details-details-requires-clause-sender
new_response_details-details-requires-clause-sender g c =
    sender_asked (opened c.args.store.now) c.requires.core c.args.number c.args.place c.at-active.result c.at-active.ensures
    c.requires.kind _ _
    (sym c.active.ensures ∙ c.in-Some.is)

pub new_response_details-details-requires-clause-slot : goal.new_response_details-details-requires-clause-slot
new_response_details-details-requires-clause-slot g c =
    slot_asked (opened c.args.store.now) c.requires.core c.args.number c.args.place c.at-active.result c.at-active.ensures
    c.requires.kind _ _ (sym
    c.active.ensures ∙ c.in-Some.is)

pub loan-requires-clause-sender : goal.loan-requires-clause-sender
loan-requires-clause-sender g c =
    own_asked (opened c.args.store.now) c.requires.core c.args.number c.args.place c.at-active.result c.at-active.ensures c.requires.kind
    _ _ (sym
    c.active.ensures ∙ c.in-Some.is) _ (seen_found server_part c.args.store.now.servers.ports (λ (x : ServerPart _).
    x.port.id == c.in-Some.found.0) _ c.index_of-index.ensures) _ _ c.response_loan_limit.ensures c.in_default.is _
    (seen_at server_part c.args.store.now.servers.ports c.index_of-index.result (λ (x : ServerPart _).
    c.sender_of_port-sender.result ≡ x.sender) c.sender_of_port-sender.ensures)

pub count_loan-requires-clause-sender : goal.count_loan-requires-clause-sender
count_loan-requires-clause-sender g c =
    sender_still (opened c.args.store.now) c.requires.core c.args.number c.args.place c.at-active.result c.at-active.ensures
    c.requires.kind _ _
    (sym c.active.ensures ∙ c.in-Some.is) _ (seen_found server_part c.args.store.now.servers.ports (λ (x : ServerPart _).
    x.port.id == c.in-Some.found.0) _ c.index_of-index.ensures) _ _ c.response_loan_limit.ensures c.in_default.is _
    (seen_at server_part c.args.store.now.servers.ports c.index_of-index.result (λ (x : ServerPart _).
    c.sender_of_port-sender.result ≡ x.sender) c.sender_of_port-sender.ensures) _ c.new_response_details-details.ensures _ c.in-Ok.own _
    c.in-Ok.ensures.row c.in-Ok.ensures.free
    c.in-Ok.ensures.unused (ap (λ s. opened (record c.args.store.now { servers = s })) c.in-Ok.ensures.ok)

pub count_loan-requires-clause-fits : goal.count_loan-requires-clause-fits
count_loan-requires-clause-fits g c =
    loans_still_fit (opened c.args.store.now) c.requires.core c.args.number c.args.place c.at-active.result c.at-active.ensures
    c.requires.kind _ _
    (sym c.active.ensures ∙ c.in-Some.is) _ (seen_found server_part c.args.store.now.servers.ports (λ (x : ServerPart _).
    x.port.id == c.in-Some.found.0) _ c.index_of-index.ensures) _ _ c.response_loan_limit.ensures c.in_default.is _
    (seen_at server_part c.args.store.now.servers.ports c.index_of-index.result (λ (x : ServerPart _).
    c.sender_of_port-sender.result ≡ x.sender) c.sender_of_port-sender.ensures) _ c.new_response_details-details.ensures _ c.in-Ok.own _
    c.in-Ok.ensures.row c.in-Ok.ensures.free
    c.in-Ok.ensures.unused (ap (λ s. opened (record c.args.store.now { servers = s })) c.in-Ok.ensures.ok)

pub overflow_add-stage : goal.overflow_add-stage
overflow_add-stage g c =
    omega (
      arith,
      loans_fit (opened c.args.store.now) c.requires.core c.args.number c.args.place c.at-active.result c.at-active.ensures
          c.requires.kind _ _ (sym c.active.ensures ∙ c.in-Some.is),
    )

pub set_at-requires : goal.set_at-requires
set_at-requires g c =
    still_there (opened c.args.store.now) c.requires.core c.args.number c.args.place c.at-active.result c.at-active.ensures
    c.requires.kind _ _
    (sym c.active.ensures ∙ c.in-Some.is) _ (seen_found server_part c.args.store.now.servers.ports (λ (x : ServerPart _).
    x.port.id == c.in-Some.found.0) _ c.index_of-index.ensures) _ _ c.response_loan_limit.ensures c.in_default.is _
    (seen_at server_part c.args.store.now.servers.ports c.index_of-index.result (λ (x : ServerPart _).
    c.sender_of_port-sender.result ≡ x.sender) c.sender_of_port-sender.ensures) _ c.new_response_details-details.ensures _ c.in-Ok.own _
    c.in-Ok.ensures.row c.in-Ok.ensures.free
    c.in-Ok.ensures.unused (ap (λ s. opened (record c.args.store.now { servers = s })) c.in-Ok.ensures.ok) _ (ap (λ s. opened (record
    c.args.store.now { servers = s })) c.count_loan.ensures)

-- the handle can be put there
addable : (g : _) (c : After-set_at g)
    → CanInsert c.set_at.new.self c.args.store.now.next c.in-Ok.own × (c.args.store.now.next + 1 < 2 ^ 64)
addable g c =
    add_asked (opened c.args.store.now) c.requires.core c.args.number c.args.place c.at-active.result c.at-active.ensures c.requires.kind
    _ _
    (sym c.active.ensures ∙ c.in-Some.is) _ (seen_found server_part c.args.store.now.servers.ports (λ (x : ServerPart _).
    x.port.id == c.in-Some.found.0) _ c.index_of-index.ensures) _ _ c.response_loan_limit.ensures c.in_default.is _
    (seen_at server_part c.args.store.now.servers.ports c.index_of-index.result (λ (x : ServerPart _).
    c.sender_of_port-sender.result ≡ x.sender) c.sender_of_port-sender.ensures) _ c.new_response_details-details.ensures _ c.in-Ok.own _
    c.in-Ok.ensures.row c.in-Ok.ensures.free
    c.in-Ok.ensures.unused (ap (λ s. opened (record c.args.store.now { servers = s })) c.in-Ok.ensures.ok) _ (ap (λ s. opened (record
    c.args.store.now { servers = s })) c.count_loan.ensures) _ (ap (λ t. opened (record c.args.store.now
    { servers = c.count_loan.new.self; table = t })) c.set_at.ensures)

pub add-loaned-requires-clause-vacant : goal.add-loaned-requires-clause-vacant
add-loaned-requires-clause-vacant g c = (addable g (goal.at.add-loaned-requires-clause-vacant g c).After-set_at).0

pub add-loaned-requires-clause-number : goal.add-loaned-requires-clause-number
add-loaned-requires-clause-number g c = (addable g (goal.at.add-loaned-requires-clause-number g c).After-set_at).1

pub returns-in-Ok-clause-core : goal.returns-in-Ok-clause-core
returns-in-Ok-clause-core g c =
    core_then (opened c.args.store.now) c.requires.core c.args.number c.args.place c.at-active.result c.at-active.ensures c.requires.kind
    _ _ (sym
    c.active.ensures ∙ c.in-Some.is) _ (seen_found server_part c.args.store.now.servers.ports (λ (x : ServerPart _).
    x.port.id == c.in-Some.found.0) _ c.index_of-index.ensures) _ _ c.response_loan_limit.ensures c.in_default.is _
    (seen_at server_part c.args.store.now.servers.ports c.index_of-index.result (λ (x : ServerPart _).
    c.sender_of_port-sender.result ≡ x.sender) c.sender_of_port-sender.ensures) _ c.new_response_details-details.ensures _ c.in-Ok.own _
    c.in-Ok.ensures.row c.in-Ok.ensures.free
    c.in-Ok.ensures.unused (ap (λ s. opened (record c.args.store.now { servers = s })) c.in-Ok.ensures.ok) _ (ap (λ s. opened (record
    c.args.store.now { servers = s })) c.count_loan.ensures) _ (ap (λ t. opened (record c.args.store.now
    { servers = c.count_loan.new.self; table = t })) c.set_at.ensures) c.in-Ok.ensures.full c.requires.number _
    c.add-loaned.ensures.number _ c.add-loaned.ensures.added g.PH.Default.is_default c.default.ensures

pub returns-in-Ok-clause-loans : goal.returns-in-Ok-clause-loans
returns-in-Ok-clause-loans g c =
    loans_told (opened c.args.store.now) c.requires.core c.args.number c.args.place c.at-active.result c.at-active.ensures
    c.requires.kind _ _ (sym
    c.active.ensures ∙ c.in-Some.is) _ (seen_found server_part c.args.store.now.servers.ports (λ (x : ServerPart _).
    x.port.id == c.in-Some.found.0) _ c.index_of-index.ensures) _ _ c.response_loan_limit.ensures c.in_default.is _
    (seen_at server_part c.args.store.now.servers.ports c.index_of-index.result (λ (x : ServerPart _).
    c.sender_of_port-sender.result ≡ x.sender) c.sender_of_port-sender.ensures) _ c.new_response_details-details.ensures _ c.in-Ok.own _
    c.in-Ok.ensures.row c.in-Ok.ensures.free
    c.in-Ok.ensures.unused (ap (λ s. opened (record c.args.store.now { servers = s })) c.in-Ok.ensures.ok) _ (ap (λ s. opened (record
    c.args.store.now { servers = s })) c.count_loan.ensures) _ (ap (λ t. opened (record c.args.store.now
    { servers = c.count_loan.new.self; table = t })) c.set_at.ensures) c.in-Ok.ensures.full c.requires.number _
    (c.new.ensures ∙ c.add-loaned.ensures.number) _ c.add-loaned.ensures.added g.PH.Default.is_default c.default.ensures

pub returns-in-Err-clause-core : goal.returns-in-Err-clause-core
returns-in-Err-clause-core g c =
    rw (ap (λ s. opened (record c.args.store.now { servers = s })) c.in-Err.ensures.err) c.requires.core

pub returns-in-Err-clause-loans : goal.returns-in-Err-clause-loans
returns-in-Err-clause-loans g c =
    out_of_memory (opened c.args.store.now) c.requires.core c.args.number c.args.place c.at-active.result c.at-active.ensures
    c.requires.kind _ _
    (sym c.active.ensures ∙ c.in-Some.is) _ (seen_found server_part c.args.store.now.servers.ports (λ (x : ServerPart _).
    x.port.id == c.in-Some.found.0) _ c.index_of-index.ensures) _ _ c.response_loan_limit.ensures c.in_default.is _
    (seen_at server_part c.args.store.now.servers.ports c.index_of-index.result (λ (x : ServerPart _).
    c.sender_of_port-sender.result ≡ x.sender) c.sender_of_port-sender.ensures) g.PH.Default.is_default c.in-Err.field-0 _
    c.in-Err.ensures.full c.in-Err.ensures.no_room
    (ap (λ s. opened (record c.args.store.now { servers = s })) c.in-Err.ensures.err)

pub returns-in-Err-clause-unreduced : goal.returns-in-Err-clause-unreduced
returns-in-Err-clause-unreduced g c pool same =
    response_finds_memory _ c.requires.core.reached g.PH.Default.is_default c.args.number c.args.len _ pool (returns-in-Err-clause-loans g
    c)
