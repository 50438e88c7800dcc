use Rattle.std.proofs.Common.{◌≡◌, ◌<◌, ◌+◌, ◌∷◌, [], Ok, length, refl, sym, ap, ◌∙◌, subst, inl, arith}
use Rattle.std.specs.Prelude.{◌==◌}
use Rattle.rr_laws.proofs.Memory.{response_finds_memory}
use Rattle.rr_protocol.specs.declared.error.LoanError.{LoanError}
use Rattle.rr_slots.specs.Pools.{with_elements}
use Rattle.rr_sender.specs.Senders.{with_changed_at}
use Rattle.rr_store.specs.Delivering.{handed_on}
use Rattle.rr_store.specs.Opened.{opened}
use Rattle.rr_store.specs.Parts.{Parts, ServerPart}
use Rattle.rr_store.specs.Ports.{server_part}
use Rattle.rr_store.specs.Sides.{with_sent}
use Rattle.rr_store.specs.Views.{sender_of, state_of}
use Rattle.rr_store.proofs.base.lists.Seen.{kept_at, kept_rising, kept_some, seen_at, seen_found}
use Rattle.rr_loaning.proofs.steps.Response as loaning
use Rattle.rr_hub.specs.Copies.{SendsResponseAtOnce}
use Rattle.rr_hub.proofs.laws.ResponseSteps.{Begun, Lent, Noted, lent_inside, lent_asks, lent_slot, owner_asked, queue_asked, written_inside, written_queue, written_takes}
use Rattle.rr_hub.proofs.laws.ResponseSends.{made_core, made_told}
use Rattle.rr_hub.proofs.at_once.response.send_response_at_once.Goals.{In-Ok}
use Rattle.rr_hub.proofs.at_once.response.send_response_at_once.Goals as goal

pub unreachable-requires : goal.unreachable-requires
unreachable-requires g c =
    loaning.is_active (opened c.args.store.now) c.requires.core c.args.active c.args.place c.at-entry.result c.at-entry.ensures c.requires.kind
    (sym c.active.ensures ∙ c.in-None.is)

pub index_of-index-requires-clause-rising : goal.index_of-index-requires-clause-rising
index_of-index-requires-clause-rising g c =
    kept_rising server_part c.args.store.now.servers.ports (λ (x : ServerPart _). x.port.id)
    (loaning.order_asked (opened c.args.store.now) c.requires.core c.args.active c.args.place c.at-entry.result c.at-entry.ensures c.requires.kind
    _ _ (sym c.active.ensures ∙ c.in-Some.is))

pub index_of-index-requires-clause-present : goal.index_of-index-requires-clause-present
index_of-index-requires-clause-present g c =
    kept_some server_part c.args.store.now.servers.ports (λ (x : ServerPart _). x.port.id == c.in-Some.found.0)
    (loaning.server_asked (opened c.args.store.now) c.requires.core c.args.active c.args.place c.at-entry.result c.at-entry.ensures c.requires.kind
    _ _ (sym c.active.ensures ∙ c.in-Some.is))

pub response_loan_limit-requires-clause-sender : goal.response_loan_limit-requires-clause-sender
response_loan_limit-requires-clause-sender g c =
    kept_at server_part c.args.store.now.servers.ports c.index_of-index.result (λ (x : ServerPart _). x.sender < length
    c.args.store.now.servers.senders)
    (loaning.limit_asked (opened c.args.store.now) c.requires.core c.args.active c.args.place c.at-entry.result c.at-entry.ensures c.requires.kind
    _ _ (sym c.active.ensures ∙ c.in-Some.is)
    _ (seen_found server_part c.args.store.now.servers.ports (λ (x : ServerPart _). x.port.id == c.in-Some.found.0) _ c.index_of-index.ensures))

pub returns-in-Some-response_loan_limit-clause-sends : goal.returns-in-Some-response_loan_limit-clause-sends
returns-in-Some-response_loan_limit-clause-sends g c =
    let told = seen_found server_part c.args.store.now.servers.ports (λ (x : ServerPart _). x.port.id == c.in-Some.found.0) _
    c.index_of-index.ensures in
    inl (
      c.in-Some-response_loan_limit.refusal,
      refl,
      loaning.refused (opened c.args.store.now) c.requires.core c.args.active c.args.place c.at-entry.result c.at-entry.ensures c.requires.kind
          _ _ (sym c.active.ensures ∙ c.in-Some.is) _ told 1 _ c.response_loan_limit.ensures g.PH.Default.is_default
          c.in-Some-response_loan_limit.refusal c.in-Some-response_loan_limit.is,
      λ pool. loaning.not_memory (opened c.args.store.now) c.requires.core c.args.active c.args.place c.at-entry.result c.at-entry.ensures
          c.requires.kind
          _ _ (sym c.active.ensures ∙ c.in-Some.is) _ told 1 _ c.response_loan_limit.ensures c.in-Some-response_loan_limit.refusal
          c.in-Some-response_loan_limit.is,
    )

pub new_response_details-details-requires-clause-sender : goal.new_response_details-details-requires-clause-sender
new_response_details-details-requires-clause-sender g c =
    loaning.sender_asked (opened c.args.store.now) c.requires.core c.args.active c.args.place c.at-entry.result c.at-entry.ensures c.requires.kind
    _ _ (sym c.active.ensures ∙ c.in-Some.is)

pub new_response_details-details-requires-clause-slot : goal.new_response_details-details-requires-clause-slot
new_response_details-details-requires-clause-slot g c =
    loaning.slot_asked (opened c.args.store.now) c.requires.core c.args.active c.args.place c.at-entry.result c.at-entry.ensures c.requires.kind
    _ _ (sym c.active.ensures ∙ c.in-Some.is)

pub is_response_refused-requires-clause-sender : goal.is_response_refused-requires-clause-sender
is_response_refused-requires-clause-sender g c =
    loaning.own_asked (opened c.args.store.now) c.requires.core c.args.active c.args.place c.at-entry.result c.at-entry.ensures c.requires.kind
    _ _ (sym c.active.ensures ∙ c.in-Some.is) _ (seen_found server_part c.args.store.now.servers.ports (λ (x : ServerPart _). x.port.id ==
    c.in-Some.found.0) _ c.index_of-index.ensures) 1 _ c.response_loan_limit.ensures c.in_default.is _
    (seen_at server_part c.args.store.now.servers.ports c.index_of-index.result (λ (x : ServerPart _). c.sender_of_port-sender.result ≡ x.sender)
    c.sender_of_port-sender.ensures)

pub is_response_refused-requires-clause-rising : goal.is_response_refused-requires-clause-rising
is_response_refused-requires-clause-rising g c =
    kept_rising server_part c.args.store.now.servers.ports (λ (x : ServerPart _). x.port.id)
    (loaning.order_asked (opened c.args.store.now) c.requires.core c.args.active c.args.place c.at-entry.result c.at-entry.ensures c.requires.kind
    _ _ (sym c.active.ensures ∙ c.in-Some.is))

pub is_response_refused-requires-clause-present : goal.is_response_refused-requires-clause-present
is_response_refused-requires-clause-present g c =
    let told = (seen_found server_part c.args.store.now.servers.ports (λ (x : ServerPart _). x.port.id == c.in-Some.found.0) _
    c.index_of-index.ensures) in
    let sends = (seen_at server_part c.args.store.now.servers.ports c.index_of-index.result (λ (x : ServerPart _). c.sender_of_port-sender.result ≡
    x.sender)
    c.sender_of_port-sender.ensures) in
    kept_some server_part c.args.store.now.servers.ports
    (λ (x : ServerPart _). x.port.id == (sender_of c.sender_of_port-sender.result c.args.store.now.servers.senders).owner)
    (owner_asked (opened c.args.store.now) c.requires.core c.args.active c.args.place c.at-entry.result c.at-entry.ensures c.requires.kind
    _ _ (sym c.active.ensures ∙ c.in-Some.is) _ told _ sends
    (loaning.own_asked (opened c.args.store.now) c.requires.core c.args.active c.args.place c.at-entry.result c.at-entry.ensures c.requires.kind
    _ _ (sym c.active.ensures ∙ c.in-Some.is) _ told 1 _ c.response_loan_limit.ensures c.in_default.is _ sends))

pub is_response_refused-requires-clause-queue : goal.is_response_refused-requires-clause-queue
is_response_refused-requires-clause-queue g c =
    let told = (seen_found server_part c.args.store.now.servers.ports (λ (x : ServerPart _). x.port.id == c.in-Some.found.0) _
    c.index_of-index.ensures) in
    let sends = (seen_at server_part c.args.store.now.servers.ports c.index_of-index.result (λ (x : ServerPart _). c.sender_of_port-sender.result ≡
    x.sender)
    c.sender_of_port-sender.ensures) in
    queue_asked (opened c.args.store.now) c.requires.core c.args.active c.args.place c.at-entry.result c.at-entry.ensures c.requires.kind
    _ _ (sym c.active.ensures ∙ c.in-Some.is) _ told _ sends
    (loaning.own_asked (opened c.args.store.now) c.requires.core c.args.active c.args.place c.at-entry.result c.at-entry.ensures c.requires.kind
    _ _ (sym c.active.ensures ∙ c.in-Some.is) _ told 1 _ c.response_loan_limit.ensures c.in_default.is _ sends)
    _ c.new_response_details-details.ensures _ c.reached_receiver-reach.ensures

pub loan-requires-clause-sender : goal.loan-requires-clause-sender
loan-requires-clause-sender g c =
    loaning.own_asked (opened c.args.store.now) c.requires.core c.args.active c.args.place c.at-entry.result c.at-entry.ensures c.requires.kind
    _ _ (sym c.active.ensures ∙ c.in-Some.is) _ (seen_found server_part c.args.store.now.servers.ports (λ (x : ServerPart _). x.port.id ==
    c.in-Some.found.0) _ c.index_of-index.ensures) 1 _ c.response_loan_limit.ensures c.in_default.is _
    (seen_at server_part c.args.store.now.servers.ports c.index_of-index.result (λ (x : ServerPart _). c.sender_of_port-sender.result ≡ x.sender)
    c.sender_of_port-sender.ensures)

-- what is known before the loan
abbrev begun : (g : _) (c : In-Ok g) → Begun (opened c.args.store.now) c.args.active
begun g c = record {
  core = c.requires.core;
  place = c.args.place;
  entry = c.at-entry.result;
  at = c.at-entry.ensures;
  kind = c.requires.kind;
  server = c.in-Some.found.0;
  loans = c.in-Some.found.1;
  found = sym c.active.ensures ∙ c.in-Some.is;
  index = c.index_of-index.result;
  told = seen_found server_part c.args.store.now.servers.ports (λ (x : ServerPart _). x.port.id == c.in-Some.found.0) _ c.index_of-index.ensures;
  limit = c.response_loan_limit.result;
  limited = c.response_loan_limit.ensures;
  none = c.in_default.is;
  sender = c.sender_of_port-sender.result;
  sends = seen_at server_part c.args.store.now.servers.ports c.index_of-index.result (λ (x : ServerPart _). c.sender_of_port-sender.result ≡ x.sender)
      c.sender_of_port-sender.ensures;
}

-- what is known of the response
abbrev noted : (g : _) (c : In-Ok g) → Noted (opened c.args.store.now) c.args.active (begun g c)
noted g c = record {
  details = c.new_response_details-details.result;
  are = c.new_response_details-details.ensures;
  reach = c.reached_receiver-reach.result;
  reaches = c.reached_receiver-reach.ensures;
}

-- and of its slot
abbrev lent : (g : _) (c : In-Ok g) → Lent (opened c.args.store.now) c.args.active (begun g c)
lent g c = record {
  IsDefault = g.PH.Default.is_default;
  header = c.default.result;
  default = c.default.ensures;
  own = c.in-Ok.own;
  row = c.in-Ok.ensures.row;
  free = c.in-Ok.ensures.free;
  unused = c.in-Ok.ensures.unused;
  full = c.in-Ok.ensures.full;
  left = c.requires.number;
}

pub write-requires-clause-sender : goal.write-requires-clause-sender
write-requires-clause-sender g c =
    rw c.in-Ok.ensures.ok (lent_inside (opened c.args.store.now) c.args.active (begun g (goal.at.write-requires-clause-sender g c).In-Ok) (noted g
    (goal.at.write-requires-clause-sender g c).In-Ok) (lent g (goal.at.write-requires-clause-sender g c).In-Ok))

pub write-requires-clause-slot : goal.write-requires-clause-slot
write-requires-clause-slot g c =
    rw c.in-Ok.ensures.ok (lent_slot (opened c.args.store.now) c.args.active (begun g (goal.at.write-requires-clause-slot g c).In-Ok) (noted g
    (goal.at.write-requires-clause-slot g c).In-Ok) (lent g (goal.at.write-requires-clause-slot g c).In-Ok))

pub write-requires-clause-asked : goal.write-requires-clause-asked
write-requires-clause-asked g c =
    rw c.in-Ok.ensures.ok (omega (
      arith,
      lent_asks (opened c.args.store.now) c.args.active (begun g (goal.at.write-requires-clause-asked g c).In-Ok)
          (noted g (goal.at.write-requires-clause-asked g c).In-Ok) (lent g (goal.at.write-requires-clause-asked g c).In-Ok),
    ))

pub hand_over-requires-clause-sender : goal.hand_over-requires-clause-sender
hand_over-requires-clause-sender g c =
    rw c.write.ensures (rw c.in-Ok.ensures.ok (written_inside (opened c.args.store.now) c.args.active (begun g
    (goal.at.hand_over-requires-clause-sender g c).In-Ok) (noted g (goal.at.hand_over-requires-clause-sender g c).In-Ok) (lent g
    (goal.at.hand_over-requires-clause-sender g c).In-Ok) c.args.element))

pub hand_over-requires-clause-queue : goal.hand_over-requires-clause-queue
hand_over-requires-clause-queue g c =
    rw c.write.ensures (rw c.in-Ok.ensures.ok (written_queue (opened c.args.store.now) c.args.active (begun g
    (goal.at.hand_over-requires-clause-queue g c).In-Ok) (noted g (goal.at.hand_over-requires-clause-queue g c).In-Ok) (lent g
    (goal.at.hand_over-requires-clause-queue g c).In-Ok) c.args.element))

pub hand_over-requires-clause-takes : goal.hand_over-requires-clause-takes
hand_over-requires-clause-takes g c =
    rw c.write.ensures (rw c.in-Ok.ensures.ok (written_takes (opened c.args.store.now) c.args.active (begun g
    (goal.at.hand_over-requires-clause-takes g c).In-Ok) (noted g (goal.at.hand_over-requires-clause-takes g c).In-Ok) (lent g
    (goal.at.hand_over-requires-clause-takes g c).In-Ok) c.args.element))

pub returns-in-Ok-clause-core : goal.returns-in-Ok-clause-core
returns-in-Ok-clause-core g c =
    rw (ap (λ s. opened (record c.args.store.now { next = c.args.store.now.next + 1; servers = s })) (c.hand_over.ensures
    ∙ ap (λ s. with_sent s c.sender_of_port-sender.result (λ m. handed_on m c.args.store.now.limits.enable_safe_overflow_for_responses
    c.new_response_details-details.result.channel c.in-Ok.own.index c.reached_receiver-reach.result)) (c.write.ensures
    ∙ ap (λ s. with_sent s c.sender_of_port-sender.result (λ m. with_changed_at m c.in-Ok.own.index (with_elements (c.args.element ∷ []))))
    c.in-Ok.ensures.ok)))
    (made_core (opened c.args.store.now) c.args.active (begun g (goal.at.returns-in-Ok-clause-core g c).In-Ok) (noted g
    (goal.at.returns-in-Ok-clause-core g c).In-Ok) (lent g (goal.at.returns-in-Ok-clause-core g c).In-Ok) c.args.element
    g.K.BackpressureFn.action c.args.store.now.servers.ports refl _ c.is_response_refused.ensures.refused c.if-is_response_refused.false)

pub returns-in-Ok-clause-sends : goal.returns-in-Ok-clause-sends
returns-in-Ok-clause-sends g c =
    subst (λ (x : Parts _ _ _ _ _). SendsResponseAtOnce {U = Unit {0}} g.PH.Default.is_default g.K.BackpressureFn.action
    (state_of (opened c.args.store.now)) c.args.active 1 (c.args.element ∷ []) (Ok tt) (state_of x))
    (sym (ap (λ s. opened (record c.args.store.now { next = c.args.store.now.next + 1; servers = s })) (c.hand_over.ensures
    ∙ ap (λ s. with_sent s c.sender_of_port-sender.result (λ m. handed_on m c.args.store.now.limits.enable_safe_overflow_for_responses
    c.new_response_details-details.result.channel c.in-Ok.own.index c.reached_receiver-reach.result)) (c.write.ensures
    ∙ ap (λ s. with_sent s c.sender_of_port-sender.result (λ m. with_changed_at m c.in-Ok.own.index (with_elements (c.args.element ∷ []))))
    c.in-Ok.ensures.ok))))
    (made_told (opened c.args.store.now) c.args.active (begun g (goal.at.returns-in-Ok-clause-sends g c).In-Ok) (noted g
    (goal.at.returns-in-Ok-clause-sends g c).In-Ok) (lent g (goal.at.returns-in-Ok-clause-sends g c).In-Ok) c.args.element
    g.K.BackpressureFn.action c.args.store.now.servers.ports refl _ c.is_response_refused.ensures.refused c.if-is_response_refused.false {U = Unit
    {0}} tt)

pub returns-in-Err-clause-core : goal.returns-in-Err-clause-core
returns-in-Err-clause-core g c =
    rw (ap (λ s. opened (record c.args.store.now { servers = s })) c.in-Err.ensures.err) c.requires.core

pub returns-in-Err-clause-sends : goal.returns-in-Err-clause-sends
returns-in-Err-clause-sends g c =
    let told = seen_found server_part c.args.store.now.servers.ports (λ (x : ServerPart _). x.port.id == c.in-Some.found.0) _
    c.index_of-index.ensures in
    let loan = loaning.out_of_memory (opened c.args.store.now) c.requires.core c.args.active c.args.place c.at-entry.result c.at-entry.ensures
    c.requires.kind
    _ _ (sym c.active.ensures ∙ c.in-Some.is) _ told 1 _ c.response_loan_limit.ensures c.in_default.is _ (seen_at server_part
    c.args.store.now.servers.ports c.index_of-index.result (λ (x : ServerPart _). c.sender_of_port-sender.result ≡ x.sender)
    c.sender_of_port-sender.ensures) g.PH.Default.is_default c.in-Err.field-0 _
    c.in-Err.ensures.full c.in-Err.ensures.no_room (ap (λ s. opened (record c.args.store.now { servers = s })) c.in-Err.ensures.err) in
    inl (
      LoanError.OutOfMemory,
      refl,
      loan,
      λ pool same. response_finds_memory _ c.requires.core.reached g.PH.Default.is_default c.args.active 1 _
          pool loan,
    )
