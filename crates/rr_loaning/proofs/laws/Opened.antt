-- What the clients become as one of them loans a request, as parts.
use Rattle.std.proofs.Common.{◌≡◌, ℕ, ◌+◌, ap, ◌∙◌}
use Rattle.std.specs.Prelude.{IsSomeAnd, slice_get, slice_set}
use Rattle.rr_store.specs.declared.details.RequestDetails.{RequestDetails}
use Rattle.rr_store.specs.declared.port.ClientPort.{ClientPort}
use Rattle.rr_store.specs.declared.store.Store.{Store}
use Rattle.rr_store.specs.Changes.{with_client_at, with_client_sender_at}
use Rattle.rr_store.specs.Loaning.{with_loan_made, with_one_loan, with_sender_at}
use Rattle.rr_store.specs.Opened.{opened}
use Rattle.rr_store.specs.Ports.{client_part}
use Rattle.rr_store.specs.Sides.{SideParts}
use Rattle.rr_store.proofs.base.lists.Mapped.{to_index}
use Rattle.rr_store.proofs.base.lists.Replaced.{map-set_one}

-- the client at an index made one more loan, and its sender has one message more on loan
pub loaned_by : {QB QH PB PH K Q P : Type 0} (s : Store QB QH PB PH K Q P) (i sender : ℕ) (new : SideParts Q RequestDetails QH
    (ClientPort K))
    → IsSomeAnd (slice_get s.clients.ports i) (λ c. new ≡ record s.clients {
      ports = slice_set s.clients.ports i (record c { loans_made = c.loans_made + 1 });
      senders = with_sender_at s.clients.senders sender with_one_loan;
    })
    → IsSomeAnd (slice_get (opened s).clients i)
    (λ c. opened (record s { clients = new }) ≡ with_client_sender_at (with_client_at (opened s) i (with_loan_made c)) sender with_one_loan)
loaned_by s i sender new = to_index client_part s.clients.ports i
    (λ c. opened (record s { clients = new }) ≡ with_client_sender_at (with_client_at (opened s) i (with_loan_made c)) sender with_one_loan)
    (λ c. new ≡ record s.clients {
      ports = slice_set s.clients.ports i (record c { loans_made = c.loans_made + 1 });
      senders = with_sender_at s.clients.senders sender with_one_loan;
    })
    (λ c is. ap (λ x. opened (record s { clients = x })) is
    ∙ ap (λ cs. record (opened s) { clients = cs; client_senders = with_sender_at s.clients.senders sender with_one_loan })
    (map-set_one client_part s.clients.ports i (record c { loans_made = c.loans_made + 1 })))
