-- A pending response is released: what stays true.
use Rattle.std.proofs.Common.{◌≡◌, ◌<◌, ◌-◌, ℕ, Bool, true, List, [], ◌∷◌, Some, length, map, refl, ap, ◌∙◌, arith}
use Rattle.std.specs.Prelude.{◌==◌, ◌&&◌, slice_get, slice_index}
use Rattle.std.specs.FinMap as fin_map
use Rattle.std.proofs.lemmas.Bool.{eq-eqb}
use Rattle.rr_table.specs.Maps.{mark}
use Rattle.rr_table.specs.TableView.{TableEntry, removed}
use Rattle.rr_sender.specs.Senders.{borrowed_at}
use Rattle.rr_protocol.specs.Limits.{worst_case_requests}
use Rattle.rr_store.specs.declared.handle_entry.HandleEntry.{HandleEntry}
use Rattle.rr_store.specs.declared.handle_entry.Stage.TheVariants as stage
use Rattle.rr_store.specs.declared.details.RequestDetails.{RequestDetails}
use Rattle.rr_store.specs.declared.details.ResponseDetails.{ResponseDetails}
use Rattle.rr_store.specs.Parts.{Parts, ClientPart, Sender}
use Rattle.rr_store.specs.Views.{sender_of}
use Rattle.rr_store.specs.Sound.{IsSoundStore, empty_hand, is_of_request, is_of_response, is_request_loan, is_pending, is_active_of, is_response_loan, is_received, is_in_sender, response_details, server_place}
use Rattle.rr_store.specs.Frames.{moved}
use Rattle.rr_store.specs.Clearing.{with_empty_queue}
use Rattle.rr_store.specs.Dropping.{IsDropped}
use Rattle.rr_store.proofs.releasing.pending.Cleared.{cleared_at, cleared_alike, all_less, queue_less, stays_empty}
use Rattle.rr_releasing.proofs.laws.Dropping.{dropped_sound}
use Rattle.rr_releasing.proofs.laws.GivenBack.{less, senders_less, less_senders, same_of, held_less, count_less}
use Rattle.rr_store.proofs.base.views.Counts.{listed}
use Rattle.rr_store.proofs.base.hands.Hands.{count-cons, removed_sound}
use Rattle.rr_releasing.proofs.laws.request.Sound.{unmarked}
use Rattle.rr_store.proofs.base.lookups.Stands.{request_there}
use Rattle.rr_store.proofs.base.lookups.Shown.{held_within}

module _ {Q QH P PH K : Type 0} (p : Parts Q QH P PH K) (sound : IsSoundStore p empty_hand) (k : ℕ) (s : TableEntry HandleEntry)
    (at : fin_map.get p.table.entries k ≡ Some s) (hint : Bool) (connections : ℕ)
    (pending : s.value.stage ≡ stage.PendingResponse hint connections) (index : ℕ) (c : ClientPart K)
    (there : slice_get p.clients index ≡ Some c) (sends : c.sender ≡ s.value.sender) where
  abbrev pub entry : HandleEntry
  entry = s.value

  abbrev pub taken : Parts Q QH P PH K
  taken = record p { table = removed p.table k }

  in_hand : IsSoundStore taken (entry ∷ [])
  in_hand = removed_sound p [] k s at sound

  of_request : is_of_request entry.stage ≡ true
  of_request = ap is_of_request pending

  spot : (entry.sender < length p.client_senders) × (0 < slice_index (sender_of entry.sender p.client_senders).messages.held entry.slot)
  spot = request_there p sound k s at of_request

  abbrev pub own : Sender Q RequestDetails QH
  own = sender_of entry.sender p.client_senders

  abbrev pub senders : List (Sender Q RequestDetails QH)
  senders = senders_less p.client_senders entry.sender entry.slot own.messages.borrowed own.loans (own.pendings - 1)

  abbrev pub server_senders : List (Sender P ResponseDetails PH)
  server_senders = map (with_empty_queue c.receiver entry.slot) p.server_senders

  -- the core without the pending response
  abbrev pub after_pending : Parts Q QH P PH K
  after_pending = moved taken p.clients senders server_senders taken.table.entries p.next

  counted_here : mark (is_in_sender is_pending entry.sender entry) ≡ 1
  counted_here = ap (λ b. mark (b && entry.sender == entry.sender)) (ap is_pending pending)
      ∙ ap mark (eq-eqb entry.sender entry.sender refl)

  -- the sender has it
  pub has_pending : 0 < own.pendings
  has_pending = omega (
    arith,
    in_hand.stored.pendings entry.sender spot.0,
    count-cons (is_in_sender is_pending entry.sender) entry [],
    counted_here,
  )

  -- the client is one of the receivers, and its slots are channels
  pub placed : c.receiver < p.limits.max_clients
  placed = sound.client_ports.placed index c.connected (listed (λ (c : ClientPart K). c.connected) p.clients index c there)

  pub inside : entry.slot < worst_case_requests p.limits
  inside = omega (
    arith,
    held_within (sender_of entry.sender p.client_senders).messages.held entry.slot spot.1,
    sound.sized.channels entry.sender spot.0,
  )

  same : {Y : Type 0} (f : Sender Q RequestDetails QH → Y) → f (less p.client_senders entry.sender entry.slot own.messages.borrowed
      own.loans (own.pendings - 1)) ≡ f (sender_of entry.sender p.client_senders) → (l : ℕ)
      → f (sender_of l senders) ≡ f (sender_of l p.client_senders)
  same = same_of p.client_senders entry.sender entry.slot own.messages.borrowed own.loans (own.pendings - 1)

  is : (l : ℕ) → sender_of l server_senders ≡ with_empty_queue c.receiver entry.slot (sender_of l p.server_senders)
  is l = cleared_at c.receiver entry.slot p.server_senders l

  dropped : IsDropped taken entry senders server_senders
  dropped = record {
    frame = record {
      clients_alike = refl;
      client_senders_alike = less_senders p.client_senders entry.sender entry.slot own.messages.borrowed own.loans (own.pendings - 1) refl
          (λ r. refl);
      server_senders_alike = cleared_alike p.server_senders p.limits.max_clients
          (worst_case_requests p.limits) p.limits.max_response_buffer_size c.receiver entry.slot sound.sized.server_senders placed inside;
      numbers = omega arith;
    };
    requests_held = λ l i. omega (
      arith,
      held_less p.client_senders entry.sender entry.slot own.messages.borrowed own.loans (own.pendings - 1) spot.0 spot.1 l i,
      ap (λ b. mark (b && (entry.sender == l && entry.slot == i))) of_request,
    );
    responses_held = λ l i. omega (
      arith,
      ap (λ (x : Sender P ResponseDetails PH). slice_index x.messages.held i) (is l),
      unmarked (is_of_response entry.stage) (entry.sender == l && entry.slot == i) (ap is_of_response pending),
    );
    all_request_details = λ l. same (λ x. x.messages.details) refl l;
    all_response_details = λ l. ap (λ (x : Sender P ResponseDetails PH). x.messages.details) (is l);
    requests_wait = λ l. same (λ x. x.messages.queues) refl l;
    responses_used = λ l i. all_less p.server_senders p.limits.max_clients
        (worst_case_requests p.limits) p.limits.max_response_buffer_size c.receiver entry.slot sound.sized.server_senders placed inside l i;
    responses_wait = λ l receiver channel i. queue_less p.server_senders p.limits.max_clients
        (worst_case_requests p.limits) p.limits.max_response_buffer_size c.receiver entry.slot sound.sized.server_senders placed inside l
        receiver
        channel i;
    responses_none = λ l receiver channel e. stays_empty p.server_senders p.limits.max_clients
        (worst_case_requests p.limits) p.limits.max_response_buffer_size c.receiver entry.slot sound.sized.server_senders placed inside l
        receiver
        channel e;
    requests_borrowed = λ l receiver channel. omega (arith, same (λ x. borrowed_at x.messages receiver channel) refl l);
    responses_borrowed = λ l receiver channel. omega
        (arith, ap (λ (x : Sender P ResponseDetails PH). borrowed_at x.messages receiver channel) (is l));
    marks = λ l. same (λ x. x.may_answer) refl l;
    request_loans = count_less p.client_senders entry.sender entry.slot own.messages.borrowed own.loans (own.pendings - 1) spot.0 spot.1
        (λ x. x.loans) (is_request_loan entry.stage) (omega (arith, ap (λ g. mark (is_request_loan g)) pending));
    pendings = count_less p.client_senders entry.sender entry.slot own.messages.borrowed own.loans (own.pendings - 1) spot.0 spot.1
        (λ x. x.pendings) (is_pending entry.stage) (omega (arith, has_pending, ap (λ g. mark (is_pending g)) pending));
    response_loans = λ l. omega (
      arith,
      ap (λ (x : Sender P ResponseDetails PH). x.loans) (is l),
      unmarked (is_response_loan entry.stage) (entry.sender == l) (ap is_response_loan pending),
    );
    loans_from = λ n server loans t e is. ap (λ a. a && (response_details p entry.sender entry.slot).active_request == n)
        (ap is_response_loan pending);
    request_borrows = λ l server h. omega (
      arith,
      same (λ x. borrowed_at x.messages (server_place p server) 0) refl l,
      unmarked (is_active_of server entry.stage) (entry.sender == l) (ap (is_active_of server) pending),
    );
    response_borrows = λ l i channel d h e. omega (
      arith,
      ap (λ (x : Sender P ResponseDetails PH). borrowed_at x.messages d.receiver channel) (is l),
      unmarked (is_received entry.stage) (entry.sender == l && ((response_details p entry.sender entry.slot).client == d.port.id
          && (response_details p entry.sender entry.slot).channel == channel)) (ap is_received pending),
    );
  }

  -- the core stays sound
  pub pending_sound : IsSoundStore after_pending empty_hand
  pending_sound = dropped_sound taken entry [] in_hand senders server_senders dropped
