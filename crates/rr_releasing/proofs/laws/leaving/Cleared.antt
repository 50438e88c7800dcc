-- What is true of a core stays true while queues lose all their entries.
use Rattle.std.proofs.Common.{◌≡◌, ◌≤◌, ◌+◌, ◌*◌, ℕ, List, [], length, refl, sym, ap, ◌∙◌, ⊎_elim, arith}
use Rattle.std.specs.Prelude.{◌==◌, ◌&&◌, slice_index, slice_index_or}
use Rattle.rr_sender.specs.Senders.{times, queue_at, borrowed_at}
use Rattle.rr_store.specs.declared.details.RequestDetails.{RequestDetails}
use Rattle.rr_store.specs.declared.details.ResponseDetails.{ResponseDetails}
use Rattle.rr_store.specs.Parts.{Parts, Sender}
use Rattle.rr_store.specs.Views.{sender_of, no_request, no_response, no_server}
use Rattle.rr_store.specs.Sound.{IsSoundStore, IsCounted, IsHeldOnce, IsStored, IsVacated, Hand, handles, is_response_loan, is_received, request_uses, response_uses, request_details, response_details, server_place}
use Rattle.rr_store.specs.Frames.{SenderAlike, SendersAlike, SameFrame, moved}
use Rattle.rr_store.specs.Kept.{DetailsKept}
use Rattle.rr_store.specs.Leaving.{SenderCleared, SendersCleared}
use Rattle.rr_store.proofs.base.frames.Frames.{framed_client_ports, framed_server_ports, framed_have_ports, framed_sized}
use Rattle.rr_store.proofs.base.frames.Kept.{framed_inserted, kept_numbered, kept_addressed}
use Rattle.rr_store.proofs.base.hands.Stages.{loan_is_request, handle_uses_request, handle_uses_response}

module _ {T N H : Type 0} (before after : Sender T N H) (cleared : SenderCleared before after) where
  -- no slot waits more often
  waits_less : (receiver channel i : ℕ) → times i (queue_at after.messages receiver channel)
      ≤ times i (queue_at before.messages receiver channel)
  waits_less receiver channel i =
      ⊎_elim (λ e. omega (arith, ap (times i) e)) (λ e. omega (arith, ap (times i) e)) (cleared.each receiver channel)

  -- an empty queue stays empty
  stays_empty : (receiver channel : ℕ) → queue_at before.messages receiver channel ≡ [] → queue_at after.messages receiver channel ≡ []
  stays_empty receiver channel none = ⊎_elim (λ e. e) (λ e. e ∙ none) (cleared.each receiver channel)

  -- each slot is held as often
  held_same : (i : ℕ) → slice_index after.messages.held i ≡ slice_index before.messages.held i
  held_same i = ap (λ (l : Sender T N H). slice_index l.messages.held i) cleared.rest

  -- as many were received
  borrowed_same : (receiver channel : ℕ) → borrowed_at after.messages receiver channel ≡ borrowed_at before.messages receiver channel
  borrowed_same receiver channel = ap (λ (l : Sender T N H). borrowed_at l.messages receiver channel) cleared.rest

  -- the sender is of the same size
  cleared_alike : SenderAlike before after
  cleared_alike = record {
    owner = ap (λ (l : Sender T N H). l.owner) cleared.rest;
    row = ap (λ (l : Sender T N H). l.row) cleared.rest;
    receiver = ap (λ (l : Sender T N H). l.receiver) cleared.rest;
    has_value = ap (λ (l : Sender T N H). l.has_value) cleared.rest;
    slots = slots;
    room = ap (λ (l : Sender T N H). l.messages.room) cleared.rest;
    marks = ap (λ (l : Sender T N H). length l.may_answer) cleared.rest;
    shaped = λ receivers channels capacity s. record {
      contents = ap (λ (l : Sender T N H). length l.messages.contents) cleared.rest ∙ s.contents ∙ sym slots;
      details = ap (λ (l : Sender T N H). length l.messages.details) cleared.rest ∙ s.details ∙ sym slots;
      user_headers = ap (λ (l : Sender T N H). length l.messages.user_headers) cleared.rest ∙ s.user_headers ∙ sym slots;
      queues = cleared.receivers ∙ s.queues;
      borrowed = ap (λ (l : Sender T N H). length l.messages.borrowed) cleared.rest ∙ s.borrowed;
      queue_channels = λ r h. cleared.channels r ∙ s.queue_channels r h;
      borrowed_channels = λ r h. ap (λ (l : Sender T N H). length (slice_index_or l.messages.borrowed r [])) cleared.rest
          ∙ s.borrowed_channels r h;
      capacity_is = ap (λ (l : Sender T N H). l.messages.capacity) cleared.rest ∙ s.capacity_is;
      within = λ r c. ⊎_elim
          (λ e. omega (arith, ap length e))
          (λ e. omega (arith, ap length e, s.within r c))
          (cleared.each r c);
      inside = λ i some. omega (arith, slots, s.inside i (omega (arith, some, cleared.fewer i)));
    };
  }
    where
      slots : length after.messages.held ≡ length before.messages.held
      slots = ap (λ (l : Sender T N H). length l.messages.held) cleared.rest

-- all senders are of the same sizes
senders_alike : {T N H : Type 0} (before after : List (Sender T N H)) → SendersCleared before after → SendersAlike before after
senders_alike before after cleared =
    record { many = cleared.many; each = λ l. cleared_alike (sender_of l before) (sender_of l after) (cleared.each l) }

module _ {Q QH P PH K : Type 0} (p : Parts Q QH P PH K) (hand : Hand) (sound : IsSoundStore p hand)
    (client_senders : List (Sender Q RequestDetails QH)) (server_senders : List (Sender P ResponseDetails PH))
    (requests : SendersCleared p.client_senders client_senders) (responses : SendersCleared p.server_senders server_senders) where
  -- the core with those senders
  abbrev pub after : Parts Q QH P PH K
  after = moved p p.clients client_senders server_senders p.table.entries p.next

  frame : SameFrame p p.clients client_senders server_senders p.next
  frame = record {
    clients_alike = refl;
    client_senders_alike = senders_alike p.client_senders client_senders requests;
    server_senders_alike = senders_alike p.server_senders server_senders responses;
    numbers = omega arith;
  }

  request_details_same : (l i : ℕ) → request_details after l i ≡ request_details p l i
  request_details_same l i = ap (λ (x : Sender Q RequestDetails QH). slice_index_or x.messages.details i no_request) (requests.each l).rest

  response_details_same : (l i : ℕ) → response_details after l i ≡ response_details p l i
  response_details_same l i = ap (λ (x : Sender P ResponseDetails PH). slice_index_or x.messages.details i no_response)
      (responses.each l).rest

  requests_held : (l i : ℕ) → slice_index (sender_of l client_senders).messages.held i
      ≡ slice_index (sender_of l p.client_senders).messages.held i
  requests_held l i = held_same _ _ (requests.each l) i

  responses_held : (l i : ℕ) → slice_index (sender_of l server_senders).messages.held i
      ≡ slice_index (sender_of l p.server_senders).messages.held i
  responses_held l i = held_same _ _ (responses.each l) i

  fewer_requests : (l i : ℕ) → request_uses after l i ≤ request_uses p l i
  fewer_requests l i = omega (arith, requests_held l i, (requests.each l).fewer i)

  fewer_responses : (l i : ℕ) → response_uses after l i ≤ response_uses p l i
  fewer_responses l i = omega (arith, responses_held l i, (responses.each l).fewer i)

  -- every message that is used was used before
  details_kept : DetailsKept p after
  details_kept = record {
    requests_used = λ l i h. omega (arith, h, fewer_requests l i);
    requests_noted = λ l i h. request_details_same l i;
    responses_used = λ l i h. omega (arith, h, fewer_responses l i);
    responses_noted = λ l i h. response_details_same l i;
  }

  counted : IsCounted after hand
  counted = record {
    requests = λ l i. requests_held l i ∙ sound.counted.requests l i;
    responses = λ l i. responses_held l i ∙ sound.counted.responses l i;
  }

  held_once : IsHeldOnce after hand
  held_once = record {
    loans = λ k s at is. omega (
      arith,
      sound.held_once.loans k s at is,
      fewer_requests s.value.sender s.value.slot,
      handle_uses_request after hand counted k s at (loan_is_request s.value.stage is),
    );
    servers = λ l i server. omega (
      arith,
      sound.held_once.servers l i server,
      waits_less _ _ (requests.each l) (server_place p server) 0 i,
    );
    responses = λ l i. omega (arith, sound.held_once.responses l i, fewer_responses l i);
  }

  stored : IsStored after hand
  stored =
      let n = sound.stored in
      record {
        request_loans = λ l h. ap (λ (x : Sender Q RequestDetails QH). x.loans) (requests.each l).rest
            ∙ n.request_loans l (omega (arith, h, requests.many));
        pendings = λ l h. ap (λ (x : Sender Q RequestDetails QH). x.pendings) (requests.each l).rest
            ∙ n.pendings l (omega (arith, h, requests.many));
        response_loans = λ l h. ap (λ (x : Sender P ResponseDetails PH). x.loans) (responses.each l).rest
            ∙ n.response_loans l (omega (arith, h, responses.many));
        active_loans = λ k server loans s at is. n.active_loans k server loans s at is
            ∙ sym (λ i. handles p (λ h. is_response_loan h.stage && (response_details_same h.sender h.slot i).active_request == k) hand);
        borrowed_requests = λ l server h. borrowed_same _ _ (requests.each l) (server_place p server) 0
            ∙ n.borrowed_requests l server (omega (arith, h, requests.many));
        borrowed_responses = λ l j channel c h at. borrowed_same _ _ (responses.each l) c.receiver channel
            ∙ n.borrowed_responses l j channel c (omega (arith, h, responses.many)) at
            ∙ sym (λ i. handles p (λ h. is_received h.stage && (h.sender == l
            && ((response_details_same h.sender h.slot i).client == c.port.id && (response_details_same h.sender h.slot i).channel
            == channel))) hand);
      }

  vacated : IsVacated after
  vacated = let n = sound.vacated in record {
    of_clients = λ l receiver channel none. let v = n.of_clients l receiver channel none in (
      stays_empty _ _ (responses.each l) receiver channel v.0,
      borrowed_same _ _ (responses.each l) receiver channel ∙ v.1,
    );
    of_servers = λ l receiver channel none. let v = n.of_servers l receiver channel none in (
      stays_empty _ _ (requests.each l) receiver channel v.0,
      borrowed_same _ _ (requests.each l) receiver channel ∙ v.1,
    );
    awaits_none = λ l slot receiver server new fits.
        ap (λ (x : Sender Q RequestDetails QH). slice_index_or x.may_answer (slot * p.limits.max_servers + receiver) no_server == server)
        (requests.each l).rest
        ∙ n.awaits_none l slot receiver server new fits;
  }

  -- it is sound
  pub cleared_sound : IsSoundStore after hand
  cleared_sound = record {
    counted = counted;
    held_once = held_once;
    numbered = kept_numbered p hand sound p.clients client_senders server_senders p.next frame details_kept
        (handle_uses_request after hand counted) (handle_uses_response after hand counted);
    addressed = kept_addressed p hand sound p.clients client_senders server_senders p.next frame details_kept
        (λ l i channel j c at waits.
        let a = sound.addressed.entries l i channel j c at
        (omega (arith, waits, waits_less _ _ (responses.each l) c.receiver channel i)) in (
          ap (λ (n : ResponseDetails). n.client) (response_details_same l i) ∙ a.0,
          ap (λ (n : ResponseDetails). n.channel) (response_details_same l i) ∙ a.1,
        ));
    inserted = framed_inserted p hand sound p.clients client_senders server_senders p.next frame;
    stored = stored;
    sized = framed_sized p hand sound p.clients client_senders server_senders p.table.entries p.next frame
        sound.sized.next_fits sound.sized.loans_made;
    vacated = vacated;
    have_ports = framed_have_ports p hand sound p.clients client_senders server_senders p.table.entries p.next frame (λ k s at. at);
    client_ports = framed_client_ports p hand sound p.clients client_senders server_senders p.table.entries p.next frame;
    server_ports = framed_server_ports p hand sound p.clients client_senders server_senders p.table.entries p.next frame;
  }
