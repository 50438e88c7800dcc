-- What is true of a core stays true as a handle in hand is dropped.
use Rattle.std.proofs.Common.{◌≡◌, ◌<◌, ◌≤◌, ◌+◌, ◌*◌, ℕ, List, [], ◌∷◌, length, sym, ap, ◌∙◌, arith, Bool}
use Rattle.std.specs.Prelude.{◌==◌, ◌&&◌, slice_index_or}
use Rattle.rr_table.specs.Maps.{mark}
use Rattle.rr_sender.specs.Senders.{times, all_entries}
use Rattle.rr_store.specs.declared.handle_entry.HandleEntry.{HandleEntry}
use Rattle.rr_store.specs.declared.details.RequestDetails.{RequestDetails}
use Rattle.rr_store.specs.declared.details.ResponseDetails.{ResponseDetails}
use Rattle.rr_store.specs.Parts.{Parts, Sender}
use Rattle.rr_store.specs.Views.{no_request, no_response, no_server}
use Rattle.rr_store.specs.Sound.{IsSoundStore, IsCounted, IsHeldOnce, IsStored, IsVacated, Hand, handles, is_request_at, is_response_at, is_active_at, is_request_loan, is_response_loan, is_received, is_in_sender, is_pending, is_active_of, is_loan_from, is_received_at, request_details, response_details, request_uses, response_uses, server_place}
use Rattle.rr_store.specs.Frames.{moved, SameFrame}
use Rattle.rr_store.specs.Kept.{DetailsKept}
use Rattle.rr_store.specs.Dropping.{IsDropped}
use Rattle.rr_store.proofs.base.hands.Stages.{loan_is_request, handle_uses_request, handle_uses_response}
use Rattle.rr_store.proofs.base.frames.Frames.{framed_client_ports, framed_server_ports, framed_have_ports, framed_sized}
use Rattle.rr_store.proofs.base.frames.Kept.{framed_inserted, kept_numbered, kept_addressed}
use Rattle.rr_store.proofs.base.hands.Hands.{count-cons}

module _ {Q QH P PH K : Type 0} (p : Parts Q QH P PH K) (entry : HandleEntry) (hand : Hand) (sound : IsSoundStore p (entry ∷ hand))
    (client_senders : List (Sender Q RequestDetails QH))
    (server_senders : List (Sender P ResponseDetails PH))
    (d : IsDropped p entry client_senders server_senders) where
  -- the core without the handle
  abbrev pub dropped : Parts Q QH P PH K
  dropped = moved p p.clients client_senders server_senders p.table.entries p.next

  frame : SameFrame p p.clients client_senders server_senders p.next
  frame = d.frame

  -- what is counted with the handle is one more than without, if it passes
  one_less : (test : HandleEntry → Bool) → handles p test (entry ∷ hand) ≡ mark (test entry) + handles dropped test hand
  one_less test = omega (arith, count-cons test entry hand)

  request_details_same : (l i : ℕ) → request_details dropped l i ≡ request_details p l i
  request_details_same l i = ap (λ (ns : List RequestDetails). slice_index_or ns i no_request) (d.all_request_details l)

  response_details_same : (l i : ℕ) → response_details dropped l i ≡ response_details p l i
  response_details_same l i = ap (λ (ns : List ResponseDetails). slice_index_or ns i no_response) (d.all_response_details l)

  counted : IsCounted dropped hand
  counted = record {
    requests = λ l i. omega (arith, d.requests_held l i, sound.counted.requests l i, one_less (is_request_at l i));
    responses = λ l i. omega (arith, d.responses_held l i, sound.counted.responses l i, one_less (is_response_at l i));
  }

  fewer_requests : (l i : ℕ) → request_uses dropped l i + mark (is_request_at l i entry) ≡ request_uses p l i
  fewer_requests l i = omega (arith, d.requests_held l i, ap (λ (qs : List (List (List ℕ))). times i (all_entries qs)) (d.requests_wait l))

  fewer_responses : (l i : ℕ) → response_uses dropped l i + mark (is_response_at l i entry) ≤ response_uses p l i
  fewer_responses l i = omega (arith, d.responses_held l i, d.responses_used l i)

  -- every message that is used was used before
  pub details_kept : DetailsKept p dropped
  details_kept = record {
    requests_used = λ l i h. omega (arith, h, fewer_requests l i);
    requests_noted = λ l i h. request_details_same l i;
    responses_used = λ l i h. omega (arith, h, fewer_responses l i);
    responses_noted = λ l i h. response_details_same l i;
  }

  held_once : IsHeldOnce dropped hand
  held_once = record {
    loans = λ k s at is. omega (
      arith,
      sound.held_once.loans k s at is,
      fewer_requests s.value.sender s.value.slot,
      handle_uses_request dropped hand counted k s at (loan_is_request s.value.stage is),
    );
    servers = λ l i server. omega (
      arith,
      sound.held_once.servers l i server,
      one_less (is_active_at l i server),
      ap (λ (qs : List (List (List ℕ))). times i (slice_index_or (slice_index_or qs (server_place p server) []) 0 [])) (d.requests_wait l),
    );
    responses = λ l i. omega (arith, sound.held_once.responses l i, count-cons (is_response_at l i) entry hand, fewer_responses l i);
  }

  stored : IsStored dropped hand
  stored =
      let n = sound.stored in
      record {
        request_loans = λ l h. omega (
          arith,
          d.request_loans l,
          n.request_loans l (omega (arith, h, frame.client_senders_alike.many)),
          one_less (is_in_sender is_request_loan l),
        );
        pendings = λ l h. omega (
          arith,
          d.pendings l,
          n.pendings l (omega (arith, h, frame.client_senders_alike.many)),
          one_less (is_in_sender is_pending l),
        );
        response_loans = λ l h. omega (
          arith,
          d.response_loans l,
          n.response_loans l (omega (arith, h, frame.server_senders_alike.many)),
          one_less (is_in_sender is_response_loan l),
        );
        active_loans = λ k server loans s at is.
            let same : handles dropped (is_loan_from p k) hand ≡ handles dropped (is_loan_from dropped k) hand =
            sym (λ i. handles dropped (λ h. is_response_loan h.stage && (response_details_same h.sender h.slot i).active_request == k) hand)
            in
            omega (
              arith,
              n.active_loans k server loans s at is,
              one_less (is_loan_from p k),
              ap mark (d.loans_from k server loans s at is),
              same,
            );
        borrowed_requests = λ l server h.
            let within : l < length p.client_senders = omega (arith, h, frame.client_senders_alike.many) in
            omega (
              arith,
              d.request_borrows l server within,
              n.borrowed_requests l server within,
              one_less (is_in_sender (is_active_of server) l),
            );
        borrowed_responses = λ l i channel c h at.
            let within : l < length p.server_senders = omega (arith, h, frame.server_senders_alike.many) in
            let same : handles dropped (is_received_at p l c.port.id channel) hand ≡ handles dropped
            (is_received_at dropped l c.port.id channel) hand =
            sym (λ i. handles dropped (λ h. is_received h.stage
            && (h.sender == l && ((response_details_same h.sender h.slot i).client == c.port.id
            && (response_details_same h.sender h.slot i).channel == channel))) hand) in
            omega (
              arith,
              same,
              d.response_borrows l i channel c within at,
              n.borrowed_responses l i channel c within at,
              one_less (is_received_at p l c.port.id channel),
            );
      }

  vacated : IsVacated dropped
  vacated = record {
    of_clients = λ l receiver channel none.
        let v = sound.vacated.of_clients l receiver channel none in
        (d.responses_none l receiver channel v.0, omega (arith, v.1, d.responses_borrowed l receiver channel));
    of_servers = λ l receiver channel none.
        let v = sound.vacated.of_servers l receiver channel none in (
          ap (λ (qs : List (List (List ℕ))). slice_index_or (slice_index_or qs receiver []) channel []) (d.requests_wait l)
              ∙ v.0,
          omega (arith, v.1, d.requests_borrowed l receiver channel),
        );
    awaits_none = λ l slot receiver server new fits.
        ap (λ (ms : List ℕ). slice_index_or ms (slot * p.limits.max_servers + receiver) no_server == server) (d.marks l)
        ∙ sound.vacated.awaits_none l slot receiver server new fits;
  }

  -- the core without the handle is sound
  pub dropped_sound : IsSoundStore dropped hand
  dropped_sound = record {
    counted = counted;
    held_once = held_once;
    numbered = kept_numbered p (entry ∷ hand) sound p.clients client_senders server_senders p.next frame details_kept
        (handle_uses_request dropped hand counted) (handle_uses_response dropped hand counted);
    addressed = kept_addressed p (entry ∷ hand) sound p.clients client_senders server_senders p.next frame details_kept
        (λ l i channel j c at waits.
        let a = sound.addressed.entries l i channel j c at (omega (arith, waits, d.responses_wait l c.receiver channel i)) in (
          ap (λ (n : ResponseDetails). n.client) (response_details_same l i) ∙ a.0,
          ap (λ (n : ResponseDetails). n.channel) (response_details_same l i) ∙ a.1,
        ));
    inserted = framed_inserted p (entry ∷ hand) sound p.clients client_senders server_senders p.next frame;
    stored = stored;
    sized = framed_sized p (entry ∷ hand) sound p.clients client_senders server_senders p.table.entries p.next frame
        sound.sized.next_fits sound.sized.loans_made;
    vacated = vacated;
    have_ports = framed_have_ports p (entry ∷ hand) sound p.clients client_senders server_senders p.table.entries p.next frame (λ k s at. at);
    client_ports = framed_client_ports p (entry ∷ hand) sound p.clients client_senders server_senders p.table.entries p.next
        frame;
    server_ports = framed_server_ports p (entry ∷ hand) sound p.clients client_senders server_senders p.table.entries p.next
        frame;
  }
