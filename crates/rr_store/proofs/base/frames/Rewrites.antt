-- A core stays sound while what stands in slots is written.
use Rattle.std.proofs.Common.{◌≡◌, ◌<◌, ◌≤◌, ◌+◌, ℕ, List, [], length, refl, sym, ap, ◌∙◌, subst, arith, ◌*◌}
use Rattle.std.specs.Prelude.{◌&&◌, ◌==◌, slice_index, slice_index_or}
use Rattle.rr_sender.specs.Senders.{at_two, all_entries, times}
use Rattle.rr_store.specs.declared.details.RequestDetails.{RequestDetails}
use Rattle.rr_store.specs.declared.details.ResponseDetails.{ResponseDetails}
use Rattle.rr_store.specs.Parts.{Parts, Sender}
use Rattle.rr_store.specs.Views.{sender_of, no_request, no_response}
use Rattle.rr_store.specs.Sound.{IsSoundStore, IsCounted, IsHeldOnce, IsStored, IsVacated, Hand, handles, is_response_loan, is_received, is_active_at, request_uses, response_uses, request_details, response_details, server_place}
use Rattle.rr_store.specs.Frames.{SenderAlike, SendersAlike, SameFrame, moved}
use Rattle.rr_store.specs.Kept.{DetailsKept}
use Rattle.rr_store.specs.Rewrites.{Outline, SenderRewritten, SendersRewritten}
use Rattle.rr_store.proofs.base.frames.Frames.{framed_client_ports, framed_server_ports, framed_have_ports, framed_sized}
use Rattle.rr_store.proofs.base.frames.Kept.{framed_inserted, kept_numbered, kept_addressed}
use Rattle.rr_store.proofs.base.hands.Stages.{handle_uses_request, handle_uses_response}

module _ {T N H : Type 0} where
  -- a sender that was rewritten is of the same size
  rewritten_alike : (before after : Sender T N H) → SenderRewritten before after → SenderAlike before after
  rewritten_alike before after r = record {
    owner = ap (λ (o : Outline N). o.owner) r.outline;
    row = ap (λ (o : Outline N). o.row) r.outline;
    receiver = ap (λ (o : Outline N). o.receiver) r.outline;
    has_value = ap (λ (o : Outline N). o.has_value) r.outline;
    slots = ap (λ (o : Outline N). length o.held) r.outline;
    room = ap (λ (o : Outline N). o.room) r.outline;
    marks = r.marks;
    shaped = λ receivers channels capacity s.
        let entry = ap (λ (o : Outline N). length o.held) r.outline in
        record {
          contents = r.contents ∙ s.contents ∙ sym entry;
          details = ap (λ (o : Outline N). length o.details) r.outline ∙ s.details ∙ sym entry;
          user_headers = r.user_headers ∙ s.user_headers ∙ sym entry;
          queues = ap (λ (o : Outline N). length o.queues) r.outline ∙ s.queues;
          borrowed = ap (λ (o : Outline N). length o.borrowed) r.outline ∙ s.borrowed;
          queue_channels = λ i h. ap (λ (o : Outline N). length (slice_index_or o.queues i [])) r.outline ∙ s.queue_channels i h;
          borrowed_channels = λ i h. ap (λ (o : Outline N). length (slice_index_or o.borrowed i [])) r.outline ∙ s.borrowed_channels i h;
          capacity_is = ap (λ (o : Outline N). o.capacity) r.outline ∙ s.capacity_is;
          within = λ i c. subst (λ (o : Outline N). length (at_two [] o.queues i c) ≤ capacity) (sym r.outline) (s.within i c);
          inside = λ i some. subst (λ (o : Outline N). i < length o.held) (sym r.outline)
              (s.inside i (subst (λ (o : Outline N). 0 < times i (all_entries o.queues)) r.outline some));
        };
  }

  -- and so is each sender
  pub senders_alike : (before after : List (Sender T N H)) → SendersRewritten before after → SendersAlike before after
  senders_alike before after r = record { many = r.many; each = λ l. rewritten_alike (sender_of l before) (sender_of l after) (r.each l) }

  -- senders that stay
  pub senders_unwritten : (senders : List (Sender T N H)) → SendersRewritten senders senders
  senders_unwritten senders = record {
    many = refl;
    each = λ l. record
        { outline = refl; contents = refl; user_headers = refl; marks = refl; none_more = λ i server fits none. none };
  }

module _ {Q QH P PH K : Type 0} (p : Parts Q QH P PH K) (hand : Hand) (sound : IsSoundStore p hand)
    (client_senders : List (Sender Q RequestDetails QH)) (server_senders : List (Sender P ResponseDetails PH))
    (c : SendersRewritten p.client_senders client_senders) (s : SendersRewritten p.server_senders server_senders) where
  -- the core with those senders
  abbrev pub rewritten : Parts Q QH P PH K
  rewritten = moved p p.clients client_senders server_senders p.table.entries p.next

  frame : SameFrame p p.clients client_senders server_senders p.next
  frame = record {
    clients_alike = refl;
    client_senders_alike = senders_alike p.client_senders client_senders c;
    server_senders_alike = senders_alike p.server_senders server_senders s;
    numbers = omega arith;
  }

  request_uses_same : (l i : ℕ) → request_uses rewritten l i ≡ request_uses p l i
  request_uses_same l i = ap (λ (o : Outline RequestDetails). slice_index o.held i + times i (all_entries o.queues)) (c.each l).outline

  response_uses_same : (l i : ℕ) → response_uses rewritten l i ≡ response_uses p l i
  response_uses_same l i = ap (λ (o : Outline ResponseDetails). slice_index o.held i + times i (all_entries o.queues)) (s.each l).outline

  request_details_same : (l i : ℕ) → request_details rewritten l i ≡ request_details p l i
  request_details_same l i = ap (λ (o : Outline RequestDetails). slice_index_or o.details i no_request) (c.each l).outline

  response_details_same : (l i : ℕ) → response_details rewritten l i ≡ response_details p l i
  response_details_same l i = ap (λ (o : Outline ResponseDetails). slice_index_or o.details i no_response) (s.each l).outline

  details_kept : DetailsKept p rewritten
  details_kept = record {
    requests_used = λ l i h. omega (arith, h, request_uses_same l i);
    requests_noted = λ l i h. request_details_same l i;
    responses_used = λ l i h. omega (arith, h, response_uses_same l i);
    responses_noted = λ l i h. response_details_same l i;
  }

  rewritten_counted : IsCounted rewritten hand
  rewritten_counted = record {
    requests = λ l i. ap (λ (o : Outline RequestDetails). slice_index o.held i) (c.each l).outline ∙ sound.counted.requests l i;
    responses = λ l i. ap (λ (o : Outline ResponseDetails). slice_index o.held i) (s.each l).outline ∙ sound.counted.responses l i;
  }

  rewritten_once : IsHeldOnce rewritten hand
  rewritten_once = record {
    loans = λ k t at is. request_uses_same t.value.sender t.value.slot ∙ sound.held_once.loans k t at is;
    servers = λ l i server.
        subst (λ (o : Outline RequestDetails). times i (at_two [] o.queues (server_place p server) 0) + handles p
        (is_active_at l i server) hand ≤ 1) (sym (c.each l).outline)
        (sound.held_once.servers l i server);
    responses = λ l i. omega (arith, response_uses_same l i, sound.held_once.responses l i);
  }

  rewritten_stored : IsStored rewritten hand
  rewritten_stored = let n = sound.stored in record {
    request_loans = λ l h. ap (λ (o : Outline RequestDetails). o.loans) (c.each l).outline ∙ n.request_loans l (omega (arith, h, c.many));
    pendings = λ l h. ap (λ (o : Outline RequestDetails). o.pendings) (c.each l).outline ∙ n.pendings l (omega (arith, h, c.many));
    response_loans = λ l h. ap (λ (o : Outline ResponseDetails). o.loans) (s.each l).outline
        ∙ n.response_loans l (omega (arith, h, s.many));
    active_loans = λ k server loans t at is. n.active_loans k server loans t at is
        ∙ sym (λ i. handles p (λ h. is_response_loan h.stage && (response_details_same h.sender h.slot i).active_request == k) hand);
    borrowed_requests = λ l server h.
        ap (λ (o : Outline RequestDetails). at_two 0 o.borrowed (server_place p server) 0) (c.each l).outline
        ∙ n.borrowed_requests l server (omega (arith, h, c.many));
    borrowed_responses = λ l j channel client h at.
        ap (λ (o : Outline ResponseDetails). at_two 0 o.borrowed client.receiver channel) (s.each l).outline
        ∙ n.borrowed_responses l j channel client (omega (arith, h, s.many)) at
        ∙ sym (λ i. handles p (λ h. is_received h.stage && (h.sender == l
        && ((response_details_same h.sender h.slot i).client == client.port.id && (response_details_same h.sender h.slot i).channel
        == channel)))
        hand);
  }

  rewritten_vacated : IsVacated rewritten
  rewritten_vacated = let n = sound.vacated in record {
    of_clients = λ l receiver channel none. let v = n.of_clients l receiver channel none in (
      ap (λ (o : Outline ResponseDetails). at_two [] o.queues receiver channel) (s.each l).outline ∙ v.0,
      ap (λ (o : Outline ResponseDetails). at_two 0 o.borrowed receiver channel) (s.each l).outline ∙ v.1,
    );
    of_servers = λ l receiver channel none. let v = n.of_servers l receiver channel none in (
      ap (λ (o : Outline RequestDetails). at_two [] o.queues receiver channel) (c.each l).outline ∙ v.0,
      ap (λ (o : Outline RequestDetails). at_two 0 o.borrowed receiver channel) (c.each l).outline ∙ v.1,
    );
    awaits_none = λ l slot receiver server new fits.
        (c.each l).none_more (slot * p.limits.max_servers + receiver) server fits (n.awaits_none l slot receiver server new fits);
  }

  -- it is sound
  pub rewritten_sound : IsSoundStore rewritten hand
  rewritten_sound = record {
    counted = rewritten_counted;
    held_once = rewritten_once;
    numbered = kept_numbered p hand sound p.clients client_senders server_senders p.next frame details_kept
        (λ k t at is. omega (arith, handle_uses_request p hand sound.counted k t at is, request_uses_same t.value.sender t.value.slot))
        (λ k t at is. omega (arith, handle_uses_response p hand sound.counted k t at is, response_uses_same t.value.sender t.value.slot));
    addressed = kept_addressed p hand sound p.clients client_senders server_senders p.next frame details_kept
        (λ l i channel j client at waits.
        let a = sound.addressed.entries l i channel j client at
        (subst (λ (o : Outline ResponseDetails). 0 < times i (at_two [] o.queues client.receiver channel)) (s.each l).outline waits) in (
          ap (λ (n : ResponseDetails). n.client) (response_details_same l i) ∙ a.0,
          ap (λ (n : ResponseDetails). n.channel) (response_details_same l i)
              ∙ a.1,
        ));
    inserted = framed_inserted p hand sound p.clients client_senders server_senders p.next frame;
    stored = rewritten_stored;
    sized = framed_sized p hand sound p.clients client_senders server_senders p.table.entries p.next frame
        sound.sized.next_fits sound.sized.loans_made;
    vacated = rewritten_vacated;
    have_ports = framed_have_ports p hand sound p.clients client_senders server_senders p.table.entries p.next frame (λ k s at. at);
    client_ports = framed_client_ports p hand sound p.clients client_senders server_senders p.table.entries p.next
        frame;
    server_ports = framed_server_ports p hand sound p.clients client_senders server_senders p.table.entries p.next
        frame;
  }
