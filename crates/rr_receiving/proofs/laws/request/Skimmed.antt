-- What is true of a core stays true as a request that nobody waits for leaves a queue.
use Rattle.std.proofs.Common.{◌≡◌, ◌<◌, ◌≤◌, ℕ, Some, length, get_or, refl, sym, ap, ◌∙◌, ⊎_elim, arith}
use Rattle.std.specs.Prelude.{slice_get, slice_index, slice_set}
use Rattle.std.proofs.lemmas.Bool.{cases_eq}
use Rattle.std.proofs.lemmas.List.{get_or-set_same, get_or-set_other, length-set}
use Rattle.rr_sender.specs.Senders.{Messages, times, queue_at, borrowed_at, all_entries}
use Rattle.rr_store.specs.declared.details.RequestDetails.{RequestDetails}
use Rattle.rr_store.specs.Frames.{SameFrame}
use Rattle.rr_store.specs.Kept.{DetailsKept}
use Rattle.rr_store.specs.Parts.{Parts, ServerPart, Sender}
use Rattle.rr_store.specs.Receiving.{queue_from}
use Rattle.rr_store.specs.Skimming.{without_first}
use Rattle.rr_store.specs.Sound.{IsSoundStore, IsCounted, IsHeldOnce, IsStored, IsVacated, IsShaped, empty_hand, request_details, request_uses, server_place}
use Rattle.rr_store.specs.Views.{no_sender, no_request, sender_of, is_marked}
use Rattle.rr_store.proofs.base.frames.Frames.{framed_client_ports, framed_server_ports, framed_have_ports, framed_sized, senders_set}
use Rattle.rr_store.proofs.base.views.Counts.{listed}
use Rattle.rr_store.proofs.base.hands.Hands.{senders_same}
use Rattle.rr_store.proofs.base.frames.Kept.{framed_inserted, kept_numbered, kept_addressed}
use Rattle.rr_store.proofs.base.lists.Replaced.{set_alike}
use Rattle.rr_store.proofs.base.hands.Stages.{loan_is_request, handle_uses_request, handle_uses_response}
use Rattle.rr_receiving.proofs.laws.TakenSender.{queue_there, times_less, all_less, taken_shaped}

module _ {Q QH P PH K : Type 0} (p : Parts Q QH P PH K) (sound : IsSoundStore p empty_hand) (sender : ℕ)
    (there : sender < length p.client_senders)
    (index : ℕ) (c : ServerPart K) (at : slice_get p.servers index ≡ Some c)
    (slot : ℕ) (first : slice_get (queue_from p.client_senders c.receiver 0 sender) 0 ≡ Some slot) where
  abbrev m : Messages Q RequestDetails QH
  m = (sender_of sender p.client_senders).messages

  abbrev fresh : Sender Q RequestDetails QH
  fresh = without_first c.receiver (sender_of sender p.client_senders)

  -- the core without the entry
  abbrev pub after_skim : Parts Q QH P PH K
  after_skim = record p { client_senders = slice_set p.client_senders sender fresh }

  shaped : IsShaped p.limits.max_servers 1 p.limits.max_active_requests_per_client m
  shaped = sound.sized.client_senders sender there

  placed : c.receiver < p.limits.max_servers
  placed = sound.server_ports.placed index c.connected (listed (λ (c : ServerPart K). c.connected) p.servers index c at)

  one : 0 < 1
  one = omega arith

  shape : (r n k : ℕ) → IsShaped r n k m → IsShaped r n k fresh.messages
  shape r n k h =
      let s = taken_shaped m shaped c.receiver 0 slot placed one first r n k h in
      record {
        contents = h.contents;
        details = h.details;
        user_headers = h.user_headers;
        queues = s.queues;
        borrowed = h.borrowed;
        queue_channels = s.queue_channels;
        borrowed_channels = h.borrowed_channels;
        capacity_is = h.capacity_is;
        within = s.within;
        inside = λ i some. h.inside i (omega (arith, some, all_less m shaped c.receiver 0 slot placed one first i));
      }

  frame : SameFrame p p.clients after_skim.client_senders p.server_senders p.next
  frame = record {
    clients_alike = refl;
    client_senders_alike = senders_set p.client_senders sender fresh
        (record { owner = refl; row = refl; receiver = refl; has_value = refl; slots = refl; room = refl; marks = refl; shaped = shape });
    server_senders_alike = senders_same p.server_senders;
    numbers = omega arith;
  }

  pub same_of : {Y : Type 0} (f : Sender Q RequestDetails QH → Y) → f fresh ≡ f (sender_of sender p.client_senders) → (k : ℕ)
      → f (sender_of k after_skim.client_senders) ≡ f (sender_of k p.client_senders)
  same_of f same k = set_alike p.client_senders sender fresh no_sender f same k

  here_is : sender_of sender after_skim.client_senders ≡ fresh
  here_is = get_or-set_same p.client_senders sender fresh no_sender there

  there_is : (k : ℕ) → (sender ≡ k → ⊥) → sender_of k after_skim.client_senders ≡ sender_of k p.client_senders
  there_is k n = get_or-set_other p.client_senders sender k fresh no_sender (λ e. n (sym e))

  details_same : (k j : ℕ) → request_details after_skim k j ≡ request_details p k j
  details_same k j = same_of (λ x. get_or x.messages.details j no_request) refl k

  held_same : (k j : ℕ) → slice_index (sender_of k after_skim.client_senders).messages.held j ≡ slice_index
      (sender_of k p.client_senders).messages.held j
  held_same k j = same_of (λ x. slice_index x.messages.held j) refl k

  entries_less : (k j : ℕ) → times j (all_entries (sender_of k after_skim.client_senders).messages.queues) ≤ times j
      (all_entries (sender_of k p.client_senders).messages.queues)
  entries_less k j =
      ⊎_elim
      (λ e. omega (
        arith,
        ap (λ (x : Sender Q RequestDetails QH). times j (all_entries x.messages.queues))
            (sym (ap (λ k. sender_of k after_skim.client_senders) e) ∙ here_is),
        all_less m shaped c.receiver 0 slot placed one first j,
        ap (λ k. times j (all_entries (sender_of k p.client_senders).messages.queues)) e,
      ))
      (λ n. omega (arith, ap (λ (x : Sender Q RequestDetails QH). times j (all_entries x.messages.queues)) (there_is k n)))
      (cases_eq sender k)

  queue_less : (k j r : ℕ) → times j (queue_at (sender_of k after_skim.client_senders).messages r 0) ≤ times j
      (queue_at (sender_of k p.client_senders).messages r 0)
  queue_less k j r =
      ⊎_elim
      (λ e. omega (
        arith,
        ap (λ (x : Sender Q RequestDetails QH). times j (queue_at x.messages r 0))
            (sym (ap (λ k. sender_of k after_skim.client_senders) e) ∙ here_is),
        times_less m shaped c.receiver 0 slot placed one first j r 0,
        ap (λ k. times j (queue_at (sender_of k p.client_senders).messages r 0)) e,
      ))
      (λ n. omega (arith, ap (λ (x : Sender Q RequestDetails QH). times j (queue_at x.messages r 0)) (there_is k n)))
      (cases_eq sender k)

  used_less : (k j : ℕ) → request_uses after_skim k j ≤ request_uses p k j
  used_less k j = omega (arith, held_same k j, entries_less k j)

  counted : IsCounted after_skim empty_hand
  counted = record { requests = λ k j. held_same k j ∙ sound.counted.requests k j; responses = sound.counted.responses }

  held_once : IsHeldOnce after_skim empty_hand
  held_once = record {
    loans = λ k s e is. omega (
      arith,
      sound.held_once.loans k s e is,
      used_less s.value.sender s.value.slot,
      handle_uses_request after_skim empty_hand counted k s e (loan_is_request s.value.stage is),
    );
    servers = λ k j server. omega (arith, sound.held_once.servers k j server, queue_less k j (server_place p server));
    responses = sound.held_once.responses;
  }

  kept : DetailsKept p after_skim
  kept = record {
    requests_used = λ k j h. omega (arith, h, used_less k j);
    requests_noted = λ k j h. details_same k j;
    responses_used = λ k j h. h;
    responses_noted = λ k j h. refl;
  }

  stored : IsStored after_skim empty_hand
  stored =
      let n = sound.stored in
      record {
        request_loans = λ k h. same_of (λ x. x.loans) refl k
            ∙ n.request_loans k (omega (arith, h, length-set p.client_senders sender fresh));
        pendings = λ k h. same_of (λ x. x.pendings) refl k ∙ n.pendings k (omega (arith, h, length-set p.client_senders sender fresh));
        response_loans = n.response_loans;
        active_loans = n.active_loans;
        borrowed_requests = λ k server h. same_of (λ x. borrowed_at x.messages (server_place p server) 0) refl k
            ∙ n.borrowed_requests k server (omega (arith, h, length-set p.client_senders sender fresh));
        borrowed_responses = n.borrowed_responses;
      }

  vacated : IsVacated after_skim
  vacated = record {
    of_clients = sound.vacated.of_clients;
    of_servers = λ k r ch none.
        let old = sound.vacated.of_servers k r ch none in
        let far : r ≡ c.receiver → ⊥ = λ e. none index c at (sym e) in (
          same_of (λ x. queue_at x.messages r ch) (queue_there m shaped c.receiver 0 slot placed one first r ch (λ e _. far e)) k ∙ old.0,
          same_of (λ x. borrowed_at x.messages r ch) refl k ∙ old.1,
        );
    awaits_none = λ l i r server new fits.
        ap (λ ms. is_marked p.limits.max_servers ms i r server) (same_of (λ x. x.may_answer) refl l)
        ∙ sound.vacated.awaits_none l i r server new fits;
  }

  -- the core stays sound
  pub skim_sound : IsSoundStore after_skim empty_hand
  skim_sound = record {
    counted = counted;
    held_once = held_once;
    numbered = kept_numbered p empty_hand sound p.clients after_skim.client_senders p.server_senders p.next frame kept
        (handle_uses_request after_skim empty_hand counted) (handle_uses_response after_skim empty_hand counted);
    addressed = kept_addressed p empty_hand sound p.clients after_skim.client_senders p.server_senders p.next frame kept
        (λ l i ch j d e some. sound.addressed.entries l i ch j d e some);
    inserted = framed_inserted p empty_hand sound p.clients after_skim.client_senders p.server_senders p.next frame;
    stored = stored;
    sized = framed_sized p empty_hand sound p.clients after_skim.client_senders p.server_senders p.table.entries p.next
        frame
        sound.sized.next_fits sound.sized.loans_made;
    vacated = vacated;
    have_ports = framed_have_ports p empty_hand sound p.clients after_skim.client_senders p.server_senders p.table.entries p.next frame (λ k s at. at);
    client_ports = framed_client_ports p empty_hand sound p.clients after_skim.client_senders p.server_senders
        p.table.entries
        p.next frame;
    server_ports = framed_server_ports p empty_hand sound p.clients after_skim.client_senders p.server_senders
        p.table.entries
        p.next frame;
  }
