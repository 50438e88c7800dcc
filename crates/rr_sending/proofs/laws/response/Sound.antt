-- What is true of a core stays true as a response in hand is put into a queue to its client.
use Rattle.std.proofs.Common.{◌≡◌, ◌<◌, ◌≤◌, ◌+◌, ℕ, Bool, true, [], ◌∷◌, Some, length, get_or, refl, sym, ap, ◌∙◌, ⊎_elim, arith}
use Rattle.std.specs.Prelude.{◌==◌, ◌&&◌, slice_get, slice_index}
use Rattle.std.proofs.lemmas.Bool.{cases_eq, eq-eqb}
use Rattle.std.proofs.lemmas.List.{get_or-set_same, get_or-set_other, length-set}
use Rattle.rr_table.specs.Maps.{mark}
use Rattle.rr_table.specs.TableView.{TableEntry}
use Rattle.rr_sender.specs.Senders.{Messages, times, all_entries, queue_at, borrowed_at, put, uses, with_queue}
use Rattle.rr_sender.proofs.EntryLaws as laws
use Rattle.rr_protocol.specs.Limits.{worst_case_requests}
use Rattle.rr_store.specs.declared.handle_entry.HandleEntry.{HandleEntry}
use Rattle.rr_store.specs.declared.details.ResponseDetails.{ResponseDetails}
use Rattle.rr_store.specs.Parts.{Parts, ClientPart, Sender}
use Rattle.rr_store.specs.Views.{no_sender, no_response, sender_of}
use Rattle.rr_store.specs.Sound.{IsSoundStore, IsCounted, IsHeldOnce, IsStored, IsVacated, IsShaped, handles, is_of_response, is_response_loan, is_response_at, is_loan_from, is_received, is_received_at, response_uses, response_details}
use Rattle.rr_store.specs.Frames.{SameFrame}
use Rattle.rr_store.specs.Kept.{DetailsKept}
use Rattle.rr_store.specs.Loaning.{with_messages}
use Rattle.rr_store.specs.Delivering.{with_delivered}
use Rattle.rr_store.proofs.base.lists.Replaced.{set_alike}
use Rattle.rr_store.proofs.base.frames.Frames.{framed_client_ports, framed_server_ports, framed_have_ports, framed_sized, senders_set}
use Rattle.rr_store.proofs.base.views.Counts.{listed}
use Rattle.rr_store.proofs.base.hands.Hands.{count-cons, senders_same}
use Rattle.rr_store.proofs.base.frames.Kept.{framed_inserted, kept_numbered, kept_addressed}
use Rattle.rr_sending.proofs.laws.put.One.{queue_there, queue_cases, times_there, all_more, put_shaped}
use Rattle.rr_store.proofs.base.lookups.Shown.{held_within}
use Rattle.rr_store.proofs.base.hands.Stages.{handle_uses_request, handle_uses_response}
use Rattle.rr_store.proofs.base.lists.Tallies.{tally-same}

module _ {Q QH P PH K : Type 0} (p : Parts Q QH P PH K) (entry : HandleEntry)
    (sound : IsSoundStore p (entry ∷ [])) (is_response : is_of_response entry.stage ≡ true) (there : entry.sender < length p.server_senders)
    (some : 0 < slice_index (sender_of entry.sender p.server_senders).messages.held entry.slot)
    (once : response_uses p entry.sender entry.slot ≡ 1)
    (index : ℕ) (c : ClientPart K) (at : slice_get p.clients index ≡ Some c) (channel : ℕ) (inside : channel < worst_case_requests p.limits)
    (capacity : 0 < (sender_of entry.sender p.server_senders).messages.capacity)
    (client : (response_details p entry.sender entry.slot).client ≡ c.port.id)
    (on_channel : (response_details p entry.sender entry.slot).channel ≡ channel) where
  abbrev m : Messages P ResponseDetails PH
  m = (sender_of entry.sender p.server_senders).messages

  abbrev overflow : Bool
  overflow = p.limits.enable_safe_overflow_for_responses

  abbrev fresh : Sender P ResponseDetails PH
  fresh = with_messages (sender_of entry.sender p.server_senders) (with_queue m c.receiver channel
      (put overflow m.capacity (queue_at m c.receiver channel) entry.slot))

  abbrev after : Parts Q QH P PH K
  after = with_delivered p entry.sender channel entry.slot (Some c.receiver)

  pub shaped : IsShaped p.limits.max_clients (worst_case_requests p.limits) p.limits.max_response_buffer_size m
  shaped = sound.sized.server_senders entry.sender there

  pub placed : c.receiver < p.limits.max_clients
  placed = sound.client_ports.placed index c.connected (listed (λ (c : ClientPart K). c.connected) p.clients index c at)

  pub within : entry.slot < length m.held
  within = held_within m.held entry.slot some

  frame : SameFrame p p.clients p.client_senders after.server_senders p.next
  frame = record {
    clients_alike = refl;
    client_senders_alike = senders_same p.client_senders;
    server_senders_alike = senders_set p.server_senders entry.sender fresh
        (record {
          owner = refl;
          row = refl;
          receiver = refl;
          has_value = refl;
          slots = refl;
          room = refl;
          marks = refl;
          shaped = put_shaped m shaped capacity overflow c.receiver channel entry.slot placed inside within;
        });
    numbers = omega arith;
  }

  pub same_of : {Y : Type 0} (f : Sender P ResponseDetails PH → Y) → f fresh ≡ f (sender_of entry.sender p.server_senders) → (k : ℕ)
      → f (sender_of k after.server_senders) ≡ f (sender_of k p.server_senders)
  same_of f same k = set_alike p.server_senders entry.sender fresh no_sender f same k

  pub here_is : sender_of entry.sender after.server_senders ≡ fresh
  here_is = get_or-set_same p.server_senders entry.sender fresh no_sender there

  there_is : (k : ℕ) → (entry.sender ≡ k → ⊥) → sender_of k after.server_senders ≡ sender_of k p.server_senders
  there_is k n = get_or-set_other p.server_senders entry.sender k fresh no_sender (λ e. n (sym e))

  -- what is in details, held and received is as it was
  pub details_same : (k j : ℕ) → response_details after k j ≡ response_details p k j
  details_same k j = same_of (λ x. get_or x.messages.details j no_response) refl k

  held_same : (k j : ℕ) → slice_index (sender_of k after.server_senders).messages.held j ≡ slice_index
      (sender_of k p.server_senders).messages.held j
  held_same k j = same_of (λ x. slice_index x.messages.held j) refl k

  borrowed_same : (k r ch : ℕ) → borrowed_at (sender_of k after.server_senders).messages r ch ≡ borrowed_at
      (sender_of k p.server_senders).messages r ch
  borrowed_same k r ch = same_of (λ x. borrowed_at x.messages r ch) refl k

  -- no slot is used more often, but for the response's, once
  used_more : (k j : ℕ) → (entry.sender ≡ k → entry.slot ≡ j → response_uses after k j ≤ 2)
      × ((entry.sender ≡ k → entry.slot ≡ j → ⊥) → response_uses after k j ≤ response_uses p k j)
  used_more k j = (here, there_less)
    where
      at_it : (k : ℕ) → entry.sender ≡ k → sender_of k after.server_senders ≡ fresh
      at_it k e = sym (ap (λ k. sender_of k after.server_senders) e) ∙ here_is

      more : (j : ℕ) → times j (all_entries fresh.messages.queues) ≤ times j (all_entries m.queues) + laws.mark entry.slot j
      more j = all_more m shaped capacity overflow c.receiver channel entry.slot placed inside within j

      here : entry.sender ≡ k → entry.slot ≡ j → response_uses after k j ≤ 2
      here e f = omega (
        arith,
        ap (λ (x : Sender P ResponseDetails PH). uses x.messages j) (at_it k e),
        more j,
        once,
        ap (λ j. uses m j) f,
        ap (laws.mark entry.slot) (sym f),
        laws.mark-same entry.slot,
      )

      there_less : (entry.sender ≡ k → entry.slot ≡ j → ⊥) → response_uses after k j ≤ response_uses p k j
      there_less n =
          ⊎_elim
          (λ e. omega (
            arith,
            ap (λ (x : Sender P ResponseDetails PH). uses x.messages j) (at_it k e),
            more j,
            laws.mark-other entry.slot j (λ f. n e f),
            ap (λ k. response_uses p k j) e,
          ))
          (λ far. omega (arith, ap (λ (x : Sender P ResponseDetails PH). uses x.messages j) (there_is k far)))
          (cases_eq entry.sender k)

  -- so no message is used that was not
  used_before : (k j : ℕ) → 0 < response_uses after k j → 0 < response_uses p k j
  used_before k j h =
      ⊎_elim
      (λ e. ⊎_elim
      (λ f. omega (arith, once, ap (λ k. response_uses p k entry.slot) e, ap (response_uses p k) f))
      (λ n. omega (arith, h, (used_more k j).1 (λ _ f. n f)))
      (cases_eq entry.slot j))
      (λ n. omega (arith, h, (used_more k j).1 (λ e _. n e)))
      (cases_eq entry.sender k)

  counted : IsCounted after (entry ∷ [])
  counted = record { requests = sound.counted.requests; responses = λ k j. held_same k j ∙ sound.counted.responses k j }

  held_once : IsHeldOnce after (entry ∷ [])
  held_once = record {
    loans = sound.held_once.loans;
    servers = sound.held_once.servers;
    responses = λ k j. ⊎_elim
        (λ e. ⊎_elim
        (λ f. omega (arith, (used_more k j).0 e f, count-cons (is_response_at k j) entry [], ap mark (passes k j e f)))
        (λ n. omega (arith, (used_more k j).1 (λ _ f. n f), sound.held_once.responses k j))
        (cases_eq entry.slot j))
        (λ n. omega (arith, (used_more k j).1 (λ e _. n e), sound.held_once.responses k j))
        (cases_eq entry.sender k);
  }
    where
      passes : (k j : ℕ) → entry.sender ≡ k → entry.slot ≡ j → is_response_at k j entry ≡ true
      passes k j e f = rw is_response (rw (eq-eqb entry.sender k e) (rw (eq-eqb entry.slot j f) refl))

  kept : DetailsKept p after
  kept = record {
    requests_used = λ k j h. h;
    requests_noted = λ k j h. refl;
    responses_used = used_before;
    responses_noted = λ k j h. details_same k j;
  }

  -- a test that reads details tests as before
  same_count : (test again : HandleEntry → Bool) → ((h : HandleEntry) → again h ≡ test h) → handles after again (entry ∷ []) ≡ handles p
      test (entry ∷ [])
  same_count test again same =
      omega (
        arith,
        tally-same p.table.entries (λ (s : TableEntry HandleEntry). again s.value) (λ (s : TableEntry HandleEntry). test s.value)
            (λ k s e. same s.value),
        count-cons again entry [],
        count-cons test entry [],
        ap mark (same entry),
      )

  stored : IsStored after (entry ∷ [])
  stored =
      let n = sound.stored in
      record {
        request_loans = n.request_loans;
        pendings = n.pendings;
        response_loans = λ k h. same_of (λ x. x.loans) refl k
            ∙ n.response_loans k (omega (arith, h, length-set p.server_senders entry.sender fresh));
        active_loans = λ k server loans s e is. n.active_loans k server loans s e is
            ∙ sym (same_count (is_loan_from p k) (is_loan_from after k)
            (λ h. ap (λ (n : ResponseDetails). is_response_loan h.stage && n.active_request == k) (details_same h.sender h.slot)));
        borrowed_requests = n.borrowed_requests;
        borrowed_responses = λ k j ch d h e. borrowed_same k d.receiver ch
            ∙ n.borrowed_responses k j ch d (omega (arith, h, length-set p.server_senders entry.sender fresh)) e
            ∙ sym (same_count (is_received_at p k d.port.id ch) (is_received_at after k d.port.id ch)
            (λ h. ap (λ (n : ResponseDetails). is_received h.stage && (h.sender == k && (n.client == d.port.id && n.channel == ch)))
            (details_same h.sender h.slot)));
      }

  vacated : IsVacated after
  vacated = record {
    of_clients = λ k r ch none.
        let r_old = sound.vacated.of_clients k r ch none in
        let far : r ≡ c.receiver → ⊥ = λ e. none index c at (sym e) in (
          same_of (λ x. queue_at x.messages r ch)
              (queue_there m shaped capacity overflow c.receiver channel entry.slot placed inside within r
              ch (λ e _. far e)) k ∙ r_old.0,
          borrowed_same k r ch ∙ r_old.1,
        );
    of_servers = sound.vacated.of_servers;
    awaits_none = sound.vacated.awaits_none;
  }

  -- an entry stands where its response says
  addressed : (l i ch j : ℕ) (d : ClientPart K) → slice_get p.clients j ≡ Some d
      → 0 < times i (queue_at (sender_of l after.server_senders).messages d.receiver ch)
      → ((response_details after l i).client ≡ d.port.id) × ((response_details after l i).channel ≡ ch)
  addressed l i ch j d e waits =
      ⊎_elim
      (λ is. in_sender is)
      (λ n. before (omega (
        arith,
        waits,
        ap (λ (x : Sender P ResponseDetails PH). times i (queue_at x.messages d.receiver ch))
            (there_is l n),
      )))
      (cases_eq entry.sender l)
    where
      before : 0 < times i (queue_at (sender_of l p.server_senders).messages d.receiver ch)
          → ((response_details after l i).client ≡ d.port.id)
          × ((response_details after l i).channel ≡ ch)
      before waited =
          let r = sound.addressed.entries l i ch j d e waited in (
            ap (λ (n : ResponseDetails). n.client) (details_same l i) ∙ r.0,
            ap (λ (n : ResponseDetails). n.channel) (details_same l i)
                ∙ r.1,
          )

      at_place : entry.sender ≡ l → entry.slot ≡ i → d.receiver ≡ c.receiver → ch ≡ channel
          → ((response_details after l i).client ≡ d.port.id)
          × ((response_details after l i).channel ≡ ch)
      at_place is slot same on =
          let one = sound.client_ports.receivers_once j index d.connected c.connected
          (listed (λ (c : ClientPart K). c.connected) p.clients j d e)
          (listed (λ (c : ClientPart K). c.connected) p.clients index c at) same in
          let f : Some d ≡ Some c = sym e ∙ ap (slice_get p.clients) one ∙ at in
          let it : d ≡ c = cc in
          let details : response_details after l i ≡ response_details p entry.sender entry.slot = details_same l i
          ∙ sym (ap (λ l. response_details p l i) is)
          ∙ sym (ap (response_details p entry.sender) slot) in (
            ap (λ (n : ResponseDetails). n.client) details ∙ client ∙ sym (ap (λ (d : ClientPart K). d.port.id) it),
            ap (λ (n : ResponseDetails). n.channel) details ∙ on_channel ∙ sym on,
          )

      in_sender : entry.sender ≡ l → ((response_details after l i).client ≡ d.port.id) × ((response_details after l i).channel ≡ ch)
      in_sender is =
          let now : 0 < times i (queue_at fresh.messages d.receiver ch) =
          omega (
            arith,
            waits,
            ap (λ (x : Sender P ResponseDetails PH). times i (queue_at x.messages d.receiver ch))
                (sym (ap (λ k. sender_of k after.server_senders) is) ∙ here_is),
          ) in
          let old : times i (queue_at m d.receiver ch) ≡ times i (queue_at (sender_of l p.server_senders).messages d.receiver ch) = ap
          (λ l. times i (queue_at (sender_of l p.server_senders).messages d.receiver ch)) is in
          ⊎_elim
          (λ slot. queue_cases m shaped capacity overflow c.receiver channel entry.slot placed inside within d.receiver ch
          (λ same on _. at_place is slot same on)
          (λ q. before (omega (arith, now, ap (times i) q, old))))
          (λ n. before (omega (
            arith,
            now,
            times_there m shaped capacity overflow c.receiver channel entry.slot placed inside within i d.receiver
                ch n,
            old,
          )))
          (cases_eq entry.slot i)

  -- the response is still in hand
  pub delivered_sound : IsSoundStore after (entry ∷ [])
  delivered_sound = record {
    counted = counted;
    held_once = held_once;
    numbered = kept_numbered p (entry ∷ []) sound p.clients p.client_senders after.server_senders p.next frame kept
        (handle_uses_request p (entry ∷ []) sound.counted)
        (handle_uses_response after (entry ∷ []) counted);
    addressed = kept_addressed p (entry ∷ []) sound p.clients p.client_senders after.server_senders p.next frame kept
        addressed;
    inserted = framed_inserted p (entry ∷ []) sound p.clients p.client_senders after.server_senders p.next frame;
    stored = stored;
    sized = framed_sized p (entry ∷ []) sound p.clients p.client_senders after.server_senders p.table.entries p.next
        frame
        sound.sized.next_fits sound.sized.loans_made;
    vacated = vacated;
    have_ports = framed_have_ports p (entry ∷ []) sound p.clients p.client_senders after.server_senders p.table.entries p.next frame (λ k s at. at);
    client_ports = framed_client_ports p (entry ∷ []) sound p.clients p.client_senders after.server_senders
        p.table.entries
        p.next frame;
    server_ports = framed_server_ports p (entry ∷ []) sound p.clients p.client_senders after.server_senders
        p.table.entries
        p.next frame;
  }
