-- What contracts see of a core after a request was loaned.
use Rattle.std.proofs.Common.{◌≡◌, ◌≢◌, ◌<◌, ℕ, List, [], None, Some, Option, length, get_or, map, refl, sym, ap, ◌∙◌, ⊎_elim, map-id, arith}
use Rattle.std.specs.Prelude.{◌==◌, slice_get, slice_set, find}
use Rattle.std.specs.Option.{option_map_or}
use Rattle.std.specs.FinMap as fin_map
use Rattle.std.proofs.lemmas.Bool.{cases_eq, eq-eqb, ne_eqb}
use Rattle.std.proofs.lemmas.List.{get_or-set_same, get_or-set_other}
use Rattle.std.proofs.lemmas.Option.{get_or_from_slice_get}
use Rattle.rr_table.specs.TableView.{TableEntry, table_entry}
use Rattle.rr_table.proofs.MapLaws.{map_values-insert, map_values-same}
use Rattle.rr_sender.specs.Senders.{Messages, times, queue_at, all_entries, loaned, content_at}
use Rattle.rr_slots.specs.Pools.{nothing_written}
use Rattle.rr_protocol.specs.Keys.{RequestKey, ResponseKey}
use Rattle.rr_protocol.specs.Messages.{Handle, RequestMutUninit, RequestMessage}
use Rattle.rr_protocol.specs.Ports.{Client}
use Rattle.rr_protocol.specs.Loans.{with_loaned_request, with_loan_counted, empty_content}
use Rattle.rr_store.specs.declared.handle_entry.HandleEntry.{HandleEntry}
use Rattle.rr_store.specs.declared.details.RequestDetails.{RequestDetails}
use Rattle.rr_store.specs.declared.details.ResponseDetails.{ResponseDetails}
use Rattle.rr_store.specs.Parts.{Parts, ClientPart, ServerPart, Sender}
use Rattle.rr_store.specs.Views.{no_sender, no_request, sender_of, state_of, client_of, request_in_slot, response_in_slot, request_at, handle_of, requests_at, responses_at, marked}
use Rattle.rr_store.specs.Sound.{IsSoundStore, empty_hand, request_uses}
use Rattle.rr_store.specs.Loaning.{with_loan_made, with_one_loan, with_messages, loan_details, loan_held, loan_place, with_request_loan}
use Rattle.rr_store.proofs.base.views.Agreeing.{same_handle, same_requests, same_responses, same_state, same_expired}
use Rattle.rr_store.proofs.base.lists.Replaced.{map-set_one, map_but, find_read, map_without, set_alike}
use Rattle.rr_store.proofs.base.hands.Stages.{handle_uses_request}
use Rattle.rr_store.proofs.base.lists.Adding.{mapped}
use Rattle.rr_store.proofs.base.views.Counts.{listed, ids_apart}
use Rattle.rr_store.proofs.base.senders.Queues.{times_queue}
use Rattle.rr_loaning.proofs.laws.request.Sound.{own, shaped, within, not_here}

module _ {Q QH P PH K : Type 0} (p : Parts Q QH P PH K) (sound : IsSoundStore p empty_hand) (index : ℕ) (c : ClientPart K)
    (at : slice_get p.clients index ≡ Some c) (slot len : ℕ) (header : QH)
    (free : slice_get (sender_of c.sender p.client_senders).messages.held slot ≡ Some 0)
    (unused : times slot (all_entries (sender_of c.sender p.client_senders).messages.queues) ≡ 0) where
  abbrev m : Messages Q RequestDetails QH
  m = (sender_of c.sender p.client_senders).messages

  abbrev new : Messages Q RequestDetails QH
  new = loaned m slot len (loan_details p c) header

  abbrev after : Parts Q QH P PH K
  after = with_request_loan p index c slot len header

  sender_there : c.sender < length p.client_senders
  sender_there = (own p sound index c at slot len header free unused).0

  inside : slot < length m.held
  inside = within p sound index c at slot len header free unused

  -- another request says what it said
  other_slot : (j : ℕ) → j ≢ slot → request_in_slot p.spare_request_header new j ≡ request_in_slot p.spare_request_header m j
  other_slot j n =
      same_message j
      (get_or-set_other m.details slot j (loan_details p c) no_request n)
      (get_or-set_other m.user_headers slot j header p.spare_request_header n)
      (get_or-set_other m.contents slot j (nothing_written len) (nothing_written 0) n)
    where
      same_message : (j : ℕ) → get_or new.details j no_request ≡ get_or m.details j no_request
          → get_or new.user_headers j p.spare_request_header ≡ get_or m.user_headers j p.spare_request_header
          → content_at new j ≡ content_at m j → request_in_slot p.spare_request_header new j ≡ request_in_slot p.spare_request_header m j
      same_message j a b d = rw a (rw b (rw d refl))

  -- the one that was loaned
  abbrev message : RequestMessage Q QH
  message = record { number = p.next; client = c.port.id; request_id = c.loans_made; channel = slot; content = empty_content header len }

  this_slot : request_in_slot p.spare_request_header new slot ≡ message
  this_slot =
      let s = shaped p sound index c at slot len header free unused in
      built slot
      (get_or-set_same m.details slot (loan_details p c) no_request (omega (arith, inside, s.details)))
      (get_or-set_same m.user_headers slot header p.spare_request_header (omega (arith, inside, s.user_headers)))
      (get_or-set_same m.contents slot (nothing_written len) (nothing_written 0) (omega (arith, inside, s.contents)))
    where
      built : (j : ℕ) → get_or new.details j no_request ≡ loan_details p c → get_or new.user_headers j p.spare_request_header ≡ header
          → content_at new j ≡ nothing_written len
          → request_in_slot p.spare_request_header new j ≡ record {
            number = p.next;
            client = c.port.id;
            request_id = c.loans_made;
            channel = j;
            content = empty_content header len;
          }
      built j a b d = rw a (rw b (rw d refl))

  -- the sender of the client, and another
  here_is : sender_of c.sender after.client_senders ≡ with_one_loan (with_messages (sender_of c.sender p.client_senders) new)
  here_is = get_or-set_same p.client_senders c.sender (with_one_loan (with_messages
      (sender_of c.sender p.client_senders) new)) no_sender sender_there

  -- a request that was used says what it said
  used_says : (k j : ℕ) → 0 < request_uses p k j → request_at after k j ≡ request_at p k j
  used_says k j used =
      ⊎_elim
      (λ e.
      ap (λ k. request_in_slot p.spare_request_header (sender_of k after.client_senders).messages j) (sym e)
      ∙ ap (λ (x : Sender Q RequestDetails QH). request_in_slot p.spare_request_header x.messages j) here_is
      ∙ other_slot j (λ f. not_here p sound index c at slot len header free unused k j used e (sym f))
      ∙ ap (λ k. request_in_slot p.spare_request_header (sender_of k p.client_senders).messages j) e)
      (λ n. ap (λ (x : Sender Q RequestDetails QH). request_in_slot p.spare_request_header x.messages j)
      (get_or-set_other p.client_senders c.sender k (with_one_loan (with_messages (sender_of c.sender p.client_senders) new)) no_sender
      (λ e. n (sym e))))
      (cases_eq c.sender k)

  -- the handles show what they did
  handles : (k : ℕ) (s : TableEntry HandleEntry) → fin_map.get p.table.entries k ≡ Some s → handle_of after s ≡ handle_of p s
  handles k s e =
      same_handle after p s.value.stage s.value.sender s.value.slot
      (λ is. (
        used_says s.value.sender s.value.slot (handle_uses_request p empty_hand sound.counted k s e is),
        ap (λ ms. marked p.limits.max_servers p.servers ms s.value.slot)
            (set_alike p.client_senders c.sender (with_one_loan (with_messages (sender_of c.sender p.client_senders) new)) no_sender
            (λ x. x.may_answer) refl s.value.sender),
      ))
      (λ is. refl)

  all_handles : (state_of after).handles ≡ fin_map.insert (state_of p).handles p.next (RequestMutUninit message)
  all_handles =
      map_values-insert (handle_of after) p.table.entries p.next (table_entry (loan_place p c slot) (loan_held p c slot))
      ∙ ap (λ (hs : fin_map.FinMap _ (Handle Q QH P PH)). fin_map.insert hs p.next
      (handle_of after (table_entry (loan_place p c slot) (loan_held p c slot))))
      (map_values-same (handle_of after) (handle_of p) p.table.entries handles)
      ∙ ap (λ (x : RequestMessage Q QH). fin_map.insert (state_of p).handles p.next (RequestMutUninit x))
      (ap (λ (x : Sender Q RequestDetails QH). request_in_slot p.spare_request_header x.messages slot) here_is ∙ this_slot)

  -- what waits is as it was
  requests : (key : RequestKey) → requests_at after key ≡ requests_at p key
  requests key = go (find (λ s. s.port.id == key.server) p.servers)
    where
      waits : ℕ → Sender Q RequestDetails QH → List (RequestMessage Q QH)
      waits receiver sender = map (request_in_slot p.spare_request_header sender.messages) (queue_at sender.messages receiver 0)

      go : (server : Option (ServerPart K)) →
          option_map_or (λ s. option_map_or (waits s.receiver) (find (λ sender. sender.owner == key.client) after.client_senders) []) server
          []
          ≡ option_map_or (λ s. option_map_or (waits s.receiver) (find (λ sender. sender.owner == key.client) p.client_senders) []) server
          []
      go None = refl
      go (Some s) =
          find_read (λ (sender : Sender Q RequestDetails QH). sender.owner == key.client) (waits s.receiver) [] p.client_senders c.sender
          (with_one_loan (with_messages (sender_of c.sender p.client_senders) new)) no_sender refl
          (map_without (request_in_slot p.spare_request_header m) (request_in_slot p.spare_request_header new) slot other_slot
          (queue_at m s.receiver 0) (omega (arith, unused, times_queue m slot s.receiver 0)))

  responses : (key : ResponseKey) → responses_at after key ≡ responses_at p key
  responses key =
      find_read (λ (d : ClientPart K). d.port.id == key.client)
      (λ d. option_map_or (λ (sender : Sender P ResponseDetails PH). map (response_in_slot p.spare_response_header sender.messages)
      (queue_at sender.messages d.receiver key.channel))
      (find (λ (sender : Sender P ResponseDetails PH). sender.owner == key.server) p.server_senders)
      [])
      [] p.clients index (with_loan_made c) c
      (ap (λ (d : ClientPart K). d.port.id == key.client) (sym it))
      (ap (λ (d : ClientPart K). option_map_or (λ (sender : Sender P ResponseDetails PH). map
      (response_in_slot p.spare_response_header sender.messages) (queue_at sender.messages d.receiver key.channel))
      (find (λ (sender : Sender P ResponseDetails PH). sender.owner == key.server) p.server_senders) []) (sym it))
    where
      it : get_or p.clients index c ≡ c
      it = get_or_from_slice_get p.clients index c c at

  -- one client made one more loan
  clients : map client_of after.clients ≡ map (with_loan_counted c.port.id) (map client_of p.clients)
  clients =
      map-set_one client_of p.clients index (with_loan_made c)
      ∙ ap (λ d. slice_set (map client_of p.clients) index d) (sym this)
      ∙ sym (map_but (λ d. d) (with_loan_counted c.port.id) (map client_of p.clients) index (client_of c)
      (listed client_of p.clients index c at) others
      ∙ ap (λ (ds : List (Client K)). slice_set ds index (with_loan_counted c.port.id (client_of c))) (map-id (map client_of p.clients)))
    where
      this : with_loan_counted c.port.id (client_of c) ≡ client_of (with_loan_made c)
      this = rw (eq-eqb c.port.id c.port.id refl) refl

      others : (j : ℕ) (d : Client K) → j ≢ index → slice_get (map client_of p.clients) j ≡ Some d → with_loan_counted c.port.id d ≡ d
      others j d n e =
          let it = mapped client_of p.clients j d e in
          let far : d.id ≢ c.port.id = λ same. ids_apart (λ (c : ClientPart K). c.connected) p.next p.limits.max_clients p.clients
          p.client_senders sound.client_ports j index it.0 c it.1 at n (ap (λ (d : Client K). d.id) it.2 ∙ same) in
          rw (ne_eqb d.id c.port.id far) refl

  pub loan_view : state_of after ≡ with_loaned_request (state_of p) (client_of c) len slot header
  loan_view =
      same_state (state_of after) (with_loaned_request (state_of p) (client_of c) len slot header) refl refl
      clients refl all_handles (same_requests after p requests) (same_responses after p responses)
      (same_expired _ _ (same_requests after p requests) (same_responses after p responses)) refl
