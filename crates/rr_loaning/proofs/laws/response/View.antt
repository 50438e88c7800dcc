-- What contracts see of a core after a response was loaned.
use Rattle.std.proofs.Common.{◌≡◌, ◌≢◌, ◌<◌, ◌+◌, ℕ, List, [], None, Some, Option, option_map, length, get_or, map, refl, sym, ap, ◌∙◌, ⊎_elim, arith}
use Rattle.std.specs.Prelude.{◌==◌, slice_get, find}
use Rattle.std.specs.Option.{option_map_or}
use Rattle.std.specs.FinMap as fin_map
use Rattle.std.proofs.lemmas.Bool.{cases_eq}
use Rattle.std.proofs.lemmas.List.{get_or-set_same, get_or-set_other}
use Rattle.std.proofs.lemmas.Option.{get_or_from_slice_get, slice_get_within}
use Rattle.rr_table.specs.TableView.{TableEntry, table_entry}
use Rattle.rr_table.specs.Maps.{map_values}
use Rattle.rr_table.proofs.MapLaws.{get-map_values, insert_itself, map_values-insert, map_values-same}
use Rattle.rr_sender.specs.Senders.{Messages, times, queue_at, all_entries, loaned, content_at}
use Rattle.rr_slots.specs.Pools.{nothing_written}
use Rattle.rr_protocol.specs.Keys.{ResponseKey}
use Rattle.rr_protocol.specs.Limits.{worst_case_requests}
use Rattle.rr_protocol.specs.Loans.{with_loaned_response, empty_content}
use Rattle.rr_protocol.specs.Messages.{Active, Handle, ActiveRequest, ResponseMutUninit, ResponseMessage}
use Rattle.rr_store.specs.declared.handle_entry.HandleEntry.{HandleEntry}
use Rattle.rr_store.specs.declared.details.ResponseDetails.{ResponseDetails}
use Rattle.rr_store.specs.Parts.{Parts, ClientPart, ServerPart, Sender}
use Rattle.rr_store.specs.Views.{no_sender, no_response, sender_of, state_of, response_in_slot, request_at, response_at, handle_of, handle_in, responses_at}
use Rattle.rr_store.specs.Sound.{IsSoundStore, IsShaped, empty_hand, response_uses}
use Rattle.rr_store.specs.Loaning.{with_messages, with_one_loan}
use Rattle.rr_store.specs.Answering.{active_entry, response_loan_held, response_loan_details, response_loan_place, with_response_loan}
use Rattle.rr_store.proofs.base.views.Agreeing.{same_handle, same_responses, same_state, same_expired}
use Rattle.rr_store.proofs.base.views.Counts.{listed}
use Rattle.rr_store.proofs.base.lists.Replaced.{find_read, map_without}
use Rattle.rr_store.proofs.base.senders.Queues.{times_queue}
use Rattle.rr_store.proofs.base.hands.Stages.{handle_uses_response}

module _ {Q QH P PH K : Type 0} (p : Parts Q QH P PH K) (sound : IsSoundStore p empty_hand) (index : ℕ) (c : ServerPart K)
    (at : slice_get p.servers index ≡ Some c) (n rl rs loans : ℕ)
    (s : TableEntry HandleEntry) (here : fin_map.get p.table.entries n ≡ Some s) (is : s.value ≡ active_entry c.port.id rl rs loans)
    (slot len : ℕ)
    (header : PH)
    (free : slice_get (sender_of c.sender p.server_senders).messages.held slot ≡ Some 0)
    (unused : times slot (all_entries (sender_of c.sender p.server_senders).messages.queues) ≡ 0) where
  abbrev m : Messages P ResponseDetails PH
  m = (sender_of c.sender p.server_senders).messages

  abbrev details : ResponseDetails
  details = response_loan_details p c n rl rs

  abbrev new : Messages P ResponseDetails PH
  new = loaned m slot len details header

  abbrev more : HandleEntry
  more = active_entry c.port.id rl rs (loans + 1)

  abbrev after : Parts Q QH P PH K
  after = with_response_loan p c n s.place more details slot len header

  own : (c.sender < length p.server_senders) × ((sender_of c.sender p.server_senders).owner ≡ c.port.id)
      × (length m.held ≡ c.port.pool_size)
      × (m.room ≡ c.port.initial_max_slice_len)
  own = sound.server_ports.own index c.connected (listed (λ c. c.connected) p.servers index c at)

  shaped : IsShaped p.limits.max_clients (worst_case_requests p.limits) p.limits.max_response_buffer_size m
  shaped = sound.sized.server_senders c.sender own.0

  inside : slot < length m.held
  inside = slice_get_within m.held slot 0 free

  -- another slot is used
  not_here : (k j : ℕ) → 0 < response_uses p k j → (c.sender ≡ k) → (slot ≡ j) → ⊥
  not_here k j used e f = omega (
    arith,
    used,
    get_or_from_slice_get m.held slot 0 0 free,
    unused,
    ap (λ a. response_uses p a j) e,
    ap (λ b. response_uses p c.sender b) f,
  )

  -- another response says what it said
  other_slot : (j : ℕ) → j ≢ slot → response_in_slot p.spare_response_header new j ≡ response_in_slot p.spare_response_header m j
  other_slot j n =
      same_message j
      (get_or-set_other m.details slot j details no_response n)
      (get_or-set_other m.user_headers slot j header p.spare_response_header n)
      (get_or-set_other m.contents slot j (nothing_written len) (nothing_written 0) n)
    where
      same_message : (j : ℕ) → get_or new.details j no_response ≡ get_or m.details j no_response
          → get_or new.user_headers j p.spare_response_header ≡ get_or m.user_headers j p.spare_response_header
          → content_at new j ≡ content_at m j → response_in_slot p.spare_response_header new j
          ≡ response_in_slot p.spare_response_header m j
      same_message j a b d = rw a (rw b (rw d refl))

  -- the active request, and the response that was loaned from it
  abbrev active : Active Q QH
  active = record { message = request_at p rl rs; server = c.port.id }

  abbrev message : ResponseMessage P PH
  message =
      record {
        number = p.next;
        server = active.server;
        active_request = n;
        request = active.message.number;
        request_id = active.message.request_id;
        client = active.message.client;
        channel = active.message.channel;
        content = empty_content header len;
      }

  this_slot : response_in_slot p.spare_response_header new slot ≡ message
  this_slot =
      built slot
      (get_or-set_same m.details slot details no_response (omega (arith, inside, shaped.details)))
      (get_or-set_same m.user_headers slot header p.spare_response_header (omega (arith, inside, shaped.user_headers)))
      (get_or-set_same m.contents slot (nothing_written len) (nothing_written 0) (omega (arith, inside, shaped.contents)))
    where
      built : (j : ℕ) → get_or new.details j no_response ≡ details → get_or new.user_headers j p.spare_response_header ≡ header
          → content_at new j ≡ nothing_written len
          → response_in_slot p.spare_response_header new j ≡ message
      built j a b d = rw a (rw b (rw d refl))

  -- the sender of the server
  here_is : sender_of c.sender after.server_senders ≡ with_one_loan (with_messages (sender_of c.sender p.server_senders) new)
  here_is = get_or-set_same p.server_senders c.sender (with_one_loan (with_messages
      (sender_of c.sender p.server_senders) new)) no_sender own.0

  -- a response that was used says what it said
  used_says : (k j : ℕ) → 0 < response_uses p k j → response_at after k j ≡ response_at p k j
  used_says k j used =
      ⊎_elim
      (λ e.
      ap (λ k. response_in_slot p.spare_response_header (sender_of k after.server_senders).messages j) (sym e)
      ∙ ap (λ (x : Sender P ResponseDetails PH). response_in_slot p.spare_response_header x.messages j) here_is
      ∙ other_slot j (λ f. not_here k j used e (sym f))
      ∙ ap (λ k. response_in_slot p.spare_response_header (sender_of k p.server_senders).messages j) e)
      (λ n. ap (λ (x : Sender P ResponseDetails PH). response_in_slot p.spare_response_header x.messages j)
      (get_or-set_other p.server_senders c.sender k (with_one_loan (with_messages (sender_of c.sender p.server_senders) new)) no_sender
      (λ e. n (sym e))))
      (cases_eq c.sender k)

  -- the handles show what they did
  shows : (k : ℕ) (t : TableEntry HandleEntry) → fin_map.get p.table.entries k ≡ Some t → handle_of after t ≡ handle_of p t
  shows k t e =
      same_handle after p t.value.stage t.value.sender t.value.slot
      (λ h. (refl, refl))
      (λ h. used_says t.value.sender t.value.slot (handle_uses_response p empty_hand sound.counted k t e h))

  -- the active request is shown as it was
  still : fin_map.insert (state_of p).handles n (ActiveRequest active) ≡ (state_of p).handles
  still = insert_itself (state_of p).handles n (ActiveRequest active)
      (get-map_values (handle_of p) p.table.entries n ∙ ap (option_map (handle_of p)) here
      ∙ ap (λ (h : HandleEntry). Some (handle_in p h.stage h.sender h.slot)) is)

  all_handles : (state_of after).handles ≡ fin_map.insert (state_of p).handles p.next (ResponseMutUninit message)
  all_handles =
      map_values-insert (handle_of after) (fin_map.insert p.table.entries n (table_entry s.place more)) p.next
      (table_entry (response_loan_place p c slot) (response_loan_held c slot))
      ∙ ap (λ (x : ResponseMessage P PH). fin_map.insert
      (map_values (handle_of after) (fin_map.insert p.table.entries n (table_entry s.place more)))
      p.next (ResponseMutUninit x))
      (ap (λ (x : Sender P ResponseDetails PH). response_in_slot p.spare_response_header x.messages slot) here_is ∙ this_slot)
      ∙ ap (λ (hs : fin_map.FinMap _ (Handle Q QH P PH)). fin_map.insert hs p.next (ResponseMutUninit message))
      (map_values-insert (handle_of after) p.table.entries n (table_entry s.place more)
      ∙ ap (λ (hs : fin_map.FinMap _ (Handle Q QH P PH)). fin_map.insert hs n (ActiveRequest active))
      (map_values-same (handle_of after) (handle_of p) p.table.entries shows)
      ∙ still)

  -- what waits is as it was
  responses : (key : ResponseKey) → responses_at after key ≡ responses_at p key
  responses key = go (find (λ d. d.port.id == key.client) p.clients)
    where
      waits : ℕ → Sender P ResponseDetails PH → List (ResponseMessage P PH)
      waits receiver sender = map (response_in_slot p.spare_response_header sender.messages) (queue_at sender.messages receiver key.channel)

      go : (client : Option (ClientPart K)) →
          option_map_or (λ d. option_map_or (waits d.receiver) (find (λ sender. sender.owner == key.server) after.server_senders) []) client
          []
          ≡ option_map_or (λ d. option_map_or (waits d.receiver) (find (λ sender. sender.owner == key.server) p.server_senders) []) client
          []
      go None = refl
      go (Some d) =
          find_read (λ (sender : Sender P ResponseDetails PH). sender.owner == key.server) (waits d.receiver) [] p.server_senders c.sender
          (with_one_loan (with_messages (sender_of c.sender p.server_senders) new)) no_sender refl
          (map_without (response_in_slot p.spare_response_header m) (response_in_slot p.spare_response_header new) slot other_slot
          (queue_at m d.receiver key.channel) (omega (arith, unused, times_queue m slot d.receiver key.channel)))

  -- contracts see the state with the loaned response
  pub response_loan_view : state_of after ≡ with_loaned_response (state_of p) n active len header
  response_loan_view =
      same_state (state_of after) (with_loaned_response (state_of p) n active len header) refl refl
      refl refl all_handles refl (same_responses after p responses)
      (same_expired _ _ refl (same_responses after p responses)) refl
