-- What contracts see where the slot of one handle is written.
use Rattle.std.proofs.Common.{◌≡◌, ◌≢◌, ◌<◌, ◌≤◌, ℕ, Bool, true, List, [], Some, find, map, length, refl, sym, ap, ◌∙◌, arith}
use Rattle.std.specs.Prelude.{◌==◌, ◌&&◌, slice_get}
use Rattle.std.specs.Option.{option_map_or}
use Rattle.std.specs.FinMap as fin_map
use Rattle.std.proofs.lemmas.Bool.{eq-eqb}
use Rattle.std.proofs.lemmas.Option.{slice_get-get_or}
use Rattle.rr_table.specs.TableView.{TableEntry, value_at}
use Rattle.rr_table.specs.Maps.{tally}
use Rattle.rr_table.proofs.MapLaws.{map_values-but, tally_one}
use Rattle.rr_sender.specs.Senders.{Messages, all_entries, times}
use Rattle.rr_protocol.specs.Keys.{RequestKey, ResponseKey}
use Rattle.rr_protocol.specs.Messages.{Content, Handle}
use Rattle.rr_protocol.specs.State.{with_changed}
use Rattle.rr_store.specs.declared.handle_entry.Stage.{Stage}
use Rattle.rr_store.specs.declared.handle_entry.HandleEntry.{HandleEntry}
use Rattle.rr_store.specs.declared.details.RequestDetails.{RequestDetails}
use Rattle.rr_store.specs.declared.details.ResponseDetails.{ResponseDetails}
use Rattle.rr_store.specs.declared.port.OwnedSender.{OwnedSender}
use Rattle.rr_store.specs.Ports.{sender_part}
use Rattle.rr_store.specs.Parts.{Parts, Sender}
use Rattle.rr_store.specs.Views.{no_sender, sender_of, content_of, request_in_slot, response_in_slot, handle_in, handle_of, requests_at, responses_at, state_of, marked}
use Rattle.rr_store.specs.Sound.{IsSoundStore, Hand, is_of_request, is_of_response, request_uses, response_uses}
use Rattle.rr_store.specs.Frames.{moved}
use Rattle.rr_store.proofs.base.lists.Adding.{mapped}
use Rattle.rr_store.proofs.base.views.Agreeing.{same_handle, same_requests, same_responses, same_state, same_expired}
use Rattle.rr_store.proofs.base.lookups.Looking.{table_entry_under, shown}
use Rattle.rr_store.proofs.base.lookups.Shown.{request_held, response_held, request_spot, response_spot}
use Rattle.rr_store.proofs.base.frames.Rewrites.{senders_unwritten, rewritten_sound}
use Rattle.rr_store.proofs.base.views.Unseen.{IsWritten, with_written, slot_rewritten, marks_same, shown_other, waiting_same}

module _ {T H : Type 0} (spare : H) where
  -- what a slot that was not written says
  content_blind : {N : Type 0} (before after : Messages T N H) (slot : ℕ) → IsWritten before after slot → (i : ℕ) → i ≢ slot
      → content_of spare after i ≡ content_of spare before i
  content_blind before after slot w i other = λ j. record {
    user_header = w.other_header i other spare j;
    asked_len = (w.other_content i other j).asked_len;
    elements = (w.other_content i other j).elements;
  }

  -- a request of which the content changed, and one of another slot
  pub request_says : (before after : Messages T RequestDetails H) (slot : ℕ) → IsWritten before after slot → (i : ℕ)
      → (content : Content T H)
      → content_of spare after i ≡ content → request_in_slot spare after i ≡ record (request_in_slot spare before i) { content = content }
  request_says before after slot w i content says =
      ap (λ (m : Messages T RequestDetails H). record (request_in_slot spare m i) { content = content_of spare after i }) w.rest
      ∙ ap (λ (c : Content T H). record (request_in_slot spare before i) { content = c }) says

  pub request_blind : (before after : Messages T RequestDetails H) (slot : ℕ) → IsWritten before after slot → (i : ℕ) → i ≢ slot
      → request_in_slot spare after i ≡ request_in_slot spare before i
  request_blind before after slot w i other = request_says before after slot w i (content_of spare before i)
      (content_blind before after slot w i other)

  -- the same of responses
  pub response_says : (before after : Messages T ResponseDetails H) (slot : ℕ) → IsWritten before after slot → (i : ℕ)
      → (content : Content T H)
      → content_of spare after i ≡ content → response_in_slot spare after i ≡ record (response_in_slot spare before i) { content = content }
  response_says before after slot w i content says =
      ap (λ (m : Messages T ResponseDetails H). record (response_in_slot spare m i) { content = content_of spare after i }) w.rest
      ∙ ap (λ (c : Content T H). record (response_in_slot spare before i) { content = c }) says

  pub response_blind : (before after : Messages T ResponseDetails H) (slot : ℕ) → IsWritten before after slot → (i : ℕ) → i ≢ slot
      → response_in_slot spare after i ≡ response_in_slot spare before i
  response_blind before after slot w i other = response_says before after slot w i (content_of spare before i)
      (content_blind before after slot w i other)

module _ {B T N H : Type 0} (senders : List (OwnedSender B N H T)) (sender : ℕ) where
  -- a sender that is there is stored
  pub stored_sender : sender < length (map sender_part senders) → (l : OwnedSender B N H T) × (slice_get senders sender ≡ Some l)
      × (sender_part l ≡ sender_of sender (map sender_part senders))
  stored_sender within = mapped sender_part senders sender (sender_of sender (map sender_part senders))
      (slice_get-get_or (map sender_part senders) sender no_sender within)

module _ {Q QH P PH K : Type 0} (p : Parts Q QH P PH K) (n : ℕ) (entry : HandleEntry) (h : value_at p.table n ≡ Some entry) where
  -- where one handle alone shows another message, its state is the changed one
  pub viewed : (client_senders : List (Sender Q RequestDetails QH)) (server_senders : List (Sender P ResponseDetails PH))
      → let q = moved p p.clients client_senders server_senders p.table.entries p.next in
      ((key : RequestKey) → requests_at q key ≡ requests_at p key) → ((key : ResponseKey) → responses_at q key ≡ responses_at p key)
      → ((k : ℕ) (x : TableEntry HandleEntry) → fin_map.get p.table.entries k ≡ Some x → k ≢ n → handle_of p x ≡ handle_of q x)
      → (change : Handle Q QH P PH → Handle Q QH P PH) → handle_in q entry.stage entry.sender entry.slot ≡ change
      (handle_in p entry.stage entry.sender entry.slot)
      → state_of q ≡ with_changed (state_of p) n change
  viewed client_senders server_senders requests responses others change its =
      let q = moved p p.clients client_senders server_senders p.table.entries p.next in
      let f = table_entry_under p.table n entry h in
      same_state (state_of q) (with_changed (state_of p) n change) refl refl refl refl
      (map_values-but (handle_of p) (handle_of q) p.table.entries n f.0 f.1 others
      ∙ ap (fin_map.insert (state_of p).handles n) (ap (λ (v : HandleEntry). handle_in q v.stage v.sender v.slot) f.2 ∙ its)
      ∙ sym (ap (λ o. option_map_or (λ handle. fin_map.insert (state_of p).handles n (change handle)) o (state_of p).handles)
      (shown p n entry h)))
      (same_requests q p requests) (same_responses q p responses)
      (same_expired _ _ (same_requests q p requests) (same_responses q p responses)) refl

  -- where one handle at most passes a test in a slot, and this one does, no other does
  alone : (of : Stage → Bool) → of entry.stage ≡ true
      → tally (λ (s : TableEntry HandleEntry). of s.value.stage && (s.value.sender == entry.sender && s.value.slot == entry.slot))
      p.table.entries ≤ 1
      → (k : ℕ) (x : TableEntry HandleEntry) → fin_map.get p.table.entries k ≡ Some x → of x.value.stage ≡ true
      → x.value.sender ≡ entry.sender
      → x.value.slot ≡ entry.slot → k ≡ n
  alone of is once k x at passes sender slot =
      let f = table_entry_under p.table n entry h in
      let here : TableEntry HandleEntry → Bool = λ s. of s.value.stage && (s.value.sender == entry.sender && s.value.slot == entry.slot) in
      let its : here f.0 ≡ true = rw f.2
      (rw is (rw (eq-eqb entry.sender entry.sender refl) (rw (eq-eqb entry.slot entry.slot refl) refl))) in
      let there : here x ≡ true = rw passes
      (rw (eq-eqb x.value.sender entry.sender sender) (rw (eq-eqb x.value.slot entry.slot slot) refl)) in
      tally_one here p.table.entries k n x f.0 once at there f.1 its

  module _ (hand : Hand) (sound : IsSoundStore p hand) where
    module _ (is : is_of_request entry.stage ≡ true) (once : request_uses p entry.sender entry.slot ≤ 1) where
      -- no other handle is of its request, and no entry
      request_alone : (k : ℕ) (x : TableEntry HandleEntry) → fin_map.get p.table.entries k ≡ Some x → is_of_request x.value.stage ≡ true
          → x.value.sender ≡ entry.sender → x.value.slot ≡ entry.slot → k ≡ n
      request_alone = alone is_of_request is (omega (arith, once, sound.counted.requests entry.sender entry.slot))

      request_unqueued : times entry.slot (all_entries (sender_of entry.sender p.client_senders).messages.queues) ≡ 0
      request_unqueued = omega (arith, once, request_held p hand sound.counted n entry h is)

      module _ (new : Messages Q RequestDetails QH)
          (written : IsWritten (sender_of entry.sender p.client_senders).messages new entry.slot) where
        there : entry.sender < length p.client_senders
        there = (request_spot p hand sound.counted n entry h is).0

        -- its slot is written: the core stays sound
        pub request_written_sound : IsSoundStore (record p { client_senders = with_written p.client_senders entry.sender new }) hand
        request_written_sound =
            rewritten_sound p hand sound (with_written p.client_senders entry.sender new) p.server_senders
            (slot_rewritten p.client_senders entry.sender new entry.slot written there)
            (senders_unwritten p.server_senders)

        -- and the handle alone shows another message
        pub request_written_view : (seen : Handle Q QH P PH → Handle Q QH P PH)
            → let q = record p { client_senders = with_written p.client_senders entry.sender new } in
            handle_in q entry.stage entry.sender entry.slot ≡ seen (handle_in p entry.stage entry.sender entry.slot)
            → state_of q ≡ with_changed (state_of p) n seen
        request_written_view seen its =
            let q = record p { client_senders = with_written p.client_senders entry.sender new } in
            let before = (sender_of entry.sender p.client_senders).messages in
            let blind = request_blind p.spare_request_header before new entry.slot written in
            viewed (with_written p.client_senders entry.sender new) p.server_senders
            (λ key i. option_map_or
            (λ server. waiting_same p.client_senders entry.sender new entry.slot written there (request_in_slot p.spare_request_header)
            blind request_unqueued key.client server.receiver 0 i)
            (find (λ server. server.port.id == key.server) p.servers)
            [])
            (λ key. refl)
            (λ k x at other. same_handle p q x.value.stage x.value.sender x.value.slot
            (λ of. (
              sym (shown_other p.client_senders entry.sender new entry.slot written there (request_in_slot p.spare_request_header)
                  blind x.value.sender x.value.slot (λ e f. other (request_alone k x at of e f))),
              ap (λ ms. marked p.limits.max_servers p.servers ms x.value.slot)
                  (sym (marks_same p.client_senders entry.sender new entry.slot written there x.value.sender)),
            ))
            (λ of. refl))
            seen its

    module _ (is : is_of_response entry.stage ≡ true) (once : response_uses p entry.sender entry.slot ≤ 1) where
      -- no other handle is of its response, and no entry
      response_alone : (k : ℕ) (x : TableEntry HandleEntry) → fin_map.get p.table.entries k ≡ Some x → is_of_response x.value.stage ≡ true
          → x.value.sender ≡ entry.sender → x.value.slot ≡ entry.slot → k ≡ n
      response_alone = alone is_of_response is (omega (arith, once, sound.counted.responses entry.sender entry.slot))

      response_unqueued : times entry.slot (all_entries (sender_of entry.sender p.server_senders).messages.queues) ≡ 0
      response_unqueued = omega (arith, once, response_held p hand sound.counted n entry h is)

      module _ (new : Messages P ResponseDetails PH)
          (written : IsWritten (sender_of entry.sender p.server_senders).messages new entry.slot) where
        room : entry.sender < length p.server_senders
        room = (response_spot p hand sound.counted n entry h is).0

        -- its slot is written: the core stays sound
        pub response_written_sound : IsSoundStore (record p { server_senders = with_written p.server_senders entry.sender new }) hand
        response_written_sound =
            rewritten_sound p hand sound p.client_senders (with_written p.server_senders entry.sender new)
            (senders_unwritten p.client_senders)
            (slot_rewritten p.server_senders entry.sender new entry.slot written room)

        -- and the handle alone shows another message
        pub response_written_view : (seen : Handle Q QH P PH → Handle Q QH P PH)
            → let q = record p { server_senders = with_written p.server_senders entry.sender new } in
            handle_in q entry.stage entry.sender entry.slot ≡ seen (handle_in p entry.stage entry.sender entry.slot)
            → state_of q ≡ with_changed (state_of p) n seen
        response_written_view seen its =
            let q = record p { server_senders = with_written p.server_senders entry.sender new } in
            let before = (sender_of entry.sender p.server_senders).messages in
            let blind = response_blind p.spare_response_header before new entry.slot written in
            viewed p.client_senders (with_written p.server_senders entry.sender new)
            (λ key. refl)
            (λ key i. option_map_or
            (λ client. waiting_same p.server_senders entry.sender new entry.slot written room (response_in_slot p.spare_response_header)
            blind response_unqueued key.server client.receiver key.channel i)
            (find (λ client. client.port.id == key.client) p.clients)
            [])
            (λ k x at other. same_handle p q x.value.stage x.value.sender x.value.slot
            (λ of. (refl, refl))
            (λ of. sym (shown_other p.server_senders entry.sender new entry.slot written room
            (response_in_slot p.spare_response_header) blind x.value.sender x.value.slot
            (λ e f. other (response_alone k x at of e f)))))
            seen its
