-- A received response leaves its place, its client's count and its slot.
use Rattle.std.proofs.Common.{◌≡◌, ◌<◌, ℕ, true, [], ◌∷◌, Some, length, map, refl, sym, ap, ◌∙◌, subst, arith}
use Rattle.std.specs.Prelude.{◌==◌, IsSomeAnd, List, option_and_then, slice_get, slice_index, slice_index_or}
use Rattle.std.specs.FinMap as fin_map
use Rattle.rr_slots.specs.Pools.{Written}
use Rattle.rr_table.specs.TableView.{table_entry}
use Rattle.rr_table.specs.declared.place.Place.{Place}
use Rattle.rr_sender.specs.Senders.{borrowed_at, content_at, uses}
use Rattle.rr_protocol.specs.Messages.{ResponseMessage, response_in}
use Rattle.rr_protocol.specs.State.{handle_at}
use Rattle.rr_store.specs.declared.details.ResponseDetails.{ResponseDetails}
use Rattle.rr_store.specs.declared.handle_entry.HandleEntry.{HandleEntry}
use Rattle.rr_store.specs.Changes.{with_responses, without_handle}
use Rattle.rr_store.specs.Emptying.{PartsEmptied}
use Rattle.rr_store.specs.Loaning.{with_messages}
use Rattle.rr_store.specs.Parts.{ClientPart, Parts}
use Rattle.rr_store.specs.Reaching.{IsCore}
use Rattle.rr_store.specs.Releasing.{IsHandleGone, borrow_ended, borrow_given_back, is_received_response}
use Rattle.rr_store.specs.Sound.{HasPort, IsSoundStore, empty_hand, is_of_response, response_details, response_uses}
use Rattle.rr_store.specs.Views.{response_at, sender_of, state_of}
use Rattle.rr_store.proofs.base.frames.Emptied.{emptied_sound, emptied_view}
use Rattle.rr_store.proofs.base.senders.Emptied.{among_emptied, responses_emptied}
use Rattle.rr_store.proofs.base.hands.Stages.{received_is_response}
use Rattle.rr_store.proofs.base.lookups.Placed.{value_there}
use Rattle.rr_store.proofs.base.lookups.Shown.{held_within, of_response}
use Rattle.rr_store.proofs.base.senders.Owners.{First, first_by}
use Rattle.rr_store.proofs.base.views.Counts.{listed}
use Rattle.rr_releasing.proofs.laws.response.Fields.{ReceivedFound, received_found, queue_there}
use Rattle.rr_releasing.proofs.laws.response.Sound.{after_received, has_received, received_sound, received_view}
use Rattle.rr_releasing.proofs.laws.View.{gone_as}

module _ {Q QH P PH K : Type 0} (p : Parts Q QH P PH K) (core : IsCore p) (n : ℕ) (place : Place) (entry : HandleEntry)
    (taken : fin_map.get p.table.entries n ≡ Some (table_entry place entry))
    (kind : IsSomeAnd (handle_at (state_of p) n) (λ handle. is_received_response handle ≡ true)) where
  found : ReceivedFound p n entry
  found = received_found p core.sound (state_of p) n n refl refl kind entry (value_there p.table n place entry taken)

  -- the response is in its slot, which nothing else has
  its_stage : is_of_response entry.stage ≡ true
  its_stage = subst (λ (h : HandleEntry). is_of_response h.stage ≡ true) found.is (received_is_response found.table_entry.value.stage found.got)

  used_once : response_uses p entry.sender entry.slot ≡ 1
  used_once = omega (arith, found.slot, core.sound.held_once.responses entry.sender entry.slot)

  -- what holds of it there holds of the response that contracts see
  seen : (R : ResponseMessage P PH → Type 0) → R (response_at p entry.sender entry.slot)
      → IsSomeAnd (option_and_then response_in (handle_at (state_of p) n)) R
  seen R told = of_response p (state_of p) n n refl refl entry (value_there p.table n place entry taken) R its_stage told

  module _ (q : Parts Q QH P PH K) (gone : q ≡ without_handle p n) where
    -- what was taken out of the slot is what the response said
    pub taken_then : (elements : List P)
        → (uses (sender_of entry.sender q.server_senders).messages entry.slot ≡ 1 → elements ≡
        (content_at (sender_of entry.sender q.server_senders).messages entry.slot).elements)
        → IsSomeAnd (option_and_then response_in (handle_at (state_of p) n)) (λ m. elements ≡ m.content.elements)
    taken_then elements told =
        seen (λ m. elements ≡ m.content.elements)
        (subst (λ (q : Parts Q QH P PH K). uses (sender_of entry.sender q.server_senders).messages entry.slot ≡ 1 → elements ≡
        (content_at (sender_of entry.sender q.server_senders).messages entry.slot).elements) gone told used_once)

    -- and for so many it asked
    pub asked_then : (body : Written P) → body ≡ content_at (sender_of entry.sender q.server_senders).messages entry.slot
        → IsSomeAnd (option_and_then response_in (handle_at (state_of p) n)) (λ m. body.asked_len ≡ m.content.asked_len)
    asked_then body is =
        seen (λ m. body.asked_len ≡ m.content.asked_len)
        (ap (λ (w : Written P). w.asked_len)
        (is ∙ ap (λ (q : Parts Q QH P PH K). content_at (sender_of entry.sender q.server_senders).messages entry.slot) gone))

    pub sender_asked : entry.sender < length q.server_senders
    sender_asked = subst (λ (q : Parts Q QH P PH K). entry.sender < length q.server_senders) (sym gone) found.sender

    pub slot_asked : entry.slot < length (sender_of entry.sender q.server_senders).messages.held
    slot_asked =
        subst (λ (q : Parts Q QH P PH K). entry.slot < length (sender_of entry.sender q.server_senders).messages.held) (sym gone)
        (held_within (sender_of entry.sender p.server_senders).messages.held entry.slot found.slot)

    module _ (details : ResponseDetails) (are : details ≡ response_details q entry.sender entry.slot) where
      details_are : response_details p entry.sender entry.slot ≡ details
      details_are = sym (are ∙ ap (λ q. response_details q entry.sender entry.slot) gone)

      client : First (λ (c : ClientPart K). c.port.id) (λ (c : ClientPart K). c.port.id == details.client) p.clients details.client
      client =
          let r = core.sound.numbered.received n found.table_entry found.at found.got in
          first_by (λ (c : ClientPart K). c.port.id) p.clients details.client r.0 r.1 r.2
          (r.3 ∙ ap (λ (h : HandleEntry). (response_details p h.sender h.slot).client) found.is
          ∙ ap (λ (d : ResponseDetails). d.client) details_are)

      its_client : client.it.port.id ≡ (response_details p found.table_entry.value.sender found.table_entry.value.slot).client
      its_client =
          client.is ∙ sym (ap (λ (d : ResponseDetails). d.client) details_are)
          ∙ sym (ap (λ (h : HandleEntry). (response_details p h.sender h.slot).client) found.is)

      here_listed : slice_get (map (λ (c : ClientPart K). c.connected) p.clients) client.index ≡ Some client.it.connected
      here_listed = listed (λ (c : ClientPart K). c.connected) p.clients client.index client.it client.at

      -- the client's sender is the one that the response names
      its_sender : client.it.sender ≡ details.client_sender
      its_sender =
          core.sound.addressed.client_senders entry.sender entry.slot client.index client.it (omega (arith, found.slot)) client.at
          (client.is ∙ sym (ap (λ (d : ResponseDetails). d.client) details_are))
          ∙ ap (λ (d : ResponseDetails). d.client_sender) details_are

      pub client_asked : details.client_sender < length q.client_senders
      client_asked =
          subst (λ (q : Parts Q QH P PH K). details.client_sender < length q.client_senders) (sym gone)
          (omega (arith, its_sender, (core.sound.client_ports.own client.index client.it.connected here_listed).0))

      module _ (receiver : ℕ) (told : receiver ≡ (sender_of details.client_sender q.client_senders).receiver) where
        receiver_is : receiver ≡ client.it.receiver
        receiver_is =
            told ∙ ap (λ (q : Parts Q QH P PH K). (sender_of details.client_sender q.client_senders).receiver) gone
            ∙ sym (ap (λ l. (sender_of l p.client_senders).receiver) its_sender)
            ∙ core.sound.client_ports.received client.index client.it.connected here_listed

        here : 0 < borrowed_at (sender_of entry.sender p.server_senders).messages receiver details.channel
        here =
            subst (λ (d : ResponseDetails). 0 < borrowed_at
            (sender_of entry.sender p.server_senders).messages receiver d.channel) details_are
            (subst (λ r. 0 < borrowed_at (sender_of entry.sender p.server_senders).messages r
            (response_details p entry.sender entry.slot).channel) (sym receiver_is)
            (subst (λ (h : HandleEntry). 0 < borrowed_at (sender_of h.sender p.server_senders).messages client.it.receiver
            (response_details p h.sender h.slot).channel) found.is
            (has_received p core.sound n found.table_entry found.at found.got client.index client.it client.at its_client)))

        pub queue_asked : (receiver < length (sender_of entry.sender q.server_senders).messages.queues)
            × (details.channel < length (slice_index_or (sender_of entry.sender q.server_senders).messages.queues receiver []))
        queue_asked =
            subst (λ (q : Parts Q QH P PH K). (receiver < length (sender_of entry.sender q.server_senders).messages.queues)
            × (details.channel < length (slice_index_or (sender_of entry.sender q.server_senders).messages.queues receiver []))) (sym gone)
            (queue_there (sender_of entry.sender p.server_senders).messages (core.sound.sized.server_senders entry.sender found.sender)
            receiver details.channel here)

        pub counted_asked : (0 < borrowed_at (sender_of entry.sender q.server_senders).messages receiver details.channel)
            × (0 < slice_index (sender_of entry.sender q.server_senders).messages.held entry.slot)
        counted_asked =
            subst (λ (q : Parts Q QH P PH K). (0 < borrowed_at (sender_of entry.sender q.server_senders).messages receiver details.channel)
            × (0 < slice_index (sender_of entry.sender q.server_senders).messages.held entry.slot)) (sym gone) (here, found.slot)

        module _ (t : Parts Q QH P PH K)
            (ended : t ≡ with_responses q entry.sender (λ m. borrow_given_back m receiver details.channel entry.slot)) where
          -- where the slot is not emptied
          abbrev held_less : HandleEntry → Parts Q QH P PH K
          held_less h = with_responses (without_handle p n) h.sender
              (λ m. borrow_ended m client.it.receiver (response_details p h.sender h.slot).channel h.slot)

          abbrev before : Parts Q QH P PH K
          before = held_less entry

          before_is : before ≡ after_received p core.sound n found.table_entry found.at found.got client.index client.it client.at its_client
          before_is = ap held_less (sym found.is)

          before_sound : IsSoundStore before empty_hand
          before_sound = subst (λ q. IsSoundStore q empty_hand) (sym before_is)
              (received_sound p core.sound n found.table_entry found.at found.got client.index client.it client.at its_client)

          -- and where it may be
          abbrev its_channel : ℕ
          its_channel = (response_details p entry.sender entry.slot).channel

          abbrev after : Parts Q QH P PH K
          after = with_responses (without_handle p n) entry.sender (λ m. borrow_given_back m client.it.receiver its_channel entry.slot)

          after_is : t ≡ after
          after_is =
              ended ∙ ap (λ q. with_responses q entry.sender (λ m. borrow_given_back m receiver details.channel entry.slot)) gone
              ∙ ap (λ x. with_responses (without_handle p n) entry.sender (λ m. borrow_given_back m x details.channel entry.slot)) receiver_is
              ∙ ap (λ (d : ResponseDetails). with_responses (without_handle p n) entry.sender
              (λ m. borrow_given_back m client.it.receiver d.channel entry.slot)) (sym details_are)

          emptied : PartsEmptied before after
          emptied =
              let l = sender_of entry.sender p.server_senders in
              responses_emptied (without_handle p n) p.server_senders entry.sender
              (with_messages l (borrow_ended l.messages client.it.receiver its_channel entry.slot))
              (with_messages l (borrow_given_back l.messages client.it.receiver its_channel entry.slot))
              (record {
                rest = refl;
                messages = among_emptied (entry.slot ∷ []) (borrow_ended l.messages client.it.receiver its_channel entry.slot);
              })

          -- the client is as it was
          owner_is : (sender_of details.client_sender t.client_senders).owner ≡ client.it.port.id
          owner_is = ap (λ (q : Parts Q QH P PH K). (sender_of details.client_sender q.client_senders).owner) after_is
              ∙ ap (λ l. (sender_of l p.client_senders).owner) (sym its_sender)
              ∙ (core.sound.client_ports.own client.index client.it.connected here_listed).1

          pub port_then : HasPort (λ (c : ClientPart K). c.sender) t.clients details.client_sender
          port_then = subst (λ (q : Parts Q QH P PH K). HasPort (λ (c : ClientPart K). c.sender) q.clients details.client_sender)
              (sym after_is) (client.index, client.it, client.at, its_sender)

          pub sound_then : IsSoundStore t empty_hand
          sound_then = subst (λ q. IsSoundStore q empty_hand) (sym after_is) (emptied_sound before after emptied empty_hand before_sound)

          -- contracts see the handle go
          pub gone_then : IsHandleGone (state_of p) n (sender_of details.client_sender t.client_senders).owner (state_of t)
          gone_then =
              subst (λ port. IsHandleGone (state_of p) n port (state_of t)) (sym owner_is)
              (gone_as (state_of p)
              (state_of (after_received p core.sound n found.table_entry found.at found.got client.index client.it client.at its_client))
              (state_of t) n client.it.port.id
              (received_view p core.sound n found.table_entry found.at found.got client.index client.it client.at its_client)
              (ap state_of after_is ∙ emptied_view before after emptied empty_hand before_sound ∙ ap state_of before_is))
