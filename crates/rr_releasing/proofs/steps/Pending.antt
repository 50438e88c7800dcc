-- A pending response leaves its place, its client's count, its channel and its slot.
use Rattle.std.proofs.Common.{[], ◌∷◌, map, ◌≡◌, ◌<◌, ℕ, true, Some, length, refl, sym, ap, ◌∙◌, subst, arith}
use Rattle.std.specs.Prelude.{◌==◌, IsSomeAnd, slice_index, slice_set}
use Rattle.std.specs.FinMap as fin_map
use Rattle.std.proofs.lemmas.List.{length-set}
use Rattle.rr_table.specs.TableView.{table_entry}
use Rattle.rr_table.specs.declared.place.Place.{Place}
use Rattle.rr_sender.specs.Senders.{queue_at, with_queue, given_back}
use Rattle.rr_protocol.specs.State.{handle_at}
use Rattle.rr_store.specs.declared.details.RequestDetails.{RequestDetails}
use Rattle.rr_store.specs.declared.handle_entry.HandleEntry.{HandleEntry}
use Rattle.rr_store.specs.Changes.{with_channel_cleared, with_client_sender_at, with_requests, without_handle}
use Rattle.rr_store.specs.Loaning.{with_messages}
use Rattle.rr_store.specs.Clearing.{with_empty_queue, channel_cleared, is_pending_response, without_pending}
use Rattle.rr_store.specs.Emptying.{PartsEmptied}
use Rattle.rr_store.specs.Parts.{ClientPart, Parts, Sender}
use Rattle.rr_store.specs.Reaching.{IsCore}
use Rattle.rr_store.specs.Receiving.{Reaches}
use Rattle.rr_store.specs.Releasing.{IsHandleGone, held_once_less}
use Rattle.rr_store.specs.Sound.{HasPort, IsSoundStore, empty_hand}
use Rattle.rr_store.specs.Views.{no_sender, sender_of, state_of}
use Rattle.rr_store.proofs.base.frames.Emptied.{emptied_sound, emptied_view}
use Rattle.rr_store.proofs.base.senders.Emptied.{among_emptied, each_emptied, one_emptied}
use Rattle.rr_store.proofs.base.lists.Replaced.{set_alike}
use Rattle.rr_store.proofs.base.lookups.Placed.{value_there}
use Rattle.rr_store.proofs.base.senders.Owners.{First, client_receiver, port_of_sender, client_owner}
use Rattle.rr_store.proofs.base.senders.Stored.{stored_twice}
use Rattle.rr_store.proofs.base.senders.Connected.{reaches}
use Rattle.rr_releasing.proofs.laws.pending.Fields.{PendingFound, pending_found}
use Rattle.rr_releasing.proofs.laws.pending.Sound.{after_pending, has_pending, inside, pending_sound}
use Rattle.rr_releasing.proofs.laws.pending.View.{pending_view}
use Rattle.rr_releasing.proofs.laws.View.{gone_as}

module _ {Q QH P PH K : Type 0} (p : Parts Q QH P PH K) (core : IsCore p) (n : ℕ) (place : Place) (entry : HandleEntry)
    (taken : fin_map.get p.table.entries n ≡ Some (table_entry place entry))
    (kind : IsSomeAnd (handle_at (state_of p) n) (λ handle. is_pending_response handle ≡ true)) where
  found : PendingFound p n entry
  found = pending_found p core.sound (state_of p) n n refl refl kind entry (value_there p.table n place entry taken)

  client : First (λ (c : ClientPart K). c.sender) (λ (c : ClientPart K). c.sender == entry.sender) p.clients entry.sender
  client =
      port_of_sender (λ (c : ClientPart K). c.sender) p.clients entry.sender
      ((core.sound.have_ports.handles n (table_entry place entry) taken).pending
      (rw (sym (ap (λ (h : HandleEntry). h.stage) found.is) ∙ found.pending) refl))

  sends : client.it.sender ≡ found.table_entry.value.sender
  sends = client.is ∙ sym (ap (λ (h : HandleEntry). h.sender) found.is)

  -- the sender has the pending response
  is_pending : 0 < (sender_of entry.sender p.client_senders).pendings
  is_pending = subst (λ (h : HandleEntry). 0 < (sender_of h.sender p.client_senders).pendings) found.is
      (has_pending p core.sound n found.table_entry found.at found.hint found.connections found.pending client.index client.it client.at
      sends)

  abbrev fewer : Sender Q RequestDetails QH
  fewer = without_pending (sender_of entry.sender p.client_senders)

  module _ (q : Parts Q QH P PH K) (gone : q ≡ without_handle p n) where
    pub pending_sender_asked : entry.sender < length q.client_senders
    pending_sender_asked = subst (λ (q : Parts Q QH P PH K). entry.sender < length q.client_senders) (sym gone) found.sender

    pub pending_asked : 0 < (sender_of entry.sender q.client_senders).pendings
    pending_asked = subst (λ (q : Parts Q QH P PH K). 0 < (sender_of entry.sender q.client_senders).pendings) (sym gone) is_pending

    module _ (receiver : ℕ) (r : Parts Q QH P PH K) (its : receiver ≡ (sender_of entry.sender q.client_senders).receiver)
        (ended : r ≡ with_client_sender_at q entry.sender without_pending) where
      abbrev counted : Parts Q QH P PH K
      counted = with_client_sender_at (without_handle p n) entry.sender without_pending

      receiver_is : receiver ≡ client.it.receiver
      receiver_is = its ∙ ap (λ (q : Parts Q QH P PH K). (sender_of entry.sender q.client_senders).receiver) gone
          ∙ client_receiver p empty_hand core.sound entry.sender client

      r_is : r ≡ counted
      r_is = ended ∙ ap (λ q. with_client_sender_at q entry.sender without_pending) gone

      pub channel_asked : Reaches r.server_senders receiver entry.slot
      channel_asked =
          subst (λ (r : Parts Q QH P PH K). Reaches r.server_senders receiver entry.slot) (sym r_is)
          (subst (λ x. Reaches p.server_senders x entry.slot) (sym receiver_is)
          (subst (λ (h : HandleEntry). Reaches p.server_senders client.it.receiver h.slot) found.is
          (reaches p core.sound client.index client.it client.at found.table_entry.value.slot
          (inside p core.sound n found.table_entry found.at found.hint found.connections found.pending client.index client.it client.at
          sends))))

      module _ (s : Parts Q QH P PH K) (cleared : s ≡ with_channel_cleared r receiver entry.slot) where
        steps : s ≡ with_channel_cleared counted client.it.receiver entry.slot
        steps = cleared ∙ ap (λ r. with_channel_cleared r receiver entry.slot) r_is
            ∙ ap (λ x. with_channel_cleared counted x entry.slot) receiver_is

        pub sender_asked : entry.sender < length s.client_senders
        sender_asked = subst (λ (s : Parts Q QH P PH K). entry.sender < length s.client_senders) (sym steps)
            (omega (arith, found.sender, length-set p.client_senders entry.sender fewer))

        pub slot_asked : 0 < slice_index (sender_of entry.sender s.client_senders).messages.held entry.slot
        slot_asked =
            subst (λ (s : Parts Q QH P PH K). 0 < slice_index (sender_of entry.sender s.client_senders).messages.held entry.slot)
            (sym steps) (omega (
              arith,
              found.slot,
              set_alike p.client_senders entry.sender fewer no_sender (λ l. slice_index l.messages.held entry.slot) refl entry.sender,
            ))

        module _ (t : Parts Q QH P PH K) (given : t ≡ with_requests s entry.sender (λ m. given_back m entry.slot)) where
          abbrev receiver_there : ℕ
          receiver_there = client.it.receiver

          -- where no slot is emptied
          abbrev held_less : HandleEntry → Sender Q RequestDetails QH
          held_less h = with_messages (without_pending (sender_of h.sender p.client_senders))
              (held_once_less (sender_of h.sender p.client_senders).messages h.slot)

          abbrev before : Parts Q QH P PH K
          before = record (without_handle p n) {
            client_senders = slice_set p.client_senders entry.sender (held_less entry);
            server_senders = map (with_empty_queue receiver_there entry.slot) p.server_senders;
          }

          before_is : before ≡ after_pending p core.sound n found.table_entry found.at found.hint found.connections found.pending
              client.index client.it client.at sends
          before_is = ap (λ (h : HandleEntry). record (without_handle p n) {
            client_senders = slice_set p.client_senders h.sender (held_less h);
            server_senders = map (with_empty_queue receiver_there h.slot) p.server_senders;
          }) (sym found.is)

          before_sound : IsSoundStore before empty_hand
          before_sound = subst (λ q. IsSoundStore q empty_hand) (sym before_is)
              (pending_sound p core.sound n found.table_entry found.at found.hint found.connections found.pending client.index client.it
              client.at sends)

          -- and where some may be
          abbrev left : Sender Q RequestDetails QH
          left = with_messages fewer (given_back fewer.messages entry.slot)

          abbrev after : Parts Q QH P PH K
          after = record (with_channel_cleared (without_handle p n) receiver_there entry.slot) {
            client_senders = slice_set p.client_senders entry.sender left;
          }

          after_is : t ≡ after
          after_is = given ∙ ap (λ s. with_requests s entry.sender (λ m. given_back m entry.slot)) steps
              ∙ ap (λ ls. record (with_channel_cleared (without_handle p n) receiver_there entry.slot) { client_senders = ls })
              (stored_twice p.client_senders entry.sender fewer (λ l. with_messages l (given_back l.messages entry.slot)) found.sender)

          emptied : PartsEmptied before after
          emptied = record {
            rest = refl;
            client_senders = one_emptied p.client_senders entry.sender (held_less entry) left
                (record { rest = refl; messages = among_emptied (entry.slot ∷ []) (held_less entry).messages });
            server_senders = each_emptied (with_empty_queue receiver_there entry.slot) (channel_cleared receiver_there entry.slot)
                (λ l. record {
                  rest = refl;
                  messages = among_emptied (queue_at l.messages receiver_there entry.slot)
                      (with_queue l.messages receiver_there entry.slot []);
                })
                p.server_senders;
          }

          -- the client is as it was
          owner_is : (sender_of entry.sender t.client_senders).owner ≡ client.it.port.id
          owner_is = ap (λ (q : Parts Q QH P PH K). (sender_of entry.sender q.client_senders).owner) after_is
              ∙ set_alike p.client_senders entry.sender left no_sender (λ l. l.owner) refl entry.sender
              ∙ client_owner p empty_hand core.sound entry.sender client

          pub port_then : HasPort (λ (c : ClientPart K). c.sender) t.clients entry.sender
          port_then = subst (λ (q : Parts Q QH P PH K). HasPort (λ (c : ClientPart K). c.sender) q.clients entry.sender) (sym after_is)
              (client.index, client.it, client.at, client.is)

          pub sound_then : IsSoundStore t empty_hand
          sound_then = subst (λ q. IsSoundStore q empty_hand) (sym after_is) (emptied_sound before after emptied empty_hand before_sound)

          -- contracts see the handle go
          pub gone_then : IsHandleGone (state_of p) n (sender_of entry.sender t.client_senders).owner (state_of t)
          gone_then =
              subst (λ port. IsHandleGone (state_of p) n port (state_of t)) (sym owner_is)
              (gone_as (state_of p)
              (state_of (after_pending p core.sound n found.table_entry found.at found.hint found.connections found.pending client.index
              client.it client.at sends))
              (state_of t) n client.it.port.id
              (pending_view p core.sound n found.table_entry found.at found.hint found.connections found.pending client.index client.it
              client.at sends)
              (ap state_of after_is ∙ emptied_view before after emptied empty_hand before_sound ∙ ap state_of before_is))
