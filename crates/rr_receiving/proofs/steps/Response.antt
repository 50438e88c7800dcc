-- A response leaves the queue from some server, and has a handle under its number.
use Rattle.std.proofs.Common.{◌≡◌, ◌<◌, ◌+◌, ◌^◌, ℕ, None, Some, Ok, Err, [], Option, option_map, length, refl, sym, ap, ◌∙◌, subst, arith}
use Rattle.std.specs.Prelude.{◌==◌, Result, slice_get, slice_index_or}
use Rattle.std.specs.FinMap as fin_map
use Rattle.std.proofs.lemmas.List.{length-set}
use Rattle.rr_table.specs.TableView.{IsInside, IsVacant, TableView, table_entry, value_at}
use Rattle.rr_table.specs.declared.place.Place.{Place}
use Rattle.rr_sender.specs.Senders.{all_entries, times}
use Rattle.rr_protocol.specs.declared.error.ReceiveError.{ReceiveError}
use Rattle.rr_protocol.specs.declared.kind.Kind.TheVariants as kind
use Rattle.rr_protocol.specs.Queries.{kind_at}
use Rattle.rr_protocol.specs.Receives.{ReceivesResponse}
use Rattle.rr_protocol.specs.State.{handle_at}
use Rattle.rr_laws.proofs.CompleteCalls.{receives_response_complete}
use Rattle.rr_laws.proofs.Receiving.{receives_response_reached}
use Rattle.rr_store.specs.declared.details.ResponseDetails.{ResponseDetails}
use Rattle.rr_store.specs.declared.handle_entry.HandleEntry.{HandleEntry}
use Rattle.rr_store.specs.Asked.{CanInsert, CanTake}
use Rattle.rr_store.specs.Changes.{with_first_response_taken, with_handle}
use Rattle.rr_store.specs.Kinds.{stage_kind}
use Rattle.rr_store.specs.Parts.{ClientPart, Parts}
use Rattle.rr_store.specs.Reaching.{IsCore}
use Rattle.rr_store.specs.Receiving.{IsNextSender, Reaches, borrowed_from, queue_from, received_held, with_received_response, with_taken_response}
use Rattle.rr_store.specs.Sound.{IsSoundStore, empty_hand, response_details, response_place, is_pending}
use Rattle.rr_store.specs.Views.{handle_of, sender_of, state_of}
use Rattle.rr_store.proofs.base.hands.Vacant.{response_vacant}
use Rattle.rr_store.proofs.base.lookups.Asking.{borrows_fit}
use Rattle.rr_store.proofs.base.lookups.Looking.{handle_at-state_of}
use Rattle.rr_store.proofs.base.lookups.Placed.{value_there}
use Rattle.rr_store.proofs.base.lookups.Shown.{request_spot}
use Rattle.rr_store.proofs.base.senders.Owners.{First, client_receiver, port_of_sender}
use Rattle.rr_store.proofs.base.senders.Queues.{times_queue}
use Rattle.rr_store.proofs.querying.Connected.{of_kind, pending_has_request, pending_stage}
use Rattle.rr_receiving.proofs.laws.response.Inserted.{entry_waits, no_handle, not_held, received_sound}
use Rattle.rr_receiving.proofs.laws.response.Refusals.{IsAsking, asking, by_error, receives, receives_nothing}
use Rattle.rr_store.proofs.base.senders.Connected.{reaches}
use Rattle.rr_receiving.proofs.laws.response.Sound.{details_same, same_of}

module _ {Q QH P PH K : Type 0} (p : Parts Q QH P PH K) (core : IsCore p) (n : ℕ) (place : Place) (entry : HandleEntry)
    (taken : fin_map.get p.table.entries n ≡ Some (table_entry place entry))
    (its_kind : kind_at (state_of p) n ≡ Some kind.PendingResponse) where
  -- how many responses the client may have from each sender on the channel
  abbrev most : ℕ
  most = p.limits.max_borrowed_responses_per_pending_response

  -- the handle is in the table
  found : value_at p.table n ≡ Some entry
  found = value_there p.table n place entry taken

  -- it is of a pending response
  pending : stage_kind entry.stage ≡ kind.PendingResponse
  pending = of_kind p (state_of p) n n refl refl kind.PendingResponse (λ e. cc) (λ e. cc) its_kind entry found

  -- the client that sends from its sender
  client : First (λ (c : ClientPart K). c.sender) (λ (c : ClientPart K). c.sender == entry.sender) p.clients entry.sender
  client =
      port_of_sender (λ (c : ClientPart K). c.sender) p.clients entry.sender
      ((core.sound.have_ports.handles n (table_entry place entry) taken).pending
      (ap is_pending (pending_stage entry.stage pending).2))

  -- that client asks, on the channel of the request's slot
  asks : IsAsking p n client.index entry.slot client.it
  asks = asking p core.sound n entry found pending n refl client.index client.it client.at client.is

  -- its sender is there
  pub own_asked : entry.sender < length p.client_senders
  own_asked = (request_spot p empty_hand core.sound.counted n entry found (pending_has_request entry.stage pending)).0

  module _ (receiver : ℕ) (its : receiver ≡ (sender_of entry.sender p.client_senders).receiver) where
    -- the receiver is that client
    receiver_is : receiver ≡ client.it.receiver
    receiver_is = its ∙ client_receiver p empty_hand core.sound entry.sender client

    -- each server's sender has a queue to it
    pub queues_asked : Reaches p.server_senders receiver entry.slot
    queues_asked =
        subst (λ r. Reaches p.server_senders r entry.slot) (sym receiver_is)
        (reaches p core.sound client.index client.it client.at entry.slot asks.inside)

    module _ (answer : Result (Option ℕ) ReceiveError)
        (told : IsNextSender p.server_senders receiver entry.slot most answer) where
      -- what is known of the answer, of the very receiver
      next : (o : Result (Option ℕ) ReceiveError) → answer ≡ o → IsNextSender p.server_senders client.it.receiver entry.slot most o
      next o is =
          subst (IsNextSender p.server_senders client.it.receiver entry.slot most) is
          (subst (λ r. IsNextSender p.server_senders r entry.slot most answer) receiver_is told)

      -- where no sender has one, nothing is received
      pub none_then : answer ≡ Ok None → ReceivesResponse (state_of p) n (Ok None) (state_of p)
      none_then is =
          receives_nothing p core.sound client.index client.it client.at entry.slot n asks.pending asks.seen asks.its_client
          asks.its_channel (state_of p) refl (next (Ok None) is) (state_of p) refl

      -- where there is no room, nothing is received
      pub error_then : (error : ReceiveError) → answer ≡ Err error → ReceivesResponse (state_of p) n (Err error) (state_of p)
      error_then error is =
          by_error p core.sound client.index client.it client.at entry.slot n asks (state_of p) refl error (next (Err error) is)

      module _ (sender : ℕ) (is : answer ≡ Ok (Some sender)) where
        -- what is known of the sender that was chosen
        here : IsNextSender p.server_senders client.it.receiver entry.slot most (Ok (Some sender))
        here = next (Ok (Some sender)) is

        -- it is one of the senders
        sender_asked : sender < length p.server_senders
        sender_asked = here.0

        -- it has a queue to the receiver
        queue_asked : (receiver < length (sender_of sender p.server_senders).messages.queues)
            × (entry.slot < length (slice_index_or (sender_of sender p.server_senders).messages.queues receiver []))
        queue_asked = queues_asked sender here.0

        -- something waits there
        entry_asked : 0 < length (queue_from p.server_senders receiver entry.slot sender)
        entry_asked = subst (λ r. 0 < length (queue_from p.server_senders r entry.slot sender)) (sym receiver_is) here.1

        -- one more can be counted
        count_asked : borrowed_from p.server_senders receiver entry.slot sender + 1 < 2 ^ 64
        count_asked =
            subst (λ r. borrowed_from p.server_senders r entry.slot sender + 1 < 2 ^ 64) (sym receiver_is)
            (omega (arith, here.2, borrows_fit p.limits core.sound.sized.limits_fit))

        -- so the entry can become a handle
        pub take_asked : CanTake p.server_senders sender receiver entry.slot
        take_asked = record { there = sender_asked; queue = queue_asked; entry = entry_asked; fits = count_asked }

        module _ (slot : ℕ) (q : Parts Q QH P PH K)
            (first : slice_get (queue_from p.server_senders receiver entry.slot sender) 0 ≡ Some slot)
            (within : slot < length (sender_of sender p.server_senders).messages.held)
            (popped : q ≡ with_first_response_taken p sender receiver entry.slot slot) where
          -- the response is the oldest of the queue
          first_is : slice_get (queue_from p.server_senders client.it.receiver entry.slot sender) 0 ≡ Some slot
          first_is = subst (λ r. slice_get (queue_from p.server_senders r entry.slot sender) 0 ≡ Some slot) receiver_is first

          -- so it waits
          waits : 0 < times slot (all_entries (sender_of sender p.server_senders).messages.queues)
          waits = omega (
            arith,
            entry_waits (queue_from p.server_senders client.it.receiver entry.slot sender) slot first_is,
            times_queue (sender_of sender p.server_senders).messages slot client.it.receiver entry.slot,
          )

          -- the parts without it in the queue
          abbrev after : Parts Q QH P PH K
          after = with_taken_response p sender client.it.receiver entry.slot slot

          -- the call made them
          q_is : q ≡ after
          q_is = popped ∙ ap (λ r. with_first_response_taken p sender r entry.slot slot) receiver_is

          -- the table is as it was
          table_is : q.table ≡ p.table
          table_is = ap (λ (q : Parts Q QH P PH K). q.table) q_is

          -- the sender is still there
          pub taken_sender_asked : sender < length q.server_senders
          taken_sender_asked =
              subst (λ (q : Parts Q QH P PH K). sender < length q.server_senders) (sym q_is)
              (subst (λ k. sender < k) (sym (length-set p.server_senders sender _)) here.0)

          -- and so is the slot
          pub slot_asked : slot < length (sender_of sender q.server_senders).messages.held
          slot_asked =
              subst (λ (q : Parts Q QH P PH K). slot < length (sender_of sender q.server_senders).messages.held) (sym q_is)
              (subst (λ k. slot < k) (sym (same_of p core.sound sender here.0 client.index client.it client.at entry.slot slot asks.inside
              first_is (λ x. length x.messages.held) (length-set (sender_of sender p.server_senders).messages.held slot _) sender)) within)

          module _ (details : ResponseDetails) (own : Place) (are : details ≡ response_details q sender slot)
              (stands : own ≡ response_place q sender slot) where
            -- the details are the response's
            details_are : details ≡ response_details p sender slot
            details_are =
                are ∙ ap (λ q. response_details q sender slot) q_is
                ∙ details_same p core.sound sender here.0 client.index client.it client.at entry.slot slot asks.inside first_is sender slot

            -- the place is the response's
            own_is : own ≡ response_place p sender slot
            own_is =
                stands ∙ ap (λ q. response_place q sender slot) q_is
                ∙ ap (λ r. record { row = r; index = slot }) (same_of p core.sound sender here.0 client.index client.it client.at
                entry.slot slot asks.inside first_is (λ x. x.row) refl sender)

            -- it is one of the table's
            place_asked : IsInside q.table own
            place_asked =
                let rows = core.sound.inserted.server_rows sender here.0 in
                subst (λ (t : TableView HandleEntry). IsInside t own) (sym table_is)
                (subst (λ x. IsInside p.table x) (sym own_is) (rows.0, omega (arith, within, rows.1)))

            -- nothing stands there
            vacant_asked : IsVacant q.table own
            vacant_asked =
                subst (λ (t : TableView HandleEntry). IsVacant t own) (sym table_is)
                (subst (λ x. IsVacant p.table x) (sym own_is)
                (response_vacant p core.sound sender slot here.0 (not_held p core.sound sender slot waits)))

            -- the number had no handle
            unused : fin_map.get p.table.entries details.number ≡ None
            unused =
                ap (λ (d : ResponseDetails). fin_map.get p.table.entries d.number) details_are ∙ no_handle p core.sound sender slot waits

            -- and it has none
            fresh_asked : fin_map.get q.table.entries details.number ≡ None
            fresh_asked = ap (λ (t : TableView HandleEntry). fin_map.get t.entries details.number) table_is ∙ unused

            -- in what contracts see, too
            pub unhandled : (k : ℕ) → k ≡ details.number → handle_at (state_of p) k ≡ None
            unhandled k numbered = handle_at-state_of p k ∙ ap (option_map (handle_of p)) (ap (fin_map.get p.table.entries) numbered
                ∙ unused)

            -- its number is below the largest of 64 bits
            number_fits : details.number + 1 < 2 ^ 64
            number_fits =
                let below = core.sound.numbered.responses_below sender slot (omega (arith, waits)) in
                let is : details.number ≡ (response_details p sender slot).number = ap (λ (d : ResponseDetails). d.number) details_are in
                omega (arith, is, below, core.sound.sized.next_fits)

            pub insert_asked : CanInsert q.table details.number own × (details.number + 1 < 2 ^ 64)
            insert_asked = (record { inside = place_asked; vacant = vacant_asked; fresh = fresh_asked }, number_fits)

            module _ (t : Parts Q QH P PH K) (put : t ≡ with_handle q details.number own (received_held p sender slot)) (k : ℕ)
                (numbered : k ≡ details.number) where
              -- the parts at the end
              t_is : t ≡ with_received_response p sender client.it.receiver entry.slot slot
              t_is =
                  put ∙ ap (λ q. with_handle q details.number own (received_held p sender slot)) q_is
                  ∙ ap (λ x. with_handle after details.number x (received_held p sender slot)) own_is
                  ∙ ap (λ (d : ResponseDetails). with_handle after d.number (response_place p sender slot) (received_held p sender slot))
                  details_are

              -- the response is received
              pub receives_then : ReceivesResponse (state_of p) n (Ok (Some k)) (state_of t)
              receives_then =
                  receives p core.sound client.index client.it client.at entry.slot n asks.pending asks.seen asks.its_client
                  asks.its_channel (state_of p) refl sender here.0 slot asks.inside first_is here.2 k
                  (numbered ∙ ap (λ (d : ResponseDetails). d.number) details_are) (state_of t) (ap state_of t_is)

              -- what is true of each core is true of them
              pub core_then : IsCore t
              core_then = record {
                sound = subst (λ q. IsSoundStore q empty_hand) (sym t_is)
                    (received_sound p core.sound sender here.0 client.index client.it client.at entry.slot slot asks.inside first_is);
                reached = receives_response_reached (state_of p) core.reached n (Ok (Some k)) (state_of t) receives_then;
                complete = receives_response_complete (state_of p) core.complete n (Ok (Some k)) (state_of t) receives_then;
              }
