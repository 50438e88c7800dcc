-- Dead requests leave the queues to a server, and the oldest other one of some client has a handle under the next number.
use Rattle.std.proofs.Common.{◌≡◌, ◌<◌, ◌≤◌, ◌+◌, ◌*◌, ◌^◌, ℕ, Bool, true, false, None, Some, Ok, Err, [], Option, length, refl, sym, ap, ◌∙◌, subst, arith}
use Rattle.std.specs.Prelude.{◌==◌, IsSome, IsSomeAnd, Result, find, option_map, slice_get, slice_index_or}
use Rattle.std.specs.List.{position}
use Rattle.std.specs.FinMap as fin_map
use Rattle.std.proofs.lemmas.Bool.{eqb-true}
use Rattle.std.proofs.lemmas.List.{length-set}
use Rattle.rr_table.specs.TableView.{IsInside, IsVacant, TableView}
use Rattle.rr_table.specs.declared.place.Place.{Place}
use Rattle.rr_protocol.specs.declared.error.ReceiveError.{ReceiveError}
use Rattle.rr_protocol.specs.declared.kind.Kind.TheVariants as kind
use Rattle.rr_protocol.specs.declared.limits.Limits.{Limits}
use Rattle.rr_protocol.specs.Ports.{Server}
use Rattle.rr_protocol.specs.Queries.{kind_at}
use Rattle.rr_protocol.specs.Receives.{ReceivesRequest, ReceivesUnskimmed}
use Rattle.rr_protocol.specs.State.{State, numbers_left}
use Rattle.rr_laws.proofs.CompleteCalls.{receives_request_complete, skims_complete}
use Rattle.rr_laws.proofs.Receiving.{receives_request_reached, skims_reached}
use Rattle.rr_store.specs.Answering.{active_entry}
use Rattle.rr_store.specs.Asked.{CanInsert, CanTake}
use Rattle.rr_store.specs.Changes.{with_first_request_taken, with_new_handle, with_request_senders}
use Rattle.rr_store.specs.Order.{IsRising}
use Rattle.rr_store.specs.Parts.{Parts, ServerPart}
use Rattle.rr_store.specs.Reaching.{IsCore}
use Rattle.rr_store.specs.Receiving.{IsNextSender, Reaches, borrowed_from, queue_from}
use Rattle.rr_store.specs.Skimming.{IsSkimmedTo, with_received_request}
use Rattle.rr_store.specs.Sound.{IsSoundStore, active_place, empty_hand, server_place}
use Rattle.rr_store.specs.Views.{sender_of, server_of, state_of}
use Rattle.rr_store.proofs.base.lists.Replaced.{find_mapped, standing, standing_nowhere}
use Rattle.rr_store.proofs.base.lookups.Asking.{requests_fit}
use Rattle.rr_store.proofs.base.lookups.Numbers.{server_there}
use Rattle.rr_store.proofs.base.senders.Owners.{First, servers_rise}
use Rattle.rr_store.proofs.base.senders.Ports.{of_found}
use Rattle.rr_receiving.proofs.laws.request.Inserted.{received_request_sound}
use Rattle.rr_receiving.proofs.laws.request.Ready.{IsReady, answered, its_limits, its_next, its_place, its_self, its_server, own_place}
use Rattle.rr_receiving.proofs.laws.request.Ready.{ready_as_is, ready_skimmed, server_reaches, waited}
use Rattle.rr_receiving.proofs.laws.request.Refusals.{receives_error, receives_none, receives_one}
use Rattle.rr_receiving.proofs.laws.request.Sound.{same_of}
use Rattle.rr_receiving.proofs.laws.request.Vacant.{active_vacant, within_row}

module _ {Q QH P PH K : Type 0} (p : Parts Q QH P PH K) (core : IsCore p) (n : ℕ)
    (its_kind : kind_at (state_of p) n ≡ Some kind.Server) where
  -- the server with the number
  server : First (λ (s : ServerPart K). s.port.id) (λ (s : ServerPart K). s.port.id == n) p.servers n
  server = go (position (λ (s : ServerPart K). s.port.id == n) p.servers) refl
    where
      go : (o : Option ℕ) → position (λ (s : ServerPart K). s.port.id == n) p.servers ≡ o
          → First (λ (s : ServerPart K). s.port.id) (λ (s : ServerPart K). s.port.id == n) p.servers n
      go None e =
          absurd (server_there (state_of p) n its_kind (find_mapped server_of (λ (d : Server K). d.id == n) p.servers
          ∙ ap (option_map server_of) (standing_nowhere (λ (s : ServerPart K). s.port.id == n) p.servers e)))
      go (Some i) e =
          let it = standing (λ (s : ServerPart K). s.port.id == n) p.servers i e in
          record { index = i; it = it.it; found = e; at = it.at; is = eqb-true _ _ it.passes }

  -- there is one
  pub server_asked : IsSome (position (λ (s : ServerPart K). s.port.id == n) p.servers)
  server_asked = subst IsSome (sym server.found) refl

  -- and servers stand in the order of their numbers
  pub order_asked : IsRising (λ (s : ServerPart K). s.port.id) p.servers
  order_asked = servers_rise p empty_hand core.sound

  module _ (receiver : ℕ) (its : IsSomeAnd (position (λ (s : ServerPart K). s.port.id == n) p.servers)
      (λ i. IsSomeAnd (slice_get p.servers i) (λ s. receiver ≡ s.receiver))) where
    -- the receiver is that server
    receiver_is : receiver ≡ server.it.receiver
    receiver_is =
        of_found (λ (s : ServerPart K). s.port.id == n) p.servers server.index server.it server.found server.at
        (λ _ s. receiver ≡ s.receiver) its

    -- each client's sender has a queue to it
    pub queues_asked : Reaches p.client_senders receiver 0
    queues_asked =
        subst (λ r. Reaches p.client_senders r 0) (sym receiver_is) (server_reaches p core.sound server.index server.it server.at)

    module _ (q : Parts Q QH P PH K) (rest : q ≡ with_request_senders p q.client_senders)
        (kept : p.limits.enable_fire_and_forget_requests ≡ true → q ≡ p) (answer : Result (Option ℕ) ReceiveError)
        (skimmed : p.limits.enable_fire_and_forget_requests ≡ false → IsSkimmedTo p.table receiver
        p.limits.max_active_requests_per_client p.client_senders q.client_senders answer) where
      -- the sender that was told
      abbrev Chosen : ℕ → Type 0
      Chosen sender = answer ≡ Ok (Some sender)

      -- the parts after the skim
      ready : IsReady p q server.it Chosen
      ready = go p.limits.enable_fire_and_forget_requests refl
        where
          go : (b : Bool) → p.limits.enable_fire_and_forget_requests ≡ b → IsReady p q server.it Chosen
          go true e =
              subst (λ x. IsReady p x server.it Chosen) (sym (kept e))
              (ready_as_is p core.sound server.index server.it server.at Chosen e)
          go false e =
              let to = skimmed e in
              subst (λ x. IsReady p x server.it Chosen) (sym rest)
              (ready_skimmed p core.sound server.index server.it server.at Chosen e receiver receiver_is q.client_senders to.skimmed
              to.front)

      -- the server is found by its number
      found : find (λ (s : ServerPart K). s.port.id == server.it.port.id) p.servers ≡ Some server.it
      found = its_self p core.sound server.index server.it server.at

      -- it is there after the skim too
      still : slice_get q.servers server.index ≡ Some server.it
      still = its_server p q server.index server.it server.at found Chosen ready

      -- what it receives then is what it receives
      answers : (result : Result (Option ℕ) ReceiveError) (new : State Q QH P PH K)
          → ReceivesUnskimmed (state_of q) server.it.port.id result new → ReceivesRequest (state_of p) n result new
      answers = answered p q server.index server.it server.at found Chosen ready (state_of p) refl n server.is

      -- what is true of each core is true after the skim
      pub skimmed_core : IsCore q
      skimmed_core = record {
        sound = ready.sound;
        reached = skims_reached ready.clients (state_of p) core.reached server.it.port.id (state_of q) ready.skims;
        complete = skims_complete ready.clients (state_of p) core.complete server.it.port.id (state_of q) ready.skims;
      }

      -- and each client's sender still has a queue to the server
      skimmed_queues_asked : Reaches q.client_senders receiver 0
      skimmed_queues_asked =
          subst (λ r. Reaches q.client_senders r 0) (sym receiver_is) (server_reaches q ready.sound server.index server.it still)

      module _ (told : IsNextSender q.client_senders receiver 0 p.limits.max_active_requests_per_client answer) where
        -- what is known of the answer, of the very receiver
        next : (o : Result (Option ℕ) ReceiveError) → answer ≡ o
            → IsNextSender q.client_senders server.it.receiver 0 q.limits.max_active_requests_per_client o
        next o is =
            subst (IsNextSender q.client_senders server.it.receiver 0 q.limits.max_active_requests_per_client) is
            (subst (λ (l : Limits). IsNextSender q.client_senders server.it.receiver 0 l.max_active_requests_per_client answer)
            (sym (its_limits p q server.index server.it server.at found Chosen ready))
            (subst (λ r. IsNextSender q.client_senders r 0 p.limits.max_active_requests_per_client answer) receiver_is told))

        -- where no sender has one, nothing is received
        pub none_then : answer ≡ Ok None → ReceivesRequest (state_of p) n (Ok None) (state_of q)
        none_then is =
            answers (Ok None) (state_of q) (receives_none q ready.sound server.index server.it still (next (Ok None) is))

        -- where there is no room, nothing is received
        pub error_then : (error : ReceiveError) → answer ≡ Err error → ReceivesRequest (state_of p) n (Err error) (state_of q)
        error_then error is =
            answers (Err error) (state_of q) (receives_error q ready.sound server.index server.it still error (next (Err error) is))

        module _ (sender : ℕ) (is : answer ≡ Ok (Some sender)) where
          -- what is known of the sender that was chosen
          here : IsNextSender q.client_senders server.it.receiver 0 q.limits.max_active_requests_per_client (Ok (Some sender))
          here = next (Ok (Some sender)) is

          -- it is one of the senders
          sender_asked : sender < length q.client_senders
          sender_asked = here.0

          -- it has a queue to the receiver
          queue_asked : (receiver < length (sender_of sender q.client_senders).messages.queues)
              × (0 < length (slice_index_or (sender_of sender q.client_senders).messages.queues receiver []))
          queue_asked = skimmed_queues_asked sender here.0

          -- something waits there
          entry_asked : 0 < length (queue_from q.client_senders receiver 0 sender)
          entry_asked = subst (λ r. 0 < length (queue_from q.client_senders r 0 sender)) (sym receiver_is) here.1

          -- one more can be counted
          count_asked : borrowed_from q.client_senders receiver 0 sender + 1 < 2 ^ 64
          count_asked =
              subst (λ r. borrowed_from q.client_senders r 0 sender + 1 < 2 ^ 64) (sym receiver_is)
              (omega (arith, here.2, requests_fit q.limits ready.sound.sized.limits_fit))

          -- so the entry can become a handle
          pub take_asked : CanTake q.client_senders sender receiver 0
          take_asked = record { there = sender_asked; queue = queue_asked; entry = entry_asked; fits = count_asked }

          module _ (left : 0 < numbers_left (state_of p)) (slot : ℕ) (r : Parts Q QH P PH K)
              (first : slice_get (queue_from q.client_senders receiver 0 sender) 0 ≡ Some slot)
              (within : slot < length (sender_of sender q.client_senders).messages.held)
              (popped : r ≡ with_first_request_taken q sender receiver slot) where
            -- the request is the oldest of the queue
            first_is : slice_get (queue_from q.client_senders server.it.receiver 0 sender) 0 ≡ Some slot
            first_is = subst (λ r. slice_get (queue_from q.client_senders r 0 sender) 0 ≡ Some slot) receiver_is first

            -- a number is left
            below : q.next < 2 ^ 62
            below = omega (arith, left, its_next p q server.index server.it server.at found Chosen ready)

            -- the parts without it in the queue
            abbrev after : Parts Q QH P PH K
            after = with_first_request_taken q sender server.it.receiver slot

            -- the call made them
            r_is : r ≡ after
            r_is = popped ∙ ap (λ x. with_first_request_taken q sender x slot) receiver_is

            -- the table is as it was
            table_is : r.table ≡ q.table
            table_is = ap (λ (r : Parts Q QH P PH K). r.table) r_is

            -- and so is the next number
            next_is : r.next ≡ q.next
            next_is = ap (λ (r : Parts Q QH P PH K). r.next) r_is

            -- how many slots the sender has
            abbrev slots : ℕ
            slots = length (sender_of sender q.client_senders).messages.held

            -- it has as many still
            slots_are : length (sender_of sender r.client_senders).messages.held ≡ slots
            slots_are =
                ap (λ (r : Parts Q QH P PH K). length (sender_of sender r.client_senders).messages.held) r_is
                ∙ same_of q ready.sound below sender here.0 server.index server.it still slot first_is (λ x. length x.messages.held)
                (length-set (sender_of sender q.client_senders).messages.held slot _) sender

            -- and its row
            row_is : (sender_of sender r.client_senders).row ≡ (sender_of sender q.client_senders).row
            row_is =
                ap (λ (r : Parts Q QH P PH K). (sender_of sender r.client_senders).row) r_is
                ∙ same_of q ready.sound below sender here.0 server.index server.it still slot first_is (λ x. x.row) refl sender

            -- all places of the row can be counted
            fits : (q.limits.max_servers + 1) * slots < 2 ^ 64
            fits = ready.sound.sized.rows_fit sender here.0

            -- the handle's place is one of them
            inside : ((receiver + 1) * slots + slot < (q.limits.max_servers + 1) * slots)
                × (receiver + 1 ≤ (q.limits.max_servers + 1) * slots)
            inside =
                subst (λ x. ((x + 1) * slots + slot < (q.limits.max_servers + 1) * slots) × (x + 1 ≤ (q.limits.max_servers + 1) * slots))
                (sym receiver_is)
                (within_row server.it.receiver q.limits.max_servers slots slot
                (own_place q ready.sound server.index server.it still) within)

            -- the sender is still there
            taken_sender_asked : sender < length r.client_senders
            taken_sender_asked =
                subst (λ (r : Parts Q QH P PH K). sender < length r.client_senders) (sym r_is)
                (subst (λ k. sender < k) (sym (length-set q.client_senders sender _)) here.0)

            -- the receiver can be counted on from
            receiver_asked : receiver + 1 < 2 ^ 64
            receiver_asked = omega (arith, inside.1, fits)

            -- and so can the index
            index_asked : (receiver + 1) * length (sender_of sender r.client_senders).messages.held + slot < 2 ^ 64
            index_asked = subst (λ k. (receiver + 1) * k + slot < 2 ^ 64) (sym slots_are) (omega (arith, inside.0, fits))

            pub active_place_asked : (sender < length r.client_senders) × (receiver + 1 < 2 ^ 64)
                × ((receiver + 1) * length (sender_of sender r.client_senders).messages.held + slot < 2 ^ 64)
            active_place_asked = (taken_sender_asked, receiver_asked, index_asked)

            module _ (own : Place) (stands : own ≡ record {
              row = (sender_of sender r.client_senders).row;
              index = (receiver + 1) * length (sender_of sender r.client_senders).messages.held + slot;
            }) where
              -- the place, by the sender as it was
              own_is : own ≡ record { row = (sender_of sender q.client_senders).row; index = (receiver + 1) * slots + slot }
              own_is =
                  stands
                  ∙ ap (λ k. record { row = (sender_of sender r.client_senders).row; index = (receiver + 1) * k + slot }) slots_are
                  ∙ ap (λ k. record { row = k; index = (receiver + 1) * slots + slot }) row_is

              -- the receiver is where the server has its place
              placed : receiver ≡ server_place q server.it.port.id
              placed = receiver_is ∙ sym (its_place q ready.sound server.index server.it still)

              -- the place is that of the server's handle
              active_is : own ≡ active_place q sender slot server.it.port.id
              active_is =
                  own_is ∙ ap (λ x. record { row = (sender_of sender q.client_senders).row; index = (x + 1) * slots + slot }) placed

              -- it is one of the table's
              place_asked : IsInside r.table own
              place_asked =
                  let rows = ready.sound.inserted.client_rows sender here.0 in
                  subst (λ (t : TableView _). IsInside t own) (sym table_is)
                  (subst (λ x. IsInside q.table x) (sym own_is) (rows.0, omega (arith, inside.0, rows.1)))

              -- nothing stands there
              vacant_asked : IsVacant r.table own
              vacant_asked =
                  subst (λ (t : TableView _). IsVacant t own) (sym table_is)
                  (subst (λ x. IsVacant q.table x) (sym active_is)
                  (active_vacant q ready.sound sender here.0 server.it.port.id slot within
                  (ap (λ x. slice_get (queue_from q.client_senders x 0 sender) 0) (sym placed) ∙ first)))

              -- the next number has no handle
              fresh_asked : fin_map.get r.table.entries r.next ≡ None
              fresh_asked =
                  ap (λ (r : Parts Q QH P PH K). fin_map.get r.table.entries r.next) r_is ∙ ready.sound.numbered.fresh q.next (omega arith)

              -- and can be counted on from
              number_asked : r.next + 1 < 2 ^ 64
              number_asked = omega (arith, below, next_is)

              pub add_asked : CanInsert r.table r.next own × (r.next + 1 < 2 ^ 64)
              add_asked = (record { inside = place_asked; vacant = vacant_asked; fresh = fresh_asked }, number_asked)

              module _ (number : ℕ) (t : Parts Q QH P PH K) (given : number ≡ r.next)
                  (added : t ≡ with_new_handle r own (active_entry n sender slot 0)) (k : ℕ) (numbered : k ≡ number) where
                -- the parts at the end
                t_is : t ≡ with_received_request q server.it.port.id sender server.it.receiver slot
                t_is =
                    added ∙ ap (λ r. with_new_handle r own (active_entry n sender slot 0)) r_is
                    ∙ ap (λ x. with_new_handle after x (active_entry n sender slot 0)) active_is
                    ∙ ap (λ m. with_new_handle after (active_place q sender slot server.it.port.id) (active_entry m sender slot 0))
                    (sym server.is)

                -- the server may have one more of that client
                few : borrowed_from q.client_senders server.it.receiver 0 sender < p.limits.max_active_requests_per_client
                few = omega (
                  arith,
                  here.2,
                  ap (λ (l : Limits). l.max_active_requests_per_client) (its_limits p q server.index server.it server.at found Chosen ready),
                )

                -- after the skim the request is received
                received : ReceivesUnskimmed (state_of q) server.it.port.id (Ok (Some q.next)) (state_of t)
                received =
                    subst (λ x. ReceivesUnskimmed (state_of q) server.it.port.id (Ok (Some q.next)) x) (sym (ap state_of t_is))
                    (receives_one q ready.sound server.index server.it still below sender here.0 slot first_is here.2
                    (waited p q server.index server.it server.at found Chosen ready sender slot is few first_is))

                -- so it is received
                pub receives_then : ReceivesRequest (state_of p) n (Ok (Some k)) (state_of t)
                receives_then =
                    answers (Ok (Some k)) (state_of t)
                    (subst (λ m. ReceivesUnskimmed (state_of q) server.it.port.id (Ok (Some m)) (state_of t))
                    (sym (numbered ∙ given ∙ next_is)) received)

                -- what is true of each core is true of them
                pub core_then : IsCore t
                core_then = record {
                  sound = subst (λ q. IsSoundStore q empty_hand) (sym t_is)
                      (received_request_sound q ready.sound below sender here.0 server.index server.it still slot first_is);
                  reached = receives_request_reached (state_of p) core.reached n (Ok (Some k)) (state_of t) receives_then;
                  complete = receives_request_complete (state_of p) core.complete n (Ok (Some k)) (state_of t) receives_then;
                }
