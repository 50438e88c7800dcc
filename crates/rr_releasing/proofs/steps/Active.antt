-- An active request leaves its place, its server's count, its slot and its mark.
use Rattle.std.proofs.Common.{◌≡◌, ◌<◌, ◌+◌, ◌*◌, ℕ, true, [], ◌∷◌, Some, length, refl, sym, ap, ◌∙◌, subst, arith}
use Rattle.std.specs.Prelude.{◌==◌, IsSome, IsSomeAnd, slice_get, slice_index, slice_index_or}
use Rattle.std.specs.List.{position}
use Rattle.std.specs.FinMap as fin_map
use Rattle.std.proofs.lemmas.Bool.{eq-eqb, eqb-true}
use Rattle.rr_table.specs.TableView.{table_entry}
use Rattle.rr_table.specs.declared.place.Place.{Place}
use Rattle.rr_sender.specs.Senders.{borrowed_at}
use Rattle.rr_protocol.specs.State.{handle_at}
use Rattle.rr_store.specs.declared.handle_entry.HandleEntry.{HandleEntry}
use Rattle.rr_store.specs.Changes.{with_client_sender_at, with_requests, without_handle}
use Rattle.rr_store.specs.Emptying.{PartsEmptied}
use Rattle.rr_store.specs.Loaning.{with_messages}
use Rattle.rr_store.specs.Order.{IsRising}
use Rattle.rr_store.specs.Parts.{ServerPart, Sender, Parts}
use Rattle.rr_store.specs.Reaching.{IsCore}
use Rattle.rr_store.specs.Releasing.{IsHandleGone, borrow_ended, borrow_given_back, is_active_request, server_of_stage, without_mark}
use Rattle.rr_store.specs.Sound.{HasPort, IsSoundStore, empty_hand, server_place}
use Rattle.rr_store.specs.Views.{no_sender, sender_of, state_of}
use Rattle.rr_store.proofs.base.frames.Emptied.{emptied_sound, emptied_view}
use Rattle.rr_store.proofs.base.senders.Emptied.{among_emptied, requests_emptied}
use Rattle.std.proofs.lemmas.List.{length-set}
use Rattle.rr_store.specs.declared.details.RequestDetails.{RequestDetails}
use Rattle.rr_store.proofs.base.lists.Replaced.{set_alike}
use Rattle.rr_store.proofs.base.lookups.Placed.{value_there}
use Rattle.rr_store.proofs.base.lookups.Shown.{held_within}
use Rattle.rr_store.proofs.base.senders.Owners.{First, first_by, servers_rise}
use Rattle.rr_store.proofs.base.senders.Ports.{of_found, told_at}
use Rattle.rr_releasing.proofs.laws.active.Fields.{ActiveFound, active_found}
use Rattle.rr_store.proofs.base.views.Counts.{listed}
use Rattle.rr_store.proofs.querying.Connected.{mark_within}
use Rattle.rr_releasing.proofs.laws.active.Sound.{after_active, active_sound}
use Rattle.rr_store.proofs.base.senders.Connected.{server_placed, server_is}
use Rattle.rr_releasing.proofs.laws.active.View.{active_view}
use Rattle.rr_releasing.proofs.laws.response.Fields.{queue_there}
use Rattle.rr_releasing.proofs.laws.View.{gone_as}

module _ {Q QH P PH K : Type 0} (p : Parts Q QH P PH K) (core : IsCore p) (n : ℕ) (place : Place) (entry : HandleEntry)
    (taken : fin_map.get p.table.entries n ≡ Some (table_entry place entry))
    (kind : IsSomeAnd (handle_at (state_of p) n) (λ handle. is_active_request handle ≡ true)) where
  found : ActiveFound p n entry
  found = active_found p core.sound (state_of p) n n refl refl kind entry (value_there p.table n place entry taken)

  abbrev its : ℕ
  its = server_place p found.server

  module _ (q : Parts Q QH P PH K) (gone : q ≡ without_handle p n) (number : ℕ) (named : number ≡ server_of_stage entry.stage) where
    server : First (λ (s : ServerPart K). s.port.id) (λ (s : ServerPart K). s.port.id == number) p.servers number
    server =
        let at = server_placed p core.sound found.server found.receiver in
        first_by (λ (s : ServerPart K). s.port.id) p.servers number at.0 at.1 at.2 (at.3 ∙ sym (named ∙ found.of_stage))

    pub server_asked : IsSome (position (λ (s : ServerPart K). s.port.id == number) q.servers)
    server_asked =
        subst (λ (q : Parts Q QH P PH K). IsSome (position (λ (s : ServerPart K). s.port.id == number) q.servers)) (sym gone)
        (subst IsSome (sym server.found) refl)

    pub order_asked : IsRising (λ (s : ServerPart K). s.port.id) q.servers
    order_asked =
        subst (λ (q : Parts Q QH P PH K). IsRising (λ (s : ServerPart K). s.port.id) q.servers) (sym gone)
        (servers_rise p empty_hand core.sound)

    -- the one that is told of at the index where it was found
    it_is : (index : ℕ) → position (λ (s : ServerPart K). s.port.id == number) q.servers ≡ Some index → (r : Parts Q QH P PH K)
        → r.servers ≡ p.servers → (R : ServerPart K → Type 0) → IsSomeAnd (slice_get r.servers index) R → R server.it
    it_is index found_at r same R told =
        of_found (λ (s : ServerPart K). s.port.id == number) p.servers server.index server.it server.found server.at (λ _ s. R s)
        (told_at (λ (s : ServerPart K). s.port.id == number) p.servers R index
        (ap (λ (q : Parts Q QH P PH K). position (λ (s : ServerPart K). s.port.id == number) q.servers) (sym gone) ∙ found_at)
        (subst (λ ss. IsSomeAnd (slice_get ss index) R) same told))

    module _ (index : ℕ) (found_at : position (λ (s : ServerPart K). s.port.id == number) q.servers ≡ Some index)
        (receiver : ℕ) (told : IsSomeAnd (slice_get q.servers index) (λ s. receiver ≡ s.receiver)) where
      receiver_is : receiver ≡ its
      receiver_is =
          let here = it_is index found_at q (ap (λ (q : Parts Q QH P PH K). q.servers) gone) (λ s. receiver ≡ s.receiver) told in
          let same = server_is p core.sound found.server found.receiver server.index server.it server.at
          ∙ eq-eqb server.it.port.id found.server (server.is ∙ named ∙ found.of_stage) in
          here ∙ sym (eqb-true _ _ same)

      here : 0 < borrowed_at (sender_of entry.sender p.client_senders).messages receiver 0
      here = subst (λ r. 0 < borrowed_at (sender_of entry.sender p.client_senders).messages r 0) (sym receiver_is) found.some

      pub sender_asked : entry.sender < length q.client_senders
      sender_asked = subst (λ (q : Parts Q QH P PH K). entry.sender < length q.client_senders) (sym gone) found.sender

      pub mark_asked : entry.slot * q.limits.max_servers + receiver < length (sender_of entry.sender q.client_senders).may_answer
      mark_asked =
          subst (λ (q : Parts Q QH P PH K). entry.slot * q.limits.max_servers + receiver < length
          (sender_of entry.sender q.client_senders).may_answer) (sym gone)
          (mark_within entry.slot (length (sender_of entry.sender p.client_senders).messages.held) p.limits.max_servers receiver
          (length (sender_of entry.sender p.client_senders).may_answer)
          (held_within (sender_of entry.sender p.client_senders).messages.held entry.slot found.slot)
          (omega (arith, receiver_is, found.receiver)) (core.sound.sized.marks entry.sender found.sender))

      -- the core without a handle and without its server's mark
      abbrev unmarked : HandleEntry → Parts Q QH P PH K
      unmarked h = with_client_sender_at (without_handle p n) h.sender (without_mark (h.slot * p.limits.max_servers + its))

      abbrev clean : Sender Q RequestDetails QH
      clean = without_mark (entry.slot * p.limits.max_servers + its) (sender_of entry.sender p.client_senders)

      -- what a mark doesn't change is the same of the sender
      same : {Y : Type 0} (f : Sender Q RequestDetails QH → Y) → f clean ≡ f (sender_of entry.sender p.client_senders)
          → f (sender_of entry.sender (unmarked entry).client_senders) ≡ f (sender_of entry.sender p.client_senders)
      same f alike = set_alike p.client_senders entry.sender clean no_sender f alike entry.sender

      module _ (r : Parts Q QH P PH K)
          (cleared : r ≡ with_client_sender_at q entry.sender (without_mark (entry.slot * q.limits.max_servers + receiver))) where
        steps : r ≡ unmarked entry
        steps = cleared
            ∙ ap (λ (q : Parts Q QH P PH K). with_client_sender_at q entry.sender
            (without_mark (entry.slot * q.limits.max_servers + receiver))) gone
            ∙ ap (λ x. with_client_sender_at (without_handle p n) entry.sender (without_mark (entry.slot * p.limits.max_servers + x)))
            receiver_is

        pub sender_still : entry.sender < length r.client_senders
        sender_still = subst (λ (r : Parts Q QH P PH K). entry.sender < length r.client_senders) (sym steps)
            (omega (arith, found.sender, length-set p.client_senders entry.sender clean))

        pub queue_asked : (receiver < length (sender_of entry.sender r.client_senders).messages.queues)
            × (0 < length (slice_index_or (sender_of entry.sender r.client_senders).messages.queues receiver []))
        queue_asked =
            let there = queue_there (sender_of entry.sender p.client_senders).messages
            (core.sound.sized.client_senders entry.sender found.sender) receiver 0 here in
            subst (λ (r : Parts Q QH P PH K). (receiver < length (sender_of entry.sender r.client_senders).messages.queues)
            × (0 < length (slice_index_or (sender_of entry.sender r.client_senders).messages.queues receiver []))) (sym steps) (
              omega (arith, there.0, same (λ l. length l.messages.queues) refl),
              omega (arith, there.1, same (λ l. length (slice_index_or l.messages.queues receiver [])) refl),
            )

        pub counted_asked : (0 < borrowed_at (sender_of entry.sender r.client_senders).messages receiver 0)
            × (0 < slice_index (sender_of entry.sender r.client_senders).messages.held entry.slot)
        counted_asked =
            subst (λ (r : Parts Q QH P PH K). (0 < borrowed_at (sender_of entry.sender r.client_senders).messages receiver 0)
            × (0 < slice_index (sender_of entry.sender r.client_senders).messages.held entry.slot)) (sym steps) (
              omega (arith, here, same (λ l. borrowed_at l.messages receiver 0) refl),
              omega (arith, found.slot, same (λ l. slice_index l.messages.held entry.slot) refl),
            )

        module _ (t : Parts Q QH P PH K) (ended : t ≡ with_requests r entry.sender (λ m. borrow_given_back m receiver 0 entry.slot)) where
          -- where the slot is not emptied
          abbrev held_less : HandleEntry → Parts Q QH P PH K
          held_less h = with_requests (unmarked h) h.sender (λ m. borrow_ended m its 0 h.slot)

          abbrev before : Parts Q QH P PH K
          before = held_less entry

          before_is : before ≡ after_active p core.sound n found.table_entry found.at found.server found.loans found.active
          before_is = ap held_less (sym found.is)

          before_sound : IsSoundStore before empty_hand
          before_sound = subst (λ q. IsSoundStore q empty_hand) (sym before_is)
              (active_sound p core.sound n found.table_entry found.at found.server found.loans found.active)

          -- and where it may be
          abbrev after : Parts Q QH P PH K
          after = with_requests (unmarked entry) entry.sender (λ m. borrow_given_back m its 0 entry.slot)

          after_is : t ≡ after
          after_is =
              ended ∙ ap (λ r. with_requests r entry.sender (λ m. borrow_given_back m receiver 0 entry.slot)) steps
              ∙ ap (λ x. with_requests (unmarked entry) entry.sender (λ m. borrow_given_back m x 0 entry.slot)) receiver_is

          emptied : PartsEmptied before after
          emptied =
              let l = sender_of entry.sender (unmarked entry).client_senders in
              requests_emptied (unmarked entry) (unmarked entry).client_senders entry.sender
              (with_messages l (borrow_ended l.messages its 0 entry.slot))
              (with_messages l (borrow_given_back l.messages its 0 entry.slot))
              (record { rest = refl; messages = among_emptied (entry.slot ∷ []) (borrow_ended l.messages its 0 entry.slot) })

          pub sound_then : IsSoundStore t empty_hand
          sound_then = subst (λ q. IsSoundStore q empty_hand) (sym after_is) (emptied_sound before after emptied empty_hand before_sound)

          module _ (sender : ℕ) (its : IsSomeAnd (slice_get t.servers index) (λ s. sender ≡ s.sender)) where
            sender_is : sender ≡ server.it.sender
            sender_is = it_is index found_at t (ap (λ (q : Parts Q QH P PH K). q.servers) after_is) (λ s. sender ≡ s.sender) its

            -- the server is as it was
            owner_is : (sender_of sender t.server_senders).owner ≡ found.server
            owner_is =
                ap (λ (q : Parts Q QH P PH K). (sender_of sender q.server_senders).owner) after_is
                ∙ ap (λ l. (sender_of l p.server_senders).owner) sender_is
                ∙ (core.sound.server_ports.own server.index server.it.connected
                (listed (λ (s : ServerPart K). s.connected) p.servers server.index server.it server.at)).1
                ∙ server.is ∙ named ∙ found.of_stage

            pub port_then : HasPort (λ (s : ServerPart K). s.sender) t.servers sender
            port_then = subst (λ (q : Parts Q QH P PH K). HasPort (λ (s : ServerPart K). s.sender) q.servers sender) (sym after_is)
                (server.index, server.it, server.at, sym sender_is)

            -- contracts see the handle go
            pub gone_then : IsHandleGone (state_of p) n (sender_of sender t.server_senders).owner (state_of t)
            gone_then =
                subst (λ port. IsHandleGone (state_of p) n port (state_of t)) (sym owner_is)
                (gone_as (state_of p)
                (state_of (after_active p core.sound n found.table_entry found.at found.server found.loans found.active))
                (state_of t) n found.server
                (active_view p core.sound n found.table_entry found.at found.server found.loans found.active)
                (ap state_of after_is ∙ emptied_view before after emptied empty_hand before_sound ∙ ap state_of before_is))
