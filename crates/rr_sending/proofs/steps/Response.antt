-- A response that can be sent comes to the queue that it reaches, and its handle, its hold and its loans end.
use Rattle.std.proofs.Common.{◌≡◌, ◌<◌, ℕ, Bool, true, false, Option, None, Some, Ok, List, [], ◌∷◌, length, map, refl, sym, ap, ◌∙◌, subst, arith}
use Rattle.std.specs.Prelude.{◌==◌, ◌&&◌, not, IfSome, IsSome, IsSomeAnd, slice_get, slice_index, slice_set}
use Rattle.std.specs.List.{position}
use Rattle.std.specs.FinMap as fin_map
use Rattle.std.proofs.lemmas.List.{length-set}
use Rattle.rr_table.specs.TableView.{table_entry, value_at}
use Rattle.rr_table.specs.declared.place.Place.{Place}
use Rattle.rr_sender.specs.Senders.{Messages, evicted, queue_at}
use Rattle.rr_protocol.specs.Backpressure.{discards}
use Rattle.rr_protocol.specs.declared.error.SendError.{SendError}
use Rattle.rr_protocol.specs.declared.kind.Kind.{Kind}
use Rattle.rr_protocol.specs.declared.settings.BackpressureAction.{BackpressureAction}
use Rattle.rr_protocol.specs.Queries.{kind_at}
use Rattle.rr_protocol.specs.Releases.{after_release, without_unused_port}
use Rattle.rr_protocol.specs.Sends.{is_response_refused, with_response_put}
use Rattle.rr_protocol.specs.State.{State, IsResponseMutAnd, handle_at}
use Rattle.rr_laws.proofs.CompleteCalls.{sends_response_complete}
use Rattle.rr_laws.proofs.Sending.{sends_response_reached}
use Rattle.rr_store.specs.declared.details.ResponseDetails.{ResponseDetails}
use Rattle.rr_store.specs.declared.handle_entry.HandleEntry.{HandleEntry}
use Rattle.rr_store.specs.declared.port.ServerPort.{ServerPort}
use Rattle.rr_store.specs.Changes.{with_responses, with_server_sender_at, without_handle}
use Rattle.rr_store.specs.Delivering.{HasQueue, delivered as in_queue, handed_on, is_blocked_in, is_refused_in, reached}
use Rattle.rr_store.specs.Emptying.{MessagesEmptied, PartsEmptied}
use Rattle.rr_store.specs.Ending.{IsAskedPlace, IsLoanEnded, found_under}
use Rattle.rr_store.specs.Kinds.{stage_kind}
use Rattle.rr_store.specs.Loaning.{with_messages}
use Rattle.rr_store.specs.Order.{IsRising}
use Rattle.rr_store.specs.Parts.{ServerPart, Parts, Sender}
use Rattle.rr_store.specs.Ports.{server_part}
use Rattle.rr_store.specs.Reaching.{IsCore}
use Rattle.rr_store.specs.Releasing.{IsHandleGone, held_once_less, is_loaned_response, without_loan}
use Rattle.rr_store.specs.Sound.{HasPort, IsSoundStore, empty_hand, response_details, is_response_loan}
use Rattle.rr_store.specs.Views.{no_sender, response_at, sender_of, server_of, state_of}
use Rattle.rr_store.proofs.base.frames.Emptied.{emptied_sound, emptied_view}
use Rattle.rr_store.proofs.base.senders.Emptied.{among_emptied, responses_emptied}
use Rattle.rr_store.proofs.base.lists.Adding.{mapped}
use Rattle.rr_store.proofs.base.lists.Mapped.{position-map}
use Rattle.rr_store.proofs.base.lists.Replaced.{set_alike}
use Rattle.rr_store.proofs.base.lookups.Placed.{value_there}
use Rattle.rr_store.proofs.base.lookups.Shown.{held_within}
use Rattle.rr_store.proofs.base.senders.Owners.{First, port_of_sender, server_named, server_owner, server_receiver, servers_rise}
use Rattle.rr_store.proofs.base.senders.Stored.{stored_twice}
use Rattle.rr_store.proofs.querying.Connected.{of_kind}
use Rattle.rr_releasing.proofs.laws.response_loan.Fields.{ResponseLoanFound, response_loan_found, has_loan}
use Rattle.rr_sending.proofs.laws.response.Fields as fields
use Rattle.rr_sending.proofs.laws.response.Refusals.{has_capacity, sent_parts}
use Rattle.rr_releasing.proofs.laws.View.{gone_as, release_from}

module _ {Q QH P PH K : Type 0} (p : Parts Q QH P PH K) (core : IsCore p) (n : ℕ) (place : Place) (entry : HandleEntry)
    (at : fin_map.get p.table.entries n ≡ Some (table_entry place entry)) (kind : kind_at (state_of p) n ≡ Some Kind.ResponseMut)
    (action : K → ℕ → ℕ → BackpressureAction) where
  value : value_at p.table n ≡ Some entry
  value = value_there p.table n place entry at

  kind_is : stage_kind entry.stage ≡ Kind.ResponseMut
  kind_is = of_kind p (state_of p) n n refl refl Kind.ResponseMut (λ e. cc) (λ e. cc) kind entry value

  -- a response that can be sent is on loan
  pub loan_asked : IsSomeAnd (handle_at (state_of p) n) (λ handle. is_loaned_response handle ≡ true)
  loan_asked = fields.loaned_kind (state_of p) n kind

  found : ResponseLoanFound p n entry
  found = response_loan_found p core.sound (state_of p) n n refl refl loan_asked entry value

  server : First (λ (s : ServerPart K). s.sender) (λ (s : ServerPart K). s.sender == entry.sender) p.servers entry.sender
  server =
      port_of_sender (λ (s : ServerPart K). s.sender) p.servers entry.sender
      ((core.sound.have_ports.handles n (table_entry place entry) at).response_loan
      (ap (λ (h : HandleEntry). is_response_loan h.stage) (sym found.is) ∙ found.loan))

  -- the server's number, by which it is found
  abbrev owner : ℕ
  owner = (sender_of entry.sender p.server_senders).owner

  pub rising_asked : IsRising (λ (s : ServerPart K). s.port.id) p.servers
  rising_asked = servers_rise p empty_hand core.sound

  named : position (λ (s : ServerPart K). s.port.id == owner) p.servers ≡ Some server.index
  named = server_named p empty_hand core.sound entry.sender server

  pub found_asked : IsSome (position (λ (s : ServerPart K). s.port.id == owner) p.servers)
  found_asked = subst IsSome (sym named) refl

  abbrev m : Messages P ResponseDetails PH
  m = (sender_of entry.sender p.server_senders).messages

  abbrev overflow : Bool
  overflow = p.limits.enable_safe_overflow_for_responses

  pub sender_asked : entry.sender < length p.server_senders
  sender_asked = found.sender

  pub slot_asked : entry.slot < length (sender_of entry.sender p.server_senders).messages.held
  slot_asked = held_within (sender_of entry.sender p.server_senders).messages.held entry.slot found.slot

  module _ (details : ResponseDetails) (are : details ≡ response_details p entry.sender entry.slot) (reach : Option ℕ)
      (told : reach ≡ reached p.client_senders p.table details) where
    pub queue_asked : HasQueue (sender_of entry.sender p.server_senders).messages details.channel reach
    queue_asked = fields.queue_asked p core.sound n entry found server.index server.it server.at server.is details (sym are) reach told

    refused_by : (o : Option ℕ) → (is_blocked_in m overflow details.channel o && not (discards action server.it.port details.client))
        ≡ is_refused_in action server.it.port m overflow details o
    refused_by None = refl
    refused_by (Some receiver) = refl

    -- what is told of a refusal, by the servers that are kept
    abbrev IsRefusal : List (ServerPort K) → Bool → Type 0
    IsRefusal servers r = (i : ℕ) (s : ServerPort K) → position (λ (s : ServerPort K). s.port.id == owner) servers ≡ Some i
        → slice_get servers i ≡ Some s
        → r ≡ (is_blocked_in m overflow details.channel reach && not (discards action (server_part s).port details.client))

    refused_is : (servers : List (ServerPort K)) → map server_part servers ≡ p.servers → (r : Bool) → IsRefusal servers r
        → r ≡ is_response_refused action (state_of p) (server_of server.it) (response_at p entry.sender entry.slot)
    refused_is servers same r refusal =
        let kept = mapped server_part servers server.index server.it (ap (λ (xs : List (ServerPart K)). slice_get xs server.index) same
        ∙ server.at) in
        refusal server.index kept.0 (sym (position-map server_part (λ (s : ServerPart K). s.port.id == owner) servers)
        ∙ ap (position (λ (s : ServerPart K). s.port.id == owner)) same ∙ named) kept.1
        ∙ ap (λ (s : ServerPart K). is_blocked_in m overflow details.channel reach && not (discards action s.port details.client)) kept.2
        ∙ refused_by reach
        ∙ fields.refused_then p core.sound n entry found server.index server.it server.at server.is action details
        (sym are) reach told m refl

    -- what a question tells of it
    pub refusal_told : (servers : List (ServerPort K)) → map server_part servers ≡ p.servers → (r : Bool) → IsRefusal servers r
        → IsResponseMutAnd (state_of p) n (λ server message. r ≡ is_response_refused action (state_of p) server message)
    refusal_told servers same r refusal =
        fields.of_sent p core.sound n entry found server.index server.it server.at server.is
        (λ s j server message. r ≡ is_response_refused action s server message) value kind_is (refused_is servers same r refusal)
        (state_of p) n refl refl

    -- a refusal equals a release
    pub refused : (servers : List (ServerPort K)) → map server_part servers ≡ p.servers → (r : Bool) → IsRefusal servers r → r ≡ true
        → (t : Parts Q QH P PH K) → state_of t ≡ after_release (state_of p) n
        → IsResponseMutAnd (state_of p) n (λ server message. (is_response_refused action (state_of p) server message ≡ true)
        × (SendError.UnableToDeliver ≡ SendError.UnableToDeliver) × (state_of t ≡ after_release (state_of p) n))
    refused servers same r refusal is t gone =
        fields.of_sent p core.sound n entry found server.index server.it server.at server.is
        (λ s j server message. (is_response_refused action s server message ≡ true)
        × (SendError.UnableToDeliver ≡ SendError.UnableToDeliver) × (state_of t ≡ after_release s j)) value kind_is
        (sym (refused_is servers same r refusal) ∙ is, refl, gone) (state_of p) n refl refl

    module _ (v : Parts Q QH P PH K) (gone : v ≡ without_handle p n) where
      pub sender_still : entry.sender < length v.server_senders
      sender_still = subst (λ (v : Parts Q QH P PH K). entry.sender < length v.server_senders) (sym gone) found.sender

      pub queue_still : HasQueue (sender_of entry.sender v.server_senders).messages details.channel reach
      queue_still =
          subst (λ (v : Parts Q QH P PH K). HasQueue (sender_of entry.sender v.server_senders).messages details.channel reach) (sym gone)
          queue_asked

      pub takes_still : (0 < (sender_of entry.sender v.server_senders).messages.capacity)
          × (0 < slice_index (sender_of entry.sender v.server_senders).messages.held entry.slot)
      takes_still =
          subst (λ (v : Parts Q QH P PH K). (0 < (sender_of entry.sender v.server_senders).messages.capacity)
          × (0 < slice_index (sender_of entry.sender v.server_senders).messages.held entry.slot)) (sym gone)
          (has_capacity p core.sound n entry found server.index server.it server.at server.is, found.slot)

      module _ (s : Parts Q QH P PH K)
          (given : s ≡ with_responses v entry.sender
          (λ m. handed_on m v.limits.enable_safe_overflow_for_responses details.channel entry.slot reach)) where
        abbrev freed : Parts Q QH P PH K
        freed = with_responses (without_handle p n) entry.sender (λ m. handed_on m overflow details.channel entry.slot reach)

        s_is : s ≡ freed
        s_is = given ∙ ap (λ (v : Parts Q QH P PH K). with_responses v entry.sender
            (λ m. handed_on m v.limits.enable_safe_overflow_for_responses details.channel entry.slot reach)) gone

        -- the sender without the hold of the response's handle, with the response in its queue
        abbrev fresh : Sender P ResponseDetails PH
        fresh = with_messages (sender_of entry.sender p.server_senders) (handed_on m overflow details.channel entry.slot reach)

        -- the same in two steps, where no slot is emptied
        abbrev put : Sender P ResponseDetails PH
        put = with_messages (sender_of entry.sender p.server_senders) (in_queue m overflow details.channel entry.slot reach)

        abbrev mid : List (Sender P ResponseDetails PH)
        mid = slice_set p.server_senders entry.sender put

        abbrev held_less : Sender P ResponseDetails PH → Sender P ResponseDetails PH
        held_less l = without_loan (with_messages l (held_once_less l.messages entry.slot))

        handed_emptied : (o : Option ℕ) → MessagesEmptied (held_once_less (in_queue m overflow details.channel entry.slot o) entry.slot)
            (handed_on m overflow details.channel entry.slot o)
        handed_emptied None = among_emptied (entry.slot ∷ []) (held_once_less m entry.slot)
        handed_emptied (Some r) = among_emptied (entry.slot ∷ evicted overflow m.capacity (queue_at m r details.channel))
            (held_once_less (in_queue m overflow details.channel entry.slot (Some r)) entry.slot)

        pub loan_sender : entry.sender < length s.server_senders
        loan_sender = subst (λ (s : Parts Q QH P PH K). entry.sender < length s.server_senders) (sym s_is)
            (omega (arith, found.sender, length-set p.server_senders entry.sender fresh))

        pub loan_counted : 0 < (sender_of entry.sender s.server_senders).loans
        loan_counted = subst (λ (s : Parts Q QH P PH K). 0 < (sender_of entry.sender s.server_senders).loans) (sym s_is) (omega (
          arith,
          has_loan p core.sound n entry found server.index server.it server.at server.is,
          set_alike p.server_senders entry.sender fresh no_sender (λ l. l.loans) refl entry.sender,
        ))

        module _ (receiver : ℕ) (u : Parts Q QH P PH K) (its : receiver ≡ (sender_of entry.sender s.server_senders).receiver)
            (counted : u ≡ with_server_sender_at s entry.sender without_loan) where
          abbrev loan_ended : Parts Q QH P PH K
          loan_ended = record (without_handle p n) { server_senders = slice_set p.server_senders entry.sender (without_loan fresh) }

          receiver_is : receiver ≡ server.it.receiver
          receiver_is =
              its ∙ ap (λ (s : Parts Q QH P PH K). (sender_of entry.sender s.server_senders).receiver) s_is
              ∙ set_alike p.server_senders entry.sender fresh no_sender (λ l. l.receiver) refl entry.sender
              ∙ server_receiver p empty_hand core.sound entry.sender server

          u_is : u ≡ loan_ended
          u_is = counted ∙ ap (λ s. with_server_sender_at s entry.sender without_loan) s_is
              ∙ ap (λ ls. record (without_handle p n) { server_senders = ls })
              (stored_twice p.server_senders entry.sender fresh without_loan found.sender)

          module _ (t : Parts Q QH P PH K) (rest : t ≡ record u { table = t.table })
              (ended : (at : Option Place) × IfSome at (IsAskedPlace u.client_senders details receiver)
              × IsLoanEnded details.active_request (found_under u.table details.active_request at) u.table t.table) where
            t_is : t ≡ record loan_ended { table = t.table }
            t_is = rest ∙ ap (λ (u : Parts Q QH P PH K). record u { table = t.table }) u_is

            -- where no slot is emptied
            abbrev before : Parts Q QH P PH K
            before = record (without_handle p n) {
              table = t.table;
              server_senders = slice_set mid entry.sender (held_less (sender_of entry.sender mid));
            }

            -- what contracts see of the queues
            abbrev delivered_state : State Q QH P PH K
            delivered_state = record (state_of p) {
              responses = with_response_put (state_of p) (response_at p entry.sender entry.slot);
            }

            both : IsSoundStore before empty_hand × IsHandleGone delivered_state n server.it.port.id (state_of before)
            both =
                sent_parts p core.sound n entry found server.index server.it server.at server.is details (sym are) reach told
                mid before.server_senders t.table refl refl ended.0
                (subst (λ x. IfSome ended.0 (IsAskedPlace p.client_senders details x)) receiver_is
                (subst (λ (u : Parts Q QH P PH K). IfSome ended.0 (IsAskedPlace u.client_senders details receiver)) u_is ended.1))
                (subst (λ (u : Parts Q QH P PH K). IsLoanEnded details.active_request
                (found_under u.table details.active_request ended.0) u.table t.table) u_is ended.2)

            -- and where some may be
            abbrev after : Parts Q QH P PH K
            after = record loan_ended { table = t.table }

            emptied : PartsEmptied before after
            emptied = subst (λ ls. PartsEmptied (record (without_handle p n) { table = t.table; server_senders = ls }) after)
                (sym (stored_twice p.server_senders entry.sender put held_less found.sender))
                (responses_emptied after p.server_senders entry.sender (held_less put) (without_loan fresh)
                (record { rest = refl; messages = handed_emptied reach }))

            -- the server is as it was
            owner_is : (sender_of entry.sender t.server_senders).owner ≡ server.it.port.id
            owner_is = ap (λ (q : Parts Q QH P PH K). (sender_of entry.sender q.server_senders).owner) t_is
                ∙ set_alike p.server_senders entry.sender (without_loan fresh) no_sender (λ l. l.owner) refl entry.sender
                ∙ server_owner p empty_hand core.sound entry.sender server

            pub port_then : HasPort (λ (s : ServerPart K). s.sender) t.servers entry.sender
            port_then = subst (λ (q : Parts Q QH P PH K). HasPort (λ (s : ServerPart K). s.sender) q.servers entry.sender) (sym t_is)
                (server.index, server.it, server.at, server.is)

            pub sound_then : IsSoundStore t empty_hand
            sound_then = subst (λ q. IsSoundStore q empty_hand) (sym t_is) (emptied_sound before after emptied empty_hand both.0)

            -- contracts see the handle go
            gone_then : IsHandleGone delivered_state n (sender_of entry.sender t.server_senders).owner (state_of t)
            gone_then =
                subst (λ port. IsHandleGone delivered_state n port (state_of t)) (sym owner_is)
                (gone_as delivered_state (state_of before) (state_of t) n server.it.port.id both.1
                (ap state_of t_is ∙ emptied_view before after emptied empty_hand both.0))

            module _ (servers : List (ServerPort K)) (same : map server_part servers ≡ p.servers) (r : Bool) (refusal : IsRefusal servers r)
                (w : Parts Q QH P PH K) (left : state_of w ≡ without_unused_port (state_of t) (sender_of entry.sender
                t.server_senders).owner) where
              pub sends : r ≡ false → IsResponseMutAnd (state_of p) n (λ server message.
                  (is_response_refused action (state_of p) server message ≡ false)
                  × (state_of w ≡ after_release (record (state_of p) { responses = with_response_put (state_of p) message }) n))
              sends is =
                  fields.of_sent p core.sound n entry found server.index server.it server.at server.is
                  (λ s j server message. (is_response_refused action s server message ≡ false)
                  × (state_of w ≡ after_release (record s { responses = with_response_put s message }) j)) value kind_is (
                    sym (refused_is servers same r refusal) ∙ is,
                    left ∙ sym (release_from delivered_state (state_of t) n
                        (sender_of entry.sender t.server_senders).owner gone_then),
                  ) (state_of p) n refl refl

              pub core_then : IsSoundStore w empty_hand → r ≡ false → IsCore w
              core_then sound is = record {
                sound = sound;
                reached = sends_response_reached (state_of p) core.reached n {U = ℕ} action (Ok 0) (state_of w) (sends is);
                complete = sends_response_complete (state_of p) core.complete {U = ℕ} n action (Ok 0) (state_of w) (sends is);
              }
