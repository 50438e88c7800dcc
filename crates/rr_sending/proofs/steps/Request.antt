-- A request that can be sent comes to all connected servers, its client counts it, and it becomes a pending response.
use Rattle.std.proofs.Common.{◌≡◌, ◌≤◌, ◌<◌, ◌+◌, ◌*◌, ◌^◌, ℕ, Bool, true, false, cond, List, [], None, Some, Ok, Err, length, map, refl, sym, ap, ◌∙◌, subst, ⊎_elim, arith}
use Rattle.std.specs.Prelude.{◌==◌, ◌&&◌, not, IsSome, IsSomeAnd, count_by, slice_get, slice_index, slice_index_or, slice_set, Option}
use Rattle.std.specs.List.{list_any, position}
use Rattle.std.specs.FinMap as fin_map
use Rattle.std.proofs.lemmas.Bool.{cases_lt, le-leb, lt-leb}
use Rattle.std.proofs.lemmas.List.{length-map, length-set}
use Rattle.std.proofs.Math.Nat.{le-mul_of_pos_right}
use Rattle.rr_table.specs.TableView.{TableEntry, table_entry, value_at}
use Rattle.rr_table.specs.declared.place.Place.{Place}
use Rattle.rr_sender.specs.Senders.{uses}
use Rattle.rr_protocol.specs.Backpressure.{discards}
use Rattle.rr_protocol.specs.declared.error.RequestSendError.{RequestSendError}
use Rattle.rr_protocol.specs.declared.error.RequestSendError.TheVariants as limit
use Rattle.rr_protocol.specs.declared.error.SendError.TheVariants as send
use Rattle.rr_protocol.specs.declared.kind.Kind.{Kind}
use Rattle.rr_protocol.specs.declared.settings.BackpressureAction.{BackpressureAction}
use Rattle.rr_protocol.specs.Queries.{kind_at}
use Rattle.rr_protocol.specs.Releases.{after_release}
use Rattle.rr_protocol.specs.Sends.{SendsRequest, connections_of, request_send_refusal, with_sent_request}
use Rattle.rr_protocol.specs.State.{IsRequestMutAnd, handle_at}
use Rattle.rr_laws.proofs.CompleteCalls.{sends_request_complete}
use Rattle.rr_laws.proofs.Sending.{sends_request_reached}
use Rattle.rr_store.specs.declared.details.RequestDetails.{RequestDetails}
use Rattle.rr_store.specs.declared.handle_entry.HandleEntry.{HandleEntry}
use Rattle.rr_store.specs.declared.handle_entry.Stage.TheVariants as stage
use Rattle.rr_store.specs.declared.port.ClientPort.{ClientPort}
use Rattle.rr_store.specs.Changes.{is_closed_to, is_open_to, request_send_limit, with_client_sender_at, with_handle, with_request_queued}
use Rattle.rr_store.specs.Emptying.{PartsEmptied}
use Rattle.rr_store.specs.Order.{IsRising}
use Rattle.rr_store.specs.Parts.{ClientPart, ServerPart, Parts, Sender}
use Rattle.rr_store.specs.Ports.{client_part}
use Rattle.rr_store.specs.Reaching.{IsCore}
use Rattle.rr_store.specs.Releasing.{is_loaned_request}
use Rattle.rr_store.specs.Sending.{after_queued, pending_held, queued, request_held, server_places, with_one_sent, with_request_sent}
use Rattle.rr_store.specs.Sound.{IsSoundStore, empty_hand, is_in_sender, is_of_request, is_pending, is_request_loan}
use Rattle.rr_store.specs.Views.{handle_in, no_sender, request_at, sender_of, state_of}
use Rattle.rr_store.proofs.base.frames.Emptied.{emptied_sound, emptied_view}
use Rattle.rr_store.proofs.base.senders.Emptied.{requests_emptied}
use Rattle.rr_store.proofs.base.lists.Adding.{makes_requests, mapped, some_loans}
use Rattle.rr_store.proofs.base.lists.Mapped.{position-map}
use Rattle.rr_store.proofs.base.lists.Replaced.{set_alike}
use Rattle.rr_store.proofs.base.lists.Tallies.{tally_below}
use Rattle.rr_store.proofs.base.lookups.Asking.{countable}
use Rattle.rr_store.proofs.base.lookups.Looking.{shown}
use Rattle.rr_store.proofs.base.lookups.Placed.{value_there}
use Rattle.rr_store.proofs.base.lookups.Shown.{request_held as has_value, request_spot}
use Rattle.rr_store.proofs.base.senders.Owners.{First, client_named, clients_rise, port_of_sender}
use Rattle.rr_store.proofs.base.senders.Stored.{stored_twice}
use Rattle.rr_store.proofs.querying.Connected.{mark_within, of_kind}
use Rattle.rr_sending.proofs.laws.put.Emptied.{puts_emptied}
use Rattle.rr_sending.proofs.laws.request.Fields.{request_stage}
use Rattle.rr_sending.proofs.laws.request.Inserted.{sent_sound, taken, taken_sound, used_once}
use Rattle.rr_store.proofs.base.senders.Connected.{servers_placed}
use Rattle.rr_sending.proofs.laws.request.Refusals as refusals
use Rattle.rr_sending.proofs.laws.request.Sound as sent
use Rattle.rr_sending.proofs.laws.request.View.{sent_view}

module _ {Q QH P PH K : Type 0} (p : Parts Q QH P PH K) (core : IsCore p) (n : ℕ) (place : Place) (entry : HandleEntry)
    (at : fin_map.get p.table.entries n ≡ Some (table_entry place entry)) (kind : kind_at (state_of p) n ≡ Some Kind.RequestMut)
    (action : K → ℕ → ℕ → BackpressureAction) where
  value : value_at p.table n ≡ Some entry
  value = value_there p.table n place entry at

  stage_is : entry.stage ≡ stage.RequestMut
  stage_is = request_stage entry.stage (of_kind p (state_of p) n n refl refl Kind.RequestMut (λ e. cc) (λ e. cc) kind entry value)

  is : entry ≡ request_held entry.sender entry.slot
  is = ap (λ g. record { stage = g; sender = entry.sender; slot = entry.slot }) stage_is

  -- its sender and slot are there
  spot : (entry.sender < length p.client_senders) × (entry.slot < length (sender_of entry.sender p.client_senders).messages.held)
  spot = request_spot p empty_hand core.sound.counted n entry value (ap is_of_request stage_is)

  pub sender_asked : entry.sender < length p.client_senders
  sender_asked = spot.0

  client : First (λ (c : ClientPart K). c.sender) (λ (c : ClientPart K). c.sender == entry.sender) p.clients entry.sender
  client =
      port_of_sender (λ (c : ClientPart K). c.sender) p.clients entry.sender
      ((core.sound.have_ports.handles n (table_entry place entry) at).request_loan (ap is_request_loan stage_is))

  -- the client's number, by which it is found
  abbrev owner : ℕ
  owner = (sender_of entry.sender p.client_senders).owner

  pub rising_asked : IsRising (λ (c : ClientPart K). c.port.id) p.clients
  rising_asked = clients_rise p empty_hand core.sound

  named : position (λ (c : ClientPart K). c.port.id == owner) p.clients ≡ Some client.index
  named = client_named p empty_hand core.sound entry.sender client

  pub found_asked : IsSome (position (λ (c : ClientPart K). c.port.id == owner) p.clients)
  found_asked = subst IsSome (sym named) refl

  -- each server has a queue
  pub queues_asked : (i : ℕ) (s : ServerPart K) → slice_get p.servers i ≡ Some s
      → (s.receiver < length (sender_of entry.sender p.client_senders).messages.queues)
      × (0 < length (slice_index_or (sender_of entry.sender p.client_senders).messages.queues s.receiver []))
  queues_asked i s here =
      let placed = servers_placed p empty_hand core.sound i s here in
      let shape = core.sound.sized.client_senders entry.sender spot.0 in
      (omega (arith, placed, shape.queues), omega (arith, shape.queue_channels s.receiver placed))

  -- a request that can be sent is on loan
  pub loan_asked : IsSomeAnd (handle_at (state_of p) n) (λ handle. is_loaned_request handle ≡ true)
  loan_asked =
      subst (λ o. IsSomeAnd o (λ handle. is_loaned_request handle ≡ true)) (sym (shown p n entry value))
      (ap (λ g. is_loaned_request (handle_in p g entry.sender entry.slot)) stage_is)

  abbrev most : ℕ
  most = p.limits.max_active_requests_per_client

  abbrev pendings : ℕ
  pendings = (sender_of entry.sender p.client_senders).pendings

  abbrev is_refused : ClientPart K → Bool
  is_refused c = list_any (λ s. is_closed_to p entry.sender s && not (discards action c.port s.port.id)) p.servers

  -- the reason where the client has as many pending responses as it may, and where it has fewer
  abbrev reason : (many refused : Bool) → Option RequestSendError
  reason many refused = cond many (Some limit.ExceedsMaxActiveRequests) (cond refused (Some (limit.SendError send.UnableToDeliver)) None)

  -- what is told of the first reason against it, by the clients that are kept
  abbrev IsMany : Option RequestSendError → Type 0
  IsMany r = most ≤ pendings → r ≡ Some limit.ExceedsMaxActiveRequests

  abbrev IsFew : List (ClientPort K) → Option RequestSendError → Type 0
  IsFew clients r = (i : ℕ) (c : ClientPort K) → position (λ (c : ClientPort K). c.port.id == owner) clients ≡ Some i
      → slice_get clients i ≡ Some c → pendings < most → r ≡ reason false (is_refused (client_part c))

  limit_is : (clients : List (ClientPort K)) → map client_part clients ≡ p.clients → (r : Option RequestSendError) → IsMany r
      → IsFew clients r → r ≡ request_send_limit p action client.it entry.sender
  limit_is clients same r many few =
      let kept = mapped client_part clients client.index client.it (ap (λ (xs : List (ClientPart K)). slice_get xs client.index) same
      ∙ client.at) in
      let there = sym (position-map client_part (λ (c : ClientPart K). c.port.id == owner) clients)
      ∙ ap (position (λ (c : ClientPart K). c.port.id == owner)) same ∙ named in
      ⊎_elim
      (λ fewer. few client.index kept.0 there kept.1 fewer ∙ ap (λ c. reason false (is_refused c)) kept.2
      ∙ sym (ap (λ b. reason b (is_refused client.it)) (lt-leb most pendings fewer)))
      (λ more. many more ∙ sym (ap (λ b. reason b (is_refused client.it)) (le-leb most pendings more)))
      (cases_lt pendings most)

  -- what a question tells of it
  pub refusal_told : (clients : List (ClientPort K)) → map client_part clients ≡ p.clients → (r : Option RequestSendError) → IsMany r
      → IsFew clients r → IsRequestMutAnd (state_of p) n (λ client message. r ≡ request_send_refusal action (state_of p) client message)
  refusal_told clients same r many few =
      refusals.told p core.sound n entry.sender entry.slot (table_entry place entry) at is client.index client.it client.at client.is
      (λ s m client message. r ≡ request_send_refusal action s client message) (state_of p) n refl refl
      (limit_is clients same r many few
      ∙ sym (refusals.refusal_parts p core.sound n entry.sender entry.slot (table_entry place entry) at is client.index client.it client.at
      client.is action))

  -- a refusal equals a release
  pub refused : (clients : List (ClientPort K)) → map client_part clients ≡ p.clients → (r : Option RequestSendError) → IsMany r
      → IsFew clients r → (e : RequestSendError) → r ≡ Some e → (t : Parts Q QH P PH K) → state_of t ≡ after_release (state_of p) n
      → SendsRequest action (state_of p) n (Err e) (state_of t)
  refused clients same r many few e some t gone =
      refusals.told p core.sound n entry.sender entry.slot (table_entry place entry) at is client.index client.it client.at client.is
      (λ s m client message. (request_send_refusal action s client message ≡ Some e) × (state_of t ≡ after_release s m)) (state_of p) n
      refl refl (
        refusals.refusal_parts p core.sound n entry.sender entry.slot (table_entry place entry) at is client.index client.it client.at
            client.is action ∙ sym (limit_is clients same r many few) ∙ some,
        gone,
      )

  -- the slot can take one entry more for each server
  few_servers : length p.servers + 1 < 2 ^ 64
  few_servers = omega (
    arith,
    core.sound.server_ports.few,
    length-map p.servers (λ (s : ServerPart K). s.connected),
    countable p.limits core.sound.sized.limits_fit,
    some_loans p.limits core.sound.sized.limits_fit,
    le-mul_of_pos_right (p.limits.max_servers * 2) (makes_requests p.limits core.sound.sized.limits_fit),
  )

  pub takes_asked : (0 < (sender_of entry.sender p.client_senders).messages.capacity)
      × (0 < slice_index (sender_of entry.sender p.client_senders).messages.held entry.slot)
      × (uses (sender_of entry.sender p.client_senders).messages entry.slot + length p.servers < 2 ^ 64)
  takes_asked = (
    omega (
      arith,
      (core.sound.sized.client_senders entry.sender spot.0).capacity_is,
      makes_requests p.limits core.sound.sized.limits_fit,
    ),
    has_value p empty_hand core.sound.counted n entry value (ap is_of_request stage_is),
    omega (
      arith,
      used_once p core.sound n entry.sender entry.slot 0 (table_entry place entry) at is,
      few_servers,
    ),
  )

  pub marks_asked : (i : ℕ) (s : ServerPart K) → slice_get p.servers i ≡ Some s
      → entry.slot * p.limits.max_servers + s.receiver < length (sender_of entry.sender p.client_senders).may_answer
  marks_asked i s here =
      mark_within entry.slot (length (sender_of entry.sender p.client_senders).messages.held) p.limits.max_servers s.receiver
      (length (sender_of entry.sender p.client_senders).may_answer) spot.1 (servers_placed p empty_hand core.sound i s here)
      (core.sound.sized.marks entry.sender spot.0)

  module _ (connections : ℕ) (count : connections ≡ count_by (is_open_to p entry.sender) p.servers) (o : Parts Q QH P PH K)
      (replaced : o ≡ with_handle p n place (pending_held entry.sender entry.slot connections)) where
    -- its handle is a pending response, and all else as it was
    abbrev start : Parts Q QH P PH K
    start = with_handle p n place (pending_held entry.sender entry.slot connections)

    pub sender_kept : entry.sender < length o.client_senders
    sender_kept = subst (λ (o : Parts Q QH P PH K). entry.sender < length o.client_senders) (sym replaced) spot.0

    pub queues_kept : (i : ℕ) (s : ServerPart K) → slice_get o.servers i ≡ Some s
        → (s.receiver < length (sender_of entry.sender o.client_senders).messages.queues)
        × (0 < length (slice_index_or (sender_of entry.sender o.client_senders).messages.queues s.receiver []))
    queues_kept = subst (λ (o : Parts Q QH P PH K). (i : ℕ) (s : ServerPart K) → slice_get o.servers i ≡ Some s
        → (s.receiver < length (sender_of entry.sender o.client_senders).messages.queues)
        × (0 < length (slice_index_or (sender_of entry.sender o.client_senders).messages.queues s.receiver []))) (sym replaced) queues_asked

    pub takes_kept : (0 < (sender_of entry.sender o.client_senders).messages.capacity)
        × (0 < slice_index (sender_of entry.sender o.client_senders).messages.held entry.slot)
        × (uses (sender_of entry.sender o.client_senders).messages entry.slot + length o.servers < 2 ^ 64)
    takes_kept = subst (λ (o : Parts Q QH P PH K). (0 < (sender_of entry.sender o.client_senders).messages.capacity)
        × (0 < slice_index (sender_of entry.sender o.client_senders).messages.held entry.slot)
        × (uses (sender_of entry.sender o.client_senders).messages entry.slot + length o.servers < 2 ^ 64)) (sym replaced) takes_asked

    pub marks_kept : (i : ℕ) (s : ServerPart K) → slice_get o.servers i ≡ Some s
        → entry.slot * o.limits.max_servers + s.receiver < length (sender_of entry.sender o.client_senders).may_answer
    marks_kept = subst (λ (o : Parts Q QH P PH K). (i : ℕ) (s : ServerPart K) → slice_get o.servers i ≡ Some s
        → entry.slot * o.limits.max_servers + s.receiver < length (sender_of entry.sender o.client_senders).may_answer) (sym replaced) marks_asked

    module _ (q : Parts Q QH P PH K) (sent_out : q ≡ with_request_queued o entry.sender entry.slot) where
      -- the sender after it
      abbrev put : Sender Q RequestDetails QH
      put = after_queued p.limits.enable_safe_overflow_for_requests p.limits.max_servers entry.slot p.servers
          (sender_of entry.sender p.client_senders)

      -- and where no slot is emptied
      abbrev held : Sender Q RequestDetails QH
      held = queued p entry.slot (sender_of entry.sender p.client_senders)

      q_is : q ≡ with_request_queued start entry.sender entry.slot
      q_is = sent_out ∙ ap (λ o. with_request_queued o entry.sender entry.slot) replaced

      pub sender_still : entry.sender < length q.client_senders
      sender_still = subst (λ (q : Parts Q QH P PH K). entry.sender < length q.client_senders) (sym q_is)
          (omega (arith, spot.0, length-set p.client_senders entry.sender put))

      pub loan_counted : 0 < (sender_of entry.sender q.client_senders).loans
      loan_counted = subst (λ (q : Parts Q QH P PH K). 0 < (sender_of entry.sender q.client_senders).loans) (sym q_is) (omega (
        arith,
        sent.has_loan (taken p core.sound n entry.sender entry.slot 0 (table_entry place entry) at is) entry.sender entry.slot 0
            (taken_sound p core.sound n entry.sender entry.slot 0 (table_entry place entry) at is)
            (used_once p core.sound n entry.sender entry.slot 0 (table_entry place entry) at is),
        set_alike p.client_senders entry.sender put no_sender (λ l. l.loans) refl entry.sender,
      ))

      pub pendings_fit : (sender_of entry.sender q.client_senders).pendings + 1 < 2 ^ 64
      pendings_fit = subst (λ (q : Parts Q QH P PH K). (sender_of entry.sender q.client_senders).pendings + 1 < 2 ^ 64) (sym q_is)
          (omega (
            arith,
            core.sound.stored.pendings entry.sender spot.0,
            tally_below (λ (s : TableEntry HandleEntry). is_in_sender is_pending entry.sender s.value) p.next p.table.entries
                core.sound.numbered.fresh,
            core.sound.sized.next_fits,
            set_alike p.client_senders entry.sender put no_sender (λ l. l.pendings) refl entry.sender,
          ))

      module _ (clients : List (ClientPort K)) (same : map client_part clients ≡ p.clients) (r : Option RequestSendError) (many : IsMany r)
          (few : IsFew clients r) (none : r ≡ None)
          (t : Parts Q QH P PH K) (counted : t ≡ with_client_sender_at q entry.sender with_one_sent) where
        abbrev before : Parts Q QH P PH K
        before = with_request_sent p n entry.sender entry.slot connections place

        before_sound : IsSoundStore before empty_hand
        before_sound = sent_sound p core.sound n entry.sender entry.slot connections (table_entry place entry) at is

        abbrev after : Parts Q QH P PH K
        after = record start { client_senders = slice_set p.client_senders entry.sender (with_one_sent put) }

        after_is : t ≡ after
        after_is = counted ∙ ap (λ q. with_client_sender_at q entry.sender with_one_sent) q_is
            ∙ ap (λ ls. record start { client_senders = ls })
            (stored_twice p.client_senders entry.sender put with_one_sent spot.0)

        emptied : PartsEmptied before after
        emptied = requests_emptied after p.client_senders entry.sender (with_one_sent held) (with_one_sent put) (record {
          rest = refl;
          messages = puts_emptied p.limits.enable_safe_overflow_for_requests entry.slot
              (sender_of entry.sender p.client_senders).messages (server_places p) takes_asked.1;
        })

        count_is : connections ≡ connections_of (state_of p) (request_at p entry.sender entry.slot)
        count_is = count ∙ sym (refusals.connections_parts p core.sound n entry.sender entry.slot (table_entry place entry) at is
            client.index client.it client.at client.is)

        pub sends : SendsRequest action (state_of p) n (Ok connections) (state_of t)
        sends =
            refusals.told p core.sound n entry.sender entry.slot
            (table_entry place entry) at is client.index client.it client.at client.is
            (λ s m client message. (request_send_refusal action s client message ≡ None) × (connections ≡ connections_of s message)
            × (state_of t ≡ with_sent_request s m message)) (state_of p) n refl refl (
              refusals.refusal_parts p core.sound n entry.sender entry.slot
                  (table_entry place entry) at is client.index client.it client.at
                  client.is action ∙ sym (limit_is clients same r many few) ∙ none,
              count_is,
              ap state_of after_is ∙ emptied_view before after emptied empty_hand before_sound
                  ∙ sent_view p core.sound n entry.sender entry.slot connections (table_entry place entry) at is count_is,
            )

        pub core_then : IsCore t
        core_then = record {
          sound = subst (λ q. IsSoundStore q empty_hand) (sym after_is) (emptied_sound before after emptied empty_hand before_sound);
          reached = sends_request_reached (state_of p) core.reached n action (Ok connections) (state_of t) sends;
          complete = sends_request_complete (state_of p) core.complete n action (Ok connections) (state_of t) sends;
        }
