-- The invariant of a core's parts between two calls, and within a call while some slots are in hand.
use Rattle.std.specs.Prelude.{◌≡◌, ◌≢◌, ◌≤◌, ◌<◌, ◌^◌, ℕ, ◌+◌, ◌*◌, Bool, true, false, ◌&&◌, ◌==◌, List, [], length, map, count_by, find, Some, None, slice_get, slice_index, slice_index_or}
use Rattle.std.specs.Option.{option_map_or}
use Rattle.std.specs.FinMap as fin_map
use Rattle.rr_table.specs.Maps.{tally}
use Rattle.rr_table.specs.TableView.{TableEntry}
use Rattle.rr_table.specs.declared.place.Place.{Place}
use Rattle.rr_sender.specs.Senders.{Messages, times, all_entries, queue_at, borrowed_at, uses}
use Rattle.rr_protocol.specs.Limits.{worst_case_requests, max_loaned_responses, hub_refusal}
use Rattle.rr_store.specs.declared.handle_entry.HandleEntry.{HandleEntry}
use Rattle.rr_store.specs.declared.handle_entry.Stage.{Stage}
use Rattle.rr_store.specs.declared.handle_entry.Stage.TheVariants as stage
use Rattle.rr_store.specs.declared.details.RequestDetails.{RequestDetails}
use Rattle.rr_store.specs.declared.details.ResponseDetails.{ResponseDetails}
use Rattle.rr_store.specs.declared.port.LeftPort.{LeftPort}
use Rattle.rr_store.specs.Order.{IsRising}
use Rattle.rr_store.specs.Parts.{Connected, ClientPart, ServerPart, Sender, Parts}
use Rattle.rr_store.specs.Views.{no_request, no_response, no_server, sender_of, is_awaited}

-- the handles that a call has for itself, without their numbers
abbrev pub Hand : Type 0
Hand = List HandleEntry

abbrev pub empty_hand : Hand
empty_hand = []

-- whether a handle is of a request
abbrev pub is_of_request : Stage → Bool
is_of_request stage.RequestMutUninit = true
is_of_request stage.RequestMut = true
is_of_request (stage.PendingResponse hint connections) = true
is_of_request (stage.ActiveRequest server loans) = true
is_of_request _ = false

-- whether it is of a response
abbrev pub is_of_response : Stage → Bool
is_of_response stage.ResponseMutUninit = true
is_of_response stage.ResponseMut = true
is_of_response stage.Response = true
is_of_response _ = false

-- whether it is a request on loan
abbrev pub is_request_loan : Stage → Bool
is_request_loan stage.RequestMutUninit = true
is_request_loan stage.RequestMut = true
is_request_loan _ = false

-- whether it is a pending response
abbrev pub is_pending : Stage → Bool
is_pending (stage.PendingResponse hint connections) = true
is_pending _ = false

-- whether it is an active request of this server
abbrev pub is_active_of : ℕ → Stage → Bool
is_active_of server (stage.ActiveRequest n loans) = n == server
is_active_of server _ = false

-- whether it is a response on loan
abbrev pub is_response_loan : Stage → Bool
is_response_loan stage.ResponseMutUninit = true
is_response_loan stage.ResponseMut = true
is_response_loan _ = false

-- whether it is a response that was received
abbrev pub is_received : Stage → Bool
is_received stage.Response = true
is_received _ = false

-- whether a handle is of the request in a slot, and of the response in a slot
abbrev pub is_request_at : ℕ → ℕ → HandleEntry → Bool
is_request_at sender slot h = is_of_request h.stage && (h.sender == sender && h.slot == slot)

abbrev pub is_response_at : ℕ → ℕ → HandleEntry → Bool
is_response_at sender slot h = is_of_response h.stage && (h.sender == sender && h.slot == slot)

-- the same for an entry of the table
abbrev pub has_request_at : ℕ → ℕ → TableEntry HandleEntry → Bool
has_request_at sender slot s = is_request_at sender slot s.value

abbrev pub has_response_at : ℕ → ℕ → TableEntry HandleEntry → Bool
has_response_at sender slot s = is_response_at sender slot s.value

-- whether it is a handle of the request in a slot, by which this server has it
abbrev pub is_active_at : ℕ → ℕ → ℕ → HandleEntry → Bool
is_active_at sender slot server h = is_request_at sender slot h && is_active_of server h.stage

-- whether it is a handle of this sender and at this stage
abbrev pub is_in_sender : (Stage → Bool) → ℕ → HandleEntry → Bool
is_in_sender test sender h = test h.stage && h.sender == sender

-- this many receivers with this many channels each, and all per-slot lists as long as the number of slots
pub record IsShaped {T N H : Type 0} (receivers channels capacity : ℕ) (m : Messages T N H) : Type 0 where
  pub contents : length m.contents ≡ length m.held
  pub details : length m.details ≡ length m.held
  pub user_headers : length m.user_headers ≡ length m.held
  pub queues : length m.queues ≡ receivers
  pub borrowed : length m.borrowed ≡ receivers
  pub queue_channels : (r : ℕ) → r < receivers → length (slice_index_or m.queues r []) ≡ channels
  pub borrowed_channels : (r : ℕ) → r < receivers → length (slice_index_or m.borrowed r []) ≡ channels
  pub capacity_is : m.capacity ≡ capacity
  pub within : (r c : ℕ) → length (queue_at m r c) ≤ capacity
  pub inside : (slot : ℕ) → 0 < times slot (all_entries m.queues) → slot < length m.held

-- each port has a sender of its own, of the size that it records, which knows the port's receiver and whether its
-- value lives; and ports are in the order of their creation
pub record HasSenders {T N H K : Type 0} (next ports : ℕ) (connected : List (Connected K))
    (senders : List (Sender T N H)) : Type 0 where
  pub few : length connected ≤ ports
  pub own : (i : ℕ) (c : Connected K) → slice_get connected i ≡ Some c →
      (c.sender < length senders) × ((sender_of c.sender senders).owner ≡ c.port.id)
      × (length (sender_of c.sender senders).messages.held ≡ c.port.pool_size)
      × ((sender_of c.sender senders).messages.room ≡ c.port.initial_max_slice_len)
  pub received : (i : ℕ) (c : Connected K) → slice_get connected i ≡ Some c
      → (sender_of c.sender senders).receiver ≡ c.receiver
  pub valued : (i : ℕ) (c : Connected K) → slice_get connected i ≡ Some c
      → (sender_of c.sender senders).has_value ≡ c.port.has_value
  pub owned_once : (i j : ℕ) → i < length senders → j < length senders
      → (sender_of i senders).owner ≡ (sender_of j senders).owner → i ≡ j
  pub numbered : (i : ℕ) → i < length senders → (sender_of i senders).owner < next
  pub placed : (i : ℕ) (c : Connected K) → slice_get connected i ≡ Some c → c.receiver < ports
  pub receivers_once : (i j : ℕ) (c d : Connected K) → slice_get connected i ≡ Some c → slice_get connected j ≡ Some d
      → c.receiver ≡ d.receiver → i ≡ j
  pub rising : IsRising (λ (c : Connected K). c.port.id) connected

-- one of the ports sends from this sender
abbrev pub HasPort : {C : Type 0} → (C → ℕ) → List C → ℕ → Type 0
HasPort {C} sender ports n = (i : ℕ) × (c : C) × (slice_get ports i ≡ Some c) × (sender c ≡ n)

-- the port that loaned a message, or waits for responses to it, is connected
pub record IsPorted {K : Type 0} (clients : List (ClientPart K)) (servers : List (ServerPart K)) (entry : HandleEntry)
    : Type 0 where
  pub request_loan : is_request_loan entry.stage ≡ true → HasPort (λ c. c.sender) clients entry.sender
  pub pending : is_pending entry.stage ≡ true → HasPort (λ c. c.sender) clients entry.sender
  pub response_loan : is_response_loan entry.stage ≡ true → HasPort (λ s. s.sender) servers entry.sender

-- the sender of each port that left exists, under its number, and is no connected port's; and none is listed twice
pub record HaveLeft {T N H K : Type 0} (connected : List (Connected K)) (left : List LeftPort)
    (senders : List (Sender T N H)) : Type 0 where
  pub own : (i : ℕ) (l : LeftPort) → slice_get left i ≡ Some l
      → (l.sender < length senders) × ((sender_of l.sender senders).owner ≡ l.number)
  pub apart : (i j : ℕ) (l : LeftPort) (c : Connected K) → slice_get left i ≡ Some l → slice_get connected j ≡ Some c
      → l.sender ≢ c.sender
  pub once : (i j : ℕ) (l m : LeftPort) → slice_get left i ≡ Some l → slice_get left j ≡ Some m → l.sender ≡ m.sender
      → i ≡ j

module _ {Q QH P PH K : Type 0} (p : Parts Q QH P PH K) where
  -- the details of a request, and of a response
  abbrev pub request_details : ℕ → ℕ → RequestDetails
  request_details sender slot = slice_index_or (sender_of sender p.client_senders).messages.details slot no_request

  abbrev pub response_details : ℕ → ℕ → ResponseDetails
  response_details sender slot = slice_index_or (sender_of sender p.server_senders).messages.details slot no_response

  -- how many handles and entries have a request, and a response
  abbrev pub request_uses : ℕ → ℕ → ℕ
  request_uses sender slot = uses (sender_of sender p.client_senders).messages slot

  abbrev pub response_uses : ℕ → ℕ → ℕ
  response_uses sender slot = uses (sender_of sender p.server_senders).messages slot

  -- where a server is sent to, if it is connected; past every receiver else
  abbrev pub server_place : ℕ → ℕ
  server_place server =
      option_map_or (λ s. s.receiver) (find (λ s. s.port.id == server) p.servers) p.limits.max_servers

  -- the place in the table of a request's own handle, of a server's handle of it, and of a response's handle
  abbrev pub own_place : ℕ → ℕ → Place
  own_place sender slot = record { row = (sender_of sender p.client_senders).row; index = slot }

  abbrev pub active_place : ℕ → ℕ → ℕ → Place
  active_place sender slot server =
      record {
        row =
            (sender_of sender p.client_senders).row;
        index = (server_place server + 1) * length (sender_of sender p.client_senders).messages.held + slot;
      }

  abbrev pub response_place : ℕ → ℕ → Place
  response_place sender slot = record { row = (sender_of sender p.server_senders).row; index = slot }

  abbrev pub place_at : Stage → ℕ → ℕ → Place
  place_at stage.RequestMutUninit sender slot = own_place sender slot
  place_at stage.RequestMut sender slot = own_place sender slot
  place_at (stage.PendingResponse hint connections) sender slot = own_place sender slot
  place_at (stage.ActiveRequest server loans) sender slot = active_place sender slot server
  place_at stage.ResponseMutUninit sender slot = response_place sender slot
  place_at stage.ResponseMut sender slot = response_place sender slot
  place_at stage.Response sender slot = response_place sender slot

  abbrev pub place_of : HandleEntry → Place
  place_of entry = place_at entry.stage entry.sender entry.slot

  -- how many handles pass a test, in the table and in hand
  abbrev pub handles : (HandleEntry → Bool) → Hand → ℕ
  handles test hand = tally (λ s. test s.value) p.table.entries + count_by test hand

  -- whether it is a response on loan from this active request
  abbrev pub is_loan_from : ℕ → HandleEntry → Bool
  is_loan_from active h = is_response_loan h.stage && (response_details h.sender h.slot).active_request == active

  -- whether it is a response of this sender that this client received on this channel
  abbrev pub is_received_at : ℕ → ℕ → ℕ → HandleEntry → Bool
  is_received_at sender client channel h =
      is_received h.stage && (h.sender == sender &&
      ((response_details h.sender h.slot).client == client && (response_details h.sender h.slot).channel == channel))

  -- every slot is held as often as there are handles of it
  pub record IsCounted (hand : Hand) : Type 0 where
    pub requests : (sender slot : ℕ) → slice_index (sender_of sender p.client_senders).messages.held slot
        ≡ handles (is_request_at sender slot) hand
    pub responses : (sender slot : ℕ) → slice_index (sender_of sender p.server_senders).messages.held slot
        ≡ handles (is_response_at sender slot) hand

  -- a request that was not sent has one handle and no entry, a server has one handle or entry of a request, and a
  -- response has one of anything, but for handles in hand
  pub record IsHeldOnce (hand : Hand) : Type 0 where
    pub loans : (k : ℕ) (s : TableEntry HandleEntry) → fin_map.get p.table.entries k ≡ Some s
        → is_request_loan s.value.stage ≡ true → request_uses s.value.sender s.value.slot ≡ 1
    pub servers : (sender slot server : ℕ) → times slot
        (queue_at (sender_of sender p.client_senders).messages (server_place server) 0) + handles
        (is_active_at sender slot server) hand ≤ 1
    pub responses : (sender slot : ℕ) → response_uses sender slot ≤ 1 + count_by (is_response_at sender slot) hand

  -- a handle has its message's number, an active request its own; numbers that are in use are below the next one, and
  -- each has one use; a received response's client is connected, and a response is of its active request's request
  -- and server
  pub record IsNumbered : Type 0 where
    pub fresh : (k : ℕ) → p.next ≤ k → fin_map.get p.table.entries k ≡ None
    pub requests : (k : ℕ) (s : TableEntry HandleEntry) → fin_map.get p.table.entries k ≡ Some s
        → is_request_loan s.value.stage ≡ true → k ≡ (request_details s.value.sender s.value.slot).number
    pub pendings : (k : ℕ) (s : TableEntry HandleEntry) → fin_map.get p.table.entries k ≡ Some s
        → is_pending s.value.stage ≡ true → k ≡ (request_details s.value.sender s.value.slot).number
    pub responses : (k : ℕ) (s : TableEntry HandleEntry) → fin_map.get p.table.entries k ≡ Some s
        → is_of_response s.value.stage ≡ true → k ≡ (response_details s.value.sender s.value.slot).number
    pub requests_below : (sender slot : ℕ) → 0 < request_uses sender slot
        → (request_details sender slot).number < p.next
    pub responses_below : (sender slot : ℕ) → 0 < response_uses sender slot
        → (response_details sender slot).number < p.next
    pub requests_apart : (l i m j : ℕ) → 0 < request_uses l i → 0 < request_uses m j
        → (request_details l i).number ≡ (request_details m j).number → (l ≡ m) × (i ≡ j)
    pub responses_apart : (l i m j : ℕ) → 0 < response_uses l i → 0 < response_uses m j
        → (response_details l i).number ≡ (response_details m j).number → (l ≡ m) × (i ≡ j)
    pub kinds_apart : (l i m j : ℕ) → 0 < request_uses l i → 0 < response_uses m j
        → (request_details l i).number ≢ (response_details m j).number
    pub actives_apart : (k server l i : ℕ) (s : TableEntry HandleEntry) → fin_map.get p.table.entries k ≡ Some s
        → is_active_of server s.value.stage ≡ true →
        (0 < request_uses l i → (request_details l i).number ≢ k)
        × (0 < response_uses l i → (response_details l i).number ≢ k)
    pub received : (k : ℕ) (s : TableEntry HandleEntry) → fin_map.get p.table.entries k ≡ Some s
        → is_received s.value.stage ≡ true →
        (i : ℕ) × (c : ClientPart K) × (slice_get p.clients i ≡ Some c)
        × (c.port.id ≡ (response_details s.value.sender s.value.slot).client)
    pub answering : (l i k server loans : ℕ) (s : TableEntry HandleEntry) → 0 < response_uses l i
        → fin_map.get p.table.entries k ≡ Some s → s.value.stage ≡ stage.ActiveRequest server loans
        → (response_details l i).active_request ≡ k →
        ((request_details s.value.sender s.value.slot).number ≡ (response_details l i).request)
        × ((response_details l i).server ≡ server)

  -- each message records its sender, and a response the sender of its request; and an entry is in the place that
  -- follows from it
  pub record IsAddressed : Type 0 where
    pub requests : (sender slot : ℕ) → 0 < request_uses sender slot
        → (request_details sender slot).client ≡ (sender_of sender p.client_senders).owner
    pub responses : (sender slot : ℕ) → 0 < response_uses sender slot
        → (response_details sender slot).server ≡ (sender_of sender p.server_senders).owner
    pub clients_below : (sender slot : ℕ) → 0 < response_uses sender slot
        → (response_details sender slot).client < p.next
    pub actives_below : (sender slot : ℕ) → 0 < response_uses sender slot
        → (response_details sender slot).active_request < p.next
    pub answered_below : (sender slot : ℕ) → 0 < response_uses sender slot
        → (response_details sender slot).request < p.next
    pub answers : (sender slot m j : ℕ) → 0 < response_uses sender slot → 0 < request_uses m j
        → (request_details m j).number ≡ (response_details sender slot).request →
        ((response_details sender slot).channel ≡ j)
        × ((response_details sender slot).client ≡ (sender_of m p.client_senders).owner)
        × (m ≡ (response_details sender slot).client_sender)
    pub client_senders : (sender slot i : ℕ) (c : ClientPart K) → 0 < response_uses sender slot
        → slice_get p.clients i ≡ Some c → c.port.id ≡ (response_details sender slot).client
        → c.sender ≡ (response_details sender slot).client_sender
    pub entries : (sender slot channel i : ℕ) (c : ClientPart K) → slice_get p.clients i ≡ Some c
        → 0 < times slot (queue_at (sender_of sender p.server_senders).messages c.receiver channel) →
        ((response_details sender slot).client ≡ c.port.id) × ((response_details sender slot).channel ≡ channel)

  -- each handle's place in the table follows from its message
  pub record IsPlaced : Type 0 where
    pub placed : (k : ℕ) (s : TableEntry HandleEntry) → fin_map.get p.table.entries k ≡ Some s
        → s.place ≡ place_of s.value
    pub client_rows : (sender : ℕ) → sender < length p.client_senders
        → ((sender_of sender p.client_senders).row < length p.table.rows)
        × (slice_index p.table.rows (sender_of sender p.client_senders).row
        ≡ (p.limits.max_servers + 1) * length (sender_of sender p.client_senders).messages.held)
    pub server_rows : (sender : ℕ) → sender < length p.server_senders
        → ((sender_of sender p.server_senders).row < length p.table.rows)
        × (slice_index p.table.rows (sender_of sender p.server_senders).row
        ≡ length (sender_of sender p.server_senders).messages.held)
    pub client_rows_apart : (l m : ℕ) → l < length p.client_senders → m < length p.client_senders
        → (sender_of l p.client_senders).row ≡ (sender_of m p.client_senders).row → l ≡ m
    pub server_rows_apart : (l m : ℕ) → l < length p.server_senders → m < length p.server_senders
        → (sender_of l p.server_senders).row ≡ (sender_of m p.server_senders).row → l ≡ m
    pub rows_apart : (l m : ℕ) → l < length p.client_senders → m < length p.server_senders
        → (sender_of l p.client_senders).row ≢ (sender_of m p.server_senders).row
    pub active_servers : (k server : ℕ) (s : TableEntry HandleEntry) → fin_map.get p.table.entries k ≡ Some s
        → is_active_of server s.value.stage ≡ true → server_place server < p.limits.max_servers

  -- the stored counts are the actual ones
  pub record IsStored (hand : Hand) : Type 0 where
    pub request_loans : (sender : ℕ) → sender < length p.client_senders
        → (sender_of sender p.client_senders).loans ≡ handles (is_in_sender is_request_loan sender) hand
    pub pendings : (sender : ℕ) → sender < length p.client_senders
        → (sender_of sender p.client_senders).pendings ≡ handles (is_in_sender is_pending sender) hand
    pub response_loans : (sender : ℕ) → sender < length p.server_senders
        → (sender_of sender p.server_senders).loans ≡ handles (is_in_sender is_response_loan sender) hand
    pub active_loans : (k server loans : ℕ) (s : TableEntry HandleEntry) → fin_map.get p.table.entries k ≡ Some s
        → s.value.stage ≡ stage.ActiveRequest server loans → loans ≡ handles (is_loan_from k) hand
    pub borrowed_requests : (sender server : ℕ) → sender < length p.client_senders
        → borrowed_at (sender_of sender p.client_senders).messages (server_place server) 0
        ≡ handles (is_in_sender (is_active_of server) sender) hand
    pub borrowed_responses : (sender i channel : ℕ) (c : ClientPart K) → sender < length p.server_senders
        → slice_get p.clients i ≡ Some c →
        borrowed_at (sender_of sender p.server_senders).messages c.receiver channel
        ≡ handles (is_received_at sender c.port.id channel) hand

  -- every sender has its size, and every server knows how many responses it may have on loan in all
  pub record IsSized : Type 0 where
    pub limits_fit : hub_refusal p.limits ≡ None
    pub client_senders : (sender : ℕ) → sender < length p.client_senders
        → IsShaped p.limits.max_servers 1 p.limits.max_active_requests_per_client
        (sender_of sender p.client_senders).messages
    pub server_senders : (sender : ℕ) → sender < length p.server_senders
        → IsShaped p.limits.max_clients (worst_case_requests p.limits) p.limits.max_response_buffer_size
        (sender_of sender p.server_senders).messages
    pub marks : (sender : ℕ) → sender < length p.client_senders
        → length (sender_of sender p.client_senders).may_answer
        ≡ length (sender_of sender p.client_senders).messages.held * p.limits.max_servers
    pub next_fits : p.next ≤ 2 ^ 62
    pub channels : (sender : ℕ) → sender < length p.client_senders
        → length (sender_of sender p.client_senders).messages.held ≤ worst_case_requests p.limits
    pub loans_made : (i : ℕ) (c : ClientPart K) → slice_get p.clients i ≡ Some c → c.loans_made ≤ p.next
    pub most_loans : (i : ℕ) (s : ServerPart K) → slice_get p.servers i ≡ Some s →
        s.max_loaned_responses ≡ max_loaned_responses p.limits s.max_loaned_responses_per_request
    pub rows_fit : (sender : ℕ) → sender < length p.client_senders
        → (p.limits.max_servers + 1) * length (sender_of sender p.client_senders).messages.held < 2 ^ 64

  -- nothing waits, and nothing was received, at a receiver that no port has; and no server that is still to come may
  -- answer
  pub record IsVacated : Type 0 where
    pub of_clients : (sender receiver channel : ℕ)
        → ((i : ℕ) (c : ClientPart K) → slice_get p.clients i ≡ Some c → c.receiver ≢ receiver) →
        (queue_at (sender_of sender p.server_senders).messages receiver channel ≡ [])
        × (borrowed_at (sender_of sender p.server_senders).messages receiver channel ≡ 0)
    pub of_servers : (sender receiver channel : ℕ)
        → ((i : ℕ) (s : ServerPart K) → slice_get p.servers i ≡ Some s → s.receiver ≢ receiver) →
        (queue_at (sender_of sender p.client_senders).messages receiver channel ≡ [])
        × (borrowed_at (sender_of sender p.client_senders).messages receiver channel ≡ 0)
    pub awaits_none : (sender slot receiver server : ℕ) → p.next ≤ server → server < no_server
        → is_awaited p sender slot receiver server ≡ false

  -- the ports of all handles are connected; no client has a server's number; and the senders of ports that left are
  -- known, and there is room for those that still leave
  pub record HavePorts : Type 0 where
    pub handles : (k : ℕ) (s : TableEntry HandleEntry) → fin_map.get p.table.entries k ≡ Some s
        → IsPorted p.clients p.servers s.value
    pub apart : (i j : ℕ) (c : ClientPart K) (s : ServerPart K) → slice_get p.clients i ≡ Some c
        → slice_get p.servers j ≡ Some s → c.port.id ≢ s.port.id
    pub left_clients : HaveLeft (map (λ c. c.connected) p.clients) p.left_clients p.client_senders
    pub left_servers : HaveLeft (map (λ s. s.connected) p.servers) p.left_servers p.server_senders
    pub client_room : length p.clients + length p.left_clients ≤ p.client_room
    pub server_room : length p.servers + length p.left_servers ≤ p.server_room

-- all of it
pub record IsSoundStore {Q QH P PH K : Type 0} (p : Parts Q QH P PH K) (hand : Hand) : Type 0 where
  pub counted : IsCounted p hand
  pub held_once : IsHeldOnce p hand
  pub numbered : IsNumbered p
  pub addressed : IsAddressed p
  pub inserted : IsPlaced p
  pub stored : IsStored p hand
  pub sized : IsSized p
  pub vacated : IsVacated p
  pub have_ports : HavePorts p
  pub client_ports : HasSenders p.next p.limits.max_clients (map (λ c. c.connected) p.clients) p.client_senders
  pub server_ports : HasSenders p.next p.limits.max_servers (map (λ s. s.connected) p.servers) p.server_senders
