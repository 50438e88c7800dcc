-- Whether a port is in use is whether its value lives or one of the counts that the core stores for it is above zero.
use Rattle.std.proofs.Common.{◌≡◌, ◌<◌, ℕ, Bool, true, false, Some, length, nat_lt, refl, sym, ap, ◌∙◌, arith}
use Rattle.std.specs.Prelude.{◌==◌, ◌&&◌, ◌||◌, slice_get}
use Rattle.std.specs.Cmp.{both_ways}
use Rattle.std.specs.List.{list_any}
use Rattle.std.specs.Option.{option_map_or}
use Rattle.std.specs.FinMap as fin_map
use Rattle.std.proofs.Math.Bool.{or-false}
use Rattle.std.proofs.lemmas.Bool.{and_from, and_left, and_parts, eq-eqb, lt-ltb, ltb-true, ne_eqb, or_parts}
use Rattle.rr_table.specs.Maps.{tally}
use Rattle.rr_table.proofs.MapLaws.{tally-at, tally-le}
use Rattle.rr_table.proofs.Members.{tally_gives}
use Rattle.rr_table.specs.TableView.{TableEntry}
use Rattle.rr_sender.specs.Senders.{borrowed_at}
use Rattle.rr_protocol.specs.Counts.{is_in_use}
use Rattle.rr_protocol.specs.Messages.{Handle, port_of}
use Rattle.rr_protocol.specs.State.{all_handles, is_client_value, is_server_value}
use Rattle.rr_store.specs.declared.handle_entry.HandleEntry.{HandleEntry}
use Rattle.rr_store.specs.declared.handle_entry.Stage.{Stage}
use Rattle.rr_store.specs.declared.handle_entry.Stage.TheVariants as stage
use Rattle.rr_store.specs.Leaving.{is_borrowing, is_client_used, is_server_used}
use Rattle.rr_store.specs.Parts.{ClientPart, Parts, ServerPart}
use Rattle.rr_store.specs.Sound.{HasPort, IsSoundStore, empty_hand, is_active_of, is_in_sender, is_of_request, is_of_response, is_pending, is_received, is_received_at, is_request_loan, is_response_loan, request_details, response_details, server_place}
use Rattle.rr_store.specs.Views.{client_of, handle_in, handle_of, sender_of, server_of, state_of}
use Rattle.rr_store.proofs.base.hands.Stages.{active_is_request, handle_uses_request, handle_uses_response, received_is_response}
use Rattle.rr_store.proofs.base.lists.Rising.{rising_unmapped}
use Rattle.rr_store.proofs.base.lists.Tallies.{and_none, tally-same}
use Rattle.rr_store.proofs.base.lookups.Looking.{list_any-map}
use Rattle.rr_store.proofs.base.views.Agreeing.{request_sender, response_sender}
use Rattle.rr_store.proofs.base.views.Counts.{answered_by, handles_counted, listed, owned}
use Rattle.rr_store.proofs.querying.Connected.{none_pass}
use Rattle.rr_store.proofs.base.senders.Connected.{server_placed}
use Rattle.rr_releasing.proofs.laws.response_loan.Place.{server_alone}
use Rattle.rr_releasing.proofs.laws.leaving.Borrowing.{any_counted, asked_alone, borrowing_gives, borrowing_none, borrowing_there, not_counted, tally-either}

module _ {Q QH P PH K : Type 0} (p : Parts Q QH P PH K) where
  -- a client that is not used has no handle
  pub client_unused : (c : ClientPart K) → is_client_used p c ≡ false
      → ((sender_of c.sender p.client_senders).loans ≡ 0) × ((sender_of c.sender p.client_senders).pendings ≡ 0)
      × ((sender channel : ℕ) → borrowed_at (sender_of sender p.server_senders).messages c.receiver channel ≡ 0)
  client_unused c unused =
      let l = sender_of c.sender p.client_senders in
      let value = or_parts c.port.has_value
      (nat_lt 0 l.loans || (nat_lt 0 l.pendings || is_borrowing p.server_senders c.receiver)) unused in
      let loans = or_parts (nat_lt 0 l.loans) (nat_lt 0 l.pendings || is_borrowing p.server_senders c.receiver) value.1 in
      let pendings = or_parts (nat_lt 0 l.pendings) (is_borrowing p.server_senders c.receiver) loans.1 in
      (not_counted l.loans loans.0, not_counted l.pendings pendings.0, borrowing_none p.server_senders c.receiver pendings.1)

  -- and a server
  pub server_unused : (s : ServerPart K) → is_server_used p s ≡ false
      → ((sender_of s.sender p.server_senders).loans ≡ 0)
      × ((sender channel : ℕ) → borrowed_at (sender_of sender p.client_senders).messages s.receiver channel ≡ 0)
  server_unused s unused =
      let l = sender_of s.sender p.server_senders in
      let value = or_parts s.port.has_value (nat_lt 0 l.loans || is_borrowing p.client_senders s.receiver) unused in
      let loans = or_parts (nat_lt 0 l.loans) (is_borrowing p.client_senders s.receiver) value.1 in
      (not_counted l.loans loans.0, borrowing_none p.client_senders s.receiver loans.1)

  -- some handle is seen that passes where some entry shows one that does
  handles_any : (test : Handle Q QH P PH → Bool) → list_any test (all_handles (state_of p))
      ≡ nat_lt 0 (tally (λ s. test (handle_of p s)) p.table.entries)
  handles_any test = any_counted test (all_handles (state_of p)) ∙ ap (nat_lt 0) (handles_counted p test)

  module _ (sound : IsSoundStore p empty_hand) where
    -- the client of a request whose sender is a connected client's
    client_of_sender : (k : ℕ) (s : TableEntry HandleEntry) → fin_map.get p.table.entries k ≡ Some s → is_of_request s.value.stage ≡ true
        → HasPort (λ (c : ClientPart K). c.sender) p.clients s.value.sender
        → (i : ℕ) × (c : ClientPart K) × (slice_get p.clients i ≡ Some c)
        × ((request_details p s.value.sender s.value.slot).client ≡ c.port.id)
    client_of_sender k s at is has =
        let own = sound.client_ports.own has.0 has.1.connected (listed (λ (c : ClientPart K). c.connected) p.clients has.0 has.1 has.2) in (
          has.0,
          has.1,
          has.2,
          sound.addressed.requests s.value.sender s.value.slot (handle_uses_request p empty_hand sound.counted k s at is)
              ∙ sym (ap (λ l. (sender_of l p.client_senders).owner) has.3) ∙ own.1,
        )

    -- and the server of a response
    server_of_sender : (k : ℕ) (s : TableEntry HandleEntry) → fin_map.get p.table.entries k ≡ Some s → is_of_response s.value.stage ≡ true
        → HasPort (λ (c : ServerPart K). c.sender) p.servers s.value.sender
        → (i : ℕ) × (c : ServerPart K) × (slice_get p.servers i ≡ Some c)
        × ((response_details p s.value.sender s.value.slot).server ≡ c.port.id)
    server_of_sender k s at is has =
        let own = sound.server_ports.own has.0 has.1.connected (listed (λ (c : ServerPart K). c.connected) p.servers has.0 has.1 has.2) in (
          has.0,
          has.1,
          has.2,
          sound.addressed.responses s.value.sender s.value.slot (handle_uses_response p empty_hand sound.counted k s at is)
              ∙ sym (ap (λ l. (sender_of l p.server_senders).owner) has.3) ∙ own.1,
        )

    -- the number of a client is not a server's
    not_served : (i : ℕ) (c : ClientPart K) → slice_get p.clients i ≡ Some c → (n : ℕ)
        → ((j : ℕ) × (s : ServerPart K) × (slice_get p.servers j ≡ Some s) × (n ≡ s.port.id)) → (n == c.port.id) ≡ false
    not_served i c at n has = ne_eqb n c.port.id (λ e. sound.have_ports.apart i has.0 c has.1 at has.2 (sym e ∙ has.3))

    -- and the other way about
    not_asked : (i : ℕ) (s : ServerPart K) → slice_get p.servers i ≡ Some s → (n : ℕ)
        → ((j : ℕ) × (c : ClientPart K) × (slice_get p.clients j ≡ Some c) × (n ≡ c.port.id)) → (n == s.port.id) ≡ false
    not_asked i s at n has = ne_eqb n s.port.id (λ e. sound.have_ports.apart has.0 i has.1 s has.2 at (sym has.3 ∙ e))

    module _ (i : ℕ) (c : ClientPart K) (at_c : slice_get p.clients i ≡ Some c) where
      -- a handle of the client is a loan, a pending response or a received response
      client_handle : (k : ℕ) (s : TableEntry HandleEntry) → fin_map.get p.table.entries k ≡ Some s → (g : Stage) → s.value.stage ≡ g
          → (port_of (handle_in p g s.value.sender s.value.slot) == c.port.id)
          ≡ ((is_request_loan g && s.value.sender == c.sender) || ((is_pending g && s.value.sender == c.sender)
          || (is_received g && (response_details p s.value.sender s.value.slot).client == c.port.id)))
      client_handle k s at stage.RequestMutUninit is =
          owned p sound i c at_c k s at (ap is_of_request is) ∙ sym (or-false (s.value.sender == c.sender))
      client_handle k s at stage.RequestMut is =
          owned p sound i c at_c k s at (ap is_of_request is) ∙ sym (or-false (s.value.sender == c.sender))
      client_handle k s at (stage.PendingResponse hint connections) is =
          owned p sound i c at_c k s at (ap is_of_request is) ∙ sym (or-false (s.value.sender == c.sender))
      client_handle k s at (stage.ActiveRequest server loans) is =
          let active = ap (is_active_of server) is ∙ eq-eqb server server refl in
          let f = server_placed p sound server (sound.inserted.active_servers k server s at active) in
          not_served i c at_c server (f.0, f.1, f.2, sym f.3)
      client_handle k s at stage.ResponseMutUninit is =
          not_served i c at_c (response_details p s.value.sender s.value.slot).server
          (server_of_sender k s at (ap is_of_response is) ((sound.have_ports.handles k s at).response_loan (ap is_response_loan is)))
      client_handle k s at stage.ResponseMut is =
          not_served i c at_c (response_details p s.value.sender s.value.slot).server
          (server_of_sender k s at (ap is_of_response is) ((sound.have_ports.handles k s at).response_loan (ap is_response_loan is)))
      client_handle k s at stage.Response is = refl

      -- whether an entry is a response that the client received
      abbrev is_received_of : TableEntry HandleEntry → Bool
      is_received_of s = is_received s.value.stage && (response_details p s.value.sender s.value.slot).client == c.port.id

      -- it received one where a sender counts one
      client_received : nat_lt 0 (tally is_received_of p.table.entries) ≡ is_borrowing p.server_senders c.receiver
      client_received = both_ways (nat_lt 0 (tally is_received_of p.table.entries)) (is_borrowing p.server_senders c.receiver)
          (λ h.
          let g = tally_gives is_received_of p.table.entries (ltb-true 0 (tally is_received_of p.table.entries) h) in
          let e = g.1.value in
          let details = response_details p e.sender e.slot in
          let parts = and_parts (is_received e.stage) (details.client == c.port.id) g.3 in
          borrowing_there p.server_senders c.receiver e.sender details.channel (omega (
            arith,
            sound.stored.borrowed_responses e.sender i details.channel c
                (response_sender p empty_hand sound.counted g.0 g.1 g.2 (received_is_response e.stage parts.0)) at_c,
            tally-at (λ (t : TableEntry HandleEntry). is_received_at p e.sender c.port.id details.channel t.value) p.table.entries g.0 g.1
                g.2 (rw parts.0 (rw (eq-eqb e.sender e.sender refl) (rw parts.1 (eq-eqb details.channel details.channel refl)))),
          )))
          (λ h.
          let b = borrowing_gives p.server_senders c.receiver h in
          let here : TableEntry HandleEntry → Bool = λ t. is_received_at p b.0 c.port.id b.1 t.value in
          lt-ltb 0 (tally is_received_of p.table.entries) (omega (
            arith,
            b.4,
            sound.stored.borrowed_responses b.0 i b.1 c b.2 at_c,
            tally-le here is_received_of p.table.entries (λ t passes.
                let d = response_details p t.value.sender t.value.slot in
                let both = and_parts (is_received t.value.stage)
                (t.value.sender == b.0 && (d.client == c.port.id && d.channel == b.1)) passes in
                let rest = and_parts (t.value.sender == b.0) (d.client == c.port.id && d.channel == b.1) both.1 in
                and_from (is_received t.value.stage) (d.client == c.port.id) both.0
                (and_parts (d.client == c.port.id) (d.channel == b.1) rest.1).0),
          )))

      -- no server has its number
      no_server_value : is_server_value (state_of p) c.port.id ≡ false
      no_server_value =
          list_any-map server_of (λ s. s.id == c.port.id && s.has_value) p.servers
          ∙ none_pass (λ (s : ServerPart K). s.port.id == c.port.id && s.port.has_value) p.servers
          (λ j s at. and_left (s.port.id == c.port.id) s.port.has_value (not_served i c at_c s.port.id (j, s, at, refl)))

      -- its value lives where it says so
      client_value_is : is_client_value (state_of p) c.port.id ≡ c.port.has_value
      client_value_is =
          list_any-map client_of (λ c. c.id == _ && c.has_value) p.clients
          ∙ asked_alone (λ (c : ClientPart K). c.port.id) (λ c. c.port.has_value) p.clients
          (rising_unmapped (λ (c : ClientPart K). c.connected) (λ c. c.port.id) p.clients sound.client_ports.rising) i c at_c

      -- some handle is the client's where one of its counts is above zero
      client_handles : list_any (λ h. port_of h == c.port.id) (all_handles (state_of p))
          ≡ (nat_lt 0 (sender_of c.sender p.client_senders).loans || (nat_lt 0 (sender_of c.sender p.client_senders).pendings
          || is_borrowing p.server_senders c.receiver))
      client_handles =
          let es = p.table.entries in
          let there = (sound.client_ports.own i c.connected (listed (λ (c : ClientPart K). c.connected) p.clients i c at_c)).0 in
          let loan : TableEntry HandleEntry → Bool = λ s. is_in_sender is_request_loan c.sender s.value in
          let pending : TableEntry HandleEntry → Bool = λ s. is_in_sender is_pending c.sender s.value in
          handles_any (λ h. port_of h == c.port.id)
          ∙ ap (nat_lt 0) (tally-same es (λ s. port_of (handle_of p s) == c.port.id) (λ s. loan s || (pending s || is_received_of s))
          (λ k s at. client_handle k s at s.value.stage refl))
          ∙ tally-either es loan (λ s. pending s || is_received_of s)
          ∙ ap (λ b. nat_lt 0 (tally loan es) || b) (tally-either es pending is_received_of)
          ∙ ap (λ n. nat_lt 0 n || (nat_lt 0 (tally pending es) || nat_lt 0 (tally is_received_of es)))
          (and_none (tally loan es) ∙ sym (sound.stored.request_loans c.sender there))
          ∙ ap (λ n. nat_lt 0 (sender_of c.sender p.client_senders).loans || (nat_lt 0 n || nat_lt 0 (tally is_received_of es)))
          (and_none (tally pending es) ∙ sym (sound.stored.pendings c.sender there))
          ∙ ap (λ b. nat_lt 0 (sender_of c.sender p.client_senders).loans || (nat_lt 0 (sender_of c.sender p.client_senders).pendings || b))
          client_received

      -- a client is in use where it is used
      pub client_in_use_is : is_in_use (state_of p) c.port.id ≡ is_client_used p c
      client_in_use_is =
          let n = c.port.id in
          let any = list_any (λ h. port_of h == n) (all_handles (state_of p)) in
          ap (λ b. b || is_server_value (state_of p) n || any) client_value_is
          ∙ ap (λ b. c.port.has_value || b || any) no_server_value
          ∙ ap (λ b. b || any) (or-false c.port.has_value)
          ∙ ap (λ b. c.port.has_value || b) client_handles

    module _ (i : ℕ) (s : ServerPart K) (at_s : slice_get p.servers i ≡ Some s) where
      -- a handle of the server is a loan or an active request
      server_handle : (k : ℕ) (t : TableEntry HandleEntry) → fin_map.get p.table.entries k ≡ Some t → (g : Stage) → t.value.stage ≡ g
          → (port_of (handle_in p g t.value.sender t.value.slot) == s.port.id)
          ≡ ((is_response_loan g && t.value.sender == s.sender) || is_active_of s.port.id g)
      server_handle k t at stage.RequestMutUninit is =
          not_asked i s at_s (request_details p t.value.sender t.value.slot).client
          (client_of_sender k t at (ap is_of_request is) ((sound.have_ports.handles k t at).request_loan (ap is_request_loan is)))
      server_handle k t at stage.RequestMut is =
          not_asked i s at_s (request_details p t.value.sender t.value.slot).client
          (client_of_sender k t at (ap is_of_request is) ((sound.have_ports.handles k t at).request_loan (ap is_request_loan is)))
      server_handle k t at (stage.PendingResponse hint connections) is =
          not_asked i s at_s (request_details p t.value.sender t.value.slot).client
          (client_of_sender k t at (ap is_of_request is) ((sound.have_ports.handles k t at).pending (ap is_pending is)))
      server_handle k t at (stage.ActiveRequest server loans) is = refl
      server_handle k t at stage.ResponseMutUninit is =
          answered_by p sound i s at_s k t at (ap is_of_response is) ∙ sym (or-false (t.value.sender == s.sender))
      server_handle k t at stage.ResponseMut is =
          answered_by p sound i s at_s k t at (ap is_of_response is) ∙ sym (or-false (t.value.sender == s.sender))
      server_handle k t at stage.Response is =
          let r = sound.numbered.received k t at (ap is_received is) in
          not_asked i s at_s (response_details p t.value.sender t.value.slot).client (r.0, r.1, r.2, sym r.3)

      -- where requests to it are counted
      server_place_is : server_place p s.port.id ≡ s.receiver
      server_place_is = ap (λ o. option_map_or (λ s. s.receiver) o p.limits.max_servers) (server_alone p empty_hand sound i s at_s)

      -- how many of a sender's requests it received
      received_from : (sender : ℕ) → sender < length p.client_senders
          → borrowed_at (sender_of sender p.client_senders).messages s.receiver 0
          ≡ tally (λ t. is_in_sender (is_active_of s.port.id) sender t.value) p.table.entries
      received_from sender within =
          ap (λ r. borrowed_at (sender_of sender p.client_senders).messages r 0) (sym server_place_is)
          ∙ sound.stored.borrowed_requests sender s.port.id within
          ∙ sym (and_none (tally (λ t. is_in_sender (is_active_of s.port.id) sender t.value) p.table.entries))

      -- whether an entry is a request that the server received
      abbrev is_active_here : TableEntry HandleEntry → Bool
      is_active_here t = is_active_of s.port.id t.value.stage

      -- it received one where a sender counts one
      server_received : nat_lt 0 (tally is_active_here p.table.entries) ≡ is_borrowing p.client_senders s.receiver
      server_received = both_ways (nat_lt 0 (tally is_active_here p.table.entries)) (is_borrowing p.client_senders s.receiver)
          (λ h.
          let g = tally_gives is_active_here p.table.entries (ltb-true 0 (tally is_active_here p.table.entries) h) in
          let e = g.1.value in
          borrowing_there p.client_senders s.receiver e.sender 0 (omega (
            arith,
            received_from e.sender (request_sender p empty_hand sound.counted g.0 g.1 g.2 (active_is_request s.port.id e.stage g.3)),
            tally-at (λ (t : TableEntry HandleEntry). is_in_sender (is_active_of s.port.id) e.sender t.value) p.table.entries g.0 g.1 g.2
                (and_from (is_active_of s.port.id e.stage) (e.sender == e.sender) g.3 (eq-eqb e.sender e.sender refl)),
          )))
          (λ h.
          let b = borrowing_gives p.client_senders s.receiver h in
          let placed = sound.server_ports.placed i s.connected (listed (λ (s : ServerPart K). s.connected) p.servers i s at_s) in
          let one = (sound.sized.client_senders b.0 b.2).borrowed_channels s.receiver placed in
          let first : b.1 ≡ 0 = omega (arith, b.3, one) in
          lt-ltb 0 (tally is_active_here p.table.entries) (omega (
            arith,
            b.4,
            ap (borrowed_at (sender_of b.0 p.client_senders).messages s.receiver) first,
            received_from b.0 b.2,
            tally-le (λ (t : TableEntry HandleEntry). is_in_sender (is_active_of s.port.id) b.0 t.value) is_active_here p.table.entries
                (λ t passes. (and_parts (is_active_of s.port.id t.value.stage) (t.value.sender == b.0) passes).0),
          )))

      -- no client has its number
      no_client_value : is_client_value (state_of p) s.port.id ≡ false
      no_client_value =
          list_any-map client_of (λ c. c.id == s.port.id && c.has_value) p.clients
          ∙ none_pass (λ (c : ClientPart K). c.port.id == s.port.id && c.port.has_value) p.clients
          (λ j c at. and_left (c.port.id == s.port.id) c.port.has_value (not_asked i s at_s c.port.id (j, c, at, refl)))

      -- its value lives where it says so
      server_value_is : is_server_value (state_of p) s.port.id ≡ s.port.has_value
      server_value_is =
          list_any-map server_of (λ c. c.id == _ && c.has_value) p.servers
          ∙ asked_alone (λ (s : ServerPart K). s.port.id) (λ s. s.port.has_value) p.servers
          (rising_unmapped (λ (s : ServerPart K). s.connected) (λ s. s.port.id) p.servers sound.server_ports.rising) i s at_s

      -- some handle is the server's where one of its counts is above zero
      server_handles : list_any (λ h. port_of h == s.port.id) (all_handles (state_of p))
          ≡ (nat_lt 0 (sender_of s.sender p.server_senders).loans || is_borrowing p.client_senders s.receiver)
      server_handles =
          let es = p.table.entries in
          let there = (sound.server_ports.own i s.connected (listed (λ (s : ServerPart K). s.connected) p.servers i s at_s)).0 in
          let loan : TableEntry HandleEntry → Bool = λ t. is_in_sender is_response_loan s.sender t.value in
          handles_any (λ h. port_of h == s.port.id)
          ∙ ap (nat_lt 0) (tally-same es (λ t. port_of (handle_of p t) == s.port.id) (λ t. loan t || is_active_here t)
          (λ k t at. server_handle k t at t.value.stage refl))
          ∙ tally-either es loan is_active_here
          ∙ ap (λ n. nat_lt 0 n || nat_lt 0 (tally is_active_here es))
          (and_none (tally loan es) ∙ sym (sound.stored.response_loans s.sender there))
          ∙ ap (λ b. nat_lt 0 (sender_of s.sender p.server_senders).loans || b) server_received

      -- a server is in use where it is used
      pub server_in_use_is : is_in_use (state_of p) s.port.id ≡ is_server_used p s
      server_in_use_is =
          let n = s.port.id in
          let any = list_any (λ h. port_of h == n) (all_handles (state_of p)) in
          ap (λ b. b || is_server_value (state_of p) n || any) no_client_value
          ∙ ap (λ b. b || any) server_value_is
          ∙ ap (λ b. s.port.has_value || b) server_handles
