-- What is true of a core stays true as a server is created.
use Rattle.std.proofs.Common.{[], ◌∷◌, ◌≡◌, ◌≢◌, ◌<◌, ◌+◌, ◌*◌, ◌^◌, ℕ, ◌≤◌, Bool, true, false, cond, Option, None, Some, find, length, map, get_or, refl, sym, ap, ◌∙◌, subst, arith}
use Rattle.std.specs.Prelude.{◌==◌, ◌&&◌, slice_get}
use Rattle.std.specs.Option.{option_map_or, option_or}
use Rattle.std.specs.FinMap as fin_map
use Rattle.std.proofs.lemmas.List.{length-append}
use Rattle.std.proofs.lemmas.Bool.{eqb-true, eq-eqb, and_parts}
use Rattle.rr_table.specs.Maps.{tally}
use Rattle.rr_table.specs.TableView.{TableEntry}
use Rattle.rr_sender.specs.Senders.{Messages, times, queue_at, borrowed_at}
use Rattle.rr_protocol.specs.declared.settings.ServerSettings.{ServerSettings}
use Rattle.rr_protocol.specs.Limits.{worst_case_requests, max_loaned_responses}
use Rattle.rr_store.specs.declared.handle_entry.HandleEntry.{HandleEntry}
use Rattle.rr_store.specs.declared.handle_entry.Stage.{Stage}
use Rattle.rr_store.specs.declared.handle_entry.Stage.TheVariants as stage
use Rattle.rr_store.specs.declared.details.ResponseDetails.{ResponseDetails}
use Rattle.rr_store.specs.Parts.{Parts, ServerPart, Sender, ClientPart}
use Rattle.rr_store.specs.Views.{no_response, sender_of}
use Rattle.rr_store.specs.Sound.{IsSoundStore, IsCounted, IsHeldOnce, IsNumbered, IsAddressed, IsPlaced, IsStored, IsSized, IsVacated, IsShaped, empty_hand, handles, is_in_sender, is_of_response, is_active_of, is_response_loan, is_received, has_request_at, is_received_at, response_details, response_uses, server_place, place_at, HavePorts}
use Rattle.rr_store.specs.Creating.{IsNew, Site, new_server, server_port, new_server_sender, with_server_part}
use Rattle.rr_store.proofs.base.lists.Found.{find_last}
use Rattle.rr_creating.proofs.laws.NewSenders.{IsPut, LooksLike, apart_added, count_added, each_added, each_other, looks_like, new_borrowed, new_slots, none_in, row_stays, rows_added, same_place, same_sender, vacant_added}
use Rattle.rr_creating.proofs.laws.Sites.{IsSited, response_elsewhere}
use Rattle.rr_creating.proofs.laws.NewPort.{port_added, port_stays, later_next, new_shaped, left_added}
use Rattle.rr_store.proofs.base.hands.Stages.{response_loan_is_response, received_is_response, handle_uses_response}
use Rattle.rr_store.proofs.base.lists.Tallies.{and_none, tally-never, tally-same, snoc_cases, snoc_keeps}
use Rattle.rr_store.proofs.base.lists.Adding.{given_before}
use Rattle.rr_store.proofs.base.views.Counts.{listed}

module _ {Q QH P PH K : Type 0} (p : Parts Q QH P PH K) (settings : ServerSettings K) (receiver : ℕ) (m : Messages P ResponseDetails PH)
    (site : Site P ResponseDetails PH)
    (sound : IsSoundStore p empty_hand)
    (sited : IsSited (map (λ (s : ServerPart K). s.connected) p.servers) p.left_servers p.server_senders p.client_senders p.table.rows
    (server_port p settings).pool_size (new_server_sender p site.row receiver m) site)
    (new : IsNew (server_port p settings).pool_size settings.initial_max_slice_len p.limits.max_clients
    (worst_case_requests p.limits) p.limits.max_response_buffer_size no_response m)
    (inside : receiver < p.limits.max_servers)
    (vacant : (i : ℕ) (s : ServerPart K) → slice_get p.servers i ≡ Some s → s.receiver ≢ receiver)
    (few : length p.servers < p.limits.max_servers)
    (left : p.next < 2 ^ 62)
    (can_leave : length p.servers + 1 + length p.left_servers ≤ p.server_room) where
  abbrev after : Parts Q QH P PH K
  after = with_server_part p settings receiver site

  abbrev last_server : ServerPart K
  last_server = new_server p settings site.sender receiver

  abbrev last : Sender P ResponseDetails PH
  last = new_server_sender p site.row receiver m

  put : IsPut site.sender last p.server_senders site.senders
  put = sited.put

  like : LooksLike p.server_senders after.server_senders
  like = looks_like put new

  -- a server is sent to where it was, or is the new one, which was not sent to before
  place_cases : {Z : Type 0} (server : ℕ) → (server_place after server ≡ server_place p server → Z)
      → (server ≡ p.next → server_place after server ≡ receiver → server_place p server ≡ p.limits.max_servers → Z) → Z
  place_cases {Z} server same fresh = go (find (λ s. s.port.id == server) p.servers) refl (p.next == server) refl
    where
      to : Option (ServerPart K) → ℕ
      to o = option_map_or (λ s. s.receiver) o p.limits.max_servers

      or_last : Option (ServerPart K) → Bool → Option (ServerPart K)
      or_last o b = option_or o (cond b (Some last_server) None)

      shown : server_place after server ≡ to (or_last (find (λ s. s.port.id == server) p.servers) (p.next == server))
      shown = ap to (find_last (λ s. s.port.id == server) p.servers last_server)

      go : (o : Option (ServerPart K)) → find (λ s. s.port.id == server) p.servers ≡ o → (b : Bool) → (p.next == server) ≡ b → Z
      go (Some s) e b f = same (shown ∙ ap (λ o. to (or_last o (p.next == server))) e ∙ sym (ap to e))
      go None e true f =
          fresh (sym (eqb-true p.next server f)) (shown ∙ ap (λ o. to (or_last o (p.next == server))) e ∙ ap (λ b. to (or_last None b)) f)
          (ap to e)
      go None e false f =
          same (shown ∙ ap (λ o. to (or_last o (p.next == server))) e ∙ ap (λ b. to (or_last None b)) f ∙ sym (ap to e))

  -- no handle is an active request of a server that isn't sent to
  none_active : (server : ℕ) → server_place p server ≡ p.limits.max_servers → (k : ℕ) (s : TableEntry HandleEntry)
      → fin_map.get p.table.entries k ≡ Some s
      → is_active_of server s.value.stage ≡ true → ⊥
  none_active server far k s at is = omega (arith, far, sound.inserted.active_servers k server s at is)

  -- the receiver of a server that has a handle is as before
  active_kept : (k server : ℕ) (s : TableEntry HandleEntry) → fin_map.get p.table.entries k ≡ Some s → is_active_of server s.value.stage
      ≡ true
      → server_place after server ≡ server_place p server
  active_kept k server s at is = place_cases server (λ e. e) (λ e f far. absurd (none_active server far k s at is))

  counted : IsCounted after empty_hand
  counted = record { requests = sound.counted.requests; responses = λ l i. like.held l i ∙ sound.counted.responses l i }

  held_once : IsHeldOnce after empty_hand
  held_once = record {
    loans = sound.held_once.loans;
    servers = λ l i server. place_cases server
        (λ e. omega (arith, sound.held_once.servers l i server, ap (λ n. times i (queue_at (sender_of l p.client_senders).messages n 0)) e))
        (λ is e far. omega (
          arith,
          ap (λ n. times i (queue_at (sender_of l p.client_senders).messages n 0)) e,
          ap (times i) (sound.vacated.of_servers l receiver 0 vacant).0,
          tally-never p.table.entries (λ s. has_request_at l i s && is_active_of server s.value.stage)
              (λ k s at t. none_active server far k s at (and_parts (has_request_at l i s) _ t).1),
        ));
    responses = λ l i. omega (arith, like.used l i, sound.held_once.responses l i);
  }

  -- the details of a used response is as before
  details_kept : (l i : ℕ) → 0 < response_uses p l i → response_details after l i ≡ response_details p l i
  details_kept l i some = like.noted l i no_response some

  used_before : (l i : ℕ) → 0 < response_uses after l i → 0 < response_uses p l i
  used_before l i h = omega (arith, h, like.used l i)

  number_kept : (l i : ℕ) → 0 < response_uses p l i → (response_details after l i).number ≡ (response_details p l i).number
  number_kept l i some = ap (λ (n : ResponseDetails). n.number) (details_kept l i some)

  numbered : IsNumbered after
  numbered =
      let n = sound.numbered in
      record {
        fresh = λ k h. n.fresh k (omega arith);
        requests = n.requests;
        pendings = n.pendings;
        responses = λ k s at is. n.responses k s at is ∙ sym
            (number_kept s.value.sender s.value.slot (handle_uses_response p empty_hand sound.counted k s at is));
        requests_below = λ l i h. omega (arith, n.requests_below l i h);
        responses_below = λ l i h. omega (arith, number_kept l i (used_before l i h), n.responses_below l i (used_before l i h));
        requests_apart = n.requests_apart;
        responses_apart = λ l i k j h g e. n.responses_apart l i k j (used_before l i h) (used_before k j g)
            (sym (number_kept l i (used_before l i h)) ∙ e ∙ number_kept k j (used_before k j g));
        kinds_apart = λ l i k j h g e. n.kinds_apart l i k j h (used_before k j g) (e ∙ number_kept k j (used_before k j g));
        actives_apart = λ k server l i s at is. (
          (n.actives_apart k server l i s at is).0,
          (λ h e. (n.actives_apart k server l i s at is).1 (used_before l i h) (sym (number_kept l i (used_before l i h)) ∙ e)),
        );
        received = λ k s at is.
            let r = n.received k s at is in
            let details = details_kept s.value.sender s.value.slot (handle_uses_response p empty_hand sound.counted k s at
            (received_is_response s.value.stage is)) in
            (r.0, r.1, r.2, r.3 ∙ sym (ap (λ (n : ResponseDetails). n.client) details));
        answering = λ l i k server loans s u at is f.
            let details = details_kept l i (used_before l i u) in
            let a = n.answering l i k server loans s (used_before l i u) at is
            (sym (ap (λ (n : ResponseDetails). n.active_request) details) ∙ f) in (a.0 ∙ sym (ap (λ (n : ResponseDetails). n.request) details), ap (λ (n : ResponseDetails). n.server) details ∙ a.1);
      }

  addressed : IsAddressed after
  addressed = record {
    requests = sound.addressed.requests;
    responses = λ l i h. ap (λ (n : ResponseDetails). n.server) (details_kept l i (used_before l i h))
        ∙ sound.addressed.responses l i (used_before l i h) ∙ sym (like.owned l i (used_before l i h));
    clients_below = λ l i h. omega (
      arith,
      ap (λ (n : ResponseDetails). n.client) (details_kept l i (used_before l i h)),
      sound.addressed.clients_below l i (used_before l i h),
    );
    actives_below = λ l i h. omega (
      arith,
      ap (λ (n : ResponseDetails). n.active_request) (details_kept l i (used_before l i h)),
      sound.addressed.actives_below l i (used_before l i h),
    );
    answered_below = λ l i h. omega (
      arith,
      ap (λ (n : ResponseDetails). n.request) (details_kept l i (used_before l i h)),
      sound.addressed.answered_below l i (used_before l i h),
    );
    answers = λ l i k j h g e.
        let details = details_kept l i (used_before l i h) in
        let a = sound.addressed.answers l i k j (used_before l i h) g (e ∙ ap (λ (n : ResponseDetails). n.request) details) in (
          ap (λ (n : ResponseDetails). n.channel) details ∙ a.0,
          ap (λ (n : ResponseDetails). n.client) details ∙ a.1,
          a.2 ∙ sym (ap (λ (n : ResponseDetails). n.client_sender) details),
        );
    client_senders = λ l i j c h at named.
        let details = details_kept l i (used_before l i h) in
        sound.addressed.client_senders l i j c (used_before l i h) at (named ∙ ap (λ (n : ResponseDetails). n.client) details)
        ∙ sym (ap (λ (n : ResponseDetails). n.client_sender) details);
    entries = λ l i channel j c at some.
        let before : 0 < times i (queue_at (sender_of l p.server_senders).messages c.receiver channel) = omega
        (arith, some, ap (times i) (like.queues l c.receiver channel)) in
        let there = sound.addressed.entries l i channel j c at before in
        let details : response_details after l i ≡ response_details p l i = ap
        (λ (x : Sender P ResponseDetails PH). get_or x.messages.details i no_response)
        (same_sender put (λ x. times i (queue_at x.messages c.receiver channel)) (ap (times i) (put.idle.queues c.receiver channel)) l
        before) in
        (ap (λ (n : ResponseDetails). n.client) details ∙ there.0, ap (λ (n : ResponseDetails). n.channel) details ∙ there.1);
  }

  -- no response is of the new sender
  elsewhere : (k : ℕ) (s : TableEntry HandleEntry) → fin_map.get p.table.entries k ≡ Some s → is_of_response s.value.stage ≡ true
      → s.value.sender ≢ site.sender
  elsewhere = response_elsewhere p sound.counted site.sender put.idle

  -- a response stands in the row of a sender that was there
  in_its_sender : (k : ℕ) (s : TableEntry HandleEntry) → fin_map.get p.table.entries k ≡ Some s → is_of_response s.value.stage ≡ true
      → sender_of s.value.sender after.server_senders ≡ sender_of s.value.sender p.server_senders
  in_its_sender k s at is = put.others s.value.sender (elsewhere k s at is)

  -- a handle's place follows from the same row
  place_kept : (k : ℕ) (s : TableEntry HandleEntry) → fin_map.get p.table.entries k ≡ Some s → (g : Stage) → s.value.stage ≡ g
      → place_at after g s.value.sender s.value.slot ≡ place_at p g s.value.sender s.value.slot
  place_kept k s at (stage.ActiveRequest server loans) e =
      ap (λ n. record {
        row = (sender_of s.value.sender p.client_senders).row;
        index = (n + 1) * length (sender_of s.value.sender p.client_senders).messages.held + s.value.slot;
      })
      (active_kept k server s at (ap (is_active_of server) e ∙ eq-eqb server server refl))
  place_kept k s at stage.ResponseMutUninit e = same_place s.value.slot (in_its_sender k s at (ap is_of_response e))
  place_kept k s at stage.ResponseMut e = same_place s.value.slot (in_its_sender k s at (ap is_of_response e))
  place_kept k s at stage.Response e = same_place s.value.slot (in_its_sender k s at (ap is_of_response e))
  place_kept k s at other e = refl

  inserted : IsPlaced after
  inserted =
      let n = sound.inserted in
      record {
        placed = λ k s at. n.placed k s at ∙ sym (place_kept k s at s.value.stage refl);
        client_rows = λ l h. row_stays sited.rowed _ _ (sited.other_rows l h) (n.client_rows l h);
        server_rows = rows_added put new (λ slots. slots) sited.rowed sited.rows_apart n.server_rows;
        client_rows_apart = n.client_rows_apart;
        server_rows_apart = apart_added put (λ x. x.row) sited.rows_apart n.server_rows_apart;
        rows_apart = λ l k h. each_other put (λ _ x. (sender_of l p.client_senders).row ≢ x.row)
            (λ k _ before. n.rows_apart l k h before) (sited.other_rows l h) k;
        active_servers = λ k server s at is. omega (arith, n.active_servers k server s at is, active_kept k server s at is);
      }

  -- a test that reads the details of a response counts as before
  noted_alike : (test : Stage → Bool) → ((g : Stage) → test g ≡ true → is_of_response g ≡ true)
      → (of : TableEntry HandleEntry → ResponseDetails → Bool)
      → tally (λ s. test s.value.stage && of s (response_details after s.value.sender s.value.slot)) p.table.entries ≡ tally
      (λ s. test s.value.stage && of s (response_details p s.value.sender s.value.slot)) p.table.entries
  noted_alike test of_response of =
      tally-same p.table.entries _ _ (λ k s at. go (test s.value.stage) k s at refl)
    where
      go : (b : Bool) (k : ℕ) (s : TableEntry HandleEntry) → fin_map.get p.table.entries k ≡ Some s → test s.value.stage ≡ b
          → (test s.value.stage && of s (response_details after s.value.sender s.value.slot)) ≡
          (test s.value.stage && of s (response_details p s.value.sender s.value.slot))
      go true k s at e = ap (λ (n : ResponseDetails). test s.value.stage && of s n)
          (details_kept s.value.sender s.value.slot (handle_uses_response p empty_hand sound.counted k s at (of_response s.value.stage e)))
      go false k s at e = rw e refl

  stored : IsStored after empty_hand
  stored =
      let n = sound.stored in
      record {
        request_loans = n.request_loans;
        pendings = n.pendings;
        response_loans = count_added put (λ x. x.loans) (λ l. handles p (is_in_sender is_response_loan l) empty_hand)
            refl (omega (
              arith,
              none_in p.table.entries site.sender is_response_loan
                  (λ k s at is. elsewhere k s at (response_loan_is_response s.value.stage is)),
            )) n.response_loans;
        active_loans = λ k server loans s at is. n.active_loans k server loans s at is
            ∙ ap (λ n. n + 0) (sym (noted_alike is_response_loan response_loan_is_response (λ s details. details.active_request == k)));
        borrowed_requests = λ l server h. place_cases server
            (λ e. ap (λ x. borrowed_at (sender_of l p.client_senders).messages x 0) e ∙ n.borrowed_requests l server h)
            (λ is e far. ap (λ x. borrowed_at (sender_of l p.client_senders).messages x 0) e
            ∙ (sound.vacated.of_servers l receiver 0 vacant).1
            ∙ sym (tally-never p.table.entries (λ s. is_active_of server s.value.stage && s.value.sender == l)
            (λ k s at t. none_active server far k s at (and_parts (is_active_of server s.value.stage) _ t).0))
            ∙ and_none _);
        borrowed_responses = λ l i channel c h at. count_added put (λ x. borrowed_at x.messages c.receiver channel)
            (λ l. handles p (is_received_at p l c.port.id channel) empty_hand) (new_borrowed m new c.receiver channel)
            (omega (
              arith,
              tally-never p.table.entries (λ s. is_received_at p site.sender c.port.id channel s.value)
                  (λ k s there t.
                  let received = and_parts (is_received s.value.stage) _ t in
                  let here = and_parts (s.value.sender == site.sender) _ received.1 in
                  elsewhere k s there (received_is_response s.value.stage received.0) (eqb-true s.value.sender site.sender here.0)),
            ))
            (λ l before. n.borrowed_responses l i channel c before at) l h
            ∙ ap (λ n. n + 0) (sym (noted_alike is_received received_is_response
            (λ s details. s.value.sender == l && (details.client == c.port.id && details.channel == channel))));
      }

  -- the new sender has its size
  sized : IsSized after
  sized =
      let n = sound.sized in
      record {
        limits_fit = n.limits_fit;
        client_senders = n.client_senders;
        server_senders = each_added put (λ _ x. IsShaped p.limits.max_clients (worst_case_requests p.limits)
            p.limits.max_response_buffer_size x.messages) n.server_senders (new_shaped new);
        marks = n.marks;
        next_fits = omega (arith, left);
        channels = n.channels;
        loans_made = λ i c at. omega (arith, n.loans_made i c at);
        most_loans = λ i s at. snoc_cases p.servers last_server i s at (λ before h. n.most_loans i s before)
            (λ e is.
            let HasMost : ServerPart K → Type 0 = λ s. s.max_loaned_responses
            ≡ max_loaned_responses p.limits s.max_loaned_responses_per_request in
            subst HasMost is refl);
        rows_fit = n.rows_fit;
      }

  vacated : IsVacated after
  vacated = record {
    of_clients = λ l there channel none. vacant_added put new there channel
        (λ l. sound.vacated.of_clients l there channel none) l;
    of_servers = λ l there channel none. sound.vacated.of_servers l there channel (λ i s e. none i s (snoc_keeps p.servers _ i s e));
    awaits_none = λ l i there server new fits. sound.vacated.awaits_none l i there server (omega (arith, new)) fits;
  }

  have_ports : HavePorts after
  have_ports =
      let n = sound.have_ports in
      record {
        handles = λ k s at. let h = n.handles k s at in record {
          request_loan = h.request_loan;
          pending = h.pending;
          response_loan = λ is. port_stays (λ (s : ServerPart K). s.sender) p.servers _ s.value.sender (h.response_loan is);
        };
        apart = λ i j c s at there. snoc_cases p.servers last_server j s there (λ before h. n.apart i j c s at before)
            (λ e is same. omega (
              arith,
              same,
              ap (λ (s : ServerPart K). s.port.id) is,
              given_before p.next p.limits.max_clients _ p.client_senders sound.client_ports i c.connected
                  (listed (λ (c : ClientPart K). c.connected) p.clients i c at),
            ));
        left_clients = n.left_clients;
        left_servers = left_added (λ (s : ServerPart K). s.connected) p.next p.limits.max_servers p.servers sound.server_ports
            last_server put new sited.ports refl refl refl (new_slots new) new.room_is refl refl inside vacant few sited.kept
            n.left_servers;
        client_room = n.client_room;
        server_room = omega (arith, can_leave, sited.kept.fewer, length-append p.servers (last_server ∷ []));
      }

  -- a server was created
  pub server_sound : IsSoundStore after empty_hand
  server_sound = record {
    counted = counted;
    held_once = held_once;
    numbered = numbered;
    addressed = addressed;
    inserted = inserted;
    stored = stored;
    sized = sized;
    vacated = vacated;
    have_ports = have_ports;
    client_ports = later_next sound.client_ports;
    server_ports = port_added (λ (s : ServerPart K). s.connected) p.next p.limits.max_servers p.servers sound.server_ports last_server put
        new sited.ports refl refl refl (new_slots new) new.room_is refl refl inside vacant few;
  }
