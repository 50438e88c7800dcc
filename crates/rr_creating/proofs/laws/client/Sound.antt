-- What is true of a core stays true as a client is created.
use Rattle.std.proofs.Common.{[], ◌∷◌, ◌≡◌, ◌≢◌, ◌<◌, ◌≤◌, ◌+◌, ◌*◌, ◌^◌, ℕ, Bool, true, Some, length, map, refl, sym, ap, ◌∙◌, arith}
use Rattle.std.specs.Prelude.{◌==◌, slice_get}
use Rattle.std.specs.FinMap as fin_map
use Rattle.std.proofs.lemmas.Bool.{eqb-true, and_parts, ne_eqb}
use Rattle.std.proofs.lemmas.List.{length-append, length-replicate}
use Rattle.rr_table.specs.TableView.{TableEntry}
use Rattle.rr_sender.specs.Senders.{Messages, times, queue_at, borrowed_at}
use Rattle.rr_protocol.specs.declared.settings.ClientSettings.{ClientSettings}
use Rattle.rr_store.specs.declared.handle_entry.HandleEntry.{HandleEntry}
use Rattle.rr_store.specs.declared.handle_entry.Stage.{Stage}
use Rattle.rr_store.specs.declared.handle_entry.Stage.TheVariants as stage
use Rattle.rr_store.specs.declared.details.RequestDetails.{RequestDetails}
use Rattle.rr_store.specs.Parts.{Parts, ClientPart, Sender, ServerPart}
use Rattle.rr_store.specs.Views.{is_marked, no_request, sender_of, no_server}
use Rattle.rr_store.specs.Sound.{IsSoundStore, IsCounted, IsNumbered, IsAddressed, IsPlaced, IsStored, IsSized, IsVacated, IsShaped, empty_hand, handles, is_in_sender, is_of_request, is_request_loan, is_pending, is_active_of, is_received, is_received_at, request_details, response_details, request_uses, server_place, place_at, HavePorts}
use Rattle.rr_store.specs.Creating.{IsNew, Site, client_row_len, new_client, client_port, new_client_sender, with_client_part}
use Rattle.rr_creating.proofs.laws.NewSenders.{IsPut, LooksLike, apart_added, count_added, each_added, each_other, looks_like, new_borrowed, new_slots, none_in, row_stays, rows_added, same_everywhere, same_place, sender_cases, vacant_added}
use Rattle.rr_creating.proofs.laws.Sites.{IsSited, request_elsewhere}
use Rattle.rr_store.proofs.base.lists.Adding.{pool_fits, makes_channels, given_before}
use Rattle.rr_creating.proofs.laws.NewPort.{port_added, port_stays, later_next, new_shaped, left_added}
use Rattle.rr_protocol.specs.Limits.{worst_case_requests}
use Rattle.rr_store.proofs.base.hands.Stages.{loan_is_request, pending_is_request, active_is_request, received_is_response, handle_uses_request, handle_uses_response}
use Rattle.rr_store.proofs.base.lists.Tallies.{and_none, tally-never, snoc_cases, snoc_keeps}
use Rattle.rr_store.proofs.base.views.Counts.{listed}

module _ {Q QH P PH K : Type 0} (p : Parts Q QH P PH K) (settings : ClientSettings K) (receiver : ℕ) (m : Messages Q RequestDetails QH)
    (site : Site Q RequestDetails QH)
    (sound : IsSoundStore p empty_hand)
    (sited : IsSited (map (λ (c : ClientPart K). c.connected) p.clients) p.left_clients p.client_senders p.server_senders p.table.rows
    (client_row_len p settings) (new_client_sender p settings site.row receiver m) site)
    (new : IsNew (client_port p settings).pool_size settings.initial_max_slice_len p.limits.max_servers 1
    p.limits.max_active_requests_per_client no_request m)
    (inside : receiver < p.limits.max_clients)
    (vacant : (i : ℕ) (c : ClientPart K) → slice_get p.clients i ≡ Some c → c.receiver ≢ receiver)
    (few : length p.clients < p.limits.max_clients)
    (left : p.next < 2 ^ 62)
    (fits : client_row_len p settings < 2 ^ 64)
    (can_leave : length p.clients + 1 + length p.left_clients ≤ p.client_room) where
  abbrev after : Parts Q QH P PH K
  after = with_client_part p settings receiver site

  abbrev last : Sender Q RequestDetails QH
  last = new_client_sender p settings site.row receiver m

  -- the client that sends from it
  abbrev client : ClientPart K
  client = new_client p settings site.sender receiver

  put : IsPut site.sender last p.client_senders site.senders
  put = sited.put

  like : LooksLike p.client_senders after.client_senders
  like = looks_like put new

  -- the details of a used request is as before
  details_kept : (l i : ℕ) → 0 < request_uses p l i → request_details after l i ≡ request_details p l i
  details_kept l i some = like.noted l i no_request some

  used_before : (l i : ℕ) → 0 < request_uses after l i → 0 < request_uses p l i
  used_before l i h = omega (arith, h, like.used l i)

  number_kept : (l i : ℕ) → 0 < request_uses p l i → (request_details after l i).number ≡ (request_details p l i).number
  number_kept l i some = ap (λ (n : RequestDetails). n.number) (details_kept l i some)

  counted : IsCounted after empty_hand
  counted = record { requests = λ l i. like.held l i ∙ sound.counted.requests l i; responses = sound.counted.responses }

  numbered : IsNumbered after
  numbered =
      let n = sound.numbered in
      record {
        fresh = λ k h. n.fresh k (omega arith);
        requests = λ k s at is. n.requests k s at is ∙ sym (number_kept s.value.sender s.value.slot
            (handle_uses_request p empty_hand sound.counted k s at (loan_is_request s.value.stage is)));
        pendings = λ k s at is. n.pendings k s at is ∙ sym (number_kept s.value.sender s.value.slot
            (handle_uses_request p empty_hand sound.counted k s at (pending_is_request s.value.stage is)));
        responses = n.responses;
        requests_below = λ l i h. omega (arith, number_kept l i (used_before l i h), n.requests_below l i (used_before l i h));
        responses_below = λ l i h. omega (arith, n.responses_below l i h);
        requests_apart = λ l i k j h g e. n.requests_apart l i k j (used_before l i h) (used_before k j g)
            (sym (number_kept l i (used_before l i h)) ∙ e ∙ number_kept k j (used_before k j g));
        responses_apart = n.responses_apart;
        kinds_apart = λ l i k j h g e. n.kinds_apart l i k j (used_before l i h) g (sym (number_kept l i (used_before l i h)) ∙ e);
        actives_apart = λ k server l i s at is. (
          (λ h e. (n.actives_apart k server l i s at is).0 (used_before l i h)
              (sym (number_kept l i (used_before l i h)) ∙ e)),
          (n.actives_apart k server l i s at is).1,
        );
        received = λ k s at is. let r = n.received k s at is in (r.0, r.1, snoc_keeps p.clients _ r.0 r.1 r.2, r.3);
        answering = λ l i k server loans s u at is f.
            let a = n.answering l i k server loans s u at is f in (
              number_kept s.value.sender s.value.slot (handle_uses_request p empty_hand sound.counted k s at (ap is_of_request is))
                  ∙ a.0,
              a.1,
            );
      }

  addressed : IsAddressed after
  addressed = record {
    requests = λ l i h. ap (λ (n : RequestDetails). n.client) (details_kept l i (used_before l i h))
        ∙ sound.addressed.requests l i (used_before l i h) ∙ sym (like.owned l i (used_before l i h));
    responses = sound.addressed.responses;
    clients_below = λ l i h. omega (arith, sound.addressed.clients_below l i h);
    actives_below = λ l i h. omega (arith, sound.addressed.actives_below l i h);
    answered_below = λ l i h. omega (arith, sound.addressed.answered_below l i h);
    answers = λ l i k j h g e. let a = sound.addressed.answers l i k j h (used_before k j g)
        (sym (number_kept k j (used_before k j g)) ∙ e) in (a.0, a.1 ∙ sym (like.owned k j (used_before k j g)), a.2);
    client_senders = λ l i j c h at named. snoc_cases p.clients _ j c at
        (λ before _. sound.addressed.client_senders l i j c h before named)
        (λ e is. absurd (omega (arith, named, ap (λ (c : ClientPart K). c.port.id) is, sound.addressed.clients_below l i h)));
    entries = λ l i channel j c at some. snoc_cases p.clients _ j c at
        (λ before h. sound.addressed.entries l i channel j c before some)
        (λ e is. absurd (omega (
          arith,
          some,
          ap (λ (c : ClientPart K). times i (queue_at (sender_of l p.server_senders).messages c.receiver channel)) (sym is),
          ap (times i) (sound.vacated.of_clients l receiver channel vacant).0,
        )));
  }

  -- no request is of the new sender
  elsewhere : (k : ℕ) (s : TableEntry HandleEntry) → fin_map.get p.table.entries k ≡ Some s → is_of_request s.value.stage ≡ true
      → s.value.sender ≢ site.sender
  elsewhere = request_elsewhere p sound.counted site.sender put.idle

  -- a request stands in the row of a sender that was there
  in_its_sender : (k : ℕ) (s : TableEntry HandleEntry) → fin_map.get p.table.entries k ≡ Some s → is_of_request s.value.stage ≡ true
      → sender_of s.value.sender after.client_senders ≡ sender_of s.value.sender p.client_senders
  in_its_sender k s at is = put.others s.value.sender (elsewhere k s at is)

  -- a handle's place follows from the same row
  place_kept : (k : ℕ) (s : TableEntry HandleEntry) → fin_map.get p.table.entries k ≡ Some s → (g : Stage) → s.value.stage ≡ g
      → place_at after g s.value.sender s.value.slot ≡ place_at p g s.value.sender s.value.slot
  place_kept k s at stage.RequestMutUninit e = same_place s.value.slot (in_its_sender k s at (ap is_of_request e))
  place_kept k s at stage.RequestMut e = same_place s.value.slot (in_its_sender k s at (ap is_of_request e))
  place_kept k s at (stage.PendingResponse hint connections) e = same_place s.value.slot (in_its_sender k s at (ap is_of_request e))
  place_kept k s at (stage.ActiveRequest server loans) e =
      ap (λ (l : Sender Q RequestDetails QH). record {
        row = l.row;
        index = (server_place p server + 1) * length l.messages.held + s.value.slot;
      })
      (in_its_sender k s at (ap is_of_request e))
  place_kept k s at other e = refl

  inserted : IsPlaced after
  inserted =
      let n = sound.inserted in
      record {
        placed = λ k s at. n.placed k s at ∙ sym (place_kept k s at s.value.stage refl);
        client_rows = rows_added put new (λ slots. (p.limits.max_servers + 1) * slots) sited.rowed sited.rows_apart n.client_rows;
        server_rows = λ l h. row_stays sited.rowed _ _ (sited.other_rows l h) (n.server_rows l h);
        client_rows_apart = apart_added put (λ x. x.row) sited.rows_apart n.client_rows_apart;
        server_rows_apart = n.server_rows_apart;
        rows_apart = λ l k h g. each_other put (λ _ x. x.row ≢ (sender_of k p.server_senders).row)
            (λ l _ before. n.rows_apart l k before g) (λ same. sited.other_rows k g (sym same)) l h;
        active_servers = n.active_servers;
      }

  -- no handle is in the new sender
  none_last : (test : Stage → Bool) → ((g : Stage) → test g ≡ true → is_of_request g ≡ true)
      → handles p (is_in_sender test site.sender) empty_hand ≡ 0
  none_last test of_request = omega (
    arith,
    none_in p.table.entries site.sender test (λ k s at is. elsewhere k s at (of_request s.value.stage is)),
  )

  stored : IsStored after empty_hand
  stored =
      let n = sound.stored in
      record {
        request_loans = count_added put (λ x. x.loans) (λ l. handles p (is_in_sender is_request_loan l) empty_hand)
            refl (none_last is_request_loan loan_is_request) n.request_loans;
        pendings = count_added put (λ x. x.pendings) (λ l. handles p (is_in_sender is_pending l) empty_hand)
            refl (none_last is_pending pending_is_request) n.pendings;
        response_loans = n.response_loans;
        active_loans = n.active_loans;
        borrowed_requests = λ l server. count_added put (λ x. borrowed_at x.messages (server_place p server) 0)
            (λ l. handles p (is_in_sender (is_active_of server) l) empty_hand) (new_borrowed m new (server_place p server) 0)
            (none_last (is_active_of server) (active_is_request server)) (λ l h. n.borrowed_requests l server h) l;
        borrowed_responses = λ l i channel c h at. snoc_cases p.clients _ i c at
            (λ before g. n.borrowed_responses l i channel c h before)
            (λ e is. rw (← is) ((sound.vacated.of_clients l receiver channel vacant).1
            ∙ sym (tally-never p.table.entries (λ s. is_received_at p l p.next channel s.value) (λ k s there t.
            let received = and_parts (is_received s.value.stage) _ t in
            let here = and_parts (s.value.sender == l) _ received.1 in
            let client = and_parts ((response_details p s.value.sender s.value.slot).client == p.next) _ here.1 in
            omega (
              arith,
              eqb-true (response_details p s.value.sender s.value.slot).client p.next client.0,
              sound.addressed.clients_below s.value.sender s.value.slot
                  (handle_uses_response p empty_hand sound.counted k s there (received_is_response s.value.stage received.0)),
            ))) ∙ and_none _));
      }

  -- the new sender has its size
  sized : IsSized after
  sized =
      let n = sound.sized in
      let slots_are = new_slots new in
      record {
        limits_fit = n.limits_fit;
        client_senders = each_added put (λ _ x. IsShaped p.limits.max_servers 1
            p.limits.max_active_requests_per_client x.messages) n.client_senders (new_shaped new);
        server_senders = n.server_senders;
        marks = each_added put (λ _ x. length x.may_answer ≡ length x.messages.held * p.limits.max_servers) n.marks
            (length-replicate ((client_port p settings).pool_size * p.limits.max_servers) no_server
            ∙ ap (λ n. n * p.limits.max_servers) (sym slots_are));
        next_fits = omega (arith, left);
        channels = each_added put (λ _ x. length x.messages.held ≤ worst_case_requests p.limits) n.channels
            (omega (arith, slots_are, pool_fits (worst_case_requests p.limits) settings.pool (makes_channels p.limits n.limits_fit)));
        loans_made = λ i c at. snoc_cases p.clients client i c at
            (λ before h. omega (arith, n.loans_made i c before)) (λ e is. omega (arith, ap (λ (c : ClientPart K). c.loans_made) is));
        most_loans = n.most_loans;
        rows_fit = each_added put (λ _ x. (p.limits.max_servers + 1) * length x.messages.held < 2 ^ 64) n.rows_fit
            (omega (arith, ap (λ k. (p.limits.max_servers + 1) * k) slots_are, fits));
      }

  vacated : IsVacated after
  vacated = record {
    of_clients = λ l there channel none. sound.vacated.of_clients l there channel (λ i c e. none i c (snoc_keeps p.clients _ i c e));
    of_servers = λ l there channel none. vacant_added put new there channel
        (λ l. sound.vacated.of_servers l there channel none) l;
    awaits_none = λ l i there server fresh fits.
        let shown : Sender Q RequestDetails QH → Bool = λ x. is_marked p.limits.max_servers x.may_answer i there server in
        sender_cases put l
        (λ n e. ap shown e ∙ sound.vacated.awaits_none l i there server (omega (arith, fresh)) fits)
        (λ e at. ap shown at
        ∙ ap (λ k. k == server) (same_everywhere ((client_port p settings).pool_size * p.limits.max_servers)
        (i * p.limits.max_servers + there) no_server)
        ∙ ne_eqb no_server server (λ same. omega (arith, same, fits)));
  }

  have_ports : HavePorts after
  have_ports =
      let n = sound.have_ports in
      record {
        handles = λ k s at. let h = n.handles k s at in record {
          request_loan = λ is. port_stays (λ (c : ClientPart K). c.sender) p.clients _ s.value.sender (h.request_loan is);
          pending = λ is. port_stays (λ (c : ClientPart K). c.sender) p.clients _ s.value.sender (h.pending is);
          response_loan = h.response_loan;
        };
        apart = λ i j c s at there. snoc_cases p.clients client i c at (λ before h. n.apart i j c s before there)
            (λ e is same. omega (
              arith,
              same,
              ap (λ (c : ClientPart K). c.port.id) is,
              given_before p.next p.limits.max_servers _ p.server_senders sound.server_ports j s.connected
                  (listed (λ (s : ServerPart K). s.connected) p.servers j s there),
            ));
        left_clients = left_added (λ (c : ClientPart K). c.connected) p.next p.limits.max_clients p.clients sound.client_ports
            client put new sited.ports refl refl refl (new_slots new) new.room_is refl refl inside vacant few sited.kept n.left_clients;
        left_servers = n.left_servers;
        client_room = omega (arith, can_leave, sited.kept.fewer, length-append p.clients (client ∷ []));
        server_room = n.server_room;
      }

  -- a client was created
  pub client_sound : IsSoundStore after empty_hand
  client_sound = record {
    counted = counted;
    held_once = record {
      loans = λ k s at is. like.used s.value.sender s.value.slot ∙ sound.held_once.loans k s at is;
      servers = λ l i server. omega (arith, ap (times i) (like.queues l (server_place p server) 0), sound.held_once.servers l i server);
      responses = sound.held_once.responses;
    };
    numbered = numbered;
    addressed = addressed;
    inserted = inserted;
    stored = stored;
    sized = sized;
    vacated = vacated;
    have_ports = have_ports;
    client_ports = port_added (λ (c : ClientPart K). c.connected) p.next p.limits.max_clients p.clients sound.client_ports client put new
        sited.ports refl refl refl (new_slots new) new.room_is refl refl inside vacant few;
    server_ports = later_next sound.server_ports;
  }
