-- What is true of a core stays true as a client goes of which nothing is in use.
use Rattle.std.proofs.Common.{◌≡◌, ◌≢◌, ◌<◌, ℕ, true, [], ◌∷◌, Some, length, map, refl, sym, ap, ◌∙◌, ⊎_elim, arith}
use Rattle.std.specs.Prelude.{slice_get}
use Rattle.std.specs.FinMap as fin_map
use Rattle.std.proofs.lemmas.Bool.{cases_eq, eq-eqb}
use Rattle.std.proofs.lemmas.List.{length-append}
use Rattle.std.proofs.lemmas.List.Edits.{length-remove}
use Rattle.std.proofs.lemmas.Option.{slice_get_within}
use Rattle.rr_table.proofs.MapLaws.{tally-at}
use Rattle.rr_table.specs.TableView.{TableEntry}
use Rattle.rr_store.specs.declared.handle_entry.HandleEntry.{HandleEntry}
use Rattle.rr_sender.specs.Senders.{borrowed_at, queue_at}
use Rattle.rr_store.specs.Leaving.{IsUnusedClient, without_client}
use Rattle.rr_store.specs.Parts.{ClientPart, Parts}
use Rattle.rr_store.specs.Sound.{HasPort, HavePorts, IsNumbered, IsSoundStore, IsVacated, empty_hand, is_in_sender, is_pending, is_received, is_received_at, is_request_loan, response_details}
use Rattle.rr_store.specs.Views.{sender_of}
use Rattle.rr_store.proofs.base.hands.Stages.{received_is_response}
use Rattle.rr_store.proofs.base.lists.Removed.{Stood, still, stood}
use Rattle.rr_store.proofs.base.views.Agreeing.{response_sender}
use Rattle.rr_store.proofs.base.views.Counts.{listed}
use Rattle.rr_releasing.proofs.laws.leaving.PortGone.{port_gone, port_left}

module _ {Q QH P PH K : Type 0} (p : Parts Q QH P PH K) (sound : IsSoundStore p empty_hand) (index : ℕ) (c : ClientPart K)
    (at_c : slice_get p.clients index ≡ Some c) (unused : IsUnusedClient p c) where
  abbrev after : Parts Q QH P PH K
  after = without_client p index c

  within : index < length p.clients
  within = slice_get_within p.clients index c at_c

  was : (i : ℕ) (d : ClientPart K) → slice_get after.clients i ≡ Some d → Stood p.clients index i d
  was i d at = stood p.clients index within i d at

  here : slice_get (map (λ c. c.connected) p.clients) index ≡ Some c.connected
  here = listed (λ (c : ClientPart K). c.connected) p.clients index c at_c

  -- it alone stands there
  one : (i : ℕ) (d : ClientPart K) → slice_get p.clients i ≡ Some d → i ≡ index → d ≡ c
  one i d at same = let f : Some d ≡ Some c = sym at ∙ ap (slice_get p.clients) same ∙ at_c in cc

  its_sender : c.sender < length p.client_senders
  its_sender = (sound.client_ports.own index c.connected here).0

  -- the client has no handle
  no_loan : (k : ℕ) (s : TableEntry HandleEntry) → fin_map.get p.table.entries k ≡ Some s → is_request_loan s.value.stage ≡ true
      → s.value.sender ≢ c.sender
  no_loan k s at is same = omega (
    arith,
    unused.loans,
    sound.stored.request_loans c.sender its_sender,
    tally-at (λ (s : TableEntry HandleEntry). is_in_sender is_request_loan c.sender s.value) p.table.entries k s at
        (rw is (eq-eqb s.value.sender c.sender same)),
  )

  no_pending : (k : ℕ) (s : TableEntry HandleEntry) → fin_map.get p.table.entries k ≡ Some s → is_pending s.value.stage ≡ true
      → s.value.sender ≢ c.sender
  no_pending k s at is same = omega (
    arith,
    unused.pendings,
    sound.stored.pendings c.sender its_sender,
    tally-at (λ (s : TableEntry HandleEntry). is_in_sender is_pending c.sender s.value) p.table.entries k s at
        (rw is (eq-eqb s.value.sender c.sender same)),
  )

  none_received : (k : ℕ) (s : TableEntry HandleEntry) → fin_map.get p.table.entries k ≡ Some s → is_received s.value.stage ≡ true
      → c.port.id ≢ (response_details p s.value.sender s.value.slot).client
  none_received k s at is same =
      let details = response_details p s.value.sender s.value.slot in
      omega (
        arith,
        unused.received s.value.sender details.channel,
        sound.stored.borrowed_responses s.value.sender index details.channel c
            (response_sender p empty_hand sound.counted k s at (received_is_response s.value.stage is)) at_c,
        tally-at (λ (t : TableEntry HandleEntry). is_received_at p s.value.sender c.port.id details.channel t.value) p.table.entries k s at
            (rw is (rw (eq-eqb s.value.sender s.value.sender refl) (rw (eq-eqb details.client c.port.id (sym same))
            (eq-eqb details.channel details.channel refl)))),
      )

  -- the port of each handle is another
  stays : (sender : ℕ) → sender ≢ c.sender → HasPort (λ (c : ClientPart K). c.sender) p.clients sender
      → HasPort (λ (c : ClientPart K). c.sender) after.clients sender
  stays sender other has =
      let s = still p.clients index within has.0 has.1 has.2
      (λ same. other (sym has.3 ∙ ap (λ (c : ClientPart K). c.sender) (one has.0 has.1 has.2 same))) in
      (s.0, has.1, s.1, has.3)

  numbered : IsNumbered after
  numbered = let n = sound.numbered in record {
    fresh = n.fresh;
    requests = n.requests;
    pendings = n.pendings;
    responses = n.responses;
    requests_below = n.requests_below;
    responses_below = n.responses_below;
    requests_apart = n.requests_apart;
    responses_apart = n.responses_apart;
    kinds_apart = n.kinds_apart;
    actives_apart = n.actives_apart;
    received = λ k s at is.
        let r = n.received k s at is in
        let t = still p.clients index within r.0 r.1 r.2
        (λ same. none_received k s at is (ap (λ (c : ClientPart K). c.port.id) (sym (one r.0 r.1 r.2 same)) ∙ r.3)) in
        (t.0, r.1, t.1, r.3);
    answering = n.answering;
  }

  vacated : IsVacated after
  vacated = let n = sound.vacated in record {
    of_clients = λ sender receiver channel none. ⊎_elim
        (λ e. (
          ap (λ r. queue_at (sender_of sender p.server_senders).messages r channel) e ∙ unused.waits sender channel,
          ap (λ r. borrowed_at (sender_of sender p.server_senders).messages r channel) e ∙ unused.received sender channel,
        ))
        (λ other. n.of_clients sender receiver channel (λ i d at same. ⊎_elim
        (λ e. other (sym same ∙ ap (λ (c : ClientPart K). c.receiver) (one i d at e)))
        (λ differs. let t = still p.clients index within i d at differs in none t.0 d t.1 same)
        (cases_eq i index)))
        (cases_eq receiver c.receiver);
    of_servers = n.of_servers;
    awaits_none = n.awaits_none;
  }

  have_ports : HavePorts after
  have_ports = let n = sound.have_ports in record {
    handles = λ k s at. let h = n.handles k s at in record {
      request_loan = λ is. stays s.value.sender (no_loan k s at is) (h.request_loan is);
      pending = λ is. stays s.value.sender (no_pending k s at is) (h.pending is);
      response_loan = h.response_loan;
    };
    apart = λ i j d s at there. let t = was i d at in n.apart t.place j d s t.at there;
    left_clients = port_left (λ (c : ClientPart K). c.connected) p.next p.limits.max_clients p.clients p.client_senders sound.client_ports
        index c here p.left_clients n.left_clients;
    left_servers = n.left_servers;
    client_room = omega (
      arith,
      n.client_room,
      length-remove p.clients index (slice_get_within p.clients index c at_c),
      length-append p.left_clients (record { number = c.port.id; sender = c.sender } ∷ []),
    );
    server_room = n.server_room;
  }

  -- the core stays sound
  pub client_gone_sound : IsSoundStore after empty_hand
  client_gone_sound = record {
    counted = record { requests = sound.counted.requests; responses = sound.counted.responses };
    held_once = record { loans = sound.held_once.loans; servers = sound.held_once.servers; responses = sound.held_once.responses };
    numbered = numbered;
    addressed = let n = sound.addressed in record {
      requests = n.requests;
      responses = n.responses;
      clients_below = n.clients_below;
      actives_below = n.actives_below;
      answered_below = n.answered_below;
      answers = n.answers;
      client_senders = λ sender slot i d used at named. let s = was i d at in n.client_senders sender slot s.place d used s.at named;
      entries = λ sender slot channel i d at. let s = was i d at in n.entries sender slot channel s.place d s.at;
    };
    inserted = let n = sound.inserted in record {
      placed = n.placed;
      client_rows = n.client_rows;
      server_rows = n.server_rows;
      client_rows_apart = n.client_rows_apart;
      server_rows_apart = n.server_rows_apart;
      rows_apart = n.rows_apart;
      active_servers = n.active_servers;
    };
    stored = let n = sound.stored in record {
      request_loans = n.request_loans;
      pendings = n.pendings;
      response_loans = n.response_loans;
      active_loans = n.active_loans;
      borrowed_requests = n.borrowed_requests;
      borrowed_responses = λ sender i channel d h at. let s = was i d at in n.borrowed_responses sender s.place channel d h s.at;
    };
    sized = let n = sound.sized in record {
      limits_fit = n.limits_fit;
      client_senders = n.client_senders;
      server_senders = n.server_senders;
      marks = n.marks;
      next_fits = n.next_fits;
      channels = n.channels;
      loans_made = λ i d at. let s = was i d at in n.loans_made s.place d s.at;
      most_loans = n.most_loans;
      rows_fit = n.rows_fit;
    };
    vacated = vacated;
    have_ports = have_ports;
    client_ports = port_gone (λ (c : ClientPart K). c.connected) p.next p.limits.max_clients p.clients p.client_senders sound.client_ports
        index c here;
    server_ports = sound.server_ports;
  }
