-- What is true of a core stays true as a server goes of which nothing is in use.
use Rattle.std.proofs.Common.{◌≡◌, ◌≢◌, ◌<◌, ◌+◌, ◌*◌, ℕ, true, [], ◌∷◌, Option, None, Some, find, length, map, refl, sym, ap, ◌∙◌, ⊎_elim, arith}
use Rattle.std.specs.Prelude.{◌==◌, slice_get}
use Rattle.std.specs.Option.{option_map_or}
use Rattle.std.specs.FinMap as fin_map
use Rattle.std.proofs.lemmas.Bool.{cases_eq, eq-eqb, eqb-true, false≢true}
use Rattle.std.proofs.lemmas.List.{length-append}
use Rattle.std.proofs.lemmas.List.Edits.{length-remove}
use Rattle.std.proofs.lemmas.Option.{slice_get_within}
use Rattle.rr_table.proofs.MapLaws.{tally-at}
use Rattle.rr_table.specs.TableView.{TableEntry}
use Rattle.rr_sender.specs.Senders.{borrowed_at, queue_at, times}
use Rattle.rr_store.specs.declared.handle_entry.HandleEntry.{HandleEntry}
use Rattle.rr_store.specs.declared.handle_entry.Stage.{Stage}
use Rattle.rr_store.specs.declared.handle_entry.Stage.TheVariants as stage
use Rattle.rr_store.specs.Leaving.{IsUnusedServer, without_server}
use Rattle.rr_store.specs.Parts.{Parts, ServerPart}
use Rattle.rr_store.specs.Sound.{HasPort, HasSenders, HavePorts, IsHeldOnce, IsPlaced, IsSoundStore, IsStored, IsVacated, empty_hand, is_active_of, is_in_sender, is_response_loan, place_at, server_place}
use Rattle.rr_store.specs.Views.{sender_of}
use Rattle.rr_store.proofs.base.hands.Stages.{active_is_request}
use Rattle.rr_store.proofs.base.lists.Found.{found_passes, found_somewhere}
use Rattle.rr_store.proofs.base.lists.Removed.{Stood, elsewhere, still, stood}
use Rattle.rr_store.proofs.base.senders.Entries.{found_alone, found_none}
use Rattle.rr_store.proofs.base.senders.Numbered.{numbered_once}
use Rattle.rr_store.proofs.base.views.Agreeing.{request_sender}
use Rattle.rr_store.proofs.base.views.Counts.{listed}
use Rattle.rr_releasing.proofs.laws.leaving.PortGone.{port_gone, port_left}
use Rattle.rr_releasing.proofs.laws.response_loan.Place.{server_alone}

module _ {Q QH P PH K : Type 0} (p : Parts Q QH P PH K) (sound : IsSoundStore p empty_hand) (index : ℕ) (s : ServerPart K)
    (at_s : slice_get p.servers index ≡ Some s) (unused : IsUnusedServer p s) where
  abbrev after : Parts Q QH P PH K
  after = without_server p index s

  within : index < length p.servers
  within = slice_get_within p.servers index s at_s

  was : (i : ℕ) (d : ServerPart K) → slice_get after.servers i ≡ Some d → Stood p.servers index i d
  was i d at = stood p.servers index within i d at

  here : slice_get (map (λ s. s.connected) p.servers) index ≡ Some s.connected
  here = listed (λ (s : ServerPart K). s.connected) p.servers index s at_s

  -- it alone stands there
  one : (i : ℕ) (d : ServerPart K) → slice_get p.servers i ≡ Some d → i ≡ index → d ≡ s
  one i d at same = let f : Some d ≡ Some s = sym at ∙ ap (slice_get p.servers) same ∙ at_s in cc

  its_sender : s.sender < length p.server_senders
  its_sender = (sound.server_ports.own index s.connected here).0

  -- the other servers have their senders
  other_ports : HasSenders p.next p.limits.max_servers (map (λ s. s.connected) after.servers) p.server_senders
  other_ports = port_gone (λ (s : ServerPart K). s.connected) p.next p.limits.max_servers p.servers p.server_senders sound.server_ports
      index s here

  -- where a server is sent to that was found, or not
  abbrev to : Option (ServerPart K) → ℕ
  to o = option_map_or (λ s. s.receiver) o p.limits.max_servers

  -- it was sent to at its receiver
  place_was : server_place p s.port.id ≡ s.receiver
  place_was = ap to (server_alone p empty_hand sound index s at_s)

  -- another server is sent to where it was
  place_other : (server : ℕ) → server ≢ s.port.id → server_place after server ≡ server_place p server
  place_other server other = ap to (go (find (λ d. d.port.id == server) p.servers) refl)
    where
      none : (o : Option (ServerPart K)) → find (λ d. d.port.id == server) after.servers ≡ o
          → find (λ d. d.port.id == server) p.servers ≡ None → find (λ d. d.port.id == server) after.servers ≡ None
      none None f e = f
      none (Some d) f e =
          let there = found_somewhere (λ (d : ServerPart K). d.port.id == server) after.servers d f in
          let t = was there.0 d there.1 in
          absurd (false≢true (sym (found_none (λ (d : ServerPart K). d.port.id == server) p.servers e t.place d t.at)
          ∙ found_passes (λ (d : ServerPart K). d.port.id == server) after.servers d f))

      go : (o : Option (ServerPart K)) → find (λ d. d.port.id == server) p.servers ≡ o
          → find (λ d. d.port.id == server) after.servers ≡ find (λ d. d.port.id == server) p.servers
      go None e = none (find (λ d. d.port.id == server) after.servers) refl e ∙ sym e
      go (Some d) e =
          let there = found_somewhere (λ (d : ServerPart K). d.port.id == server) p.servers d e in
          let passes = found_passes (λ (d : ServerPart K). d.port.id == server) p.servers d e in
          let t = still p.servers index within there.0 d there.1
          (λ same. other (sym (eqb-true d.port.id server passes) ∙ ap (λ (d : ServerPart K). d.port.id) (one there.0 d there.1 same))) in
          found_alone (λ (d : ServerPart K). d.port.id == server) after.servers t.0 d t.1 passes
          (λ j b at same. numbered_once other_ports j t.0 b.connected d.connected
          (listed (λ (d : ServerPart K). d.connected) after.servers j b at)
          (listed (λ (d : ServerPart K). d.connected) after.servers t.0 d t.1)
          (eqb-true b.port.id server same ∙ sym (eqb-true d.port.id server passes)))
          ∙ sym e

  -- it itself is sent to nowhere
  place_gone : server_place after s.port.id ≡ p.limits.max_servers
  place_gone = go (find (λ d. d.port.id == s.port.id) after.servers) refl
    where
      go : (o : Option (ServerPart K)) → find (λ d. d.port.id == s.port.id) after.servers ≡ o
          → server_place after s.port.id ≡ p.limits.max_servers
      go None e = ap to e
      go (Some d) e =
          let there = found_somewhere (λ (d : ServerPart K). d.port.id == s.port.id) after.servers d e in
          let t = was there.0 d there.1 in
          absurd (elsewhere p.servers index within there.0 d t
          (numbered_once sound.server_ports t.place index d.connected s.connected
          (listed (λ (d : ServerPart K). d.connected) p.servers t.place d t.at) here
          (eqb-true d.port.id s.port.id (found_passes (λ (d : ServerPart K). d.port.id == s.port.id) after.servers d e))))

  -- a server is sent to where it was, or is the one that goes
  place_cases : {Z : Type 0} (server : ℕ) → (server_place after server ≡ server_place p server → Z)
      → (server_place after server ≡ p.limits.max_servers → server_place p server ≡ s.receiver → Z) → Z
  place_cases server same gone =
      ⊎_elim (λ is. gone (ap (server_place after) is ∙ place_gone) (ap (server_place p) is ∙ place_was))
      (λ other. same (place_other server other)) (cases_eq server s.port.id)

  -- nothing waits for a server that is not connected, and it received nothing
  nowhere : (sender : ℕ) → (queue_at (sender_of sender p.client_senders).messages p.limits.max_servers 0 ≡ [])
      × (borrowed_at (sender_of sender p.client_senders).messages p.limits.max_servers 0 ≡ 0)
  nowhere sender = sound.vacated.of_servers sender p.limits.max_servers 0 (λ i d at same. omega (
    arith,
    same,
    sound.server_ports.placed i d.connected (listed (λ (d : ServerPart K). d.connected) p.servers i d at),
  ))

  -- the server has no response on loan
  no_loan : (k : ℕ) (t : TableEntry HandleEntry) → fin_map.get p.table.entries k ≡ Some t → is_response_loan t.value.stage ≡ true
      → t.value.sender ≢ s.sender
  no_loan k t at is same = omega (
    arith,
    unused.loans,
    sound.stored.response_loans s.sender its_sender,
    tally-at (λ (t : TableEntry HandleEntry). is_in_sender is_response_loan s.sender t.value) p.table.entries k t at
        (rw is (eq-eqb t.value.sender s.sender same)),
  )

  -- and no active request
  none_active : (k server : ℕ) (t : TableEntry HandleEntry) → fin_map.get p.table.entries k ≡ Some t
      → is_active_of server t.value.stage ≡ true → server_place p server ≡ s.receiver → ⊥
  none_active k server t at is place = omega (
    arith,
    unused.received t.value.sender 0,
    ap (λ r. borrowed_at (sender_of t.value.sender p.client_senders).messages r 0) place,
    sound.stored.borrowed_requests t.value.sender server
        (request_sender p empty_hand sound.counted k t at (active_is_request server t.value.stage is)),
    tally-at (λ (u : TableEntry HandleEntry). is_in_sender (is_active_of server) t.value.sender u.value) p.table.entries k t at
        (rw is (eq-eqb t.value.sender t.value.sender refl)),
  )

  -- the receiver of a server that has a handle is as before
  active_kept : (k server : ℕ) (t : TableEntry HandleEntry) → fin_map.get p.table.entries k ≡ Some t
      → is_active_of server t.value.stage ≡ true → server_place after server ≡ server_place p server
  active_kept k server t at is = place_cases server (λ e. e) (λ e place. absurd (none_active k server t at is place))

  -- the port of each handle is another
  stays : (sender : ℕ) → sender ≢ s.sender → HasPort (λ (s : ServerPart K). s.sender) p.servers sender
      → HasPort (λ (s : ServerPart K). s.sender) after.servers sender
  stays sender other has =
      let t = still p.servers index within has.0 has.1 has.2
      (λ same. other (sym has.3 ∙ ap (λ (s : ServerPart K). s.sender) (one has.0 has.1 has.2 same))) in
      (t.0, has.1, t.1, has.3)

  held_once : IsHeldOnce after empty_hand
  held_once = record {
    loans = sound.held_once.loans;
    servers = λ l i server. place_cases server
        (λ e. omega (arith, sound.held_once.servers l i server, ap (λ n. times i (queue_at (sender_of l p.client_senders).messages n 0)) e))
        (λ e place. omega (
          arith,
          sound.held_once.servers l i server,
          ap (λ n. times i (queue_at (sender_of l p.client_senders).messages n 0)) e,
          ap (times i) (nowhere l).0,
        ));
    responses = sound.held_once.responses;
  }

  -- a handle's place is the same
  place_kept : (k : ℕ) (t : TableEntry HandleEntry) → fin_map.get p.table.entries k ≡ Some t → (g : Stage) → t.value.stage ≡ g
      → place_at after g t.value.sender t.value.slot ≡ place_at p g t.value.sender t.value.slot
  place_kept k t at (stage.ActiveRequest server loans) e =
      ap (λ n. record {
        row = (sender_of t.value.sender p.client_senders).row;
        index = (n + 1) * length (sender_of t.value.sender p.client_senders).messages.held + t.value.slot;
      })
      (active_kept k server t at (ap (is_active_of server) e ∙ eq-eqb server server refl))
  place_kept k t at other e = refl

  inserted : IsPlaced after
  inserted = let n = sound.inserted in record {
    placed = λ k t at. n.placed k t at ∙ sym (place_kept k t at t.value.stage refl);
    client_rows = n.client_rows;
    server_rows = n.server_rows;
    client_rows_apart = n.client_rows_apart;
    server_rows_apart = n.server_rows_apart;
    rows_apart = n.rows_apart;
    active_servers = λ k server t at is. omega (arith, n.active_servers k server t at is, active_kept k server t at is);
  }

  stored : IsStored after empty_hand
  stored = let n = sound.stored in record {
    request_loans = n.request_loans;
    pendings = n.pendings;
    response_loans = n.response_loans;
    active_loans = n.active_loans;
    borrowed_requests = λ l server h. place_cases server
        (λ e. ap (λ r. borrowed_at (sender_of l p.client_senders).messages r 0) e ∙ n.borrowed_requests l server h)
        (λ e place. ap (λ r. borrowed_at (sender_of l p.client_senders).messages r 0) e ∙ (nowhere l).1 ∙ sym (unused.received l 0)
        ∙ ap (λ r. borrowed_at (sender_of l p.client_senders).messages r 0) (sym place) ∙ n.borrowed_requests l server h);
    borrowed_responses = n.borrowed_responses;
  }

  vacated : IsVacated after
  vacated = let n = sound.vacated in record {
    of_clients = n.of_clients;
    of_servers = λ sender receiver channel none. ⊎_elim
        (λ e. (
          ap (λ r. queue_at (sender_of sender p.client_senders).messages r channel) e ∙ unused.waits sender channel,
          ap (λ r. borrowed_at (sender_of sender p.client_senders).messages r channel) e ∙ unused.received sender channel,
        ))
        (λ other. n.of_servers sender receiver channel (λ i d at same. ⊎_elim
        (λ e. other (sym same ∙ ap (λ (s : ServerPart K). s.receiver) (one i d at e)))
        (λ differs. let t = still p.servers index within i d at differs in none t.0 d t.1 same)
        (cases_eq i index)))
        (cases_eq receiver s.receiver);
    awaits_none = n.awaits_none;
  }

  have_ports : HavePorts after
  have_ports = let n = sound.have_ports in record {
    handles = λ k t at. let h = n.handles k t at in record {
      request_loan = h.request_loan;
      pending = h.pending;
      response_loan = λ is. stays t.value.sender (no_loan k t at is) (h.response_loan is);
    };
    apart = λ i j c d at there. let t = was j d there in n.apart i t.place c d at t.at;
    left_clients = n.left_clients;
    left_servers = port_left (λ (s : ServerPart K). s.connected) p.next p.limits.max_servers p.servers p.server_senders sound.server_ports
        index s here p.left_servers n.left_servers;
    client_room = n.client_room;
    server_room = omega (
      arith,
      n.server_room,
      length-remove p.servers index (slice_get_within p.servers index s at_s),
      length-append p.left_servers (record { number = s.port.id; sender = s.sender } ∷ []),
    );
  }

  -- the core stays sound
  pub server_gone_sound : IsSoundStore after empty_hand
  server_gone_sound = record {
    counted = record { requests = sound.counted.requests; responses = sound.counted.responses };
    held_once = held_once;
    numbered = let n = sound.numbered in record {
      fresh = n.fresh;
      requests = n.requests;
      pendings = n.pendings;
      responses = n.responses;
      requests_below = n.requests_below;
      responses_below = n.responses_below;
      requests_apart = n.requests_apart;
      responses_apart = n.responses_apart;
      kinds_apart = n.kinds_apart;
      actives_apart = n.actives_apart;
      received = n.received;
      answering = n.answering;
    };
    addressed = let n = sound.addressed in record {
      requests = n.requests;
      responses = n.responses;
      clients_below = n.clients_below;
      actives_below = n.actives_below;
      answered_below = n.answered_below;
      answers = n.answers;
      client_senders = n.client_senders;
      entries = n.entries;
    };
    inserted = inserted;
    stored = stored;
    sized = let n = sound.sized in record {
      limits_fit = n.limits_fit;
      client_senders = n.client_senders;
      server_senders = n.server_senders;
      marks = n.marks;
      next_fits = n.next_fits;
      channels = n.channels;
      loans_made = n.loans_made;
      most_loans = λ i d at. let t = was i d at in n.most_loans t.place d t.at;
      rows_fit = n.rows_fit;
    };
    vacated = vacated;
    have_ports = have_ports;
    client_ports = sound.client_ports;
    server_ports = other_ports;
  }
