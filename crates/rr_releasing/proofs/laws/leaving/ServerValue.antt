-- A core stays sound as the value of a server goes.
use Rattle.std.proofs.Common.{◌≡◌, ◌<◌, ◌≤◌, ◌+◌, ◌*◌, ℕ, [], Some, length, map, get_or, refl, sym, ap, ◌∙◌, subst, arith}
use Rattle.std.specs.Prelude.{◌==◌, ◌&&◌, slice_get, slice_index, slice_index_or, slice_set}
use Rattle.std.proofs.lemmas.List.{length-set}
use Rattle.std.proofs.lemmas.Option.{get_or_from_slice_get}
use Rattle.rr_sender.specs.Senders.{borrowed_at, queue_at, times, uses}
use Rattle.rr_protocol.specs.Limits.{max_loaned_responses, worst_case_requests}
use Rattle.rr_store.specs.declared.details.ResponseDetails.{ResponseDetails}
use Rattle.rr_store.specs.declared.handle_entry.Stage.{Stage}
use Rattle.rr_store.specs.declared.handle_entry.Stage.TheVariants as stage
use Rattle.rr_store.specs.Leaving.{valueless, valueless_server, without_server_value}
use Rattle.rr_store.specs.Parts.{Parts, Sender, ServerPart}
use Rattle.rr_store.specs.Sound.{HasPort, HasSenders, HaveLeft, IsShaped, IsSoundStore, empty_hand, handles, is_active_at, is_received, is_response_loan, place_at, response_details, server_place}
use Rattle.rr_store.specs.Views.{no_response, no_sender, sender_of}
use Rattle.rr_store.proofs.base.frames.Frames.{before_it, ports_set}
use Rattle.rr_store.proofs.base.lists.Replaced.{find_read, map-set_one, set_alike}
use Rattle.rr_store.proofs.base.views.Counts.{listed}
use Rattle.rr_releasing.proofs.laws.leaving.ValueGone.{left_valueless, senders_valueless, valueless_port}

module _ {Q QH P PH K : Type 0} (p : Parts Q QH P PH K) (sound : IsSoundStore p empty_hand) (index : ℕ) (s : ServerPart K)
    (at_s : slice_get p.servers index ≡ Some s) where
  abbrev after : Parts Q QH P PH K
  after = without_server_value p index s

  -- but for their values the servers are as they were
  alike : map valueless_server after.servers ≡ map valueless_server p.servers
  alike = ports_set valueless_server p.servers index s (valueless_server s) at_s refl

  was : (i : ℕ) (d : ServerPart K) → slice_get after.servers i ≡ Some d → (e : ServerPart K) × (slice_get p.servers i ≡ Some e)
      × (valueless_server e ≡ valueless_server d)
  was = before_it valueless_server p.servers after.servers alike

  still : (i : ℕ) (e : ServerPart K) → slice_get p.servers i ≡ Some e → (d : ServerPart K) × (slice_get after.servers i ≡ Some d)
      × (valueless_server d ≡ valueless_server e)
  still = before_it valueless_server after.servers p.servers (sym alike)

  many_servers : length after.servers ≡ length p.servers
  many_servers = length-set p.servers index (valueless_server s)

  it : get_or p.servers index s ≡ s
  it = get_or_from_slice_get p.servers index s s at_s

  -- each is sent to where it was
  same_place : (server : ℕ) → server_place after server ≡ server_place p server
  same_place server =
      find_read (λ (d : ServerPart K). d.port.id == server) (λ d. d.receiver) p.limits.max_servers p.servers index (valueless_server s) s
      (ap (λ (d : ServerPart K). d.port.id == server) (sym it)) (ap (λ (d : ServerPart K). d.receiver) (sym it))

  -- and so are the senders
  abbrev own : Sender P ResponseDetails PH
  own = sender_of s.sender p.server_senders

  many : length after.server_senders ≡ length p.server_senders
  many = length-set p.server_senders s.sender (valueless own)

  same : {Y : Type 0} (f : Sender P ResponseDetails PH → Y) → f (valueless own) ≡ f own → (l : ℕ)
      → f (sender_of l after.server_senders) ≡ f (sender_of l p.server_senders)
  same f e l = set_alike p.server_senders s.sender (valueless own) no_sender f e l

  -- what is true of a sender, whether the value lives or not, stays true
  carry : (F : Sender P ResponseDetails PH → Type 0) (l : ℕ) → F (valueless (sender_of l p.server_senders))
      → F (valueless (sender_of l after.server_senders))
  carry F l = subst F (sym (same valueless refl l))

  back : (F : Sender P ResponseDetails PH → Type 0) (l : ℕ) → F (valueless (sender_of l after.server_senders))
      → F (valueless (sender_of l p.server_senders))
  back F l = subst F (same valueless refl l)

  details : (l i : ℕ) → response_details after l i ≡ response_details p l i
  details l i = same (λ x. slice_index_or x.messages.details i no_response) refl l

  -- a field of the details
  read : {Y : Type 0} (f : ResponseDetails → Y) (l i : ℕ) → f (response_details after l i) ≡ f (response_details p l i)
  read f l i = ap f (details l i)

  number : (l i : ℕ) → (response_details after l i).number ≡ (response_details p l i).number
  number = read (λ n. n.number)

  used : (l i : ℕ) → 0 < uses (sender_of l after.server_senders).messages i → 0 < uses (sender_of l p.server_senders).messages i
  used = λ l i. back (λ x. 0 < uses x.messages i) l

  there : (l : ℕ) → l < length after.server_senders → l < length p.server_senders
  there l h = omega (arith, h, many)

  -- each handle has its place
  same_placing : (g : Stage) (sender slot : ℕ) → place_at after g sender slot ≡ place_at p g sender slot
  same_placing stage.RequestMutUninit l i = refl
  same_placing stage.RequestMut l i = refl
  same_placing (stage.PendingResponse hint connections) l i = refl
  same_placing (stage.ActiveRequest server loans) l i =
      ap (λ r. record {
        row = (sender_of l p.client_senders).row;
        index = (r + 1) * length (sender_of l p.client_senders).messages.held + i;
      }) (same_place server)
  same_placing stage.ResponseMutUninit l i = ap (λ r. record { row = r; index = i }) (same (λ x. x.row) refl l)
  same_placing stage.ResponseMut l i = ap (λ r. record { row = r; index = i }) (same (λ x. x.row) refl l)
  same_placing stage.Response l i = ap (λ r. record { row = r; index = i }) (same (λ x. x.row) refl l)

  here : slice_get (map (λ (s : ServerPart K). s.connected) p.servers) index ≡ Some s.connected
  here = listed (λ (s : ServerPart K). s.connected) p.servers index s at_s

  set : map (λ (s : ServerPart K). s.connected) after.servers
      ≡ slice_set (map (λ (s : ServerPart K). s.connected) p.servers) index (valueless_port s.connected)
  set = map-set_one (λ (s : ServerPart K). s.connected) p.servers index (valueless_server s)

  -- ports are where they were
  port_still : (l : ℕ) → HasPort (λ (s : ServerPart K). s.sender) p.servers l → HasPort (λ (s : ServerPart K). s.sender) after.servers l
  port_still l has = let d = still has.0 has.1 has.2 in (has.0, d.0, d.1, ap (λ (s : ServerPart K). s.sender) d.2 ∙ has.3)

  -- the core stays sound
  pub server_value_sound : IsSoundStore after empty_hand
  server_value_sound = record {
    counted = let n = sound.counted in record {
      requests = n.requests;
      responses = λ l i. same (λ x. slice_index x.messages.held i) refl l ∙ n.responses l i;
    };
    held_once = let n = sound.held_once in record {
      loans = n.loans;
      servers = λ l i server. subst (λ r. times i (queue_at (sender_of l p.client_senders).messages r 0)
          + handles p (is_active_at l i server) empty_hand ≤ 1) (sym (same_place server)) (n.servers l i server);
      responses = λ l i. omega (arith, n.responses l i, same (λ x. uses x.messages i) refl l);
    };
    numbered = let n = sound.numbered in record {
      fresh = n.fresh;
      requests = n.requests;
      pendings = n.pendings;
      responses = λ k t at is. n.responses k t at is ∙ sym (number t.value.sender t.value.slot);
      requests_below = n.requests_below;
      responses_below = λ l i h. omega (arith, n.responses_below l i (used l i h), number l i);
      requests_apart = n.requests_apart;
      responses_apart = λ l i m j h g e. n.responses_apart l i m j (used l i h) (used m j g) (sym (number l i) ∙ e ∙ number m j);
      kinds_apart = λ l i m j h g e. n.kinds_apart l i m j h (used m j g) (e ∙ number m j);
      actives_apart = λ k server l i t at is. let a = n.actives_apart k server l i t at is in
          (a.0, λ h e. a.1 (used l i h) (sym (number l i) ∙ e));
      received = λ k t at is. let r = n.received k t at is in
          (r.0, r.1, r.2, r.3 ∙ sym (read (λ n. n.client) t.value.sender t.value.slot));
      answering = λ l i k server loans t u at is f.
          let a = n.answering l i k server loans t (used l i u) at is (sym (read (λ n. n.active_request) l i) ∙ f) in
          (a.0 ∙ sym (read (λ n. n.request) l i), read (λ n. n.server) l i ∙ a.1);
    };
    addressed = let n = sound.addressed in record {
      requests = n.requests;
      responses = λ l i h. read (λ n. n.server) l i ∙ n.responses l i (used l i h) ∙ sym (same (λ x. x.owner) refl l);
      clients_below = λ l i h. omega (arith, read (λ n. n.client) l i, n.clients_below l i (used l i h));
      actives_below = λ l i h. omega (arith, read (λ n. n.active_request) l i, n.actives_below l i (used l i h));
      answered_below = λ l i h. omega (arith, read (λ n. n.request) l i, n.answered_below l i (used l i h));
      answers = λ l i m j h g e. let a = n.answers l i m j (used l i h) g (e ∙ read (λ n. n.request) l i) in
          (read (λ n. n.channel) l i ∙ a.0, read (λ n. n.client) l i ∙ a.1, a.2 ∙ sym (read (λ n. n.client_sender) l i));
      client_senders = λ l i j d h at named. n.client_senders l i j d (used l i h) at (named ∙ read (λ n. n.client) l i)
          ∙ sym (read (λ n. n.client_sender) l i);
      entries = λ l i channel j d at h.
          let a = n.entries l i channel j d at (back (λ x. 0 < times i (queue_at x.messages d.receiver channel)) l h) in
          (read (λ n. n.client) l i ∙ a.0, read (λ n. n.channel) l i ∙ a.1);
    };
    inserted = let n = sound.inserted in record {
      placed = λ k t at. n.placed k t at ∙ sym (same_placing t.value.stage t.value.sender t.value.slot);
      client_rows = n.client_rows;
      server_rows = λ l h. carry (λ x. (x.row < length p.table.rows) × (slice_index p.table.rows x.row ≡ length x.messages.held)) l
          (n.server_rows l (there l h));
      client_rows_apart = n.client_rows_apart;
      server_rows_apart = λ l m h g e. n.server_rows_apart l m (there l h) (there m g)
          (sym (same (λ x. x.row) refl l) ∙ e ∙ same (λ x. x.row) refl m);
      rows_apart = λ l m h g e. n.rows_apart l m h (there m g) (e ∙ same (λ x. x.row) refl m);
      active_servers = λ k server t at is. omega (arith, n.active_servers k server t at is, same_place server);
    };
    stored = let n = sound.stored in record {
      request_loans = n.request_loans;
      pendings = n.pendings;
      response_loans = λ l h. same (λ x. x.loans) refl l ∙ n.response_loans l (there l h);
      active_loans = λ k server loans t at is. n.active_loans k server loans t at is
          ∙ sym (λ i. handles p (λ h. is_response_loan h.stage && (details h.sender h.slot i).active_request == k) empty_hand);
      borrowed_requests = λ l server h. ap (λ r. borrowed_at (sender_of l p.client_senders).messages r 0) (same_place server)
          ∙ n.borrowed_requests l server h;
      borrowed_responses = λ l j channel client h at. same (λ x. borrowed_at x.messages client.receiver channel) refl l
          ∙ n.borrowed_responses l j channel client (there l h) at
          ∙ sym (λ i. handles p (λ h. is_received h.stage && (h.sender == l
          && ((details h.sender h.slot i).client == client.port.id && (details h.sender h.slot i).channel == channel))) empty_hand);
    };
    sized = let n = sound.sized in record {
      limits_fit = n.limits_fit;
      client_senders = n.client_senders;
      server_senders = λ l h. carry (λ x. IsShaped p.limits.max_clients (worst_case_requests p.limits) p.limits.max_response_buffer_size
          x.messages) l (n.server_senders l (there l h));
      marks = n.marks;
      next_fits = n.next_fits;
      channels = n.channels;
      loans_made = n.loans_made;
      most_loans = λ i d at. let e = was i d at in
          ap (λ (s : ServerPart K). s.max_loaned_responses) (sym e.2) ∙ n.most_loans i e.0 e.1
          ∙ ap (λ (s : ServerPart K). max_loaned_responses p.limits s.max_loaned_responses_per_request) e.2;
      rows_fit = n.rows_fit;
    };
    vacated = let n = sound.vacated in record {
      of_clients = λ l receiver channel none. carry (λ x. (queue_at x.messages receiver channel ≡ [])
          × (borrowed_at x.messages receiver channel ≡ 0)) l (n.of_clients l receiver channel none);
      of_servers = λ l receiver channel none. n.of_servers l receiver channel (λ i e at is. let d = still i e at in
          none i d.0 d.1 (ap (λ (s : ServerPart K). s.receiver) d.2 ∙ is));
      awaits_none = n.awaits_none;
    };
    have_ports = let n = sound.have_ports in record {
      handles = λ k t at. let h = n.handles k t at in record {
        request_loan = h.request_loan;
        pending = h.pending;
        response_loan = λ is. port_still t.value.sender (h.response_loan is);
      };
      apart = λ i j c d at at_d is. let e = was j d at_d in
          n.apart i j c e.0 at e.1 (is ∙ ap (λ (s : ServerPart K). s.port.id) (sym e.2));
      left_clients = n.left_clients;
      left_servers = subst (λ ks. HaveLeft ks p.left_servers after.server_senders) (sym set)
          (left_valueless p.next p.limits.max_servers (map (λ (s : ServerPart K). s.connected) p.servers) p.server_senders
          sound.server_ports index s.connected here p.left_servers n.left_servers);
      client_room = n.client_room;
      server_room = omega (arith, n.server_room, many_servers);
    };
    client_ports = sound.client_ports;
    server_ports = subst (λ ks. HasSenders p.next p.limits.max_servers ks after.server_senders) (sym set)
        (senders_valueless p.next p.limits.max_servers (map (λ (s : ServerPart K). s.connected) p.servers) p.server_senders
        sound.server_ports index s.connected here);
  }
