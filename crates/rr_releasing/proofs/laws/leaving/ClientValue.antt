-- A core stays sound as the value of a client goes, and contracts see it go.
use Rattle.std.proofs.Common.{◌≡◌, ◌<◌, ◌≤◌, ◌+◌, ◌*◌, ◌^◌, ℕ, [], Some, length, map, refl, sym, ap, ◌∙◌, subst, arith}
use Rattle.std.specs.Prelude.{◌==◌, slice_get, slice_index, slice_index_or, slice_set}
use Rattle.std.proofs.lemmas.List.{length-set}
use Rattle.rr_sender.specs.Senders.{borrowed_at, queue_at, times, uses}
use Rattle.rr_store.specs.declared.details.RequestDetails.{RequestDetails}
use Rattle.rr_store.specs.declared.handle_entry.Stage.{Stage}
use Rattle.rr_store.specs.declared.handle_entry.Stage.TheVariants as stage
use Rattle.rr_store.specs.Leaving.{valueless, valueless_client, without_client_value}
use Rattle.rr_store.specs.Parts.{ClientPart, Parts, Sender}
use Rattle.rr_store.specs.Sound.{HasPort, HasSenders, HaveLeft, IsShaped, IsSoundStore, empty_hand, handles, is_active_at, is_received_at, place_at, request_details, server_place}
use Rattle.rr_store.specs.Views.{no_request, no_sender, no_server, sender_of}
use Rattle.rr_store.proofs.base.frames.Frames.{before_it, ports_set}
use Rattle.rr_store.proofs.base.lists.Replaced.{map-set_one, set_alike}
use Rattle.rr_store.proofs.base.views.Counts.{listed}
use Rattle.rr_releasing.proofs.laws.leaving.ValueGone.{left_valueless, senders_valueless, valueless_port}

module _ {Q QH P PH K : Type 0} (p : Parts Q QH P PH K) (sound : IsSoundStore p empty_hand) (index : ℕ) (c : ClientPart K)
    (at_c : slice_get p.clients index ≡ Some c) where
  abbrev after : Parts Q QH P PH K
  after = without_client_value p index c

  -- but for their values the clients are as they were
  alike : map valueless_client after.clients ≡ map valueless_client p.clients
  alike = ports_set valueless_client p.clients index c (valueless_client c) at_c refl

  was : (i : ℕ) (d : ClientPart K) → slice_get after.clients i ≡ Some d → (e : ClientPart K) × (slice_get p.clients i ≡ Some e)
      × (valueless_client e ≡ valueless_client d)
  was = before_it valueless_client p.clients after.clients alike

  still : (i : ℕ) (e : ClientPart K) → slice_get p.clients i ≡ Some e → (d : ClientPart K) × (slice_get after.clients i ≡ Some d)
      × (valueless_client d ≡ valueless_client e)
  still = before_it valueless_client after.clients p.clients (sym alike)

  many_clients : length after.clients ≡ length p.clients
  many_clients = length-set p.clients index (valueless_client c)

  -- and so are the senders
  abbrev own : Sender Q RequestDetails QH
  own = sender_of c.sender p.client_senders

  many : length after.client_senders ≡ length p.client_senders
  many = length-set p.client_senders c.sender (valueless own)

  same : {Y : Type 0} (f : Sender Q RequestDetails QH → Y) → f (valueless own) ≡ f own → (l : ℕ)
      → f (sender_of l after.client_senders) ≡ f (sender_of l p.client_senders)
  same f e l = set_alike p.client_senders c.sender (valueless own) no_sender f e l

  -- what is true of a sender, whether the value lives or not, stays true
  carry : (F : Sender Q RequestDetails QH → Type 0) (l : ℕ) → F (valueless (sender_of l p.client_senders))
      → F (valueless (sender_of l after.client_senders))
  carry F l = subst F (sym (same valueless refl l))

  back : (F : Sender Q RequestDetails QH → Type 0) (l : ℕ) → F (valueless (sender_of l after.client_senders))
      → F (valueless (sender_of l p.client_senders))
  back F l = subst F (same valueless refl l)

  details : (l i : ℕ) → request_details after l i ≡ request_details p l i
  details l i = same (λ x. slice_index_or x.messages.details i no_request) refl l

  number : (l i : ℕ) → (request_details after l i).number ≡ (request_details p l i).number
  number l i = ap (λ (n : RequestDetails). n.number) (details l i)

  used : (l i : ℕ) → 0 < uses (sender_of l after.client_senders).messages i → 0 < uses (sender_of l p.client_senders).messages i
  used = λ l i. back (λ x. 0 < uses x.messages i) l

  there : (l : ℕ) → l < length after.client_senders → l < length p.client_senders
  there l h = omega (arith, h, many)

  -- each handle has its place
  same_placing : (g : Stage) (sender slot : ℕ) → place_at after g sender slot ≡ place_at p g sender slot
  same_placing stage.RequestMutUninit l i = ap (λ r. record { row = r; index = i }) (same (λ x. x.row) refl l)
  same_placing stage.RequestMut l i = ap (λ r. record { row = r; index = i }) (same (λ x. x.row) refl l)
  same_placing (stage.PendingResponse hint connections) l i = ap (λ r. record { row = r; index = i }) (same (λ x. x.row) refl l)
  same_placing (stage.ActiveRequest server loans) l i =
      ap (λ r. record { row = r; index = (server_place p server + 1) * length (sender_of l after.client_senders).messages.held + i })
      (same (λ x. x.row) refl l)
      ∙ ap (λ n. record { row = (sender_of l p.client_senders).row; index = (server_place p server + 1) * n + i })
      (same (λ x. length x.messages.held) refl l)
  same_placing stage.ResponseMutUninit l i = refl
  same_placing stage.ResponseMut l i = refl
  same_placing stage.Response l i = refl

  here : slice_get (map (λ (c : ClientPart K). c.connected) p.clients) index ≡ Some c.connected
  here = listed (λ (c : ClientPart K). c.connected) p.clients index c at_c

  set : map (λ (c : ClientPart K). c.connected) after.clients
      ≡ slice_set (map (λ (c : ClientPart K). c.connected) p.clients) index (valueless_port c.connected)
  set = map-set_one (λ (c : ClientPart K). c.connected) p.clients index (valueless_client c)

  -- ports are where they were
  port_still : (l : ℕ) → HasPort (λ (c : ClientPart K). c.sender) p.clients l → HasPort (λ (c : ClientPart K). c.sender) after.clients l
  port_still l has = let d = still has.0 has.1 has.2 in (has.0, d.0, d.1, ap (λ (c : ClientPart K). c.sender) d.2 ∙ has.3)

  -- the core stays sound
  pub client_value_sound : IsSoundStore after empty_hand
  client_value_sound = record {
    counted = let n = sound.counted in record {
      requests = λ l i. same (λ x. slice_index x.messages.held i) refl l ∙ n.requests l i;
      responses = n.responses;
    };
    held_once = let n = sound.held_once in record {
      loans = λ k s at is. same (λ x. uses x.messages s.value.slot) refl s.value.sender ∙ n.loans k s at is;
      servers = λ l i server. carry (λ x. times i (queue_at x.messages (server_place p server) 0)
          + handles p (is_active_at l i server) empty_hand ≤ 1) l (n.servers l i server);
      responses = n.responses;
    };
    numbered = let n = sound.numbered in record {
      fresh = n.fresh;
      requests = λ k s at is. n.requests k s at is ∙ sym (number s.value.sender s.value.slot);
      pendings = λ k s at is. n.pendings k s at is ∙ sym (number s.value.sender s.value.slot);
      responses = n.responses;
      requests_below = λ l i h. omega (arith, n.requests_below l i (used l i h), number l i);
      responses_below = n.responses_below;
      requests_apart = λ l i m j h g e. n.requests_apart l i m j (used l i h) (used m j g) (sym (number l i) ∙ e ∙ number m j);
      responses_apart = n.responses_apart;
      kinds_apart = λ l i m j h g e. n.kinds_apart l i m j (used l i h) g (sym (number l i) ∙ e);
      actives_apart = λ k server l i s at is. let a = n.actives_apart k server l i s at is in
          (λ h e. a.0 (used l i h) (sym (number l i) ∙ e), a.1);
      received = λ k s at is. let r = n.received k s at is in let d = still r.0 r.1 r.2 in
          (r.0, d.0, d.1, ap (λ (c : ClientPart K). c.port.id) d.2 ∙ r.3);
      answering = λ l i k server loans s u at is f. let a = n.answering l i k server loans s u at is f in
          (number s.value.sender s.value.slot ∙ a.0, a.1);
    };
    addressed = let n = sound.addressed in record {
      requests = λ l i h. ap (λ (n : RequestDetails). n.client) (details l i) ∙ n.requests l i (used l i h) ∙ sym (same (λ x. x.owner) refl l);
      responses = n.responses;
      clients_below = n.clients_below;
      actives_below = n.actives_below;
      answered_below = n.answered_below;
      answers = λ l i m j h g e. let a = n.answers l i m j h (used m j g) (sym (number m j) ∙ e) in
          (a.0, a.1 ∙ sym (same (λ x. x.owner) refl m), a.2);
      client_senders = λ l i j d h at named. let e = was j d at in
          ap (λ (c : ClientPart K). c.sender) (sym e.2)
          ∙ n.client_senders l i j e.0 h e.1 (ap (λ (c : ClientPart K). c.port.id) e.2 ∙ named);
      entries = λ l i channel j d at h. let e = was j d at in
          let a = n.entries l i channel j e.0 e.1 (subst (λ r. 0 < times i (queue_at (sender_of l p.server_senders).messages r channel))
          (ap (λ (c : ClientPart K). c.receiver) (sym e.2)) h) in
          (a.0 ∙ ap (λ (c : ClientPart K). c.port.id) e.2, a.1);
    };
    inserted = let n = sound.inserted in record {
      placed = λ k s at. n.placed k s at ∙ sym (same_placing s.value.stage s.value.sender s.value.slot);
      client_rows = λ l h. carry (λ x. (x.row < length p.table.rows)
          × (slice_index p.table.rows x.row ≡ (p.limits.max_servers + 1) * length x.messages.held)) l (n.client_rows l (there l h));
      server_rows = n.server_rows;
      client_rows_apart = λ l m h g e. n.client_rows_apart l m (there l h) (there m g)
          (sym (same (λ x. x.row) refl l) ∙ e ∙ same (λ x. x.row) refl m);
      server_rows_apart = n.server_rows_apart;
      rows_apart = λ l m h g e. n.rows_apart l m (there l h) g (sym (same (λ x. x.row) refl l) ∙ e);
      active_servers = n.active_servers;
    };
    stored = let n = sound.stored in record {
      request_loans = λ l h. same (λ x. x.loans) refl l ∙ n.request_loans l (there l h);
      pendings = λ l h. same (λ x. x.pendings) refl l ∙ n.pendings l (there l h);
      response_loans = n.response_loans;
      active_loans = n.active_loans;
      borrowed_requests = λ l server h. same (λ x. borrowed_at x.messages (server_place p server) 0) refl l
          ∙ n.borrowed_requests l server (there l h);
      borrowed_responses = λ l i channel d h at. let e = was i d at in
          subst (λ (d : ClientPart K). borrowed_at (sender_of l p.server_senders).messages d.receiver channel
          ≡ handles p (is_received_at p l d.port.id channel) empty_hand) e.2 (n.borrowed_responses l i channel e.0 h e.1);
    };
    sized = let n = sound.sized in record {
      limits_fit = n.limits_fit;
      client_senders = λ l h. carry (λ x. IsShaped p.limits.max_servers 1 p.limits.max_active_requests_per_client x.messages) l
          (n.client_senders l (there l h));
      server_senders = n.server_senders;
      marks = λ l h. carry (λ x. length x.may_answer ≡ length x.messages.held * p.limits.max_servers) l (n.marks l (there l h));
      next_fits = n.next_fits;
      channels = λ l h. omega (arith, same (λ x. length x.messages.held) refl l, n.channels l (there l h));
      loans_made = λ i d at. let e = was i d at in omega (arith, n.loans_made i e.0 e.1, ap (λ (c : ClientPart K). c.loans_made) e.2);
      most_loans = n.most_loans;
      rows_fit = λ l h. carry (λ x. (p.limits.max_servers + 1) * length x.messages.held < 2 ^ 64) l (n.rows_fit l (there l h));
    };
    vacated = let n = sound.vacated in record {
      of_clients = λ l receiver channel none. n.of_clients l receiver channel (λ i e at is. let d = still i e at in
          none i d.0 d.1 (ap (λ (c : ClientPart K). c.receiver) d.2 ∙ is));
      of_servers = λ l receiver channel none. carry (λ x. (queue_at x.messages receiver channel ≡ [])
          × (borrowed_at x.messages receiver channel ≡ 0)) l (n.of_servers l receiver channel none);
      awaits_none = λ l i receiver server new fits. same (λ x. slice_index_or x.may_answer (i * p.limits.max_servers + receiver) no_server
          == server) refl l ∙ n.awaits_none l i receiver server new fits;
    };
    have_ports = let n = sound.have_ports in record {
      handles = λ k s at. let h = n.handles k s at in record {
        request_loan = λ is. port_still s.value.sender (h.request_loan is);
        pending = λ is. port_still s.value.sender (h.pending is);
        response_loan = h.response_loan;
      };
      apart = λ i j d s at at_s is. let e = was i d at in n.apart i j e.0 s e.1 at_s (ap (λ (c : ClientPart K). c.port.id) e.2 ∙ is);
      left_clients = subst (λ ks. HaveLeft ks p.left_clients after.client_senders) (sym set)
          (left_valueless p.next p.limits.max_clients (map (λ (c : ClientPart K). c.connected) p.clients) p.client_senders
          sound.client_ports index c.connected here p.left_clients n.left_clients);
      left_servers = n.left_servers;
      client_room = omega (arith, n.client_room, many_clients);
      server_room = n.server_room;
    };
    client_ports = subst (λ ks. HasSenders p.next p.limits.max_clients ks after.client_senders) (sym set)
        (senders_valueless p.next p.limits.max_clients (map (λ (c : ClientPart K). c.connected) p.clients) p.client_senders
        sound.client_ports index c.connected here);
    server_ports = sound.server_ports;
  }
