-- Messages stay complete after a release, with what a port that leaves takes along.
use Rattle.std.proofs.Common.{◌≡◌, ℕ, Bool, true, false, cond, not, eqb, ◌&&◌, List, [], ◌∷◌, map, Option, Some, None, option_map, refl, subst, sym, ◌∙◌}
use Rattle.std.specs.Prelude.{fold, is_some}
use Rattle.std.specs.Option.{option_map_or}
use Rattle.std.specs.FinMap as fin_map
use Rattle.std.specs.FinMap.{get, remove}
use Rattle.rr_protocol.specs.Keys.{RequestKey, ResponseKey}
use Rattle.rr_protocol.specs.Messages.{Handle, RequestMutUninit, RequestMut, PendingResponse, ActiveRequest, ResponseMutUninit, ResponseMut, Response, port_of}
use Rattle.rr_protocol.specs.State.{State, client_at, handle_at}
use Rattle.rr_protocol.specs.Counts.{is_in_use}
use Rattle.rr_protocol.specs.Releases.{has_responses_from, has_requests_from, without_server, with_expired_client, with_expired_server, after_client_left, after_server_left, without_unused_port, without_port_value, after_handle_gone, after_release}
use Rattle.rr_protocol.proofs.HandleLaws.{get-map_handles}
use Rattle.rr_protocol.proofs.KeyLaws.{request_keys_total, request_keys_exact, response_keys_total, response_keys_exact}
use Rattle.rr_laws.specs.Complete.{HasComplete, AreComplete, MessagesComplete}
use Rattle.rr_laws.proofs.Putting.{shrinks_retained}
use Rattle.rr_laws.proofs.CompleteMessages.{complete_without, complete_requests, complete_responses, changed_complete, without_server_complete}

module _ {Q QH P PH K : Type 0} where
  -- requests under some keys are dropped
  requests_dropped : (s : State Q QH P PH K) (kept : RequestKey → Bool) → MessagesComplete s
      → AreComplete s.handles (fin_map.retain_keys s.requests kept) s.responses
  requests_dropped s kept all = complete_requests s.handles s.requests s.responses all (fin_map.retain_keys s.requests kept)
      (shrinks_retained request_keys_total request_keys_exact s.requests kept)

  -- responses under some keys are
  responses_dropped : (s : State Q QH P PH K) (kept : ResponseKey → Bool) → MessagesComplete s
      → AreComplete s.handles s.requests (fin_map.retain_keys s.responses kept)
  responses_dropped s kept all = complete_responses s.handles s.requests s.responses all (fin_map.retain_keys s.responses kept)
      (shrinks_retained response_keys_total response_keys_exact s.responses kept)

  either : (b : Bool) (x y : State Q QH P PH K) → MessagesComplete x → MessagesComplete y → MessagesComplete (cond b x y)
  either true x y e f = e
  either false x y e f = f

  clients_expired : (client : ℕ) (servers : List ℕ) (s : State Q QH P PH K) → MessagesComplete s
      → MessagesComplete (fold (with_expired_client client) s servers)
  clients_expired client [] s all = all
  clients_expired client (server ∷ servers) s all = clients_expired client servers (with_expired_client client s server)
      (either (has_requests_from s server client) _ s (requests_dropped s _ all) all)

  servers_expired : (server : ℕ) (clients : List ℕ) (s : State Q QH P PH K) → MessagesComplete s
      → MessagesComplete (fold (with_expired_server server) s clients)
  servers_expired server [] s all = all
  servers_expired server (client ∷ clients) s all = servers_expired server clients (with_expired_server server s client)
      (either (has_responses_from s client server) _ s (responses_dropped s _ all) all)

  client_left : (s : State Q QH P PH K) (client : ℕ) → MessagesComplete s → MessagesComplete (after_client_left s client)
  client_left s client all =
      responses_dropped (fold (with_expired_client client) s (map (λ c. c.id) s.servers)) (λ key. not (eqb key.client client))
      (clients_expired client (map (λ c. c.id) s.servers) s all)

  server_left : (s : State Q QH P PH K) (server : ℕ) → MessagesComplete s → MessagesComplete (after_server_left s server)
  server_left s server all =
      let left = fold (with_expired_server server) s (map (λ c. c.id) s.clients) in
      let rest = requests_dropped left (λ key. not (eqb key.server server)) (servers_expired server (map (λ c. c.id) s.clients) s all) in
      record {
        in_handles = λ n h e. was left rest.in_handles n h (get left.handles n) refl
            (sym (get-map_handles (without_server server) left.handles n) ∙ e);
        in_requests = rest.in_requests;
        in_responses = rest.in_responses;
      }
    where
      was : (t : State Q QH P PH K) → ((n : ℕ) (h : Handle Q QH P PH) → get t.handles n ≡ Some h → HasComplete h)
          → (n : ℕ) (h : Handle Q QH P PH) (o : Option (Handle Q QH P PH)) → get t.handles n ≡ o
          → option_map (without_server server) o ≡ Some h → HasComplete h
      was t each n h None is e = absurd (cc)
      was t each n h (Some x) is e =
          let same : without_server server x ≡ h = (cc) in
          subst (λ (y : Handle Q QH P PH). HasComplete y) same (without_server_complete server x (each n x is))

  -- after a port left, if it was not in use
  unused_port : (s : State Q QH P PH K) (port : ℕ) → MessagesComplete s → MessagesComplete (without_unused_port s port)
  unused_port s port all = either (is_in_use s port) s _ all
      (either (is_some (client_at s port)) (after_client_left s port) (after_server_left s port) (client_left s port all)
      (server_left s port all))

  -- after a handle is gone, and what goes with it
  handle_gone : (s : State Q QH P PH K) → MessagesComplete s → (h : Handle Q QH P PH) → MessagesComplete (after_handle_gone s h)
  handle_gone s all (RequestMutUninit m) = all
  handle_gone s all (RequestMut m) = all
  handle_gone s all (PendingResponse p) = responses_dropped s
      (λ key. not (eqb key.client p.message.client && eqb key.channel p.message.channel)) all
  handle_gone s all (ActiveRequest a) = changed_complete s a.message.number (without_server a.server)
      (λ h e c. without_server_complete a.server h c) all
  handle_gone s all (ResponseMutUninit m) = all
  handle_gone s all (ResponseMut m) = all
  handle_gone s all (Response m) = all

  -- after a release
  pub after_release_complete : (s : State Q QH P PH K) (n : ℕ) → MessagesComplete s → MessagesComplete (after_release s n)
  after_release_complete s n all = go (handle_at s n)
    where
      go : (o : Option (Handle Q QH P PH)) → MessagesComplete (option_map_or (λ handle. without_unused_port
          (after_handle_gone (record s { handles = remove s.handles n }) handle) (port_of handle)) o
          (without_unused_port (without_port_value s n) n))
      go None = unused_port (without_port_value s n) n all
      go (Some h) = unused_port _ (port_of h)
          (handle_gone (record s { handles = remove s.handles n }) (complete_without s.handles s.requests s.responses all n) h)
