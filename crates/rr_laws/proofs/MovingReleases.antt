-- Releases and ports that leave move quietly.
use Rattle.std.proofs.Common.{◌≡◌, ℕ, Bool, true, false, cond, not, eqb, ◌&&◌, List, [], ◌∷◌, map, Option, Some, None, refl, sym, ap, ◌∙◌, subst, arith}
use Rattle.std.specs.Prelude.{fold, filter, is_some}
use Rattle.std.specs.Option.{option_map_or}
use Rattle.std.specs.FinMap as fin_map
use Rattle.std.specs.FinMap.{get, remove}
use Rattle.rr_table.proofs.MapLaws.{get-remove_cases}
use Rattle.rr_protocol.specs.Lists.{with_at}
use Rattle.rr_protocol.specs.Messages.{Handle, RequestMutUninit, RequestMut, PendingResponse, ActiveRequest, ResponseMutUninit, ResponseMut, Response, port_of}
use Rattle.rr_protocol.specs.State.{State, client_at, handle_at}
use Rattle.rr_protocol.specs.Counts.{is_in_use}
use Rattle.rr_protocol.specs.Releases.{map_handles, has_responses_from, with_expired_server, after_client_left, after_server_left, without_unused_port, without_port_value, without_server, after_handle_gone, after_release}
use Rattle.rr_laws.specs.Roles.{roles_of}
use Rattle.rr_laws.specs.Reached.{IsReached}
use Rattle.rr_laws.specs.Following.{MovesQuietly}
use Rattle.rr_laws.proofs.RoleLaws.{roles-remove, roles-changed, roles-map_handles}
use Rattle.rr_laws.proofs.Releasing.{without_server-role, handle_gone_reached}
use Rattle.rr_laws.proofs.Expiring.{clients_expired, servers_expired}
use Rattle.rr_laws.proofs.Leaving.{without_port_value_reached}
use Rattle.rr_laws.proofs.Moving.{DropsLists, drops_none, drops_retained, drops_more, moves_quietly, moves_same, then_quietly}

module _ {Q QH P PH K : Type 0} where
  -- either of two states dropped lists
  either_drops : (b : Bool) (x y s : State Q QH P PH K) → DropsLists s.responses x.responses → DropsLists s.responses y.responses
      → DropsLists s.responses (cond b x y).responses
  either_drops true x y s e f = e
  either_drops false x y s e f = f

  -- a server that leaves the clients drops lists of responses
  pub servers_drop : (server : ℕ) (clients : List ℕ) (s : State Q QH P PH K)
      → DropsLists s.responses (fold (with_expired_server server) s clients).responses
  servers_drop server [] s = drops_none s.responses
  servers_drop server (client ∷ clients) s =
      drops_more s.responses (with_expired_server server s client).responses
      (fold (with_expired_server server) (with_expired_server server s client) clients).responses
      (either_drops (has_responses_from s client server) _ s s (drops_retained s.responses _) (drops_none s.responses))
      (servers_drop server clients (with_expired_server server s client))

  -- a client that leaves
  client_left_quietly : (s : State Q QH P PH K) (client : ℕ) → IsReached s → MovesQuietly s (after_client_left s client)
  client_left_quietly s client fits =
      let x = clients_expired client (map (λ c. c.id) s.servers) s fits in
      subst (λ (y : State Q QH P PH K). MovesQuietly s (record y {
        clients = filter (λ c. not (eqb c.id client)) y.clients;
        responses = fin_map.retain_keys y.responses (λ key. not (eqb key.client client));
        expired = with_at y.expired client [];
      })) (sym x.2)
      (moves_quietly s _ (omega arith) (λ n role e. e) (drops_retained s.responses (λ key. not (eqb key.client client))))

  -- a server that leaves
  server_left_quietly : (s : State Q QH P PH K) (server : ℕ) → IsReached s → MovesQuietly s (after_server_left s server)
  server_left_quietly s server fits =
      let x = servers_expired server (map (λ c. c.id) s.clients) s fits in
      let drops : DropsLists s.responses x.0 = subst (λ (y : State Q QH P PH K). DropsLists s.responses y.responses) x.2
      (servers_drop server (map (λ c. c.id) s.clients) s) in
      subst (λ (y : State Q QH P PH K). MovesQuietly s (record y {
        servers = filter (λ c. not (eqb c.id server)) y.servers;
        handles = map_handles (without_server server) y.handles;
        requests = fin_map.retain_keys y.requests (λ key. not (eqb key.server server));
        expired = with_at y.expired server [];
      })) (sym x.2)
      (moves_quietly s _ (omega arith)
      (λ n role e. sym (ap (λ r. get r n) (roles-map_handles (without_server server) (without_server-role server) s.handles)) ∙ e) drops)

  -- a port that leaves if it is not in use
  pub unused_port_quietly : (s : State Q QH P PH K) (port : ℕ) → IsReached s → MovesQuietly s (without_unused_port s port)
  unused_port_quietly s port fits = go (is_in_use s port) (is_some (client_at s port))
    where
      go : (used client : Bool) → MovesQuietly s (cond used s (cond client (after_client_left s port) (after_server_left s port)))
      go true client = moves_same s s (omega arith) refl refl
      go false true = client_left_quietly s port fits
      go false false = server_left_quietly s port fits

  -- a handle that is taken away
  pub removed_quietly : (s : State Q QH P PH K) (n : ℕ) → MovesQuietly s (record s { handles = remove s.handles n })
  removed_quietly s n = moves_quietly s _ (omega arith)
      (λ k role e. (get-remove_cases (roles_of s.handles) n k role (sym (ap (λ r. get r k) (roles-remove s.handles n)) ∙ e)).1)
      (drops_none s.responses)

  -- what goes with a handle
  gone_quietly : (s : State Q QH P PH K) (h : Handle Q QH P PH) → MovesQuietly s (after_handle_gone s h)
  gone_quietly s (RequestMutUninit m) = moves_same s s (omega arith) refl refl
  gone_quietly s (RequestMut m) = moves_same s s (omega arith) refl refl
  gone_quietly s (PendingResponse p) = moves_quietly s _ (omega arith) (λ n role e. e)
      (drops_retained s.responses (λ key. not (eqb key.client p.message.client && eqb key.channel p.message.channel)))
  gone_quietly s (ActiveRequest a) = moves_same s _ (omega arith)
      (roles-changed (without_server a.server) (without_server-role a.server) s.handles a.message.number) refl
  gone_quietly s (ResponseMutUninit m) = moves_same s s (omega arith) refl refl
  gone_quietly s (ResponseMut m) = moves_same s s (omega arith) refl refl
  gone_quietly s (Response m) = moves_same s s (omega arith) refl refl

  -- the release of a handle, once it is taken away
  pub released_quietly : (s : State Q QH P PH K) (n : ℕ) (h : Handle Q QH P PH) → IsReached s → handle_at s n ≡ Some h
      → MovesQuietly (record s { handles = remove s.handles n }) (after_release s n)
  released_quietly s n h fits is =
      let removed : State Q QH P PH K = record s { handles = remove s.handles n } in
      subst (λ o. MovesQuietly removed (option_map_or (λ handle. without_unused_port
      (after_handle_gone (record s { handles = remove s.handles n }) handle) (port_of handle)) o
      (without_unused_port (without_port_value s n) n))) (sym is)
      (then_quietly removed (after_handle_gone removed h) _ (gone_quietly removed h)
      (unused_port_quietly (after_handle_gone removed h) (port_of h) (handle_gone_reached s fits n h is)))

  -- a release
  pub after_release_quietly : (s : State Q QH P PH K) (n : ℕ) → IsReached s → MovesQuietly s (after_release s n)
  after_release_quietly s n fits = go (handle_at s n) refl
    where
      go : (o : Option (Handle Q QH P PH)) → handle_at s n ≡ o → MovesQuietly s (after_release s n)
      go None is = subst (λ o. MovesQuietly s (option_map_or (λ handle. without_unused_port
          (after_handle_gone (record s { handles = remove s.handles n }) handle) (port_of handle)) o
          (without_unused_port (without_port_value s n) n))) (sym is)
          (then_quietly s (without_port_value s n) _ (moves_same s (without_port_value s n) (omega arith) refl refl)
          (unused_port_quietly (without_port_value s n) n (without_port_value_reached s n fits)))
      go (Some h) is = then_quietly s (record s { handles = remove s.handles n }) _ (removed_quietly s n) (released_quietly s n h fits is)
