-- How states settle by releases, and as ports leave.
use Rattle.std.proofs.Common.{◌≡◌, ℕ, ◌+◌, ◌-◌, ◌<◌, Bool, true, false, cond, not, eqb, ◌&&◌, List, [], ◌∷◌, ◌++◌, map, take, length, Some, None, refl, sym, ap, ◌∙◌, subst, inl, arith, suc, zero}
use Rattle.std.specs.Prelude.{◌≢◌, ◌||◌, find, fold, filter, is_some, count_by}
use Rattle.std.specs.List.{AllByRecursion, list_any}
use Rattle.std.specs.Ordering.{nat_cmp}
use Rattle.std.specs.FinMap as fin_map
use Rattle.std.specs.FinMap.{get}
use Rattle.std.proofs.lemmas.Bool.{eq-eqb, eqb-true, ne_eqb}
use Rattle.rr_protocol.specs.Lists.{Lists, at, with_at}
use Rattle.rr_protocol.specs.Keys.{RequestKey, ResponseKey, request_key_cmp, response_key_cmp}
use Rattle.rr_protocol.specs.Messages.{RequestMessage, ResponseMessage, port_of}
use Rattle.rr_protocol.specs.Ports.{Server}
use Rattle.rr_protocol.specs.State.{State, client_at, server_at, all_handles, is_client_value, is_server_value}
use Rattle.rr_protocol.specs.Counts.{is_in_use}
use Rattle.rr_protocol.specs.Releases.{outdated_senders, map_handles, has_responses_from, has_requests_from, with_expired_client, with_expired_server, after_client_left, after_server_left, without_unused_port, without_server}
use Rattle.rr_protocol.proofs.KeyLaws.{request_keys_total, request_keys_exact, response_keys_total, response_keys_exact}
use Rattle.rr_protocol.proofs.ListsLaws.{at-retain_keys}
use Rattle.rr_laws.specs.Roles.{Question, Role, SentRequest, roles_of}
use Rattle.rr_laws.specs.Reached.{has_server, IsReached}
use Rattle.rr_laws.specs.Left.{IsGone, IsLeftFit}
use Rattle.rr_laws.specs.Following.{channel_key, queued}
use Rattle.rr_laws.specs.Settling.{listed, Settles}
use Rattle.rr_table.proofs.ListFacts.{all_each, all_append, find-gone, any-filter, any_weaker}
use Rattle.rr_laws.proofs.RoleLaws.{roles-map_handles}
use Rattle.rr_laws.proofs.Releasing.{without_server-role}
use Rattle.rr_laws.proofs.Expiring.{clients_expired, servers_expired}
use Rattle.rr_laws.proofs.Leaving.{no_handle_of}
use Rattle.rr_laws.proofs.LeftPorts.{AllListed, listed_servers}
use Rattle.rr_laws.proofs.Occurring.{false_is_true}
use Rattle.rr_laws.proofs.Moving.{entries-waiting}
use Rattle.rr_laws.proofs.Settling.{settles_by, same_servers, same_held, settles_same}

-- a fact of each element holds of the first ones
all_take : {X : Type 0} (P : X → Type 0) (k : ℕ) (xs : List X) → AllByRecursion P xs → AllByRecursion P (take k xs)
all_take P zero xs h = tt
all_take P (suc k) [] h = tt
all_take P (suc k) (x ∷ xs) h = (h.0, all_take P k xs h.1)

-- a number that differs from each of some is not among them
not_among : (n : ℕ) (xs : List ℕ) → AllByRecursion (λ x. x ≢ n) xs → list_any (λ x. eqb x n) xs ≡ false
not_among n [] h = refl
not_among n (x ∷ xs) h = ap (λ b. b || list_any (λ y. eqb y n) xs) (ne_eqb x n h.0) ∙ not_among n xs h.1

-- a list from which something was dropped by its key has no more of any number
pub retained_listed : {T H : Type 0} (lists : Lists request_key_cmp (RequestMessage T H)) (kept : RequestKey → Bool) (n : ℕ)
    (key : RequestKey) → 0 < listed (fin_map.retain_keys lists kept) n key → 0 < listed lists n key
retained_listed {T} {H} lists kept n key some = go (kept key)
    (subst (λ xs. 0 < count_by (λ (m : RequestMessage T H). eqb m.number n) xs)
    (at-retain_keys request_keys_total request_keys_exact lists kept key) some)
  where
    go : (b : Bool) → 0 < count_by (λ (m : RequestMessage T H). eqb m.number n) (cond b (at lists key) []) → 0 < listed lists n key
    go true h = h
    go false h = absurd (omega (arith, h))

-- a list whose key is kept stays
pub retained_kept : {T H : Type 0} (lists : Lists response_key_cmp (ResponseMessage T H)) (kept : ResponseKey → Bool) (key : ResponseKey)
    → kept key ≡ true → at (fin_map.retain_keys lists kept) key ≡ at lists key
retained_kept lists kept key is = at-retain_keys response_keys_total response_keys_exact lists kept key
    ∙ ap (λ b. cond b (at lists key) []) is

module _ {Q QH P PH K : Type 0} where
  -- the entries towards a request that waits are those of a list
  pub entries-serving : (s new : State Q QH P PH K) (server p : ℕ) (q : Question) → get (roles_of s.handles) p ≡ Some (SentRequest q)
      → get (roles_of new.handles) p ≡ Some (SentRequest q) →
      at new.responses (channel_key server q) ≡ at s.responses (channel_key server q) → queued new server p ≡ queued s server p
  entries-serving s new server p q was is same =
      entries-waiting (roles_of new.handles) new.responses server p (SentRequest q) q is refl ∙ ap (map (λ m. m.number)) same
      ∙ sym (entries-waiting (roles_of s.handles) s.responses server p (SentRequest q) q was refl)

  -- either of two states has no more of a number in its lists
  either_listed : (b : Bool) (x y s : State Q QH P PH K) (n : ℕ) (key : RequestKey)
      → (0 < listed x.requests n key → 0 < listed s.requests n key) → (0 < listed y.requests n key → 0 < listed s.requests n key) →
      0 < listed (cond b x y).requests n key → 0 < listed s.requests n key
  either_listed true x y s n key f g h = f h
  either_listed false x y s n key f g h = g h

  -- either of two states has the same list
  either_list : (b : Bool) (x y s : State Q QH P PH K) (key : ResponseKey) → at x.responses key ≡ at s.responses key
      → at y.responses key ≡ at s.responses key → at (cond b x y).responses key ≡ at s.responses key
  either_list true x y s key f g = f
  either_list false x y s key f g = g

  -- a client that leaves the servers adds no request to a list
  clients_listed : (client : ℕ) (servers : List ℕ) (s : State Q QH P PH K) (n : ℕ) (key : RequestKey)
      → 0 < listed (fold (with_expired_client client) s servers).requests n key → 0 < listed s.requests n key
  clients_listed client [] s n key some = some
  clients_listed client (server ∷ servers) s n key some =
      either_listed (has_requests_from s server client) _ s s n key (λ h. retained_listed s.requests _ n key h) (λ h. h)
      (clients_listed client servers (with_expired_client client s server) n key some)

  -- a list from a server that neither leaves nor left stays as a server leaves the clients
  servers_keep : (server other : ℕ) → server ≢ other → (clients : List ℕ) (s : State Q QH P PH K) → AllListed (λ n. n ≢ other) s
      → (key : ResponseKey) → key.server ≡ other →
      at (fold (with_expired_server server) s clients).responses key ≡ at s.responses key
  servers_keep server other apart [] s all key is = refl
  servers_keep server other apart (client ∷ clients) s all key is =
      servers_keep server other apart clients (with_expired_server server s client)
      (listed_servers (λ n. n ≢ other) server apart (client ∷ []) s all) key is
      ∙ either_list (has_responses_from s client server) _ s s key
      (retained_kept s.responses (λ k. not (eqb k.client client
      && list_any (λ c. eqb c k.server) (outdated_senders s.limits.client_expired_connection_buffer (at s.expired client) server))) key
      is_kept) refl
    where
      among : list_any (λ c. eqb c key.server) (outdated_senders s.limits.client_expired_connection_buffer (at s.expired client) server)
          ≡ false
      among = not_among key.server (outdated_senders s.limits.client_expired_connection_buffer (at s.expired client) server)
          (subst (λ k. AllByRecursion (λ x. x ≢ k) (outdated_senders s.limits.client_expired_connection_buffer
          (at s.expired client) server)) (sym is)
          (all_take (λ x. x ≢ other) (length (at s.expired client) + 1 - s.limits.client_expired_connection_buffer)
          (at s.expired client ++ server ∷ []) (all_append (λ x. x ≢ other) (at s.expired client) server (all client) apart)))

      is_kept : not (eqb key.client client && list_any (λ c. eqb c key.server)
          (outdated_senders s.limits.client_expired_connection_buffer (at s.expired client) server)) ≡ true
      is_kept = ap (λ b. not (eqb key.client client && b)) among ∙ second (eqb key.client client)
        where
          second : (b : Bool) → not (b && false) ≡ true
          second true = refl
          second false = refl

  -- a client is connected no more, and lists of responses towards it are gone
  client_gone : {Begins : ℕ → ℕ → Type 0} {Ends : ℕ → Type 0} (s : State Q QH P PH K) (client : ℕ) → is_in_use s client ≡ false
      → (requests : Lists request_key_cmp (RequestMessage Q QH)) (expired : Lists nat_cmp ℕ) →
      ((n : ℕ) (key : RequestKey) → 0 < listed requests n key → 0 < listed s.requests n key) →
      Settles Begins Ends (λ server p before after. after ≡ before) s
      (record s {
        clients = filter (λ c. not (eqb c.id client)) s.clients;
        requests = requests;
        responses = fin_map.retain_keys s.responses (λ key. not (eqb key.client client));
        expired = expired;
      })
  client_gone {Begins} {Ends} s client unused requests expired fewer =
      let new : State Q QH P PH K = record s {
        clients = filter (λ c. not (eqb c.id client)) s.clients;
        requests = requests;
        responses = fin_map.retain_keys s.responses (λ key. not (eqb key.client client));
        expired = expired;
      } in
      settles_by s new (omega arith) (same_servers s new refl) (same_held Ends s new refl) (λ n role q asks e. e)
      (λ server p was serves. entries-serving s new server p was.0.0 was.0.1 was.0.1
      (retained_kept s.responses (λ key. not (eqb key.client client)) (channel_key server was.0.0)
      (ap not (ne_eqb was.0.0.client client (no_handle_of s client unused p (SentRequest was.0.0) was.0.1)))))
      (λ n key some. (key, fewer n key some))

  -- a client that leaves
  client_left_settles : {Begins : ℕ → ℕ → Type 0} {Ends : ℕ → Type 0} (s : State Q QH P PH K) (client : ℕ) → IsReached s
      → is_in_use s client ≡ false →
      Settles Begins Ends (λ server p before after. after ≡ before) s (after_client_left s client)
  client_left_settles {Begins} {Ends} s client fits unused =
      let x = clients_expired client (map (λ c. c.id) s.servers) s fits in
      let fewer : (n : ℕ) (key : RequestKey) → 0 < listed x.0 n key → 0 < listed s.requests n key =
      λ n key. subst (λ (y : State Q QH P PH K). 0 < listed y.requests n key → 0 < listed s.requests n key) x.2
      (clients_listed client (map (λ c. c.id) s.servers) s n key) in
      subst (λ (y : State Q QH P PH K). Settles Begins Ends (λ server p before after. after ≡ before) s (record y {
        clients = filter (λ c. not (eqb c.id client)) y.clients;
        responses = fin_map.retain_keys y.responses (λ key. not (eqb key.client client));
        expired = with_at y.expired client [];
      })) (sym x.2)
      (client_gone s client unused x.0 (with_at x.1 client []) fewer)

  -- a server is connected no more, and lists of requests towards it are gone
  server_gone : {Begins : ℕ → ℕ → Type 0} {Ends : ℕ → Type 0} (s : State Q QH P PH K) (server : ℕ) → is_in_use s server ≡ false
      → (responses : Lists response_key_cmp (ResponseMessage P PH)) (expired : Lists nat_cmp ℕ) →
      ((other : ℕ) (c : Server K) → server_at s other ≡ Some c → server ≢ other → (key : ResponseKey) → key.server ≡ other
      → at responses key ≡ at s.responses key) →
      Settles Begins Ends (λ server p before after. after ≡ before) s
      (record s {
        servers = filter (λ c. not (eqb c.id server)) s.servers;
        handles = map_handles (without_server server) s.handles;
        requests = fin_map.retain_keys s.requests (λ key. not (eqb key.server server));
        responses = responses;
        expired = expired;
      })
  server_gone {Begins} {Ends} s server unused responses expired keeps =
      let new : State Q QH P PH K = record s {
        servers = filter (λ c. not (eqb c.id server)) s.servers;
        handles = map_handles (without_server server) s.handles;
        requests = fin_map.retain_keys s.requests (λ key. not (eqb key.server server));
        responses = responses;
        expired = expired;
      } in
      settles_by s new (omega arith)
      (λ n c e. (c, (stood n c (eqb n server) refl (sym (find-gone (λ (d : Server K). d.id) server n s.servers) ∙ e)).1, refl, refl))
      (λ n e. inl (any-filter (λ (c : Server K). eqb c.id n && c.has_value) (λ (c : Server K). not (eqb c.id server)) s.servers
      (any_weaker (λ (c : Server K). eqb c.id n && c.has_value) (λ (c : Server K). not (eqb c.id server) && (eqb c.id n && c.has_value))
      (λ c h. stays n (λ same. not_held n same e) (eqb c.id n) c.has_value c refl h) s.servers e)))
      (λ n role q asks e. same_role n role e)
      (λ other p was serves. entries-serving s new other p was.0.0 was.0.1
      (ap (λ r. get r p) (roles-map_handles (without_server server) (without_server-role server) s.handles) ∙ was.0.1)
      (keeps other was.1.0 was.1.1 (λ is. (stood other serves.1.0 (eqb other server) refl
      (sym (find-gone (λ (d : Server K). d.id) server other s.servers) ∙ serves.1.1)).0 (sym is)) (channel_key other was.0.0) refl))
      (λ n key some. (key, retained_listed s.requests (λ key. not (eqb key.server server)) n key some))
    where
      stood : (n : ℕ) (c : Server K) (b : Bool) → eqb n server ≡ b → cond b None (find (λ d. eqb d.id n) s.servers) ≡ Some c → (n ≢ server)
          × (find (λ d. eqb d.id n) s.servers ≡ Some c)
      stood n c true is e = absurd (let f : None ≡ Some c = e in cc)
      stood n c false is e = ((λ same. false_is_true (sym is ∙ eq-eqb n server same)), e)

      not_held : (n : ℕ) → n ≡ server → is_server_value s n ≡ true → ⊥
      not_held n same h = go (is_client_value s server) (is_server_value s server)
          (list_any (λ handle. eqb (port_of handle) server) (all_handles s)) (ap (is_server_value s) (sym same) ∙ h) unused
        where
          go : (a b c : Bool) → b ≡ true → (a || b || c) ≡ false → ⊥
          go true b c e f = false_is_true (sym f)
          go false true c e f = false_is_true (sym f)
          go false false c e f = false_is_true e

      stays : (n : ℕ) → (n ≡ server → ⊥) → (b h : Bool) (c : Server K) → eqb c.id n ≡ b → (b && h) ≡ true
          → (not (eqb c.id server) && (b && h)) ≡ true
      stays n other true true c is h = ap (λ b. not b && true) (ne_eqb c.id server (λ same. other (sym (eqb-true c.id n is) ∙ same)))
      stays n other true false c is h = absurd (false_is_true h)
      stays n other false b c is h = absurd (false_is_true h)

      same_role : (n : ℕ) (role : Role) → get (roles_of (map_handles (without_server server) s.handles)) n ≡ Some role
          → get (roles_of s.handles) n ≡ Some role
      same_role n role e = sym (ap (λ r. get r n) (roles-map_handles (without_server server) (without_server-role server) s.handles)) ∙ e

  -- a server that leaves
  server_left_settles : {Begins : ℕ → ℕ → Type 0} {Ends : ℕ → Type 0} (s : State Q QH P PH K) (server : ℕ) → IsReached s → IsLeftFit s
      → is_in_use s server ≡ false →
      Settles Begins Ends (λ server p before after. after ≡ before) s (after_server_left s server)
  server_left_settles {Begins} {Ends} s server fits left unused =
      let x = servers_expired server (map (λ c. c.id) s.clients) s fits in
      subst (λ (y : State Q QH P PH K). Settles Begins Ends (λ server p before after. after ≡ before) s (record y {
        servers = filter (λ c. not (eqb c.id server)) y.servers;
        handles = map_handles (without_server server) y.handles;
        requests = fin_map.retain_keys y.requests (λ key. not (eqb key.server server));
        expired = with_at y.expired server [];
      })) (sym x.2)
      (server_gone s server unused x.0 (with_at x.1 server []) (λ other c there apart key is.
      subst (λ (y : State Q QH P PH K). at y.responses key ≡ at s.responses key) x.2
      (servers_keep server other apart (map (λ c. c.id) s.clients) s
      (λ n. all_each (IsGone s.clients s.servers s.next) (λ k. k ≢ other)
      (λ k g same. false_is_true (sym g.no_server ∙ ap (has_server s.servers) same ∙ ap is_some there)) (at s.expired n) (left.gone n))
      key is)))

  -- a port that leaves if it is not in use
  pub unused_port_settles : {Begins : ℕ → ℕ → Type 0} {Ends : ℕ → Type 0} (s : State Q QH P PH K) (port : ℕ) → IsReached s → IsLeftFit s →
      Settles Begins Ends (λ server p before after. after ≡ before) s (without_unused_port s port)
  unused_port_settles {Begins} {Ends} s port fits left = go (is_in_use s port) (is_some (client_at s port)) refl
    where
      go : (used client : Bool) → is_in_use s port ≡ used → Settles Begins Ends (λ server p before after. after ≡ before) s
          (cond used s (cond client (after_client_left s port) (after_server_left s port)))
      go true client e = settles_same s s (omega arith) refl refl refl refl
      go false true e = client_left_settles s port fits e
      go false false e = server_left_settles s port fits left e
