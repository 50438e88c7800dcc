-- A hub fits after what a port sent expired, as the port leaves.
use Rattle.std.proofs.Common.{◌≡◌, ℕ, Bool, true, false, cond, not, eqb, ◌&&◌, List, [], ◌∷◌, refl, ap, ◌∙◌}
use Rattle.std.specs.Prelude.{fold}
use Rattle.std.specs.List.{list_any}
use Rattle.std.specs.Ordering.{nat_cmp}
use Rattle.std.specs.FinMap as fin_map
use Rattle.rr_protocol.specs.Lists.{Lists, at, with_at}
use Rattle.rr_protocol.specs.Keys.{RequestKey, ResponseKey, request_key_cmp, response_key_cmp}
use Rattle.rr_protocol.specs.Messages.{RequestMessage, ResponseMessage}
use Rattle.rr_protocol.specs.State.{State}
use Rattle.rr_protocol.specs.Releases.{outdated_senders, kept_senders, has_responses_from, has_requests_from, room_for_expired_clients, with_expired_client, with_expired_server}
use Rattle.rr_protocol.proofs.KeyLaws.{request_keys_total, request_keys_exact, response_keys_total, response_keys_exact}
use Rattle.rr_laws.specs.Roles.{roles_of}
use Rattle.rr_laws.specs.Reached.{RequestsFit, ResponsesFit, Fits, IsReached}
use Rattle.rr_laws.proofs.Staying.{requests_shrink, responses_shrink}
use Rattle.rr_laws.proofs.Putting.{shrinks_retained}

module _ {Q QH P PH K : Type 0} where
  -- a hub in which a list of left senders, and with it some lists of requests, are others
  abbrev pub WithRequests : State Q QH P PH K → State Q QH P PH K → Type 0
  WithRequests s new =
      (requests : Lists request_key_cmp (RequestMessage Q QH)) × (expired : Lists nat_cmp ℕ)
      × (new ≡ record s { requests = requests; expired = expired })
      × IsReached (record s { requests = requests; expired = expired })

  -- the same with lists of responses
  abbrev pub WithResponses : State Q QH P PH K → State Q QH P PH K → Type 0
  WithResponses s new =
      (responses : Lists response_key_cmp (ResponseMessage P PH)) × (expired : Lists nat_cmp ℕ)
      × (new ≡ record s { responses = responses; expired = expired })
      × IsReached (record s { responses = responses; expired = expired })

  -- lists of requests of which those under some keys were dropped
  pub requests_dropped : (s : State Q QH P PH K) (kept : RequestKey → Bool) → IsReached s
      → RequestsFit s.limits s.servers (roles_of s.handles) s.next (fin_map.retain_keys s.requests kept)
  requests_dropped s kept fits =
      requests_shrink s.limits (roles_of s.handles) s.next s.servers s.requests (fin_map.retain_keys s.requests kept)
      (shrinks_retained request_keys_total request_keys_exact s.requests kept) fits.request_lists

  -- lists of responses of which those under some keys were dropped
  pub responses_dropped : (s : State Q QH P PH K) (kept : ResponseKey → Bool) → IsReached s
      → ResponsesFit s.limits s.clients s.servers (roles_of s.handles) s.next (fin_map.retain_keys s.responses kept)
  responses_dropped s kept fits =
      responses_shrink s.limits (roles_of s.handles) s.next s.clients s.servers s.responses (fin_map.retain_keys s.responses kept)
      (shrinks_retained response_keys_total response_keys_exact s.responses kept) fits.response_lists

  -- other lists of requests
  pub fits_with_requests : (s : State Q QH P PH K) (requests : Lists request_key_cmp (RequestMessage Q QH)) → IsReached s
      → RequestsFit s.limits s.servers (roles_of s.handles) s.next requests →
      Fits s.limits s.clients s.servers (roles_of s.handles) requests s.responses s.next
  fits_with_requests s requests fits lists =
      record {
        makes_hub = fits.makes_hub;
        ports = fits.ports;
        handles = fits.handles;
        counts = fits.counts;
        request_lists = lists;
        response_lists = fits.response_lists;
      }

  -- other lists of responses
  pub fits_with_responses : (s : State Q QH P PH K) (responses : Lists response_key_cmp (ResponseMessage P PH)) → IsReached s
      → ResponsesFit s.limits s.clients s.servers (roles_of s.handles) s.next responses →
      Fits s.limits s.clients s.servers (roles_of s.handles) s.requests responses s.next
  fits_with_responses s responses fits lists =
      record {
        makes_hub = fits.makes_hub;
        ports = fits.ports;
        handles = fits.handles;
        counts = fits.counts;
        request_lists = fits.request_lists;
        response_lists = lists;
      }

  -- a server's list of left clients after one more left
  one_client_expired : (client server : ℕ) (s : State Q QH P PH K) → IsReached s → WithRequests s (with_expired_client client s server)
  one_client_expired client server s fits = go (has_requests_from s server client)
    where
      gone : List ℕ
      gone = outdated_senders (room_for_expired_clients s) (at s.expired server) client

      kept : RequestKey → Bool
      kept key = not (eqb key.server server && list_any (λ c. eqb c key.client) gone)

      go : (b : Bool) → WithRequests s (cond b (record s {
        requests = fin_map.retain_keys s.requests kept;
        expired = with_at s.expired server (kept_senders (room_for_expired_clients s) (at s.expired server) client);
      }) s)
      go true = (_, _, refl, fits_with_requests s _ fits (requests_dropped s kept fits))
      go false = (s.requests, s.expired, refl, fits)

  -- after a client left all servers
  pub clients_expired : (client : ℕ) (servers : List ℕ) (s : State Q QH P PH K) → IsReached s
      → WithRequests s (fold (with_expired_client client) s servers)
  clients_expired client [] s fits = (s.requests, s.expired, refl, fits)
  clients_expired client (server ∷ servers) s fits =
      let one = one_client_expired client server s fits in
      let rest = clients_expired client servers (record s { requests = one.0; expired = one.1 }) one.3 in
      (rest.0, rest.1, ap (λ (x : State Q QH P PH K). fold (with_expired_client client) x servers) one.2 ∙ rest.2, rest.3)

  -- a client's list of left servers after one more left
  one_server_expired : (server client : ℕ) (s : State Q QH P PH K) → IsReached s → WithResponses s (with_expired_server server s client)
  one_server_expired server client s fits = go (has_responses_from s client server)
    where
      gone : List ℕ
      gone = outdated_senders s.limits.client_expired_connection_buffer (at s.expired client) server

      kept : ResponseKey → Bool
      kept key = not (eqb key.client client && list_any (λ c. eqb c key.server) gone)

      go : (b : Bool) → WithResponses s (cond b (record s {
        responses = fin_map.retain_keys s.responses kept;
        expired = with_at s.expired client (kept_senders s.limits.client_expired_connection_buffer (at s.expired client) server);
      }) s)
      go true = (_, _, refl, fits_with_responses s _ fits (responses_dropped s kept fits))
      go false = (s.responses, s.expired, refl, fits)

  -- after a server left all clients
  pub servers_expired : (server : ℕ) (clients : List ℕ) (s : State Q QH P PH K) → IsReached s
      → WithResponses s (fold (with_expired_server server) s clients)
  servers_expired server [] s fits = (s.responses, s.expired, refl, fits)
  servers_expired server (client ∷ clients) s fits =
      let one = one_server_expired server client s fits in
      let rest = servers_expired server clients (record s { responses = one.0; expired = one.1 }) one.3 in
      (rest.0, rest.1, ap (λ (x : State Q QH P PH K). fold (with_expired_server server) x clients) one.2 ∙ rest.2, rest.3)
