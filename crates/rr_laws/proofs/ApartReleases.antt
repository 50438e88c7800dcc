-- Requests and responses stay apart through releases, and as ports leave.
use Rattle.std.proofs.Common.{◌≡◌, ℕ, ◌≤◌, Bool, true, false, cond, not, eqb, ◌&&◌, List, [], ◌∷◌, map, Option, Some, None, refl, sym, ap, ◌∙◌, subst, arith}
use Rattle.std.specs.Prelude.{fold, is_some}
use Rattle.std.specs.Option.{option_map_or}
use Rattle.std.specs.FinMap as fin_map
use Rattle.std.specs.FinMap.{remove}
use Rattle.rr_protocol.specs.Lists.{Lists}
use Rattle.rr_protocol.specs.Keys.{ResponseKey, response_key_cmp}
use Rattle.rr_protocol.specs.Messages.{ResponseMessage, Handle, RequestMutUninit, RequestMut, PendingResponse, ActiveRequest, ResponseMutUninit, ResponseMut, Response, port_of}
use Rattle.rr_protocol.specs.State.{State, client_at, handle_at}
use Rattle.rr_protocol.specs.Counts.{is_in_use}
use Rattle.rr_protocol.specs.Releases.{has_responses_from, has_requests_from, with_expired_client, with_expired_server, after_client_left, after_server_left, without_unused_port, without_port_value, without_server, after_handle_gone, after_release}
use Rattle.rr_protocol.proofs.KeyLaws.{response_keys_total, response_keys_exact}
use Rattle.rr_laws.specs.Roles.{roles_of}
use Rattle.rr_laws.specs.Reached.{IsReached}
use Rattle.rr_laws.specs.Apart.{standing, AreApart, IsApart}
use Rattle.rr_laws.proofs.RoleLaws.{roles-remove, roles-changed, roles-map_handles}
use Rattle.rr_laws.proofs.Putting.{shrinks_retained}
use Rattle.rr_laws.proofs.Releasing.{without_server-role, handle_gone_reached}
use Rattle.rr_laws.proofs.Leaving.{without_port_value_reached}
use Rattle.rr_laws.proofs.Apart.{asks_nothing_new_without, names_nothing_new_without, stay_apart, standing_shrinks, no_fewer}

module _ {Q QH P PH K : Type 0} where
  -- no list of responses has more of any number
  abbrev NoMore : State Q QH P PH K → State Q QH P PH K → Type 0
  NoMore s t = (number : ℕ) (key : ResponseKey) → standing t.responses number key ≤ standing s.responses number key

  -- the same roles, and no more entries
  quietly : (s t : State Q QH P PH K) → IsReached s → roles_of t.handles ≡ roles_of s.handles → NoMore s t → IsApart s → IsApart t
  quietly s t fits same fewer apart =
      subst (λ r. AreApart r t.responses) (sym same)
      (stay_apart s.limits (roles_of s.handles) (roles_of s.handles) s.next s.responses t.responses fits.response_lists (λ k p e. e)
      (λ k below none. none) fewer apart)

  retained : (s : State Q QH P PH K) (kept : ResponseKey → Bool) (number : ℕ) (key : ResponseKey)
      → standing (fin_map.retain_keys s.responses kept) number key ≤ standing s.responses number key
  retained s kept = standing_shrinks s.responses (fin_map.retain_keys s.responses kept)
      (shrinks_retained response_keys_total response_keys_exact s.responses kept)

  either_handles : (b : Bool) (x y s : State Q QH P PH K) → x.handles ≡ s.handles → y.handles ≡ s.handles → (cond b x y).handles ≡ s.handles
  either_handles true x y s e f = e
  either_handles false x y s e f = f

  either_responses : (b : Bool) (x y s : State Q QH P PH K) → x.responses ≡ s.responses → y.responses ≡ s.responses
      → (cond b x y).responses ≡ s.responses
  either_responses true x y s e f = e
  either_responses false x y s e f = f

  either_no_more : (b : Bool) (x y s : State Q QH P PH K) → NoMore s x → NoMore s y → NoMore s (cond b x y)
  either_no_more true x y s e f = e
  either_no_more false x y s e f = f

  either_apart : (b : Bool) (x y : State Q QH P PH K) → IsApart x → IsApart y → IsApart (cond b x y)
  either_apart true x y e f = e
  either_apart false x y e f = f

  pub clients_handles : (client : ℕ) (servers : List ℕ) (s : State Q QH P PH K)
      → (fold (with_expired_client client) s servers).handles ≡ s.handles
  clients_handles client [] s = refl
  clients_handles client (server ∷ servers) s = clients_handles client servers (with_expired_client client s server)
      ∙ either_handles (has_requests_from s server client) _ s s refl refl

  clients_responses : (client : ℕ) (servers : List ℕ) (s : State Q QH P PH K)
      → (fold (with_expired_client client) s servers).responses ≡ s.responses
  clients_responses client [] s = refl
  clients_responses client (server ∷ servers) s = clients_responses client servers (with_expired_client client s server)
      ∙ either_responses (has_requests_from s server client) _ s s refl refl

  pub servers_handles : (server : ℕ) (clients : List ℕ) (s : State Q QH P PH K)
      → (fold (with_expired_server server) s clients).handles ≡ s.handles
  servers_handles server [] s = refl
  servers_handles server (client ∷ clients) s = servers_handles server clients (with_expired_server server s client)
      ∙ either_handles (has_responses_from s client server) _ s s refl refl

  servers_no_more : (server : ℕ) (clients : List ℕ) (s : State Q QH P PH K) → NoMore s (fold (with_expired_server server) s clients)
  servers_no_more server [] s number key = omega arith
  servers_no_more server (client ∷ clients) s number key =
      let one : standing (with_expired_server server s client).responses number key ≤ standing s.responses number key =
      either_no_more (has_responses_from s client server) _ s s (retained s _) (λ n k. omega arith) number key in
      omega (arith, servers_no_more server clients (with_expired_server server s client) number key, one)

  client_left_apart : (s : State Q QH P PH K) (client : ℕ) → IsReached s → IsApart s → IsApart (after_client_left s client)
  client_left_apart s client fits apart =
      let left = fold (with_expired_client client) s (map (λ c. c.id) s.servers) in
      quietly s (after_client_left s client) fits (ap roles_of (clients_handles client (map (λ c. c.id) s.servers) s))
      (λ number key. omega (
        arith,
        retained left (λ k. not (eqb k.client client)) number key,
        ap (λ lists. standing lists number key) (clients_responses client (map (λ c. c.id) s.servers) s),
      )) apart

  server_left_apart : (s : State Q QH P PH K) (server : ℕ) → IsReached s → IsApart s → IsApart (after_server_left s server)
  server_left_apart s server fits apart =
      let left = fold (with_expired_server server) s (map (λ c. c.id) s.clients) in
      quietly s (after_server_left s server) fits
      (roles-map_handles (without_server server) (without_server-role server) left.handles
      ∙ ap roles_of (servers_handles server (map (λ c. c.id) s.clients) s))
      (servers_no_more server (map (λ c. c.id) s.clients) s) apart

  -- after a port left, if it was not in use
  pub unused_port_apart : (s : State Q QH P PH K) (port : ℕ) → IsReached s → IsApart s → IsApart (without_unused_port s port)
  unused_port_apart s port fits apart =
      either_apart (is_in_use s port) s _ apart
      (either_apart (is_some (client_at s port)) (after_client_left s port) (after_server_left s port) (client_left_apart s port fits apart)
      (server_left_apart s port fits apart))

  without : (s : State Q QH P PH K) (n : ℕ) (lists : Lists response_key_cmp (ResponseMessage P PH)) → IsReached s
      → ((number : ℕ) (key : ResponseKey) → standing lists number key ≤ standing s.responses number key) →
      IsApart s → AreApart (roles_of (remove s.handles n)) lists
  without s n lists fits fewer apart =
      subst (λ r. AreApart r lists) (sym (roles-remove s.handles n))
      (stay_apart s.limits (roles_of s.handles) (remove (roles_of s.handles) n) s.next s.responses lists fits.response_lists
      (asks_nothing_new_without (roles_of s.handles) n) (names_nothing_new_without (roles_of s.handles) n s.next) fewer apart)

  handle_gone_apart : (s : State Q QH P PH K) (n : ℕ) → IsReached s → IsApart s → (h : Handle Q QH P PH)
      → IsApart (after_handle_gone (record s { handles = remove s.handles n }) h)
  handle_gone_apart s n fits apart (RequestMutUninit m) = without s n s.responses fits (no_fewer s.responses) apart
  handle_gone_apart s n fits apart (RequestMut m) = without s n s.responses fits (no_fewer s.responses) apart
  handle_gone_apart s n fits apart (PendingResponse p) = without s n _ fits
      (retained s (λ key. not (eqb key.client p.message.client && eqb key.channel p.message.channel))) apart
  handle_gone_apart s n fits apart (ActiveRequest a) =
      subst (λ r. AreApart r s.responses) (sym (roles-changed (without_server a.server) (without_server-role a.server)
      (remove s.handles n) a.message.number)) (without s n s.responses fits (no_fewer s.responses) apart)
  handle_gone_apart s n fits apart (ResponseMutUninit m) = without s n s.responses fits (no_fewer s.responses) apart
  handle_gone_apart s n fits apart (ResponseMut m) = without s n s.responses fits (no_fewer s.responses) apart
  handle_gone_apart s n fits apart (Response m) = without s n s.responses fits (no_fewer s.responses) apart

  -- after a release
  pub after_release_apart : (s : State Q QH P PH K) (n : ℕ) → IsReached s → IsApart s → IsApart (after_release s n)
  after_release_apart s n fits apart = go (handle_at s n) refl
    where
      go : (o : Option (Handle Q QH P PH)) → handle_at s n ≡ o →
          IsApart (option_map_or (λ handle. without_unused_port
          (after_handle_gone (record s { handles = fin_map.remove s.handles n }) handle) (port_of handle)) o
          (without_unused_port (without_port_value s n) n))
      go None e = unused_port_apart (without_port_value s n) n (without_port_value_reached s n fits) apart
      go (Some h) e = unused_port_apart _ (port_of h) (handle_gone_reached s fits n h e) (handle_gone_apart s n fits apart h)
