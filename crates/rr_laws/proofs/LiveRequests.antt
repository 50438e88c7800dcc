-- A client's live requests are at most its loans, and the worst case of all else.
use Rattle.std.proofs.Common.{◌≡◌, ℕ, ◌+◌, ◌*◌, ◌≤◌, Bool, true, false, eqb, ◌&&◌, List, length, refl, sym, ap, ◌∙◌, subst, arith, add-mul}
use Rattle.std.specs.Prelude.{◌||◌, count_by, filter_map}
use Rattle.std.specs.List.{AllByRecursion, list_any}
use Rattle.std.specs.Option.{option_map_or}
use Rattle.std.specs.Cmp.{nat_cmp_total}
use Rattle.std.specs.FinMap.{entries}
use Rattle.std.proofs.Math.Nat.{mul-le-mul_right}
use Rattle.std.proofs.lemmas.Bool.{eq-eqb, eqb-true}
use Rattle.rr_table.specs.Maps.{tally}
use Rattle.rr_protocol.specs.Lists.{at, all_elements}
use Rattle.rr_protocol.specs.Keys.{RequestKey, request_key}
use Rattle.rr_protocol.specs.Messages.{RequestMessage, Handle, RequestMutUninit, RequestMut, PendingResponse, ActiveRequest, ResponseMutUninit, ResponseMut, Response, request_in}
use Rattle.rr_protocol.specs.Ports.{Server}
use Rattle.rr_protocol.specs.State.{State, all_handles}
use Rattle.rr_protocol.specs.Counts.{live_requests}
use Rattle.rr_protocol.proofs.KeyLaws.{request_keys_total}
use Rattle.rr_laws.specs.Roles.{Role, LoanedRequest, SentRequest, ReceivedRequest, LoanedResponse, ReceivedResponse, role_of, roles_of, loans_request, waits, holds_request}
use Rattle.rr_laws.specs.Reached.{has_port, RequestFits, IsReached}
use Rattle.rr_table.proofs.ListFacts.{any_weaker, all_each, any_found}
use Rattle.rr_table.proofs.MapFacts.{all_entries, one_entry}
use Rattle.rr_table.proofs.Counting.{count-parts, count-bins, count-filter_map}
use Rattle.rr_laws.proofs.RoleLaws.{count-roles}
use Rattle.rr_laws.proofs.Counts.{and_first, and_second}
use Rattle.rr_laws.proofs.Bins.{all_of, distinct_parts, all_lists, count_elements}

-- a request of this client that a server received
is_received_of : ℕ → Role → Bool
is_received_of client (ReceivedRequest server q) = eqb q.client client
is_received_of client _ = false

-- a request of this client, wherever it stands
is_request_of : ℕ → Role → Bool
is_request_of client (LoanedRequest q) = eqb q.client client
is_request_of client (SentRequest q) = eqb q.client client
is_request_of client (ReceivedRequest server q) = eqb q.client client
is_request_of client _ = false

-- two tests that pass
pub both_true : (a b : Bool) → a ≡ true → b ≡ true → (a && b) ≡ true
both_true true b e f = f
both_true false b e f = absurd (cc)

two_parts : (loans waits received all rest : ℕ) → all ≤ loans + rest → rest ≤ waits + received → all ≤ loans + waits + received
two_parts loans waits received all rest e f = omega (arith, e, f)

module _ {Q QH P PH K : Type 0} (s : State Q QH P PH K) (fits : IsReached s) (client : ℕ) where
  received_le : tally (is_received_of client) (roles_of s.handles) ≤ length s.servers * s.limits.max_active_requests_per_client
  unfolding is_received_of
  received_le =
      count-bins (λ (server : Server K) (e : ℕ × Role). holds_request (request_key client server.id) e.1)
      s.limits.max_active_requests_per_client (λ e. is_received_of client e.1) s.servers (entries (roles_of s.handles))
      (all_entries nat_cmp_total _ (roles_of s.handles) (λ n role e. in_bin role (fits.handles n role e).connected))
      (all_of _ (λ server. fits.counts.held_requests (request_key client server.id)) s.servers)
    where
      in_bin : (role : Role) → has_port s.clients s.servers role ≡ true → is_received_of client role ≡ true
          → list_any (λ (server : Server K). holds_request (request_key client server.id) role) s.servers ≡ true
      in_bin (ReceivedRequest server q) there e =
          any_weaker (λ c. eqb c.id server) (λ c. eqb q.client client && eqb server c.id)
          (λ c h. both_true _ _ e (eq-eqb server c.id (sym (eqb-true c.id server h)))) s.servers
          (sym (any_found (λ c. eqb c.id server) s.servers) ∙ there)
      in_bin (LoanedRequest q) there e = absurd (cc)
      in_bin (SentRequest q) there e = absurd (cc)
      in_bin (LoanedResponse a) there e = absurd (cc)
      in_bin (ReceivedResponse a) there e = absurd (cc)

  in_handles : count_by (λ m. eqb m.client client) (filter_map request_in (all_handles s)) ≡ tally (is_request_of client)
      (roles_of s.handles)
  unfolding is_request_of
  in_handles = count-filter_map request_in (λ m. eqb m.client client) (all_handles s)
      ∙ count-roles (λ h. option_map_or (λ m. eqb m.client client) (request_in h) false) (is_request_of client) same s.handles
    where
      same : (h : Handle Q QH P PH) → option_map_or (λ m. eqb m.client client) (request_in h) false ≡ is_request_of client (role_of h)
      same (RequestMutUninit m) = refl
      same (RequestMut m) = refl
      same (PendingResponse p) = refl
      same (ActiveRequest a) = refl
      same (ResponseMutUninit m) = refl
      same (ResponseMut m) = refl
      same (Response m) = refl

  in_handles_le : tally (is_request_of client) (roles_of s.handles) ≤ tally (loans_request client) (roles_of s.handles) + tally
      (waits client) (roles_of s.handles) + tally (is_received_of client) (roles_of s.handles)
  unfolding is_request_of is_received_of
  in_handles_le =
      let es = entries (roles_of s.handles) in
      two_parts _ _ _ _ (count_by (λ (e : ℕ × Role). waits client e.1 || is_received_of client e.1) es)
      (count-parts (λ (e : ℕ × Role). is_request_of client e.1) (λ e. loans_request client e.1)
      (λ e. waits client e.1 || is_received_of client e.1) (λ e. first e.1) es)
      (count-parts (λ (e : ℕ × Role). waits client e.1 || is_received_of client e.1) (λ e. waits client e.1)
      (λ e. is_received_of client e.1) (λ e h. h) es)
    where
      first : (role : Role) → is_request_of client role ≡ true
          → (loans_request client role || (waits client role || is_received_of client role)) ≡ true
      first (LoanedRequest q) e = ap (λ b. b || false) e
      first (SentRequest q) e = ap (λ b. b || false) e
      first (ReceivedRequest server q) e = e
      first (LoanedResponse a) e = absurd (cc)
      first (ReceivedResponse a) e = absurd (cc)

  lists_le : count_by (λ (e : RequestKey × (RequestMessage Q QH × List (RequestMessage Q QH))). eqb e.0.client client)
      (entries s.requests) ≤ length s.servers * 1
  lists_le =
      count-bins (λ (server : Server K) (e : RequestKey × (RequestMessage Q QH × List (RequestMessage Q QH))). eqb e.0.client client
      && eqb e.0.server server.id) 1 (λ e. eqb e.0.client client) s.servers (entries s.requests)
      (all_lists request_keys_total _ s.requests (λ key m rest e is.
      let f = (subst (AllByRecursion (RequestFits s.limits s.servers (roles_of s.handles) s.next key)) e (fits.request_lists.each key)).0 in
      any_weaker (λ c. eqb c.id key.server) (λ c. eqb key.client client && eqb key.server c.id)
      (λ c h. both_true _ _ is (eq-eqb key.server c.id (sym (eqb-true c.id key.server h)))) s.servers
      (sym (any_found (λ c. eqb c.id key.server) s.servers) ∙ f.server)))
      (all_of _ (λ server. one_entry request_keys_total (λ key. eqb key.client client && eqb key.server server.id)
      (request_key client server.id) (λ key h. only key server.id h) s.requests) s.servers)
    where
      only : (key : RequestKey) (server : ℕ) → (eqb key.client client && eqb key.server server) ≡ true → key ≡ request_key client server
      only key server h = let c = eqb-true key.client client (and_first (eqb key.client client) (eqb key.server server) h) in
          let v = eqb-true key.server server (and_second (eqb key.client client) (eqb key.server server) h) in λ i. request_key (c i) (v i)

  in_lists_le : count_by (λ m. eqb m.client client) (all_elements s.requests) ≤ length s.servers * s.limits.max_active_requests_per_client
  in_lists_le =
      fewer _ _ _ _
      (count_elements request_keys_total (λ m. eqb m.client client)
      (λ key. eqb key.client client) s.limits.max_active_requests_per_client s.requests fits.request_lists.short
      (λ key. all_each _ _ (λ m f e. eq-eqb key.client client (sym f.client ∙ eqb-true m.client client e)) (at s.requests key)
      (fits.request_lists.each key)))
      lists_le
    where
      fewer : (all lists servers most : ℕ) → all ≤ lists * most → lists ≤ servers * 1 → all ≤ servers * most
      fewer all lists servers most e f = let g = mul-le-mul_right {m = lists} {n = servers} most (omega (arith, f)) in omega (arith, e, g)

  -- the live requests of a client
  pub live_requests_le : live_requests s client ≤ tally (loans_request client)
      (roles_of s.handles) + s.limits.max_active_requests_per_client + s.limits.max_servers * 2 * s.limits.max_active_requests_per_client
  live_requests_le =
      let all = distinct_parts (λ m. m.number) (λ m. eqb m.client client) (filter_map request_in (all_handles s))
      (all_elements s.requests) in
      sum _ _ _ _ _ _ _ s.limits.max_active_requests_per_client (length s.servers) s.limits.max_servers all in_handles in_handles_le
      (fits.counts.waiting client) received_le in_lists_le fits.ports.few_servers
    where
      sum : (live handles lists role loans waiting received active servers most : ℕ) → live ≤ handles + lists → handles ≡ role
          → role ≤ loans + waiting + received → waiting ≤ active → received ≤ servers * active →
          lists ≤ servers * active → servers ≤ most → live ≤ loans + active + most * 2 * active
      sum live handles lists role loans waiting received active servers most a b c d e f g =
          let h = mul-le-mul_right {m = servers} {n = most} active g in
          let twice : most * 2 ≡ most + most = omega arith in
          let i : most * 2 * active ≡ most * active + most * active = ap (λ k. k * active) twice ∙ add-mul most most active in
          omega (arith, a, b, c, d, e, f, h, i)
