-- A server's live responses are at most its loans, and the worst case of all else.
use Rattle.std.proofs.Common.{◌≡◌, ℕ, ◌+◌, ◌*◌, ◌<◌, ◌≤◌, Bool, true, false, eqb, ◌&&◌, List, length, refl, sym, ap, ◌∙◌, subst, arith}
use Rattle.std.specs.Prelude.{◌||◌, count_by, filter, filter_map}
use Rattle.std.specs.List.{AllByRecursion, list_any}
use Rattle.std.specs.Option.{option_map_or}
use Rattle.std.specs.Cmp.{nat_cmp_total}
use Rattle.std.specs.FinMap.{entries}
use Rattle.std.proofs.Math.Nat.{mul-le-mul_right, mul_assoc, mul-add}
use Rattle.std.proofs.lemmas.Bool.{eq-eqb, eqb-true}
use Rattle.std.proofs.lemmas.List.Sums.{length-filter}
use Rattle.std.proofs.lemmas.Map.Views.{any-filter_same}
use Rattle.rr_table.specs.Maps.{tally}
use Rattle.rr_protocol.specs.Limits.{worst_case_requests}
use Rattle.rr_protocol.specs.Lists.{at, all_elements}
use Rattle.rr_protocol.specs.Keys.{ResponseKey}
use Rattle.rr_protocol.specs.Messages.{ResponseMessage, Handle, RequestMutUninit, RequestMut, PendingResponse, ActiveRequest, ResponseMutUninit, ResponseMut, Response, response_in}
use Rattle.rr_protocol.specs.Ports.{Client}
use Rattle.rr_protocol.specs.State.{State, all_handles}
use Rattle.rr_protocol.specs.Counts.{live_responses}
use Rattle.rr_protocol.proofs.KeyLaws.{response_keys_total}
use Rattle.rr_laws.specs.Roles.{Question, Role, LoanedRequest, SentRequest, ReceivedRequest, LoanedResponse, ReceivedResponse, role_of, roles_of, answered, answer_of, subject_of, loans_response, waits, holds_response}
use Rattle.rr_laws.specs.Reached.{has_port, ResponseFits, IsReached}
use Rattle.rr_table.proofs.ListFacts.{any_weaker, all_each, any_found}
use Rattle.rr_table.proofs.MapFacts.{all_entries, one_entry, any_value}
use Rattle.rr_table.proofs.Counting.{count-parts, count-bins, count-filter_map}
use Rattle.rr_laws.proofs.RoleLaws.{count-roles}
use Rattle.rr_laws.proofs.Counts.{and_first, and_second}
use Rattle.rr_laws.proofs.Bins.{all_of, distinct_parts, all_lists, count_elements}
use Rattle.rr_laws.proofs.Below.{all_below, length-all_below, any_below}
use Rattle.rr_laws.proofs.LiveRequests.{both_true}

-- a response of this server that a client received
is_received_from : ℕ → Role → Bool
is_received_from server (ReceivedResponse a) = eqb a.server server
is_received_from server _ = false

-- the same, by this client
is_received_by : ℕ → ℕ → Role → Bool
is_received_by server client (ReceivedResponse a) = eqb a.server server && eqb a.client client
is_received_by server client _ = false

-- a response of this server, wherever it stands
is_response_of : ℕ → Role → Bool
is_response_of server (LoanedResponse a) = eqb a.server server
is_response_of server (ReceivedResponse a) = eqb a.server server
is_response_of server _ = false

-- a request that waits for answers
is_waiting : Role → Bool
is_waiting (SentRequest q) = true
is_waiting _ = false

-- the list from a server to the channel of a waiting request
is_list_to : ℕ → Role → ResponseKey → Bool
is_list_to server (SentRequest q) key = eqb key.server server && eqb key.client q.client && eqb key.channel q.channel
is_list_to server _ key = false

module _ {Q QH P PH K : Type 0} (s : State Q QH P PH K) (fits : IsReached s) (server : ℕ) where
  -- what one client holds, channel by channel
  held_by_le : (client : ℕ) → tally (is_received_by server client)
      (roles_of s.handles) ≤ worst_case_requests s.limits * s.limits.max_borrowed_responses_per_pending_response
  unfolding is_received_by
  held_by_le client =
      subst (λ k. tally (is_received_by server client) (roles_of s.handles) ≤ k * s.limits.max_borrowed_responses_per_pending_response)
      (length-all_below (worst_case_requests s.limits))
      (count-bins (λ (channel : ℕ) (e : ℕ × Role). holds_response (record { server = server; client = client; channel = channel }) e.1)
      s.limits.max_borrowed_responses_per_pending_response
      (λ e. is_received_by server client e.1) (all_below (worst_case_requests s.limits)) (entries (roles_of s.handles))
      (all_entries nat_cmp_total _ (roles_of s.handles) (λ n role e. in_bin role (fits.handles n role e).channel))
      (all_of _ (λ channel. fits.counts.held_responses (record { server = server; client = client; channel = channel }))
      (all_below (worst_case_requests s.limits))))
    where
      in_bin : (role : Role) → (subject_of role).channel < worst_case_requests s.limits → is_received_by server client role ≡ true →
          list_any (λ channel. holds_response (record { server = server; client = client; channel = channel }) role)
          (all_below (worst_case_requests s.limits)) ≡ true
      in_bin (ReceivedResponse a) below e =
          any_weaker (λ j. eqb a.channel j) (λ j. eqb a.server server && eqb a.client client && eqb a.channel j) (λ j h. both_true _ _ e h)
          (all_below (worst_case_requests s.limits)) (any_below (worst_case_requests s.limits) a.channel below)
      in_bin (LoanedRequest q) below e = absurd (cc)
      in_bin (SentRequest q) below e = absurd (cc)
      in_bin (ReceivedRequest v q) below e = absurd (cc)
      in_bin (LoanedResponse a) below e = absurd (cc)

  held_le : tally (is_received_from server) (roles_of s.handles) ≤ length s.clients *
      (worst_case_requests s.limits * s.limits.max_borrowed_responses_per_pending_response)
  unfolding is_received_from is_received_by
  held_le =
      count-bins (λ (client : Client K) (e : ℕ × Role). is_received_by server client.id e.1)
      (worst_case_requests s.limits * s.limits.max_borrowed_responses_per_pending_response)
      (λ e. is_received_from server e.1) s.clients (entries (roles_of s.handles))
      (all_entries nat_cmp_total _ (roles_of s.handles) (λ n role e. in_bin role (fits.handles n role e).connected))
      (all_of _ (λ client. held_by_le client.id) s.clients)
    where
      in_bin : (role : Role) → has_port s.clients s.servers role ≡ true → is_received_from server role ≡ true
          → list_any (λ (client : Client K). is_received_by server client.id role) s.clients ≡ true
      in_bin (ReceivedResponse a) there e =
          any_weaker (λ c. eqb c.id a.client) (λ c. eqb a.server server && eqb a.client c.id)
          (λ c h. both_true _ _ e (eq-eqb a.client c.id (sym (eqb-true c.id a.client h)))) s.clients
          (sym (any_found (λ c. eqb c.id a.client) s.clients) ∙ there)
      in_bin (LoanedRequest q) there e = absurd (cc)
      in_bin (SentRequest q) there e = absurd (cc)
      in_bin (ReceivedRequest v q) there e = absurd (cc)
      in_bin (LoanedResponse a) there e = absurd (cc)

  in_handles : count_by (λ m. eqb m.server server) (filter_map response_in (all_handles s)) ≡ tally (is_response_of server)
      (roles_of s.handles)
  unfolding is_response_of
  in_handles = count-filter_map response_in (λ m. eqb m.server server) (all_handles s)
      ∙ count-roles (λ h. option_map_or (λ m. eqb m.server server) (response_in h) false) (is_response_of server) same s.handles
    where
      same : (h : Handle Q QH P PH) → option_map_or (λ m. eqb m.server server) (response_in h) false ≡ is_response_of server (role_of h)
      same (RequestMutUninit m) = refl
      same (RequestMut m) = refl
      same (PendingResponse p) = refl
      same (ActiveRequest a) = refl
      same (ResponseMutUninit m) = refl
      same (ResponseMut m) = refl
      same (Response m) = refl

  in_handles_le : tally (is_response_of server) (roles_of s.handles) ≤ tally (loans_response server) (roles_of s.handles) + tally
      (is_received_from server) (roles_of s.handles)
  unfolding is_response_of is_received_from
  in_handles_le = count-parts (λ (e : ℕ × Role). is_response_of server e.1) (λ e. loans_response server e.1)
      (λ e. is_received_from server e.1) (λ e. parts e.1) (entries (roles_of s.handles))
    where
      parts : (role : Role) → is_response_of server role ≡ true → (loans_response server role || is_received_from server role) ≡ true
      parts (LoanedRequest q) e = absurd (cc)
      parts (SentRequest q) e = absurd (cc)
      parts (ReceivedRequest v q) e = absurd (cc)
      parts (LoanedResponse a) e = ap (λ b. b || false) e
      parts (ReceivedResponse a) e = e

  -- all requests that wait
  waiting_le : tally is_waiting (roles_of s.handles) ≤ length s.clients * s.limits.max_active_requests_per_client
  unfolding is_waiting
  waiting_le =
      count-bins (λ (client : Client K) (e : ℕ × Role). waits client.id e.1) s.limits.max_active_requests_per_client
      (λ e. is_waiting e.1) s.clients (entries (roles_of s.handles))
      (all_entries nat_cmp_total _ (roles_of s.handles) (λ n role e. in_bin role (fits.handles n role e).connected))
      (all_of _ (λ client. fits.counts.waiting client.id) s.clients)
    where
      in_bin : (role : Role) → has_port s.clients s.servers role ≡ true → is_waiting role ≡ true
          → list_any (λ (client : Client K). waits client.id role) s.clients ≡ true
      in_bin (SentRequest q) there e = any_weaker (λ c. eqb c.id q.client) (λ c. eqb q.client c.id)
          (λ c h. eq-eqb q.client c.id (sym (eqb-true c.id q.client h))) s.clients
          (sym (any_found (λ c. eqb c.id q.client) s.clients) ∙ there)
      in_bin (LoanedRequest q) there e = absurd (cc)
      in_bin (ReceivedRequest v q) there e = absurd (cc)
      in_bin (LoanedResponse a) there e = absurd (cc)
      in_bin (ReceivedResponse a) there e = absurd (cc)

  -- each list of responses from this server is to the channel of a waiting request
  lists_le : count_by (λ (e : ResponseKey × (ResponseMessage P PH × List (ResponseMessage P PH))). eqb e.0.server server)
      (entries s.responses) ≤ tally is_waiting (roles_of s.handles) * 1
  unfolding is_waiting is_list_to
  lists_le =
      subst (λ k. count_by (λ (e : ResponseKey × (ResponseMessage P PH × List (ResponseMessage P PH))). eqb e.0.server server)
      (entries s.responses) ≤ k * 1) (length-filter (λ (b : ℕ × Role). is_waiting b.1) (entries (roles_of s.handles)))
      (count-bins (λ (b : ℕ × Role) (e : ResponseKey × (ResponseMessage P PH × List (ResponseMessage P PH))). is_list_to server b.1 e.0) 1
      (λ e. eqb e.0.server server)
      (filter (λ (b : ℕ × Role). is_waiting b.1) (entries (roles_of s.handles))) (entries s.responses)
      (all_lists response_keys_total _ s.responses (λ key m rest e is.
      any-filter_same (λ (b : ℕ × Role). is_list_to server b.1 key) (λ b. is_waiting b.1) true (λ b. waiting_of b.1 key)
      (entries (roles_of s.handles))
      ∙ found key m ((subst (AllByRecursion (ResponseFits s.clients s.servers (roles_of s.handles) s.next key)) e
      (fits.response_lists.each key)).0) is))
      (all_of _ (λ b. one_list b.1) (filter (λ (b : ℕ × Role). is_waiting b.1) (entries (roles_of s.handles)))))
    where
      waiting_of : (role : Role) (key : ResponseKey) → is_list_to server role key ≡ true → is_waiting role ≡ true
      waiting_of (SentRequest q) key e = refl
      waiting_of (LoanedRequest q) key e = e
      waiting_of (ReceivedRequest v q) key e = e
      waiting_of (LoanedResponse a) key e = e
      waiting_of (ReceivedResponse a) key e = e

      found : (key : ResponseKey) (m : ResponseMessage P PH) → ResponseFits s.clients s.servers (roles_of s.handles) s.next key m
          → eqb key.server server ≡ true
          → list_any (λ (b : ℕ × Role). is_list_to server b.1 key) (entries (roles_of s.handles)) ≡ true
      found key m f is =
          any_value (λ role. is_list_to server role key) (roles_of s.handles) m.request (SentRequest (answered (answer_of m))) f.answers
          (both_true _ _ (both_true _ _ is (eq-eqb key.client m.client (sym f.client))) (eq-eqb key.channel m.channel (sym f.channel)))

      only : (q : Question) (key : ResponseKey) → (eqb key.server server && eqb key.client q.client && eqb key.channel q.channel) ≡ true
          → key ≡ record { server = server; client = q.client; channel = q.channel }
      only q key h =
          let first = and_first (eqb key.server server && eqb key.client q.client) (eqb key.channel q.channel) h in
          let v = eqb-true key.server server (and_first (eqb key.server server) (eqb key.client q.client) first) in
          let c = eqb-true key.client q.client (and_second (eqb key.server server) (eqb key.client q.client) first) in
          let k = eqb-true key.channel q.channel (and_second (eqb key.server server && eqb key.client q.client)
          (eqb key.channel q.channel) h) in
          λ i. record { server = v i; client = c i; channel = k i }

      one_list : (role : Role) → count_by (λ (e : ResponseKey × (ResponseMessage P PH × List (ResponseMessage P PH))). is_list_to server
          role e.0) (entries s.responses) ≤ 1
      one_list (SentRequest q) = one_entry response_keys_total (is_list_to server (SentRequest q))
          (record { server = server; client = q.client; channel = q.channel }) (only q) s.responses
      one_list (LoanedRequest q) = one_entry response_keys_total (is_list_to server (LoanedRequest q))
          (record { server = 0; client = 0; channel = 0 }) (λ key h. absurd (cc)) s.responses
      one_list (ReceivedRequest v q) = one_entry response_keys_total (is_list_to server (ReceivedRequest v q))
          (record { server = 0; client = 0; channel = 0 }) (λ key h. absurd (cc)) s.responses
      one_list (LoanedResponse a) = one_entry response_keys_total (is_list_to server (LoanedResponse a))
          (record { server = 0; client = 0; channel = 0 }) (λ key h. absurd (cc)) s.responses
      one_list (ReceivedResponse a) = one_entry response_keys_total (is_list_to server (ReceivedResponse a))
          (record { server = 0; client = 0; channel = 0 }) (λ key h. absurd (cc)) s.responses

  in_lists_le : count_by (λ m. eqb m.server server) (all_elements s.responses) ≤ count_by
      (λ (e : ResponseKey × (ResponseMessage P PH × List (ResponseMessage P PH))). eqb e.0.server server)
      (entries s.responses) * s.limits.max_response_buffer_size
  in_lists_le =
      count_elements response_keys_total (λ m. eqb m.server server)
      (λ key. eqb key.server server) s.limits.max_response_buffer_size s.responses fits.response_lists.short
      (λ key. all_each _ _ (λ m f e. eq-eqb key.server server (sym f.server ∙ eqb-true m.server server e)) (at s.responses key)
      (fits.response_lists.each key))

  -- the live responses of a server
  pub live_responses_le : live_responses s server ≤ tally (loans_response server) (roles_of s.handles)
      + s.limits.max_clients * (s.limits.max_active_requests_per_client * s.limits.max_response_buffer_size
      + worst_case_requests s.limits * s.limits.max_borrowed_responses_per_pending_response)
  live_responses_le =
      let all = distinct_parts (λ m. m.number) (λ m. eqb m.server server) (filter_map response_in (all_handles s))
      (all_elements s.responses) in
      sum _ _ _ _ _ _ _ _ (length s.clients) s.limits.max_clients s.limits.max_active_requests_per_client s.limits.max_response_buffer_size
      (worst_case_requests s.limits * s.limits.max_borrowed_responses_per_pending_response)
      all in_handles in_handles_le held_le in_lists_le lists_le waiting_le fits.ports.few_clients
    where
      sum : (live handles lists role loans held filled waiting clients most active buffer borrowed : ℕ) → live ≤ handles + lists
          → handles ≡ role → role ≤ loans + held → held ≤ clients * borrowed → lists ≤ filled * buffer →
          filled ≤ waiting * 1 → waiting ≤ clients * active → clients ≤ most → live ≤ loans + most * (active * buffer + borrowed)
      sum live handles lists role loans held filled waiting clients most active buffer borrowed a b c d e f g h =
          let x = mul-le-mul_right {m = clients} {n = most} active h in
          let y = mul-le-mul_right {m = filled} {n = most * active} buffer (omega (arith, f, g, x)) in
          let z = mul-le-mul_right {m = clients} {n = most} borrowed h in
          omega (arith, a, b, c, d, e, y, z, mul_assoc most active buffer, mul-add most (active * buffer) borrowed)
