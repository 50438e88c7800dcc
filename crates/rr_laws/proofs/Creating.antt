-- The empty hub fits, and so does a hub with one more client or server.
use Rattle.std.proofs.Common.{◌≡◌, ℕ, ◌+◌, ◌<◌, ◌≤◌, Bool, true, false, cond, eqb, [], ◌∷◌, ◌++◌, length, Option, Some, None, Result, Ok, Err, refl, sym, ap, ◌∙◌, subst, ⊎_elim, inl, inr, arith}
use Rattle.std.specs.Prelude.{◌⊎◌, find, is_some}
use Rattle.std.specs.FinMap.{get, get-empty, empty}
use Rattle.std.specs.Ordering.{nat_cmp}
use Rattle.std.specs.Cmp.{nat_cmp_total}
use Rattle.rr_protocol.specs.declared.error.ClientCreateError.{ClientCreateError}
use Rattle.rr_protocol.specs.declared.error.ServerCreateError.{ServerCreateError}
use Rattle.std.proofs.lemmas.List.{length-append}
use Rattle.std.proofs.lemmas.Bool.{eqb-true, ne_eqb}
use Rattle.rr_table.specs.Maps.{tally}
use Rattle.rr_table.proofs.MapLaws.{tally-empty, map_values-empty}
use Rattle.rr_protocol.specs.declared.limits.Limits.{Limits}
use Rattle.rr_protocol.specs.declared.settings.ClientSettings.{ClientSettings}
use Rattle.rr_protocol.specs.declared.settings.ServerSettings.{ServerSettings}
use Rattle.rr_protocol.specs.Limits.{worst_case_requests, worst_case_responses, hub_refusal}
use Rattle.rr_protocol.specs.Lists.{no_lists}
use Rattle.rr_protocol.specs.Ports.{Client, Server}
use Rattle.rr_protocol.specs.State.{State, empty_hub}
use Rattle.rr_protocol.specs.Creation.{pool_size_of, loans_of, client_refusal, with_client, CreatesClient, server_refusal, with_server, CreatesServer}
use Rattle.rr_protocol.proofs.ListsLaws.{at-no_lists}
use Rattle.rr_laws.specs.Roles.{Role, LoanedRequest, SentRequest, ReceivedRequest, LoanedResponse, ReceivedResponse, role_of, roles_of, loans_response}
use Rattle.rr_laws.specs.Reached.{has_port, Fits, IsReached}
use Rattle.rr_table.proofs.ListFacts.{all_append, find-append}
use Rattle.rr_table.proofs.MapFacts.{all_entries}
use Rattle.rr_table.proofs.Counting.{count-none}
use Rattle.rr_laws.proofs.Staying.{role_stays, requests_stay, responses_stay, ports_with_more}
use Rattle.rr_laws.proofs.Connected.{has-append, hasn't-append, has_below, port_number, port_stays, no_port_stays, NoPortComes, handles_with_ports, responses_with_ports, requests_with_servers}
use Rattle.rr_laws.proofs.Tests.{not_due, below_of_test, positive}

module _ {Q QH P PH K : Type 0} where
  -- the empty hub
  pub empty_hub_reached : (limits : Limits) (node_id : ℕ) → hub_refusal limits ≡ None
      → IsReached (empty_hub {Q = Q} {QH = QH} {P = P} {PH = PH} {K = K} limits node_id)
  empty_hub_reached limits node_id makes_hub =
      subst (λ r. Fits {Q = Q} {QH = QH} {P = P} {PH = PH} {K = K} limits [] [] r no_lists no_lists 0) (sym (map_values-empty role_of))
      (record {
        makes_hub = makes_hub;
        ports = record {
          few_clients = omega arith;
          few_servers = omega arith;
          client_numbers = tt;
          server_numbers = tt;
          client_pools = tt;
          server_loans = tt;
        };
        handles = λ n role e. absurd (let none : get (empty {X = Role} {R = nat_cmp}) n ≡ None = get-empty nat_cmp n in cc);
        counts = record {
          request_loans = λ client. rw tally-empty (omega arith);
          waiting = λ client. rw tally-empty (omega arith);
          held_requests = λ key. rw tally-empty (omega arith);
          response_loans = λ (n : ℕ) (server : Server K) (e : None ≡ Some server). absurd (cc);
          held_responses = λ key. rw tally-empty (omega arith);
        };
        request_lists = record {
          each = λ key. rw at-no_lists tt;
          short = λ key. rw at-no_lists (omega arith);
        };
        response_lists = record {
          each = λ key. rw at-no_lists tt;
          short = λ key. rw at-no_lists (omega arith);
        };
      })

-- a pool's size is never above the worst case
pub pool_size_le : (worst : ℕ) (pool : Option ℕ) → 0 < worst → pool_size_of worst pool ≤ worst
pool_size_le worst None some = omega arith
pool_size_le worst (Some size) some = omega arith

module _ {Q QH P PH K : Type 0} (s : State Q QH P PH K) (fits : IsReached s) where
  more : s.next ≤ s.next + 1
  more = omega arith

  client_comes : (new : Client K) → new.id ≡ s.next → NoPortComes s.clients (s.clients ++ new ∷ []) s.servers s.servers s.next
  client_comes new is n below = no_port_stays s.clients (s.clients ++ new ∷ []) s.servers s.servers n
      (hasn't-append (λ c. c.id) s.clients new n (λ same. omega (arith, below, is, same))) (λ h. h)

  server_comes : (new : Server K) → new.id ≡ s.next → NoPortComes s.clients s.clients s.servers (s.servers ++ new ∷ []) s.next
  server_comes new is n below = no_port_stays s.clients s.clients s.servers (s.servers ++ new ∷ []) n (λ h. h)
      (hasn't-append (λ c. c.id) s.servers new n (λ same. omega (arith, below, is, same)))

  room_for_client : ClientSettings K → client_refusal s ≡ None → length s.clients < s.limits.max_clients
  room_for_client settings due = below_of_test s.limits.max_clients (length s.clients) ((not_due _ _ _ ((not_due _ _ _ due).1)).0)

  room_for_server : (settings : ServerSettings K) → server_refusal s settings ≡ None → length s.servers < s.limits.max_servers
  room_for_server settings due = below_of_test s.limits.max_servers (length s.servers) ((not_due _ _ _ ((not_due _ _ _ due).1)).0)

  -- one more client
  pub with_client_reached : (settings : ClientSettings K) → client_refusal s ≡ None → IsReached (with_client s settings)
  with_client_reached settings due =
      let few = room_for_client settings due in
      let new : Client K = record {
        port = record {
          id = s.next;
          strategy = settings.strategy;
          handler = settings.handler;
          allocation_strategy = settings.allocation_strategy;
          initial_max_slice_len = settings.initial_max_slice_len;
          pool_size = pool_size_of (worst_case_requests s.limits) settings.pool;
          has_value = true;
        };
        loans_made = 0;
      } in
      let ports = ports_with_more s.limits s.clients s.servers s.next (s.next + 1) more fits.ports in
      record {
        makes_hub = fits.makes_hub;
        ports = record {
          few_clients = omega (arith, length-append s.clients (new ∷ []), few);
          few_servers = ports.few_servers;
          client_numbers = all_append _ s.clients new ports.client_numbers (omega arith);
          server_numbers = ports.server_numbers;
          client_pools = all_append _ s.clients new ports.client_pools
              (pool_size_le _ settings.pool (positive s.limits fits.makes_hub).worst);
          server_loans = ports.server_loans;
        };
        handles = λ n role e. role_stays (roles_of s.handles) (roles_of s.handles) s.next (s.next + 1) more
            (λ k p below e. e) s.limits s.servers (s.clients ++ new ∷ []) n role
            (handles_with_ports s.clients (s.clients ++ new ∷ []) s.servers s.servers s.limits (roles_of s.handles) s.next
            (λ n role e. port_stays s.clients (s.clients ++ new ∷ []) s.servers s.servers role
            (has-append (λ c. c.id) s.clients new (port_number role)) (λ h. h)) (client_comes new refl) fits.handles n role e);
        counts = fits.counts;
        request_lists = requests_stay (roles_of s.handles) (roles_of s.handles) s.next (s.next + 1) more
            (λ k p below e. e) s.limits s.servers s.requests fits.request_lists;
        response_lists = responses_stay (roles_of s.handles) (roles_of s.handles) s.next (s.next + 1) more
            (λ k p below e. e) s.limits s.servers (s.clients ++ new ∷ []) (λ k q e. e) s.responses
            (responses_with_ports s.clients (s.clients ++ new ∷ []) s.servers s.servers s.limits (roles_of s.handles) s.next
            (client_comes new refl) s.responses fits.response_lists);
      }

  -- a number that was not given names no server with loans
  no_loans : tally (loans_response s.next) (roles_of s.handles) ≡ 0
  no_loans = count-none (λ (e : ℕ × Role). loans_response s.next e.1) _
      (all_entries nat_cmp_total (λ e. loans_response s.next e.1 ≡ false) (roles_of s.handles)
      (λ n role e. go role (fits.handles n role e).connected))
    where
      go : (role : Role) → has_port s.clients s.servers role ≡ true → loans_response s.next role ≡ false
      go (LoanedResponse a) h = ne_eqb a.server s.next (λ same. let below = has_below
          (λ c. c.id) s.servers a.server s.next fits.ports.server_numbers h in absurd (omega arith))
      go (LoanedRequest q) h = refl
      go (SentRequest q) h = refl
      go (ReceivedRequest server q) h = refl
      go (ReceivedResponse a) h = refl

  -- the server that takes the next number
  made_server : ServerSettings K → Server K
  made_server settings =
      record {
        port = record {
          id = s.next;
          strategy = settings.strategy;
          handler = settings.handler;
          allocation_strategy = settings.allocation_strategy;
          initial_max_slice_len = settings.initial_max_slice_len;
          pool_size = pool_size_of (worst_case_responses s.limits (loans_of settings)) settings.pool;
          has_value = true;
        };
        max_loaned_responses_per_request = loans_of settings;
      }

  -- a server found after one more was made was there before, or is that one
  found_before_or_made : (made server : Server K) (n : ℕ) → find (λ c. eqb c.id n) (s.servers ++ made ∷ []) ≡ Some server
      → (find (λ c. eqb c.id n) s.servers ≡ Some server) ⊎ (made.id ≡ n)
  found_before_or_made made server n e = go (find (λ c. eqb c.id n) s.servers) (eqb made.id n) refl refl
      (sym (find-append (λ c. eqb c.id n) s.servers made) ∙ e)
    where
      go : (o : Option (Server K)) (b : Bool) → find (λ c. eqb c.id n) s.servers ≡ o → eqb made.id n ≡ b
          → cond (is_some o) o (cond b (Some made) None) ≡ Some server →
          (find (λ c. eqb c.id n) s.servers ≡ Some server) ⊎ (made.id ≡ n)
      go (Some x) b is test e = inl (is ∙ e)
      go None true is test e = inr (eqb-true _ _ test)
      go None false is test e = absurd (cc)

  -- one more server
  pub with_server_reached : (settings : ServerSettings K) → server_refusal s settings ≡ None → IsReached (with_server s settings)
  unfolding made_server
  with_server_reached settings due =
      let few = room_for_server settings due in
      let ports = ports_with_more s.limits s.clients s.servers s.next (s.next + 1) more fits.ports in
      let new = made_server settings in
      record {
        makes_hub = fits.makes_hub;
        ports = record {
          few_clients = ports.few_clients;
          few_servers = omega (arith, length-append s.servers (new ∷ []), few);
          client_numbers = ports.client_numbers;
          server_numbers = all_append _ s.servers new ports.server_numbers (omega arith);
          client_pools = ports.client_pools;
          server_loans = all_append _ s.servers new ports.server_loans (omega arith);
        };
        handles = λ n role e. role_stays (roles_of s.handles) (roles_of s.handles) s.next (s.next + 1) more
            (λ k p below e. e) s.limits (s.servers ++ new ∷ []) s.clients n role
            (handles_with_ports s.clients s.clients s.servers (s.servers ++ new ∷ []) s.limits (roles_of s.handles) s.next
            (λ n role e. port_stays s.clients s.clients s.servers (s.servers ++ new ∷ []) role (λ h. h)
            (has-append (λ c. c.id) s.servers new (port_number role))) (server_comes new refl) fits.handles n role e);
        counts = record {
          request_loans = fits.counts.request_loans;
          waiting = fits.counts.waiting;
          held_requests = fits.counts.held_requests;
          response_loans = λ n server e. ⊎_elim
              (λ before. fits.counts.response_loans n server before)
              (λ is. omega (arith, ap (λ k. tally (loans_response k) (roles_of s.handles)) is, no_loans))
              (found_before_or_made new server n e);
          held_responses = fits.counts.held_responses;
        };
        request_lists = requests_with_servers s.servers (s.servers ++ new ∷ []) s.limits (roles_of s.handles) (s.next + 1)
            (λ n. has-append (λ c. c.id) s.servers new n) s.requests
            (requests_stay (roles_of s.handles) (roles_of s.handles) s.next (s.next + 1) more
            (λ k p below e. e) s.limits s.servers s.requests fits.request_lists);
        response_lists = responses_stay (roles_of s.handles) (roles_of s.handles) s.next (s.next + 1) more
            (λ k p below e. e) s.limits (s.servers ++ new ∷ []) s.clients (λ k q e. e) s.responses
            (responses_with_ports s.clients s.clients s.servers (s.servers ++ new ∷ []) s.limits (roles_of s.handles) s.next
            (server_comes new refl) s.responses fits.response_lists);
      }

  -- after a client was created, or refused
  pub creates_client_reached : (settings : ClientSettings K) (result : Result ℕ ClientCreateError) (new : State Q QH P PH K)
      → CreatesClient s settings result new → IsReached new
  creates_client_reached settings (Ok number) new made = subst (λ (x : State Q QH P PH K). IsReached x) (sym made.2)
      (with_client_reached settings made.0)
  creates_client_reached settings (Err error) new made = subst (λ (x : State Q QH P PH K). IsReached x) (sym made.1) fits

  -- after a server was created, or refused
  pub creates_server_reached : (settings : ServerSettings K) (result : Result ℕ ServerCreateError) (new : State Q QH P PH K)
      → CreatesServer s settings result new → IsReached new
  creates_server_reached settings (Ok number) new made = subst (λ (x : State Q QH P PH K). IsReached x) (sym made.2)
      (with_server_reached settings made.0)
  creates_server_reached settings (Err error) new made = subst (λ (x : State Q QH P PH K). IsReached x) (sym made.1) fits
