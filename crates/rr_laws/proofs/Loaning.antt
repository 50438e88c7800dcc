-- A hub fits after a loan of a request or of a response.
use Rattle.std.proofs.Common.{◌≡◌, ℕ, ◌+◌, ◌<◌, ◌≤◌, true, false, cond, eqb, List, map, Option, Some, None, Result, Ok, Err, refl, sym, ap, ◌∙◌, subst, ⊎_elim, arith, option_and_then}
use Rattle.std.proofs.lemmas.List.{length-map}
use Rattle.std.specs.Prelude.{◌≢◌, is_some, if◌then◌else◌, nat_le}
use Rattle.std.specs.FinMap.{get, insert}
use Rattle.std.proofs.lemmas.Bool.{eqb-true}
use Rattle.rr_table.specs.Maps.{tally}
use Rattle.rr_table.proofs.MapLaws.{get-insert_same, get-insert_cases}
use Rattle.rr_protocol.specs.declared.error.LoanError.{LoanError}
use Rattle.rr_protocol.specs.declared.limits.Limits.{Limits}
use Rattle.rr_protocol.specs.Limits.{worst_case_requests, max_loaned_responses}
use Rattle.rr_protocol.specs.Lists.{Lists}
use Rattle.rr_protocol.specs.Keys.{request_key_cmp, response_key_cmp}
use Rattle.rr_protocol.specs.Messages.{RequestMessage, ResponseMessage, Active, ActiveRequest}
use Rattle.rr_protocol.specs.Ports.{Client, Server}
use Rattle.rr_protocol.specs.State.{State, client_at, server_at, handle_at}
use Rattle.rr_protocol.specs.Loans.{with_loan_counted, request_loan_refusal, with_loaned_request, LoansRequest, response_loan_refusal, with_loaned_response, LoansResponse, is_too_long}
use Rattle.rr_protocol.specs.Counts.{loaned_requests, loaned_responses, loaned_responses_from, live_responses}
use Rattle.rr_laws.specs.Roles.{Question, Answer, Role, LoanedRequest, SentRequest, LoanedResponse, Roles, roles_of, question_of, asking, loans_request, loans_response}
use Rattle.rr_laws.specs.Reached.{IsKnown, RoleFits, CountsFit, Fits, IsReached}
use Rattle.rr_table.proofs.ListFacts.{all_found, all_map, passes_found}
use Rattle.rr_laws.proofs.RoleLaws.{role_at, roles-insert, loaned_requests-roles, loaned_responses-roles}
use Rattle.rr_laws.proofs.Staying.{AskingStays, asking_stays_with_new, waiting_stays_with, known_stays, role_stays, requests_stay, responses_stay, ports_with_more}
use Rattle.rr_laws.proofs.Counts.{counts_with_request_loan, counts_with_response_loan}
use Rattle.rr_laws.proofs.Connected.{has-changed, has-same, port_number, port_stays, no_port_stays, NoPortComes, handles_with_ports, responses_with_ports, no_port_at_next}
use Rattle.rr_laws.proofs.Opening.{some_and, open_active}
use Rattle.rr_laws.proofs.Tests.{not_due, below_of_test}

module _ {Q QH P PH K : Type 0} (limits : Limits) (clients : List (Client K)) (servers : List (Server K)) (roles : Roles)
    (requests : Lists request_key_cmp (RequestMessage Q QH)) (responses : Lists response_key_cmp (ResponseMessage P PH)) (next : ℕ)
    (fits : Fits limits clients servers roles requests responses next) where
  -- one more role, under a number at which no request waits
  pub fits_with_role : (n after : ℕ) (role : Role) → next ≤ after → AskingStays roles (insert roles n role) next
      → ((q : Question) → get roles n ≢ Some (SentRequest q)) →
      RoleFits limits clients servers (insert roles n role) after n role → CountsFit limits servers (insert roles n role) →
      Fits limits clients servers (insert roles n role) requests responses after
  fits_with_role n after role more asking_stays apart here counts =
      record {
        makes_hub = fits.makes_hub;
        ports = ports_with_more limits clients servers next after more fits.ports;
        handles = λ k other e. ⊎_elim
            (λ is. let same : role ≡ other = is.1 in subst (λ r. RoleFits limits clients servers (insert roles n role) after k r) same
            (subst (λ j. RoleFits limits clients servers (insert roles n role) after j role) (sym is.0) here))
            (λ before. role_stays roles (insert roles n role) next after more asking_stays limits servers clients k other
            (fits.handles k other before.1))
            (get-insert_cases roles n role k other e);
        counts = counts;
        request_lists = requests_stay roles (insert roles n role) next after more asking_stays limits servers requests fits.request_lists;
        response_lists = responses_stay roles (insert roles n role) next after more asking_stays limits servers clients
            (waiting_stays_with roles n role apart) responses fits.response_lists;
      }

  -- no role stands under a number that was not given
  pub none_at_next : (role : Role) → get roles next ≢ Some role
  none_at_next role e = let f = fits.handles next role e in absurd (omega (arith, f.below))

  -- one more role, under the next number
  pub fits_with_next : (role : Role) → RoleFits limits clients servers (insert roles next role) (next + 1) next role
      → CountsFit limits servers (insert roles next role) →
      Fits limits clients servers (insert roles next role) requests responses (next + 1)
  fits_with_next role here counts = fits_with_role next (next + 1) role (omega arith) (asking_stays_with_new roles next role)
      (λ q. none_at_next (SentRequest q)) here counts

  -- a request that was known is known with one more role under the next number
  pub known_with_next : (role : Role) (q : Question) → IsKnown roles next q → IsKnown (insert roles next role) (next + 1) q
  known_with_next role q known = known_stays roles (insert roles next role) next (next + 1) (omega arith)
      (asking_stays_with_new roles next role) q known

-- a request under a new number stands for itself
pub known_itself : (roles : Roles) (q : Question) → IsKnown (insert roles q.number (LoanedRequest q)) (q.number + 1) q
known_itself roles q =
    record {
      below = omega arith;
      same = λ p e. let f : Some q ≡ Some p = sym (ap (option_and_then asking)
          (get-insert_same roles q.number (LoanedRequest q) q.number refl)) ∙ e in (cc);
    }

module _ {K : Type 0} (n : ℕ) where
  -- a client that counts one more loan has its number
  pub counted_id : (c : Client K) → (with_loan_counted n c).id ≡ c.id
  counted_id c = elim (eqb c.id n) as (λ b. (cond b (record c { loans_made = c.loans_made + 1 }) c).id ≡ c.id)
      [ true ↦ refl | false ↦ refl ]

  counted_pool : (c : Client K) → (with_loan_counted n c).pool_size ≡ c.pool_size
  counted_pool c = elim (eqb c.id n) as (λ b. (cond b (record c { loans_made = c.loans_made + 1 }) c).pool_size ≡ c.pool_size)
      [ true ↦ refl | false ↦ refl ]

module _ {Q QH P PH K : Type 0} (limits : Limits) (clients : List (Client K)) (servers : List (Server K)) (roles : Roles)
    (requests : Lists request_key_cmp (RequestMessage Q QH)) (responses : Lists response_key_cmp (ResponseMessage P PH)) (next : ℕ)
    (fits : Fits limits clients servers roles requests responses next) where
  -- a client that counts one more loan
  pub fits_with_counted : (n : ℕ) → Fits limits (map (with_loan_counted n) clients) servers roles requests responses next
  fits_with_counted n =
      record {
        makes_hub = fits.makes_hub;
        ports = record {
          few_clients = omega (arith, length-map clients (with_loan_counted n), fits.ports.few_clients);
          few_servers = fits.ports.few_servers;
          client_numbers = all_map (with_loan_counted n) _ _ (λ c h. omega (arith, counted_id n c, h)) clients fits.ports.client_numbers;
          server_numbers = fits.ports.server_numbers;
          client_pools = all_map (with_loan_counted n) _ _ (λ c h. omega (arith, counted_pool n c, h)) clients fits.ports.client_pools;
          server_loans = fits.ports.server_loans;
        };
        handles = handles_with_ports clients (map (with_loan_counted n) clients) servers servers limits roles next
            (λ k role e. port_stays clients (map (with_loan_counted n) clients) servers servers role
            (has-changed (λ c. c.id) (with_loan_counted n) (counted_id n) clients (port_number role)) (λ h. h))
            comes fits.handles;
        counts = fits.counts;
        request_lists = fits.request_lists;
        response_lists = responses_with_ports clients (map (with_loan_counted n) clients) servers servers limits roles next comes responses
            fits.response_lists;
      }
    where
      comes : NoPortComes clients (map (with_loan_counted n) clients) servers servers next
      comes k below = no_port_stays clients (map (with_loan_counted n) clients) servers servers k
          (λ h. has-same (λ c. c.id) (with_loan_counted n) (counted_id n) clients k ∙ h) (λ h. h)

-- the test in front of a loan has passed
request_loan_passed : {Q QH P PH K : Type 0} (s : State Q QH P PH K) (client : Client K) (len : ℕ)
    → request_loan_refusal s client len ≡ None →
    tally (loans_request client.id) (roles_of s.handles) < s.limits.max_loaned_requests
request_loan_passed s client len due =
    let below : loaned_requests s client.id < s.limits.max_loaned_requests = below_of_test s.limits.max_loaned_requests
    (loaned_requests s client.id) (not_due _ _ _ ((not_due _ _ _ due).1)).0 in
    subst (λ k. k < s.limits.max_loaned_requests) (loaned_requests-roles s client.id) below

-- the same for a response
response_loan_passed : {Q QH P PH K : Type 0} (s : State Q QH P PH K) (server : Server K) (active len : ℕ)
    → response_loan_refusal s server active len ≡ None →
    tally (loans_response server.id) (roles_of s.handles) < max_loaned_responses s.limits server.max_loaned_responses_per_request
response_loan_passed s server active len due =
    let most = max_loaned_responses s.limits server.max_loaned_responses_per_request in
    let full : Option LoanError = if nat_le server.pool_size (live_responses s server.id) then Some LoanError.OutOfMemory else None in
    let later : (if nat_le server.max_loaned_responses_per_request (loaned_responses_from s active) then Some LoanError.ExceedsMaxLoans
    else if nat_le most (loaned_responses s server.id) then Some LoanError.ExceedsMaxLoans else full) ≡ None =
    (not_due (is_too_long server.port len) _ _ due).1 in
    let below : loaned_responses s server.id < most = below_of_test most (loaned_responses s server.id)
    (not_due _ _ full ((not_due _ _ _ later).1)).0 in
    subst (λ k. k < most) (loaned_responses-roles s server.id) below

module _ {Q QH P PH K : Type 0} (s : State Q QH P PH K) (fits : IsReached s) where
  -- a request on loan
  pub with_loaned_request_reached : (n : ℕ) (client : Client K) (len channel : ℕ) (header : QH) → client_at s n ≡ Some client
      → request_loan_refusal s client len ≡ None →
      channel < client.pool_size → IsReached (with_loaned_request s client len channel header)
  with_loaned_request_reached n client len channel header is due free =
      let q : Question = record { number = s.next; client = client.id; request_id = client.loans_made; channel = channel } in
      let roles = roles_of s.handles in
      let same : client.id ≡ n = eqb-true _ _ (passes_found _ s.clients client is) in
      let there : is_some (client_at s client.id) ≡ true = ap is_some (ap (client_at s) same ∙ is) in
      let pool : client.pool_size ≤ worst_case_requests s.limits = all_found _ _ s.clients client fits.ports.client_pools is in
      let counted = map (with_loan_counted client.id) s.clients in
      let counted_fits = fits_with_counted s.limits s.clients s.servers roles s.requests s.responses s.next fits client.id in
      subst (λ r. Fits s.limits counted s.servers r s.requests s.responses (s.next + 1)) (sym (roles-insert s.handles s.next _))
      (fits_with_next s.limits counted s.servers roles s.requests s.responses s.next counted_fits (LoanedRequest q)
      (record {
        below = omega arith;
        own_number = refl;
        no_port = no_port_at_next s.limits counted s.servers s.next counted_fits.ports;
        connected = has-changed (λ c. c.id) (with_loan_counted client.id) (counted_id client.id) s.clients client.id there;
        known = known_itself roles q;
        channel = omega (arith, free, pool);
      })
      (counts_with_request_loan s.limits s.servers roles fits.counts s.next q (request_loan_passed s client len due)))

  -- after a loan of a request, or its refusal
  pub loans_request_reached : (IsDefault : QH → Type 0) (n len : ℕ) (result : Result ℕ LoanError) (new : State Q QH P PH K)
      → LoansRequest IsDefault s n len result new → IsReached new
  loans_request_reached IsDefault n len (Ok number) new loans =
      let o = some_and (client_at s n) _ loans in
      subst (λ (x : State Q QH P PH K). IsReached x) (sym o.2.2.4)
      (with_loaned_request_reached n o.0 len o.2.2.0 o.2.2.1 o.1 o.2.0 o.2.2.2.0)
  loans_request_reached IsDefault n len (Err error) new loans =
      let o = some_and (client_at s n) _ loans in
      subst (λ (x : State Q QH P PH K). IsReached x) (sym o.2.1) fits

  -- a response on loan
  pub with_loaned_response_reached : (n : ℕ) (server : Server K) (active : Active Q QH) (len : ℕ) (header : PH)
      → handle_at s n ≡ Some (ActiveRequest active) → server_at s active.server ≡ Some server →
      response_loan_refusal s server n len ≡ None → IsReached (with_loaned_response s n active len header)
  with_loaned_response_reached n server active len header is at due =
      let a : Answer = record {
        number = s.next;
        server = active.server;
        active_request = n;
        request = active.message.number;
        request_id = active.message.request_id;
        client = active.message.client;
        channel = active.message.channel;
      } in
      let roles = roles_of s.handles in
      let same : server.id ≡ active.server = eqb-true _ _ (passes_found _ s.servers server at) in
      let received = fits.handles n _ (role_at s.handles n (ActiveRequest active) is) in
      subst (λ r. Fits s.limits s.clients s.servers r s.requests s.responses (s.next + 1)) (sym (roles-insert s.handles s.next _))
      (fits_with_next s.limits s.clients s.servers roles s.requests s.responses s.next fits (LoanedResponse a)
      (record {
        below = omega arith;
        own_number = refl;
        no_port = no_port_at_next s.limits s.clients s.servers s.next fits.ports;
        connected = received.connected;
        known = known_with_next s.limits s.clients s.servers roles s.requests s.responses s.next fits (LoanedResponse a)
            (question_of active.message) received.known;
        channel = received.channel;
      })
      (counts_with_response_loan s.limits s.servers roles fits.counts s.next a (λ other e.
      let one : server ≡ other = (let f : Some server ≡ Some other = sym at ∙ e in cc) in
      subst (λ (x : Server K). tally (loans_response active.server) roles
      < max_loaned_responses s.limits x.max_loaned_responses_per_request) one
      (subst (λ j. tally (loans_response j) roles < max_loaned_responses s.limits server.max_loaned_responses_per_request) same
      (response_loan_passed s server n len due)))))

  -- after a loan of a response, or its refusal
  pub loans_response_reached : (IsDefault : PH → Type 0) (n len : ℕ) (result : Result ℕ LoanError) (new : State Q QH P PH K)
      → LoansResponse IsDefault s n len result new → IsReached new
  loans_response_reached IsDefault n len (Ok number) new loans =
      let o = open_active s n _ loans in
      subst (λ (x : State Q QH P PH K). IsReached x) (sym o.4.2.2) (with_loaned_response_reached n o.0 o.1 len o.4.2.0 o.2 o.3 o.4.0)
  loans_response_reached IsDefault n len (Err error) new loans =
      let o = open_active s n _ loans in
      subst (λ (x : State Q QH P PH K). IsReached x) (sym o.4.1) fits
