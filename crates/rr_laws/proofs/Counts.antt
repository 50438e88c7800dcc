-- Loans, pending responses and borrows stay within their limits as roles come and go.
use Rattle.std.proofs.Common.{◌≡◌, ℕ, ◌+◌, ◌<◌, ◌≤◌, Bool, true, false, eqb, ◌&&◌, List, Some, refl, sym, ap, ◌∙◌, subst, arith}
use Rattle.std.specs.Prelude.{find}
use Rattle.std.specs.FinMap.{insert, remove}
use Rattle.std.proofs.lemmas.Bool.{eqb-true}
use Rattle.rr_table.specs.Maps.{mark, tally}
use Rattle.rr_protocol.specs.declared.limits.Limits.{Limits}
use Rattle.rr_protocol.specs.Limits.{max_loaned_responses}
use Rattle.rr_protocol.specs.Keys.{RequestKey, ResponseKey, request_key}
use Rattle.rr_protocol.specs.Ports.{Server}
use Rattle.rr_laws.specs.Roles.{Question, Answer, LoanedRequest, SentRequest, ReceivedRequest, LoanedResponse, ReceivedResponse, Roles, loans_request, waits, holds_request, loans_response, holds_response}
use Rattle.rr_laws.specs.Reached.{CountsFit}
use Rattle.rr_laws.proofs.RoleLaws.{tally-more, tally-less}

-- one more, where a test that counts it leaves room
room : (t : Bool) (before after most : ℕ) → after ≤ before + mark t → (t ≡ true → before < most) → before ≤ most → after ≤ most
room true before after most more left fits = omega (arith, more, left refl)
room false before after most more left fits = omega (arith, more, fits)

-- of two tests that pass, the first
pub and_first : (a b : Bool) → (a && b) ≡ true → a ≡ true
and_first true b e = refl
and_first false b e = e

-- and the second
pub and_second : (a b : Bool) → (a && b) ≡ true → b ≡ true
and_second true b e = e
and_second false b e = absurd (cc)

module _ {K : Type 0} (limits : Limits) (servers : List (Server K)) (roles : Roles) (fits : CountsFit limits servers roles) (n : ℕ) where
  -- one more request on loan
  pub counts_with_request_loan : (q : Question) → tally (loans_request q.client) roles < limits.max_loaned_requests
      → CountsFit limits servers (insert roles n (LoanedRequest q))
  counts_with_request_loan q left =
      record {
        request_loans = λ client. room (eqb q.client client) _ _ _ (tally-more (loans_request client) roles n (LoanedRequest q))
            (λ e. subst (λ c. tally (loans_request c) roles < limits.max_loaned_requests) (eqb-true _ _ e) left)
            (fits.request_loans client);
        waiting = λ client. omega (arith, tally-more (waits client) roles n (LoanedRequest q), fits.waiting client);
        held_requests = λ key. omega (arith, tally-more (holds_request key) roles n (LoanedRequest q), fits.held_requests key);
        response_loans = λ k server is. omega (
          arith,
          tally-more (loans_response k) roles n (LoanedRequest q),
          fits.response_loans k server is,
        );
        held_responses = λ key. omega (arith, tally-more (holds_response key) roles n (LoanedRequest q), fits.held_responses key);
      }

  -- one more request that waits
  pub counts_with_sent_request : (q : Question) → tally (waits q.client) roles < limits.max_active_requests_per_client
      → CountsFit limits servers (insert roles n (SentRequest q))
  counts_with_sent_request q left =
      record {
        request_loans = λ client. omega (arith, tally-more (loans_request client) roles n (SentRequest q), fits.request_loans client);
        waiting = λ client. room (eqb q.client client) _ _ _ (tally-more (waits client) roles n (SentRequest q))
            (λ e. subst (λ c. tally (waits c) roles < limits.max_active_requests_per_client) (eqb-true _ _ e) left) (fits.waiting client);
        held_requests = λ key. omega (arith, tally-more (holds_request key) roles n (SentRequest q), fits.held_requests key);
        response_loans = λ k server is. omega (
          arith,
          tally-more (loans_response k) roles n (SentRequest q),
          fits.response_loans k server is,
        );
        held_responses = λ key. omega (arith, tally-more (holds_response key) roles n (SentRequest q), fits.held_responses key);
      }

  -- one more request that a server holds
  pub counts_with_received_request : (server : ℕ) (q : Question)
      → tally (holds_request (request_key q.client server)) roles < limits.max_active_requests_per_client →
      CountsFit limits servers (insert roles n (ReceivedRequest server q))
  counts_with_received_request server q left =
      record {
        request_loans = λ client. omega (
          arith,
          tally-more (loans_request client) roles n (ReceivedRequest server q),
          fits.request_loans client,
        );
        waiting = λ client. omega (arith, tally-more (waits client) roles n (ReceivedRequest server q), fits.waiting client);
        held_requests = λ key. room (eqb q.client key.client && eqb server key.server) _ _ _
            (tally-more (holds_request key) roles n (ReceivedRequest server q)) (λ e.
            let client : q.client ≡ key.client = eqb-true _ _ (and_first _ _ e) in
            let same : server ≡ key.server = eqb-true _ _ (and_second _ _ e) in
            subst (λ (k : RequestKey). tally (holds_request k) roles < limits.max_active_requests_per_client)
            (λ i. request_key (client i) (same i)) left) (fits.held_requests key);
        response_loans = λ k s is. omega (
          arith,
          tally-more (loans_response k) roles n (ReceivedRequest server q),
          fits.response_loans k s is,
        );
        held_responses = λ key. omega (arith, tally-more (holds_response key) roles n (ReceivedRequest server q), fits.held_responses key);
      }

  -- one more response on loan
  pub counts_with_response_loan : (a : Answer) →
      ((server : Server K) → find (λ c. eqb c.id a.server) servers ≡ Some server
      → tally (loans_response a.server) roles < max_loaned_responses limits server.max_loaned_responses_per_request) →
      CountsFit limits servers (insert roles n (LoanedResponse a))
  counts_with_response_loan a left =
      record {
        request_loans = λ client. omega (arith, tally-more (loans_request client) roles n (LoanedResponse a), fits.request_loans client);
        waiting = λ client. omega (arith, tally-more (waits client) roles n (LoanedResponse a), fits.waiting client);
        held_requests = λ key. omega (arith, tally-more (holds_request key) roles n (LoanedResponse a), fits.held_requests key);
        response_loans = λ k server is. room (eqb a.server k) _ _ _ (tally-more (loans_response k) roles n (LoanedResponse a)) (λ e.
            let same : k ≡ a.server = sym (eqb-true _ _ e) in
            subst (λ j. tally (loans_response j) roles < max_loaned_responses limits server.max_loaned_responses_per_request) (sym same)
            (left server (ap (λ j. find (λ c. eqb c.id j) servers) (sym same) ∙ is))) (fits.response_loans k server is);
        held_responses = λ key. omega (arith, tally-more (holds_response key) roles n (LoanedResponse a), fits.held_responses key);
      }

  -- one more response that a client holds
  pub counts_with_received_response : (a : Answer) (key : ResponseKey) → a.server ≡ key.server → a.client ≡ key.client
      → a.channel ≡ key.channel →
      tally (holds_response key) roles < limits.max_borrowed_responses_per_pending_response →
      CountsFit limits servers (insert roles n (ReceivedResponse a))
  counts_with_received_response a key at_server at_client at_channel left =
      record {
        request_loans = λ client. omega (arith, tally-more (loans_request client) roles n (ReceivedResponse a), fits.request_loans client);
        waiting = λ client. omega (arith, tally-more (waits client) roles n (ReceivedResponse a), fits.waiting client);
        held_requests = λ k. omega (arith, tally-more (holds_request k) roles n (ReceivedResponse a), fits.held_requests k);
        response_loans = λ k server is. omega (
          arith,
          tally-more (loans_response k) roles n (ReceivedResponse a),
          fits.response_loans k server is,
        );
        held_responses = λ k. room (eqb a.server k.server && eqb a.client k.client && eqb a.channel k.channel) _ _ _
            (tally-more (holds_response k) roles n (ReceivedResponse a)) (λ e.
            let server : key.server ≡ k.server = sym at_server ∙ eqb-true _ _ (and_first _ _ (and_first _ _ e)) in
            let client : key.client ≡ k.client = sym at_client ∙ eqb-true _ _ (and_second _ _ (and_first _ _ e)) in
            let channel : key.channel ≡ k.channel = sym at_channel ∙ eqb-true _ _ (and_second _ _ e) in
            subst (λ (j : ResponseKey). tally (holds_response j) roles < limits.max_borrowed_responses_per_pending_response)
            (λ i. record { server = server i; client = client i; channel = channel i }) left) (fits.held_responses k);
      }

  -- one handle less
  pub counts_without : CountsFit limits servers (remove roles n)
  counts_without =
      record {
        request_loans = λ client. omega (arith, tally-less (loans_request client) roles n, fits.request_loans client);
        waiting = λ client. omega (arith, tally-less (waits client) roles n, fits.waiting client);
        held_requests = λ key. omega (arith, tally-less (holds_request key) roles n, fits.held_requests key);
        response_loans = λ k server is. omega (arith, tally-less (loans_response k) roles n, fits.response_loans k server is);
        held_responses = λ key. omega (arith, tally-less (holds_response key) roles n, fits.held_responses key);
      }
