-- A hub fits after a request or a response was sent, or refused.
use Rattle.std.proofs.Common.{◌≡◌, ℕ, ◌<◌, Bool, true, false, cond, ◌&&◌, [], ◌∷◌, Option, Some, None, Result, Ok, Err, refl, sym, ap, ◌∙◌, subst, arith}
use Rattle.std.specs.Prelude.{fold, option_and_then, is_some}
use Rattle.std.specs.FinMap.{get, insert}
use Rattle.std.proofs.lemmas.Bool.{eqb-true}
use Rattle.rr_table.specs.Maps.{tally}
use Rattle.rr_protocol.specs.declared.settings.BackpressureAction.{BackpressureAction}
use Rattle.rr_protocol.specs.declared.error.RequestSendError.{RequestSendError}
use Rattle.rr_protocol.specs.declared.error.SendError.{SendError}
use Rattle.rr_protocol.specs.Lists.{at, with_at}
use Rattle.rr_protocol.specs.Keys.{ResponseKey, request_key}
use Rattle.rr_protocol.specs.Messages.{RequestMessage, ResponseMessage, Pending, RequestMut, PendingResponse, ResponseMut}
use Rattle.rr_protocol.specs.Ports.{Client, Server}
use Rattle.rr_protocol.specs.State.{State, client_at, handle_at, pending_at}
use Rattle.rr_protocol.specs.Counts.{pending_responses, is_alive}
use Rattle.rr_protocol.specs.Sends.{put, request_reach, with_request_put, with_response_put, with_sent_request, SendsRequest, SendsResponse}
use Rattle.rr_laws.specs.Roles.{answered, LoanedRequest, SentRequest, LoanedResponse, roles_of, question_of, answer_of, asking, asking_at, waits}
use Rattle.rr_laws.specs.Reached.{is_port, RequestFits, RequestsFit, ResponseFits, ResponsesFit, Fits, IsReached}
use Rattle.rr_table.proofs.ListFacts.{all_map, each_found, passes_found}
use Rattle.rr_laws.proofs.RoleLaws.{role_at, roles-insert, pending_responses-roles}
use Rattle.rr_laws.proofs.Staying.{asking_stays_with, known_stays}
use Rattle.rr_laws.proofs.Counts.{counts_with_sent_request}
use Rattle.rr_laws.proofs.Tests.{not_due, below_of_test, positive}
use Rattle.rr_laws.proofs.Opening.{from_pending, open_request_mut, open_response_mut}
use Rattle.rr_laws.proofs.Loaning.{fits_with_role}
use Rattle.rr_laws.proofs.Putting.{requests_with_put, responses_with_put}
use Rattle.rr_laws.proofs.Expiring.{fits_with_requests, fits_with_responses}
use Rattle.rr_laws.proofs.Leaving.{after_release_reached}

module _ {Q QH P PH K : Type 0} (s : State Q QH P PH K) (fits : IsReached s) (n : ℕ) where
  request_put_fits : (m : RequestMessage Q QH) → handle_at s n ≡ Some (RequestMut m)
      → RequestsFit s.limits s.servers (roles_of s.handles) s.next (with_request_put s m)
  request_put_fits m is =
      let f = fits.handles n _ (role_at s.handles n (RequestMut m) is) in
      requests_with_put s.limits s.servers (roles_of s.handles) s.next s.limits.enable_safe_overflow_for_requests m
      (positive s.limits fits.makes_hub).active (request_reach s m) s.requests
      (all_map (λ (c : Server K). request_key m.client c.id) _ (λ key. RequestFits s.limits s.servers (roles_of s.handles) s.next key m)
      (λ c there. record { client = refl; server = there; known = f.known; channel = f.channel }) s.servers
      (each_found (λ (c : Server K). c.id) s.servers))
      fits.request_lists

  -- a request that was sent
  pub with_sent_request_reached : (client : Client K) (m : RequestMessage Q QH) → handle_at s n ≡ Some (RequestMut m) → client.id ≡ m.client
      →
      pending_responses s client.id < s.limits.max_active_requests_per_client → IsReached (with_sent_request s n m)
  with_sent_request_reached client m is same left =
      let q = question_of m in
      let roles = roles_of s.handles in
      let at : get roles n ≡ Some (LoanedRequest q) = role_at s.handles n (RequestMut m) is in
      let f = fits.handles n (LoanedRequest q) at in
      let lists = with_request_put s m in
      let stays = asking_stays_with roles n s.next (SentRequest q) (λ p e. ap (option_and_then asking) at ∙ e) in
      let below : tally (waits m.client) roles < s.limits.max_active_requests_per_client =
      subst (λ k. k < s.limits.max_active_requests_per_client) (pending_responses-roles s m.client)
      (subst (λ k. pending_responses s k < s.limits.max_active_requests_per_client) same left) in
      subst (λ r. Fits s.limits s.clients s.servers r lists s.responses s.next) (sym (roles-insert s.handles n _))
      (fits_with_role s.limits s.clients s.servers roles lists s.responses s.next
      (fits_with_requests s lists fits (request_put_fits m is)) n s.next (SentRequest q) (omega arith) stays
      (λ p e. absurd (let g : Some (LoanedRequest q) ≡ Some (SentRequest p) = sym at ∙ e in cc))
      (record {
        below = f.below;
        own_number = f.own_number;
        no_port = f.no_port;
        connected = f.connected;
        known = known_stays roles (insert roles n (SentRequest q)) s.next s.next (omega arith) stays q f.known;
        channel = f.channel;
      })
      (counts_with_sent_request s.limits s.servers roles fits.counts n q below))

  -- after a request was sent, or refused
  pub sends_request_reached : (action : K → ℕ → ℕ → BackpressureAction) (result : Result ℕ RequestSendError) (new : State Q QH P PH K)
      → SendsRequest action s n result new → IsReached new
  sends_request_reached action (Ok connections) new sends =
      let o = open_request_mut s n _ sends in
      let same : (o.0).id ≡ o.1.client = eqb-true _ _ (passes_found _ s.clients o.0 o.3) in
      subst (λ (x : State Q QH P PH K). IsReached x) (sym o.4.2)
      (with_sent_request_reached o.0 o.1 o.2 same (below_of_test s.limits.max_active_requests_per_client
      (pending_responses s (o.0).id) (not_due _ _ _ o.4.0).0))
  sends_request_reached action (Err error) new sends =
      let o = open_request_mut s n _ sends in
      subst (λ (x : State Q QH P PH K). IsReached x) (sym o.4.1) (after_release_reached s n fits)

  -- a response on loan fits the list that it reaches, if its request is alive
  pub response_fits : (m : ResponseMessage P PH) → handle_at s n ≡ Some (ResponseMut m) → is_alive s m.request ≡ true →
      ResponseFits s.clients s.servers (roles_of s.handles) s.next (record { server = m.server; client = m.client; channel = m.channel }) m
  response_fits m is alive =
      let at : get (roles_of s.handles) n ≡ Some (LoanedResponse (answer_of m)) = role_at s.handles n (ResponseMut m) is in
      let f = fits.handles n (LoanedResponse (answer_of m)) at in
      let own : m.number ≡ n = f.own_number in
      let p = living (pending_at s m.request) refl alive in
      let waiting : get (roles_of s.handles) m.request ≡ Some (SentRequest (question_of p.0.message)) = role_at s.handles m.request
      (PendingResponse p.0) (from_pending (handle_at s m.request) p.0 p.1) in
      let one : question_of p.0.message ≡ answered (answer_of m) = f.known.same (question_of p.0.message)
      (ap (option_and_then asking) waiting) in
      record {
        server = refl;
        client = refl;
        channel = refl;
        below = omega (arith, own, f.below);
        no_request = ap (asking_at (roles_of s.handles)) own ∙ ap (option_and_then asking) at;
        no_port = ap (is_port s.clients s.servers) own ∙ f.no_port;
        answers = waiting ∙ ap (λ q. Some (SentRequest q)) one;
      }
    where
      living : (o : Option (Pending Q QH)) → pending_at s m.request ≡ o → is_some o ≡ true → (p : Pending Q QH)
          × (pending_at s m.request ≡ Some p)
      living None e h = absurd (cc)
      living (Some p) e h = (p, e)

  response_put_fits : (m : ResponseMessage P PH) → handle_at s n ≡ Some (ResponseMut m)
      → ResponsesFit s.limits s.clients s.servers (roles_of s.handles) s.next (with_response_put s m)
  response_put_fits m is = go (is_some (client_at s m.client)) (is_alive s m.request) refl
    where
      key : ResponseKey
      key = record { server = m.server; client = m.client; channel = m.channel }

      go : (connected alive : Bool) → is_alive s m.request ≡ alive → ResponsesFit s.limits s.clients s.servers (roles_of s.handles) s.next
          (fold (λ lists k. with_at lists k (put s.limits.enable_safe_overflow_for_responses s.limits.max_response_buffer_size
          (at lists k) m)) s.responses (cond (connected && alive) (key ∷ []) []))
      go true true e = responses_with_put s.limits s.clients s.servers (roles_of s.handles) s.next
          s.limits.enable_safe_overflow_for_responses m
          (positive s.limits fits.makes_hub).buffer s.responses key (response_fits m is e) fits.response_lists
      go true false e = fits.response_lists
      go false alive e = fits.response_lists

  -- a response in the list that it reaches, and still in its handle
  pub response_put_reached : (m : ResponseMessage P PH) → handle_at s n ≡ Some (ResponseMut m)
      → IsReached (record s { responses = with_response_put s m })
  response_put_reached m is = fits_with_responses s (with_response_put s m) fits (response_put_fits m is)

  -- after a response was sent, or refused
  pub sends_response_reached : {U : Type 0} (action : K → ℕ → ℕ → BackpressureAction) (result : Result U SendError)
      (new : State Q QH P PH K) → SendsResponse action s n result new → IsReached new
  sends_response_reached action (Ok u) new sends =
      let o = open_response_mut s n _ sends in
      let lists = with_response_put s o.1 in
      subst (λ (x : State Q QH P PH K). IsReached x) (sym o.4.1)
      (after_release_reached (record s { responses = lists }) n (fits_with_responses s lists fits (response_put_fits o.1 o.2)))
  sends_response_reached action (Err error) new sends =
      let o = open_response_mut s n _ sends in
      subst (λ (x : State Q QH P PH K). IsReached x) (sym o.4.2) (after_release_reached s n fits)
