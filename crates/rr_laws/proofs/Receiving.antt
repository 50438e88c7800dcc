-- A hub fits after a server or a pending response received.
use Rattle.std.proofs.Common.{◌≡◌, ℕ, ◌+◌, ◌<◌, List, [], ◌∷◌, Option, Some, None, Result, Ok, Err, refl, sym, ap, ◌∙◌, subst, arith}
use Rattle.std.specs.Prelude.{option_and_then}
use Rattle.std.specs.List.{AllByRecursion}
use Rattle.std.specs.FinMap.{insert}
use Rattle.std.proofs.lemmas.Bool.{ltb-true}
use Rattle.rr_table.specs.Maps.{tally}
use Rattle.rr_protocol.specs.declared.error.ReceiveError.{ReceiveError}
use Rattle.rr_protocol.specs.Lists.{at, with_at}
use Rattle.rr_protocol.specs.Keys.{RequestKey, ResponseKey, request_key}
use Rattle.rr_protocol.specs.Messages.{RequestMessage, ResponseMessage, Response, response_key}
use Rattle.rr_protocol.specs.State.{State, pending_at}
use Rattle.rr_protocol.specs.Receives.{TakesRequest, Skims, with_active_request, ReceivesUnskimmed, ReceivesRequest, TakesResponse, ReceivesResponse}
use Rattle.rr_protocol.proofs.KeyLaws.{request_keys_total, request_keys_exact, response_keys_total, response_keys_exact}
use Rattle.rr_laws.specs.Roles.{answered, SentRequest, ReceivedRequest, ReceivedResponse, roles_of, question_of, answer_of, asking, holds_request, holds_response}
use Rattle.rr_laws.specs.Reached.{RequestFits, ResponseFits, Fits, IsReached}
use Rattle.rr_laws.proofs.RoleLaws.{roles-insert, borrowed_requests-roles, borrowed_responses-roles}
use Rattle.rr_laws.proofs.Staying.{asking_stays_with, known_stays, requests_shrink, responses_shrink}
use Rattle.rr_laws.proofs.Counts.{counts_with_received_request, counts_with_received_response}
use Rattle.rr_laws.proofs.Connected.{no_port_at_next}
use Rattle.rr_laws.proofs.Opening.{some_and}
use Rattle.rr_laws.proofs.Loaning.{fits_with_role, fits_with_next, known_with_next}
use Rattle.rr_laws.proofs.Putting.{shrinks_taken}
use Rattle.rr_laws.proofs.Expiring.{fits_with_requests, fits_with_responses}

module _ {Q QH P PH K : Type 0} where
  -- what the first entry of a list was
  first_request : (s : State Q QH P PH K) → IsReached s → (key : RequestKey) (m : RequestMessage Q QH) (rest : List (RequestMessage Q QH))
      → at s.requests key ≡ m ∷ rest →
      RequestFits s.limits s.servers (roles_of s.handles) s.next key m
  first_request s fits key m rest e = (subst (AllByRecursion (RequestFits s.limits s.servers (roles_of s.handles) s.next key)) e
      (fits.request_lists.each key)).0

  -- after the first request left a list
  pub takes_request_reached : (s : State Q QH P PH K) → IsReached s → (key : RequestKey) (m : RequestMessage Q QH) (new : State Q QH P PH K)
      → TakesRequest s key m new → IsReached new
  takes_request_reached s fits key m new takes =
      let rest = takes.1.0 in
      subst (λ (x : State Q QH P PH K). IsReached x) (sym takes.1.2)
      (fits_with_requests s (with_at s.requests key rest) fits
      (requests_shrink s.limits (roles_of s.handles) s.next s.servers s.requests (with_at s.requests key rest)
      (shrinks_taken request_keys_total request_keys_exact s.requests key m rest takes.1.1) fits.request_lists))

  -- after dead requests left the fronts of lists
  pub skims_reached : (clients : List ℕ) (s : State Q QH P PH K) → IsReached s → (server : ℕ) (new : State Q QH P PH K)
      → Skims s server clients new → IsReached new
  skims_reached [] s fits server new skims = subst (λ (x : State Q QH P PH K). IsReached x) (sym skims) fits
  skims_reached (client ∷ clients) s fits server new skims =
      skims_reached clients skims.1 (takes_request_reached s fits (request_key client server) skims.0 skims.1 skims.3) server new skims.4

  -- a request that is handed to a server
  with_active_request_reached : (s : State Q QH P PH K) → IsReached s
      → (client server : ℕ) (m : RequestMessage Q QH) (mid : State Q QH P PH K) → TakesRequest s (request_key client server) m mid →
      IsReached (with_active_request mid server m)
  with_active_request_reached s fits client server m mid takes =
      let key = request_key client server in
      let rest = takes.1.0 in
      let f = first_request s fits key m rest takes.1.1 in
      let q = question_of m in
      let roles = roles_of s.handles in
      let lists = with_at s.requests key rest in
      let mid_fits = fits_with_requests s lists fits
      (requests_shrink s.limits roles s.next s.servers s.requests lists
      (shrinks_taken request_keys_total request_keys_exact s.requests key m rest takes.1.1) fits.request_lists) in
      let left : tally (holds_request (request_key m.client server)) roles < s.limits.max_active_requests_per_client =
      subst (λ c. tally (holds_request (request_key c server)) roles < s.limits.max_active_requests_per_client) (sym f.client)
      (subst (λ k. k < s.limits.max_active_requests_per_client) (borrowed_requests-roles s key) (ltb-true _ _ takes.0)) in
      subst (λ (x : State Q QH P PH K). IsReached (with_active_request x server m)) (sym takes.1.2)
      (subst (λ r. Fits s.limits s.clients s.servers r lists s.responses (s.next + 1)) (sym (roles-insert s.handles s.next _))
      (fits_with_next s.limits s.clients s.servers roles lists s.responses s.next mid_fits (ReceivedRequest server q)
      (record {
        below = omega arith;
        own_number = refl;
        no_port = no_port_at_next s.limits s.clients s.servers s.next fits.ports;
        connected = f.server;
        known = known_with_next s.limits s.clients s.servers roles lists s.responses s.next mid_fits (ReceivedRequest server q) q f.known;
        channel = f.channel;
      })
      (counts_with_received_request s.limits s.servers roles fits.counts s.next server q left)))

  unskimmed_reached : (s : State Q QH P PH K) → IsReached s → (server : ℕ) (result : Result (Option ℕ) ReceiveError)
      (new : State Q QH P PH K) → ReceivesUnskimmed s server result new → IsReached new
  unskimmed_reached s fits server (Ok (Some number)) new receives =
      let r = receives.1 in
      subst (λ (x : State Q QH P PH K). IsReached x) (sym r.5) (with_active_request_reached s fits r.0 server r.1 r.2 r.3)
  unskimmed_reached s fits server (Ok None) new receives = subst (λ (x : State Q QH P PH K). IsReached x) (sym receives.1) fits
  unskimmed_reached s fits server (Err ReceiveError.ExceedsMaxBorrows) new receives = subst (λ (x : State Q QH P PH K). IsReached x)
      (sym receives.2) fits
  unskimmed_reached s fits server (Err (ReceiveError.ConnectionFailure failure)) new receives = absurd receives

  -- after a server received, or could not
  pub receives_request_reached : (s : State Q QH P PH K) → IsReached s
      → (n : ℕ) (result : Result (Option ℕ) ReceiveError) (new : State Q QH P PH K) → ReceivesRequest s n result new → IsReached new
  receives_request_reached s fits n result new receives =
      let r = receives.1 in
      unskimmed_reached r.1 (skims_reached r.0 s fits n r.1 r.2) n result new r.3

  -- a response that is handed to a pending response
  with_response_reached : (s : State Q QH P PH K) → IsReached s → (key : ResponseKey) (m : ResponseMessage P PH) (mid : State Q QH P PH K)
      → TakesResponse s key m mid →
      IsReached (record mid { handles = insert mid.handles m.number (Response m) })
  with_response_reached s fits key m mid takes =
      let rest = takes.1.0 in
      let f = (subst (AllByRecursion (ResponseFits s.clients s.servers (roles_of s.handles) s.next key)) takes.1.1
      (fits.response_lists.each key)).0 in
      let a = answer_of m in
      let roles = roles_of s.handles in
      let lists = with_at s.responses key rest in
      let mid_fits = fits_with_responses s lists fits
      (responses_shrink s.limits roles s.next s.clients s.servers s.responses lists
      (shrinks_taken response_keys_total response_keys_exact s.responses key m rest takes.1.1) fits.response_lists) in
      let waiting = fits.handles m.request (SentRequest (answered a)) f.answers in
      let stays = asking_stays_with roles m.number s.next (ReceivedResponse a) (λ p e. absurd (let g : None ≡ Some p = e in cc)) in
      let left : tally (holds_response key) roles < s.limits.max_borrowed_responses_per_pending_response =
      subst (λ k. k < s.limits.max_borrowed_responses_per_pending_response) (borrowed_responses-roles s key) (ltb-true _ _ takes.0) in
      subst (λ (x : State Q QH P PH K). IsReached (record x { handles = insert x.handles m.number (Response m) })) (sym takes.1.2)
      (subst (λ r. Fits s.limits s.clients s.servers r s.requests lists s.next) (sym (roles-insert s.handles m.number _))
      (fits_with_role s.limits s.clients s.servers roles s.requests lists s.next mid_fits m.number s.next (ReceivedResponse a)
      (omega arith) stays
      (λ q e. absurd (let g : None ≡ Some q = sym f.no_request ∙ ap (option_and_then asking) e in cc))
      (record {
        below = f.below;
        own_number = refl;
        no_port = f.no_port;
        connected = waiting.connected;
        known = known_stays roles (insert roles m.number (ReceivedResponse a)) s.next s.next (omega arith) stays (answered a) waiting.known;
        channel = waiting.channel;
      })
      (counts_with_received_response s.limits s.servers roles fits.counts m.number a key f.server f.client f.channel left)))

  -- after a pending response received, or could not
  pub receives_response_reached : (s : State Q QH P PH K) → IsReached s
      → (n : ℕ) (result : Result (Option ℕ) ReceiveError) (new : State Q QH P PH K) → ReceivesResponse s n result new → IsReached new
  receives_response_reached s fits n (Ok (Some number)) new receives =
      let o = some_and (pending_at s n) _ receives in
      let r = o.2 in
      let same : number ≡ r.1.number = r.4 in
      subst (λ (x : State Q QH P PH K). IsReached x) (sym r.5)
      (subst (λ k. IsReached (record r.2 { handles = insert r.2.handles k (Response r.1) })) (sym same)
      (with_response_reached s fits (response_key o.0 r.0) r.1 r.2 r.3))
  receives_response_reached s fits n (Ok None) new receives =
      let o = some_and (pending_at s n) _ receives in
      subst (λ (x : State Q QH P PH K). IsReached x) (sym o.2.1) fits
  receives_response_reached s fits n (Err ReceiveError.ExceedsMaxBorrows) new receives =
      let o = some_and (pending_at s n) _ receives in
      subst (λ (x : State Q QH P PH K). IsReached x) (sym o.2.2) fits
  receives_response_reached s fits n (Err (ReceiveError.ConnectionFailure failure)) new receives = absurd receives
