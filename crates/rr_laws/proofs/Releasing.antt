-- A hub fits after a handle was released, but for what its port then takes along.
use Rattle.std.proofs.Common.{◌≡◌, ℕ, Bool, true, false, cond, not, eqb, ◌&&◌, List, [], Some, refl, sym, ap, ◌∙◌, subst, arith}
use Rattle.std.specs.Prelude.{◌≢◌}
use Rattle.std.specs.List.{AllByRecursion}
use Rattle.std.specs.FinMap as fin_map
use Rattle.std.specs.FinMap.{get, remove}
use Rattle.std.proofs.lemmas.Bool.{eq-eqb}
use Rattle.rr_table.proofs.MapLaws.{get-remove_cases, get-remove_other}
use Rattle.rr_protocol.specs.declared.limits.Limits.{Limits}
use Rattle.rr_protocol.specs.Lists.{Lists, at}
use Rattle.rr_protocol.specs.Keys.{ResponseKey, request_key_cmp, response_key_cmp}
use Rattle.rr_protocol.specs.Messages.{RequestMessage, ResponseMessage, Handle, RequestMutUninit, RequestMut, PendingResponse, ActiveRequest, ResponseMutUninit, ResponseMut, Response}
use Rattle.rr_protocol.specs.Ports.{Client, Server}
use Rattle.rr_protocol.specs.State.{State, handle_at}
use Rattle.rr_protocol.specs.Releases.{without_server, after_handle_gone}
use Rattle.rr_protocol.proofs.KeyLaws.{response_keys_total, response_keys_exact}
use Rattle.rr_protocol.proofs.ListsLaws.{at-retain_keys}
use Rattle.rr_laws.specs.Roles.{Question, LoanedRequest, SentRequest, ReceivedRequest, LoanedResponse, ReceivedResponse, Roles, role_of, roles_of, question_of, answer_of, answered}
use Rattle.rr_laws.specs.Reached.{ResponseFits, ResponsesFit, Fits, IsReached}
use Rattle.rr_table.proofs.ListFacts.{all_each}
use Rattle.rr_laws.proofs.RoleLaws.{role_at, roles-remove, roles-changed}
use Rattle.rr_laws.proofs.Staying.{asking_stays_without, waiting_stays_without, role_stays, requests_stay, responses_stay, responses_shrink, no_request_later}
use Rattle.rr_laws.proofs.Counts.{counts_without}
use Rattle.rr_laws.proofs.Putting.{shrinks_retained}

module _ {Q QH P PH K : Type 0} (limits : Limits) (clients : List (Client K)) (servers : List (Server K)) (roles : Roles)
    (requests : Lists request_key_cmp (RequestMessage Q QH)) (responses : Lists response_key_cmp (ResponseMessage P PH)) (next : ℕ)
    (fits : Fits limits clients servers roles requests responses next) (n : ℕ) where
  -- one role less, where the lists of responses fit without it
  fits_without : (rest : Lists response_key_cmp (ResponseMessage P PH)) → ResponsesFit limits clients servers (remove roles n) next rest
      → Fits limits clients servers (remove roles n) requests rest next
  fits_without rest rest_fits =
      record {
        makes_hub = fits.makes_hub;
        ports = fits.ports;
        handles = λ k role e. role_stays roles (remove roles n) next next (omega arith)
            (asking_stays_without roles n next) limits servers clients k role (fits.handles k role (get-remove_cases roles n k role e).1);
        counts = counts_without limits servers roles fits.counts n;
        request_lists = requests_stay roles (remove roles n) next next (omega arith)
            (asking_stays_without roles n next) limits servers requests fits.request_lists;
        response_lists = rest_fits;
      }

  -- one role less, of a request that doesn't wait or of a response
  pub fits_without_role : ((q : Question) → get roles n ≢ Some (SentRequest q))
      → Fits limits clients servers (remove roles n) requests responses next
  fits_without_role apart =
      fits_without responses (responses_stay roles (remove roles n) next next (omega arith)
      (asking_stays_without roles n next) limits servers clients (waiting_stays_without roles n apart) responses fits.response_lists)

  -- an entry of a list whose channel is another one answers another request
  entry_stays : (q : Question) → get roles n ≡ Some (SentRequest q) → (key : ResponseKey)
      → (eqb key.client q.client && eqb key.channel q.channel) ≡ false → (m : ResponseMessage P PH)
      → ResponseFits clients servers roles next key m →
      m.request ≢ n
  entry_stays q is key other m f same =
      let e : Some (SentRequest q) ≡ Some (SentRequest (answered (answer_of m))) = sym is ∙ ap (get roles) (sym same) ∙ f.answers in
      let one : q ≡ answered (answer_of m) = cc in
      let client : key.client ≡ q.client = sym f.client ∙ sym (ap (λ (x : Question). x.client) one) in
      let channel : key.channel ≡ q.channel = sym f.channel ∙ sym (ap (λ (x : Question). x.channel) one) in
      absurd (let t : true ≡ false = sym (ap (λ b. b && true) (eq-eqb key.client q.client client))
      ∙ sym (ap (λ b. eqb key.client q.client && b) (eq-eqb key.channel q.channel channel)) ∙ other in cc)

  -- one waiting request less, and with it all entries of its channel
  pub fits_without_waiting : (q : Question) → get roles n ≡ Some (SentRequest q) →
      Fits limits clients servers (remove roles n) requests (fin_map.retain_keys responses
      (λ key. not (eqb key.client q.client && eqb key.channel q.channel))) next
  fits_without_waiting q is =
      let kept : ResponseKey → Bool = λ key. not (eqb key.client q.client && eqb key.channel q.channel) in
      let rest = fin_map.retain_keys responses kept in
      let shrunk = responses_shrink limits roles next clients servers responses rest
      (shrinks_retained response_keys_total response_keys_exact responses kept) fits.response_lists in
      fits_without rest (record {
        each = λ key. subst (AllByRecursion (ResponseFits clients servers (remove roles n) next key))
            (sym (at-retain_keys response_keys_total response_keys_exact responses kept key))
            (go key (eqb key.client q.client && eqb key.channel q.channel) refl);
        short = shrunk.short;
      })
    where
      go : (key : ResponseKey) (b : Bool) → (eqb key.client q.client && eqb key.channel q.channel) ≡ b
          → AllByRecursion (ResponseFits clients servers (remove roles n) next key) (cond (not b) (at responses key) [])
      go key true e = tt
      go key false e = all_each (ResponseFits clients servers roles next key)
          (ResponseFits clients servers (remove roles n) next key) (λ m f.
          record {
            server = f.server;
            client = f.client;
            channel = f.channel;
            below = f.below;
            no_request = no_request_later roles (remove roles n) next next (omega arith)
                (asking_stays_without roles n next) m.number f.below f.no_request;
            no_port = f.no_port;
            answers = get-remove_other roles n m.request (entry_stays q is key e m f) ∙ f.answers;
          }) (at responses key) (fits.response_lists.each key)

-- a pending response that a server will not answer keeps its role
pub without_server-role : {Q QH P PH : Type 0} (server : ℕ) (h : Handle Q QH P PH) → role_of (without_server server h) ≡ role_of h
without_server-role server (RequestMutUninit m) = refl
without_server-role server (RequestMut m) = refl
without_server-role server (PendingResponse p) = refl
without_server-role server (ActiveRequest a) = refl
without_server-role server (ResponseMutUninit m) = refl
without_server-role server (ResponseMut m) = refl
without_server-role server (Response m) = refl

module _ {Q QH P PH K : Type 0} (s : State Q QH P PH K) (fits : IsReached s) (n : ℕ) where
  FitsWithRoles : Roles → Lists response_key_cmp (ResponseMessage P PH) → Type 0
  FitsWithRoles roles responses = Fits s.limits s.clients s.servers roles s.requests responses s.next

  plainly_gone : ((q : Question) → get (roles_of s.handles) n ≢ Some (SentRequest q))
      → FitsWithRoles (roles_of (remove s.handles n)) s.responses
  unfolding FitsWithRoles
  plainly_gone apart =
      subst (λ r. Fits s.limits s.clients s.servers r s.requests s.responses s.next) (sym (roles-remove s.handles n))
      (fits_without_role s.limits s.clients s.servers (roles_of s.handles) s.requests s.responses s.next fits n apart)

  -- after a handle is gone, and what goes with it
  pub handle_gone_reached : (h : Handle Q QH P PH) → handle_at s n ≡ Some h
      → IsReached (after_handle_gone (record s { handles = remove s.handles n }) h)
  unfolding FitsWithRoles
  handle_gone_reached (RequestMutUninit m) is = plainly_gone
      (λ q e. absurd (let f = role_at s.handles n (RequestMutUninit m) is in
      let g : Some (LoanedRequest (question_of m)) ≡ Some (SentRequest q) = sym f ∙ e in cc))
  handle_gone_reached (RequestMut m) is = plainly_gone (λ q e. absurd
      (let f = role_at s.handles n (RequestMut m) is in let g : Some (LoanedRequest (question_of m)) ≡ Some (SentRequest q) = sym f ∙ e in
      cc))
  handle_gone_reached (PendingResponse p) is =
      let kept : ResponseKey → Bool = λ key. not (eqb key.client p.message.client && eqb key.channel p.message.channel) in
      subst (λ r. Fits s.limits s.clients s.servers r s.requests (fin_map.retain_keys s.responses kept) s.next)
      (sym (roles-remove s.handles n))
      (fits_without_waiting s.limits s.clients s.servers (roles_of s.handles) s.requests s.responses s.next fits n (question_of p.message)
      (role_at s.handles n (PendingResponse p) is))
  handle_gone_reached (ActiveRequest a) is =
      subst (λ r. Fits s.limits s.clients s.servers r s.requests s.responses s.next)
      (sym (roles-changed (without_server a.server) (without_server-role a.server) (remove s.handles n) a.message.number))
      (plainly_gone (λ q e. absurd (let f = role_at s.handles n (ActiveRequest a) is in
      let g : Some (ReceivedRequest a.server (question_of a.message)) ≡ Some (SentRequest q) = sym f ∙ e in cc)))
  handle_gone_reached (ResponseMutUninit m) is = plainly_gone
      (λ q e. absurd (let f = role_at s.handles n (ResponseMutUninit m) is in
      let g : Some (LoanedResponse (answer_of m)) ≡ Some (SentRequest q) = sym f ∙ e in cc))
  handle_gone_reached (ResponseMut m) is = plainly_gone (λ q e. absurd
      (let f = role_at s.handles n (ResponseMut m) is in let g : Some (LoanedResponse (answer_of m)) ≡ Some (SentRequest q) = sym f ∙ e in
      cc))
  handle_gone_reached (Response m) is = plainly_gone (λ q e. absurd
      (let f = role_at s.handles n (Response m) is in let g : Some (ReceivedResponse (answer_of m)) ≡ Some (SentRequest q) = sym f ∙ e in
      cc))
