-- A hub fits after a handle changed in what its message says.
use Rattle.std.proofs.Common.{◌≡◌, ℕ, Bool, true, false, cond, List, Option, refl, sym, ◌∙◌, subst}
use Rattle.std.specs.Prelude.{IsSomeAnd}
use Rattle.rr_protocol.specs.Messages.{Content, Handle, RequestMutUninit, RequestMut, PendingResponse, ActiveRequest, ResponseMutUninit, ResponseMut, Response, with_hint}
use Rattle.rr_protocol.specs.Writing.{with_elements, with_request_content, with_response_content, after_init}
use Rattle.rr_protocol.specs.State.{State, with_changed}
use Rattle.rr_protocol.specs.Step.{with_content, with_complete}
use Rattle.rr_laws.specs.Roles.{role_of}
use Rattle.rr_laws.specs.Reached.{Fits, IsReached}
use Rattle.rr_laws.proofs.RoleLaws.{roles-changed}
use Rattle.rr_laws.proofs.Opening.{some_and}

module _ {Q QH P PH : Type 0} where
  -- to take a message as complete keeps its role
  pub init_role : (h : Handle Q QH P PH) → role_of (after_init h) ≡ role_of h
  init_role (RequestMutUninit m) = refl
  init_role (RequestMut m) = refl
  init_role (PendingResponse p) = refl
  init_role (ActiveRequest a) = refl
  init_role (ResponseMutUninit m) = refl
  init_role (ResponseMut m) = refl
  init_role (Response m) = refl

  -- so does a hint
  pub hint_role : (h : Handle Q QH P PH) → role_of (with_hint h) ≡ role_of h
  hint_role (RequestMutUninit m) = refl
  hint_role (RequestMut m) = refl
  hint_role (PendingResponse p) = refl
  hint_role (ActiveRequest a) = refl
  hint_role (ResponseMutUninit m) = refl
  hint_role (ResponseMut m) = refl
  hint_role (Response m) = refl

  -- so does a write in a request
  pub request_content_role : (change : Content Q QH → Content Q QH) (h : Handle Q QH P PH)
      → role_of (with_request_content change h) ≡ role_of h
  request_content_role change (RequestMutUninit m) = refl
  request_content_role change (RequestMut m) = refl
  request_content_role change (PendingResponse p) = refl
  request_content_role change (ActiveRequest a) = refl
  request_content_role change (ResponseMutUninit m) = refl
  request_content_role change (ResponseMut m) = refl
  request_content_role change (Response m) = refl

  -- and one in a response
  pub response_content_role : (change : Content P PH → Content P PH) (h : Handle Q QH P PH)
      → role_of (with_response_content change h) ≡ role_of h
  response_content_role change (RequestMutUninit m) = refl
  response_content_role change (RequestMut m) = refl
  response_content_role change (PendingResponse p) = refl
  response_content_role change (ActiveRequest a) = refl
  response_content_role change (ResponseMutUninit m) = refl
  response_content_role change (ResponseMut m) = refl
  response_content_role change (Response m) = refl

module _ {Q QH P PH K : Type 0} where
  -- a handle changed that keeps its role
  pub with_changed_reached : (s : State Q QH P PH K) (n : ℕ) (change : Handle Q QH P PH → Handle Q QH P PH)
      → ((h : Handle Q QH P PH) → role_of (change h) ≡ role_of h) → IsReached s → IsReached (with_changed s n change)
  with_changed_reached s n change same fits =
      subst (λ r. Fits s.limits s.clients s.servers r s.requests s.responses s.next) (sym (roles-changed change same s.handles n)) fits

  -- a message is taken as complete
  pub init_reached : (s : State Q QH P PH K) (n : ℕ) → IsReached s → IsReached (with_changed s n after_init)
  init_reached s n fits = with_changed_reached s n after_init init_role fits

  -- a hint is set
  pub hint_reached : (s : State Q QH P PH K) (n : ℕ) → IsReached s → IsReached (with_changed s n with_hint)
  hint_reached s n fits = with_changed_reached s n with_hint hint_role fits

  -- a message says something else, or was complete already
  pub push_reached : {X : Type 0} (s : State Q QH P PH K) (n : ℕ) (change : Handle Q QH P PH → Handle Q QH P PH)
      → ((h : Handle Q QH P PH) → role_of (change h) ≡ role_of h) →
      (pushed : Bool) (o : Option X) (R : X → Type 0) (new : State Q QH P PH K) → IsReached s
      → IsSomeAnd o (λ m. R m × (new ≡ cond pushed (with_changed s n change) s)) → IsReached new
  push_reached s n change same pushed o R new fits seen =
      subst (λ (x : State Q QH P PH K). IsReached x) (sym (some_and o _ seen).2.1) (go pushed)
    where
      go : (b : Bool) → IsReached (cond b (with_changed s n change) s)
      go true = with_changed_reached s n change same fits
      go false = fits

module _ {T H : Type 0} where
  -- so does a write in a message of either kind
  pub content_role : (change : Content T H → Content T H) (h : Handle T H T H)
      → role_of (with_request_content change (with_response_content change h)) ≡ role_of h
  content_role change h = request_content_role change (with_response_content change h) ∙ response_content_role change h

module _ {T H K : Type 0} where
  -- a message says something else
  pub content_reached : (s : State T H T H K) (n : ℕ) (change : Content T H → Content T H) → IsReached s
      → IsReached (with_content s n change)
  content_reached s n change fits = with_changed_reached s n (λ h. with_request_content change (with_response_content change h))
      (content_role change) fits

  -- all elements of a message are written
  pub complete_reached : (s : State T H T H K) (n : ℕ) (elements : List T) → IsReached s → IsReached (with_complete s n elements)
  complete_reached s n elements fits = init_reached (with_content s n (with_elements elements)) n
      (content_reached s n (with_elements elements) fits)
