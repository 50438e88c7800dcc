-- A message that was loaned and written can be sent.
use Rattle.std.proofs.Common.{◌≡◌, ◌≢◌, ℕ, List, Option, None, Some, Ok, option_map, refl, sym, ap, ◌∙◌, subst}
use Rattle.std.specs.Prelude.{IsSome}
use Rattle.rr_table.proofs.MapLaws.{get-insert_same}
use Rattle.rr_protocol.specs.declared.kind.Kind.{Kind}
use Rattle.rr_protocol.specs.Messages.{ActiveRequest, Content, Handle, PendingResponse, RequestMut, RequestMutUninit, Response, ResponseMut, ResponseMutUninit}
use Rattle.rr_protocol.specs.Queries.{kind_at, kind_of}
use Rattle.rr_protocol.specs.Loans.{LoansRequest, LoansResponse}
use Rattle.rr_protocol.specs.State.{State, client_at, handle_at, with_changed}
use Rattle.rr_protocol.specs.Writing.{after_init, with_elements, with_request_content, with_response_content}
use Rattle.rr_laws.specs.Reached.{IsReached}
use Rattle.rr_laws.proofs.CompleteMessages.{changed_there}
use Rattle.rr_laws.proofs.Naming.{handle_named}
use Rattle.rr_laws.proofs.Opening.{open_active, some_and}
use Rattle.rr_store.proofs.querying.Connected.{handle_kind}
use Rattle.rr_hub.specs.Copies.{with_complete_request, with_complete_response}

module _ {Q QH P PH : Type 0} where
  initialised_request : (change : Content Q QH → Content Q QH) (h : Handle Q QH P PH) → kind_of h ≡ Kind.RequestMutUninit
      → kind_of (after_init (with_request_content change h)) ≡ Kind.RequestMut
  initialised_request change (RequestMutUninit m) e = refl
  initialised_request change (RequestMut m) e = absurd (let f : Kind.RequestMut ≡ Kind.RequestMutUninit = e in cc)
  initialised_request change (PendingResponse m) e = absurd (let f : Kind.PendingResponse ≡ Kind.RequestMutUninit = e in cc)
  initialised_request change (ActiveRequest m) e = absurd (let f : Kind.ActiveRequest ≡ Kind.RequestMutUninit = e in cc)
  initialised_request change (ResponseMutUninit m) e = absurd (let f : Kind.ResponseMutUninit ≡ Kind.RequestMutUninit = e in cc)
  initialised_request change (ResponseMut m) e = absurd (let f : Kind.ResponseMut ≡ Kind.RequestMutUninit = e in cc)
  initialised_request change (Response m) e = absurd (let f : Kind.Response ≡ Kind.RequestMutUninit = e in cc)

  initialised_response : (change : Content P PH → Content P PH) (h : Handle Q QH P PH) → kind_of h ≡ Kind.ResponseMutUninit
      → kind_of (after_init (with_response_content change h)) ≡ Kind.ResponseMut
  initialised_response change (ResponseMutUninit m) e = refl
  initialised_response change (RequestMutUninit m) e = absurd (let f : Kind.RequestMutUninit ≡ Kind.ResponseMutUninit = e in cc)
  initialised_response change (RequestMut m) e = absurd (let f : Kind.RequestMut ≡ Kind.ResponseMutUninit = e in cc)
  initialised_response change (PendingResponse m) e = absurd (let f : Kind.PendingResponse ≡ Kind.ResponseMutUninit = e in cc)
  initialised_response change (ActiveRequest m) e = absurd (let f : Kind.ActiveRequest ≡ Kind.ResponseMutUninit = e in cc)
  initialised_response change (ResponseMut m) e = absurd (let f : Kind.ResponseMut ≡ Kind.ResponseMutUninit = e in cc)
  initialised_response change (Response m) e = absurd (let f : Kind.Response ≡ Kind.ResponseMutUninit = e in cc)

module _ {Q QH P PH K : Type 0} (s : State Q QH P PH K) (n : ℕ) where
  -- a handle that changed twice
  changed_twice : (first second : Handle Q QH P PH → Handle Q QH P PH) (h : Handle Q QH P PH) → handle_at s n ≡ Some h
      → handle_at (with_changed (with_changed s n first) n second) n ≡ Some (second (first h))
  changed_twice first second h at =
      let once : handle_at (with_changed s n first) n ≡ Some (first h) =
      ap (λ t. handle_at t n) (changed_there s n first h at) ∙ get-insert_same s.handles n (first h) n refl in
      ap (λ t. handle_at t n) (changed_there (with_changed s n first) n second (first h) once)
      ∙ get-insert_same (with_changed s n first).handles n (second (first h)) n refl

  -- what stands under a number of some kind
  under : (k : Kind) → Kind.Client ≢ k → Kind.Server ≢ k → kind_at s n ≡ Some k → (h : Handle Q QH P PH) × (handle_at s n ≡ Some h) × (kind_of h ≡ k)
  under k client server kind = go (handle_at s n) refl (handle_kind s n k client server kind)
    where
      go : (o : Option (Handle Q QH P PH)) → handle_at s n ≡ o → option_map kind_of o ≡ Some k
          → (h : Handle Q QH P PH) × (handle_at s n ≡ Some h) × (kind_of h ≡ k)
      go None at e = absurd (let f : None ≡ Some k = e in cc)
      go (Some h) at e = (h, at, (let f : Some (kind_of h) ≡ Some k = e in cc))

  -- it is there
  pub is_there : (k : Kind) → Kind.Client ≢ k → Kind.Server ≢ k → kind_at s n ≡ Some k → IsSome (handle_at s n)
  is_there k client server kind = subst IsSome (sym (under k client server kind).1) refl

  module _ (t : State Q QH P PH K) (reached : IsReached t) where
    -- a request that was loaned and written
    pub request_ready : (elements : List Q) → t ≡ with_complete_request s n elements → kind_at s n ≡ Some Kind.RequestMutUninit
        → kind_at t n ≡ Some Kind.RequestMut
    request_ready elements is kind =
        let u = under Kind.RequestMutUninit (λ e. cc) (λ e. cc) kind in
        handle_named t reached n _ (ap (λ x. handle_at x n) is ∙ changed_twice (with_request_content (with_elements elements)) after_init u.0 u.1)
        ∙ ap Some (initialised_request (with_elements elements) u.0 u.2)

    -- and a response
    pub response_ready : (elements : List P) → t ≡ with_complete_response s n elements → kind_at s n ≡ Some Kind.ResponseMutUninit
        → kind_at t n ≡ Some Kind.ResponseMut
    response_ready elements is kind =
        let u = under Kind.ResponseMutUninit (λ e. cc) (λ e. cc) kind in
        handle_named t reached n _ (ap (λ x. handle_at x n) is ∙ changed_twice (with_response_content (with_elements elements)) after_init u.0 u.1)
        ∙ ap Some (initialised_response (with_elements elements) u.0 u.2)

    -- one that was loaned
    pub request_loaned : (IsDefault : QH → Type 0) (client len : ℕ) → LoansRequest IsDefault s client len (Ok n) t
        → kind_at t n ≡ Some Kind.RequestMutUninit
    request_loaned IsDefault client len loans =
        let f = some_and (client_at s client) _ loans in
        handle_named t reached n _ (ap (λ x. handle_at x n) f.2.2.4 ∙ get-insert_same s.handles s.next _ n f.2.1)

    pub response_loaned : (IsDefault : PH → Type 0) (active len : ℕ) → LoansResponse IsDefault s active len (Ok n) t
        → kind_at t n ≡ Some Kind.ResponseMutUninit
    response_loaned IsDefault active len loans =
        let f = open_active s active _ loans in
        handle_named t reached n _ (ap (λ x. handle_at x n) f.4.2.2 ∙ get-insert_same s.handles s.next _ n f.4.1)
