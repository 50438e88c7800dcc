-- What stands behind a number that a step names.
use Rattle.std.proofs.Common.{◌≡◌, ℕ, Option, Some, None, refl}
use Rattle.std.specs.Prelude.{option_and_then, IsSomeAnd}
use Rattle.rr_protocol.specs.Messages.{RequestMessage, ResponseMessage, Pending, Active, Handle, RequestMut, PendingResponse, ActiveRequest, ResponseMut, as_request_mut, as_pending, as_active, as_response_mut}
use Rattle.rr_protocol.specs.Ports.{Client, Server}
use Rattle.rr_protocol.specs.State.{State, IsRequestMutAnd, IsResponseMutAnd, IsActiveAnd, client_at, server_at, handle_at, request_at, active_at, response_at}

-- a fact of what is there
pub some_and : {X : Type 0} (o : Option X) (P : X → Type 0) → IsSomeAnd o P → (x : X) × (o ≡ Some x) × P x
some_and None P h = absurd h
some_and (Some x) P h = (x, refl, h)

-- two facts of what is there make a third
pub with_both : {X : Type 0} (o : Option X) (P R T : X → Type 0) → ((x : X) → P x → R x → T x) → IsSomeAnd o P → IsSomeAnd o R
    → IsSomeAnd o T
with_both None P R T make h k = absurd h
with_both (Some x) P R T make h k = make x h k

module _ {Q QH P PH : Type 0} where
  -- the handle of a request that can be sent
  pub from_request_mut : (o : Option (Handle Q QH P PH)) (m : RequestMessage Q QH) → option_and_then as_request_mut o ≡ Some m
      → o ≡ Some (RequestMut m)
  from_request_mut None m e = absurd (cc)
  from_request_mut (Some (RequestMut x)) m e = (cc)
  from_request_mut (Some other) m e = absurd (cc)

  -- the handle of a pending response
  pub from_pending : (o : Option (Handle Q QH P PH)) (p : Pending Q QH) → option_and_then as_pending o ≡ Some p
      → o ≡ Some (PendingResponse p)
  from_pending None p e = absurd (cc)
  from_pending (Some (PendingResponse x)) p e = (cc)
  from_pending (Some other) p e = absurd (cc)

  -- the handle of an active request
  pub from_active : (o : Option (Handle Q QH P PH)) (a : Active Q QH) → option_and_then as_active o ≡ Some a → o ≡ Some (ActiveRequest a)
  from_active None a e = absurd (cc)
  from_active (Some (ActiveRequest x)) a e = (cc)
  from_active (Some other) a e = absurd (cc)

  -- the handle of a response that can be sent
  pub from_response_mut : (o : Option (Handle Q QH P PH)) (m : ResponseMessage P PH) → option_and_then as_response_mut o ≡ Some m
      → o ≡ Some (ResponseMut m)
  from_response_mut None m e = absurd (cc)
  from_response_mut (Some (ResponseMut x)) m e = (cc)
  from_response_mut (Some other) m e = absurd (cc)

-- what a handle shows, the port that it names, and a fact of both
opened : {A B : Type 0} (shown : Option A) (port : A → Option B) (R : B → A → Type 0)
    → IsSomeAnd shown (λ a. IsSomeAnd (port a) (λ b. R b a))
    → (b : B) × (a : A) × (shown ≡ Some a) × (port a ≡ Some b) × R b a
opened shown port R h =
    let a = some_and shown _ h in
    let b = some_and (port a.0) _ a.2 in
    (b.0, a.0, a.1, b.1, b.2)

module _ {Q QH P PH K : Type 0} (s : State Q QH P PH K) (n : ℕ) where
  -- a request that can be sent, its client, and a fact of both
  pub open_request_mut : (R : Client K → RequestMessage Q QH → Type 0) → IsRequestMutAnd s n R →
      (client : Client K) × (message : RequestMessage Q QH) × (handle_at s n ≡ Some (RequestMut message))
      × (client_at s message.client ≡ Some client) × R client message
  open_request_mut R h = let f = opened (request_at s n) (λ m. client_at s m.client) R h in
      (f.0, f.1, from_request_mut (handle_at s n) f.1 f.2, f.3, f.4)

  -- a response that can be sent, its server, and a fact of both
  pub open_response_mut : (R : Server K → ResponseMessage P PH → Type 0) → IsResponseMutAnd s n R →
      (server : Server K) × (message : ResponseMessage P PH) × (handle_at s n ≡ Some (ResponseMut message))
      × (server_at s message.server ≡ Some server) × R server message
  open_response_mut R h = let f = opened (response_at s n) (λ m. server_at s m.server) R h in
      (f.0, f.1, from_response_mut (handle_at s n) f.1 f.2, f.3, f.4)

  -- an active request, its server, and a fact of both
  pub open_active : (R : Server K → Active Q QH → Type 0) → IsActiveAnd s n R →
      (server : Server K) × (active : Active Q QH) × (handle_at s n ≡ Some (ActiveRequest active))
      × (server_at s active.server ≡ Some server) × R server active
  open_active R h = let f = opened (active_at s n) (λ a. server_at s a.server) R h in
      (f.0, f.1, from_active (handle_at s n) f.1 f.2, f.3, f.4)
