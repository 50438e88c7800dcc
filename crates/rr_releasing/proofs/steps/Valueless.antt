-- The release of a port's value, and then its leaving.
use Rattle.std.proofs.Common.{◌≡◌, ℕ, None, Option, Some, refl, sym, ap, ◌∙◌, subst}
use Rattle.std.specs.Prelude.{IsSomeAnd, slice_get}
use Rattle.std.specs.Option.{option_map_or}
use Rattle.std.specs.FinMap as fin_map
use Rattle.rr_protocol.specs.declared.kind.Kind.{Kind}
use Rattle.rr_protocol.specs.declared.kind.Kind.TheVariants as kind
use Rattle.rr_protocol.specs.Messages.{Handle, RequestMutUninit, RequestMut, PendingResponse, ActiveRequest, ResponseMutUninit, ResponseMut, Response, port_of}
use Rattle.rr_protocol.specs.Queries.{kind_at, kind_of}
use Rattle.rr_protocol.specs.Releases.{after_handle_gone, after_release, without_port_value, without_unused_port}
use Rattle.rr_protocol.specs.State.{State, handle_at}
use Rattle.rr_laws.specs.Complete.{MessagesComplete}
use Rattle.rr_laws.specs.Reached.{IsReached}
use Rattle.rr_laws.proofs.CompleteReleases.{after_release_complete}
use Rattle.rr_laws.proofs.Leaving.{after_release_reached}
use Rattle.rr_laws.proofs.Naming.{handle_named}
use Rattle.rr_laws.proofs.Opening.{some_and}
use Rattle.rr_store.specs.Parts.{ClientPart, Parts, ServerPart}
use Rattle.rr_store.specs.Reaching.{IsCore}
use Rattle.rr_store.specs.Sound.{IsSoundStore, empty_hand}
use Rattle.rr_store.specs.Views.{state_of}

module _ {Q QH P PH : Type 0} where
  -- no handle is a port
  no_port : (h : Handle Q QH P PH) → ((kind_of h ≡ kind.Client → ⊥) × (kind_of h ≡ kind.Server → ⊥))
  no_port (RequestMutUninit m) = (λ e. let f : kind.RequestMutUninit ≡ kind.Client = e in cc, λ e. let f : kind.RequestMutUninit ≡ kind.Server = e in cc)
  no_port (RequestMut m) = (λ e. let f : kind.RequestMut ≡ kind.Client = e in cc, λ e. let f : kind.RequestMut ≡ kind.Server = e in cc)
  no_port (PendingResponse r) = (λ e. let f : kind.PendingResponse ≡ kind.Client = e in cc, λ e. let f : kind.PendingResponse ≡ kind.Server = e in cc)
  no_port (ActiveRequest a) = (λ e. let f : kind.ActiveRequest ≡ kind.Client = e in cc, λ e. let f : kind.ActiveRequest ≡ kind.Server = e in cc)
  no_port (ResponseMutUninit m) = (λ e. let f : kind.ResponseMutUninit ≡ kind.Client = e in cc, λ e. let f : kind.ResponseMutUninit ≡ kind.Server = e in cc)
  no_port (ResponseMut m) = (λ e. let f : kind.ResponseMut ≡ kind.Client = e in cc, λ e. let f : kind.ResponseMut ≡ kind.Server = e in cc)
  no_port (Response m) = (λ e. let f : kind.Response ≡ kind.Client = e in cc, λ e. let f : kind.Response ≡ kind.Server = e in cc)

module _ {Q QH P PH K : Type 0} (p : Parts Q QH P PH K) (core : IsCore p) (n : ℕ) where
  -- under a port's number no handle stands
  no_handle : (named : Kind) → kind_at (state_of p) n ≡ Some named → ((h : Handle Q QH P PH) → kind_of h ≡ named → ⊥)
      → handle_at (state_of p) n ≡ None
  no_handle named is other = go (handle_at (state_of p) n) refl
    where
      go : (o : Option (Handle Q QH P PH)) → handle_at (state_of p) n ≡ o → handle_at (state_of p) n ≡ None
      go None e = e
      go (Some h) e =
          let f : Some (kind_of h) ≡ Some named = sym (handle_named (state_of p) core.reached n h e) ∙ is in
          absurd (other h (cc))

  module _ (named : Kind) (is : kind_at (state_of p) n ≡ Some named) (other : (h : Handle Q QH P PH) → kind_of h ≡ named → ⊥)
      (q : Parts Q QH P PH K) (gone : state_of q ≡ without_port_value (state_of p) n) (t : Parts Q QH P PH K)
      (left : state_of t ≡ without_unused_port (state_of q) n) where
    view_then : state_of t ≡ after_release (state_of p) n
    view_then =
        left ∙ ap (λ (s : State Q QH P PH K). without_unused_port s n) gone
        ∙ sym (ap (λ o. option_map_or (λ handle. without_unused_port
        (after_handle_gone (record (state_of p) { handles = fin_map.remove (state_of p).handles n }) handle) (port_of handle)) o
        (without_unused_port (without_port_value (state_of p) n) n)) (no_handle named is other))

    core_then : IsSoundStore t empty_hand → IsCore t
    core_then sound = record {
      sound = sound;
      reached = subst (λ s. IsReached s) (sym view_then) (after_release_reached (state_of p) n core.reached);
      complete = subst (λ s. MessagesComplete s) (sym view_then) (after_release_complete (state_of p) n core.complete);
    }

  module _ (is : kind_at (state_of p) n ≡ Some kind.Client) (q : Parts Q QH P PH K)
      (gone : state_of q ≡ without_port_value (state_of p) n) (index : ℕ)
      (named : IsSomeAnd (slice_get q.clients index) (λ c. c.port.id ≡ n)) (t : Parts Q QH P PH K)
      (left : IsSomeAnd (slice_get q.clients index) (λ c. state_of t ≡ without_unused_port (state_of q) c.port.id)) where
    -- the client at the index left, by its number
    client_left : state_of t ≡ without_unused_port (state_of q) n
    client_left =
        let it = some_and (slice_get q.clients index) (λ c. c.port.id ≡ n) named in
        subst (λ o. IsSomeAnd o (λ (c : ClientPart K). state_of t ≡ without_unused_port (state_of q) c.port.id)) it.1 left
        ∙ ap (without_unused_port (state_of q)) it.2

    -- a client's value was released
    pub client_view : state_of t ≡ after_release (state_of p) n
    client_view = view_then kind.Client is (λ h. (no_port h).0) q gone t client_left

    pub client_core : IsSoundStore t empty_hand → IsCore t
    client_core = core_then kind.Client is (λ h. (no_port h).0) q gone t client_left

  module _ (is : kind_at (state_of p) n ≡ Some kind.Server) (q : Parts Q QH P PH K)
      (gone : state_of q ≡ without_port_value (state_of p) n) (index : ℕ)
      (named : IsSomeAnd (slice_get q.servers index) (λ s. s.port.id ≡ n)) (t : Parts Q QH P PH K)
      (left : IsSomeAnd (slice_get q.servers index) (λ s. state_of t ≡ without_unused_port (state_of q) s.port.id)) where
    -- the server did
    server_left : state_of t ≡ without_unused_port (state_of q) n
    server_left =
        let it = some_and (slice_get q.servers index) (λ s. s.port.id ≡ n) named in
        subst (λ o. IsSomeAnd o (λ (s : ServerPart K). state_of t ≡ without_unused_port (state_of q) s.port.id)) it.1 left
        ∙ ap (without_unused_port (state_of q)) it.2

    -- a server's value was released
    pub server_view : state_of t ≡ after_release (state_of p) n
    server_view = view_then kind.Server is (λ h. (no_port h).1) q gone t server_left

    pub server_core : IsSoundStore t empty_hand → IsCore t
    server_core = core_then kind.Server is (λ h. (no_port h).1) q gone t server_left
