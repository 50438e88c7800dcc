-- What the kind under a number tells of ports.
use Rattle.std.proofs.Common.{◌≡◌, ℕ, Bool, true, false, cond, Option, None, Some, option_map, find, refl, sym, ◌∙◌}
use Rattle.std.specs.Prelude.{◌==◌, ◌&&◌}
use Rattle.std.proofs.lemmas.Bool.{and_parts, false≢true}
use Rattle.rr_table.proofs.Members.{any_gives}
use Rattle.rr_protocol.specs.declared.kind.Kind.TheVariants as kind
use Rattle.rr_protocol.specs.Messages.{Handle, RequestMutUninit, RequestMut, PendingResponse, ActiveRequest, ResponseMutUninit, ResponseMut, Response}
use Rattle.rr_protocol.specs.Ports.{Client, Server}
use Rattle.rr_protocol.specs.Queries.{kind_at, kind_of}
use Rattle.rr_protocol.specs.State.{State, is_client_value, is_server_value, handle_at}
use Rattle.rr_store.proofs.base.senders.Entries.{found_none}

module _ {Q QH P PH : Type 0} where
  -- no handle is a client
  no_client : (h : Handle Q QH P PH) → kind_of h ≡ kind.Client → ⊥
  no_client (RequestMutUninit m) e = let f : kind.RequestMutUninit ≡ kind.Client = e in cc
  no_client (RequestMut m) e = let f : kind.RequestMut ≡ kind.Client = e in cc
  no_client (PendingResponse m) e = let f : kind.PendingResponse ≡ kind.Client = e in cc
  no_client (ActiveRequest m) e = let f : kind.ActiveRequest ≡ kind.Client = e in cc
  no_client (ResponseMutUninit m) e = let f : kind.ResponseMutUninit ≡ kind.Client = e in cc
  no_client (ResponseMut m) e = let f : kind.ResponseMut ≡ kind.Client = e in cc
  no_client (Response m) e = let f : kind.Response ≡ kind.Client = e in cc

module _ {Q QH P PH K : Type 0} where
  -- where a number is a client's, there is one with it
  pub client_there : (s : State Q QH P PH K) (n : ℕ) → kind_at s n ≡ Some kind.Client → find (λ c. c.id == n) s.clients ≡ None → ⊥
  client_there s n is none = go (is_client_value s n) refl is
    where
      handle : (o : Option (Handle Q QH P PH)) → option_map kind_of o ≡ Some kind.Client → ⊥
      handle None e = let f : None ≡ Some kind.Client = e in cc
      handle (Some h) e = let f : Some (kind_of h) ≡ Some kind.Client = e in let g : kind_of h ≡ kind.Client = cc in no_client h g

      server : (b : Bool) → cond b (Some kind.Server) (option_map kind_of (handle_at s n)) ≡ Some kind.Client → ⊥
      server true e = let f : Some kind.Server ≡ Some kind.Client = e in cc
      server false e = handle (handle_at s n) e

      go : (b : Bool) → is_client_value s n ≡ b → cond b (Some kind.Client)
          (cond (is_server_value s n) (Some kind.Server) (option_map kind_of (handle_at s n))) ≡ Some kind.Client → ⊥
      go true e _ =
          let g = any_gives (λ (c : Client K). c.id == n && c.has_value) s.clients e in
          let both = and_parts (g.1.id == n) g.1.has_value g.3 in
          false≢true (sym (found_none (λ (c : Client K). c.id == n) s.clients none g.0 g.1 g.2) ∙ both.0)
      go false e f = server (is_server_value s n) f

  -- where a number is a server's, there is one with it
  pub server_there : (s : State Q QH P PH K) (n : ℕ) → kind_at s n ≡ Some kind.Server → find (λ c. c.id == n) s.servers ≡ None → ⊥
  server_there s n is none = go (is_client_value s n) (is_server_value s n) refl is
    where
      no_server : (h : Handle Q QH P PH) → kind_of h ≡ kind.Server → ⊥
      no_server (RequestMutUninit m) e = let f : kind.RequestMutUninit ≡ kind.Server = e in cc
      no_server (RequestMut m) e = let f : kind.RequestMut ≡ kind.Server = e in cc
      no_server (PendingResponse m) e = let f : kind.PendingResponse ≡ kind.Server = e in cc
      no_server (ActiveRequest m) e = let f : kind.ActiveRequest ≡ kind.Server = e in cc
      no_server (ResponseMutUninit m) e = let f : kind.ResponseMutUninit ≡ kind.Server = e in cc
      no_server (ResponseMut m) e = let f : kind.ResponseMut ≡ kind.Server = e in cc
      no_server (Response m) e = let f : kind.Response ≡ kind.Server = e in cc

      handle : (o : Option (Handle Q QH P PH)) → option_map kind_of o ≡ Some kind.Server → ⊥
      handle None e = let f : None ≡ Some kind.Server = e in cc
      handle (Some h) e = let f : Some (kind_of h) ≡ Some kind.Server = e in let g : kind_of h ≡ kind.Server = cc in no_server h g

      go : (a b : Bool) → is_server_value s n ≡ b → cond a (Some kind.Client)
          (cond b (Some kind.Server) (option_map kind_of (handle_at s n))) ≡ Some kind.Server → ⊥
      go true b e f = let g : Some kind.Client ≡ Some kind.Server = f in cc
      go false true e f =
          let g = any_gives (λ (c : Server K). c.id == n && c.has_value) s.servers e in
          let both = and_parts (g.1.id == n) g.1.has_value g.3 in
          false≢true (sym (found_none (λ (c : Server K). c.id == n) s.servers none g.0 g.1 g.2) ∙ both.0)
      go false false e f = handle (handle_at s n) f
