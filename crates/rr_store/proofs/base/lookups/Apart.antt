-- A server's number is no handle's, and no client's.
use Rattle.std.proofs.Common.{◌≡◌, ℕ, Option, None, Some, true, false, find, option_map, refl, sym, ap, ◌∙◌}
use Rattle.std.specs.Prelude.{◌==◌, ◌||◌, is_some}
use Rattle.std.specs.List.{position}
use Rattle.std.proofs.lemmas.Bool.{eqb-true}
use Rattle.rr_protocol.specs.declared.kind.Kind.{Kind}
use Rattle.rr_protocol.specs.Messages.{Handle}
use Rattle.rr_protocol.specs.Queries.{kind_at}
use Rattle.rr_protocol.specs.State.{client_at, handle_at}
use Rattle.rr_laws.specs.Roles.{role_of}
use Rattle.rr_laws.proofs.RoleLaws.{role_at}
use Rattle.rr_store.specs.Parts.{ClientPart, Parts, ServerPart}
use Rattle.rr_store.specs.Reaching.{IsCore}
use Rattle.rr_store.specs.Views.{client_of, state_of}
use Rattle.rr_store.proofs.base.lists.Found.{found_passes, found_somewhere}
use Rattle.rr_store.proofs.base.lists.Replaced.{find_mapped, standing}
use Rattle.rr_store.proofs.base.lookups.Numbers.{server_there}

-- where neither is there, the second is not
neither : {A B : Type 0} (a : Option A) (b : Option B) → (is_some a || is_some b) ≡ false → b ≡ None
neither (Some x) b e = absurd (let f : true ≡ false = e in cc)
neither None (Some y) e = absurd (let f : true ≡ false = e in cc)
neither None None e = refl

module _ {Q QH P PH K : Type 0} (p : Parts Q QH P PH K) (core : IsCore p) (n : ℕ) where
  -- a server's number is no handle's
  pub no_handle : kind_at (state_of p) n ≡ Some Kind.Server → handle_at (state_of p) n ≡ None
  no_handle kind = go (handle_at (state_of p) n) refl
    where
      go : (o : Option (Handle Q QH P PH)) → handle_at (state_of p) n ≡ o → handle_at (state_of p) n ≡ None
      go None at = at
      go (Some h) at =
          absurd (server_there (state_of p) n kind
          (neither _ _ (core.reached.handles n (role_of h) (role_at (state_of p).handles n h at)).no_port))

  -- nor a client's
  pub no_client : (index : ℕ) → position (λ (s : ServerPart K). s.port.id == n) p.servers ≡ Some index
      → client_at (state_of p) n ≡ None
  no_client index told =
      find_mapped client_of (λ c. c.id == n) p.clients ∙ go (find (λ (c : ClientPart K). c.port.id == n) p.clients) refl
    where
      go : (o : Option (ClientPart K)) → find (λ (c : ClientPart K). c.port.id == n) p.clients ≡ o
          → option_map client_of (find (λ (c : ClientPart K). c.port.id == n) p.clients) ≡ None
      go None at = ap (option_map client_of) at
      go (Some c) at =
          let test = λ (c : ClientPart K). c.port.id == n in
          let there = found_somewhere test p.clients c at in
          let server = standing (λ (s : ServerPart K). s.port.id == n) p.servers index told in
          absurd (core.sound.have_ports.apart there.0 index c server.it there.1 server.at
          (eqb-true c.port.id n (found_passes test p.clients c at) ∙ sym (eqb-true server.it.port.id n server.passes)))
