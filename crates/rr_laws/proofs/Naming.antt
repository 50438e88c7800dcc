-- What a number names in a reached state: a handle's number names that handle, and a response that is received had no name.
use Rattle.std.proofs.Common.{◌≡◌, ℕ, Bool, true, false, ◌&&◌, eqb, Some, None, option_map, Ok, refl, sym, ap, ◌∙◌, subst}
use Rattle.std.specs.Prelude.{◌||◌}
use Rattle.std.specs.List.{AllByRecursion}
use Rattle.rr_protocol.specs.Ports.{Client, Server}
use Rattle.rr_protocol.specs.Messages.{Handle, response_key}
use Rattle.rr_protocol.specs.Queries.{kind_of, kind_at}
use Rattle.rr_protocol.specs.Receives.{ReceivesResponse}
use Rattle.rr_protocol.specs.State.{State, handle_at, pending_at, is_client_value, is_server_value}
use Rattle.rr_laws.specs.Roles.{role_of, roles_of}
use Rattle.rr_laws.specs.Reached.{has_client, has_server, is_port, ResponseFits, IsReached}
use Rattle.rr_table.proofs.ListFacts.{any_found, any_weaker}
use Rattle.rr_laws.proofs.Connected.{not_both}
use Rattle.rr_laws.proofs.Counts.{and_first}
use Rattle.rr_laws.proofs.Opening.{some_and}
use Rattle.rr_laws.proofs.RoleLaws.{role_at}

module _ {Q QH P PH K : Type 0} (s : State Q QH P PH K) where
  -- a client whose value lives is connected
  pub client_value_connected : (n : ℕ) → is_client_value s n ≡ true → has_client s.clients n ≡ true
  client_value_connected n held =
      any_found (λ (c : Client K). eqb c.id n) s.clients
      ∙ any_weaker (λ (c : Client K). eqb c.id n && c.has_value) (λ c. eqb c.id n)
      (λ c h. and_first (eqb c.id n) c.has_value h) s.clients held

  -- so is such a server
  pub server_value_connected : (n : ℕ) → is_server_value s n ≡ true → has_server s.servers n ≡ true
  server_value_connected n held =
      any_found (λ (c : Server K). eqb c.id n) s.servers
      ∙ any_weaker (λ (c : Server K). eqb c.id n && c.has_value) (λ c. eqb c.id n)
      (λ c h. and_first (eqb c.id n) c.has_value h) s.servers held

  -- a number that is no port's names what handle stands under it
  pub kind_of_no_port : (n : ℕ) → is_port s.clients s.servers n ≡ false → kind_at s n ≡ option_map kind_of (handle_at s n)
  kind_of_no_port n no_port = go (has_client s.clients n) (has_server s.servers n) refl refl no_port
    where
      ports : is_client_value s n ≡ false → is_server_value s n ≡ false → kind_at s n ≡ option_map kind_of (handle_at s n)
      ports a b = rw (a, b)

      go : (client server : Bool) → has_client s.clients n ≡ client → has_server s.servers n ≡ server → (client || server) ≡ false
          → kind_at s n ≡ option_map kind_of (handle_at s n)
      go false false e d h =
          ports
          (not_both _ (λ held. absurd (let t : true ≡ false = sym (client_value_connected n held) ∙ e in cc)))
          (not_both _ (λ held. absurd (let t : true ≡ false = sym (server_value_connected n held) ∙ d in cc)))
      go false true e d h = absurd (cc)
      go true server e d h = absurd (cc)

  module _ (fits : IsReached s) where
    -- a handle's number names that handle
    pub handle_named : (n : ℕ) (h : Handle Q QH P PH) → handle_at s n ≡ Some h → kind_at s n ≡ Some (kind_of h)
    handle_named n h at =
        kind_of_no_port n (fits.handles n (role_of h) (role_at s.handles n h at)).no_port ∙ ap (option_map kind_of) at

    -- the number of a response that is received names nothing before, if no handle stands under it
    pub received_names_nothing : (n number : ℕ) (new : State Q QH P PH K) → ReceivesResponse s n (Ok (Some number)) new
        → handle_at s number ≡ None → kind_at s number ≡ None
    received_names_nothing n number new receives none =
        let o = some_and (pending_at s n) _ receives in
        let r = o.2 in
        let key = response_key o.0 r.0 in
        let f = (subst (AllByRecursion (ResponseFits s.clients s.servers (roles_of s.handles) s.next key)) r.3.1.1
        (fits.response_lists.each key)).0 in
        kind_of_no_port number (ap (is_port s.clients s.servers) r.4 ∙ f.no_port) ∙ ap (option_map kind_of) none
