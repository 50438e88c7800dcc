-- The number that is given next names nothing.
use Rattle.std.proofs.Common.{◌≡◌, ◌<◌, ℕ, Bool, false, List, None, Some, map, sym, ap, ◌∙◌, option_map, arith}
use Rattle.std.specs.Prelude.{◌&&◌, ◌==◌, slice_get}
use Rattle.std.proofs.lemmas.Bool.{ne_eqb}
use Rattle.std.proofs.lemmas.Option.{slice_get-map}
use Rattle.rr_protocol.specs.Queries.{kind_of, kind_at}
use Rattle.rr_protocol.specs.State.{is_client_value, is_server_value}
use Rattle.rr_store.specs.Parts.{Parts, Connected, Sender}
use Rattle.rr_store.specs.Views.{client_of, server_of, handle_of, state_of}
use Rattle.rr_store.specs.Sound.{Hand, HasSenders, IsSoundStore}
use Rattle.rr_store.proofs.querying.Connected.{none_pass}
use Rattle.rr_store.proofs.base.lookups.Looking.{list_any-map, handle_at-state_of, kind_handle}

-- a port was given its number
id_below : {T N H K : Type 0} (next ports : ℕ) (connected : List (Connected K)) (senders : List (Sender T N H))
    → HasSenders next ports connected senders
    → (i : ℕ) (c : Connected K) → slice_get connected i ≡ Some c → c.port.id < next
id_below next ports connected senders has i c at =
    let own = has.own i c at in
    omega (arith, has.numbered c.sender own.0, own.1)

-- so it hasn't the next one
other_number : (id next : ℕ) (held : Bool) → id < next → (id == next && held) ≡ false
other_number id next held below = ap (λ b. b && held) (ne_eqb id next (λ e. omega (arith, e, below)))

module _ {Q QH P PH K : Type 0} (p : Parts Q QH P PH K) (hand : Hand) (sound : IsSoundStore p hand) where
  no_client : is_client_value (state_of p) p.next ≡ false
  no_client =
      list_any-map client_of (λ c. c.id == p.next && c.has_value) p.clients
      ∙ none_pass (λ c. c.port.id == p.next && c.port.has_value) p.clients
      (λ i c at. other_number c.port.id p.next c.port.has_value
      (id_below p.next p.limits.max_clients (map (λ c. c.connected) p.clients) p.client_senders sound.client_ports i c.connected
      (slice_get-map (λ c. c.connected) p.clients i ∙ ap (option_map (λ c. c.connected)) at)))

  no_server : is_server_value (state_of p) p.next ≡ false
  no_server =
      list_any-map server_of (λ c. c.id == p.next && c.has_value) p.servers
      ∙ none_pass (λ c. c.port.id == p.next && c.port.has_value) p.servers
      (λ i c at. other_number c.port.id p.next c.port.has_value
      (id_below p.next p.limits.max_servers (map (λ c. c.connected) p.servers) p.server_senders sound.server_ports i c.connected
      (slice_get-map (λ c. c.connected) p.servers i ∙ ap (option_map (λ c. c.connected)) at)))

  pub next_names_nothing : kind_at (state_of p) p.next ≡ None
  next_names_nothing =
      sym (kind_handle (state_of p) p.next no_client no_server)
      ∙ ap (option_map kind_of) (handle_at-state_of p p.next ∙ ap (option_map (handle_of p)) (sound.numbered.fresh p.next (omega arith)))
