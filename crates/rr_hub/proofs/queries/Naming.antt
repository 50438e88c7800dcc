-- What a number names is looked for in a place, among the ports and among all handles.
use Rattle.std.proofs.Common.{◌≡◌, ℕ, Bool, true, false, Option, None, Some, refl, sym, ap, ◌∙◌}
use Rattle.std.specs.Prelude.{if◌then◌else◌, option_map}
use Rattle.std.specs.FinMap as fin_map
use Rattle.rr_table.specs.TableView.{TableEntry, table_entry}
use Rattle.rr_table.specs.declared.place.Place.{Place}
use Rattle.rr_protocol.specs.declared.kind.Kind.{Kind}
use Rattle.rr_protocol.specs.Queries.{kind_at, kind_of}
use Rattle.rr_protocol.specs.State.{is_client_value, is_server_value}
use Rattle.rr_store.specs.declared.handle_entry.HandleEntry.{HandleEntry}
use Rattle.rr_store.specs.Kinds.{stage_kind}
use Rattle.rr_store.specs.Order.{IsRising}
use Rattle.rr_store.specs.Parts.{ClientPart, Parts, ServerPart}
use Rattle.rr_store.specs.Reaching.{IsCore}
use Rattle.rr_store.specs.Sound.{empty_hand}
use Rattle.rr_store.specs.Views.{state_of}
use Rattle.rr_laws.proofs.Naming.{handle_named}
use Rattle.rr_store.proofs.base.lookups.Looking.{kind-handle_in, kind_client, kind_handle, kind_server, nothing_shown, shown}
use Rattle.rr_store.proofs.base.lookups.Placed.{found_none, value_there}
use Rattle.rr_store.proofs.base.senders.Owners.{clients_rise, servers_rise}

module _ {Q QH P PH K : Type 0} (p : Parts Q QH P PH K) (core : IsCore p) (n : ℕ) where
  -- ports stand in the order of their numbers
  pub clients_asked : IsRising (λ (c : ClientPart K). c.port.id) p.clients
  clients_asked = clients_rise p empty_hand core.sound

  pub servers_asked : IsRising (λ (s : ServerPart K). s.port.id) p.servers
  servers_asked = servers_rise p empty_hand core.sound

  -- the number names a handle
  pub handle_then : (place : Place) (entry : HandleEntry) → fin_map.get p.table.entries n ≡ Some (table_entry place entry)
      → (kind : Kind) → kind ≡ stage_kind entry.stage → Some kind ≡ kind_at (state_of p) n
  handle_then place entry at kind tells =
      ap Some (tells ∙ sym (kind-handle_in p entry.stage entry.sender entry.slot))
      ∙ sym (handle_named (state_of p) core.reached n _ (shown p n entry (value_there p.table n place entry at)))

  -- what the search among ports returns, in terms of whether the number names a client or a server
  abbrev pub port_kind : Bool → Bool → Option Kind
  port_kind client server = if client then Some Kind.Client else if server then Some Kind.Server else None

  -- the number names a port
  pub port_then : (found : Option Kind) → found ≡ port_kind (is_client_value (state_of p) n) (is_server_value (state_of p) n)
      → (kind : Kind) → found ≡ Some kind → Some kind ≡ kind_at (state_of p) n
  port_then found looked kind is = go (is_client_value (state_of p) n) (is_server_value (state_of p) n) refl refl (sym is ∙ looked)
    where
      go : (client server : Bool) → is_client_value (state_of p) n ≡ client → is_server_value (state_of p) n ≡ server
          → Some kind ≡ port_kind client server → Some kind ≡ kind_at (state_of p) n
      go true server e f named = named ∙ kind_client (state_of p) n e
      go false true e f named = named ∙ kind_server (state_of p) n e f
      go false false e f named = absurd (cc)

  -- the number names nothing
  pub none_then : (found : Option Kind) → found ≡ port_kind (is_client_value (state_of p) n) (is_server_value (state_of p) n)
      → found ≡ None → (at : Option Place) → at ≡ option_map (λ (s : TableEntry HandleEntry). s.place) (fin_map.get p.table.entries n)
      → at ≡ None → None ≡ kind_at (state_of p) n
  none_then found looked none at walked nowhere =
      go (is_client_value (state_of p) n) (is_server_value (state_of p) n) refl refl (sym none ∙ looked)
    where
      go : (client server : Bool) → is_client_value (state_of p) n ≡ client → is_server_value (state_of p) n ≡ server
          → None ≡ port_kind client server → None ≡ kind_at (state_of p) n
      go true server e f unnamed = absurd (cc)
      go false true e f unnamed = absurd (cc)
      go false false e f unnamed =
          sym (ap (option_map kind_of) (nothing_shown p n (found_none p.table n (sym walked ∙ nowhere)))) ∙ kind_handle (state_of p) n e f
