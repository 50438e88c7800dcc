use Rattle.std.proofs.Common.{◌≡◌, None, Some, cond, refl, sym, ap, ◌∙◌}
use Rattle.rr_protocol.specs.declared.kind.Kind.TheVariants as kind
use Rattle.rr_protocol.specs.State.{is_client_value, is_server_value}
use Rattle.rr_store.specs.Opened.{opened}
use Rattle.rr_store.specs.Parts.{ClientPart, ServerPart}
use Rattle.rr_store.specs.Ports.{client_part, server_part}
use Rattle.rr_store.specs.Views.{state_of}
use Rattle.rr_store.proofs.base.lists.Seen.{kept_rising}
use Rattle.rr_store.proofs.base.lookups.Looking.{client_seen, server_seen}
use Rattle.rr_hub.proofs.queries.Naming.{clients_asked, servers_asked}
use Rattle.rr_hub.proofs.kinds.port_kind_of.Goals.{After-is_value, After-is_value-2}
use Rattle.rr_hub.proofs.kinds.port_kind_of.Goals as goal

pub is_value-requires : goal.is_value-requires
is_value-requires g c =
    kept_rising client_part c.args.store.now.clients.ports (λ (x : ClientPart _). x.port.id)
    (clients_asked (opened c.args.store.now) c.requires c.args.number)

pub is_value-requires-2 : goal.is_value-requires-2
is_value-requires-2 g c =
    kept_rising server_part c.args.store.now.servers.ports (λ (x : ServerPart _). x.port.id)
    (servers_asked (opened c.args.store.now) c.requires c.args.number)

-- what was found of the clients, and of the servers, is what contracts see
of_clients : (g : _) (c : After-is_value g) → is_client_value (state_of (opened c.args.store.now)) c.args.number ≡ c.is_value.result
of_clients g c =
    let ports = c.args.store.now.clients.ports in
    client_seen ports ports c.args.number c.is_value.result refl c.is_value.ensures

of_servers : (g : _) (c : After-is_value-2 g) → is_server_value (state_of (opened c.args.store.now)) c.args.number ≡ c.is_value-2.result
of_servers g c =
    let ports = c.args.store.now.servers.ports in
    server_seen ports ports c.args.number c.is_value-2.result refl c.is_value-2.ensures

pub returns-then-is_value : goal.returns-then-is_value
returns-then-is_value g c =
    let at = goal.at.returns-then-is_value g c in
    sym (ap (λ b. cond b (Some kind.Client) (cond (is_server_value (state_of (opened c.args.store.now)) c.args.number) (Some kind.Server)
    None)) (of_clients g at.After-is_value ∙ c.if-is_value.true))

pub returns-then-is_value-2 : goal.returns-then-is_value-2
returns-then-is_value-2 g c =
    let at = goal.at.returns-then-is_value-2 g c in
    sym (ap (λ b. cond b (Some kind.Client) (cond (is_server_value (state_of (opened c.args.store.now)) c.args.number) (Some kind.Server)
    None)) (of_clients g at.After-is_value ∙ c.if-is_value.false)
    ∙ ap (λ b. cond b (Some kind.Server) None) (of_servers g at.After-is_value-2 ∙ c.if-is_value-2.true))

pub returns : goal.returns
returns g c =
    let at = goal.at.returns g c in
    sym (ap (λ b. cond b (Some kind.Client) (cond (is_server_value (state_of (opened c.args.store.now)) c.args.number) (Some kind.Server)
    None)) (of_clients g at.After-is_value ∙ c.if-is_value.false)
    ∙ ap (λ b. cond b (Some kind.Server) None) (of_servers g at.After-is_value-2 ∙ c.if-is_value-2.false))
