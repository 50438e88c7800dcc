use Rattle.std.proofs.Common.{◌<◌, ◌+◌, ◌*◌, ℕ, List, length, refl, sym, ap, ◌∙◌, subst}
use Rattle.std.specs.Prelude.{slice_get}
use Rattle.rr_store.specs.declared.port.ServerPort.{ServerPort}
use Rattle.rr_store.specs.Opened.{opened}
use Rattle.rr_store.specs.Ports.{server_part}
use Rattle.rr_store.proofs.base.views.Counts.{listed}
use Rattle.rr_store.proofs.querying.Connected.{waiting_seen}
use Rattle.rr_hub.proofs.connected.is_answerable.Goals as goal

pub is_any_marked-requires : goal.is_any_marked-requires
is_any_marked-requires g c i s it =
    let ports = c.args.store.now.servers.ports in
    subst (λ (ms : List ℕ). c.args.slot * c.args.store.now.limits.max_servers + s.port.receiver < length ms)
    (sym c.marks.ensures)
    (c.requires.marks i (server_part s) (listed server_part ports i s
    (ap (λ (xs : List (ServerPort _)). slice_get xs i) (sym c.connected.ensures) ∙ it)))

pub returns : goal.returns
returns g c =
    c.is_any_marked.ensures
    ∙ waiting_seen (opened c.args.store.now) c.args.sender c.args.slot c.args.store.now.servers.ports c.connected.result.now
    c.marks.result.now refl c.connected.ensures (sym c.marks.ensures)
