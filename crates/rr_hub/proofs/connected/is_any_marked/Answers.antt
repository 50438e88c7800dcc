use Rattle.std.proofs.Common.{◌≡◌, ◌<◌, ◌+◌, ℕ, List, false, length, get_or, sym, ap, ◌∙◌, arith}
use Rattle.std.specs.Prelude.{◌==◌}
use Rattle.std.proofs.lemmas.Bool.{eq-eqb, ne_eqb}
use Rattle.std.proofs.lemmas.List.{get_or_default}
use Rattle.std.proofs.lemmas.List.Folds.{list_any_at}
use Rattle.std.proofs.lemmas.Option.{slice_get_within}
use Rattle.rr_store.proofs.querying.Connected.{none_pass}
use Rattle.rr_store.proofs.base.lists.ReadAt.{item_at, one_further}
use Rattle.rr_store.specs.Views.{no_server}
use Rattle.rr_hub.proofs.connected.is_any_marked.Goals as goal

pub returns : goal.returns
returns g c =
    sym (none_pass _ c.args.servers.now
    (λ i s at. c.loop-server.invariant i s (omega (arith, slice_get_within c.args.servers.now i s at, c.loop-server-test.false)) at))

-- a mark within the list
mark_is : (marks : List ℕ) (i server : ℕ) → i < length marks → (get_or marks i no_server == server) ≡ (get_or marks i 0 == server)
mark_is marks i server within = ap (λ m. m == server) (get_or_default marks i no_server 0 within)

pub returns-then-marks-start : goal.returns-then-marks-start
returns-then-marks-start g c =
    let servers = c.args.servers.now in
    let server = c.server-item.result in
    let at = item_at servers c.loop-server.server-index server c.loop-server-test.true c.server-item.is in
    sym (list_any_at (λ s. get_or c.args.marks.now (c.args.start + s.port.receiver) no_server == s.port.id) servers
    c.loop-server.server-index server c.loop-server-test.true
    (ap (λ s. get_or c.args.marks.now (c.args.start + s.port.receiver) no_server == s.port.id) (sym c.server-item.is)
    ∙ mark_is c.args.marks.now (c.args.start + server.port.receiver) server.port.id (c.requires c.loop-server.server-index server at)
    ∙ eq-eqb _ server.port.id c.if-marks-start.true))

pub loop-server-preserved : goal.loop-server-preserved
loop-server-preserved g c =
    let servers = c.args.servers.now in
    let server = c.server-item.result in
    let at = item_at servers c.loop-server.server-index server c.loop-server-test.true c.server-item.is in
    one_further (λ s. (get_or c.args.marks.now (c.args.start + s.port.receiver) no_server == s.port.id) ≡ false) servers
    c.loop-server.server-index c.loop-server.invariant server at
    (mark_is c.args.marks.now (c.args.start + server.port.receiver) server.port.id (c.requires c.loop-server.server-index server at)
    ∙ ne_eqb _ server.port.id c.if-marks-start.false)

pub overflow_add-start : goal.overflow_add-start
overflow_add-start g c =
    omega (
      arith,
      c.requires c.loop-server.server-index c.server-item.result
          (item_at c.args.servers.now c.loop-server.server-index c.server-item.result c.loop-server-test.true c.server-item.is),
    )

pub bounds-marks-start : goal.bounds-marks-start
bounds-marks-start g c =
    omega (
      arith,
      c.requires c.loop-server.server-index c.server-item.result
          (item_at c.args.servers.now c.loop-server.server-index c.server-item.result c.loop-server-test.true c.server-item.is),
    )
