use Rattle.rr_store.specs.Opened.{opened}
use Rattle.rr_hub.proofs.queries.Naming.{handle_then, none_then, port_then}
use Rattle.rr_store.proofs.base.lookups.Placed.{found_at}
use Rattle.std.proofs.Common.{sym, ◌∙◌}
use Rattle.rr_hub.proofs.kinds.kind_elsewhere.Goals as goal

pub returns-in-Some : goal.returns-in-Some
returns-in-Some g c =
    port_then (opened c.args.store.now) c.requires c.args.number _ c.port_kind_of.ensures _ c.in-Some.is

pub at-requires : goal.at-requires
at-requires g c =
    found_at (opened c.args.store.now).table c.args.number c.in-Some-find.place (sym c.find.ensures ∙ c.in-Some-find.is)

pub returns-in-Some-find : goal.returns-in-Some-find
returns-in-Some-find g c =
    handle_then (opened c.args.store.now) c.requires c.args.number c.in-Some-find.place _ c.at.ensures _
    c.stage_kind.ensures

pub returns-in-None : goal.returns-in-None
returns-in-None g c =
    none_then (opened c.args.store.now) c.requires c.args.number _ c.port_kind_of.ensures c.in_default.is _ c.find.ensures c.in-None.is
