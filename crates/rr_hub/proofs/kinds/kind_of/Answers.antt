use Rattle.rr_store.specs.Opened.{opened}
use Rattle.rr_hub.proofs.queries.Naming.{handle_then}
use Rattle.rr_hub.proofs.kinds.kind_of.Goals as goal

pub at-requires : goal.at-requires
at-requires g c = c.is_at.ensures.there c.if-is_at.true

pub returns-then-is_at : goal.returns-then-is_at
returns-then-is_at g c =
    handle_then (opened c.args.store.now) c.requires c.args.number c.args.place _ c.at.ensures _ c.stage_kind.ensures
