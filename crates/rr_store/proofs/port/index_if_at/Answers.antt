use Rattle.std.proofs.Common.{sym, ◌∙◌}
use Rattle.std.proofs.lemmas.Bool.{ltb-true}
use Rattle.rr_store.proofs.base.lists.Bisected.{between_found}
use Rattle.rr_store.proofs.port.index_if_at.Goals as goal

pub returns-then-details-id : goal.returns-then-details-id
returns-then-details-id g c =
    between_found g.P.ConnectedPort.id c.args.ports.now c.args.id c.requires _ c.in-Some.port.now
    (ltb-true c.args.index _ (sym c.in-Some.ensures.lookup.0)) c.in-Some.ensures.lookup.1 (sym c.details.ensures.id ∙ c.if-details-id.true)
