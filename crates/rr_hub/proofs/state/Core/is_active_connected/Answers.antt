use Rattle.rr_store.specs.Views.{no_request}
use Rattle.rr_hub.proofs.Looks.{active_asked}
use Rattle.rr_hub.proofs.queries.Active.{some_then, none_then}
use Rattle.rr_hub.proofs.state.Core.is_active_connected.Goals as goal

pub details-details-requires : goal.details-details-requires
details-details-requires g c = active_asked c.self.invariant c.self.view_is c.args.id.now c.look_up-entry.ensures c.requires

pub own_place-own-requires : goal.own_place-own-requires
own_place-own-requires g c =
    (active_asked c.self.invariant c.self.view_is c.args.id.now c.look_up-entry.ensures c.requires).sender

pub returns-in-Some : goal.returns-in-Some
returns-in-Some g c =
    rw (← c.self.view_is) (some_then _ c.self.invariant _ _ _
    c.look_up-entry.ensures.1 (rw (← c.self.view_is) at c.requires) _
    (c.details-details.ensures no_request) _ c.own_place-own.ensures _ c.get_at.ensures _ c.in-Some.is _ c.is_pending.ensures)

pub returns-in-None : goal.returns-in-None
returns-in-None g c =
    rw (← c.self.view_is) (none_then _ c.self.invariant _ _ _
    c.look_up-entry.ensures.1 (rw (← c.self.view_is) at c.requires) _
    (c.details-details.ensures no_request) _ c.own_place-own.ensures _ c.get_at.ensures c.in-None.is)
