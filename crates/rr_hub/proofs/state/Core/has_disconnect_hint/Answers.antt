use Rattle.rr_store.specs.Opened.{opened}
use Rattle.rr_store.specs.Views.{no_request}
use Rattle.rr_hub.proofs.queries.Active.{sender_asked, slot_asked, hint_some_then, hint_none_then}
use Rattle.rr_hub.proofs.state.Core.has_disconnect_hint.Goals as goal

pub details-details-requires-clause-sender : goal.details-details-requires-clause-sender
details-details-requires-clause-sender g c =
    sender_asked (opened c.self.inside.parts) c.self.invariant _ _ _ c.look_up-entry.ensures.1
    (rw (← c.self.view_is) at c.requires)

pub details-details-requires-clause-slot : goal.details-details-requires-clause-slot
details-details-requires-clause-slot g c =
    slot_asked (opened c.self.inside.parts) c.self.invariant _ _ _ c.look_up-entry.ensures.1
    (rw (← c.self.view_is) at c.requires)

pub own_place-own-requires : goal.own_place-own-requires
own_place-own-requires g c =
    sender_asked (opened c.self.inside.parts) c.self.invariant _ _ _ c.look_up-entry.ensures.1
    (rw (← c.self.view_is) at c.requires)

pub returns-in-Some : goal.returns-in-Some
returns-in-Some g c =
    rw (← c.self.view_is) (hint_some_then (opened c.self.inside.parts) c.self.invariant _ _ _ c.look_up-entry.ensures.1
    (rw (← c.self.view_is) at c.requires) _
    (c.details-details.ensures no_request) _ c.own_place-own.ensures _ c.get_at.ensures _ c.in-Some.is _ c.has_hint.ensures)

pub returns-in-None : goal.returns-in-None
returns-in-None g c =
    rw (← c.self.view_is) (hint_none_then (opened c.self.inside.parts) c.self.invariant _ _ _ c.look_up-entry.ensures.1
    (rw (← c.self.view_is) at c.requires) _
    (c.details-details.ensures no_request) _ c.own_place-own.ensures _ c.get_at.ensures c.in-None.is)
