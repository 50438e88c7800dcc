use Rattle.rr_store.specs.Views.{no_request}
use Rattle.rr_hub.proofs.Looks.{active_asked, active_client}
use Rattle.rr_hub.proofs.state.Core.request_origin.Goals as goal

pub details-requires : goal.details-requires
details-requires g c = active_asked c.self.invariant c.self.view_is c.args.id.now c.look_up-entry.ensures c.requires

pub returns : goal.returns
returns g c =
    active_client c.self.invariant c.self.view_is c.args.id.now c.look_up-entry.ensures c.requires _ (c.details.ensures no_request)
