use Rattle.rr_store.specs.Views.{no_response}
use Rattle.rr_hub.proofs.Looks.{came_asked, came_server}
use Rattle.rr_hub.proofs.state.Core.response_origin.Goals as goal

pub details-requires : goal.details-requires
details-requires g c = came_asked c.self.invariant c.self.view_is c.args.id.now c.look_up-entry.ensures c.requires

pub returns : goal.returns
returns g c =
    came_server c.self.invariant c.self.view_is c.args.id.now c.look_up-entry.ensures c.requires _ (c.details.ensures no_response)
