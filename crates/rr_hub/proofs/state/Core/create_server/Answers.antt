use Rattle.rr_store.specs.Sound.{empty_hand}
use Rattle.rr_store.specs.Views.{state_of}
use Rattle.rr_store.specs.Opened.{opened}
use Rattle.rr_hub.proofs.laws.NextNumber.{next_names_nothing}
use Rattle.rr_hub.proofs.Unnamed.{by_server, no_server}
use Rattle.rr_hub.proofs.state.Core.create_server.Goals as goal

pub returns-clause-unnamed : goal.returns-clause-unnamed
returns-clause-unnamed g c =
    rw (← c.self.view_is) (by_server (state_of (opened c.self.inside.parts))
    (next_names_nothing (opened c.self.inside.parts) empty_hand c.self.invariant.sound) c.args.settings _ _ c.create_server.ensures.view)

pub returns-clause-unmade : goal.returns-clause-unmade
returns-clause-unmade g c =
    rw (← c.self.view_is) (no_server (state_of (opened c.self.inside.parts)) c.self.invariant.reached.ports.server_numbers
    c.args.settings _ _ c.create_server.ensures.view)
