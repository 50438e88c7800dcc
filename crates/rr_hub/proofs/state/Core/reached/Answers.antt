use Rattle.rr_store.specs.Opened.{opened}
use Rattle.rr_hub.proofs.laws.OfCore.{of_core}
use Rattle.rr_hub.proofs.state.Core.reached.Goals as goal

pub returns : goal.returns
returns g c = rw (← c.self.view_is) (of_core (opened c.self.inside.parts) c.self.invariant)
