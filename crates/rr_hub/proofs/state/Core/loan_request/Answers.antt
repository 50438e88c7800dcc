use Rattle.rr_store.specs.Sound.{empty_hand}
use Rattle.rr_store.specs.Views.{state_of}
use Rattle.rr_store.specs.Opened.{opened}
use Rattle.rr_hub.proofs.laws.NextNumber.{next_names_nothing}
use Rattle.rr_hub.proofs.Unnamed.{by_request}
use Rattle.rr_hub.proofs.state.Core.loan_request.Goals as goal

pub returns-clause-unnamed : goal.returns-clause-unnamed
returns-clause-unnamed g c =
    rw (← c.self.view_is) (by_request (state_of (opened c.self.inside.parts))
    (next_names_nothing (opened c.self.inside.parts) empty_hand c.self.invariant.sound) g.QH.Default.is_default c.args.client c.args.len _ _
    c.loan_request.ensures.loans)
