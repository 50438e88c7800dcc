use Rattle.std.proofs.Common.{sym, ap, ◌∙◌}
use Rattle.rr_protocol.specs.Queries.{kind_at}
use Rattle.rr_store.specs.Sound.{empty_hand}
use Rattle.rr_store.specs.Opened.{opened}
use Rattle.rr_hub.proofs.laws.NextNumber.{next_names_nothing}
use Rattle.rr_hub.proofs.state.Core.next_number.Goals as goal

pub returns-clause-free : goal.returns-clause-free
returns-clause-free g c =
    sym (ap (λ s. kind_at s c.self.inside.parts.next) c.self.view_is)
    ∙ next_names_nothing (opened c.self.inside.parts) empty_hand c.self.invariant.sound
