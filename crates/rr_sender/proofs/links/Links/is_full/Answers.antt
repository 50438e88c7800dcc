use Rattle.rr_sender.proofs.LinkLaws.{all_within}
use Rattle.rr_sender.proofs.links.Links.is_full.Goals as goal

pub returns-clause-within : goal.returns-clause-within
returns-clause-within c = rw (← c.self.view_is) (all_within _ _ c.self.invariant)
