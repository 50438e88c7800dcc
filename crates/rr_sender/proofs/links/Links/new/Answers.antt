use Rattle.rr_sender.proofs.LinkLaws.{links-empty}
use Rattle.rr_sender.proofs.links.Links.new.Goals as goal

pub returns : goal.returns
returns c = links-empty _ _ _ _ c.in_ok-links.ensures.len c.in_ok-links.ensures.connections c.in_ok-links.ensures.borrowed
