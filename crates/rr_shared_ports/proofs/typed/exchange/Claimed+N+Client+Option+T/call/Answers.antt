use Rattle.rr_shared_ports.proofs.Words.{append-nil, [], goes_on}
use Rattle.rr_shared_ports.proofs.typed.exchange.Claimed+N+Client+Option+T.call.Goals as goal

pub returns-in-Err-clause-seen : goal.returns-in-Err-clause-seen
returns-in-Err-clause-seen g c = goes_on _ _ _ _ _ c.send_copy.ensures.2 ([], append-nil _)
