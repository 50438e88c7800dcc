use Rattle.rr_shared_ports.proofs.Words.{goes_on}
use Rattle.rr_shared_ports.proofs.typed.exchange.Claimed+N+Server+Option+U.serve.Goals as goal

pub returns-in-Ok-answer_with-clause-seen : goal.returns-in-Ok-answer_with-clause-seen
returns-in-Ok-answer_with-clause-seen g c = goes_on _ _ _ _ _ c.answer_with.ensures.2 c.receive_wait.ensures.seen

pub returns-in-Err-answer_with-clause-seen : goal.returns-in-Err-answer_with-clause-seen
returns-in-Err-answer_with-clause-seen g c = goes_on _ _ _ _ _ c.answer_with.ensures.2 c.receive_wait.ensures.seen
