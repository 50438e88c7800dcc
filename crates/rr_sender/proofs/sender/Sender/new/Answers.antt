use Rattle.rr_sender.proofs.HeldLaws.{held-free}
use Rattle.rr_sender.proofs.SenderLaws.{sound-new}
use Rattle.rr_sender.proofs.sender.Sender.new.Goals as goal

pub invariant_of-result : goal.invariant_of-result
invariant_of-result g c = rw (c.in_ok-new.ensures, c.in_ok-new-2.ensures) (sound-new _ _ _ _ _ _ c.in_ok-heads.ensures.len)

pub returns-clause-held : goal.returns-clause-held
returns-clause-held g c = rw c.in_ok-new.ensures (held-free c.args.size.slots c.in_ok-new-2.field-0.queues)
