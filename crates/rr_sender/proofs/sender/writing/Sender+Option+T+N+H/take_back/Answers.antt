use Rattle.std.proofs.Common.{◌∙◌, sym}
use Rattle.rr_sender.proofs.SenderLaws.{has_holder, held_is, state-give_back, sound-give_back}
use Rattle.rr_sender.proofs.sender.writing.Sender+Option+T+N+H.take_back.Goals as goal

pub take_back-requires : goal.take_back-requires
take_back-requires g c = has_holder _ _ _ c.self.invariant _ (rw (← c.self.view_is) at c.requires)

pub invariant_of-self : goal.invariant_of-self
invariant_of-self g c = rw c.take_back.ensures.given (sound-give_back _ _ _ c.self.invariant _ (rw (← c.self.view_is) at c.requires))

pub returns-clause-given : goal.returns-clause-given
returns-clause-given g c =
    rw (← c.self.view_is, c.take_back.ensures.given) (state-give_back _ _ _ c.self.invariant _ (rw (← c.self.view_is) at c.requires))

pub returns-clause-taken : goal.returns-clause-taken
returns-clause-taken g c =
    rw (← c.self.view_is) (λ once. c.take_back.ensures.taken (sym (held_is _ _ _ c.self.invariant c.args.slot) ∙ once))
