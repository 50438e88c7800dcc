use Rattle.std.proofs.Common.{sym, ◌∙◌}
use Rattle.rr_sender.proofs.LeavingLaws.{hand_over-open, hand_over-refused, hand_over-full}
use Rattle.rr_sender.proofs.sender.Sender.hand_over.Goals as goal

pub returns-then-overflow : goal.returns-then-overflow
returns-then-overflow g c =
    rw (c.append.ensures, c.drop_first.ensures, c.if-overflow.true)
    (hand_over-full c.args.self.now _ _ c.requires.receiver c.requires.channel _ c.requires.held
    (sym c.is_full.ensures.full ∙ c.if-is_full.true))

pub returns-else-is_full : goal.returns-else-is_full
returns-else-is_full g c =
    rw c.append-else-is_full.ensures
    (hand_over-open c.args.self.now _ _ c.requires.receiver c.requires.channel _ c.requires.held c.args.overflow
    (sym c.is_full.ensures.full ∙ c.if-is_full.false))

pub returns-else-overflow : goal.returns-else-overflow
returns-else-overflow g c =
    rw (c.give_back.ensures, c.if-overflow.false)
    (hand_over-refused c.args.self.now _ _ c.requires.receiver c.requires.channel _ c.requires.held
    (sym c.is_full.ensures.full ∙ c.if-is_full.true))
