use Rattle.std.proofs.Common.{arith, sym, ◌∙◌}
use Rattle.rr_sender.proofs.StateLaws.{uses_less}
use Rattle.rr_sender.proofs.LeavingLaws.{put-open, put-refused, put-full}
use Rattle.rr_sender.proofs.sender.Sender.put.Goals as goal

pub enter-requires-then-overflow-clause-fits : goal.enter-requires-then-overflow-clause-fits
enter-requires-then-overflow-clause-fits g c = rw c.drop_first.ensures
    (omega (arith, c.requires.fits, uses_less c.args.self.now _ _ c.requires.receiver c.requires.channel c.args.slot 1))

pub returns-then-overflow : goal.returns-then-overflow
returns-then-overflow g c =
    rw (c.enter-then-overflow.ensures, c.drop_first.ensures, c.if-overflow.true)
    (put-full c.args.self.now _ _ c.requires.receiver c.requires.channel _ c.requires.held
    (sym c.is_full.ensures.full ∙ c.if-not-is_full.false))

pub returns-then-not-is_full : goal.returns-then-not-is_full
returns-then-not-is_full g c =
    rw c.enter.ensures
    (put-open c.args.self.now _ _ c.requires.receiver c.requires.channel _ c.requires.held c.args.overflow
    (sym c.is_full.ensures.full ∙ c.if-not-is_full.true))

pub returns-else-overflow : goal.returns-else-overflow
returns-else-overflow g c =
    rw c.if-overflow.false
    (put-refused c.args.self.now _ _ c.requires.receiver c.requires.channel _ c.requires.held
    (sym c.is_full.ensures.full ∙ c.if-not-is_full.false))
